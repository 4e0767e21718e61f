-- What holds after work, and at each moment in which the power may fail in it.
-- Assumes nothing.
use Rattle.std.specs.Prelude.{◌⊎◌, ℕ, ◌<◌}
use Rattle.device.specs.Lines.{Lines, fresh_lines, seen, stored, pushed_back, fenced, Left, Work, yields, load, store, push, fence, Worked, Partly, Within, Engine, Sense}
use Rattle.device.specs.Does.{bind}

-- Safe N Q R w m: the work w, from m on, stays within N lines; R holds at each moment, and Q of what it yields and leaves
pub data Safe {A : Type 0} (N : ℕ) (Q : A → Lines → Type 0) (R : Lines → Type 0) : Work A → Lines → Type 0 where
  s_end : {a : A} {m : Lines} → R m → Q a m → Safe N Q R (yields a) m
  s_load : {l k : ℕ} {f : ℕ → Work A} {m : Lines} → R m → l < N → k < 8 → Safe N Q R (f (seen m l k)) m → Safe N Q R (load l k f) m
  s_store : {l k v : ℕ} {p : Work A} {m : Lines} → R m → l < N → k < 8 → v < 18446744073709551616 → Safe N Q R p (stored l k v m) → Safe N Q R (store l k v p) m
  s_push : {l : ℕ} {p : Work A} {m : Lines} → R m → l < N → Safe N Q R p (pushed_back l m) → Safe N Q R (push l p) m
  s_fence : {p : Work A} {m : Lines} → R m → Safe N Q R p (fenced m) → Safe N Q R (fence p) m

-- the same by the given words: within the lines, R wherever it may stop, Q where it ends
abbrev pub Safely : {A : Type 0} (N : ℕ) (Q : A → Lines → Type 0) (R : Lines → Type 0) → Work A → Lines → Type 0
Safely {A} N Q R w m = Within N w m × ((n : Lines) → Partly w m n → R n) × ((a : A) (n : Lines) → Worked w m a n → Q a n)

abbrev pub SafeMeans : {A : Type 0} (Q : A → Lines → Type 0) (R : Lines → Type 0) → Type 0
SafeMeans {A} Q R = (N : ℕ) (w : Work A) (m : Lines) → (Safe N Q R w m → Safely N Q R w m) × (Safely N Q R w m → Safe N Q R w m)

-- safe work, of which each end is the start of safe work, is safe as a whole
abbrev pub SafeBinds : (A : Type 0) {B : Type 0} (Q : B → Lines → Type 0) (R : Lines → Type 0) → Type 0
SafeBinds A {B} Q R =
    (N : ℕ) (w : Work A) (k : A → Work B) (m : Lines) → Safe N (λ a n. Safe N Q R (k a) n) R w m → Safe N Q R (bind w k) m

-- An engine on N lines with what it keeps true. Dark s m: the lines m, without power, stand for the state s; Light s x m: the same with a mind x.
pub record Kept {C R : Type 0} (N : ℕ) (e : Engine C R) (j : Sense C R) (Dark : j.State → Lines → Type 0) (Light : j.State → e.Mind → Lines → Type 0) : Type 0 where
  pub starts : Dark j.start fresh_lines
  pub rising : (s : j.State) (m : Lines) → Dark s m
      → Safe N (λ x n. Light s x n) (λ n. (o : Lines) → Left n o → Dark (j.after s) o) (e.rises N) m
  pub resting : (s : j.State) (x : e.Mind) (m o : Lines) → Light s x m → Left m o → Dark (j.after s) o
  pub doing : (c : C) (s : j.State) (x : e.Mind) (m : Lines) → Light s x m
      → Safe N (λ y n. (t : j.State) × j.May c s y.reply t × Light t y.mind n)
      (λ n. (o : Lines) → Left n o → Dark (j.after s) o ⊎ ((t : j.State) × (r : R) × j.May c s r t × Dark (j.after t) o)) (e.does c x) m
