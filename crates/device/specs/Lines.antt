-- Memory that lasts, in lines of eight words, behind a cache that may write a line back at any time.
-- What code does with such memory, what may have reached it when the power fails, and when an engine built on it makes sense.
-- Assumes nothing.
use Rattle.std.specs.Prelude.{◌≡◌, cond, ℕ, zero, suc, ◌<◌, ◌≤◌, eqb, length}
use mathlib.Core.List.{List, [], ◌∷◌, ◌++◌}

-- One line, of eight words of 64 bits. lasts: what has surely reached the memory; since: the stores to it since then, oldest first;
-- pushed: how many of these the code has told the cache to write back.
pub record Line : Type 0 where
  pub lasts : ℕ → ℕ
  pub since : List (record { word : ℕ; value : ℕ })
  pub pushed : ℕ

abbrev pub Lines : Type 0
Lines = ℕ → Line

-- a new memory: all words are 0
abbrev pub fresh_lines : Lines
fresh_lines l = record { lasts = λ k. 0; since = []; pushed = 0 }

-- the words after these stores
unfoldable pub applied : List (record { word : ℕ; value : ℕ }) → (ℕ → ℕ) → ℕ → ℕ
applied [] f k = f k
applied (x ∷ xs) f k = applied xs (λ j. cond (eqb j x.word) x.value (f j)) k

-- the first n, or all where there are fewer
unfoldable pub first_of : {A : Type 0} → ℕ → List A → List A
first_of zero xs = []
first_of (suc n) [] = []
first_of (suc n) (x ∷ xs) = x ∷ first_of n xs

-- all but the first n
unfoldable pub drop_of : {A : Type 0} → ℕ → List A → List A
drop_of zero xs = xs
drop_of (suc n) [] = []
drop_of (suc n) (x ∷ xs) = drop_of n xs

-- what a load gives: the word as it was stored last
abbrev pub seen : Lines → (line word : ℕ) → ℕ
seen m l k = applied (m l).since (m l).lasts k

abbrev pub put_line : ℕ → Line → Lines → Lines
put_line l x m j = cond (eqb j l) x (m j)

abbrev pub stored : (line word value : ℕ) → Lines → Lines
stored l k v m = put_line l (record { lasts = (m l).lasts; since = (m l).since ++ (record { word = k; value = v } ∷ []); pushed = (m l).pushed }) m

abbrev pub pushed_back : (line : ℕ) → Lines → Lines
pushed_back l m = put_line l (record { lasts = (m l).lasts; since = (m l).since; pushed = length (m l).since }) m

-- a fence waits until all stores that were pushed have reached the memory
abbrev pub fenced : Lines → Lines
fenced m l = record { lasts = applied (first_of (m l).pushed (m l).since) (m l).lasts; since = drop_of (m l).pushed (m l).since; pushed = 0 }

-- What may be there when the power comes back: each line, independently of the others, has some first part of its stores.
pub record Left (m n : Lines) : Type 0 where
  pub line : (l : ℕ) → (k : ℕ) × ((w : ℕ) → (n l).lasts w ≡ applied (first_of k (m l).since) (m l).lasts w)
  pub none : (l : ℕ) → (n l).since ≡ []
  pub calm : (l : ℕ) → (n l).pushed ≡ 0

-- A program over such memory: what it does next may depend on what its loads gave. It yields a value.
pub data Work (A : Type 0) : Type 0 where
  yields : A → Work A
  load : (line word : ℕ) → (ℕ → Work A) → Work A
  store : (line word value : ℕ) → Work A → Work A
  push : (line : ℕ) → Work A → Work A
  fence : Work A → Work A

-- the work was done to its end, and yielded a
pub data Worked {A : Type 0} : Work A → Lines → A → Lines → Type 0 where
  w_end : {a : A} {m : Lines} → Worked (yields a) m a m
  w_load : {l k : ℕ} {f : ℕ → Work A} {m n : Lines} {a : A} → Worked (f (seen m l k)) m a n → Worked (load l k f) m a n
  w_store : {l k v : ℕ} {p : Work A} {m n : Lines} {a : A} → Worked p (stored l k v m) a n → Worked (store l k v p) m a n
  w_push : {l : ℕ} {p : Work A} {m n : Lines} {a : A} → Worked p (pushed_back l m) a n → Worked (push l p) m a n
  w_fence : {p : Work A} {m n : Lines} {a : A} → Worked p (fenced m) a n → Worked (fence p) m a n

-- the work was done up to some point, perhaps not at all, perhaps to its end
pub data Partly {A : Type 0} : Work A → Lines → Lines → Type 0 where
  p_here : {p : Work A} {m : Lines} → Partly p m m
  p_load : {l k : ℕ} {f : ℕ → Work A} {m n : Lines} → Partly (f (seen m l k)) m n → Partly (load l k f) m n
  p_store : {l k v : ℕ} {p : Work A} {m n : Lines} → Partly p (stored l k v m) n → Partly (store l k v p) m n
  p_push : {l : ℕ} {p : Work A} {m n : Lines} → Partly p (pushed_back l m) n → Partly (push l p) m n
  p_fence : {p : Work A} {m n : Lines} → Partly p (fenced m) n → Partly (fence p) m n

-- the work stays within so many lines, words 0 to 7 and values of 64 bits
pub data Within {A : Type 0} (lines : ℕ) : Work A → Lines → Type 0 where
  i_end : {a : A} {m : Lines} → Within lines (yields a) m
  i_load : {l k : ℕ} {f : ℕ → Work A} {m : Lines} → l < lines → k < 8 → Within lines (f (seen m l k)) m → Within lines (load l k f) m
  i_store : {l k v : ℕ} {p : Work A} {m : Lines} → l < lines → k < 8 → v < 18446744073709551616 → Within lines p (stored l k v m) → Within lines (store l k v p) m
  i_push : {l : ℕ} {p : Work A} {m : Lines} → l < lines → Within lines p (pushed_back l m) → Within lines (push l p) m
  i_fence : {p : Work A} {m : Lines} → Within lines p (fenced m) → Within lines (fence p) m

-- An engine. Mind: what it holds in memory that does not last; rises: what it does when the power comes on; does: what it does at a call.
pub record Engine (C R : Type 0) : Type 1 where
  pub Mind : Type 0
  pub rises : (lines : ℕ) → Work Mind
  pub does : C → Mind → Work (record { reply : R; mind : Mind })

-- What is seen from outside: a call and its reply, a call in which the power failed, a power failure between calls.
pub data Event (C R : Type 0) : Type 0 where
  says : C → R → Event C R
  fails_in : C → Event C R
  fails : Event C R

-- What a caller may expect: the states, the one at the start, which replies and new states a call may have, and what a power failure does to a state.
pub record Sense (C R : Type 0) : Type 1 where
  pub State : Type 0
  pub start : State
  pub May : C → State → R → State → Type 0
  pub after : State → State

-- The events, oldest first, can be explained from a state: each reply is one that the call may have, and a call in which the power failed was done or not done.
pub data MakesSense {C R : Type 0} (j : Sense C R) : j.State → List (Event C R) → Type 0 where
  nothing : {s : j.State} → MakesSense j s []
  answer : {s t : j.State} {c : C} {r : R} {es : List (Event C R)} → j.May c s r t → MakesSense j t es → MakesSense j s (says c r ∷ es)
  undone : {s : j.State} {c : C} {es : List (Event C R)} → MakesSense j (j.after s) es → MakesSense j s (fails_in c ∷ es)
  was_done : {s t : j.State} {c : C} {r : R} {es : List (Event C R)} → j.May c s r t → MakesSense j (j.after t) es → MakesSense j s (fails_in c ∷ es)
  dark : {s : j.State} {es : List (Event C R)} → MakesSense j (j.after s) es → MakesSense j s (fails ∷ es)

-- the events that an engine can go through: from memory without power, and from a mind with memory
mutual
  pub data FromDark {C R : Type 0} (e : Engine C R) (lines : ℕ) : Lines → List (Event C R) → Type 0 where
    stays : {m : Lines} → FromDark e lines m []
    rises : {m n : Lines} {x : e.Mind} {es : List (Event C R)} → Worked (e.rises lines) m x n → FromLight e lines x n es → FromDark e lines m es
    fails_rising : {m n o : Lines} {es : List (Event C R)} → Partly (e.rises lines) m n → Left n o → FromDark e lines o es → FromDark e lines m (fails ∷ es)

  pub data FromLight {C R : Type 0} (e : Engine C R) (lines : ℕ) : e.Mind → Lines → List (Event C R) → Type 0 where
    rests : {x : e.Mind} {m : Lines} → FromLight e lines x m []
    does : {x : e.Mind} {m n : Lines} {es : List (Event C R)} (c : C) (y : record { reply : R; mind : e.Mind }) → Worked (e.does c x) m y n → FromLight e lines y.mind n es → FromLight e lines x m (says c y.reply ∷ es)
    fails_doing : {x : e.Mind} {m n o : Lines} {es : List (Event C R)} (c : C) → Partly (e.does c x) m n → Left n o → FromDark e lines o es → FromLight e lines x m (fails_in c ∷ es)
    fails_resting : {x : e.Mind} {m o : Lines} {es : List (Event C R)} → Left m o → FromDark e lines o es → FromLight e lines x m (fails ∷ es)

-- whatever the engine goes through, from new memory on, makes sense
abbrev pub Sensible : {C R : Type 0} → (ℕ → Sense C R) → Engine C R → Type 0
Sensible {C} {R} j e = (lines : ℕ) → 32768 ≤ lines → lines ≤ 1099511627776 → (es : List (Event C R)) → FromDark e lines fresh_lines es → MakesSense (j lines) (j lines).start es

-- the memory, and the minds with memory, that an engine can come to
mutual
  pub data InDark {C R : Type 0} (e : Engine C R) (lines : ℕ) : Lines → Type 0 where
    new' : InDark e lines fresh_lines
    from_rising : {m n o : Lines} → InDark e lines m → Partly (e.rises lines) m n → Left n o → InDark e lines o
    from_doing : {x : e.Mind} {m n o : Lines} (c : C) → InLight e lines x m → Partly (e.does c x) m n → Left n o → InDark e lines o
    from_resting : {x : e.Mind} {m o : Lines} → InLight e lines x m → Left m o → InDark e lines o

  pub data InLight {C R : Type 0} (e : Engine C R) (lines : ℕ) : e.Mind → Lines → Type 0 where
    risen : {m n : Lines} {x : e.Mind} → InDark e lines m → Worked (e.rises lines) m x n → InLight e lines x n
    done : {x : e.Mind} {m n : Lines} (c : C) (y : record { reply : R; mind : e.Mind }) → InLight e lines x m → Worked (e.does c x) m y n → InLight e lines y.mind n

-- and from none of these does it go beyond its lines
abbrev pub Modest : {C R : Type 0} → Engine C R → Type 0
Modest {C} {R} e =
    (lines : ℕ) → 32768 ≤ lines → lines ≤ 1099511627776 → ((m : Lines) → InDark e lines m → Within lines (e.rises lines) m) × ((x : e.Mind) (m : Lines) (c : C) → InLight e lines x m → Within lines (e.does c x) m)
