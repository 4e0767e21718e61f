-- What a flow does by itself.
use Rattle.std.proofs.Common.{◌≡◌, ℕ, zero, suc, ◌<◌, ◌≤◌, Bool, true, false, cond, ◌&&◌, ◌||◌, eqb, ltb, leb, List, [], ◌∷◌, length, refl, ap, ◌∙◌, arith}
use Rattle.std.proofs.lemmas.Bool.Decides.{nat_tests}
use Rattle.plans.specs.Plan.{Name, Expr, Stmt, Set, Do, Sleep, Hear, If, While, Guard, Return, FailNow, done, then, Frame, Rest, Catch, Phase, Busy, Tasked, Asleep, Listens, Ended, Failed, Word, Flow, Wish, Moved, goes_on, ends, still, broken, take_word, listens, value, values, rest_of, step, is_busy, none, further, moves, stmt_ok, block_ok}
use Rattle.plans.specs.Plan.{does as does_stmt}
use Rattle.flows.specs.One.{frames_ok}
use Rattle.flows.specs.Fine.{Asks}

abbrev pub Agrees : ℕ → Phase → ℕ → List Wish → Type 0
Agrees base Busy n ws = (ws ≡ []) × (base ≤ n)
Agrees base (Tasked s) n ws = (w : Wish) × (ws ≡ w ∷ []) × (s < n) × (base ≤ s) × (1 ≤ w.tries) × Asks w.kind w.args w.tries w.pause
Agrees base (Asleep u) n ws = (ws ≡ []) × (base < n)
Agrees base (Listens v w m u) n ws = (ws ≡ []) × (base < n)
Agrees base (Ended v) n ws = (ws ≡ []) × (base ≤ n)
Agrees base Failed n ws = (ws ≡ []) × (base ≤ n)

pub record Moving (base : ℕ) (x : Flow) (m : Moved) : Type 0 where
  pub id : m.flow.id ≡ x.id
  pub key : m.flow.key ≡ x.key
  pub size : m.flow.size ≡ x.size
  pub frames : frames_ok m.flow.frames ≡ true
  pub agrees : Agrees base m.flow.phase m.flow.steps m.wish

pub broken_moving : (base : ℕ) (fs : List Frame) (x : Flow) → frames_ok fs ≡ true → base ≤ x.steps → Moving base x (still (broken fs x))
unfolding frames_ok broken
broken_moving base [] x k l = record { id = refl; key = refl; size = refl; frames = refl; agrees = (refl, l) }
broken_moving base (Rest b ∷ fs) x k l = broken_moving base fs x (grind arith) l
broken_moving base (Catch b ∷ fs) x k l = record { id = refl; key = refl; size = refl; frames = k; agrees = (refl, l) }

listens_moving : (base v w : ℕ) (n : Name) (u : ℕ) (ws : List Word) (fs : List Frame) (x : Flow) → frames_ok fs ≡ true → base ≤ x.steps → Moving base x (still (listens v w n u ws fs x))
unfolding listens
listens_moving base v w n u [] fs x k l = record { id = refl; key = refl; size = refl; frames = k; agrees = (refl, omega arith) }
listens_moving base v w n u (y ∷ ys) fs x k l = record { id = refl; key = refl; size = refl; frames = k; agrees = (refl, omega arith) }

cond_moving : (base : ℕ) (x : Flow) (b : Bool) (m n : Flow) → Moving base x (still m) → Moving base x (still n) → Moving base x (still (cond b m n))
cond_moving base x true m n p q = p
cond_moving base x false m n p q = q

length_values : (es : List Expr) (f : ℕ → ℕ) → length (values es f) ≡ length es
unfolding values
length_values [] f = refl
length_values (e ∷ es) f = ap suc (length_values es f)

pub does_moving : (base now : ℕ) (s : Stmt) (fs : List Frame) (x : Flow) → stmt_ok s ≡ true → frames_ok fs ≡ true → base ≤ x.steps → Moving base x (does_stmt now s fs x)
unfolding does_stmt stmt_ok frames_ok block_ok
does_moving base now (Set v e) fs x o k l = record { id = refl; key = refl; size = refl; frames = k; agrees = (refl, l) }
does_moving base now (Do v kd es t p) fs x o k l = record { id = refl; key = refl; size = refl; frames = k; agrees = (record { kind = kd; args = values es x.vars; tries = t; pause = p }, refl, omega arith, l, grind (arith, nat_tests), record { kind = grind (arith, nat_tests); args = rw (length_values es x.vars) (grind (arith, nat_tests)); tries = grind (arith, nat_tests); pause = grind (arith, nat_tests) }) }
does_moving base now (Sleep e) fs x o k l = record { id = refl; key = refl; size = refl; frames = k; agrees = (refl, omega arith) }
does_moving base now (Hear v w n e) fs x o k l = listens_moving base v w n _ (take_word n x.box) fs x k l
does_moving base now (If e a b) fs x o k l = record { id = refl; key = refl; size = refl; frames = grind arith; agrees = (refl, l) }
does_moving base now (While e a) fs x o k l = cond_moving base x _ _ _ (record { id = refl; key = refl; size = refl; frames = k; agrees = (refl, l) }) (record { id = refl; key = refl; size = refl; frames = grind arith; agrees = (refl, l) })
does_moving base now (Guard a b) fs x o k l = record { id = refl; key = refl; size = refl; frames = grind arith; agrees = (refl, l) }
does_moving base now (Return e) fs x o k l = record { id = refl; key = refl; size = refl; frames = refl; agrees = (refl, l) }
does_moving base now FailNow fs x o k l = broken_moving base fs x k l

pub step_moving : (base now : ℕ) (fs : List Frame) (x : Flow) → frames_ok fs ≡ true → base ≤ x.steps → Moving base x (step now fs x)
unfolding step frames_ok block_ok rest_of
step_moving base now [] x k l = record { id = refl; key = refl; size = refl; frames = refl; agrees = (refl, l) }
step_moving base now (Rest done ∷ fs) x k l = record { id = refl; key = refl; size = refl; frames = grind arith; agrees = (refl, l) }
step_moving base now (Rest (then s done) ∷ fs) x k l = does_moving base now s fs x (grind arith) (grind arith) l
step_moving base now (Rest (then s (then r b)) ∷ fs) x k l = does_moving base now s (Rest (then r b) ∷ fs) x (grind arith) (grind arith) l
step_moving base now (Catch b ∷ fs) x k l = record { id = refl; key = refl; size = refl; frames = grind arith; agrees = (refl, l) }

pub agrees_le : (base : ℕ) (p : Phase) (n : ℕ) (ws : List Wish) → Agrees base p n ws → base ≤ n
agrees_le base Busy n ws a = a.1
agrees_le base (Tasked s) n ws a = omega (arith, a.2, a.3)
agrees_le base (Asleep u) n ws a = omega (arith, a.1)
agrees_le base (Listens v w m u) n ws a = omega (arith, a.1)
agrees_le base (Ended v) n ws a = a.1
agrees_le base Failed n ws a = a.1

moving_on : (base : ℕ) (x : Flow) (m k : Moved) → Moving base x m → Moving base m.flow k → Moving base x k
moving_on base x m k a b = record { id = b.id ∙ a.id; key = b.key ∙ a.key; size = b.size ∙ a.size; frames = b.frames; agrees = b.agrees }

pub further_moving : (base now : ℕ) (x : Flow) (m : Moved) → Moving base x m → Moving base x (further now m)
unfolding frames_ok
further_moving base now x m a = at (is_busy m.flow.phase && none m.wish) (ltb 64 (length m.flow.frames) || leb 4611686018427387904 m.flow.steps)
  where
    l : base ≤ m.flow.steps
    l = agrees_le base m.flow.phase m.flow.steps m.wish a.agrees

    at : (b c : Bool) → Moving base x (cond b (cond c (still (ends Failed m.flow)) (step now m.flow.frames m.flow)) m)
    at true true = record { id = a.id; key = a.key; size = a.size; frames = refl; agrees = (refl, l) }
    at true false = moving_on base x m (step now m.flow.frames m.flow) a (step_moving base now m.flow.frames m.flow a.frames l)
    at false c = a

pub moves_moving : (n base now : ℕ) (x : Flow) (m : Moved) → Moving base x m → Moving base x (moves n now m)
unfolding moves
moves_moving zero base now x m a = a
moves_moving (suc n) base now x m a = moves_moving n base now x (further now m) (further_moving base now x m a)

-- the name stays, whatever the plan
pub broken_id : (fs : List Frame) (x : Flow) → (broken fs x).id ≡ x.id
unfolding broken
broken_id [] x = refl
broken_id (Rest b ∷ fs) x = broken_id fs x
broken_id (Catch b ∷ fs) x = refl

listens_id : (v w : ℕ) (n : Name) (u : ℕ) (ws : List Word) (fs : List Frame) (x : Flow) → (listens v w n u ws fs x).id ≡ x.id
unfolding listens
listens_id v w n u [] fs x = refl
listens_id v w n u (y ∷ ys) fs x = refl

does_id : (now : ℕ) (s : Stmt) (fs : List Frame) (x : Flow) → (does_stmt now s fs x).flow.id ≡ x.id
unfolding does_stmt
does_id now (Set v e) fs x = refl
does_id now (Do v kd es t p) fs x = refl
does_id now (Sleep e) fs x = refl
does_id now (Hear v w n e) fs x = listens_id v w n _ (take_word n x.box) fs x
does_id now (If e a b) fs x = refl
does_id now (While e a) fs x = elim (eqb (value e x.vars) 0) as (λ c. (cond c (goes_on fs x.vars x) (goes_on (Rest a ∷ Rest (then (While e a) done) ∷ fs) x.vars x)).id ≡ x.id) [ true ↦ refl | false ↦ refl ]
does_id now (Guard a b) fs x = refl
does_id now (Return e) fs x = refl
does_id now FailNow fs x = broken_id fs x

step_id : (now : ℕ) (fs : List Frame) (x : Flow) → (step now fs x).flow.id ≡ x.id
unfolding step
step_id now [] x = refl
step_id now (Rest done ∷ fs) x = refl
step_id now (Rest (then s b) ∷ fs) x = does_id now s (rest_of b fs) x
step_id now (Catch b ∷ fs) x = refl

further_id : (now : ℕ) (m : Moved) → (further now m).flow.id ≡ m.flow.id
further_id now m = at (is_busy m.flow.phase && none m.wish) (ltb 64 (length m.flow.frames) || leb 4611686018427387904 m.flow.steps)
  where
    at : (b c : Bool) → (cond b (cond c (still (ends Failed m.flow)) (step now m.flow.frames m.flow)) m).flow.id ≡ m.flow.id
    at true true = refl
    at true false = step_id now m.flow.frames m.flow
    at false c = refl

pub moves_id : (n now : ℕ) (m : Moved) → (moves n now m).flow.id ≡ m.flow.id
unfolding moves
moves_id zero now m = refl
moves_id (suc n) now m = moves_id n now (further now m) ∙ further_id now m
