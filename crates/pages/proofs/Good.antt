-- What a run keeps: 64 variables, a variable for a result, and a wish exactly where it waits for a task. Assumes nothing.
use Rattle.std.proofs.Common.{◌≡◌, ℕ, zero, suc, ◌+◌, ◌<◌, ◌≤◌, Bool, true, false, cond, ◌&&◌, ltb, leb, List, [], ◌∷◌, length, drop, Some, None, Option, refl, ◌∙◌, arith, length-set}
use Rattle.std.proofs.lemmas.Bool.{ltb-true, leb-true, and_parts}
use Rattle.plans.specs.Plan.{Wish as Wished}
use Rattle.plans.specs.Eval.{Out as Run, Bad, Stop, run_e, One, no_value, one_value}
use Rattle.runs.specs.declared.unit.Statement.{Statement}
use Rattle.runs.specs.declared.unit.Statement.TheVariants.{Set, Do, Sleep, Hear, If, While, Guard, Go, Return, Fail, End}
use Rattle.runs.specs.declared.step.Phase.{Phase}
use Rattle.runs.specs.declared.step.Phase.TheVariants.{Busy, Tasked, Asleep, Listens, Ended, Failed}
use Rattle.runs.specs.declared.step.Place.{Place}
use Rattle.runs.specs.Machine.{spent}
use Rattle.runs.specs.Units.{statement_at, deep_at}
use Rattle.runs.specs.Steps.{Out as Ways, Lost, Went, ended_as, fails_to, with_value, worth_at, backs, with_all, does_w, busy, step_w, onward, moves_w}
use Rattle.pages.specs.Sound.{PhaseOk}

-- a wish exactly where it waits for a task, of at most 16 arguments
abbrev pub Wants : Phase → List Wished → Type 0
Wants Busy [] = Unit {0}
Wants Busy (w ∷ ws) = ⊥
Wants (Tasked s) [] = ⊥
Wants (Tasked s) (w ∷ []) = length w.args ≤ 16
Wants (Tasked s) (w ∷ v ∷ ws) = ⊥
Wants (Asleep u) [] = Unit {0}
Wants (Asleep u) (w ∷ ws) = ⊥
Wants (Listens v c n u) [] = Unit {0}
Wants (Listens v c n u) (w ∷ ws) = ⊥
Wants (Ended v) [] = Unit {0}
Wants (Ended v) (w ∷ ws) = ⊥
Wants Failed [] = Unit {0}
Wants Failed (w ∷ ws) = ⊥

pub record Good (p : Place) (vs : List ℕ) (ws : List Wished) : Type 0 where
  pub vars : length vs ≡ 64
  pub into : p.into < 64
  pub phase : PhaseOk p.phase
  pub wants : Wants p.phase ws

abbrev pub GoodOut : Ways → Type 0
GoodOut Lost = Unit {0}
GoodOut (Went p vs ws) = Good p vs ws

cond_good : (b : Bool) (o : Ways) → (b ≡ true → GoodOut o) → GoodOut (cond b o Lost)
cond_good true o h = h refl
cond_good false o h = tt

value_good : (v : One) (f : ℕ → ℕ → Ways) → ((x e : ℕ) → GoodOut (f x e)) → GoodOut (with_value v f)
unfolding with_value
value_good no_value f h = tt
value_good (one_value x e) f h = h x e

pub backs_long : (st xs : List ℕ) → length (backs st xs) ≡ length st + length xs
unfolding backs
backs_long [] xs = omega arith
backs_long (x ∷ st) xs = let h = backs_long st (x ∷ xs) in omega arith

all_good : (r : Run) (f : List ℕ → Ways) → ((xs : List ℕ) → length xs ≤ 16 → GoodOut (f xs)) → GoodOut (with_all r f)
unfolding with_all
all_good Bad f h = tt
all_good (Stop st e) f h = cond_good (leb (length st) 16) (f (backs st [])) (λ q. h (backs st []) (let l : length st ≤ 16 = leb-true (length st) 16 q in let m = backs_long st [] in omega arith))

fails_good : (way : Option ℕ) (p : Place) (vs : List ℕ) → length vs ≡ 64 → p.into < 64 → GoodOut (Went (fails_to way p) vs [])
unfolding fails_to
fails_good None p vs l i = record { vars = l; into = i; phase = tt; wants = tt }
fails_good (Some a) p vs l i = record { vars = l; into = i; phase = tt; wants = tt }

does_good : (room : ℕ) (ws : List ℕ) (t : ℕ) (s : Option Statement) (p : Place) (vs : List ℕ) → length vs ≡ 64 → p.into < 64 → GoodOut (does_w room ws t s p vs)
unfolding does_w
does_good room ws t None p vs l i = tt
does_good room ws t (Some (Set v next e)) p vs l i = cond_good (ltb v 64) _ (λ q. value_good (worth_at room ws e vs) _ (λ x end. record { vars = length-set vs v x ∙ l; into = i; phase = tt; wants = tt }))
does_good room ws t (Some (Do v next way task)) p vs l i = cond_good (ltb v 64) _ (λ q. all_good (run_e room vs (drop (task + 12) ws) (task + 12) []) _ (λ xs h. record { vars = l; into = ltb-true v 64 q; phase = tt; wants = h }))
does_good room ws t (Some (Sleep next e)) p vs l i = value_good (worth_at room ws e vs) _ (λ x end. record { vars = l; into = i; phase = tt; wants = tt })
does_good room ws t (Some (Hear v w next name)) p vs l i = cond_good (ltb v 64 && ltb w 64) _ (λ q. value_good (worth_at room ws (name + 64) vs) _ (λ x end. let h = and_parts (ltb v 64) (ltb w 64) q in record { vars = l; into = i; phase = (ltb-true v 64 h.0, ltb-true w 64 h.1); wants = tt }))
does_good room ws t (Some (If other e)) p vs l i = value_good (worth_at room ws e vs) _ (λ x end. record { vars = l; into = i; phase = tt; wants = tt })
does_good room ws t (Some (While next e)) p vs l i = value_good (worth_at room ws e vs) _ (λ x end. record { vars = l; into = i; phase = tt; wants = tt })
does_good room ws t (Some (Guard first)) p vs l i = record { vars = l; into = i; phase = tt; wants = tt }
does_good room ws t (Some (Go next)) p vs l i = record { vars = l; into = i; phase = tt; wants = tt }
does_good room ws t (Some (Return e)) p vs l i = value_good (worth_at room ws e vs) _ (λ x end. record { vars = l; into = i; phase = tt; wants = tt })
does_good room ws t (Some (Fail way)) p vs l i = fails_good way p vs l i
does_good room ws t (Some End) p vs l i = record { vars = l; into = i; phase = tt; wants = tt }

step_good : (room : ℕ) (ws : List ℕ) (t : ℕ) (p : Place) (vs : List ℕ) → Good p vs [] → GoodOut (step_w room ws t p vs)
unfolding step_w
step_good room ws t p vs g = go (busy p.phase) (spent (deep_at ws p.here) p.steps)
  where
    go : (b s : Bool) → GoodOut (cond b (cond s (Went (ended_as Failed p) vs []) (does_w room ws t (statement_at ws p.here) p vs)) (Went p vs []))
    go true true = record { vars = g.vars; into = g.into; phase = tt; wants = tt }
    go true false = does_good room ws t (statement_at ws p.here) p vs g.vars g.into
    go false s = g

pub moves_good : (room : ℕ) (ws : List ℕ) (t n : ℕ) (p : Place) (vs : List ℕ) → Good p vs [] → GoodOut (moves_w room ws t n p vs)
unfolding moves_w onward
moves_good room ws t zero p vs g = g
moves_good room ws t (suc n) p vs g = go (λ q us h. moves_good room ws t n q us h) (step_w room ws t p vs) (step_good room ws t p vs g)
  where
    go : ((q : Place) (us : List ℕ) → Good q us [] → GoodOut (moves_w room ws t n q us)) → (o : Ways) → GoodOut o → GoodOut (onward o (moves_w room ws t n))
    go ih Lost h = tt
    go ih (Went q us []) h = ih q us h
    go ih (Went q us (w ∷ more)) h = h
