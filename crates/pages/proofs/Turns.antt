-- What the events compute, as their equations have it. Assumes nothing.
use Rattle.std.proofs.Common.{◌≡◌, ℕ, ◌+◌, ◌-◌, ◌<◌, ◌≤◌, true, false, ◌&&◌, ltb, ◌⊎◌, List, [], ◌++◌, length, take, drop, set, Some, None, Ok, Err, Option, Result, sym, refl, ap, ◌∙◌, inl, inr, arith}
use lib.Seq.{take-append-add}
use Rattle.std.proofs.lemmas.Bool.{cond-true, cond-false, and_left, and_right, le-ltb, lt-ltb}
use Rattle.plans.specs.declared.eval.Damaged.{Damaged}
use Rattle.runs.specs.declared.step.Phase.{Phase}
use Rattle.runs.specs.declared.step.Place.{Place}
use Rattle.runs.specs.declared.event.Task.{Task as Found}
use Rattle.runs.specs.Steps.{Out as Ways, Lost, Went, gone_to, fails_to}
use Rattle.runs.specs.Units.{statement_at}
use Rattle.runs.specs.Events.{task_in, with_task as found, by_task}
use Rattle.pages.specs.declared.flow.Task.{Task}
use Rattle.pages.specs.declared.flow.Flow.{Flow}
use Rattle.pages.specs.Page.{damaged, fair, zeros}
use Rattle.pages.specs.Events.{ran_on, first_vars, then_runs, worked_on, failed_on, again, with_task, wrong_task, wrong_on, late_task, wakes_at, wakes_on, then_wakes, ticked_on}
use Rattle.runs.proofs.Filled.{take_zeros, drop_zeros}

pub vars_filled : (xs : List ℕ) → length xs ≤ 64 → xs ++ drop (length xs) (zeros 64) ≡ first_vars xs
unfolding first_vars
vars_filled xs h =
    let n : ℕ = length xs in
    let m : 64 ≡ n + (64 - n) = omega arith in
    let a : take 64 (xs ++ zeros 64) ≡ xs ++ take (64 - n) (zeros 64) = ap (λ (k : ℕ). take k (xs ++ zeros 64)) m ∙ take-append-add xs (zeros 64) (64 - n) in
    ap (λ (l : List ℕ). xs ++ l) (drop_zeros n 64 ∙ sym (take_zeros (64 - n) 64 (omega arith))) ∙ sym a

-- a result
pub worked_bad : (room : ℕ) (ws : List ℕ) (t v : ℕ) (f : Flow) → 64 ≤ f.place.into → damaged ≡ worked_on room ws t v f
unfolding worked_on
worked_bad room ws t v f h = sym (cond-false _ _ _ (le-ltb f.place.into 64 h))

pub worked_is : (room : ℕ) (ws : List ℕ) (t v : ℕ) (f : Flow) (o : Ways) → f.place.into < 64 → by_task (statement_at ws f.place.here) (λ next way. Went (gone_to next f.place) (set f.vars f.place.into v) []) ≡ o → then_runs room ws t o ≡ worked_on room ws t v f
unfolding worked_on
worked_is room ws t v f o h e = sym (cond-true _ _ _ (lt-ltb f.place.into 64 h) ∙ ap (then_runs room ws t) e)

pub worked_lost : (room : ℕ) (ws : List ℕ) (t v : ℕ) (f : Flow) → f.place.into < 64 → by_task (statement_at ws f.place.here) (λ next way. Went (gone_to next f.place) (set f.vars f.place.into v) []) ≡ Lost → damaged ≡ worked_on room ws t v f
unfolding then_runs
worked_lost room ws t v f h e = worked_is room ws t v f Lost h e

pub worked_went : (room : ℕ) (ws : List ℕ) (t v : ℕ) (f : Flow) (q : Place) (us : List ℕ) → f.place.into < 64 → by_task (statement_at ws f.place.here) (λ next way. Went (gone_to next f.place) (set f.vars f.place.into v) []) ≡ Went q us [] → ran_on room ws t q us ≡ worked_on room ws t v f
unfolding then_runs
worked_went room ws t v f q us h e = worked_is room ws t v f (Went q us []) h e

-- a failure
fails_lost : (o : Option Found) (p : Place) (vs : List ℕ) → found o (λ next way. Went (fails_to way p) [] []) ≡ Lost → found o (λ next way. Went (fails_to way p) vs []) ≡ Lost
unfolding found
fails_lost None p vs e = refl
fails_lost (Some t) p vs e = let z : ◌≡◌ {A = ℕ} 0 1 = cc in absurd (omega arith)

fails_went : (o : Option Found) (p q : Place) (vs : List ℕ) → found o (λ next way. Went (fails_to way p) [] []) ≡ Went q [] [] → found o (λ next way. Went (fails_to way p) vs []) ≡ Went q vs []
unfolding found
fails_went None p q vs e = let z : ◌≡◌ {A = ℕ} 0 1 = cc in absurd (omega arith)
fails_went (Some t) p q vs e = let z : fails_to t.way p ≡ q = cc in ap (λ (r : Place). Went r vs []) z

pub failed_lost : (room : ℕ) (ws : List ℕ) (t : ℕ) (f : Flow) → by_task (statement_at ws f.place.here) (λ next way. Went (fails_to way f.place) [] []) ≡ Lost → damaged ≡ failed_on room ws t f
unfolding failed_on then_runs
failed_lost room ws t f e = sym (ap (then_runs room ws t) (fails_lost (task_in (statement_at ws f.place.here)) f.place f.vars e))

pub failed_went : (room : ℕ) (ws : List ℕ) (t : ℕ) (f : Flow) (q : Place) → by_task (statement_at ws f.place.here) (λ next way. Went (fails_to way f.place) [] []) ≡ Went q [] [] → ran_on room ws t q f.vars ≡ failed_on room ws t f
unfolding failed_on then_runs
failed_went room ws t f q e = sym (ap (then_runs room ws t) (fails_went (task_in (statement_at ws f.place.here)) f.place q f.vars e))

-- a try that went wrong
pub wrong_none : (room : ℕ) (ws : List ℕ) (t : ℕ) (f : Flow) → f.task ≡ None → damaged ≡ wrong_on room ws t f
unfolding wrong_task
wrong_none room ws t f e = sym (ap (wrong_task room ws t f) e)

pub wrong_unfair : (room : ℕ) (ws : List ℕ) (t : ℕ) (f : Flow) (u : Task) → f.task ≡ Some u → fair u ≡ false → damaged ≡ wrong_on room ws t f
unfolding wrong_task
wrong_unfair room ws t f u e b = sym (ap (wrong_task room ws t f) e ∙ cond-false _ _ _ b)

pub wrong_again : (room : ℕ) (ws : List ℕ) (t : ℕ) (f : Flow) (u v : Task) → f.task ≡ Some u → fair u ≡ true → u.attempt < u.tries → v ≡ again t u → Ok (with_task (Some v) f) ≡ wrong_on room ws t f
unfolding wrong_task
wrong_again room ws t f u v e b l k = ap (λ (x : Task). Ok (with_task (Some x) f)) k ∙ sym (ap (wrong_task room ws t f) e ∙ cond-true _ _ _ b ∙ cond-true _ _ _ (lt-ltb u.attempt u.tries l))

pub wrong_last : (room : ℕ) (ws : List ℕ) (t : ℕ) (f : Flow) (u : Task) (r : Result Flow Damaged) → f.task ≡ Some u → fair u ≡ true → u.tries ≤ u.attempt → r ≡ failed_on room ws t f → r ≡ wrong_on room ws t f
unfolding wrong_task
wrong_last room ws t f u r e b l k = k ∙ sym (ap (wrong_task room ws t f) e ∙ cond-true _ _ _ b ∙ cond-false _ _ _ (le-ltb u.attempt u.tries l))

-- waking
pub wakes_in : (room : ℕ) (ws : List ℕ) (t : ℕ) (f : Flow) (p : Phase) (r : Result Flow Damaged) → f.place.phase ≡ p → r ≡ wakes_at room ws t p f → r ≡ wakes_on room ws t f
wakes_in room ws t f p r e k = k ∙ sym (ap (λ (q : Phase). wakes_at room ws t q f) e)

pub hears_bad : (v w : ℕ) → (64 ≤ v) ⊎ ((v < 64) × (64 ≤ w)) → (ltb v 64 && ltb w 64) ≡ false
hears_bad v w (inl h) = and_left _ _ (le-ltb v 64 h)
hears_bad v w (inr h) = and_right _ _ (le-ltb w 64 h.1)

-- time
pub ticked_calm : (room : ℕ) (ws : List ℕ) (t : ℕ) (f : Flow) (r : Result Flow Damaged) → late_task t f.task ≡ false → r ≡ wakes_on room ws t f → r ≡ ticked_on room ws t f
unfolding ticked_on
ticked_calm room ws t f r b k = k ∙ sym (cond-false _ _ _ b)

pub ticked_lost : (room : ℕ) (ws : List ℕ) (t : ℕ) (f : Flow) (d : Damaged) → late_task t f.task ≡ true → Err d ≡ wrong_on room ws t f → damaged ≡ ticked_on room ws t f
unfolding ticked_on then_wakes
ticked_lost room ws t f d b k = ap (then_wakes room ws t) k ∙ sym (cond-true _ _ _ b)

pub ticked_late : (room : ℕ) (ws : List ℕ) (t : ℕ) (f g : Flow) (r : Result Flow Damaged) → late_task t f.task ≡ true → Ok g ≡ wrong_on room ws t f → r ≡ wakes_on room ws t g → r ≡ ticked_on room ws t f
unfolding ticked_on then_wakes
ticked_late room ws t f g r b k e = e ∙ ap (then_wakes room ws t) k ∙ sym (cond-true _ _ _ b)
