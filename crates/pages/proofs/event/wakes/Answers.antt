use Rattle.std.proofs.Common.{ℕ, List, length, Ok, sym, refl, ap, ◌∙◌, ap₂, arith}
use Rattle.std.proofs.lemmas.Bool.{cond-true, cond-false, and_from, lt-ltb, le-leb, lt-leb}
use Rattle.runs.specs.declared.step.Place.{Place}
use Rattle.runs.specs.Events.{worth, came}
use Rattle.pages.specs.Page.{damaged}
use Rattle.pages.specs.Events.{ran_on, wakes_at}
use Rattle.pages.proofs.Turns.{wakes_in, hears_bad}
use Rattle.pages.proofs.event.wakes.Goals as goal

pub returns-in-Busy : goal.returns-in-Busy
unfolding wakes_at
returns-in-Busy c = wakes_in (length c.args.stack.now) c.args.plan.now c.args.time c.args.flow _ c.goes_on.result c.in-Busy.is c.goes_on.ensures

pub returns-in-Tasked : goal.returns-in-Tasked
unfolding wakes_at
returns-in-Tasked c = wakes_in (length c.args.stack.now) c.args.plan.now c.args.time c.args.flow _ (Ok c.args.flow) c.in-Tasked.is refl

pub returns-in-Ended : goal.returns-in-Ended
unfolding wakes_at
returns-in-Ended c = wakes_in (length c.args.stack.now) c.args.plan.now c.args.time c.args.flow _ (Ok c.args.flow) c.in-Ended.is refl

pub returns-in-Failed : goal.returns-in-Failed
unfolding wakes_at
returns-in-Failed c = wakes_in (length c.args.stack.now) c.args.plan.now c.args.time c.args.flow _ (Ok c.args.flow) c.in-Failed.is refl

pub returns-then-until-now : goal.returns-then-until-now
unfolding wakes_at
returns-then-until-now c = wakes_in (length c.args.stack.now) c.args.plan.now c.args.time c.args.flow _ (Ok c.args.flow) c.in-Asleep.is (sym (cond-false _ _ _ (lt-leb c.in-Asleep.until c.args.time (omega (arith, c.ms-now.ensures.is)))))

pub returns-else-until-now : goal.returns-else-until-now
unfolding wakes_at
returns-else-until-now c = wakes_in (length c.args.stack.now) c.args.plan.now c.args.time c.args.flow _ c.goes_on-in-Asleep.result c.in-Asleep.is (c.goes_on-in-Asleep.ensures ∙ ap (λ (p : Place). ran_on (length c.args.stack.now) c.args.plan.now c.args.time p c.args.flow.vars) c.woken.ensures.flat ∙ sym (cond-true _ _ _ (le-leb c.in-Asleep.until c.args.time (omega (arith, c.ms-now.ensures.is)))))

pub returns-then-until-now-2 : goal.returns-then-until-now-2
unfolding wakes_at
returns-then-until-now-2 c = wakes_in (length c.args.stack.now) c.args.plan.now c.args.time c.args.flow _ (Ok c.args.flow) c.in-Listens.is (sym (cond-false _ _ _ (lt-leb c.in-Listens.until c.args.time (omega (arith, c.ms-now.ensures.is)))))

pub returns-then-var-ge64 : goal.returns-then-var-ge64
unfolding wakes_at
returns-then-var-ge64 c = wakes_in (length c.args.stack.now) c.args.plan.now c.args.time c.args.flow _ damaged c.in-Listens.is (sym (cond-true _ _ _ (le-leb c.in-Listens.until c.args.time (omega (arith, c.ms-now.ensures.is))) ∙ cond-false _ _ _ (hears_bad c.in-Listens.var c.in-Listens.came c.then-var-ge64.either)))

pub returns-else-came-ge64 : goal.returns-else-came-ge64
unfolding wakes_at worth came
returns-else-came-ge64 c = wakes_in (length c.args.stack.now) c.args.plan.now c.args.time c.args.flow _ c.goes_on-in-Listens.result c.in-Listens.is (c.goes_on-in-Listens.ensures ∙ ap₂ (λ (p : Place) (vs : List ℕ). ran_on (length c.args.stack.now) c.args.plan.now c.args.time p vs) c.hearing_over-place.ensures.flat.0 c.hearing_over-place.ensures.flat.1 ∙ sym (cond-true _ _ _ (le-leb c.in-Listens.until c.args.time (omega (arith, c.ms-now.ensures.is))) ∙ cond-true _ _ _ (and_from _ _ (lt-ltb c.in-Listens.var 64 c.if-var-ge64.false) (lt-ltb c.in-Listens.came 64 c.if-came-ge64.false))))
