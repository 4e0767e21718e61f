use Rattle.std.proofs.Common.{[], length, sym, ap}
use Rattle.runs.specs.declared.step.Place.{Place}
use Rattle.runs.specs.Steps.{Went, does_w}
use Rattle.runs.proofs.Arms.{arm}
use Rattle.runs.proofs.step.does.Goals as goal

pub returns-in-Set : goal.returns-in-Set
unfolding does_w
returns-in-Set c = arm (length c.args.stack.now) c.args.words.now c.args.going.place c.args.vars.now c.args.time c.args.statement _ c.wishless.result c.sets.new.vars c.in-Set.is (c.wishless.ensures c.sets.new.vars _ c.sets.ensures)

pub returns-in-Sleep : goal.returns-in-Sleep
unfolding does_w
returns-in-Sleep c = arm (length c.args.stack.now) c.args.words.now c.args.going.place c.args.vars.now c.args.time c.args.statement _ c.wishless-in-Sleep.result c.args.vars.now c.in-Sleep.is (c.wishless-in-Sleep.ensures c.args.vars.now _ c.sleeps.ensures)

pub returns-in-Hear : goal.returns-in-Hear
unfolding does_w
returns-in-Hear c = arm (length c.args.stack.now) c.args.words.now c.args.going.place c.args.vars.now c.args.time c.args.statement _ c.wishless-in-Hear.result c.args.vars.now c.in-Hear.is (c.wishless-in-Hear.ensures c.args.vars.now _ c.listens.ensures)

pub returns-in-If : goal.returns-in-If
unfolding does_w
returns-in-If c = arm (length c.args.stack.now) c.args.words.now c.args.going.place c.args.vars.now c.args.time c.args.statement _ c.wishless-in-If.result c.args.vars.now c.in-If.is (c.wishless-in-If.ensures c.args.vars.now _ c.branches.ensures)

pub returns-in-While : goal.returns-in-While
unfolding does_w
returns-in-While c = arm (length c.args.stack.now) c.args.words.now c.args.going.place c.args.vars.now c.args.time c.args.statement _ c.wishless-in-While.result c.args.vars.now c.in-While.is (c.wishless-in-While.ensures c.args.vars.now _ c.branches-in-While.ensures)

pub returns-in-Return : goal.returns-in-Return
unfolding does_w
returns-in-Return c = arm (length c.args.stack.now) c.args.words.now c.args.going.place c.args.vars.now c.args.time c.args.statement _ c.wishless-in-Return.result c.args.vars.now c.in-Return.is (c.wishless-in-Return.ensures c.args.vars.now _ c.gives.ensures)

pub returns-in-Do : goal.returns-in-Do
unfolding does_w
returns-in-Do c = arm (length c.args.stack.now) c.args.words.now c.args.going.place c.args.vars.now c.args.time c.args.statement _ c.asks.result c.args.vars.now c.in-Do.is c.asks.ensures

pub returns-in-Guard : goal.returns-in-Guard
unfolding does_w
returns-in-Guard c = arm (length c.args.stack.now) c.args.words.now c.args.going.place c.args.vars.now c.args.time c.args.statement _ c.wishless-in-Guard.result c.args.vars.now c.in-Guard.is (c.wishless-in-Guard.ensures c.args.vars.now _ (ap (λ (q : Place). Went q c.args.vars.now []) (sym c.goes.ensures)))

pub returns-in-Go : goal.returns-in-Go
unfolding does_w
returns-in-Go c = arm (length c.args.stack.now) c.args.words.now c.args.going.place c.args.vars.now c.args.time c.args.statement _ c.wishless-in-Go.result c.args.vars.now c.in-Go.is (c.wishless-in-Go.ensures c.args.vars.now _ (ap (λ (q : Place). Went q c.args.vars.now []) (sym c.goes-in-Go.ensures)))

pub returns-in-Fail : goal.returns-in-Fail
unfolding does_w
returns-in-Fail c = arm (length c.args.stack.now) c.args.words.now c.args.going.place c.args.vars.now c.args.time c.args.statement _ c.wishless-in-Fail.result c.args.vars.now c.in-Fail.is (c.wishless-in-Fail.ensures c.args.vars.now _ (ap (λ (q : Place). Went q c.args.vars.now []) (sym c.fails.ensures)))

pub returns-in-End : goal.returns-in-End
unfolding does_w
returns-in-End c = arm (length c.args.stack.now) c.args.words.now c.args.going.place c.args.vars.now c.args.time c.args.statement _ c.wishless-in-End.result c.args.vars.now c.in-End.is (c.wishless-in-End.ensures c.args.vars.now _ (ap (λ (q : Place). Went q c.args.vars.now []) (sym c.ends.ensures)))
