use Rattle.std.proofs.Common.{cond, Some, sym, ap, ◌∙◌}
use Rattle.engine.specs.declared.take.Best.{Best}
use Rattle.engine.specs.Works.{better}
use Rattle.engine.proofs.take.better.Goals as goal

pub returns-in-None : goal.returns-in-None
unfolding better
returns-in-None c = ap (better c.args.slot c.args.due c.args.flow) (sym c.in-None.is)

pub returns-then-is_sooner : goal.returns-then-is_sooner
unfolding better
returns-then-is_sooner c =
    let new : Best = record { slot = c.args.slot; due = c.args.due; flow = c.args.flow } in
    ap (λ t. cond t (Some new) (Some c.in-Some.old)) c.if-is_sooner.ensures ∙ ap (better c.args.slot c.args.due c.args.flow) (sym c.in-Some.is)

pub returns-else-is_sooner : goal.returns-else-is_sooner
unfolding better
returns-else-is_sooner c =
    let new : Best = record { slot = c.args.slot; due = c.args.due; flow = c.args.flow } in
    ap (λ t. cond t (Some new) (Some c.in-Some.old)) c.if-is_sooner.ensures ∙ ap (better c.args.slot c.args.due c.args.flow) (sym c.in-Some.is)
