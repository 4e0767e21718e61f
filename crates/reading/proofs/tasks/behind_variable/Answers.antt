use Rattle.std.proofs.Common.{take, le_refl, arith}
use Rattle.reading.proofs.Steps.{onwards_more}
use Rattle.reading.proofs.Tasked.{no_assignment, by_same, by_comma}
use Rattle.reading.proofs.tasks.behind_variable.Goals as goal

pub returns-in-Ok : goal.returns-in-Ok
returns-in-Ok c =
    let a = c.in-Ok.ensures in
    record { forth = onwards_more c.task.result _ _ c.args.at.pos c.args.at.len _ _ (omega (arith, a.1)) (le_refl _) c.task.ensures.forth; read = by_same c.args.v c.task.result _ _ c.args.text.now (take c.args.at.len c.args.out.now) c.task.new.out a.0 c.task.ensures.read }

pub returns-in-Ok-key : goal.returns-in-Ok-key
returns-in-Ok-key c =
    let a = c.in-Ok-key.ensures in
    record { forth = onwards_more c.hear.result _ _ c.args.at.pos c.args.at.len _ _ (omega (arith, a.1)) (le_refl _) c.hear.ensures.forth; read = by_comma c.args.v c.hear.result _ _ c.args.text.now (take c.args.at.len c.args.out.now) c.hear.new.out a.0 c.hear.ensures.read }

pub returns : goal.returns
returns c = record { forth = tt; read = no_assignment c.args.v _ c.in_default.ensures c.in_default-key.ensures }
