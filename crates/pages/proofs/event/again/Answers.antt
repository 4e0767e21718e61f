use Rattle.std.proofs.Common.{ℕ, ◌+◌, ap, arith}
use Rattle.pages.specs.declared.flow.Standing.TheVariants.{Due}
use Rattle.pages.proofs.Pauses.{pauses}
use Rattle.pages.proofs.event.again.Goals as goal

pub overflow_add-task-2 : goal.overflow_add-task-2
overflow_add-task-2 c =
    let q = pauses c.args.task.attempt c.args.task.pause c.requires.0 c.requires.1 c.requires.2 in
    omega (arith, q.0, q.1)

pub returns : goal.returns
returns c =
    let q = pauses c.args.task.attempt c.args.task.pause c.requires.0 c.requires.1 c.requires.2 in
    let u = c.args.task in
    rw c.ms.ensures.is (ap (λ (n : ℕ). record { kind = u.kind; args = u.args; count = u.count; attempt = u.attempt + 1; tries = u.tries; pause = u.pause; standing = Due (c.args.time + n) }) q.0)
