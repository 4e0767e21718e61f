use Rattle.std.proofs.Common.{arith}
use Rattle.std.proofs.lemmas.Result.{err_from_is_err_and}
use Rattle.text.specs.Token.{DO}
use Rattle.reading.specs.Tokens.{one_key, one_number}
use Rattle.reading.specs.Statements.{front_open, front_kind}
use Rattle.reading.proofs.Steps.{step_refused, step_bar}
use Rattle.reading.proofs.Tasked.{front_bar_kind, front_bar_open, front_took}
use Rattle.reading.proofs.tasks.task_front.Goals as goal

pub returns-in_err-first : goal.returns-in_err-first
returns-in_err-first c =
    let q = err_from_is_err_and c.from_residual.result c.from_residual.ensures.1 in
    rw q.1 (step_refused (one_key DO) (λ z. front_kind) _ c.in_err-first.ensures)

pub returns-in_err-kind : goal.returns-in_err-kind
returns-in_err-kind c =
    let q = err_from_is_err_and c.from_residual-in_err-kind.result c.from_residual-in_err-kind.ensures.1 in
    rw q.1 (step_bar (one_key DO) (λ z. front_kind) tt _ c.in_ok-first.ensures.0 (step_refused one_number front_open _ c.in_err-kind.ensures))

pub returns-then-kind-gt-MOST_KIND : goal.returns-then-kind-gt-MOST_KIND
returns-then-kind-gt-MOST_KIND c = front_bar_kind c.in_ok-kind.kind.value c.in_ok-first.ensures.0 c.in_ok-kind.ensures.0 c.if-kind-gt-MOST_KIND.true

pub returns-in_err-next : goal.returns-in_err-next
returns-in_err-next c =
    let q = err_from_is_err_and c.from_residual-in_err-next.result c.from_residual-in_err-next.ensures.1 in
    rw q.1 (front_bar_open c.in_ok-kind.kind.value c.in_ok-first.ensures.0 c.in_ok-kind.ensures.0 c.in_err-next.ensures)

pub returns : goal.returns
returns c = (front_took c.in_ok-kind.kind.value c.in_ok-first.ensures.0 c.in_ok-kind.ensures.0 c.in_ok-next.ensures.0, omega (arith, c.if-kind-gt-MOST_KIND.false), (omega (arith, c.in_ok-first.ensures.1, c.in_ok-kind.ensures.1, c.in_ok-next.ensures.1), c.in_ok-next.ensures.1.1))
