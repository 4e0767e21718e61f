use Rattle.std.proofs.Common.{arith}
use Rattle.std.proofs.lemmas.Result.{err_from_is_err_and}
use Rattle.text.specs.Token.{TRIES}
use Rattle.reading.specs.Tokens.{one_key}
use Rattle.reading.specs.Statements.{back_tries}
use Rattle.reading.proofs.Steps.{step_refused}
use Rattle.reading.proofs.Tasked.{back_bar_tries, back_bar_number, back_bar_then, back_bar_pause, back_bar_long, back_took, times_good}
use Rattle.reading.proofs.tasks.task_back.Goals as goal

pub returns-in_err-first : goal.returns-in_err-first
returns-in_err-first c =
    let q = err_from_is_err_and c.from_residual.result c.from_residual.ensures.1 in
    rw q.1 (step_refused (one_key TRIES) (λ z. back_tries) _ c.in_err-first.ensures)

pub returns-in_err-tries : goal.returns-in_err-tries
returns-in_err-tries c =
    let q = err_from_is_err_and c.from_residual-in_err-tries.result c.from_residual-in_err-tries.ensures.1 in
    rw q.1 (back_bar_number c.in_ok-first.ensures.0 c.in_err-tries.ensures)

pub returns-then-tries-eq0 : goal.returns-then-tries-eq0
returns-then-tries-eq0 c = back_bar_tries c.in_ok-tries.tries.value c.in_ok-first.ensures.0 c.in_ok-tries.ensures.0 c.then-tries-eq0.either

pub returns-in_err-then : goal.returns-in_err-then
returns-in_err-then c =
    let q = err_from_is_err_and c.from_residual-in_err-then.result c.from_residual-in_err-then.ensures.1 in
    rw q.1 (back_bar_then c.in_ok-tries.tries.value c.in_ok-first.ensures.0 c.in_ok-tries.ensures.0 c.in_err-then.ensures)

pub returns-in_err-pause : goal.returns-in_err-pause
returns-in_err-pause c =
    let q = err_from_is_err_and c.from_residual-in_err-pause.result c.from_residual-in_err-pause.ensures.1 in
    rw q.1 (back_bar_pause c.in_ok-tries.tries.value c.in_ok-first.ensures.0 c.in_ok-tries.ensures.0 c.in_ok-then.ensures.0 c.in_err-pause.ensures)

pub returns-then-pause-gt-LONGEST_PAUSE : goal.returns-then-pause-gt-LONGEST_PAUSE
returns-then-pause-gt-LONGEST_PAUSE c = back_bar_long c.in_ok-tries.tries.value c.in_ok-pause.pause.value c.in_ok-first.ensures.0 c.in_ok-tries.ensures.0 c.in_ok-then.ensures.0 c.in_ok-pause.ensures.0 c.if-pause-gt-LONGEST_PAUSE.true

pub returns : goal.returns
returns c = (back_took c.in_ok-tries.tries.value c.in_ok-pause.pause.value c.in_ok-first.ensures.0 c.in_ok-tries.ensures.0 c.in_ok-then.ensures.0 c.in_ok-pause.ensures.0, times_good c.in_ok-tries.tries.value c.in_ok-pause.pause.value c.if-tries-eq0.false c.if-tries-gt-MOST_TRIES.false c.if-pause-gt-LONGEST_PAUSE.false, (omega (arith, c.in_ok-first.ensures.1, c.in_ok-tries.ensures.1, c.in_ok-then.ensures.1, c.in_ok-pause.ensures.1), c.in_ok-pause.ensures.1.1))
