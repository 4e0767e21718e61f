use Rattle.std.proofs.Common.{◌-◌, take, drop, arith}
use Rattle.std.proofs.lemmas.Result.{err_from_is_err_and}
use Rattle.reading.specs.Tokens.{one_variable}
use Rattle.reading.specs.Statements.{heard_same}
use Rattle.reading.proofs.Steps.{step_refused}
use Rattle.reading.proofs.Tasked.{heard_bar_same, heard_bar_sign, heard_bar_word, heard_bar_name, heard_bar_for, heard_took}
use Rattle.reading.proofs.tasks.hearing_front.Goals as goal

pub returns-in_err-other : goal.returns-in_err-other
returns-in_err-other c =
    let q = err_from_is_err_and c.from_residual.result c.from_residual.ensures.1 in
    rw q.1 (step_refused one_variable heard_same _ c.in_err-other.ensures)

pub returns-then-other-v : goal.returns-then-other-v
returns-then-other-v c = heard_bar_same c.args.v c.in_ok-other.other.value c.in_ok-other.ensures.0 c.if-other-v.true

pub returns-in_err-hears : goal.returns-in_err-hears
returns-in_err-hears c =
    let q = err_from_is_err_and c.from_residual-in_err-hears.result c.from_residual-in_err-hears.ensures.1 in
    rw q.1 (heard_bar_sign c.args.v c.in_ok-other.other.value c.in_ok-other.ensures.0 c.in_err-hears.ensures)

pub returns-in_err-first : goal.returns-in_err-first
returns-in_err-first c =
    let q = err_from_is_err_and c.from_residual-in_err-first.result c.from_residual-in_err-first.ensures.1 in
    rw q.1 (heard_bar_word c.args.v c.in_ok-other.other.value c.in_ok-other.ensures.0 c.in_ok-hears.ensures.0 c.in_err-first.ensures)

pub returns-in_err-name : goal.returns-in_err-name
returns-in_err-name c =
    let q = err_from_is_err_and c.from_residual-in_err-name.result c.from_residual-in_err-name.ensures.1 in
    rw q.1 (heard_bar_name c.args.v c.in_ok-other.other.value c.in_ok-other.ensures.0 c.in_ok-hears.ensures.0 c.in_ok-first.ensures.0 c.in_err-name.ensures)

pub returns-in_err-next : goal.returns-in_err-next
returns-in_err-next c =
    let q = err_from_is_err_and c.from_residual-in_err-next.result c.from_residual-in_err-next.ensures.1 in
    rw q.1 (heard_bar_for c.args.v c.in_ok-other.other.value (take (c.in_ok-name.name.next - c.in_ok-name.name.start) (drop c.in_ok-name.name.start c.args.text.now)) c.in_ok-other.ensures.0 c.in_ok-hears.ensures.0 c.in_ok-first.ensures.0 c.in_ok-name.ensures.0 c.in_err-next.ensures)

pub returns : goal.returns
returns c =
    let a = c.in_ok-other.ensures.1 in
    let b = c.in_ok-hears.ensures.1 in
    let d = c.in_ok-first.ensures.1 in
    let e = c.in_ok-name.ensures in
    let f = c.in_ok-next.ensures.1 in
    (heard_took c.in_ok-other.other.value (take (c.in_ok-name.name.next - c.in_ok-name.name.start) (drop c.in_ok-name.name.start c.args.text.now)) c.in_ok-other.ensures.0 c.in_ok-hears.ensures.0 c.in_ok-first.ensures.0 c.in_ok-name.ensures.0 c.in_ok-next.ensures.0, c.if-other-v.false, (omega (arith, e.1), f.1), e.2, e.1.1)
