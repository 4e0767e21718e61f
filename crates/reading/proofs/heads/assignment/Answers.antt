use Rattle.std.proofs.Common.{take, le_refl, arith}
use Rattle.std.proofs.lemmas.Result.{err_from_is_err_and}
use Rattle.plans.specs.Plan.{Set}
use Rattle.reading.specs.Tokens.{one_variable, one_same}
use Rattle.reading.specs.Statements.{expr_then, set_behind}
use Rattle.reading.proofs.Steps.{step_bar, step_refused, onwards_more, set_read, set_draft, set_size}
use Rattle.reading.proofs.heads.assignment.Goals as goal

pub returns-in_err-v : goal.returns-in_err-v
returns-in_err-v c =
    let q = err_from_is_err_and c.from_residual.result c.from_residual.ensures.1 in
    rw q.1 (record { forth = tt; read = step_refused one_variable set_behind _ c.in_err-v.ensures })

pub returns-in_err-pos : goal.returns-in_err-pos
returns-in_err-pos c =
    let q = err_from_is_err_and c.from_residual-in_err-pos.result c.from_residual-in_err-pos.ensures.1 in
    rw q.1 (record { forth = tt; read = step_bar one_variable set_behind c.in_ok-v.v.value _ c.in_ok-v.ensures.0 (step_refused one_same (λ x. expr_then (Set c.in_ok-v.v.value)) _ c.in_err-pos.ensures) })

pub returns : goal.returns
returns c =
    let v = c.in_ok-v.v.value in
    record {
      forth = onwards_more c.with_expr.result _ _ c.args.at.pos c.args.at.len _ _ (omega (arith, c.in_ok-v.ensures.1, c.in_ok-pos.ensures.1)) (le_refl _) c.with_expr.ensures.forth;
      read = set_read c.with_expr.result v _ _ _ c.args.text.now (take c.args.at.len c.args.out.now) c.with_expr.new.out c.in_ok-v.ensures.0 c.in_ok-pos.ensures.0 (c.with_expr.ensures.read (Set v) (set_draft v) (set_size v));
    }
