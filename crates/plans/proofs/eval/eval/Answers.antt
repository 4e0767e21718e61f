use Rattle.std.proofs.lemmas.Result.{err_from_is_err_and}
use Rattle.plans.proofs.Evals.{not_one, just_one, no_run, never_worth, same_worth, worth_is}
use Rattle.plans.proofs.eval.eval.Goals as goal

pub returns-in_err-count : goal.returns-in_err-count
returns-in_err-count c =
    let p = err_from_is_err_and c.from_residual.result c.from_residual.ensures.1 in
    let flat = no_run _ c.in_err-count.ensures.ran in
    rw p.1 (record { flat = flat; tree = λ e h. never_worth flat (worth_is _ _ _ _ e h) })

pub returns-then-count-ne1 : goal.returns-then-count-ne1
returns-then-count-ne1 c =
    let flat = not_one _ _ _ _ c.in_ok-count.ensures.ran c.if-count-ne1.true in
    record { flat = flat; tree = λ e h. never_worth flat (worth_is _ _ _ _ e h) }

pub returns : goal.returns
returns c =
    let flat = just_one _ _ _ _ c.in_ok-count.ensures.ran c.if-count-ne1.false in
    record { flat = flat; tree = λ e h. same_worth flat (worth_is _ _ _ _ e h) }
