use Rattle.std.proofs.Common.{[], length, refl, ap, arith, length-drop}
use Rattle.printing.proofs.Exits.{fine_spoke, wrote_exit}
use Rattle.printing.proofs.Forks.{whole}
use Rattle.printing.proofs.print.Goals as goal

pub returns-in_err-end : goal.returns-in_err-end
returns-in_err-end c = λ b h ok.
    wrote_exit c.from_residual.result c.in_err-end.field-0.0 _ _ _ c.from_residual.ensures.1
    (fine_spoke c.in_err-end.field-0.0 _ _ _ _ _ (c.in_err-end.ensures.text 0 b [] refl (whole c.args.words.now b h) ok))

-- behind a whole plan there are no words
pub returns-then-end-words : goal.returns-then-end-words
returns-then-end-words c = λ b h ok.
    omega (arith, length-drop c.in_ok-end.end c.args.words.now, ap length (c.in_ok-end.ensures.text 0 b [] refl (whole c.args.words.now b h) ok).0)

pub returns : goal.returns
returns c = λ b h ok. (c.in_ok-end.ensures.text 0 b [] refl (whole c.args.words.now b h) ok).1
