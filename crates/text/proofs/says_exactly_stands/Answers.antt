use Rattle.text.proofs.says_exactly_stands.Goals as goal
use Rattle.text.proofs.Texts.{sayable, printed_is}

pub returns : goal.returns
returns c = λ limit b. (λ bs x. sayable limit bs b x, λ s l. printed_is limit b s l)
