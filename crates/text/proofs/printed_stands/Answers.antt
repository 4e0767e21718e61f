use Rattle.text.proofs.printed_stands.Goals as goal
use Rattle.text.proofs.Texts.{sayable, printed_is}

pub returns : goal.returns
returns c = λ limit bs b x l. printed_is limit b (sayable limit bs b x) l
