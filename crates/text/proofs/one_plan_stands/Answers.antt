use Rattle.text.proofs.one_plan_stands.Goals as goal
use Rattle.text.proofs.Texts.{one_text}

pub returns : goal.returns
returns c = one_text
