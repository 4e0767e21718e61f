use Rattle.std.proofs.Common.{◌∙◌}
use Rattle.pages.proofs.Looks.{one_is}
use Rattle.pages.proofs.look.is_one_of.Goals as goal

pub returns : goal.returns
returns c = c.contains.ensures.value ∙ one_is c.args.kind c.args.kinds.now
