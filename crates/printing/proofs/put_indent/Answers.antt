use Rattle.printing.proofs.Adds.{wrote_as, spaces}
use Rattle.printing.proofs.put_indent.Goals as goal

pub returns : goal.returns
returns c = wrote_as c.put.result _ _ _ _ (spaces c.args.depth.parts c.args.depth.few) c.put.ensures
