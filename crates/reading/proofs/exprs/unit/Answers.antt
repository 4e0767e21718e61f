use Rattle.reading.proofs.Fours.{four_front}
use Rattle.reading.proofs.exprs.unit.Goals as goal

pub returns : goal.returns
returns c = four_front c.args.out.now c.args.len c.args.kind c.args.value 0 0 c.requires
