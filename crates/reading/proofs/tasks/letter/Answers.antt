use Rattle.std.proofs.Common.{rules, ◌≡◌, ◌∙◌, get_or}
use Rattle.reading.proofs.Tasked.{name_at}
use Rattle.reading.proofs.tasks.letter.Goals as goal

pub returns : goal.returns
returns c = let same : c.map_or.result ≡ get_or c.args.name.now c.args.i 0 = search rules in same ∙ name_at c.args.name.now c.args.i c.requires
