use Rattle.device.proofs.Image.{rules}
use Rattle.device.proofs.images_stand.Goals as goal

pub returns : goal.returns
returns g c = rules g.M.Marks.clean g.M.Marks.settled
