use borrow.Author.Rules.{rules}
use Rattle.device.specs.Does.{d_load}
use Rattle.cell.specs.Works.{get_work}
use Rattle.cell.proofs.get.Goals as goal

-- no step is named here, so a load of another word is a fact that no search finds
pub returns : goal.returns
unfolding get_work
returns g c = record { did = search (d_load); stays = search rules }
