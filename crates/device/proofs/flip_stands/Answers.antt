use Rattle.device.proofs.Commit.{flip_stands}
use Rattle.device.proofs.Costs.{flip_costs}
use Rattle.device.proofs.flip_stands.Goals as goal

pub returns : goal.returns
returns g c =
    record {
      stands = flip_stands g.L.Layout.reads g.L.Layout.counts g.L.Layout.rests g.row.A.Denot;
      costs = flip_costs g.row.A.Denot;
    }
