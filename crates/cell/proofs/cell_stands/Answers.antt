use Rattle.cell.specs.Crash.{cell_costs}
use Rattle.cell.proofs.cell_stands.Goals as goal

pub returns : goal.returns
returns c = record { sensible = c.keeper_stands.ensures.sensible; modest = c.keeper_stands.ensures.modest; costs = cell_costs }
