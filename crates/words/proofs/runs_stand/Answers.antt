use Rattle.words.proofs.Drafting.{runs_via, reads_via, runs, reads}
use Rattle.words.proofs.Costs.{costs_via, runs_cost}
use Rattle.words.proofs.runs_stand.Goals as goal

pub returns : goal.returns
returns g c = record {
  runs_via = runs_via g.M.Marks.clean;
  reads_via = reads_via;
  costs_via = costs_via;
  runs = runs g.M.Marks.clean;
  reads = reads;
  costs = runs_cost;
}
