-- Where the lines stand is left open by the theorems of `words`, so these are instances of them.
use Rattle.words.proofs.Drafting.{runs_via, reads_via}
use Rattle.words.proofs.Costs.{costs_via}
use Rattle.blocks.proofs.blocks_stand.Goals as goal

pub returns : goal.returns
returns g c = record {
  runs = record {
    loading = λ N g' h m at n d room. (runs_via g.M.Marks.clean).loading N g' h m at n d (λ l z. room l);
    saving = λ N g' h m at n ws d off fits room small. (runs_via g.M.Marks.clean).saving N g' h m at n ws d off fits (λ l z. room l) small;
  };
  reads = record { here = reads_via.here; away = reads_via.away };
  costs = record { loading = costs_via.loading; saving = costs_via.saving };
}
