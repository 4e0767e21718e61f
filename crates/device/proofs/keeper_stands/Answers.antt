use Rattle.device.specs.Safe.{Kept}
use Rattle.device.proofs.Kept.{dark_sense, dark_within, light_within}
use Rattle.device.proofs.keeper_stands.Goals as goal

pub returns : goal.returns
returns g c =
    let k = g.K.Keeper in
    record {
      sensible = λ n lo hi es f.
          let kept : Kept n k.engine (k.sense n) (k.dark n) (k.light n) = g.K.Keeper.kept n lo hi in
          dark_sense n k.engine (k.sense n) (k.dark n) (k.light n) kept f _ kept.starts;
      modest = λ n lo hi.
          let kept : Kept n k.engine (k.sense n) (k.dark n) (k.light n) = g.K.Keeper.kept n lo hi in
          (λ m d. dark_within n k.engine (k.sense n) (k.dark n) (k.light n) kept m d, λ x m c' d. light_within n k.engine (k.sense n) (k.dark n) (k.light n) kept x m c' d);
    }
