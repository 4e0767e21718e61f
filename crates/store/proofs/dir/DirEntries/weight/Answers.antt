use Rattle.std.proofs.Common.{refl, ◌∙◌, rules, arith}
use Rattle.std.proofs.lemmas.Iterator.{YieldsList-from_range, YieldsList-from_map}
use Rattle.std.proofs.lemmas.Iterator.Consumers.{YieldsList-at, sum_from_yields_List, fits_from_yields_list}
use Rattle.store.specs.Finds.{weighs}
use Rattle.store.proofs.Finds.{weight_sum, weight_fits, weight_low}
use Rattle.store.proofs.dir.DirEntries.weight.Goals as goal

pub sum-requires-clause-fits : goal.sum-requires-clause-fits
sum-requires-clause-fits c =
    let q = c.args.root.now in
    let d = c.args.self.now in
    fits_from_yields_list c.map.result 18446744073709551616
    (YieldsList-from_map _ (weighs q d) (YieldsList-at c.map.ensures.source (YieldsList-from_range 0 1024 1024 refl refl)) c.map.ensures.closure (λ x r t k. search rules))
    (weight_fits q d 1024 (omega arith))

pub returns : goal.returns
returns c =
    let q = c.args.root.now in
    let d = c.args.self.now in
    let l = weight_low q d 0 1024 in
    let is = sum_from_yields_List c.map.result c.sum.result c.sum.ensures.ran
    (YieldsList-from_map _ (weighs q d) (YieldsList-at c.map.ensures.source (YieldsList-from_range 0 1024 1024 refl refl)) c.map.ensures.closure (λ x r t k. search rules)) ∙ weight_sum q d 0 1024 in
    record { is = is; low = omega arith }
