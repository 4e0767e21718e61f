use Rattle.std.proofs.Common.{◌≡◌, ℕ, ◌-◌, List, ◌++◌, take, drop, replicate, ap, ◌∙◌, arith, length-take-le}
use Rattle.runs.proofs.Filled.{filled}
use Rattle.runs.proofs.step.first_args.Goals as goal

pub returns : goal.returns
returns c =
    let xs : List ℕ = take c.args.count c.args.values.now in
    let n : c.args.count - 0 ≡ c.args.count = omega arith in
    let p : c.copy_from_slice.new.self ≡ xs = c.copy_from_slice.ensures.after ∙ ap (λ (k : ℕ). take k c.args.values.now) n in
    ap (λ (k : ℕ). c.copy_from_slice.new.self ++ drop k (replicate {A = ℕ} 16 0)) n
    ∙ ap (λ (l : List ℕ). l ++ drop c.args.count (replicate {A = ℕ} 16 0)) p
    ∙ filled xs c.args.count (length-take-le c.args.count c.args.values.now c.requires.1) c.requires.0
