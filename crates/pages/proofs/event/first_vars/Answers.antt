use Rattle.std.proofs.Common.{◌≡◌, ℕ, ◌-◌, List, ◌++◌, length, drop, ◌∙◌, ap₂, arith}
use Rattle.pages.specs.Page.{zeros}
use Rattle.pages.proofs.Turns.{vars_filled}
use Rattle.pages.proofs.event.first_vars.Goals as goal

pub returns : goal.returns
returns c =
    let n : length c.args.given.now - 0 ≡ length c.args.given.now = omega arith in
    ap₂ (λ (l : List ℕ) (k : ℕ). l ++ drop k (zeros 64)) c.copy_from_slice.ensures.after n
    ∙ vars_filled c.args.given.now c.requires
