use Rattle.std.proofs.Common.{rules, ◌≡◌, ℕ, true, ◌↔◌, All, arith}
use Rattle.text.specs.Words.{lower}
use Rattle.text.proofs.Words.{name_is}
use Rattle.text.proofs.is_name.Goals as goal

pub returns-then-contains : goal.returns-then-contains
returns-then-contains c =
    let letters : (c.all.result ≡ true) ↔ All (λ (b : ℕ). lower b ≡ true) c.args.w.now = search rules in
    name_is c.args.w.now c.all.result (grind arith) (grind arith) letters
