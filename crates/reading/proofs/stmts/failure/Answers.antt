use Rattle.std.proofs.Common.{◌≡◌, ℕ, ◌+◌, List, [], ◌∷◌, ◌++◌, take, sym, refl, subst, arith}
use Rattle.reading.proofs.Fours.{four_front}
use Rattle.reading.proofs.stmts.failure.Goals as goal

pub returns : goal.returns
returns c = (refl, refl, omega arith, subst (λ (l : List ℕ). take (c.args.at.len + 4) l ≡ take c.args.at.len c.args.out.now ++ (11 ∷ 0 ∷ 1 ∷ 0 ∷ [])) (sym c.head.ensures) (four_front c.args.out.now c.args.at.len 11 0 1 0 (omega arith)))
