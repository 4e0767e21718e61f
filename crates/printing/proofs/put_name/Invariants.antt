use Rattle.std.proofs.Common.{◌≡◌, ◌++◌, drop, vec_items}
use Rattle.printing.specs.Heads.{letters_in}
use Rattle.printing.proofs.put_name.Given as goal

abbrev pub invariant-loop-letter : goal.invariant-loop-letter
invariant-loop-letter l = vec_items l.out ++ letters_in (drop l.letter-index l.letters) ≡ vec_items l.initial.out ++ letters_in l.letters
