use Rattle.std.proofs.Common.{◌≡◌, ◌<◌, drop}
use Rattle.text.specs.Lexer.{number_of, top}
use Rattle.text.specs.Numbers.{number_from}
use Rattle.text.proofs.number_of.Given as goal

abbrev pub invariant-loop-d : goal.invariant-loop-d
invariant-loop-d l = (number_from l.n (drop l.d-index l.w) ≡ number_of l.w) × (l.n < top)
