use Rattle.std.proofs.Common.{◌≡◌, ◌-◌, ◌≤◌, length, drop}
use Rattle.text.specs.Lexer.{lex, tokens_in}
use Rattle.text.specs.Gaps.{mode_of}
use Rattle.text.proofs.past_blanks.Given as goal

abbrev pub invariant-loop-pos : goal.invariant-loop-pos
invariant-loop-pos l = (l.from ≤ l.pos) × (l.pos ≤ length l.text) × (lex (mode_of l.remark) (drop l.pos l.text) ≡ tokens_in (drop l.from l.text))

abbrev pub decreases-loop-pos : goal.decreases-loop-pos
decreases-loop-pos l = length l.text - l.pos
