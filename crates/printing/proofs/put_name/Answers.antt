use Rattle.std.proofs.Common.{◌≡◌, get_or, sym, arith}
use Rattle.printing.proofs.Units.{letter_added, letter_stop, letter_end, letters_done, letter_large}
use Rattle.printing.proofs.put_name.Goals as goal

pub returns-in_err-try_from : goal.returns-in_err-try_from
returns-in_err-try_from c = λ h. absurd (letter_large c.args.letters.now c.loop-letter.letter-index h (grind arith))

pub loop-letter-preserved : goal.loop-letter-preserved
loop-letter-preserved c = letter_added _ _ _ c.args.letters.now c.loop-letter.letter-index c.loop-letter-test.true c.if-letter-eq0.false c.loop-letter.invariant (let same : c.in_ok-try_from.field-0 ≡ get_or c.args.letters.now c.loop-letter.letter-index 0 = grind arith in rw (sym same) c.in_ok-put.ensures)

pub returns-after-loop-letter : goal.returns-after-loop-letter
returns-after-loop-letter c = λ h. letters_done _ _ _ (letter_end c.args.letters.now c.loop-letter.letter-index c.loop-letter-test.false) c.loop-letter.invariant

pub returns-then-letter-eq0 : goal.returns-then-letter-eq0
returns-then-letter-eq0 c = λ h. letters_done _ _ _ (letter_stop c.args.letters.now c.loop-letter.letter-index c.loop-letter-test.true c.if-letter-eq0.true) c.loop-letter.invariant
