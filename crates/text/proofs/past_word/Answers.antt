use Rattle.std.proofs.Common.{rules, ◌≡◌, ◌-◌, true, false, drop, length, take, arith}
use borrow.Author.Tests.{tests}
use Rattle.std.proofs.lemmas.Iterator.{IsFirst-from_position, YieldsList-from_slice}
use Rattle.text.specs.Lexer.{word_byte}
use Rattle.text.proofs.Turns.{word_taken}
use Rattle.text.proofs.past_word.Goals as goal

pub returns-clause-same : goal.returns-clause-same
returns-clause-same c =
    word_taken c.args.text.now c.args.from c.position.result c.unwrap_or.result (omega arith)
    (IsFirst-from_position _ _ _ (λ b. word_byte b ≡ false) (λ b. word_byte b ≡ true) c.position.ensures.ran
    (YieldsList-from_slice (take (length c.args.text.now - c.args.from) (drop c.args.from c.args.text.now)) cc) (λ x q k. search (rules, tests)) (λ x q k. search (rules, tests)))
    c.unwrap_or.ensures
