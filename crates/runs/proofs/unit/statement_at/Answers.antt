use Rattle.std.proofs.Common.{arith}
use Rattle.runs.proofs.Heads.{past_words, in_words}
use Rattle.runs.proofs.unit.statement_at.Goals as goal

pub returns-then-at-words : goal.returns-then-at-words
returns-then-at-words c = past_words c.args.words.now c.args.at (omega arith)

pub returns : goal.returns
returns c = in_words c.args.words.now c.args.at _ _ _ c.statement_of.result c.statement_of.ensures c.word_at.ensures c.word_at-2.ensures c.word_at-3.ensures
