use Rattle.std.proofs.Common.{length, arith}
use Rattle.std.proofs.lemmas.Result.{err_from_is_err_and}
use Rattle.runs.proofs.Arms.{do_past, do_bad, do_many, do_went}
use Rattle.runs.proofs.Filled.{first_filled}
use Rattle.runs.proofs.step.asks.Goals as goal

pub returns-then-var-ge64 : goal.returns-then-var-ge64
returns-then-var-ge64 c = do_past (length c.args.stack.now) c.args.words.now c.args.going.place c.args.vars.now 0 c.args.var c.args.next c.args.way c.args.task c.then-var-ge64.either

pub returns-in_err-count : goal.returns-in_err-count
returns-in_err-count c = let q = err_from_is_err_and c.from_residual.result c.from_residual.ensures.1 in rw q.1 (do_bad (length c.args.stack.now) c.args.words.now c.args.going.place c.args.vars.now 0 c.args.var c.args.next c.args.way c.args.task (omega arith) c.in_err-count.ensures.ran)

pub returns-then-count-gt16 : goal.returns-then-count-gt16
returns-then-count-gt16 c = do_many (length c.args.stack.now) c.args.words.now c.args.going.place c.args.vars.now 0 c.args.var c.args.next c.args.way c.args.task _ _ c.run.new.stack (omega arith) c.in_ok-count.ensures.ran (omega arith)

pub returns : goal.returns
returns c = do_went (length c.args.stack.now) c.args.words.now c.args.going.place c.args.vars.now 0 c.args.var c.args.next c.args.way c.args.task _ _ c.word_at.result c.word_at-2.result c.word_at-3.result c.run.new.stack c.first_args-args.result (omega arith) c.in_ok-count.ensures.ran (omega arith) (omega (arith, c.in_ok-count.ensures.within)) (first_filled c.run.new.stack _ _ (omega arith) (omega (arith, c.in_ok-count.ensures.within)) c.first_args-args.ensures) c.word_at.ensures c.word_at-2.ensures c.word_at-3.ensures
