use Rattle.std.proofs.Common.{suc, arith}
use Rattle.std.proofs.lemmas.Result.{IfOk-from_err, IfOk-weaker}
use Rattle.printing.specs.Heads.{told}
use Rattle.printing.proofs.Exits.{fine_spoke, spoke_exit}
use Rattle.printing.proofs.Heads.{sleep_value, return_value}
use Rattle.printing.proofs.Parts.{stmt_arm, no_kind, none_of, k_set, k_do, k_sleep, k_hear, k_if, k_while, k_guard, k_return, goes_start, goes_end, goes_room, goes_more}
use Rattle.printing.proofs.Forks.{fail_arm, if_at_lem, while_at_lem, guard_at_lem, if_said, while_said, guard_said, braced_said, if_first, if_other, while_first, guard_first, guard_other, hear_word}
use Rattle.printing.proofs.+parts.Goals as goal

pub print_statement-returns-in-1 : goal.print_statement-returns-in-1
unfolding told
print_statement-returns-in-1 t c =
    record {
      forth = c.print_set.ensures.forth;
      text = λ d s rest q x ok. stmt_arm c.args.words.now c.args.at c.args.depth.parts c.print_set.result _ _ _ k_set c.in-1.is c.in_ok-put_indent.ensures d s rest q x ok
          (λ v e y k. c.print_set.ensures.text d v e rest y);
    }

pub print_statement-returns-in-2 : goal.print_statement-returns-in-2
unfolding told
print_statement-returns-in-2 t c =
    record {
      forth = c.print_do.ensures.forth;
      text = λ d s rest q x ok. stmt_arm c.args.words.now c.args.at c.args.depth.parts c.print_do.result _ _ _ k_do c.in-2.is c.in_ok-put_indent.ensures d s rest q x ok
          (λ v k es n p y h. c.print_do.ensures.text d v k es n p rest y);
    }

pub print_statement-returns-in-3 : goal.print_statement-returns-in-3
unfolding told
print_statement-returns-in-3 t c =
    record {
      forth = IfOk-weaker c.print_line.result _ _ (λ p h. omega arith) c.print_line.ensures.forth;
      text = λ d s rest q x ok. stmt_arm c.args.words.now c.args.at c.args.depth.parts c.print_line.result _ _ _ k_sleep c.in-3.is c.in_ok-put_indent.ensures d s rest q x ok
          (λ e y k. c.print_line.ensures.text e rest (sleep_value c.args.words.now c.args.at e rest y) y.stop);
    }

pub print_statement-returns-in-4 : goal.print_statement-returns-in-4
unfolding told
print_statement-returns-in-4 t c =
    record {
      forth = c.print_hear.ensures.forth;
      text = λ d s rest q x ok. stmt_arm c.args.words.now c.args.at c.args.depth.parts c.print_hear.result _ _ _ k_hear c.in-4.is c.in_ok-put_indent.ensures d s rest q x ok
          (λ v w n e y k. c.print_hear.ensures.text d v w n e rest y (hear_word v w n e k));
    }

pub print_statement-returns-in-5 : goal.print_statement-returns-in-5
unfolding told
print_statement-returns-in-5 t c =
    record {
      forth = c.print_if.ensures.forth;
      text = λ d s rest q x ok. stmt_arm c.args.words.now c.args.at c.args.depth.parts c.print_if.result _ _ _ k_if c.in-5.is c.in_ok-put_indent.ensures d s rest q x ok
          (λ e a b y k. c.print_if.ensures.text d e a b rest q y (if_first e a b k) (if_other e a b k));
    }

pub print_statement-returns-in-6 : goal.print_statement-returns-in-6
unfolding told
print_statement-returns-in-6 t c =
    record {
      forth = c.print_while.ensures.forth;
      text = λ d s rest q x ok. stmt_arm c.args.words.now c.args.at c.args.depth.parts c.print_while.result _ _ _ k_while c.in-6.is c.in_ok-put_indent.ensures d s rest q x ok
          (λ e a y k. c.print_while.ensures.text d e a rest q y (while_first e a k));
    }

pub print_statement-returns-in-8 : goal.print_statement-returns-in-8
unfolding told
print_statement-returns-in-8 t c =
    record {
      forth = c.print_guard.ensures.forth;
      text = λ d s rest q x ok. stmt_arm c.args.words.now c.args.at c.args.depth.parts c.print_guard.result _ _ _ k_guard c.in-8.is c.in_ok-put_indent.ensures d s rest q x ok
          (λ a b y k. c.print_guard.ensures.text d a b rest q y (guard_first a b k) (guard_other a b k));
    }

pub print_statement-returns-in-10 : goal.print_statement-returns-in-10
unfolding told
print_statement-returns-in-10 t c =
    record {
      forth = IfOk-weaker c.print_line-in-10.result _ _ (λ p h. omega arith) c.print_line-in-10.ensures.forth;
      text = λ d s rest q x ok. stmt_arm c.args.words.now c.args.at c.args.depth.parts c.print_line-in-10.result _ _ _ k_return c.in-10.is c.in_ok-put_indent.ensures d s rest q x ok
          (λ e y k. c.print_line-in-10.ensures.text e rest (return_value c.args.words.now c.args.at e rest y) y.stop);
    }

pub print_statement-returns-in_ok-put-in-11 : goal.print_statement-returns-in_ok-put-in-11
unfolding told
print_statement-returns-in_ok-put-in-11 t c =
    record {
      forth = omega arith;
      text = λ d s rest q x ok. fail_arm c.args.words.now c.args.at c.args.depth.parts _ _ _ c.in-11.is c.in_ok-put_indent.ensures c.in_ok-put-in-11.ensures d s rest q x ok;
    }

pub print_statement-returns-in_default : goal.print_statement-returns-in_default
print_statement-returns-in_default t c =
    record { forth = tt; text = λ d s rest q x ok. no_kind c.args.words.now c.args.at s rest x (none_of _ (omega arith) (omega arith) (omega arith) (omega arith) (omega arith) (omega arith) (omega arith) (omega arith) (omega arith)) }

pub print_if-returns-in_err-first : goal.print_if-returns-in_err-first
print_if-returns-in_err-first t c =
    record {
      forth = IfOk-from_err c.from_residual-in_err-first.result _ c.from_residual-in_err-first.ensures.0;
      text = λ d e a b rest q x ha hb. let y = if_at_lem c.args.words.now c.args.at e a b rest x in spoke_exit c.from_residual-in_err-first.result c.in_err-first.field-0.0 _ _ _ _ _ c.from_residual-in_err-first.ensures.1
          (fine_spoke c.in_err-first.field-0.0 _ _ _ _ _ (c.in_err-first.ensures.text e y.behind y.value y.stop));
    }

pub print_if-returns-in_err-other : goal.print_if-returns-in_err-other
print_if-returns-in_err-other t c =
    record {
      forth = IfOk-from_err c.from_residual-in_err-other.result _ c.from_residual-in_err-other.ensures.0;
      text = λ d e a b rest q x ha hb. let y = if_at_lem c.args.words.now c.args.at e a b rest x in spoke_exit c.from_residual-in_err-other.result c.in_err-other.field-0.0 _ _ _ _ _ c.from_residual-in_err-other.ensures.1
          (fine_spoke c.in_err-other.field-0.0 _ _ _ _ _ (c.in_err-other.ensures.text d a y.middle q (y.first c.in_ok-first.first (c.in_ok-first.ensures.text e y.behind y.value y.stop).0) ha));
    }

pub print_if-returns-in_err-end : goal.print_if-returns-in_err-end
print_if-returns-in_err-end t c =
    record {
      forth = IfOk-from_err c.from_residual-in_err-end.result _ c.from_residual-in_err-end.ensures.0;
      text = λ d e a b rest q x ha hb. let y = if_at_lem c.args.words.now c.args.at e a b rest x in spoke_exit c.from_residual-in_err-end.result c.in_err-end.field-0.0 _ _ _ _ _ c.from_residual-in_err-end.ensures.1
          (fine_spoke c.in_err-end.field-0.0 _ _ _ _ _ (c.in_err-end.ensures.text d b rest q (y.other c.in_ok-other.other (c.in_ok-other.ensures.text d a y.middle q (y.first c.in_ok-first.first (c.in_ok-first.ensures.text e y.behind y.value y.stop).0) ha).0) hb));
    }

pub print_if-returns : goal.print_if-returns
print_if-returns t c =
    record {
      forth = omega (arith, c.in_ok-first.ensures.forth, c.in_ok-other.ensures.forth, c.in_ok-end.ensures.forth);
      text = λ d e a b rest q x ha hb. let y = if_at_lem c.args.words.now c.args.at e a b rest x in ((c.in_ok-end.ensures.text d b rest q (y.other c.in_ok-other.other (c.in_ok-other.ensures.text d a y.middle q (y.first c.in_ok-first.first (c.in_ok-first.ensures.text e y.behind y.value y.stop).0) ha).0) hb).0, if_said d e a b _ _ _ _ _ _ _ c.in_ok-put.ensures (c.in_ok-first.ensures.text e y.behind y.value y.stop).1 (c.in_ok-other.ensures.text d a y.middle q (y.first c.in_ok-first.first (c.in_ok-first.ensures.text e y.behind y.value y.stop).0) ha).1 c.in_ok-put-2.ensures (c.in_ok-end.ensures.text d b rest q (y.other c.in_ok-other.other (c.in_ok-other.ensures.text d a y.middle q (y.first c.in_ok-first.first (c.in_ok-first.ensures.text e y.behind y.value y.stop).0) ha).0) hb).1 c.in_ok-put-3.ensures);
    }

pub print_while-returns-in_err-first : goal.print_while-returns-in_err-first
print_while-returns-in_err-first t c =
    record {
      forth = IfOk-from_err c.from_residual-in_err-first.result _ c.from_residual-in_err-first.ensures.0;
      text = λ d e a rest q x ha. let y = while_at_lem c.args.words.now c.args.at e a rest x in spoke_exit c.from_residual-in_err-first.result c.in_err-first.field-0.0 _ _ _ _ _ c.from_residual-in_err-first.ensures.1
          (fine_spoke c.in_err-first.field-0.0 _ _ _ _ _ (c.in_err-first.ensures.text e y.behind y.value y.stop));
    }

pub print_while-returns-in_err-end : goal.print_while-returns-in_err-end
print_while-returns-in_err-end t c =
    record {
      forth = IfOk-from_err c.from_residual-in_err-end.result _ c.from_residual-in_err-end.ensures.0;
      text = λ d e a rest q x ha. let y = while_at_lem c.args.words.now c.args.at e a rest x in spoke_exit c.from_residual-in_err-end.result c.in_err-end.field-0.0 _ _ _ _ _ c.from_residual-in_err-end.ensures.1
          (fine_spoke c.in_err-end.field-0.0 _ _ _ _ _ (c.in_err-end.ensures.text d a rest q (y.first c.in_ok-first.first (c.in_ok-first.ensures.text e y.behind y.value y.stop).0) ha));
    }

pub print_while-returns : goal.print_while-returns
print_while-returns t c =
    record {
      forth = omega (arith, c.in_ok-first.ensures.forth, c.in_ok-end.ensures.forth);
      text = λ d e a rest q x ha. let y = while_at_lem c.args.words.now c.args.at e a rest x in ((c.in_ok-end.ensures.text d a rest q (y.first c.in_ok-first.first (c.in_ok-first.ensures.text e y.behind y.value y.stop).0) ha).0, while_said d e a _ _ _ _ _ c.in_ok-put.ensures (c.in_ok-first.ensures.text e y.behind y.value y.stop).1 (c.in_ok-end.ensures.text d a rest q (y.first c.in_ok-first.first (c.in_ok-first.ensures.text e y.behind y.value y.stop).0) ha).1 c.in_ok-put-2.ensures);
    }

pub print_guard-returns-in_err-other : goal.print_guard-returns-in_err-other
print_guard-returns-in_err-other t c =
    record {
      forth = IfOk-from_err c.from_residual-in_err-other.result _ c.from_residual-in_err-other.ensures.0;
      text = λ d a b rest q x ha hb. let y = guard_at_lem c.args.words.now c.args.at a b rest x in spoke_exit c.from_residual-in_err-other.result c.in_err-other.field-0.0 _ _ _ _ _ c.from_residual-in_err-other.ensures.1
          (fine_spoke c.in_err-other.field-0.0 _ _ _ _ _ (c.in_err-other.ensures.text d a y.middle q y.first ha));
    }

pub print_guard-returns-in_err-end : goal.print_guard-returns-in_err-end
print_guard-returns-in_err-end t c =
    record {
      forth = IfOk-from_err c.from_residual-in_err-end.result _ c.from_residual-in_err-end.ensures.0;
      text = λ d a b rest q x ha hb. let y = guard_at_lem c.args.words.now c.args.at a b rest x in spoke_exit c.from_residual-in_err-end.result c.in_err-end.field-0.0 _ _ _ _ _ c.from_residual-in_err-end.ensures.1
          (fine_spoke c.in_err-end.field-0.0 _ _ _ _ _ (c.in_err-end.ensures.text d b rest q (y.other c.in_ok-other.other (c.in_ok-other.ensures.text d a y.middle q y.first ha).0) hb));
    }

pub print_guard-returns : goal.print_guard-returns
print_guard-returns t c =
    record {
      forth = omega (arith, c.in_ok-other.ensures.forth, c.in_ok-end.ensures.forth);
      text = λ d a b rest q x ha hb. let y = guard_at_lem c.args.words.now c.args.at a b rest x in ((c.in_ok-end.ensures.text d b rest q (y.other c.in_ok-other.other (c.in_ok-other.ensures.text d a y.middle q y.first ha).0) hb).0, guard_said d a b _ _ _ _ _ _ c.in_ok-put.ensures (c.in_ok-other.ensures.text d a y.middle q y.first ha).1 c.in_ok-put-2.ensures (c.in_ok-end.ensures.text d b rest q (y.other c.in_ok-other.other (c.in_ok-other.ensures.text d a y.middle q y.first ha).0) hb).1 c.in_ok-put-3.ensures);
    }

pub print_braced-returns-in_err-end : goal.print_braced-returns-in_err-end
print_braced-returns-in_err-end t c =
    record {
      forth = IfOk-from_err c.from_residual-in_err-end.result _ c.from_residual-in_err-end.ensures.0;
      text = λ d b rest q x hb. spoke_exit c.from_residual-in_err-end.result c.in_err-end.field-0.0 _ _ _ _ _ c.from_residual-in_err-end.ensures.1
          (fine_spoke c.in_err-end.field-0.0 _ _ _ _ _ (c.in_err-end.ensures.text (suc d) b rest (omega arith) x hb));
    }

pub print_braced-returns : goal.print_braced-returns
print_braced-returns t c =
    record {
      forth = omega (arith, c.in_ok-end.ensures.forth);
      text = λ d b rest q x hb. ((c.in_ok-end.ensures.text (suc d) b rest (omega arith) x hb).0, braced_said d c.args.depth.parts b _ _ _ _ _ q c.in_ok-put.ensures (c.in_ok-end.ensures.text (suc d) b rest (omega arith) x hb).1 c.in_ok-put_indent.ensures c.in_ok-put-2.ensures);
    }

pub print_part-loop-depth-init : goal.print_part-loop-depth-init
print_part-loop-depth-init t c = (omega arith, λ d b rest q x h. goes_start c.args.words.now c.args.at d b rest _ x h)

pub print_part-returns-then-not-holds : goal.print_part-returns-then-not-holds
print_part-returns-then-not-holds t c =
    record { forth = tt; text = λ d b rest q x h. goes_room c.args.words.now c.loop-depth.here d b rest _ _ c.if-not-holds.ensures (c.loop-depth.invariant.1 d b rest q x h) }

pub print_part-returns-then-words-here-eq-PART : goal.print_part-returns-then-words-here-eq-PART
print_part-returns-then-words-here-eq-PART t c =
    record { forth = omega (arith, c.loop-depth.invariant.0); text = λ d b rest q x h. goes_end c.args.words.now c.loop-depth.here d b rest _ _ c.if-words-here-eq-PART.true (c.loop-depth.invariant.1 d b rest q x h) }

pub print_part-returns-in_err-here : goal.print_part-returns-in_err-here
print_part-returns-in_err-here t c =
    record {
      forth = IfOk-from_err c.from_residual.result _ c.from_residual.ensures.0;
      text = λ d b rest q x h. let y = goes_more c.args.words.now c.loop-depth.here d b rest _ _ c.if-words-here-eq-PART.false (c.loop-depth.invariant.1 d b rest q x h) in
          spoke_exit c.from_residual.result c.in_err-here.field-0.0 _ _ _ _ _ c.from_residual.ensures.1
          (fine_spoke c.in_err-here.field-0.0 _ _ _ _ _ (c.in_err-here.ensures.text d y.one y.behind q y.stands y.fine));
    }

pub print_part-loop-depth-preserved : goal.print_part-loop-depth-preserved
print_part-loop-depth-preserved t c = (
  omega (arith, c.loop-depth.invariant.0, c.in_ok-here.ensures.forth),
  λ d b rest q x h. let y = goes_more c.args.words.now c.loop-depth.here d b rest _ _ c.if-words-here-eq-PART.false (c.loop-depth.invariant.1 d b rest q x h) in
      let z = c.in_ok-here.ensures.text d y.one y.behind q y.stands y.fine in y.goes _ _ z.0 z.1,
)
