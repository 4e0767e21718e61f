use Rattle.std.proofs.Common.{◌∙◌, codes, arith}
use Rattle.text.specs.Ahead.{operator_meant}
use Rattle.printing.specs.Levels.{level_meant}
use Rattle.printing.proofs.Adds.{then_wrote}
use Rattle.printing.proofs.Arms.{before_some, room_arm, low_arm, literal_arm, variable_arm, negation_arm, operation_arm, operated, of_left, of_right}
use Rattle.printing.proofs.Ranks.{level_le}
use Rattle.printing.proofs.Exits.{Fine, fine_wrote, wrote_exit}
use Rattle.printing.proofs.+exprs.Goals as goal

pub print_expr-returns-then-not-holds : goal.print_expr-returns-then-not-holds
print_expr-returns-then-not-holds t c = λ e x g. room_arm c.args.words.now c.args.root c.if-not-holds.ensures e x

pub print_expr-returns-then-root-low : goal.print_expr-returns-then-root-low
print_expr-returns-then-root-low t c = low_arm c.args.words.now c.args.low c.args.root c.if-root-low.true

pub print_expr-returns-in-16 : goal.print_expr-returns-in-16
print_expr-returns-in-16 t c = literal_arm c.args.words.now c.args.low c.args.root (level_meant c.args.level) c.put_number.result _ _ c.in-16.is c.put_number.ensures

pub print_expr-returns-in-17 : goal.print_expr-returns-in-17
print_expr-returns-in-17 t c = variable_arm c.args.words.now c.args.low c.args.root (level_meant c.args.level) c.put_variable.result _ _ c.in-17.is c.put_variable.ensures

pub print_expr-returns-in-23 : goal.print_expr-returns-in-23
print_expr-returns-in-23 t c = negation_arm c.args.words.now c.args.low c.args.root (level_meant c.args.level) c.print_not.result _ _ c.in-23.is c.print_not.ensures

pub print_expr-returns-in_default : goal.print_expr-returns-in_default
print_expr-returns-in_default t c =
    operation_arm c.args.words.now c.args.low c.args.root (level_meant c.args.level) c.print_operation.result _ _ (omega arith) (omega arith) (omega arith) c.print_operation.ensures

pub print_not-returns : goal.print_not-returns
print_not-returns t c = λ e h x g. then_wrote c.print_expr.result _ _ _ (codes "not ") _ c.in_ok-put.ensures (c.print_expr.ensures e x g)

pub print_operation-returns-in_err-print_expr : goal.print_operation-returns-in_err-print_expr
print_operation-returns-in_err-print_expr t c = λ o a b x g.
    wrote_exit c.from_residual-in_err-print_expr.result c.in_err-print_expr.field-0.0 _ _ _ c.from_residual-in_err-print_expr.ensures.1
    (of_left c.args.words.now c.args.low c.args.root c.in_ok-left.left (Fine c.in_err-print_expr.field-0.0) (before_some _ _ _ _ c.root_before.ensures (grind arith)) o a b x g
    (λ e y h. fine_wrote c.in_err-print_expr.field-0.0 _ _ _ (c.in_err-print_expr.ensures e y h)))

pub print_operation-returns-in_err-print_expr-2 : goal.print_operation-returns-in_err-print_expr-2
print_operation-returns-in_err-print_expr-2 t c = λ o a b x g.
    wrote_exit c.from_residual-in_err-print_expr-2.result c.in_err-print_expr-2.field-0.0 _ _ _ c.from_residual-in_err-print_expr-2.ensures.1
    (of_right c.args.words.now c.args.low c.args.root c.in_ok-left.left (Fine c.in_err-print_expr-2.field-0.0) (before_some _ _ _ _ c.root_before.ensures (grind arith)) o a b x
    (λ e y h. fine_wrote c.in_err-print_expr-2.field-0.0 _ _ _ (c.in_err-print_expr-2.ensures e y h)))

pub print_operation-returns : goal.print_operation-returns
print_operation-returns t c =
    operated c.args.words.now c.args.low c.args.root c.in_ok-left.left (operator_meant c.in_ok-operator.operator) _ (level_meant c.args.level) (level_meant c.own_level.result) (level_meant c.own_level-2.result) (level_meant c.right_level.result)
    c.put_unless-2.result _ _ _ _ _ _ c.in_ok-operator.ensures (before_some _ _ _ _ c.root_before.ensures (grind arith)) (c.le-fits.ensures ∙ level_le c.own_level.result c.args.level) c.own_level.ensures c.own_level-2.ensures c.right_level.ensures
    c.in_ok-put_unless.ensures c.in_ok-print_expr.ensures c.in_ok-put_operator.ensures c.in_ok-print_expr-2.ensures c.put_unless-2.ensures
