use Rattle.std.proofs.Common.{sym, ◌∙◌, arith}
use Rattle.text.specs.Ahead.{operator_meant}
use Rattle.printing.proofs.Arms.{before_short, operates_some, operates_none, room_arm, leaf_first, not_first, two_first, no_first, before_first}
use Rattle.printing.proofs.+first.Goals as goal

pub first_before-returns-in_err-root_before : goal.first_before-returns-in_err-root_before
first_before-returns-in_err-root_before t c = rw c.from_residual.ensures (before_short c.args.words.now c.args.root c.args.units c.in_err-root_before.ensures)

pub first_before-returns : goal.first_before-returns
first_before-returns t c = before_first c.args.words.now c.args.root c.in_ok-root_before.field-0 c.args.units c.first_unit.result c.in_ok-root_before.ensures c.first_unit.ensures

pub first_unit-returns-then-not-holds : goal.first_unit-returns-then-not-holds
first_unit-returns-then-not-holds t c = room_arm c.args.words.now c.args.root c.if-not-holds.ensures

pub first_unit-returns-in-16 : goal.first_unit-returns-in-16
first_unit-returns-in-16 t c = leaf_first c.args.words.now c.args.root (omega (arith, c.in-16.is))

pub first_unit-returns-in-17 : goal.first_unit-returns-in-17
first_unit-returns-in-17 t c = leaf_first c.args.words.now c.args.root (omega (arith, c.in-17.is))

pub first_unit-returns-in-23 : goal.first_unit-returns-in-23
first_unit-returns-in-23 t c = not_first c.args.words.now c.args.root c.first_before.result c.in-23.is c.first_before.ensures

pub first_unit-returns-in_err-ok-in_default : goal.first_unit-returns-in_err-ok-in_default
first_unit-returns-in_err-ok-in_default t c =
    rw c.from_residual.ensures (no_first c.args.words.now c.args.root (omega arith) (omega arith) (omega arith) (operates_none _ c.try_from.result c.try_from.ensures (sym c.ok.ensures.value ∙ c.in_err-ok-in_default.was)))

pub first_unit-returns-in_ok-ok-in_default : goal.first_unit-returns-in_ok-ok-in_default
first_unit-returns-in_ok-ok-in_default t c =
    two_first c.args.words.now c.args.root c.first_before-in_default.result (operator_meant c.in_ok-ok-in_default.field-0) (operates_some _ c.try_from.result _ c.try_from.ensures (sym c.ok.ensures.value ∙ c.in_ok-ok-in_default.was)) c.first_before-in_default.ensures
