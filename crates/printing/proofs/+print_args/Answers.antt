use Rattle.std.proofs.Common.{◌∙◌, arith}
use Rattle.printing.proofs.Arms.{first_some, first_none}
use Rattle.printing.proofs.Args.{last_arg, no_args, one_arg, more_args}
use Rattle.printing.proofs.Exits.{fine_wrote, wrote_exit}
use Rattle.printing.proofs.+print_args.Goals as goal

pub returns-then-count-eq0 : goal.returns-then-count-eq0
returns-then-count-eq0 t c = λ es a rest g h e n. no_args es _ (omega arith)

pub returns-then-end-lt4 : goal.returns-then-end-lt4
returns-then-end-lt4 t c = λ es a rest g h e n. let x = last_arg c.args.words.now c.args.end c.args.count es a rest (omega arith) h e n in omega (arith, x.wide)

pub returns-then-count-eq1 : goal.returns-then-count-eq1
returns-then-count-eq1 t c = λ es a rest g h e n.
    one_arg c.args.words.now c.args.end c.args.count es a (last_arg c.args.words.now c.args.end c.args.count es a rest (omega arith) h e n) c.print_expr.result _ _ c.args.low g c.if-count-eq1.true c.print_expr.ensures

pub returns-in_err-first : goal.returns-in_err-first
returns-in_err-first t c = λ es a rest g h e n. let x = last_arg c.args.words.now c.args.end c.args.count es a rest (omega arith) h e n in absurd (first_none c.args.words.now _ c.first_unit.result c.first_unit.ensures (grind arith) x.last x.root)

pub returns-in_err-print_args : goal.returns-in_err-print_args
returns-in_err-print_args t c = λ es a rest g h e n.
    let x = last_arg c.args.words.now c.args.end c.args.count es a rest (omega arith) h e n in
    wrote_exit c.from_residual-in_err-print_args.result c.in_err-print_args.field-0.0 _ _ _ c.from_residual-in_err-print_args.ensures.1
    (fine_wrote c.in_err-print_args.field-0.0 _ _ _ (c.in_err-print_args.ensures x.front a x.rest g x.stands ((first_some c.args.words.now _ c.first_unit.result _ c.first_unit.ensures (grind arith)).1 x.last x.root ∙ x.begins) (let f = x.few in omega arith)))

pub returns : goal.returns
returns t c = λ es a rest g h e n.
    let x = last_arg c.args.words.now c.args.end c.args.count es a rest (omega arith) h e n in
    more_args c.args.words.now c.args.end c.args.count es a x c.print_expr-2.result _ _ c.in_ok-first.first _ _ ((first_some c.args.words.now _ c.first_unit.result _ c.first_unit.ensures (grind arith)).1 x.last x.root) c.if-count-eq1.false
    (c.in_ok-print_args.ensures x.front a x.rest g x.stands ((first_some c.args.words.now _ c.first_unit.result _ c.first_unit.ensures (grind arith)).1 x.last x.root ∙ x.begins) (let f = x.few in omega arith)) c.in_ok-put.ensures c.print_expr-2.ensures
