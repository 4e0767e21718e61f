use Rattle.std.proofs.Common.{ℕ, ◌<◌, ◌≤◌, ◌⊎◌, length, get_or, sym, ◌∙◌, subst, arith}
use Rattle.std.proofs.lemmas.Result.{err_from_is_err_and}
use Rattle.plans.proofs.Evals.{bool_byte_is, halts, no_unit, too_short, push_full, push_turn_lem, load_bad, load_turn, pair_bad, pair_turn, negate_bad, negate_turn}
use Rattle.plans.proofs.eval.run.Goals as goal

pub returns-in_err-left-clause-ran : goal.returns-in_err-left-clause-ran
returns-in_err-left-clause-ran c =
    let past : length c.args.code.now < c.args.at = grind arith in
    rw (err_from_is_err_and c.from_residual.result c.from_residual.ensures.1).1 (too_short _ _ c.args.code.now _ _ (omega arith))

pub returns-then-count-stack-clause-ran : goal.returns-then-count-stack-clause-ran
returns-then-count-stack-clause-ran c = sym c.loop-left.invariant.2 ∙ push_full _ _ _ _ _ _ c.in-len4-up.len_at_least c.loop-left.invariant.1 c.in-Push.ensures (omega arith)

pub returns-then-value-vars-clause-ran : goal.returns-then-value-vars-clause-ran
returns-then-value-vars-clause-ran c = sym c.loop-left.invariant.2 ∙ load_bad _ _ _ _ _ _ c.in-len4-up.len_at_least c.loop-left.invariant.1 c.in-Load.ensures (subst (λ (n : ℕ). (length c.args.vars.now ≤ get_or c.loop-left.left.now 1 0) ⊎ ((get_or c.loop-left.left.now 1 0 < length c.args.vars.now) × (n ≤ c.loop-left.count))) c.loop-left.auto.stack c.then-value-vars.either)

pub returns-then-count-lt2-clause-ran : goal.returns-then-count-lt2-clause-ran
returns-then-count-lt2-clause-ran c = sym c.loop-left.invariant.2 ∙ pair_bad _ _ _ c.in-Pair.how _ _ _ c.in-len4-up.len_at_least c.loop-left.invariant.1 c.in-Pair.ensures (omega arith)

pub returns-then-count-lt1-clause-ran : goal.returns-then-count-lt1-clause-ran
returns-then-count-lt1-clause-ran c = sym c.loop-left.invariant.2 ∙ negate_bad _ _ _ _ _ _ c.in-len4-up.len_at_least c.loop-left.invariant.1 c.in-Negate.ensures (omega arith)

pub returns-in-Halt-clause-ran : goal.returns-in-Halt-clause-ran
returns-in-Halt-clause-ran c = sym c.loop-left.invariant.2 ∙ halts _ _ _ _ _ c.in-len4-up.len_at_least c.loop-left.invariant.1 c.in-Halt.ensures

pub loop-left-preserved-else-count-stack : goal.loop-left-preserved-else-count-stack
loop-left-preserved-else-count-stack c = (omega arith, omega arith, push_turn_lem _ _ _ c.loop-left.left.now _ c.loop-left.stack c.in-len4-up.len_at_least c.loop-left.invariant.1 c.in-Push.ensures (omega arith) c.loop-left.auto.stack ∙ c.loop-left.invariant.2)

pub loop-left-preserved-else-count-stack-2 : goal.loop-left-preserved-else-count-stack-2
loop-left-preserved-else-count-stack-2 c = (omega arith, omega arith, load_turn _ _ _ c.loop-left.left.now _ c.loop-left.stack c.in-len4-up.len_at_least c.loop-left.invariant.1 c.in-Load.ensures (omega arith) (omega arith) c.loop-left.auto.stack ∙ c.loop-left.invariant.2)

pub loop-left-preserved-else-count-lt2 : goal.loop-left-preserved-else-count-lt2
loop-left-preserved-else-count-lt2 c = (omega arith, omega arith, pair_turn _ _ _ c.in-Pair.how c.loop-left.left.now c.loop-left.count c.joined.result c.loop-left.stack c.in-len4-up.len_at_least c.loop-left.invariant.1 c.in-Pair.ensures (omega arith) (omega arith) c.joined.ensures ∙ c.loop-left.invariant.2)

pub loop-left-preserved : goal.loop-left-preserved
loop-left-preserved c = (omega arith, omega arith, negate_turn _ _ _ c.loop-left.left.now c.loop-left.count c.from-in-Negate.result c.loop-left.stack c.in-len4-up.len_at_least c.loop-left.invariant.1 c.in-Negate.ensures (omega arith) (omega arith) (c.from-in-Negate.ensures ∙ bool_byte_is _) ∙ c.loop-left.invariant.2)

pub returns-clause-ran : goal.returns-clause-ran
returns-clause-ran c = sym c.loop-left.invariant.2 ∙ no_unit _ _ _ _ _ c.in_default.len_below
