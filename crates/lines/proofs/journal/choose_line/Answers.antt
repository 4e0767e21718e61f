use Rattle.std.proofs.Common.{◌≤◌, ap, refl, subst, arith}
use Rattle.lines.proofs.Parts.{set_part, keep_part, part_at}
use Rattle.lines.proofs.Turns.{set_within}
use Rattle.lines.proofs.journal.choose_line.Goals as goal

pub returns-in-Some-clause-counts : goal.returns-in-Some-clause-counts
returns-in-Some-clause-counts c = keep_part (λ x. x.count) c.args.lines.now.items c.args.line _ c.in-Some.stores.now (ap (λ x. x.count) c.in-Some.ensures.value)

pub returns-in-Some-clause-within : goal.returns-in-Some-clause-within
returns-in-Some-clause-within c h =
    let xs = c.args.lines.now.items in
    let count = part_at (λ x. x.count) xs c.args.line c.in-Some.stores.now c.in-Some.stores.now (omega (arith, c.in-Some.ensures.variant.0 refl, c.args.lines.now.ok.0)) c.in-Some.ensures.value in
    set_within _ _ _ c.args.line c.chosen-stores.result (set_part (λ x. x.pushed) xs c.args.line _ c.chosen-stores.result refl) (subst (λ n. c.chosen-stores.result ≤ n) count c.chosen-stores.ensures) h
