use Rattle.std.proofs.Common.{◌-◌, ap, refl, ◌∙◌, arith}
use Rattle.lines.proofs.Parts.{set_part, part_at}
use Rattle.lines.proofs.journal.settle_one.Goals as goal

pub returns-clause-counts : goal.returns-clause-counts
returns-clause-counts c =
    let xs = c.args.lines.now.items in
    let x = c.in-Some.stores.now in
    let count = part_at (λ x. x.count) xs _ x x (omega (arith, c.in-Some.ensures.variant.0 refl, c.args.lines.now.ok.0)) c.in-Some.ensures.value in
    set_part (λ x. x.count) xs _ _ _ (c.saturating_sub-stores.ensures ∙ ap (λ n. n - 1) count)

pub returns-clause-pushed : goal.returns-clause-pushed
returns-clause-pushed c =
    let xs = c.args.lines.now.items in
    let x = c.in-Some.stores.now in
    let pushed = part_at (λ x. x.pushed) xs _ x x (omega (arith, c.in-Some.ensures.variant.0 refl, c.args.lines.now.ok.0)) c.in-Some.ensures.value in
    set_part (λ x. x.pushed) xs _ _ _ (ap (λ n. n - 1) pushed)
