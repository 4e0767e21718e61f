use Rattle.std.proofs.Common.{ap, refl, arith}
use Rattle.lines.proofs.Parts.{set_part, keep_part, part_at}
use Rattle.lines.proofs.journal.lose_word.Goals as goal

pub returns-in-Some-clause-lasts : goal.returns-in-Some-clause-lasts
returns-in-Some-clause-lasts c = keep_part (λ w. w.lasts) c.args.words.now.items c.args.place _ c.in-Some.word.now (ap (λ w. w.lasts) c.in-Some.ensures.value)

pub returns-in-Some-clause-sees : goal.returns-in-Some-clause-sees
returns-in-Some-clause-sees c =
    let xs = c.args.words.now.items in
    let i = c.args.place in
    set_part (λ w. w.sees) xs i _ _ (part_at (λ w. w.lasts) xs i c.in-Some.word.now c.in-Some.word.now (omega (arith, c.in-Some.ensures.variant.0 refl, c.args.words.now.ok.0)) c.in-Some.ensures.value)
