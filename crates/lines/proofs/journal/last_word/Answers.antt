use Rattle.std.proofs.Common.{refl, ap}
use Rattle.lines.proofs.Parts.{set_part, keep_part}
use Rattle.lines.proofs.journal.last_word.Goals as goal

pub returns-in-Some-clause-lasts : goal.returns-in-Some-clause-lasts
returns-in-Some-clause-lasts c = set_part (λ w. w.lasts) c.args.words.now.items c.args.store.place _ c.args.store.value refl

pub returns-in-Some-clause-sees : goal.returns-in-Some-clause-sees
returns-in-Some-clause-sees c = keep_part (λ w. w.sees) c.args.words.now.items c.args.store.place _ c.in-Some.word.now (ap (λ w. w.sees) c.in-Some.ensures.value)
