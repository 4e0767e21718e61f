use Rattle.std.proofs.Common.{ℕ, eqb, sym, ◌∙◌, rules, tests, ne_eqb}
use Rattle.std.proofs.lemmas.Iterator.{YieldsList-from_slice, YieldsList-from_zip}
use Rattle.std.proofs.lemmas.Iterator.Search.{all_from_yields_List}
use Rattle.store.proofs.Finds.{same_long, same_all}
use Rattle.store.proofs.dir.same_key.Goals as goal

pub returns-then-key-words : goal.returns-then-key-words
returns-then-key-words c =
    all_from_yields_List (λ (p : ℕ × ℕ). eqb p.0 p.1) c.all.new.self _ _ c.all.ensures.ran
    (YieldsList-from_zip (YieldsList-from_slice c.args.key.now cc) (YieldsList-from_slice c.args.words.now cc))
    (λ x b q k. search (rules, tests))
    ∙ same_all c.args.key.now c.args.words.now c.if-key-words.true

pub returns-else-key-words : goal.returns-else-key-words
returns-else-key-words c = ne_eqb _ _ c.if-key-words.false ∙ sym (same_long c.args.key.now c.args.words.now c.if-key-words.false)
