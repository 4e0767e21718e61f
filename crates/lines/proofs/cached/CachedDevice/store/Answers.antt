use Rattle.std.proofs.Common.{◌≡◌, ◌+◌, ◌*◌, true, cond, not, [], ◌∷◌, ◌++◌, is_ok, vec_items, refl, ap, ◌∙◌, arith}
use Rattle.lines.specs.declared.journal.Store.{Store}
use Rattle.lines.proofs.Parts.{set_part, keep_part, part_at}
use Rattle.lines.proofs.Caches.{store_step}
use Rattle.lines.proofs.cached.CachedDevice.store.Goals as goal

pub returns : goal.returns
returns c =
    let s = c.args.self.now in
    let ws = s.words.items in
    let xs = s.lines.items in
    let x : Store = record { place = c.args.line * 8 + c.args.word; value = c.args.value } in
    let ok : is_ok c.push.result ≡ true = c.is_err.ensures.negation ∙ ap not c.if-is_err.false in
    let w = c.index_mut.result.now in
    let y = c.index.result.now in
    let z = c.index_mut-2.result.now in
    let count = part_at (λ x. x.count) xs c.args.line y y (omega (arith, s.eight, s.lines.ok.0)) c.index.ensures in
    store_step s _ c.args.line c.args.word c.args.value x refl refl (omega arith) (omega arith)
    (keep_part (λ w. w.lasts) ws x.place _ w (ap (λ w. w.lasts) c.index_mut.ensures.value))
    (set_part (λ w. w.sees) ws x.place _ _ refl)
    (c.push.ensures.items ∙ ap (λ b. cond b (vec_items s.journal ++ (x ∷ [])) (vec_items s.journal)) ok)
    (set_part (λ x. x.count) xs c.args.line _ _ (c.in-Some.ensures.1 ∙ ap (λ n. n + 1) count))
    (keep_part (λ x. x.pushed) xs c.args.line _ z (ap (λ x. x.pushed) c.index_mut-2.ensures.value))
    c.if-self.false c.if-self.false
