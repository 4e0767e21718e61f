use Rattle.std.proofs.Common.{◌≡◌, ◌<◌, length, get_or, set, sym, ap, ◌∙◌, arith}
use Rattle.std.proofs.lemmas.List.{get_or_default}
use Rattle.lines.specs.declared.journal.Store.{Store}
use Rattle.lines.specs.Walks.{lasts_in, sees_in, counts_in, lost_sees, lost_counts}
use Rattle.lines.proofs.Turns.{sees_turn, counts_turn, sees_end, counts_end}
use Rattle.lines.proofs.journal.lose_all.Goals as goal

pub loop-store-preserved : goal.loop-store-preserved
loop-store-preserved c =
    let xs = c.deref-store-items.result.now in
    let i = c.loop-store.store-index in
    let x : Store = get_or xs i (record { place = 0; value = 0 }) in
    let inside : i < length xs = omega arith in
    let at : x ≡ get_or xs i x = get_or_default xs i (record { place = 0; value = 0 }) x inside in
    let k = c.loop-store.invariant in
    let ls = lasts_in c.args.words.now.items in (
      c.lose_word.ensures.lasts ∙ k.0,
      sees_turn xs i x inside at ls (sees_in c.loop-store.words.items) _ (c.lose_word.ensures.sees ∙ ap (λ r. set (sees_in c.loop-store.words.items) x.place (get_or r x.place 0)) k.0) ∙ k.1,
      counts_turn xs i x inside at (counts_in c.loop-store.lines.items) _ c.lose_line.ensures.counts ∙ k.2,
      c.lose_line.ensures.pushed ∙ k.3,
    )

pub returns-clause-sees : goal.returns-clause-sees
returns-clause-sees c =
    let xs = c.deref-store-items.result.now in
    let ls = lasts_in c.args.words.now.items in
    sym (sees_end xs c.loop-store.store-index ls (sees_in c.loop-store.words.items) (omega arith)) ∙ c.loop-store.invariant.1
    ∙ ap (λ ys. lost_sees ys ls (sees_in c.args.words.now.items)) c.deref-store-items.ensures.value

pub returns-clause-counts : goal.returns-clause-counts
returns-clause-counts c =
    let xs = c.deref-store-items.result.now in
    sym (counts_end xs c.loop-store.store-index (counts_in c.loop-store.lines.items) (omega arith)) ∙ c.loop-store.invariant.2
    ∙ ap (λ ys. lost_counts ys (counts_in c.args.lines.now.items)) c.deref-store-items.ensures.value
