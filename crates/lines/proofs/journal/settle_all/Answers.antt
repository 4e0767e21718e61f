use Rattle.std.proofs.Common.{◌≡◌, ◌+◌, length, take, set, vec_items, vec_len, sym, ap, ◌∙◌, arith, length-set}
use Rattle.lines.specs.Walks.{lasts_in, counts_in, pushed_in, settling}
use Rattle.lines.proofs.Turns.{settle_gone, settle_stays, settle_end, settle_moved}
use Rattle.lines.proofs.journal.settle_all.Goals as goal
use Rattle.lines.proofs.journal.settle_all.Goals.{then-not-settle_one, else-not-settle_one}

pub loop-i-preserved : goal.loop-i-preserved
loop-i-preserved c =
    let xs = vec_items c.loop-i.journal in
    let ys = vec_items c.if-not-settle_one.journal in
    let x = c.index-store.result.now in
    elim c.if-not-settle_one.branch [
      | then-not-settle_one w ↦
          let moved : ys ≡ set xs c.loop-i.staying x = ap vec_items w.journal-is in
          let same : length ys ≡ length xs = ap length moved ∙ length-set xs c.loop-i.staying x in (
            omega (arith, w.staying-is),
            omega (arith, same, c.loop-i.invariant.1),
            settle_moved (c.loop-i.i + 1) _ _ ys ys (lasts_in c.settle_one.new.words.items) (counts_in c.settle_one.new.lines.items) (pushed_in c.settle_one.new.lines.items) w.staying-is (λ i. ys)
                ∙ settle_stays xs c.loop-i.i x (omega arith) c.index-store.ensures c.loop-i.staying (lasts_in c.loop-i.words.items) (counts_in c.loop-i.lines.items) (pushed_in c.loop-i.lines.items)
                _ _ _ ys c.settle_one.result c.settle_one.ensures.done c.settle_one.ensures.lasts c.settle_one.ensures.counts c.settle_one.ensures.pushed
                w.if-not-settle_one.true c.loop-i.invariant.0 moved
                ∙ c.loop-i.invariant.2,
            c.settle_one.ensures.sees ∙ c.loop-i.invariant.3,
          )
      | else-not-settle_one w ↦ (
        omega (arith, w.staying-is, c.loop-i.invariant.0),
        ap vec_len w.journal-is ∙ c.loop-i.invariant.1,
        settle_moved (c.loop-i.i + 1) _ _ ys xs (lasts_in c.settle_one.new.words.items) (counts_in c.settle_one.new.lines.items) (pushed_in c.settle_one.new.lines.items) w.staying-is (ap vec_items w.journal-is)
            ∙ settle_gone xs c.loop-i.i x (omega arith) c.index-store.ensures c.loop-i.staying (lasts_in c.loop-i.words.items) (counts_in c.loop-i.lines.items) (pushed_in c.loop-i.lines.items)
            _ _ _ c.settle_one.result c.settle_one.ensures.done c.settle_one.ensures.lasts c.settle_one.ensures.counts c.settle_one.ensures.pushed
            w.if-not-settle_one.false
            ∙ c.loop-i.invariant.2,
        c.settle_one.ensures.sees ∙ c.loop-i.invariant.3,
      )
    ]

pub returns-clause-walk : goal.returns-clause-walk
returns-clause-walk c =
    let xs = vec_items c.loop-i.journal in
    let last = settling (lasts_in c.loop-i.words.items) (counts_in c.loop-i.lines.items) (pushed_in c.loop-i.lines.items) in
    ap last c.truncate.ensures.items ∙ sym (settle_end xs c.loop-i.i (last (take c.loop-i.staying xs)) (omega arith)) ∙ c.loop-i.invariant.2
