use Rattle.std.proofs.Common.{◌+◌}
use Rattle.store.proofs.Chooses.{choose_take, choose_skip, choose_full, choose_some, choose_none, choosing_at}
use Rattle.store.proofs.room.choose.Goals as goal
use Rattle.store.proofs.room.choose.Goals.{then-count-need+then-mark-eq0, else-count-need, else-count-need-via-then-count-need+else-mark-eq0, else-count-need-via-else-count-need}

pub loop-b-preserved : goal.loop-b-preserved
loop-b-preserved c =
    let n = c.args.need in
    let ms = c.args.marks.now in
    let l = c.loop-b in
    elim c.if-count-need.branch [
      | then-count-need+then-mark-eq0 w ↦ choosing_at n ms (l.b + 1) w.count-is w.blocks-is (choose_take n ms l.count l.blocks l.b c.requires c.loop-b-test.true w.if-count-need.true w.if-mark-eq0.true l.invariant)
      | else-count-need w ↦ choosing_at n ms (l.b + 1) w.count-is w.blocks-is
          (elim w.else-count-need.branch [
            | else-count-need-via-then-count-need+else-mark-eq0 v ↦ choose_skip n ms l.count l.blocks l.b c.loop-b-test.true v.if-mark-eq0.false l.invariant
            | else-count-need-via-else-count-need v ↦ choose_full n ms l.count l.blocks l.b v.if-count-need.false l.invariant
          ])
    ]

pub returns-then-count-need-2 : goal.returns-then-count-need-2
returns-then-count-need-2 c = choose_some c.args.need c.args.marks.now c.loop-b.count c.loop-b.blocks c.loop-b.b c.requires c.loop-b-test.false c.if-count-need-2.true c.loop-b.invariant

pub returns-else-count-need-2 : goal.returns-else-count-need-2
returns-else-count-need-2 c = choose_none c.args.need c.args.marks.now c.loop-b.count c.loop-b.blocks c.loop-b.b c.requires c.loop-b-test.false c.if-count-need-2.false c.loop-b.invariant
