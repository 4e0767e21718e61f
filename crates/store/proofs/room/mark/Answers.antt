use Rattle.std.proofs.Common.{◌+◌, ◌-◌, sym, ap, ◌∙◌, arith, rules}
use Rattle.store.specs.Room.{mark_slot, mark_slots, marked}
use Rattle.store.proofs.Chooses.{slots_turn, slots_end}
use Rattle.store.proofs.room.mark.Goals as goal

pub loop-i-preserved : goal.loop-i-preserved
loop-i-preserved c =
    let q = c.args.root.now in
    let d = c.args.dir.now in
    let i = c.loop-i.i in
    ap (mark_slots q d (i + 1) (1024 - (i + 1))) (c.mark_slot.ensures ∙ ap (λ j. mark_slot q d j c.loop-i.marks) c.new.ensures)
    ∙ slots_turn q d i 1024 c.loop-i.marks (omega arith)
    ∙ c.loop-i.invariant

pub returns : goal.returns
unfolding marked
returns c =
    sym (slots_end c.args.root.now c.args.dir.now c.loop-i.i 1024 c.loop-i.marks (omega arith))
    ∙ c.loop-i.invariant
    ∙ ap (mark_slots c.args.root.now c.args.dir.now 0 1024) (c.fill.ensures.after (λ y h. search rules))
