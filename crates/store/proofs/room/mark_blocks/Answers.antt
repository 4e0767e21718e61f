use Rattle.std.proofs.Common.{◌+◌, ◌-◌, set, sym, ap, ◌∙◌, arith}
use Rattle.store.specs.Layout.{blocks_for}
use Rattle.store.specs.Room.{mark_blocks}
use Rattle.store.proofs.Chooses.{blocks_turn, blocks_end}
use Rattle.store.proofs.room.mark_blocks.Goals as goal

pub loop-k-preserved : goal.loop-k-preserved
loop-k-preserved c =
    ap (λ ms. mark_blocks c.args.dir.now c.args.slot (c.loop-k.k + 1) (c.blocks_for-k-end.result - (c.loop-k.k + 1)) ms) (c.mark_block.ensures ∙ ap (λ b. set c.loop-k.marks b 1) c.block_at.ensures)
    ∙ blocks_turn c.args.dir.now c.args.slot c.loop-k.k c.blocks_for-k-end.result c.loop-k.marks (omega arith)
    ∙ c.loop-k.invariant

pub returns : goal.returns
returns c =
    sym (blocks_end c.args.dir.now c.args.slot c.loop-k.k c.blocks_for-k-end.result c.loop-k.marks (omega arith))
    ∙ c.loop-k.invariant
    ∙ ap (λ n. mark_blocks c.args.dir.now c.args.slot 0 n c.args.marks.now) (c.blocks_for-k-end.ensures.is ∙ ap blocks_for c.size_at.ensures.is)
