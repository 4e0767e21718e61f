use Rattle.std.proofs.Common.{refl, ap, ◌∙◌}
use Rattle.blocks.specs.Works.{blocks_in}
use Rattle.store.specs.Works.{save_plan}
use Rattle.store.proofs.Same.{save_same}
use Rattle.store.proofs.keep.Memory.save_plan.Goals as goal

pub returns : goal.returns
unfolding save_plan
returns g c =
    let total = c.blocks_in.ensures ∙ ap blocks_in c.lines.ensures in
    record {
      did = save_same g.D.Device.step total c.plan_blocks.ensures.is refl c.args.words.now c.save.ensures.did;
      stays = c.save.ensures.stays;
    }
