use Rattle.std.proofs.Common.{ap, ◌∙◌}
use Rattle.blocks.specs.Works.{blocks_in}
use Rattle.store.specs.Works.{load_plan}
use Rattle.store.proofs.Same.{load_same}
use Rattle.store.proofs.keep.Memory.load_plan.Goals as goal

pub returns : goal.returns
unfolding load_plan
returns g c =
    let total = c.blocks_in.ensures ∙ ap blocks_in c.lines.ensures in
    record {
      did = load_same g.D.Device.step total c.plan_blocks.ensures.is c.requires c.load.ensures.did;
      stays = c.load.ensures.stays;
    }
