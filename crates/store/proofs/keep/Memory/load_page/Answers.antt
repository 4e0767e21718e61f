use Rattle.std.proofs.Common.{ap, ◌∙◌}
use Rattle.blocks.specs.Works.{blocks_in}
use Rattle.store.specs.Layout.{page_blocks}
use Rattle.store.specs.Works.{load_page}
use Rattle.store.proofs.Same.{load_same}
use Rattle.store.proofs.keep.Memory.load_page.Goals as goal

pub returns : goal.returns
unfolding load_page
returns g c =
    let total = c.blocks_in.ensures ∙ ap blocks_in c.lines.ensures in
    record {
      did = load_same g.D.Device.step total (c.page_blocks.ensures.is ∙ ap (page_blocks c.args.dir.now c.args.slot) c.pick.ensures) c.told-out c.load.ensures.did;
      stays = c.load.ensures.stays;
    }
