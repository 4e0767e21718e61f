use Rattle.std.proofs.Common.{◌≡◌, ◌+◌, ◌/◌, length, ap, ◌∙◌, arith}
use Rattle.blocks.specs.Works.{blocks_in}
use Rattle.store.specs.Works.{save_page}
use Rattle.store.proofs.Same.{save_same}
use Rattle.store.proofs.keep.Memory.save_page.Goals as goal

pub returns : goal.returns
unfolding save_page
returns g c =
    let total = c.blocks_in.ensures ∙ ap blocks_in c.lines.ensures in
    let n : (length c.args.words.now + 7) / 8 ≡ 16 = omega (arith, c.told-words) in
    record {
      did = save_same g.D.Device.step total c.page_blocks.ensures.is n c.args.words.now c.save.ensures.did;
      stays = c.save.ensures.stays;
    }
