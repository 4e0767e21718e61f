use Rattle.std.proofs.Common.{refl, ap, ◌∙◌, subst}
use Rattle.device.specs.Does.{Did}
use Rattle.store.specs.Layout.{turn_at}
use Rattle.store.specs.Works.{save_plan, save_page}
use Rattle.store.specs.Entry.{bumped}
use Rattle.engine.specs.Done.{mind_of}
use Rattle.engine.proofs.Launching.{born_all}
use Rattle.engine.proofs.start.born.Goals as goal

pub returns : goal.returns
returns g c =
    let step = g.D.Device.step in
    let size = g.D.Device.size in
    let n = size c.args.memory.now.dev in
    let i = c.args.slot in
    let d = c.put_entry.new.self in
    let es = c.entry_of-entry.result in
    let x = mind_of n c.args.held.now c.args.dir.now in
    let q = bumped (turn_at 1 i c.args.held.now.root) in
    let e1 = c.save_entry.ensures.stays in
    let e2 = c.save_plan.ensures.stays ∙ e1 in
    let e3 = c.save_page.ensures.stays ∙ e2 in
    let d2 = subst (λ n. Did step (save_plan n d i c.args.new.now.plan.now) c.save_entry.new.self.dev tt c.save_plan.new.self.dev) e1 c.save_plan.ensures.did in
    let d3 = subst (λ n. Did step (save_page n d i c.pick.result c.encode.result) c.save_plan.new.self.dev tt c.save_page.new.self.dev) e2 c.save_page.ensures.did in
    record {
      done = born_all step x i c.pick.result es _ d q c.args.new.now.plan.now c.encode.result c.args.flow.now _ _ c.pick.ensures c.encode.ensures refl
          c.entry_of-entry.ensures c.put_entry.ensures (ap (λ h. mind_of n h d) c.count_in.ensures.held) c.save_entry.ensures.did d2 d3 c.count_in.ensures.did;
      stays = c.count_in.ensures.stays ∙ e3;
      time = rw c.count_in.ensures.held refl;
    }
