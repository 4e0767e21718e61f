use Rattle.std.proofs.Common.{◌-◌, ap, ◌∙◌}
use Rattle.device.specs.Does.{Did}
use Rattle.device.proofs.Did.{did_size}
use Rattle.engine.specs.Works.{shut_work}
use Rattle.engine.specs.Done.{mind_of, held_as}
use Rattle.engine.proofs.Doing.{shut_did}
use Rattle.engine.proofs.held.shut.Goals as goal

pub returns : goal.returns
returns g c =
    let x = mind_of (g.D.Device.size c.args.memory.now.dev) c.args.held.now c.args.dir.now in
    let d : Did g.D.Device.step (shut_work x c.args.slot c.args.flow.now) c.args.memory.now.dev tt c.commit.new.self.dev =
    shut_did g.D.Device.step x c.args.slot c.other-copy.result c.encode.result c.turn_pick.new.page c.args.flow.now
    (c.other-copy.ensures ∙ ap (λ v. 1 - v) c.pick.ensures) c.encode.ensures c.turn_pick.ensures c.save_page.ensures.did c.commit.ensures.did in
    record { did = d; held = ap (λ q. held_as q c.args.held.now) c.turn_pick.ensures; stays = did_size g.met.D.Device.stays d }
