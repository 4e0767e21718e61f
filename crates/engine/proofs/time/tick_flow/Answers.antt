use Rattle.std.proofs.Common.{sym, refl, ap, ◌∙◌}
use Rattle.pages.specs.Events.{stirring}
use Rattle.engine.specs.Done.{mind_of}
use Rattle.engine.proofs.Timing.{flow_still, flow_stirs}
use Rattle.engine.proofs.time.tick_flow.Goals as goal

pub returns-then-not-stirs : goal.returns-then-not-stirs
returns-then-not-stirs g c =
    let e = sym (ap (λ n. stirring n c.args.flow) c.ms.ensures.is) ∙ sym c.if-not-stirs.ensures.flat in
    record { did = flow_still g.D.Device.step (mind_of (g.D.Device.size c.args.memory.now.dev) c.args.held.now c.args.dir.now) c.args.time c.args.slot c.args.changed c.args.flow e; stays = refl }

pub returns : goal.returns
returns g c =
    let e = sym (ap (λ n. stirring n c.args.flow) c.ms.ensures.is) ∙ sym c.if-not-stirs.ensures.flat in
    record { did = flow_stirs g.D.Device.step (mind_of (g.D.Device.size c.args.memory.now.dev) c.args.held.now c.args.dir.now) c.args.time c.args.slot c.args.changed _ c.args.flow e c.tick_plan.ensures.did; stays = c.tick_plan.ensures.stays }
