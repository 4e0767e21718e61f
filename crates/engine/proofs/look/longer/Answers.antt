use Rattle.std.proofs.Common.{Ok, refl, ◌∙◌, subst}
use Rattle.std.proofs.lemmas.Result.{err_from_is_err_and}
use Rattle.engine.specs.Works.{longer_flow, id_slot}
use Rattle.engine.specs.Done.{mind_of, Done}
use Rattle.engine.proofs.Doing.{at_none, at_some, flow_lost, flow_done}
use Rattle.engine.proofs.look.longer.Goals as goal

pub returns-in_default : goal.returns-in_default
returns-in_default g c =
    let x = mind_of (g.D.Device.size c.args.memory.now.dev) c.args.held.now c.args.dir.now in
    record { done = at_none g.D.Device.step x (longer_flow c.args.try_out.step c.args.try_out.attempt c.args.ms x) (id_slot x c.args.id) c.in_default.ensures; stays = refl; time = refl }

pub returns-in_err-flow : goal.returns-in_err-flow
returns-in_err-flow g c =
    let x = mind_of (g.D.Device.size c.args.memory.now.dev) c.args.held.now c.args.dir.now in
    let q = err_from_is_err_and c.from_residual.result c.from_residual.ensures.1 in
    rw q.1 (record {
      done = at_some g.D.Device.step x (longer_flow c.args.try_out.step c.args.try_out.attempt c.args.ms x) c.in-Some.slot (id_slot x c.args.id) _ x c.in-Some.ensures (flow_lost g.D.Device.step x (longer_flow c.args.try_out.step c.args.try_out.attempt c.args.ms x) c.in-Some.slot _ c.in_err-flow.ensures.did);
      stays = c.in_err-flow.ensures.stays;
      time = refl;
    })

pub returns : goal.returns
returns g c =
    let step = g.D.Device.step in
    let s = g.D.Device.size c.args.memory.now.dev in
    let e = c.in_ok-flow.ensures.stays in
    let x = mind_of s c.args.held.now c.args.dir.now in
    let y = mind_of s c.longer_flow.new.held c.args.dir.now in
    let d = subst (λ n. Done step (longer_flow c.args.try_out.step c.args.try_out.attempt c.args.ms (mind_of n c.args.held.now c.args.dir.now) c.in-Some.slot c.in_ok-flow.flow) c.open.new.memory.dev (Ok c.longer_flow.result) (mind_of n c.longer_flow.new.held c.args.dir.now) c.longer_flow.new.memory.dev) e c.longer_flow.ensures.done in
    record {
      done = at_some step x (longer_flow c.args.try_out.step c.args.try_out.attempt c.args.ms x) c.in-Some.slot (id_slot x c.args.id) _ y c.in-Some.ensures (flow_done step x (longer_flow c.args.try_out.step c.args.try_out.attempt c.args.ms x) c.in-Some.slot c.in_ok-flow.flow _ y c.in_ok-flow.ensures.did d);
      stays = c.longer_flow.ensures.stays ∙ e;
      time = c.longer_flow.ensures.time;
    }
