use Rattle.std.proofs.Common.{Ok, refl, ◌∙◌, subst}
use Rattle.std.proofs.lemmas.Result.{err_from_is_err_and}
use Rattle.engine.specs.Works.{cancel_flow, key_slot}
use Rattle.engine.specs.Done.{mind_of, Done}
use Rattle.engine.proofs.Doing.{at_none, at_some, flow_lost, flow_done}
use Rattle.engine.proofs.look.cancel.Goals as goal

pub returns-in_default : goal.returns-in_default
returns-in_default g c =
    let x = mind_of (g.D.Device.size c.args.memory.now.dev) c.args.held.now c.args.dir.now in
    record { done = at_none g.D.Device.step x (cancel_flow x) (key_slot x c.args.key.now) c.in_default.ensures; stays = refl; time = refl }

pub returns-in_err-flow : goal.returns-in_err-flow
returns-in_err-flow g c =
    let x = mind_of (g.D.Device.size c.args.memory.now.dev) c.args.held.now c.args.dir.now in
    let q = err_from_is_err_and c.from_residual.result c.from_residual.ensures.1 in
    rw q.1 (record {
      done = at_some g.D.Device.step x (cancel_flow x) c.in-Some.slot (key_slot x c.args.key.now) _ x c.in-Some.ensures (flow_lost g.D.Device.step x (cancel_flow x) c.in-Some.slot _ c.in_err-flow.ensures.did);
      stays = c.in_err-flow.ensures.stays;
      time = refl;
    })

pub returns : goal.returns
returns g c =
    let step = g.D.Device.step in
    let s = g.D.Device.size c.args.memory.now.dev in
    let e = c.in_ok-flow.ensures.stays in
    let x = mind_of s c.args.held.now c.args.dir.now in
    let y = mind_of s c.cancel_flow.new.held c.args.dir.now in
    let d = subst (λ n. Done step (cancel_flow (mind_of n c.args.held.now c.args.dir.now) c.in-Some.slot c.in_ok-flow.flow) c.open.new.memory.dev (Ok c.cancel_flow.result) (mind_of n c.cancel_flow.new.held c.args.dir.now) c.cancel_flow.new.memory.dev) e c.cancel_flow.ensures.done in
    record {
      done = at_some step x (cancel_flow x) c.in-Some.slot (key_slot x c.args.key.now) _ y c.in-Some.ensures (flow_done step x (cancel_flow x) c.in-Some.slot c.in_ok-flow.flow _ y c.in_ok-flow.ensures.did d);
      stays = c.cancel_flow.ensures.stays ∙ e;
      time = c.cancel_flow.ensures.time;
    }
