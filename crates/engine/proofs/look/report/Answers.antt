use Rattle.std.proofs.Common.{refl, ◌∙◌, subst}
use Rattle.std.specs.Option.{is_some, unwrap_or}
use Rattle.std.proofs.lemmas.Result.{err_from_is_err_and}
use Rattle.engine.specs.Works.{report_flow, id_slot}
use Rattle.engine.specs.Done.{mind_of, Done}
use Rattle.engine.proofs.Doing.{at_none, at_some, flow_lost, flow_done}
use Rattle.engine.proofs.look.report.Goals as goal

pub returns-in_default : goal.returns-in_default
returns-in_default g c =
    let x = mind_of (g.D.Device.size c.args.memory.now.dev) c.args.held.now c.args.dir.now in
    record { done = at_none g.D.Device.step x (report_flow c.args.try_out.step c.args.try_out.attempt (is_some c.args.end) (unwrap_or c.args.end 0) x) (id_slot x c.args.id) c.in_default.ensures; stays = refl; time = refl }

pub returns-in_err-flow : goal.returns-in_err-flow
returns-in_err-flow g c =
    let x = mind_of (g.D.Device.size c.args.memory.now.dev) c.args.held.now c.args.dir.now in
    let q = err_from_is_err_and c.from_residual.result c.from_residual.ensures.1 in
    rw q.1 (record {
      done = at_some g.D.Device.step x (report_flow c.args.try_out.step c.args.try_out.attempt (is_some c.args.end) (unwrap_or c.args.end 0) x) c.in-Some.slot (id_slot x c.args.id) _ x c.in-Some.ensures (flow_lost g.D.Device.step x (report_flow c.args.try_out.step c.args.try_out.attempt (is_some c.args.end) (unwrap_or c.args.end 0) x) c.in-Some.slot _ c.in_err-flow.ensures.did);
      stays = c.in_err-flow.ensures.stays;
      time = refl;
    })

pub returns : goal.returns
returns g c =
    let step = g.D.Device.step in
    let s = g.D.Device.size c.args.memory.now.dev in
    let e = c.in_ok-flow.ensures.stays in
    let x = mind_of s c.args.held.now c.args.dir.now in
    let y = mind_of s c.report_flow.new.held c.args.dir.now in
    let d = subst (λ n. Done step (report_flow c.args.try_out.step c.args.try_out.attempt (is_some c.args.end) (unwrap_or c.args.end 0) (mind_of n c.args.held.now c.args.dir.now) c.in-Some.slot c.in_ok-flow.flow) c.open.new.memory.dev c.report_flow.result (mind_of n c.report_flow.new.held c.args.dir.now) c.report_flow.new.memory.dev) e c.report_flow.ensures.done in
    record {
      done = at_some step x (report_flow c.args.try_out.step c.args.try_out.attempt (is_some c.args.end) (unwrap_or c.args.end 0) x) c.in-Some.slot (id_slot x c.args.id) _ y c.in-Some.ensures (flow_done step x (report_flow c.args.try_out.step c.args.try_out.attempt (is_some c.args.end) (unwrap_or c.args.end 0) x) c.in-Some.slot c.in_ok-flow.flow _ y c.in_ok-flow.ensures.did d);
      stays = c.report_flow.ensures.stays ∙ e;
      time = c.report_flow.ensures.time;
    }
