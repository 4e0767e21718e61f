use Rattle.std.proofs.Common.{refl}
use Rattle.std.specs.Option.{is_some, unwrap_or}
use Rattle.flows.specs.House.{No}
use Rattle.device.specs.Does.{bind}
use Rattle.store.specs.Works.{load_plan}
use Rattle.engine.specs.Works.{said, tried_by, report_plan, report_flow}
use Rattle.engine.specs.Done.{mind_of}
use Rattle.engine.proofs.Doing.{try_err, try_out}
use Rattle.engine.proofs.look.report_flow.Goals as goal

pub returns-in-Err : goal.returns-in-Err
unfolding report_flow
returns-in-Err g c =
    let x = mind_of (g.D.Device.size c.args.memory.now.dev) c.args.held.now c.args.dir.now in
    record { done = rw c.refusal.ensures (try_err g.D.Device.step x (bind (load_plan x.lines x.dir c.args.slot) (report_plan (is_some c.args.end) (unwrap_or c.args.end 0) x c.args.slot c.args.flow)) (tried_by c.args.try_out.step c.args.try_out.attempt c.args.flow) c.in-Err.why c.in-Err.ensures.flat); stays = refl; time = refl }

pub returns-in-Ok : goal.returns-in-Ok
unfolding report_flow
returns-in-Ok g c =
    let x = mind_of (g.D.Device.size c.args.memory.now.dev) c.args.held.now c.args.dir.now in
    record { done = try_out g.D.Device.step x (said (No 2) x) (said (No 5) x) (bind (load_plan x.lines x.dir c.args.slot) (report_plan (is_some c.args.end) (unwrap_or c.args.end 0) x c.args.slot c.args.flow)) (tried_by c.args.try_out.step c.args.try_out.attempt c.args.flow) _ _ c.in-Ok.ensures.flat c.report_plan.ensures.done; stays = c.report_plan.ensures.stays; time = c.report_plan.ensures.time }
