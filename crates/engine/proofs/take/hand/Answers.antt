use Rattle.std.proofs.Common.{subst}
use Rattle.std.proofs.lemmas.Result.{err_from_is_err_and}
use Rattle.engine.specs.Works.{hand_flow}
use Rattle.engine.specs.Done.{mind_of, Done}
use Rattle.engine.proofs.Doing.{flow_lost, flow_done}
use Rattle.engine.proofs.take.hand.Goals as goal

pub returns-in_err-flow-clause-done : goal.returns-in_err-flow-clause-done
returns-in_err-flow-clause-done g c =
    let x = mind_of (g.D.Device.size c.args.memory.now.dev) c.args.held.now c.args.dir.now in
    let q = err_from_is_err_and c.from_residual.result c.from_residual.ensures.1 in
    rw q.1 (flow_lost g.D.Device.step x (hand_flow c.args.ms x) c.args.slot _ c.in_err-flow.ensures.did)

pub returns-clause-done : goal.returns-clause-done
returns-clause-done g c =
    let step = g.D.Device.step in
    let s = g.D.Device.size c.args.memory.now.dev in
    let x = mind_of s c.args.held.now c.args.dir.now in
    let y = mind_of s c.hand_flow.new.held c.args.dir.now in
    let d = subst (λ n. Done step (hand_flow c.args.ms (mind_of n c.args.held.now c.args.dir.now) c.args.slot c.in_ok-flow.flow) c.open.new.memory.dev c.hand_flow.result (mind_of n c.hand_flow.new.held c.args.dir.now) c.hand_flow.new.memory.dev) c.in_ok-flow.ensures.stays c.hand_flow.ensures.done in
    flow_done step x (hand_flow c.args.ms x) c.args.slot c.in_ok-flow.flow _ y c.in_ok-flow.ensures.did d
