use Rattle.std.proofs.Common.{Ok, None, Option, subst}
use Rattle.std.proofs.lemmas.Result.{err_from_is_err_and}
use Rattle.device.specs.Does.{Did, loop_from}
use Rattle.engine.specs.declared.take.Best.{Best}
use Rattle.engine.specs.Works.{Looking, look_turn, hand_flow, at_flow}
use Rattle.engine.specs.Done.{mind_of, Done}
use Rattle.engine.proofs.Taking.{take_done, end_lost, end_nothing, end_hand}
use Rattle.engine.proofs.take.take.Goals as goal

pub returns-in_err-best-clause-done : goal.returns-in_err-best-clause-done
returns-in_err-best-clause-done g c =
    let x = mind_of (g.D.Device.size c.args.memory.now.dev) c.args.held.now c.args.dir.now in
    let q = err_from_is_err_and c.from_residual.result c.from_residual.ensures.1 in
    rw q.1 (take_done g.D.Device.step x c.args.kinds.now c.args.ms _ _ x c.in_err-best.ensures.did (end_lost g.D.Device.step x c.args.ms _))

pub returns-in-None-clause-done : goal.returns-in-None-clause-done
returns-in-None-clause-done g c =
    let step = g.D.Device.step in
    let x = mind_of (g.D.Device.size c.args.memory.now.dev) c.args.held.now c.args.dir.now in
    let none : Looking = Ok None in
    let d = subst (λ (o : Option Best). Did step (loop_from (look_turn c.args.kinds.now x) 0 1024 none) c.args.memory.now.dev (Ok o) c.look.new.memory.dev) c.in-None.is c.in_ok-best.ensures.did in
    take_done step x c.args.kinds.now c.args.ms _ _ x d (end_nothing step x c.args.ms)

pub returns-in-Some-clause-done : goal.returns-in-Some-clause-done
returns-in-Some-clause-done g c =
    let step = g.D.Device.step in
    let s = g.D.Device.size c.args.memory.now.dev in
    let x = mind_of s c.args.held.now c.args.dir.now in
    let y = mind_of s c.hand.new.held c.args.dir.now in
    let none : Looking = Ok None in
    let d = subst (λ (o : Option Best). Did step (loop_from (look_turn c.args.kinds.now x) 0 1024 none) c.args.memory.now.dev (Ok o) c.look.new.memory.dev) c.in-Some.is c.in_ok-best.ensures.did in
    let h = subst (λ n. Done step (at_flow (mind_of n c.args.held.now c.args.dir.now) (hand_flow c.args.ms (mind_of n c.args.held.now c.args.dir.now)) c.in-Some.best.slot) c.look.new.memory.dev c.hand.result (mind_of n c.hand.new.held c.args.dir.now) c.hand.new.memory.dev) c.in_ok-best.ensures.stays c.hand.ensures.done in
    take_done step x c.args.kinds.now c.args.ms _ _ y d (end_hand step x c.args.ms c.in-Some.best _ y h)
