use Rattle.std.proofs.Common.{None, Ok, refl, ◌∙◌, subst, arith}
use Rattle.device.specs.Does.{Did}
use Rattle.device.proofs.Loops.{loop_none, loop_again, loop_all}
use Rattle.engine.specs.Works.{Changed, tick_turn}
use Rattle.engine.specs.Done.{mind_of}
use Rattle.engine.proofs.time.tick_all.Goals as goal

pub loop-i-init : goal.loop-i-init
loop-i-init g c =
    (refl, loop_none g.D.Device.step (tick_turn c.args.time (mind_of (g.D.Device.size c.args.memory.now.dev) c.args.held.now c.args.dir.now)) 0 1024 (Ok None) c.args.memory.now.dev)

pub loop-i-preserved : goal.loop-i-preserved
loop-i-preserved g c =
    let step = g.D.Device.step in
    let e = c.loop-i.invariant.0 in
    let init : Changed = Ok None in
    let x = mind_of (g.D.Device.size c.args.memory.now.dev) c.args.held.now c.args.dir.now in
    let d = subst (λ n. Did step (tick_turn c.args.time (mind_of n c.args.held.now c.args.dir.now) c.loop-i.i c.loop-i.changed) c.loop-i.memory.dev c.tick_turn-changed.result c.tick_turn-changed.new.memory.dev) e
    (subst (λ i. Did step (tick_turn c.args.time (mind_of (g.D.Device.size c.loop-i.memory.dev) c.args.held.now c.args.dir.now) i c.loop-i.changed) c.loop-i.memory.dev c.tick_turn-changed.result c.tick_turn-changed.new.memory.dev) c.new.ensures c.tick_turn-changed.ensures.did) in (
      c.tick_turn-changed.ensures.stays ∙ e,
      loop_again step (tick_turn c.args.time x) c.loop-i.i 1024 c.loop-i.changed c.tick_turn-changed.result init (omega arith) d c.loop-i.invariant.1,
    )

pub returns : goal.returns
returns g c =
    let init : Changed = Ok None in
    record {
      did = loop_all g.D.Device.step (tick_turn c.args.time (mind_of (g.D.Device.size c.args.memory.now.dev) c.args.held.now c.args.dir.now)) c.loop-i.i 1024 c.loop-i.changed init (omega arith) c.loop-i.invariant.1;
      stays = c.loop-i.invariant.0;
    }
