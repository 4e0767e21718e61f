use Rattle.std.proofs.Common.{◌≡◌, None, Ok}
use Rattle.device.specs.Does.{Turning}
use Rattle.engine.specs.Works.{look_turn}
use Rattle.engine.specs.Done.{mind_of}
use Rattle.engine.proofs.take.look.Given as goal

abbrev pub invariant-loop-i : goal.invariant-loop-i
invariant-loop-i g l =
    let d = g.D.Device in
    (d.size l.memory.dev ≡ d.size l.initial.memory.dev)
    × Turning d.step (look_turn l.kinds (mind_of (d.size l.initial.memory.dev) l.held l.dir)) l.i 1024 l.looking l.memory.dev (Ok None) l.initial.memory.dev
