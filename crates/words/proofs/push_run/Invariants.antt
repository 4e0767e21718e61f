use Rattle.std.proofs.Common.{◌≡◌}
use Rattle.device.specs.Does.{Turning}
use Rattle.words.specs.Works.{push_turn}
use Rattle.words.proofs.push_run.Given as goal

abbrev pub invariant-loop-i : goal.invariant-loop-i
invariant-loop-i g l =
    let d = g.D.Device in
    (d.size l.dev ≡ d.size l.initial.dev) × Turning d.step (push_turn (g.P.Place.at l.place)) l.i l.count tt l.dev tt l.initial.dev
