use Rattle.std.proofs.Common.{◌≡◌, ◌++◌, ◌-◌, length, take}
use Rattle.device.specs.Does.{Leads}
use Rattle.words.specs.Works.{load_via}
use Rattle.words.proofs.load_run.Given as goal

abbrev pub invariant-loop-i : goal.invariant-loop-i
invariant-loop-i g l =
    let d = g.D.Device in
    let at = g.P.Place.at l.place in
    (d.size l.dev ≡ d.size l.initial.dev)
    × Leads d.step (load_via at l.i (length l.initial.out - l.i)) l.dev (λ vs. take l.i l.out ++ vs) (load_via at 0 (length l.initial.out)) l.initial.dev
