use Rattle.std.proofs.Common.{◌≡◌, drop}
use Rattle.device.specs.Does.{Leads}
use Rattle.words.specs.Works.{store_via}
use Rattle.words.proofs.store_run.Given as goal

abbrev pub invariant-loop-i : goal.invariant-loop-i
invariant-loop-i g l =
    let d = g.D.Device in
    let at = g.P.Place.at l.place in
    (d.size l.dev ≡ d.size l.initial.dev) × Leads d.step (store_via at l.i (drop l.i l.words)) l.dev (λ a. a) (store_via at 0 l.words) l.initial.dev
