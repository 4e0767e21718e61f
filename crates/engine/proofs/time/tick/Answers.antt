use Rattle.std.proofs.Common.{ℕ, List, None, Ok, Option, subst}
use Rattle.std.proofs.lemmas.Result.{err_from_is_err_and}
use Rattle.device.specs.Does.{Did, loop_from}
use Rattle.engine.specs.Works.{Changed, tick_turn}
use Rattle.engine.specs.Done.{mind_of}
use Rattle.engine.proofs.Timing.{tick_lost, tick_none, tick_some}
use Rattle.engine.proofs.time.tick.Goals as goal

pub returns-in_err-changed-clause-done : goal.returns-in_err-changed-clause-done
returns-in_err-changed-clause-done g c =
    let x = mind_of (g.D.Device.size c.args.memory.now.dev) c.args.held.now c.args.dir.now in
    let q = err_from_is_err_and c.from_residual.result c.from_residual.ensures.1 in
    rw q.1 (tick_lost g.D.Device.step x c.args.time _ c.in_err-changed.ensures.did)

pub returns-in-Some-clause-done : goal.returns-in-Some-clause-done
returns-in-Some-clause-done g c =
    let step = g.D.Device.step in
    let x = mind_of (g.D.Device.size c.args.memory.now.dev) c.args.held.now c.args.dir.now in
    let none : Changed = Ok None in
    let d = subst (λ (o : Option (List ℕ)). Did step (loop_from (tick_turn c.args.time x) 0 1024 none) c.args.memory.now.dev (Ok o) c.tick_all.new.memory.dev) c.in-Some.is c.in_ok-changed.ensures.did in
    rw c.ms-held.ensures.is (tick_some step x c.args.time c.in-Some.page d c.commit.ensures.did)

pub returns-in_default-clause-done : goal.returns-in_default-clause-done
returns-in_default-clause-done g c =
    let step = g.D.Device.step in
    let x = mind_of (g.D.Device.size c.args.memory.now.dev) c.args.held.now c.args.dir.now in
    let none : Changed = Ok None in
    let d = subst (λ (o : Option (List ℕ)). Did step (loop_from (tick_turn c.args.time x) 0 1024 none) c.args.memory.now.dev (Ok o) c.tick_all.new.memory.dev) c.in_default.is c.in_ok-changed.ensures.did in
    rw c.ms-held.ensures.is (tick_none step x c.args.time d)
