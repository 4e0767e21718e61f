use Rattle.std.proofs.Common.{◌≡◌, length, Ok, ◌∙◌, subst, arith}
use Rattle.std.proofs.lemmas.Result.{err_from_is_err_and}
use Rattle.pages.specs.Page.{damaged}
use Rattle.pages.specs.Events.{ticked_on}
use Rattle.device.specs.Does.{Did}
use Rattle.engine.specs.Works.{tick_save}
use Rattle.engine.specs.Done.{mind_of}
use Rattle.engine.proofs.Timing.{plan_lost, plan_did}
use Rattle.engine.proofs.time.tick_plan.Goals as goal

pub returns-in_err-flow : goal.returns-in_err-flow
returns-in_err-flow g c =
    let x = mind_of (g.D.Device.size c.args.memory.now.dev) c.args.held.now c.args.dir.now in
    let q = err_from_is_err_and c.from_residual.result c.from_residual.ensures.1 in
    let t : length c.args.stack.now ≡ 4096 = omega arith in
    let e = subst (λ n. damaged ≡ ticked_on n c.load_plan.new.out c.args.time c.args.flow) t c.in_err-flow.ensures.flat in
    rw q.1 (record { did = plan_lost g.D.Device.step x c.args.time c.args.slot c.args.changed c.args.flow c.load_plan.new.out _ e c.load_plan.ensures.did; stays = c.load_plan.ensures.stays })

pub returns : goal.returns
returns g c =
    let step = g.D.Device.step in
    let x = mind_of (g.D.Device.size c.args.memory.now.dev) c.args.held.now c.args.dir.now in
    let d = subst (λ n. Did step (tick_save (mind_of n c.args.held.now c.args.dir.now) c.args.slot c.args.changed c.in_ok-flow.flow) c.load_plan.new.self.dev c.tick_save.result c.tick_save.new.memory.dev) c.load_plan.ensures.stays c.tick_save.ensures.did in
    let t : length c.args.stack.now ≡ 4096 = omega arith in
    let e = subst (λ n. Ok c.in_ok-flow.flow ≡ ticked_on n c.load_plan.new.out c.args.time c.args.flow) t c.in_ok-flow.ensures.flat in
    record { did = plan_did step x c.args.time c.args.slot c.args.changed c.tick_save.result c.args.flow c.in_ok-flow.flow c.load_plan.new.out e c.load_plan.ensures.did d; stays = c.tick_save.ensures.stays ∙ c.load_plan.ensures.stays }
