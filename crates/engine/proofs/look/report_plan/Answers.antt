use Rattle.std.proofs.Common.{◌≡◌, ℕ, cond, Ok, sym, refl, ◌∙◌, subst}
use Rattle.std.proofs.lemmas.Result.{err_from_is_err_and}
use Rattle.std.specs.Option.{is_some, unwrap_or}
use Rattle.calls.specs.declared.types.Response.TheVariants.{Yes}
use Rattle.device.specs.Does.{Did, bind}
use Rattle.pages.specs.Page.{damaged}
use Rattle.pages.specs.Events.{worked_on, wrong_on}
use Rattle.store.specs.Works.{load_plan}
use Rattle.engine.specs.Works.{room, report_plan, shut_work}
use Rattle.engine.specs.Done.{mind_of, Done}
use Rattle.engine.proofs.Doing.{report_lost, report_did}
use Rattle.engine.proofs.look.report_plan.Goals as goal

pub returns-in_err-flow : goal.returns-in_err-flow
returns-in_err-flow g c =
    let x = mind_of (g.D.Device.size c.args.memory.now.dev) c.args.held.now c.args.dir.now in
    let q = err_from_is_err_and c.from_residual.result c.from_residual.ensures.1 in
    let e = subst (λ (m : ℕ). damaged ≡ cond (is_some c.args.end) (worked_on room c.load_plan.new.out m (unwrap_or c.args.end 0) c.args.flow) (wrong_on room c.load_plan.new.out m c.args.flow)) c.now.ensures c.in_err-flow.ensures in
    rw q.1 (record { done = report_lost g.D.Device.step x (is_some c.args.end) (unwrap_or c.args.end 0) c.args.slot c.args.flow c.load_plan.new.out _ e c.load_plan.ensures.did; stays = c.load_plan.ensures.stays; time = refl })

pub returns : goal.returns
returns g c =
    let step = g.D.Device.step in
    let n = g.D.Device.size c.args.memory.now.dev in
    let x = mind_of (g.D.Device.size c.args.memory.now.dev) c.args.held.now c.args.dir.now in
    let flow = c.in_ok-flow.flow in
    let d = subst (λ n. Did step (shut_work (mind_of n c.args.held.now c.args.dir.now) c.args.slot flow) c.load_plan.new.self.dev tt c.shut.new.memory.dev) c.load_plan.ensures.stays c.shut.ensures.did in
    let e = subst (λ (m : ℕ). Ok flow ≡ cond (is_some c.args.end) (worked_on room c.load_plan.new.out m (unwrap_or c.args.end 0) c.args.flow) (wrong_on room c.load_plan.new.out m c.args.flow)) c.now.ensures c.in_ok-flow.ensures in
    record {
      done = subst (λ h. Done step (bind (load_plan n c.args.dir.now c.args.slot) (report_plan (is_some c.args.end) (unwrap_or c.args.end 0) x c.args.slot c.args.flow)) c.args.memory.now.dev (Ok Yes) (mind_of n h c.args.dir.now) c.shut.new.memory.dev) (sym c.shut.ensures.held)
          (report_did step x (is_some c.args.end) (unwrap_or c.args.end 0) c.args.slot c.args.flow flow c.load_plan.new.out e c.load_plan.ensures.did d);
      stays = c.shut.ensures.stays ∙ c.load_plan.ensures.stays;
      time = rw c.shut.ensures.held refl;
    }
