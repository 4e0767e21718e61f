use Rattle.std.proofs.Common.{Ok, sym, refl, subst}
use Rattle.calls.specs.declared.types.Response.TheVariants.{Yes}
use Rattle.engine.specs.Works.{cancel_flow}
use Rattle.engine.specs.Done.{mind_of, Done}
use Rattle.engine.proofs.Doing.{cancel_not, cancel_done}
use Rattle.engine.proofs.look.cancel_flow.Goals as goal

pub returns-then-is_over : goal.returns-then-is_over
returns-then-is_over g c = record { done = cancel_not g.D.Device.step (mind_of (g.D.Device.size c.args.memory.now.dev) c.args.held.now c.args.dir.now) c.args.slot c.args.flow (sym c.if-is_over.ensures.flat); stays = refl; time = refl }

pub returns : goal.returns
returns g c =
    let n = g.D.Device.size c.args.memory.now.dev in
    let x = mind_of (g.D.Device.size c.args.memory.now.dev) c.args.held.now c.args.dir.now in
    record {
      done = subst (λ h. Done g.D.Device.step (cancel_flow x c.args.slot c.args.flow) c.args.memory.now.dev (Ok Yes) (mind_of n h c.args.dir.now) c.shut.new.memory.dev) (sym c.shut.ensures.held)
          (cancel_done g.D.Device.step x c.args.slot c.args.flow c.cancelled.result (sym c.if-is_over.ensures.flat) c.cancelled.ensures.flat c.shut.ensures.did);
      stays = c.shut.ensures.stays;
      time = rw c.shut.ensures.held refl;
    }
