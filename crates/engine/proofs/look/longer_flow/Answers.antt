use Rattle.std.proofs.Common.{◌+◌, Ok, sym, refl, ap, ◌∙◌, subst, arith}
use Rattle.calls.specs.declared.types.Response.TheVariants as replies
use Rattle.flows.specs.House.{No, Yes}
use Rattle.pages.specs.Events.{handed_out}
use Rattle.engine.specs.Works.{said, changes, tried_by, longer_flow}
use Rattle.engine.specs.Done.{mind_of, Done}
use Rattle.engine.proofs.Doing.{try_err, try_out, longer_did}
use Rattle.engine.proofs.look.longer_flow.Goals as goal

pub returns-in-Err : goal.returns-in-Err
unfolding longer_flow
returns-in-Err g c =
    let x = mind_of (g.D.Device.size c.args.memory.now.dev) c.args.held.now c.args.dir.now in
    record { done = rw c.refusal.ensures (try_err g.D.Device.step x (changes x c.args.slot Yes (handed_out (x.now + c.args.ms) c.args.flow)) (tried_by c.args.try_out.step c.args.try_out.attempt c.args.flow) c.in-Err.why c.in-Err.ensures.flat); stays = refl; time = refl }

pub returns-in-Ok : goal.returns-in-Ok
unfolding longer_flow
returns-in-Ok g c =
    let n = g.D.Device.size c.args.memory.now.dev in
    let x = mind_of (g.D.Device.size c.args.memory.now.dev) c.args.held.now c.args.dir.now in
    let step = g.D.Device.step in
    record {
      done = try_out step x (said (No 2) x) (said (No 5) x) (changes x c.args.slot Yes (handed_out (x.now + c.args.ms) c.args.flow)) (tried_by c.args.try_out.step c.args.try_out.attempt c.args.flow) _ _ c.in-Ok.ensures.flat
          (subst (λ h. Done step (changes x c.args.slot Yes (handed_out (x.now + c.args.ms) c.args.flow)) c.args.memory.now.dev (Ok replies.Yes) (mind_of n h c.args.dir.now) c.shut.new.memory.dev) (sym c.shut.ensures.held)
          (longer_did step x c.args.slot (x.now + c.args.ms) c.args.flow c.handed.result (c.handed.ensures.flat ∙ ap (λ m. handed_out m c.args.flow) (omega (arith, c.from.ensures))) c.shut.ensures.did));
      stays = c.shut.ensures.stays;
      time = rw c.shut.ensures.held refl;
    }
