use Rattle.std.proofs.Common.{◌%◌, take, sym, refl, ap, ◌∙◌, arith}
use Rattle.flows.specs.House.{Job}
use Rattle.pages.specs.Events.{step_in, handed_out}
use Rattle.calls.specs.Replies.{reply_bytes}
use Rattle.engine.specs.Done.{mind_of}
use Rattle.engine.proofs.Taking.{hand_none, hand_some}
use Rattle.engine.proofs.take.hand_flow.Goals as goal

pub returns-in_default : goal.returns-in_default
returns-in_default g c = record { done = hand_none g.D.Device.step (mind_of (g.D.Device.size c.args.memory.now.dev) c.args.held.now c.args.dir.now) c.args.ms c.args.slot c.args.flow c.in_default.is; stays = refl; time = refl }

pub returns : goal.returns
returns g c =
    let step = g.D.Device.step in
    let n = g.D.Device.size c.args.memory.now.dev in
    let x = mind_of (g.D.Device.size c.args.memory.now.dev) c.args.held.now c.args.dir.now in
    let f = c.args.flow in
    let u = c.in-Some.task in
    let er = ap (λ a. reply_bytes (Job a (step_in f.place.phase) (u.attempt % 65536) (u.kind % 4294967296) (take u.count u.args))) (sym c.id_at.ensures)
    ∙ ap (λ b. reply_bytes (Job c.id_at.result b (u.attempt % 65536) (u.kind % 4294967296) (take u.count u.args))) (sym c.step_of.ensures.flat) in
    record {
      done = hand_some step x c.args.ms c.args.slot f c.handed.result u _ (mind_of n c.shut.new.held c.args.dir.now) c.in-Some.is (c.handed.ensures.flat ∙ ap (λ m. handed_out m f) (omega (arith, c.from.ensures))) er (ap (λ h. mind_of n h c.args.dir.now) (sym c.shut.ensures.held)) c.shut.ensures.did;
      stays = c.shut.ensures.stays;
      time = rw c.shut.ensures.held refl;
    }
