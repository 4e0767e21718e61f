use Rattle.std.proofs.Common.{◌/◌, length, sym, refl, ap}
use Rattle.flows.specs.House.{Flow'}
use Rattle.calls.specs.Replies.{reply_bytes}
use Rattle.engine.specs.Done.{mind_of}
use Rattle.engine.proofs.Launching.{start_known, start_none, start_free_lem}
use Rattle.engine.proofs.start.start.Goals as goal

pub returns-in-Some : goal.returns-in-Some
returns-in-Some g c =
    let x = mind_of (g.D.Device.size c.args.memory.now.dev) c.args.held.now c.args.dir.now in
    let ws = c.args.new.now.plan.now in
    record {
      done = start_known g.D.Device.step x c.args.new.now.key.now (length ws / 4) ws c.args.new.now.words.now c.in-Some.slot _ c.in-Some.ensures (ap (λ v. reply_bytes (Flow' v)) (sym c.id_at.ensures));
      stays = refl;
      time = refl;
    }

pub returns-in_default-free_slot : goal.returns-in_default-free_slot
returns-in_default-free_slot g c =
    let x = mind_of (g.D.Device.size c.args.memory.now.dev) c.args.held.now c.args.dir.now in
    let ws = c.args.new.now.plan.now in
    record {
      done = start_none g.D.Device.step x c.args.new.now.key.now (length ws / 4) ws c.args.new.now.words.now c.in_default.ensures c.in_default-free_slot.ensures;
      stays = refl;
      time = refl;
    }

pub returns : goal.returns
returns g c =
    let x = mind_of (g.D.Device.size c.args.memory.now.dev) c.args.held.now c.args.dir.now in
    let ws = c.args.new.now.plan.now in
    record {
      done = start_free_lem g.D.Device.step x c.args.new.now.key.now (length ws / 4) ws c.args.new.now.words.now c.in-Some-free_slot.slot _ _ c.in_default.ensures c.in-Some-free_slot.ensures c.start_free.ensures.done;
      stays = c.start_free.ensures.stays;
      time = c.start_free.ensures.time;
    }
