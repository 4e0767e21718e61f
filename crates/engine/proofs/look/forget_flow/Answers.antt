use Rattle.std.proofs.Common.{sym, refl}
use Rattle.engine.specs.Done.{mind_of}
use Rattle.engine.proofs.Doing.{forget_not, forget_done}
use Rattle.engine.proofs.look.forget_flow.Goals as goal

pub returns-then-not-is_over : goal.returns-then-not-is_over
returns-then-not-is_over g c = record { done = forget_not g.D.Device.step (mind_of (g.D.Device.size c.args.memory.now.dev) c.args.held.now c.args.dir.now) c.args.slot c.args.flow (sym c.if-not-is_over.ensures.flat); stays = refl; time = refl }

pub returns : goal.returns
returns g c = record {
  done = forget_done g.D.Device.step (mind_of (g.D.Device.size c.args.memory.now.dev) c.args.held.now c.args.dir.now) c.args.slot c.args.flow c.turn_used.new.page (sym c.if-not-is_over.ensures.flat) c.turn_used.ensures c.commit.ensures.did;
  stays = c.commit.ensures.stays;
  time = refl;
}
