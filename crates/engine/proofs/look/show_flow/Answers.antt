use Rattle.std.proofs.Common.{sym, refl}
use Rattle.engine.specs.Done.{mind_of}
use Rattle.engine.proofs.Doing.{show_quiet, show_loud}
use Rattle.engine.proofs.look.show_flow.Goals as goal

pub returns-then-not-is_listening : goal.returns-then-not-is_listening
returns-then-not-is_listening g c = record { done = show_quiet g.D.Device.step (mind_of (g.D.Device.size c.args.memory.now.dev) c.args.held.now c.args.dir.now) c.args.slot c.args.flow (sym c.if-not-is_listening.ensures); stays = refl }

pub returns : goal.returns
returns g c = record { done = show_loud g.D.Device.step (mind_of (g.D.Device.size c.args.memory.now.dev) c.args.held.now c.args.dir.now) c.args.slot c.args.flow c.load_plan.new.out (sym c.if-not-is_listening.ensures) c.load_plan.ensures.did; stays = c.load_plan.ensures.stays }
