use Rattle.std.proofs.Common.{sym}
use Rattle.service.proofs.Serving.{show_bad, show_good}
use Rattle.service.proofs.house.House.show.Goals as goal

pub returns-then-not-is_key : goal.returns-then-not-is_key
returns-then-not-is_key g c = show_bad g.D.Device.step g.D.Device.size c.args.self.now.memory.dev c.args.self.now.held c.args.self.now.dir c.args.key.now (sym c.if-not-is_key.ensures)

pub returns : goal.returns
returns g c = show_good g.D.Device.step g.D.Device.size c.args.self.now.memory.dev c.args.self.now.held c.args.self.now.dir c.args.key.now c.show.result c.show.new.memory.dev (sym c.if-not-is_key.ensures) c.show.ensures.stays c.show.ensures.done
