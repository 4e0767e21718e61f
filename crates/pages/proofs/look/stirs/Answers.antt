use Rattle.std.proofs.Common.{◌≡◌, rules}
use Rattle.pages.specs.Events.{stirring}
use Rattle.pages.specs.Holds.{StaysAs}
use Rattle.pages.proofs.Ticks.{stays_held}
use Rattle.pages.proofs.Given.{given_as}
use Rattle.pages.proofs.look.stirs.Goals as goal

pub returns-else-is_late : goal.returns-else-is_late
returns-else-is_late c = let h : c.wakes_at.result ≡ stirring c.args.time c.args.flow.now = search rules in record { flat = h; meant = given_as (StaysAs c.args.time c.args.flow.now) (stirring c.args.time c.args.flow.now) c.wakes_at.result (stays_held c.args.time c.args.flow.now) h }
