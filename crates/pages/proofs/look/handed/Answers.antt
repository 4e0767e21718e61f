use Rattle.std.proofs.Common.{◌≡◌, Some, rules}
use Rattle.pages.specs.declared.flow.Standing.TheVariants.{Out}
use Rattle.pages.specs.Events.{stands_as, handed_out}
use Rattle.pages.specs.Holds.{HandedAs}
use Rattle.pages.proofs.Asked.{handed_held}
use Rattle.pages.proofs.Given.{given_as}
use Rattle.pages.proofs.look.handed.Goals as goal

pub returns-in-Some : goal.returns-in-Some
returns-in-Some c = let h : record { place = c.args.flow.place; vars = c.args.flow.vars; task = Some (stands_as (Out c.args.until) c.in-Some.task) } ≡ handed_out c.args.until c.args.flow = search rules in record { flat = h; meant = given_as (HandedAs c.args.until c.args.flow) (handed_out c.args.until c.args.flow) (record { place = c.args.flow.place; vars = c.args.flow.vars; task = Some (stands_as (Out c.args.until) c.in-Some.task) }) (handed_held c.args.until c.args.flow) h }
