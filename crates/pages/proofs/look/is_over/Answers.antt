use Rattle.std.proofs.Common.{◌≡◌, true, false, rules}
use Rattle.pages.specs.Events.{over_in}
use Rattle.pages.specs.Holds.{OverAs}
use Rattle.pages.proofs.Asked.{over_held}
use Rattle.pages.proofs.Given.{given_as}
use Rattle.pages.proofs.look.is_over.Goals as goal

pub returns-in-Ended-clause-meant : goal.returns-in-Ended-clause-meant
returns-in-Ended-clause-meant c = let h : true ≡ over_in c.args.phase = search rules in given_as (OverAs c.args.phase) (over_in c.args.phase) true (over_held c.args.phase) h

pub returns-in_default : goal.returns-in_default
returns-in_default c = let h : false ≡ over_in c.args.phase = search rules in record { flat = h; meant = given_as (OverAs c.args.phase) (over_in c.args.phase) false (over_held c.args.phase) h }
