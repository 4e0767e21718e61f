use Rattle.std.proofs.Common.{◌≡◌, false, leb, rules}
use Rattle.pages.specs.Events.{wanted_task}
use Rattle.pages.specs.Holds.{WantedAs}
use Rattle.pages.proofs.Asked.{wanted_held}
use Rattle.pages.proofs.Given.{given_as}
use Rattle.pages.proofs.look.is_wanted.Goals as goal

pub returns-then-at-time : goal.returns-then-at-time
returns-then-at-time c = let h : c.is_one_of.result ≡ wanted_task c.args.time c.args.kinds.now c.args.flow.now.task = search rules in record { flat = h; meant = given_as (WantedAs c.args.time c.args.kinds.now c.args.flow.now) (wanted_task c.args.time c.args.kinds.now c.args.flow.now.task) c.is_one_of.result (wanted_held c.args.time c.args.kinds.now c.args.flow.now) h }

pub returns-else-at-time : goal.returns-else-at-time
returns-else-at-time c = let h : leb c.in-Due.at c.args.time ≡ wanted_task c.args.time c.args.kinds.now c.args.flow.now.task = search rules in record { flat = h; meant = given_as (WantedAs c.args.time c.args.kinds.now c.args.flow.now) (wanted_task c.args.time c.args.kinds.now c.args.flow.now.task) (leb c.in-Due.at c.args.time) (wanted_held c.args.time c.args.kinds.now c.args.flow.now) h }

pub returns-in-Out : goal.returns-in-Out
returns-in-Out c = let h : false ≡ wanted_task c.args.time c.args.kinds.now c.args.flow.now.task = search rules in record { flat = h; meant = given_as (WantedAs c.args.time c.args.kinds.now c.args.flow.now) (wanted_task c.args.time c.args.kinds.now c.args.flow.now.task) (false) (wanted_held c.args.time c.args.kinds.now c.args.flow.now) h }
