use Rattle.std.proofs.Common.{rules}
use Rattle.calls.specs.Raw.{kind_in}
use Rattle.calls.proofs.read.of_kind.Goals as goal

pub returns-in-1 : goal.returns-in-1
unfolding kind_in
returns-in-1 c = simp c.in-1.is c.start.ensures

pub returns-in-2 : goal.returns-in-2
unfolding kind_in
returns-in-2 c = simp c.in-2.is c.tell.ensures

pub returns-in-3 : goal.returns-in-3
unfolding kind_in
returns-in-3 c = simp c.in-3.is c.cancel.ensures

pub returns-in-4 : goal.returns-in-4
unfolding kind_in
returns-in-4 c = simp c.in-4.is c.take.ensures

pub returns-in-5 : goal.returns-in-5
unfolding kind_in
returns-in-5 c = simp c.in-5.is c.longer.ensures

pub returns-in-6 : goal.returns-in-6
unfolding kind_in
returns-in-6 c = simp c.in-6.is c.report.ensures

pub returns-in-7 : goal.returns-in-7
unfolding kind_in
returns-in-7 c = simp c.in-7.is c.show.ensures

pub returns-in-8 : goal.returns-in-8
unfolding kind_in
returns-in-8 c = simp c.in-8.is c.forget.ensures

pub returns-in-9 : goal.returns-in-9
unfolding kind_in
returns-in-9 c = simp c.in-9.is c.time.ensures

pub returns-in_default : goal.returns-in_default
unfolding kind_in
returns-in_default c = search rules
