use Rattle.std.proofs.Common.{sym, ap, ◌∙◌, arith, Some}
use Rattle.store.proofs.Finds.{first_hit, first_skip, first_none}
use Rattle.store.proofs.dir.first_slot.Goals as goal

pub returns-then-test : goal.returns-then-test
returns-then-test g c p is =
    let i = c.loop-i.i in
    let hit = ap p (sym c.new-slot.ensures) ∙ sym (is c.new-slot.result c.test.result c.test.ensures) ∙ c.if-test.true in
    ap Some c.new-slot.ensures ∙ sym (first_hit p i 1024 (omega arith) hit) ∙ c.loop-i.invariant p is

pub loop-i-preserved : goal.loop-i-preserved
loop-i-preserved g c p is =
    let i = c.loop-i.i in
    let missed = ap p (sym c.new-slot.ensures) ∙ sym (is c.new-slot.result c.test.result c.test.ensures) ∙ c.if-test.false in
    sym (first_skip p i 1024 (omega arith) missed) ∙ c.loop-i.invariant p is

pub returns : goal.returns
returns g c p is = sym (first_none p c.loop-i.i 1024 (omega arith)) ∙ c.loop-i.invariant p is
