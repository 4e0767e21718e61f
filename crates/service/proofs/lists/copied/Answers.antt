use Rattle.std.proofs.Common.{refl, ◌∙◌, arith}
use Rattle.std.proofs.lemmas.List.{length-set}
use Rattle.service.proofs.Copies.{one_more, clash}
use Rattle.service.proofs.lists.copied.Goals as goal
use Rattle.service.proofs.lists.copied.Goals.{in-Some, in-None}

pub loop-i-preserved : goal.loop-i-preserved
loop-i-preserved g c = record {
  whole = refl;
  end = c.len-i-end.ensures;
  size = length-set _ c.loop-i.i _ ∙ c.loop-i.invariant.size;
  same = elim c.match-checked.branch [ in-Some w ↦ one_more _ _ c.loop-i.i _ (omega (arith, c.len-i-end.ensures)) (omega (arith, c.len.ensures, c.len-i-end.ensures, c.if-len.false)) (w.out-is ∙ w.widen.ensures ∙ w.in-Some.ensures.some) c.loop-i.invariant.same | in-None w ↦ absurd (clash (w.in-None.ensures.there.1 (omega (arith, c.len-i-end.ensures)))) ];
}
