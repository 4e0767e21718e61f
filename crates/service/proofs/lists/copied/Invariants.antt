use Rattle.std.proofs.Common.{◌≡◌, length, take}
use Rattle.calls.specs.Held.{numbers_held}
use Rattle.service.proofs.lists.copied.Given as goal

abbrev pub invariant-loop-i : goal.invariant-loop-i
invariant-loop-i g l = record {
  whole : l.numbers ≡ l.fn.numbers;
  end : l.i-end ≡ length (numbers_held g.T.Wide.WIDTH g.T.Wide.at l.fn.numbers);
  size : length l.out ≡ g.row.N;
  same : take l.i l.out ≡ take l.i (numbers_held g.T.Wide.WIDTH g.T.Wide.at l.fn.numbers);
}
