use Rattle.std.proofs.Common.{◌≡◌, ◌++◌, take, vec_items}
use Rattle.calls.specs.Bytes.{all_of}
use Rattle.scripts.proofs.bytes.put_all.Given as goal

abbrev pub invariant-loop-value : goal.invariant-loop-value
invariant-loop-value g l = vec_items l.out ≡ vec_items l.initial.out ++ all_of g.T.Wide.bytes (take l.value-index l.values)
