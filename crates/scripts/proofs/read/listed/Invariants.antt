use Rattle.std.proofs.Common.{◌≡◌, vec_len}
use Rattle.scripts.proofs.read.listed.Given as goal

abbrev pub invariant-loop-i : goal.invariant-loop-i
invariant-loop-i g l = vec_len l.found ≡ l._i
