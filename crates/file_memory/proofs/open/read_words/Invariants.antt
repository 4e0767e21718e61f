use Rattle.std.proofs.Common.{◌≡◌, ◌*◌, length}
use Rattle.file_memory.proofs.open.read_words.Given as goal

abbrev pub invariant-loop-part : goal.invariant-loop-part
invariant-loop-part g l = l.part-iterator.size ≡ 512

abbrev pub invariant-loop-k : goal.invariant-loop-k
invariant-loop-k g l = length l.bytes ≡ 8 * length l.part
