use Rattle.std.proofs.Common.{refl}
use Rattle.file_memory.proofs.Held.{fence_step}
use Rattle.file_memory.proofs.memory.FileMemoryDevice.fence.Goals as goal

pub returns-then-is_none : goal.returns-then-is_none
returns-then-is_none g c = fence_step c.args.self.now _ refl c.if-is_none.ensures
