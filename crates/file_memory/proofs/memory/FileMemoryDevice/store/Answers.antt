use Rattle.std.proofs.Common.{refl, arith}
use Rattle.file_memory.proofs.Held.{store_step}
use Rattle.file_memory.proofs.memory.FileMemoryDevice.store.Goals as goal

pub returns-then-is_none : goal.returns-then-is_none
returns-then-is_none g c =
    store_step c.args.self.now _ c.args.line c.args.word c.args.value (omega arith) (omega arith) refl c.if-is_none.ensures c.if-is_none.ensures
