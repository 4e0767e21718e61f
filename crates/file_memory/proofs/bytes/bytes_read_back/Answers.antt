use Rattle.file_memory.proofs.ReadBack.{read_back}
use Rattle.file_memory.proofs.bytes.bytes_read_back.Goals as goal

pub returns : goal.returns
returns c = read_back
