use Rattle.calls.proofs.Back.{reads_back}
use Rattle.calls.proofs.Forth.{reads_only}
use Rattle.calls.proofs.Ranges.{calls_carried}
use Rattle.calls.proofs.calls_stand.Goals as goal

pub returns : goal.returns
returns c = record { back = reads_back; only = reads_only; carries = calls_carried }
