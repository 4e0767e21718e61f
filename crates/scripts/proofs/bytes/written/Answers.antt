use Rattle.std.proofs.Common.{rules}
use Rattle.calls.specs.Raw.{raw_bytes}
use Rattle.scripts.proofs.bytes.written.Goals as goal

pub returns-in-Cancel : goal.returns-in-Cancel
unfolding raw_bytes
returns-in-Cancel c = search rules

pub returns-in-Show : goal.returns-in-Show
unfolding raw_bytes
returns-in-Show c = search rules

pub returns-in-Forget : goal.returns-in-Forget
unfolding raw_bytes
returns-in-Forget c = search rules
