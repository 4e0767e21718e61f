use Rattle.service.proofs.Keys.{key_ok}
use Rattle.service.proofs.lists.is_key.Goals as goal

pub returns-then-key-gt0 : goal.returns-then-key-gt0
returns-then-key-gt0 c = key_ok c.args.key.now c.if-key-gt0.true c.type_inv.key
