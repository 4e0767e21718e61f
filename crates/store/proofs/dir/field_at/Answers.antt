use Rattle.std.proofs.Common.{rules}
use Rattle.store.specs.Layout.{field}
use Rattle.store.proofs.dir.field_at.Goals as goal

pub returns : goal.returns
unfolding field
returns c = search rules
