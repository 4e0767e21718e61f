use Rattle.std.proofs.Common.{◌≡◌, arith, rules}
use Rattle.calls.specs.Raw.{raw_in}
use Rattle.calls.specs.Seen.{call_seen}
use Rattle.calls.specs.Stands.{Below}
use Rattle.calls.proofs.Ranges.{below_typed, ranged}
use Rattle.calls.proofs.read.read_call.Goals as goal

pub returns-clause-ranged : goal.returns-clause-ranged
returns-clause-ranged c =
    let bytes : Below 256 c.args.bytes.now = below_typed c.args.bytes.now (λ i. let h = c.type_inv.bytes i in omega arith) in
    let is : call_seen c.of_kind.result ≡ raw_in c.args.bytes.now = search rules in
    ranged c.args.bytes.now _ bytes is
