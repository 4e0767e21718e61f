use Rattle.std.proofs.Common.{refl, arith}
use Rattle.calls.proofs.Puts.{wrote_some}
use Rattle.calls.proofs.write.write_reply.Goals as goal

pub returns : goal.returns
returns g c =
    let size = c.size-size.ensures.is in
    record { wrote = wrote_some _ _ _ _ (omega arith) c.put_reply.ensures size; room = λ h. refl }
