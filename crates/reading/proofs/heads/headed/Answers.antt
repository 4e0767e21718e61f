use Rattle.std.proofs.Common.{◌+◌, take, le_refl, arith}
use Rattle.std.proofs.lemmas.Result.{err_from_is_err_and}
use Rattle.reading.specs.Statements.{whole_expr}
use Rattle.reading.proofs.Leveled.{no_room}
use Rattle.reading.proofs.Steps.{whole_read, further_onwards, taken_all}
use Rattle.reading.proofs.heads.headed.Goals as goal

pub returns-in_err-room : goal.returns-in_err-room
returns-in_err-room c =
    let q = err_from_is_err_and c.from_residual.result c.from_residual.ensures.1 in
    let short = c.in_err-room.ensures in
    rw q.1 (record { forth = tt; read = no_room whole_expr _ _ _ (omega (arith, short, taken_all (c.args.at.len + 4) c.args.out.now (omega (arith, short)))) })

pub returns : goal.returns
returns c = record { forth = further_onwards c.chain.result _ _ _ (c.args.at.pos + 1) (c.args.at.len + 4) (le_refl _) (le_refl _) c.chain.ensures.forth; read = whole_read c.chain.result c.args.text.now c.args.at.pos (take (c.args.at.len + 4) c.args.out.now) c.chain.new.out c.chain.ensures.read }
