use Rattle.std.proofs.Common.{◌+◌, ◌-◌, ap, ◌∙◌, arith}
use lib.Seq.{sets}
use Rattle.calls.proofs.Puts.{put_is}
use Rattle.calls.proofs.write.put.Goals as goal

pub returns : goal.returns
returns g c = put_is c.args.out.now c.copy_from_slice.new.self c.args.at (c.args.at + g.row.N - c.args.at) (omega (arith, c.copy_from_slice.ensures.len)) (omega (arith, c.copy_from_slice.ensures.len)) ∙ ap (sets c.args.out.now c.args.at) c.copy_from_slice.ensures.after
