use Rattle.std.proofs.Common.{◌<◌, ◌*◌, ◌/◌, length, sym, ap, ◌∙◌, arith}
use Rattle.calls.proofs.Many.{length_numbers, get_numbers, in_bytes}
use Rattle.calls.proofs.types.Numbers.checked.Goals as goal

pub overflow_mul-WIDTH : goal.overflow_mul-WIDTH
overflow_mul-WIDTH g c =
    let w = g.T.Wide.WIDTH in
    let n = length c.args.self.now.bytes.now in
    let i : c.args.i < n / w = omega (arith, c.len.ensures, length_numbers w g.T.Wide.at (n / w) c.args.self.now.bytes.now) in
    rw c.WIDTH.ensures (omega (arith, in_bytes w c.args.i n i))

pub at-requires : goal.at-requires
at-requires g c =
    let w = g.T.Wide.WIDTH in
    let n = length c.args.self.now.bytes.now in
    let i : c.args.i < n / w = omega (arith, c.len.ensures, length_numbers w g.T.Wide.at (n / w) c.args.self.now.bytes.now) in
    rw c.WIDTH.ensures (in_bytes w c.args.i n i)

pub returns-then-i-len-clause-some : goal.returns-then-i-len-clause-some
returns-then-i-len-clause-some g c =
    let w = g.T.Wide.WIDTH in
    let f = c.args.self.now.bytes.now in
    let i : c.args.i < length f / w = omega (arith, c.len.ensures, length_numbers w g.T.Wide.at (length f / w) f) in
    c.at.ensures ∙ ap (λ k. g.T.Wide.at f (k * c.args.i)) c.WIDTH.ensures ∙ sym (get_numbers w g.T.Wide.at g.met.T.Wide.shifts (length f / w) f c.args.i i)
