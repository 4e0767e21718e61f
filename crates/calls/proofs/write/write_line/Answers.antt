use Rattle.std.proofs.Common.{◌≡◌, ◌+◌, ◌≤◌, length, refl, sym, ap, ◌∙◌, arith}
use lib.Seq.{sets}
use Rattle.calls.specs.Replies.{bytes_by}
use Rattle.calls.specs.Lines.{framed}
use Rattle.calls.proofs.Puts.{wrote_some, line_put, line_size}
use Rattle.calls.proofs.write.write_line.Goals as goal

pub returns : goal.returns
returns g c =
    let bs = bytes_by g.N.Numbered.number c.args.reply.now in
    let size : c.size-size.result ≡ length bs = c.size-size.ensures.is in
    let whole = line_size c.args.tag bs in
    let room : length (framed c.args.tag bs) ≤ length c.args.out.now = omega (arith, whole, size) in
    let count : c.size-size.result + 8 ≡ length (framed c.args.tag bs) = ap (λ n. n + 8) size ∙ sym whole in
    record {
      wrote =
          wrote_some (framed c.args.tag bs) c.args.out.now c.put_reply.new.out (c.size-size.result + 8) room
          (line_put c.args.out.now c.put.new.out c.put-2.new.out c.put_reply.new.out bs c.size-size.result c.args.tag size (c.put.ensures ∙ ap (sets c.args.out.now 0) c.to_be_bytes.ensures) (c.put-2.ensures ∙ ap (sets c.put.new.out 4) c.to_be_bytes-2.ensures) c.put_reply.ensures) count;
      room = λ h. refl;
    }
