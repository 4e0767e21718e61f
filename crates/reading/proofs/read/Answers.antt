use Rattle.std.proofs.Common.{◌*◌, sym, refl, arith, length-take-le}
use Rattle.std.proofs.lemmas.Result.{err_from_is_err_and}
use Rattle.text.proofs.Texts.{read_sound}
use Rattle.reading.proofs.Whole.{not_text, reads_refused}
use Rattle.reading.proofs.read.Goals as goal

pub returns-in_err-size : goal.returns-in_err-size
returns-in_err-size g c =
    let q = err_from_is_err_and c.from_residual.result c.from_residual.ensures.1 in
    rw (q.1, q.2) (not_text c.args.text.now c.in_err-size.ensures, refl)

pub slice_bounds-link-end : goal.slice_bounds-link-end
slice_bounds-link-end g c = let i = c.in_ok-size.ensures in let l = c.read_draft.auto.draft in let m = length-take-le 16384 c.args.draft.now (omega arith) in sym (length-take-le (4 * c.in_ok-size.size) c.read_draft.new.draft (omega (arith, i.small, l, m)))

pub returns-in_err-link : goal.returns-in_err-link
returns-in_err-link g c =
    let i = c.in_ok-size.ensures in
    let q = err_from_is_err_and c.from_residual-in_err-link.result c.from_residual-in_err-link.ensures.1 in
    rw (q.1, q.2) (reads_refused g.S.Sheet.wrote g.S.Sheet.room c.in_err-link.field-0.0 c.args.text.now _ c.in_ok-size.size _ _ _ i (c.in_err-link.ensures i.block (omega (arith, i.sized, i.small)) i.words))

pub returns : goal.returns
returns g c =
    let i = c.in_ok-size.ensures in
    (i.block, read_sound 65536 c.args.text.now i.block i.read, i.sized, c.in_ok-link.ensures i.block (omega (arith, i.sized, i.small)) i.words)
