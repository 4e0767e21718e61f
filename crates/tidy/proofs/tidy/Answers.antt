use Rattle.std.proofs.Common.{ℕ, List, ◌++◌, ap, ◌∙◌}
use Rattle.std.proofs.lemmas.Result.{err_from_is_err_and}
use Rattle.plans.specs.Flat.{laid}
use Rattle.plans.specs.Slate.{words_of, room_of}
use Rattle.plans.proofs.Written.{appended_all}
use Rattle.plans.specs.contracts.sheet.SlateSheet.TheImpl.{ghosts}
use Rattle.text.specs.Printer.{text_of}
use Rattle.text.proofs.Texts.{sayable}
use Rattle.tidy.proofs.Reasons.{why_of}
use Rattle.tidy.proofs.tidy.Goals as goal

pub returns-in_err-read : goal.returns-in_err-read
returns-in_err-read c =
    let q = err_from_is_err_and c.from_residual-in_err-read.result c.from_residual-in_err-read.ensures.1 in
    rw (q.1, q.2) (why_of ghosts.wrote ghosts.room c.in_err-read.field-0.0 c.args.text.now _ c.in_ok-slate.slate c.read.new.sheet c.in_err-read.ensures)

pub returns : goal.returns
returns c =
    let r = c.in_ok-read.ensures in
    let flat = appended_all room_of words_of r.3 ∙ ap (λ (l : List ℕ). l ++ laid r.0) c.in_ok-slate.ensures.empty in
    let printed = c.in_ok-print.ensures r.0 (c.as_slice.ensures ∙ flat) (sayable 65536 c.args.text.now r.0 r.1).fine in
    record { block = r.0; is = r.1; prints = printed ∙ ap (λ (l : List ℕ). l ++ text_of r.0) c.new-out.ensures.items }
