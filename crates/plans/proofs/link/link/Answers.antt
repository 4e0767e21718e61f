use Rattle.std.proofs.Common.{[], length, sym, ap, ◌∙◌, append-nil, arith}
use Rattle.std.proofs.lemmas.Result.{err_from_is_err_and}
use Rattle.plans.specs.Flat.{draft_of}
use Rattle.plans.proofs.Drafts.{draft_length}
use Rattle.plans.proofs.Parts.{some_size, laid_refused, laid_is}
use Rattle.plans.proofs.link.link.Goals as goal

pub returns-then-draft-lt4 : goal.returns-then-draft-lt4
returns-then-draft-lt4 g c = λ b h d. let l = draft_length b in let m = some_size b in let e = ap length d in omega (arith, c.then-draft-lt4.either)

pub returns-in_err-link_part : goal.returns-in_err-link_part
returns-in_err-link_part g c = λ b h d.
    let q = err_from_is_err_and c.from_residual.result c.from_residual.ensures.1 in
    rw (q.1, q.2) (laid_refused g.S.Sheet.wrote g.S.Sheet.room b c.args.draft.now d c.args.sheet.now c.link_part.new.sheet c.in_err-link_part.field-0.0 (c.in_err-link_part.ensures b [] (d ∙ sym (append-nil (draft_of b)))))

pub returns : goal.returns
returns g c = λ b h d. laid_is g.S.Sheet.wrote g.S.Sheet.room b c.args.draft.now d c.args.sheet.now c.link_part.new.sheet (c.in_ok-link_part.ensures b [] (d ∙ sym (append-nil (draft_of b)))).1
