use Rattle.std.proofs.Common.{rules, ◌≡◌, ℕ, ap, ◌∙◌, subst, arith}
use Rattle.std.proofs.lemmas.Result.{err_from_is_err_and}
use Rattle.text.specs.Ahead.{ahead, stops}
use Rattle.text.specs.declared.Token.TheVariants as is
use Rattle.reading.specs.Took.{Bars}
use Rattle.reading.specs.Statements.{part_at, Large}
use Rattle.plans.specs.Plan.{size_of}
use Rattle.reading.proofs.Taking.{stop_end, no_stop}
use Rattle.reading.proofs.Whole.{not_short, no_part, token_behind, is_read}
use Rattle.reading.proofs.read_draft.Goals as goal

pub returns-then-text-gt-LONGEST_TEXT : goal.returns-then-text-gt-LONGEST_TEXT
returns-then-text-gt-LONGEST_TEXT c = not_short c.args.text.now c.if-text-gt-LONGEST_TEXT.true

pub returns-in_err-c : goal.returns-in_err-c
returns-in_err-c c =
    let long = c.requires in
    let q = err_from_is_err_and c.from_residual.result c.from_residual.ensures.1 in
    rw q.1 (no_part c.args.text.now c.if-text-gt-LONGEST_TEXT.false (subst (λ (n : ℕ). Bars part_at (Large size_of n 0) (ahead c.args.text.now 0)) (c.part.auto.out ∙ long) c.in_err-c.ensures.read))

pub returns-then-ne : goal.returns-then-ne
returns-then-ne c =
    let other : c.token_at-found.result.token ≡ is.Stop → ⊥ = λ e. search rules in
    let r = c.in_ok-c.ensures.read in
    token_behind r.item c.args.text.now c.in_ok-c.c.pos c.token_at-found.result.token _ _ c.if-text-gt-LONGEST_TEXT.false r.took c.token_at-found.ensures.ahead (no_stop c.token_at-found.result.token other)

pub returns : goal.returns
returns c =
    let stop : c.token_at-found.result.token ≡ is.Stop = search rules in
    let long = c.requires in
    let r = c.in_ok-c.ensures.read in
    let f = c.in_ok-c.ensures.forth in
    is_read c.args.text.now c.part.new.out r.item c.in_ok-c.c.pos c.in_ok-c.c.len c.token_at-found.result.token _ _ c.if-text-gt-LONGEST_TEXT.false (c.part.auto.out ∙ long) (omega (arith, f.3, c.part.auto.out)) r.took r.words c.token_at-found.ensures.ahead (ap stops stop) (stop_end c.args.text.now c.in_ok-c.c.pos c.token_at-found.result c.token_at-found.ensures.forth)
