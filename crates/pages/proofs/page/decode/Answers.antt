use Rattle.std.proofs.Common.{ℕ, ltb, List, get_or, Ok, sym, ap, ◌∙◌}
use Rattle.std.proofs.lemmas.Result.{err_from_is_err_and}
use Rattle.std.proofs.lemmas.Bool.{cond-true, cond-false, and_left, and_right, and_from, le-ltb, lt-ltb}
use Rattle.pages.proofs.Words.{decoded, no_phase, no_task_lem}
use Rattle.pages.proofs.page.decode.Goals as goal

pub returns-in_err-phase : goal.returns-in_err-phase
returns-in_err-phase c = let q = err_from_is_err_and c.from_residual.result c.from_residual.ensures.1 in q.1 ∙ no_phase c.args.words.now _ c.in_err-phase.ensures

pub returns-in_err-task : goal.returns-in_err-task
returns-in_err-task c = let q = err_from_is_err_and c.from_residual-in_err-task.result c.from_residual-in_err-task.ensures.1 in q.1 ∙ no_task_lem c.args.words.now _ _ c.in_ok-phase.ensures c.in_err-task.ensures

pub returns-then-words-ge64 : goal.returns-then-words-ge64
returns-then-words-ge64 c = sym (cond-false _ _ _ (and_left (ltb (get_or c.args.words.now 7 0) 64) _ (le-ltb _ _ c.if-words-ge64.true))) ∙ decoded c.args.words.now c.in_ok-phase.phase c.in_ok-task.task c.in_ok-phase.ensures c.in_ok-task.ensures

pub returns-then-not-agrees : goal.returns-then-not-agrees
returns-then-not-agrees c = sym (cond-false _ _ _ (and_right (ltb (get_or c.args.words.now 7 0) 64) _ (sym c.agrees.ensures ∙ c.if-not-agrees.true))) ∙ decoded c.args.words.now c.in_ok-phase.phase c.in_ok-task.task c.in_ok-phase.ensures c.in_ok-task.ensures

pub returns : goal.returns
returns c =
    let ws = c.args.words.now in
    ap (λ (v : List ℕ). Ok (record { place = record { phase = c.in_ok-phase.phase; here = get_or ws 5 0; steps = get_or ws 6 0; into = get_or ws 7 0 }; vars = v; task = c.in_ok-task.task })) c.copy_from_slice.ensures.after
    ∙ sym (cond-true _ _ _ (and_from (ltb (get_or ws 7 0) 64) _ (lt-ltb _ _ c.if-words-ge64.false) (sym c.agrees.ensures ∙ c.if-not-agrees.false)))
    ∙ decoded ws c.in_ok-phase.phase c.in_ok-task.task c.in_ok-phase.ensures c.in_ok-task.ensures
