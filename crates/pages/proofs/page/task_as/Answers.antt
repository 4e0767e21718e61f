use Rattle.std.proofs.Common.{ℕ, cond, leb, List, get_or, Some, Ok, Option, Result, sym, ap, ◌∙◌}
use Rattle.std.proofs.lemmas.Bool.{cond-true, cond-false, and_left, lt-leb}
use Rattle.plans.specs.declared.eval.Damaged.{Damaged}
use Rattle.pages.specs.declared.flow.Standing.{Standing}
use Rattle.pages.specs.declared.flow.Task.{Task}
use Rattle.pages.specs.Page.{fair, damaged, as_task, task_as}
use Rattle.pages.proofs.page.task_as.Goals as goal

with_args : List ℕ → Standing → List ℕ → Task
with_args ws s a = record { kind = get_or ws 10 0; args = a; count = get_or ws 11 0; attempt = get_or ws 12 0; tries = get_or ws 13 0; pause = get_or ws 14 0; standing = s }

abbrev tested : List ℕ → Standing → List ℕ → Result (Option Task) Damaged
tested ws s a = cond (fair (with_args ws s a)) (Ok (Some (with_args ws s a))) damaged

pub returns-then-count-gt16 : goal.returns-then-count-gt16
unfolding task_as
returns-then-count-gt16 c = sym (cond-false (fair (as_task c.args.words.now c.args.standing)) _ _ (and_left (leb (get_or c.args.words.now 11 0) 16) _ (lt-leb _ _ c.if-count-gt16.true)))

pub returns-then-is_fair : goal.returns-then-is_fair
unfolding task_as with_args
returns-then-is_fair c = sym (cond-true (fair (with_args c.args.words.now c.args.standing c.first_args.result)) _ _ (sym c.is_fair.ensures ∙ c.if-is_fair.true)) ∙ ap (tested c.args.words.now c.args.standing) c.first_args.ensures

pub returns-else-is_fair : goal.returns-else-is_fair
unfolding task_as with_args
returns-else-is_fair c = sym (cond-false (fair (with_args c.args.words.now c.args.standing c.first_args.result)) _ _ (sym c.is_fair.ensures ∙ c.if-is_fair.false)) ∙ ap (tested c.args.words.now c.args.standing) c.first_args.ensures
