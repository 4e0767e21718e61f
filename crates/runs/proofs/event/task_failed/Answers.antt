use Rattle.std.proofs.Common.{[], Ok, Err, sym, ap}
use Rattle.runs.specs.declared.step.Place.{Place}
use Rattle.runs.specs.Steps.{Went, fails_to}
use Rattle.runs.specs.Units.{statement_at}
use Rattle.runs.proofs.Tidings.{broken_in, task_went, task_lost}
use Rattle.runs.proofs.event.task_failed.Goals as goal

pub returns : goal.returns
returns c =
    let h = task_went (statement_at c.args.words.now c.args.place.here) (λ next way. Went (fails_to way c.args.place) [] []) c.in-Some.task (Went c.fails.result [] []) c.in-Some.ensures (ap (λ (q : Place). Went q [] []) (sym c.fails.ensures)) in
    record { flat = h; meant = broken_in c.args.words.now c.args.place (Ok c.fails.result) h }

pub returns-in_default : goal.returns-in_default
returns-in_default c =
    let h = task_lost (statement_at c.args.words.now c.args.place.here) (λ next way. Went (fails_to way c.args.place) [] []) c.in_default.ensures in
    record { flat = h; meant = broken_in c.args.words.now c.args.place (Err _) h }
