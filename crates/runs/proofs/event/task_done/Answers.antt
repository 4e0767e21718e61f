use Rattle.std.proofs.Common.{[], set, Ok, Err, sym, ap, arith}
use Rattle.runs.specs.declared.step.Place.{Place}
use Rattle.runs.specs.Steps.{Went, gone_to}
use Rattle.runs.specs.Units.{statement_at}
use Rattle.runs.proofs.Tidings.{result_in, task_went, task_lost}
use Rattle.runs.proofs.event.task_done.Goals as goal

pub returns : goal.returns
returns c =
    let h = task_went (statement_at c.args.words.now c.args.place.here) (λ next way. Went (gone_to next c.args.place) (set c.args.vars.now c.args.place.into c.args.value) []) c.in-Some.task (Went c.goes.result (set c.args.vars.now c.args.place.into c.args.value) []) c.in-Some.ensures (ap (λ (q : Place). Went q (set c.args.vars.now c.args.place.into c.args.value) []) (sym c.goes.ensures)) in
    record { flat = h; meant = result_in c.args.words.now c.args.place c.args.value c.args.vars.now (set c.args.vars.now c.args.place.into c.args.value) (Ok c.goes.result) (omega arith) c.requires h }

pub returns-in_default : goal.returns-in_default
returns-in_default c =
    let h = task_lost (statement_at c.args.words.now c.args.place.here) (λ next way. Went (gone_to next c.args.place) (set c.args.vars.now c.args.place.into c.args.value) []) c.in_default.ensures in
    record { flat = h; meant = result_in c.args.words.now c.args.place c.args.value c.args.vars.now c.args.vars.now (Err _) (omega arith) c.requires h }
