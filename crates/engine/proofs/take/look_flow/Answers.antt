use Rattle.std.proofs.Common.{cond, ap, ◌∙◌}
use Rattle.pages.specs.Events.{due_task}
use Rattle.store.specs.Layout.{id_at}
use Rattle.engine.specs.Works.{better, look_flow}
use Rattle.engine.proofs.take.look_flow.Goals as goal

pub returns-then-not-is_wanted : goal.returns-then-not-is_wanted
unfolding look_flow
returns-then-not-is_wanted c =
    let b = better c.args.slot (due_task c.args.flow.now.task) (id_at c.args.dir.now c.args.slot) c.args.best in
    ap (λ t. cond t b c.args.best) c.if-not-is_wanted.ensures.flat

pub returns : goal.returns
unfolding look_flow
returns c =
    let a = c.args.best in
    let b = better c.args.slot (due_task c.args.flow.now.task) (id_at c.args.dir.now c.args.slot) a in
    c.better.ensures ∙ ap (λ d. better c.args.slot d c.id_at.result a) c.due_at.ensures.flat ∙ ap (λ d. better c.args.slot (due_task c.args.flow.now.task) d a) c.id_at.ensures
    ∙ ap (λ t. cond t b a) c.if-not-is_wanted.ensures.flat
