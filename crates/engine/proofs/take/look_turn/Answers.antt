use Rattle.std.proofs.Common.{Ok, sym, refl, ap, ◌∙◌}
use Rattle.std.proofs.lemmas.Result.{err_from_is_err_and}
use Rattle.pages.specs.Page.{damaged}
use Rattle.engine.specs.Works.{Looking, by_flow, if_good, look_flow}
use Rattle.engine.specs.Done.{mind_of}
use Rattle.engine.proofs.Taking.{look_same, look_unused, look_used}
use Rattle.engine.proofs.take.look_turn.Goals as goal

pub returns-then-not-is_used-clause-did : goal.returns-then-not-is_used-clause-did
returns-then-not-is_used-clause-did g c = look_unused g.D.Device.step (mind_of (g.D.Device.size c.args.memory.now.dev) c.args.held.now c.args.dir.now) c.args.kinds.now c.args.slot c.args.looking (sym c.if-not-is_used.ensures)

pub returns-in_err-flow-clause-did : goal.returns-in_err-flow-clause-did
unfolding by_flow
returns-in_err-flow-clause-did g c =
    let x = mind_of (g.D.Device.size c.args.memory.now.dev) c.args.held.now c.args.dir.now in
    let q = err_from_is_err_and c.from_residual.result c.from_residual.ensures.1 in
    rw q.1 (look_used g.D.Device.step x c.args.kinds.now c.args.slot c.args.looking damaged _ (sym c.if-not-is_used.ensures) c.in_err-flow.ensures.did refl)

pub returns-in_err-looking-clause-did : goal.returns-in_err-looking-clause-did
unfolding by_flow if_good
returns-in_err-looking-clause-did g c =
    let x = mind_of (g.D.Device.size c.args.memory.now.dev) c.args.held.now c.args.dir.now in
    let q = err_from_is_err_and c.from_residual-in_err-looking.result c.from_residual-in_err-looking.ensures.1 in
    rw q.1 (look_used g.D.Device.step x c.args.kinds.now c.args.slot c.args.looking damaged _ (sym c.if-not-is_used.ensures) c.in_ok-flow.ensures.did
    (ap (λ (a : Looking). if_good a (λ b. look_flow c.args.kinds.now x c.args.slot b c.in_ok-flow.flow)) (sym c.in_err-looking.was)))

pub returns-clause-did : goal.returns-clause-did
unfolding by_flow if_good
returns-clause-did g c =
    let x = mind_of (g.D.Device.size c.args.memory.now.dev) c.args.held.now c.args.dir.now in
    look_used g.D.Device.step x c.args.kinds.now c.args.slot c.args.looking (Ok c.look_flow.result) _ (sym c.if-not-is_used.ensures) c.in_ok-flow.ensures.did
    (ap Ok (c.look_flow.ensures ∙ look_same c.args.kinds.now x c.args.slot c.in_ok-looking.field-0 c.in_ok-flow.flow)
    ∙ ap (λ (a : Looking). if_good a (λ b. look_flow c.args.kinds.now x c.args.slot b c.in_ok-flow.flow)) (sym c.in_ok-looking.was))
