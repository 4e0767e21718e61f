use Rattle.std.proofs.Common.{sym, refl, ◌∙◌, subst}
use Rattle.std.proofs.lemmas.Result.{err_from_is_err_and}
use Rattle.device.specs.Does.{Did, d_end}
use Rattle.pages.specs.Page.{damaged}
use Rattle.engine.specs.Works.{by_flow, tick_flow}
use Rattle.engine.specs.Done.{mind_of}
use Rattle.engine.proofs.Timing.{turn_unused, turn_used}
use Rattle.engine.proofs.time.tick_turn.Goals as goal

pub returns-then-not-is_used : goal.returns-then-not-is_used
returns-then-not-is_used g c = record { did = turn_unused g.D.Device.step (mind_of (g.D.Device.size c.args.memory.now.dev) c.args.held.now c.args.dir.now) c.args.time c.args.slot c.args.changed (sym c.if-not-is_used.ensures); stays = refl }

pub returns-in_err-flow : goal.returns-in_err-flow
unfolding by_flow
returns-in_err-flow g c =
    let x = mind_of (g.D.Device.size c.args.memory.now.dev) c.args.held.now c.args.dir.now in
    let q = err_from_is_err_and c.from_residual.result c.from_residual.ensures.1 in
    rw q.1 (record { did = turn_used g.D.Device.step x c.args.time c.args.slot c.args.changed damaged _ (sym c.if-not-is_used.ensures) c.in_err-flow.ensures.did d_end; stays = c.in_err-flow.ensures.stays })

pub returns : goal.returns
unfolding by_flow
returns g c =
    let step = g.D.Device.step in
    let x = mind_of (g.D.Device.size c.args.memory.now.dev) c.args.held.now c.args.dir.now in
    let d = subst (λ n. Did step (tick_flow c.args.time (mind_of n c.args.held.now c.args.dir.now) c.args.slot c.args.changed c.in_ok-flow.flow) c.open.new.memory.dev c.tick_flow.result c.tick_flow.new.memory.dev) c.in_ok-flow.ensures.stays c.tick_flow.ensures.did in
    record { did = turn_used step x c.args.time c.args.slot c.args.changed c.tick_flow.result _ (sym c.if-not-is_used.ensures) c.in_ok-flow.ensures.did d; stays = c.tick_flow.ensures.stays ∙ c.in_ok-flow.ensures.stays }
