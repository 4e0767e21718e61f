use Rattle.std.proofs.Common.{◌≡◌, ◌-◌, List, ℕ, Some, Ok, Option, sym, ap, ◌∙◌}
use Rattle.std.proofs.lemmas.Result.{err_from_is_err_and}
use Rattle.store.specs.Layout.{turn_at}
use Rattle.engine.specs.Works.{Changed, root_of, turned}
use Rattle.engine.specs.Done.{mind_of}
use Rattle.engine.proofs.Timing.{save_did, root_is}
use Rattle.engine.proofs.time.tick_save.Goals as goal

pub returns-in_err-changed-clause-did : goal.returns-in_err-changed-clause-did
returns-in_err-changed-clause-did g c =
    let x = mind_of (g.D.Device.size c.args.memory.now.dev) c.args.held.now c.args.dir.now in
    let q = err_from_is_err_and c.from_residual.result c.from_residual.ensures.1 in
    rw q.1 (save_did g.D.Device.step x c.args.slot c.other-copy.result c.args.changed _ c.args.flow.now c.encode.result (c.other-copy.ensures ∙ ap (λ v. 1 - v) c.pick.ensures) c.encode.ensures
    (ap (turned x c.args.slot) (sym c.in_err-changed.was)) c.save_page.ensures.did)

pub returns : goal.returns
returns g c =
    let x = mind_of (g.D.Device.size c.args.memory.now.dev) c.args.held.now c.args.dir.now in
    let o : Option (List ℕ) = c.in_ok-changed.field-0 in
    let e : c.turn_pick.new.page ≡ turn_at 17 c.args.slot (root_of x o) = c.turn_pick.ensures ∙ ap (turn_at 17 c.args.slot) (c.unwrap_or-page.ensures ∙ root_is x o) in
    let b : ◌≡◌ {A = Changed} (Ok (Some c.turn_pick.new.page)) (turned x c.args.slot c.args.changed) = ap (λ (l : List ℕ). Ok (Some l)) e ∙ ap (turned x c.args.slot) (sym c.in_ok-changed.was) in
    record {
      did = save_did g.D.Device.step x c.args.slot c.other-copy.result c.args.changed _ c.args.flow.now c.encode.result (c.other-copy.ensures ∙ ap (λ v. 1 - v) c.pick.ensures) c.encode.ensures b c.save_page.ensures.did;
      stays = c.save_page.ensures.stays;
    }
