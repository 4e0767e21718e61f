use Rattle.std.proofs.Common.{◌≡◌, ℕ, ◌/◌, length, Ok, refl, subst, arith}
use Rattle.std.proofs.lemmas.Result.{err_from_is_err_and}
use Rattle.pages.specs.Page.{damaged}
use Rattle.pages.specs.Events.{begun}
use Rattle.engine.specs.Done.{mind_of}
use Rattle.engine.proofs.Launching.{blocks_lost, blocks_done}
use Rattle.engine.proofs.start.start_blocks.Goals as goal

pub returns-in_err-flow : goal.returns-in_err-flow
returns-in_err-flow g c =
    let x = mind_of (g.D.Device.size c.args.memory.now.dev) c.args.held.now c.args.dir.now in
    let ws = c.args.new.now.plan.now in
    let q = err_from_is_err_and c.from_residual.result c.from_residual.ensures.1 in
    let t : length c.args.stack.now ≡ 4096 = omega arith in
    let e = subst (λ (m : ℕ). damaged ≡ begun (length c.args.stack.now) ws c.args.new.now.words.now m) c.now.ensures c.in_err-flow.ensures.flat in
    rw q.1 (record {
      done = blocks_lost g.D.Device.step x c.args.new.now.key.now (length ws / 4) ws c.args.new.now.words.now c.args.slot c.args.blocks.now _ (subst (λ n. damaged ≡ begun n ws c.args.new.now.words.now x.now) t e);
      stays = refl;
      time = refl;
    })

pub returns : goal.returns
returns g c =
    let x = mind_of (g.D.Device.size c.args.memory.now.dev) c.args.held.now c.args.dir.now in
    let ws = c.args.new.now.plan.now in
    let t : length c.args.stack.now ≡ 4096 = omega arith in
    let e = subst (λ (m : ℕ). Ok c.in_ok-flow.flow ≡ begun (length c.args.stack.now) ws c.args.new.now.words.now m) c.now.ensures c.in_ok-flow.ensures.flat in
    record {
      done = blocks_done g.D.Device.step x c.args.new.now.key.now (length ws / 4) ws c.args.new.now.words.now c.args.slot c.args.blocks.now c.in_ok-flow.flow _ _ (subst (λ n. Ok c.in_ok-flow.flow ≡ begun n ws c.args.new.now.words.now x.now) t e) c.born.ensures.done;
      stays = c.born.ensures.stays;
      time = c.born.ensures.time;
    }
