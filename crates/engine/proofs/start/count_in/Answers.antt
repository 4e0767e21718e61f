use Rattle.std.proofs.Common.{◌<◌, sym, ap, ◌∙◌, subst, arith}
use Rattle.device.specs.Does.{Did}
use Rattle.store.specs.Layout.{next_of}
use Rattle.store.specs.Works.{flip_to}
use Rattle.store.specs.Entry.{bumped}
use Rattle.store.proofs.Turns.{turn_first}
use Rattle.engine.specs.Done.{held_as}
use Rattle.engine.proofs.start.count_in.Goals as goal

pub bump-requires : goal.bump-requires
bump-requires g c =
    subst (λ p. next_of p < 4611686018427387904) (sym c.turn_used.ensures)
    (let e = turn_first 1 c.args.held.now.root c.args.slot (omega arith) in let l = c.requires.low in omega arith)

pub returns : goal.returns
returns g c =
    let q = c.bump.ensures ∙ ap bumped c.turn_used.ensures in
    record {
      did = subst (λ p. Did g.D.Device.step (flip_to c.args.held.now.word p) c.args.memory.now.dev tt c.commit.new.self.dev) q c.commit.ensures.did;
      held = ap (λ p. held_as p c.args.held.now) q;
      stays = c.commit.ensures.stays;
    }
