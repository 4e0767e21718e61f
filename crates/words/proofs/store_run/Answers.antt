use Rattle.std.proofs.Common.{subst, ◌∙◌, ◌%◌, arith, get_or}
use Rattle.device.specs.Does.{Stored}
use Rattle.words.specs.Works.{store_via}
use Rattle.words.proofs.Words.{store_again, store_all}
use Rattle.words.proofs.store_run.Goals as goal

pub loop-i-preserved : goal.loop-i-preserved
loop-i-preserved g c =
    let d = g.D.Device in
    let at = g.P.Place.at c.args.place.now in (
      g.met.D.Device.stays _ _ _ c.store.ensures ∙ c.loop-i.invariant.0,
      store_again d.step at c.loop-i.i c.args.words.now (store_via at 0 c.args.words.now) (omega arith)
          (subst (λ k. d.step c.loop-i.dev (Stored k (c.loop-i.i % 8) (get_or c.args.words.now c.loop-i.i 0)) c.store.new.self) c.line.ensures c.store.ensures)
          c.loop-i.invariant.1,
    )

pub returns-clause-did : goal.returns-clause-did
returns-clause-did g c =
    let at = g.P.Place.at c.args.place.now in
    store_all g.D.Device.step at c.loop-i.i c.args.words.now (store_via at 0 c.args.words.now) (omega arith) c.loop-i.invariant.1
