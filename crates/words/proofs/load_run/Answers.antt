use Rattle.std.proofs.Common.{subst, ◌∙◌, ◌%◌, arith, length}
use Rattle.device.specs.Does.{Loaded}
use Rattle.words.specs.Works.{load_via}
use Rattle.words.proofs.Words.{load_again, load_all}
use Rattle.words.proofs.load_run.Goals as goal

pub loop-i-preserved : goal.loop-i-preserved
loop-i-preserved g c =
    let d = g.D.Device in
    let n = length c.args.out.now in
    let at = g.P.Place.at c.args.place.now in (
      g.met.D.Device.stays _ _ _ c.load.ensures ∙ c.loop-i.invariant.0,
      load_again d.step at c.loop-i.i n c.loop-i.out c.load.result (load_via at 0 n) (omega arith) (omega arith)
          (subst (λ k. d.step c.loop-i.dev (Loaded k (c.loop-i.i % 8) c.load.result) c.load.new.self) c.line.ensures c.load.ensures)
          c.loop-i.invariant.1,
    )

pub returns-clause-did : goal.returns-clause-did
returns-clause-did g c =
    let n = length c.args.out.now in
    let at = g.P.Place.at c.args.place.now in
    load_all g.D.Device.step at c.loop-i.i n c.loop-i.out (load_via at 0 n) (omega arith) (omega arith) c.loop-i.invariant.1
