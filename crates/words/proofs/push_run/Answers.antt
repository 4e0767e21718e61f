use Rattle.std.proofs.Common.{subst, ◌∙◌, arith}
use Rattle.device.specs.Does.{Pushed, d_end, d_push}
use Rattle.device.proofs.Loops.{loop_again, loop_all}
use Rattle.words.specs.Works.{push_turn, push_via}
use Rattle.words.proofs.push_run.Goals as goal

pub loop-i-preserved : goal.loop-i-preserved
loop-i-preserved g c =
    let d = g.D.Device in
    let at = g.P.Place.at c.args.place.now in (
      g.met.D.Device.stays _ _ _ c.push.ensures ∙ c.loop-i.invariant.0,
      loop_again d.step (push_turn at) c.loop-i.i c.args.count tt tt tt (omega arith)
          (d_push (subst (λ k. d.step c.loop-i.dev (Pushed k) c.push.new.self) c.line.ensures c.push.ensures) d_end) c.loop-i.invariant.1,
    )

pub returns-clause-did : goal.returns-clause-did
unfolding push_via
returns-clause-did g c = loop_all g.D.Device.step (push_turn (g.P.Place.at c.args.place.now)) c.loop-i.i c.args.count tt tt (omega arith) c.loop-i.invariant.1
