use Rattle.std.proofs.Common.{refl, arith}
use Rattle.lines.proofs.Parts.{part_at}
use Rattle.lines.proofs.Caches.{load_step}
use Rattle.lines.proofs.cached.CachedDevice.load.Goals as goal

pub returns : goal.returns
returns c =
    let s = c.args.self.now in
    let x = c.index.result.now in
    load_step s _ c.args.line c.args.word x.sees refl refl (omega arith) (omega arith)
    (part_at (λ w. w.sees) s.words.items _ x x (omega (arith, s.words.ok.0)) c.index.ensures)
