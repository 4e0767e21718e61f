use mathlib.Core.Path.{◌∙◌, ap, subst}
use native.Mathlib.Omega.{arith}
use Rattle.lines.specs.Caches.{lines_in, Fails}
use Rattle.cell.specs.Crash.{survives, small_of}
use Rattle.cell.proofs.put_and_fail.Goals as goal

pub returns : goal.returns
returns c =
    let ws = c.args.words.now in
    record {
      survives =
          survives c.args.memory c.new-fuse.result c.put.new.memory c.fail.new.self ws c.new-fuse.ensures.0 c.requires.fits c.told-words
          (small_of ws (λ i. omega (arith, c.fits-words i))) c.put.ensures.did (subst (λ x. Fails x c.fail.new.self) c.into_memory-left.ensures c.fail.ensures.left);
      size = c.fail.ensures.size ∙ ap lines_in c.into_memory-left.ensures ∙ c.put.ensures.stays ∙ ap lines_in c.new-fuse.ensures.0;
    }
