use Rattle.std.proofs.Common.{refl}
use Rattle.lines.proofs.Caches.{fresh_stands}
use Rattle.lines.proofs.cached.Cached.new.Goals as goal

pub returns : goal.returns
returns c =
    let f = fresh_stands _ c.args.lines (c.in_ok-vec.ensures.items_if_clones_equal (λ y e. e)) (c.in_ok-vec-2.ensures.items_if_clones_equal (λ y e. e)) c.new.ensures.items in
    (f.0, f.1, refl)
