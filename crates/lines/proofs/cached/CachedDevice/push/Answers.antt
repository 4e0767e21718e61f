use Rattle.std.proofs.Common.{refl, ap, arith}
use Rattle.lines.proofs.Parts.{set_part, keep_part, part_at}
use Rattle.lines.proofs.Caches.{push_step}
use Rattle.lines.proofs.cached.CachedDevice.push.Goals as goal

pub returns : goal.returns
returns c =
    let s = c.args.self.now in
    let xs = s.lines.items in
    let x = c.index_mut-stores.result.now in
    let count = part_at (λ x. x.count) xs c.args.line x x (omega (arith, s.eight, s.lines.ok.0)) c.index_mut-stores.ensures.value in
    push_step s _ c.args.line (omega arith) refl refl refl (keep_part (λ x. x.count) xs c.args.line _ x (ap (λ x. x.count) c.index_mut-stores.ensures.value))
    (set_part (λ x. x.pushed) xs c.args.line _ _ count) c.if-self.false c.if-self.false
