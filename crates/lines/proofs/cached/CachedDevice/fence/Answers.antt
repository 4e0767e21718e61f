use Rattle.std.proofs.Common.{length, ap, ◌∙◌, arith}
use Rattle.lines.proofs.Settles.{settle_counts_length}
use Rattle.lines.proofs.Caches.{same_len, fence_step}
use Rattle.lines.proofs.cached.CachedDevice.fence.Goals as goal

pub invariant_of-self : goal.invariant_of-self
invariant_of-self c =
    let s = c.args.self.now in
    let t = c.settle_all.new in
    let words = same_len (λ w. w.sees) t.words s.words (ap length c.settle_all.ensures.sees) in
    let lines = same_len (λ x. x.count) t.lines s.lines (ap (λ z. length z.counts) c.settle_all.ensures.walk ∙ settle_counts_length s.journal.items _) in
    record { eight = omega (arith, s.eight, words, lines) }

pub returns : goal.returns
returns c = fence_step c.args.self.now _ c.settle_all.ensures.walk c.settle_all.ensures.sees c.if-self.false c.if-self.false
