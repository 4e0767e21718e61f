use Rattle.std.proofs.Common.{◌+◌, ◌*◌, min, take, drop, refl, ap, ◌∙◌}
use Rattle.store.specs.Layout.{key_at}
use Rattle.store.proofs.Finds.{cut_is}
use Rattle.store.proofs.dir.DirEntries.key_at.Goals as goal

pub returns : goal.returns
unfolding key_at
returns c =
    let length = c.min-length.ensures ∙ ap (λ v. min v 64) c.field_at.ensures in
    cut_is c.min-length.result refl (ap (λ i. i * 96 + 32) c.number.ensures.is) ∙ ap (λ n. take n (drop (c.args.slot * 96 + 32) c.args.self.now)) length
