use Rattle.std.proofs.Common.{ap, ◌∙◌, arith}
use Rattle.store.specs.Entry.{put_entry}
use Rattle.store.proofs.Entries.{put_mid-put}
use Rattle.store.proofs.dir.DirEntries.put_entry.Goals as goal

pub returns : goal.returns
returns c =
    put_mid-put c.number-start.result c.args.self.now c.args.words.now c.copy_from_slice.ensures.after c.told-words (omega arith)
    ∙ ap (λ i. put_entry i c.args.words.now c.args.self.now) c.number-start.ensures.is
