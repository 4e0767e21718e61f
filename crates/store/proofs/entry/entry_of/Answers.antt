use Rattle.std.proofs.Common.{length, ap, ◌∙◌}
use Rattle.store.proofs.Entries.{key_room, entry_parts}
use Rattle.store.proofs.entry.entry_of.Goals as goal

pub returns : goal.returns
returns c =
    let blocks = c.copy_from_slice.ensures.after in
    let room = c.spell.ensures.len ∙ key_room c.copy_from_slice.new.self (ap length blocks ∙ c.told-blocks) in
    entry_parts c.args.id c.args.size c.args.key.now c.args.blocks.now c.copy_from_slice.new.self c.spell.new.words blocks c.told-blocks room c.spell.ensures.bytes
