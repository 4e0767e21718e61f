use Rattle.std.proofs.Common.{ℕ, ◌+◌, ◌-◌, List, get_or, drop, refl, ap, ◌∙◌, arith, get_or-drop, get_or-take}
use Rattle.file_memory.specs.Bytes.{bytes_of}
use Rattle.file_memory.proofs.ReadBack.{word_more}
use Rattle.file_memory.proofs.bytes.line_bytes.Goals as goal

pub loop-k-preserved : goal.loop-k-preserved
loop-k-preserved c =
    let ws = c.args.words.now in
    let k = c.loop-k.k in
    let bytes : ℕ → List ℕ = λ i. bytes_of (get_or ws (c.args.start + i) 0) in
    let word = get_or-take (c.args.start + 8 - c.args.start) (drop c.args.start ws) k 0 (omega arith) ∙ get_or-drop c.args.start ws k 0 in
    word_more c.loop-k.bytes c.copy_from_slice.new.self k bytes c.loop-k.invariant.0 (omega arith) (c.copy_from_slice.ensures.after ∙ c.to_be_bytes.ensures ∙ ap bytes_of word) refl c.loop-k.invariant.1
