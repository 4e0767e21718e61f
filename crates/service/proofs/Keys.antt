-- Which bytes are a key. Assumes nothing.
use Rattle.std.proofs.Common.{◌≡◌, ℕ, suc, ◌<◌, true, ltb, leb, List, [], ◌∷◌, length, slice_index_or, Fits, w8, refl, sym}
use Rattle.std.proofs.Math.Bool.{and-true}
use Rattle.std.proofs.Math.Facts.{Fits-lt-pow}
use Rattle.std.proofs.lemmas.Bool.{lt-ltb}
use Rattle.plans.specs.Plan.{every, name_ok}

every_byte : (n : List ℕ) → ((i : ℕ) → Fits w8 (slice_index_or n i 0)) → every (λ (b : ℕ). ltb b 256) n ≡ true
unfolding every
every_byte [] h = refl
every_byte (b ∷ bs) h = let x = lt-ltb b 256 (Fits-lt-pow (h 0)) in let y = every_byte bs (λ i. h (suc i)) in rw (x, y) refl

pub key_ok : (n : List ℕ) → 0 < length n → ((i : ℕ) → Fits w8 (slice_index_or n i 0)) → leb (length n) 64 ≡ name_ok n
key_ok n l h = let x = lt-ltb 0 (length n) l in let y = every_byte n h in rw (x, y) (sym (and-true (leb (length n) 64)))
