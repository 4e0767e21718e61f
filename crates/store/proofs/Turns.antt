-- One bit of a root page turned. Assumes nothing.
use Rattle.std.proofs.Common.{◌≡◌, ℕ, ◌+◌, ◌-◌, ◌/◌, ◌%◌, ◌^◌, ◌<◌, Bool, true, false, eqb, List, length, get_or, set, sym, refl, ap, ◌∙◌, arith, length-set, get_or-set_other, get_or-set_same, eqb-true}
use lib.Bits.{bit_xor, xor_lt}
use lib.Pow.{pow-lt}
use borrow.Author.Tests.{eqb-false}
use Rattle.words.specs.Runs.{Small}
use Rattle.store.specs.Layout.{bit_of, turn_at}
use Rattle.store.proofs.Bitwise.{bit_same, bit_other}
use Rattle.store.proofs.Fits.{small_set, small_at}

pub bit_low : (off : ℕ) (p : List ℕ) (i : ℕ) → bit_of off p i < 2
unfolding bit_of
bit_low off p i = omega arith

module _ (off : ℕ) (p : List ℕ) (i : ℕ) where
  abbrev turned : ℕ
  turned = bit_xor (get_or p (off + i / 64) 0) (2 ^ (i % 64))

  pub turn_same : off + i / 64 < length p → bit_of off (turn_at off i p) i ≡ 1 - bit_of off p i
  unfolding bit_of turn_at
  turn_same h = ap (λ v. v / 2 ^ (i % 64) % 2) (get_or-set_same p (off + i / 64) turned 0 h) ∙ bit_same (get_or p (off + i / 64) 0) (i % 64)

  pub turn_other : (j : ℕ) → (j ≡ i → ⊥) → off + i / 64 < length p → bit_of off (turn_at off i p) j ≡ bit_of off p j
  unfolding bit_of turn_at
  turn_other j ne h = go (eqb (j / 64) (i / 64)) refl
    where
      go : (b : Bool) → eqb (j / 64) (i / 64) ≡ b → get_or (set p (off + i / 64) turned) (off + j / 64) 0 / 2 ^ (j % 64) % 2 ≡ get_or p (off + j / 64) 0 / 2 ^ (j % 64) % 2
      go true e =
          let q : j / 64 ≡ i / 64 = eqb-true _ _ e in
          ap (λ k. get_or (set p (off + i / 64) turned) (off + k) 0 / 2 ^ (j % 64) % 2) q
          ∙ ap (λ v. v / 2 ^ (j % 64) % 2) (get_or-set_same p (off + i / 64) turned 0 h)
          ∙ bit_other (get_or p (off + i / 64) 0) (j % 64) (i % 64) (λ z. ne (omega arith))
          ∙ ap (λ k. get_or p (off + k) 0 / 2 ^ (j % 64) % 2) (sym q)
      go false e = let no : j / 64 ≡ i / 64 → ⊥ = eqb-false _ _ e in ap (λ v. v / 2 ^ (j % 64) % 2) (get_or-set_other p (off + i / 64) (off + j / 64) turned 0 (λ z. no (omega arith)))

  -- bits that begin elsewhere
  pub turn_apart : (off' j : ℕ) → (off' + j / 64 ≡ off + i / 64 → ⊥) → bit_of off' (turn_at off i p) j ≡ bit_of off' p j
  unfolding bit_of turn_at
  turn_apart off' j ne = ap (λ v. v / 2 ^ (j % 64) % 2) (get_or-set_other p (off + i / 64) (off' + j / 64) turned 0 ne)

  pub turn_length : length (turn_at off i p) ≡ length p
  unfolding turn_at
  turn_length = length-set p (off + i / 64) _

  pub turn_small : Small p → Small (turn_at off i p)
  unfolding turn_at
  turn_small s =
      let k : 2 ^ (i % 64) < 2 ^ 64 = pow-lt {i = i % 64} {j = 64} (omega arith) in
      small_set p (off + i / 64) _ (xor_lt 64 (get_or p (off + i / 64) 0) (2 ^ (i % 64)) (small_at p (off + i / 64) s) k) s

  -- the first word is no word of bits
  pub turn_first : (0 < off) → get_or (turn_at off i p) 0 0 ≡ get_or p 0 0
  unfolding turn_at
  turn_first h = get_or-set_other p (off + i / 64) 0 turned 0 (λ e. omega arith)
