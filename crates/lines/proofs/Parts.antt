-- One part of each element of a list, after an element was set.
-- Assumes nothing.
use Rattle.std.proofs.Common.{◌≡◌, ℕ, zero, suc, ◌<◌, List, ◌∷◌, length, get_or, set, replicate, map, sym, refl, ap, ◌∙◌}
use Rattle.std.proofs.lemmas.List.{map-set, set-get_or}
use Rattle.std.proofs.Math.ListN as listN
use Rattle.std.proofs.lemmas.List as lists

module _ {X : Type 0} (f : X → ℕ) (xs : List X) (i : ℕ) where
  -- the part is set
  pub set_part : (x : X) (v : ℕ) → f x ≡ v → map f (set xs i x) ≡ set (map f xs) i v
  set_part x v e = map-set f xs i x ∙ ap (set (map f xs) i) e

  -- the part stays
  pub keep_part : (x d : X) → f x ≡ f (get_or xs i d) → map f (set xs i x) ≡ map f xs
  keep_part x d e = set_part x (get_or (map f xs) i (f d)) (e ∙ sym (listN.get_or-map f xs i d)) ∙ set-get_or (map f xs) i (f d)

  -- the part as a number
  pub part_at : (x d : X) → i < length xs → x ≡ get_or xs i d → f x ≡ get_or (map f xs) i 0
  part_at x d h e = ap f e ∙ sym (lists.get_or-map f xs i d 0 h)

pub map-replicate : {X : Type 0} (f : X → ℕ) (n : ℕ) (x : X) → map f (replicate n x) ≡ replicate n (f x)
map-replicate f zero x = refl
map-replicate f (suc n) x = ap (λ ys. f x ∷ ys) (map-replicate f n x)
