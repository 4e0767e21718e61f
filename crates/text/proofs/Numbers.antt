-- The turns of the loop that reads a number. Assumes nothing.
use Rattle.std.proofs.Common.{◌≡◌, ℕ, suc, ◌+◌, ◌-◌, ◌*◌, ◌<◌, ◌≤◌, Bool, true, false, ◌&&◌, ltb, leb, List, [], ◌∷◌, length, get_or, drop, Some, None, refl, le_refl, add-one, arith, drop-cons}
use Rattle.std.proofs.lemmas.Bool.Decides.{nat_tests}
use Rattle.std.specs.Str.{all_ascii_digits}
use Rattle.std.proofs.lemmas.List.{drop_all}
use Rattle.text.specs.Token.{number}
use Rattle.text.specs.Lexer.{wrong, tokens, one, value_from, top, number_of}
use Rattle.text.specs.Numbers.{Stepped, number_from}

value_ge : (n : ℕ) (ds : List ℕ) → n ≤ value_from n ds
unfolding value_from
value_ge n [] = le_refl n
value_ge n (d ∷ ds) = omega (arith, value_ge (n * 10 + (d - 48)) ds)

and_false : (a : Bool) → a && false ≡ false
and_false true = refl
and_false false = refl

pub number_turn : (w : List ℕ) (i n m : ℕ) → i < length w → Stepped (Some m) n (get_or w i 0) → number_from m (drop (i + 1) w) ≡ number_from n (drop i w)
unfolding number_from value_from
number_turn w i n m l s =
    let a : leb 48 (get_or w i 0) ≡ true = let x = s.0 in grind (arith, nat_tests) in
    let b : leb (get_or w i 0) 57 ≡ true = let x = s.1 in grind (arith, nat_tests) in
    rw (drop-cons w i 0 l, add-one, a, b, s.2) refl

pub number_bad : (w : List ℕ) (i n : ℕ) → i < length w → Stepped None n (get_or w i 0) → wrong ≡ number_from n (drop i w)
unfolding number_from value_from
number_bad w i n l s = rw (drop-cons w i 0 l) (go (leb 48 (get_or w i 0)) (leb (get_or w i 0) 57) refl refl)
  where
    go : (a b : Bool) → leb 48 (get_or w i 0) ≡ a → leb (get_or w i 0) 57 ≡ b →
        wrong ≡ one ((a && b) && all_ascii_digits (drop (suc i) w) && ltb (value_from (n * 10 + (get_or w i 0 - 48)) (drop (suc i) w)) top) (number (value_from (n * 10 + (get_or w i 0 - 48)) (drop (suc i) w)))
    go true true p q =
        let x : 48 ≤ get_or w i 0 = grind (arith, nat_tests) in
        let y : get_or w i 0 ≤ 57 = grind (arith, nat_tests) in
        let g : n * 10 + (get_or w i 0 - 48) ≤ value_from (n * 10 + (get_or w i 0 - 48)) (drop (suc i) w) = value_ge (n * 10 + (get_or w i 0 - 48)) (drop (suc i) w) in
        let big : top ≤ n * 10 + (get_or w i 0 - 48) = s x y in
        let z : ltb (value_from (n * 10 + (get_or w i 0 - 48)) (drop (suc i) w)) top ≡ false = grind (arith, nat_tests) in
        rw (z, and_false (all_ascii_digits (drop (suc i) w))) refl
    go true false p q = refl
    go false b p q = refl

pub number_end : (w : List ℕ) (i n : ℕ) → length w ≤ i → n < top → tokens (number n ∷ []) ≡ number_from n (drop i w)
unfolding number_from value_from
number_end w i n l h = let z : ltb n top ≡ true = grind (arith, nat_tests) in rw (drop_all i w l, z) refl

pub number_start : (w : List ℕ) → number_from 0 (drop 0 w) ≡ number_of w
unfolding number_from number_of
number_start w = refl
