-- Cuts, and what a test says of them.
use Rattle.std.proofs.Common.{◌≡◌, ℕ, ◌+◌, ◌-◌, ◌*◌, ◌<◌, ◌≤◌, cond, leb, List, length, get_or, take, drop, Some, None, Option, sym, ap, ◌∙◌, arith, eq-eqb, le-leb}
use borrow.Author.Tests.{lt-leb}
use Rattle.std.proofs.lemmas.Bool.{cond-true, cond-false, and_from}
use Rattle.std.proofs.lemmas.Slice.{between_to_end}
use Rattle.calls.specs.Bytes.{four_at}
use Rattle.calls.specs.Raw.{Raw, kind_in, raw_in}
use Rattle.calls.specs.Lines.{body_in}
use Rattle.calls.specs.Parts.{Front, cut_in, short_in, long_in, many_in}

pub rest_is : (f : List ℕ) (n : ℕ) → take (length f - n) (drop n f) ≡ drop n f
rest_is f n = between_to_end f n (length f) (omega arith)

pub at_least : {A : Type 0} (n : ℕ) (f : List ℕ) (x y : A) → n ≤ length f → cond (leb n (length f)) x y ≡ x
at_least n f x y h = cond-true _ x y (le-leb n (length f) h)

pub too_few : {A : Type 0} (n : ℕ) (f : List ℕ) (x y : A) → length f < n → cond (leb n (length f)) x y ≡ y
too_few n f x y h = cond-false _ x y (lt-leb n (length f) h)

pub many_is : (size : ℕ) (f : List ℕ) (r : Option Front) → 1 ≤ length f → r ≡ cut_in (size * get_or f 0 0) (take (length f - 1) (drop 1 f)) → r ≡ many_in size f
many_is size f r h e = e ∙ (ap (cut_in (size * get_or f 0 0)) (rest_is f 1) ∙ sym (at_least 1 f (cut_in (size * get_or f 0 0) (drop 1 f)) None h))

pub short_is : (f : List ℕ) (r : Option Front) → 1 ≤ length f → r ≡ cut_in (get_or f 0 0) (take (length f - 1) (drop 1 f)) → r ≡ short_in f
short_is f r h e = e ∙ (ap (cut_in (get_or f 0 0)) (rest_is f 1) ∙ sym (at_least 1 f (cut_in (get_or f 0 0) (drop 1 f)) None h))

pub long_is : (f : List ℕ) (n : ℕ) (r : Option Front) → 4 ≤ length f → n ≡ four_at f 0 → r ≡ cut_in n (take (length f - 4) (drop 4 f)) → r ≡ long_in f
long_is f n r h i e = e ∙ (ap (λ m. cut_in m (take (length f - 4) (drop 4 f))) i ∙ (ap (cut_in (four_at f 0)) (rest_is f 4) ∙ sym (at_least 4 f (cut_in (four_at f 0) (drop 4 f)) None h)))

pub raw_is : (f : List ℕ) (r : Option Raw) → 1 ≤ length f → r ≡ kind_in (get_or f 0 0) (take (length f - 1) (drop 1 f)) → r ≡ raw_in f
raw_is f r h e = e ∙ (ap (kind_in (get_or f 0 0)) (rest_is f 1) ∙ sym (at_least 1 f (kind_in (get_or f 0 0) (drop 1 f)) None h))

pub body_is : (f : List ℕ) → 8 ≤ length f → four_at f 0 + 4 ≡ length f → Some (take (length f - 8) (drop 8 f)) ≡ body_in f
body_is f h e = ap Some (rest_is f 8) ∙ sym (cond-true _ (Some (drop 8 f)) None (and_from _ _ (le-leb 8 (length f) h) (eq-eqb (four_at f 0 + 4) (length f) e)))
