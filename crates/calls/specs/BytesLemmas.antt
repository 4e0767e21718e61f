-- Numbers in bytes: what a drop in front of them changes. Assumes nothing.
use Rattle.std.proofs.Common.{◌≡◌, ℕ, ◌+◌, ◌*◌, List, get_or, drop, refl, ap, ◌∙◌, arith, get_or-drop}
use Rattle.calls.specs.Bytes.{two_at, four_at, eight_at}

past : (f : List ℕ) (n i j : ℕ) → n + i ≡ j → get_or (drop n f) i 0 ≡ get_or f j 0
past f n i j e = get_or-drop n f i 0 ∙ ap (λ k. get_or f k 0) e

pub two_past : (f : List ℕ) (n i j : ℕ) → n + i ≡ j → two_at (drop n f) i ≡ two_at f j
two_past f n i j e =
    let a = past f n i j e in
    let b = past f n (i + 1) (j + 1) (omega arith) in
    rw (a, b)

pub four_past : (f : List ℕ) (n i j : ℕ) → n + i ≡ j → four_at (drop n f) i ≡ four_at f j
four_past f n i j e =
    let a = past f n i j e in
    let b = past f n (i + 1) (j + 1) (omega arith) in
    let c = past f n (i + 2) (j + 2) (omega arith) in
    let d = past f n (i + 3) (j + 3) (omega arith) in
    rw (a, b, c, d)

pub eight_past : (f : List ℕ) (n i j : ℕ) → n + i ≡ j → eight_at (drop n f) i ≡ eight_at f j
eight_past f n i j e =
    ap (λ x. x * 4294967296 + four_at (drop n f) (i + 4)) (four_past f n i j e)
    ∙ ap (λ x. four_at f j * 4294967296 + x) (four_past f n (i + 4) (j + 4) (omega arith))

pub eight_shifts : (f : List ℕ) (n i : ℕ) → eight_at (drop n f) i ≡ eight_at f (n + i)
eight_shifts f n i = eight_past f n i (n + i) refl

pub four_shifts : (f : List ℕ) (n i : ℕ) → four_at (drop n f) i ≡ four_at f (n + i)
four_shifts f n i = four_past f n i (n + i) refl
