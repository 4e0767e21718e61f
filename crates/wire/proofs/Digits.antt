-- Reading a text in hexadecimal from its begin on.
use Rattle.std.proofs.Common.{◌≡◌, ℕ, ◌+◌, ◌-◌, ◌*◌, ◌/◌, ◌%◌, ◌<◌, ◌≤◌, true, cond, List, [], ◌∷◌, ◌++◌, length, get_or, take, drop, Some, None, Option, sym, refl, ap, ◌∙◌, append_assoc, append-nil, arith, add-one, take-suc}
use Rattle.std.proofs.lemmas.List.{take_rest}
use Rattle.wire.specs.Hex.{digit_of, pair_of, bytes_of, letter_of, text_of}
use Rattle.wire.specs.Frames.{is_in, frame_of}

-- what is read first, and the rest
abbrev pub before : List ℕ → Option (List ℕ) → Option (List ℕ)
before xs None = None
before xs (Some ys) = Some (xs ++ ys)

pub before_nil : (o : Option (List ℕ)) → o ≡ before [] o
before_nil None = refl
before_nil (Some ys) = refl

no_low : (a b : Option ℕ) → pair_of a b None ≡ None
no_low None b = refl
no_low (Some h) None = refl
no_low (Some h) (Some l) = refl

two : (xs : List ℕ) → 2 ≤ length xs → bytes_of xs ≡ pair_of (digit_of (get_or (take 2 xs) 0 0)) (digit_of (get_or (take 2 xs) 1 0)) (bytes_of (drop 2 xs))
unfolding bytes_of
two [] h = absurd (omega arith)
two (x ∷ []) h = absurd (omega arith)
two (x ∷ y ∷ ts) h = refl

joins : (bs : List ℕ) (h l : ℕ) (o : Option (List ℕ)) → before bs (pair_of (Some h) (Some l) o) ≡ before (bs ++ (h * 16 + l) ∷ []) o
joins bs h l None = refl
joins bs h l (Some ys) = ap Some (sym (append_assoc bs ((h * 16 + l) ∷ []) ys))

-- a step from what is left, by its first two digits
pub hex_more : (bs rest : List ℕ) (h l : ℕ) (o : Option (List ℕ)) → 2 ≤ length rest → digit_of (get_or (take 2 rest) 0 0) ≡ Some h → digit_of (get_or (take 2 rest) 1 0) ≡ Some l → o ≡ before bs (bytes_of rest) → o ≡ before (bs ++ (h * 16 + l) ∷ []) (bytes_of (drop 2 rest))
hex_more bs rest h l o k p q e = e ∙ ap (before bs) (two rest k ∙ (λ i. pair_of (p i) (q i) (bytes_of (drop 2 rest)))) ∙ joins bs h l (bytes_of (drop 2 rest))

pub none_high : (bs rest : List ℕ) (o : Option (List ℕ)) → 2 ≤ length rest → digit_of (get_or (take 2 rest) 0 0) ≡ None → o ≡ before bs (bytes_of rest) → o ≡ None
none_high bs rest o k p e = e ∙ ap (before bs) (two rest k ∙ ap (λ a. pair_of a (digit_of (get_or (take 2 rest) 1 0)) (bytes_of (drop 2 rest))) p)

pub none_low : (bs rest : List ℕ) (h : ℕ) (o : Option (List ℕ)) → 2 ≤ length rest → digit_of (get_or (take 2 rest) 0 0) ≡ Some h → digit_of (get_or (take 2 rest) 1 0) ≡ None → o ≡ before bs (bytes_of rest) → o ≡ None
none_low bs rest h o k p q e = e ∙ ap (before bs) (two rest k ∙ (λ i. pair_of (p i) (q i) (bytes_of (drop 2 rest))))

pub hex_end : (bs rest : List ℕ) (o : Option (List ℕ)) → length rest ≡ 0 → o ≡ before bs (bytes_of rest) → o ≡ Some bs
unfolding bytes_of
hex_end bs [] o h e = e ∙ ap Some (append-nil bs)
hex_end bs (x ∷ xs) o h e = absurd (omega arith)

pub odd_none : (xs : List ℕ) → (length xs % 2 ≡ 0 → ⊥) → bytes_of xs ≡ None
unfolding bytes_of
odd_none [] h = absurd (h refl)
odd_none (x ∷ []) h = refl
odd_none (x ∷ y ∷ ts) h = ap (pair_of (digit_of x) (digit_of y)) (odd_none ts (λ e. h (omega arith))) ∙ no_low (digit_of x) (digit_of y)

-- what is left behind whole pairs, where a text is read pair by pair
pub odd_rest_none : (bs rest : List ℕ) (o : Option (List ℕ)) → length rest < 2 → (length rest ≡ 0 → ⊥) → o ≡ before bs (bytes_of rest) → o ≡ None
odd_rest_none bs rest o l h e = e ∙ ap (before bs) (odd_none rest (λ d. h (omega arith)))

pub frame_is : (xs : List ℕ) → is_in xs ≡ true → bytes_of (take (length xs - 3) (drop 3 xs)) ≡ frame_of xs
frame_is xs e = ap bytes_of (take_rest xs 3) ∙ ap (λ b. cond b (bytes_of (drop 3 xs)) None) (sym e)

-- one byte more
pub text_append : (xs ys : List ℕ) → text_of (xs ++ ys) ≡ text_of xs ++ text_of ys
unfolding text_of
text_append [] ys = refl
text_append (x ∷ xs) ys = ap (λ r. letter_of (x / 16) ∷ letter_of (x % 16) ∷ r) (text_append xs ys)

pub text_none : text_of [] ≡ []
unfolding text_of
text_none = refl

pub text_one : (b : ℕ) → text_of (b ∷ []) ≡ letter_of (b / 16) ∷ letter_of (b % 16) ∷ []
unfolding text_of
text_one b = refl

pub text_more : (xs : List ℕ) (i : ℕ) → i < length xs → text_of (take (i + 1) xs) ≡ (text_of (take i xs) ++ (letter_of (get_or xs i 0 / 16) ∷ [])) ++ (letter_of (get_or xs i 0 % 16) ∷ [])
text_more xs i h =
    let e : take (i + 1) xs ≡ take i xs ++ (get_or xs i 0 ∷ []) = ap (λ k. take k xs) (add-one i) ∙ take-suc xs i 0 h in
    let b = get_or xs i 0 in
    ap text_of e ∙ (text_append (take i xs) (b ∷ []) ∙ (ap (λ r. text_of (take i xs) ++ r) (text_one b) ∙ sym (append_assoc (text_of (take i xs)) (letter_of (b / 16) ∷ []) (letter_of (b % 16) ∷ []))))

pub text_next : (xs a b c : List ℕ) (i h l : ℕ) → i < length xs → a ≡ text_of (take i xs) → h ≡ letter_of (get_or xs i 0 / 16) → l ≡ letter_of (get_or xs i 0 % 16) → b ≡ a ++ (h ∷ []) → c ≡ b ++ (l ∷ []) → c ≡ text_of (take (i + 1) xs)
text_next xs a b c i h l lt p q r s t =
    t ∙ (ap (λ x. x ++ (l ∷ [])) (s ∙ (ap (λ x. x ++ (h ∷ [])) p ∙ ap (λ n. text_of (take i xs) ++ (n ∷ [])) q))
    ∙ (ap (λ n. (text_of (take i xs) ++ (letter_of (get_or xs i 0 / 16) ∷ [])) ++ (n ∷ [])) r ∙ sym (text_more xs i lt)))
