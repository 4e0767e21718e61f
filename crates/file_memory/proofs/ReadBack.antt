-- Words that are written as bytes and read again.
-- Assumes nothing.
use Rattle.std.proofs.Common.{◌≡◌, ℕ, ◌+◌, ◌-◌, ◌*◌, ◌/◌, ◌%◌, ◌<◌, ◌≤◌, Bool, true, false, ltb, List, ◌++◌, length, get_or, take, drop, refl, ap, ◌∙◌, arith, length-append, length-drop, length-take-le, get_or-take, ltb-true, ltb-false}
use Rattle.std.proofs.Math.ListN.{get_or-append}
use Rattle.std.proofs.lemmas.List.{get_or-append_right}
use borrow.Rule.Slice.PartMut.{put_mid, post_of}
use Rattle.file_memory.specs.Bytes.{bytes_of, word_of, Laid, BytesReadBack}

digits : (w : ℕ) → w < 18446744073709551616
    → word_of (w / 72057594037927936 % 256) (w / 281474976710656 % 256) (w / 1099511627776 % 256) (w / 4294967296 % 256) (w / 16777216 % 256) (w / 65536 % 256) (w / 256 % 256) (w % 256) ≡ w
digits w h = omega arith

byte : (ws : List ℕ) (start : ℕ) (bs : List ℕ) → Laid ws start bs → (k j p : ℕ) → k < 8 → j < 8 → p ≡ 8 * k + j → get_or bs p 0 ≡ get_or (bytes_of (get_or ws (start + k) 0)) j 0
byte ws start bs laid k j p hk hj e =
    let q : p / 8 ≡ k = omega arith in
    let r : p % 8 ≡ j = omega arith in
    laid p (omega arith) ∙ (λ i. get_or (bytes_of (get_or ws (start + q i) 0)) (r i) 0)

pub read_back : BytesReadBack
read_back ws start bs laid k hk small =
    let b : (j p : ℕ) → j < 8 → p ≡ 8 * k + j → get_or bs p 0 ≡ get_or (bytes_of (get_or ws (start + k) 0)) j 0 = λ j p hj e. byte ws start bs laid k j p hk hj e in
    let b0 = b 0 (8 * k) (omega arith) (omega arith) in
    let b1 = b 1 (8 * k + 1) (omega arith) refl in
    let b2 = b 2 (8 * k + 2) (omega arith) refl in
    let b3 = b 3 (8 * k + 3) (omega arith) refl in
    let b4 = b 4 (8 * k + 4) (omega arith) refl in
    let b5 = b 5 (8 * k + 5) (omega arith) refl in
    let b6 = b 6 (8 * k + 6) (omega arith) refl in
    let b7 = b 7 (8 * k + 7) (omega arith) refl in
    (λ i. word_of (b0 i) (b1 i) (b2 i) (b3 i) (b4 i) (b5 i) (b6 i) (b7 i)) ∙ digits (get_or ws (start + k) 0) small

-- the bytes of one word more
pub word_more : (bs ys : List ℕ) (k : ℕ) (F : ℕ → List ℕ) → length bs ≡ 64 → k < 8 → ys ≡ F k → length (F k) ≡ 8 → ((j : ℕ) → j < 8 * k → get_or bs j 0 ≡ get_or (F (j / 8)) (j % 8) 0)
    → (length (put_mid (8 * k) (8 * k + 8 - 8 * k) bs ys) ≡ 64)
    × ((j : ℕ) → j < 8 * (k + 1) → get_or (put_mid (8 * k) (8 * k + 8 - 8 * k) bs ys) j 0 ≡ get_or (F (j / 8)) (j % 8) 0)
word_more bs ys k F long low same eight before = (whole, λ j h. go j h (ltb j (8 * k)) refl)
  where
    front : length (take (8 * k) bs) ≡ 8 * k
    front = length-take-le (8 * k) bs (omega arith)

    back : List ℕ
    back = post_of (8 * k) (8 * k + 8 - 8 * k) bs

    ys_long : length ys ≡ 8
    ys_long = ap length same ∙ eight

    whole : length (take (8 * k) bs ++ (ys ++ back)) ≡ 64
    whole =
        let a = length-append (take (8 * k) bs) (ys ++ back) in
        let b = length-append ys back in
        let c = length-drop (8 * k + 8 - 8 * k) (drop (8 * k) bs) in
        let d = length-drop (8 * k) bs in
        omega (arith, front, ys_long)

    go : (j : ℕ) → j < 8 * (k + 1) → (b : Bool) → ltb j (8 * k) ≡ b → get_or (take (8 * k) bs ++ (ys ++ back)) j 0 ≡ get_or (F (j / 8)) (j % 8) 0
    go j h true q =
        let under : j < 8 * k = ltb-true j (8 * k) q in
        get_or-append (take (8 * k) bs) (ys ++ back) 0 j (omega (arith, front)) ∙ get_or-take (8 * k) bs j 0 under ∙ before j under
    go j h false q =
        let over : 8 * k ≤ j = ltb-false j (8 * k) q in
        let word : k ≡ j / 8 = omega arith in
        let byte : j - 8 * k ≡ j % 8 = omega arith in
        get_or-append_right (take (8 * k) bs) (ys ++ back) (8 * k) j 0 front over ∙ get_or-append ys back 0 (j - 8 * k) (omega (arith, ys_long))
        ∙ ap (λ xs. get_or xs (j - 8 * k) 0) same ∙ (λ i. get_or (F (word i)) (byte i) 0)
