-- Four words written into a list of words.
use Rattle.std.proofs.Common.{◌≡◌, ℕ, ◌+◌, ◌-◌, ◌<◌, ◌≤◌, List, [], ◌∷◌, ◌++◌, length, take, drop, set, sym, refl, ap, ◌∙◌, subst, append_assoc, arith, length-append, length-drop, length-set, take-append-drop, length-take-le}
use Rattle.reading.specs.Statements.{put4}
use Rattle.std.proofs.lemmas.List.{take_more_set, drop-set-lt, take-take, take_at, drop_at, drop-take}

one_more : (xs : List ℕ) (n m y : ℕ) → n < length xs → n + 1 ≡ m → take m (set xs n y) ≡ take n xs ++ (y ∷ [])
one_more xs n m y h e = subst (λ (k : ℕ). take k (set xs n y) ≡ take n xs ++ (y ∷ [])) e (take_more_set xs n y h)

pub four_front : (xs : List ℕ) (n a b c d : ℕ) → n + 4 ≤ length xs → take (n + 4) (put4 xs n a b c d) ≡ take n xs ++ (a ∷ b ∷ c ∷ d ∷ [])
four_front xs n a b c d h =
    let x1 = set xs n a in
    let x2 = set x1 (n + 1) b in
    let x3 = set x2 (n + 2) c in
    let l1 : length x1 ≡ length xs = length-set xs n a in
    let l2 : length x2 ≡ length xs = length-set x1 (n + 1) b ∙ l1 in
    let l3 : length x3 ≡ length xs = length-set x2 (n + 2) c ∙ l2 in
    let t1 : take (n + 1) x1 ≡ take n xs ++ (a ∷ []) = one_more xs n (n + 1) a (omega arith) refl in
    let t2 : take (n + 2) x2 ≡ take (n + 1) x1 ++ (b ∷ []) = one_more x1 (n + 1) (n + 2) b (omega arith) (omega arith) in
    let t3 : take (n + 3) x3 ≡ take (n + 2) x2 ++ (c ∷ []) = one_more x2 (n + 2) (n + 3) c (omega arith) (omega arith) in
    let t4 : take (n + 4) (set x3 (n + 3) d) ≡ take (n + 3) x3 ++ (d ∷ []) = one_more x3 (n + 3) (n + 4) d (omega arith) (omega arith) in
    t4 ∙ (ap (λ (l : List ℕ). l ++ (d ∷ [])) (t3 ∙ ap (λ (l : List ℕ). l ++ (c ∷ [])) (t2 ∙ ap (λ (l : List ℕ). l ++ (b ∷ [])) t1)) ∙ simp append_assoc)

pub four_length : (xs : List ℕ) (n a b c d : ℕ) → length (put4 xs n a b c d) ≡ length xs
four_length xs n a b c d = length-set _ _ d ∙ (length-set _ _ c ∙ (length-set _ _ b ∙ length-set xs n a))

four_rest : (xs : List ℕ) (n a b c d : ℕ) → drop (n + 4) (put4 xs n a b c d) ≡ drop (n + 4) xs
four_rest xs n a b c d =
    drop-set-lt (n + 4) (set (set (set xs n a) (n + 1) b) (n + 2) c) (n + 3) d (omega arith) ∙ (drop-set-lt (n + 4) (set (set xs n a) (n + 1) b) (n + 2) c (omega arith) ∙ (drop-set-lt (n + 4) (set xs n a) (n + 1) b (omega arith) ∙ drop-set-lt (n + 4) xs n a (omega arith)))

-- a head written before what is behind it: pre, then the four words, then what was there
pub four_before : (xs pre gap body : List ℕ) (n m a b c d : ℕ) → take m xs ≡ pre ++ (gap ++ body) → length pre ≡ n → length gap ≡ 4 → n + 4 ≤ length xs → n + 4 ≤ m → take m (put4 xs n a b c d) ≡ pre ++ (a ∷ b ∷ c ∷ d ∷ body)
four_before xs pre gap body n m a b c d h lp lg fits le =
    let ys = put4 xs n a b c d in
    let k = m - (n + 4) in
    let e : n + 4 + k ≡ m = omega arith in
    let front : take (n + 4) (take m ys) ≡ take n xs ++ (a ∷ b ∷ c ∷ d ∷ []) = take-take (n + 4) m ys le ∙ four_front xs n a b c d fits in
    let p1 : take n (take m xs) ≡ take n xs = take-take n m xs (omega arith) in
    let p2 : take n xs ≡ pre = sym p1 ∙ (ap (take n) h ∙ take_at pre (gap ++ body) n lp) in
    let back : drop (n + 4) (take m ys) ≡ drop (n + 4) (take m xs) =
    subst (λ (q : ℕ). drop (n + 4) (take q ys) ≡ drop (n + 4) (take q xs)) e (drop-take (n + 4) k ys ∙ (ap (take k) (four_rest xs n a b c d) ∙ sym (drop-take (n + 4) k xs))) in
    let lg2 : length (pre ++ gap) ≡ n + 4 = length-append pre gap ∙ omega arith in
    let back2 : drop (n + 4) (take m xs) ≡ body = ap (drop (n + 4)) (h ∙ sym (append_assoc pre gap body)) ∙ drop_at (pre ++ gap) body (n + 4) lg2 in
    sym (take-append-drop (n + 4) (take m ys)) ∙ (ap (λ (l : List ℕ). l ++ drop (n + 4) (take m ys)) (front ∙ ap (λ (l : List ℕ). l ++ (a ∷ b ∷ c ∷ d ∷ [])) p2) ∙ (ap (λ (l : List ℕ). (pre ++ (a ∷ b ∷ c ∷ d ∷ [])) ++ l) (back ∙ back2) ∙ append_assoc pre (a ∷ b ∷ c ∷ d ∷ []) body))

-- a head written before what was read behind it
pub head_words : (xs zs body : List ℕ) (len m a b c d : ℕ) → take m zs ≡ take (len + 4) xs ++ body → len + 4 ≤ length xs → length zs ≡ length xs → len + 4 ≤ m → take m (put4 zs len a b c d) ≡ take len xs ++ (a ∷ b ∷ c ∷ d ∷ body)
head_words xs zs body len m a b c d h fits long le =
    let gap = drop len (take (len + 4) xs) in
    let pre : take len (take (len + 4) xs) ≡ take len xs = take-take len (len + 4) xs (omega arith) in
    let lp : length (take len xs) ≡ len = length-take-le len xs (omega arith) in
    let split : take (len + 4) xs ≡ take len xs ++ gap = sym (take-append-drop len (take (len + 4) xs)) ∙ ap (λ (l : List ℕ). l ++ gap) pre in
    let lg : length gap ≡ 4 = length-drop len (take (len + 4) xs) ∙ (let l = length-take-le (len + 4) xs fits in omega arith) in
    four_before zs (take len xs) gap body len m a b c d (h ∙ (ap (λ (l : List ℕ). l ++ body) split ∙ append_assoc (take len xs) gap body)) lp lg (omega arith) le

pub long_as : (ys pre body : List ℕ) (n : ℕ) → take n ys ≡ pre ++ body → n ≤ length ys → n ≡ length pre + length body
long_as ys pre body n h k = sym (length-take-le n ys k) ∙ (ap length h ∙ length-append pre body)
