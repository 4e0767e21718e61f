-- Entries. Assumes nothing.
use Rattle.std.proofs.Common.{◌≡◌, ℕ, zero, suc, ◌+◌, ◌-◌, ◌*◌, ◌/◌, ◌%◌, ◌^◌, ◌<◌, ◌≤◌, min, Bool, true, false, cond, eqb, ltb, List, [], ◌∷◌, length, get_or, take, drop, set, replicate, ◌++◌, append_assoc, length-append, take-append-drop, sym, refl, ap, ◌∙◌, subst, arith, length-drop, length-set, ltb-true, ltb-false, length-take-le, get_or-drop, get_or-set_other, get_or-take, get_or-set_same, ext_get_or, le-ltb, lt-ltb}
use borrow.Rule.Slice.PartMut.{put_mid, post_of}
use Rattle.std.proofs.Math.ListN.{get_or-append}
use Rattle.std.proofs.lemmas.List.{drop-drop, take_more_set, drop-set-lt, get_or-append_right, get_or-replicate}
use Rattle.words.specs.Runs.{Small}
use Rattle.store.specs.Layout.{slots, entry_words, bit_of, next_of, field, key_length_at, key_at, block_at}
use Rattle.store.specs.Entry.{entry_word, list_from, entry_of, put_from, put_entry, bumped}

list_length : (f : ℕ → ℕ) (k n : ℕ) → length (list_from f k n) ≡ n
unfolding list_from
list_length f k zero = refl
list_length f k (suc n) = ap suc (list_length f (k + 1) n)

list_at_lem : (f : ℕ → ℕ) (k n j : ℕ) → j < n → get_or (list_from f k n) j 0 ≡ f (k + j)
unfolding list_from
list_at_lem f k zero j h = absurd (omega arith)
list_at_lem f k (suc n) zero h = ap f {x = k} {y = k + 0} (omega arith)
list_at_lem f k (suc n) (suc j) h = list_at_lem f (k + 1) n j (omega arith) ∙ ap f {x = k + 1 + j} {y = k + suc j} (omega arith)

pub entry_length : (id size : ℕ) (key bs : List ℕ) → length (entry_of id size key bs) ≡ 96
unfolding entry_of
entry_length id size key bs = list_length (entry_word id size key bs) 0 96

pub entry_at : (id size : ℕ) (key bs : List ℕ) (k : ℕ) → k < 96 → get_or (entry_of id size key bs) k 0 ≡ entry_word id size key bs k
unfolding entry_of
entry_at id size key bs k h = list_at_lem (entry_word id size key bs) 0 96 k h ∙ ap (entry_word id size key bs) {x = 0 + k} {y = k} (omega arith)

-- words that are an entry's, one by one
pub entry_is : (id size : ℕ) (key bs es : List ℕ) → length es ≡ 96 → ((k : ℕ) → k < 96 → get_or es k 0 ≡ entry_word id size key bs k) → es ≡ entry_of id size key bs
entry_is id size key bs es long at = ext_get_or 0 es (entry_of id size key bs) (long ∙ sym (entry_length id size key bs)) (λ k h. at k (omega arith) ∙ sym (entry_at id size key bs k (omega arith)))

pub put_length : (p : ℕ) (es d : List ℕ) → length (put_from p es d) ≡ length d
unfolding put_from
put_length p [] d = refl
put_length p (e ∷ es) d = put_length (p + 1) es (set d p e) ∙ length-set d p e

put_other : (p : ℕ) (es d : List ℕ) (j : ℕ) → (p ≤ j → j < p + length es → ⊥) → get_or (put_from p es d) j 0 ≡ get_or d j 0
unfolding put_from
put_other p [] d j ne = refl
put_other p (e ∷ es) d j ne = put_other (p + 1) es (set d p e) j (λ lo hi. ne (omega arith) (omega arith)) ∙ get_or-set_other d p j e 0 (λ q. ne (omega arith) (omega arith))

put_here : (p : ℕ) (es d : List ℕ) (k : ℕ) → k < length es → p + length es ≤ length d → get_or (put_from p es d) (p + k) 0 ≡ get_or es k 0
unfolding put_from
put_here p [] d k h fits = absurd (omega arith)
put_here p (e ∷ es) d zero h fits =
    put_other (p + 1) es (set d p e) (p + 0) (λ lo hi. omega arith)
    ∙ ap (λ j. get_or (set d p e) j 0) {x = p + 0} {y = p} (omega arith)
    ∙ get_or-set_same d p e 0 (omega arith)
put_here p (e ∷ es) d (suc k) h fits =
    ap (λ j. get_or (put_from (p + 1) es (set d p e)) j 0) {x = p + suc k} {y = p + 1 + k} (omega arith)
    ∙ put_here (p + 1) es (set d p e) k (omega arith) (let l = length-set d p e in omega arith)

pub entry_here : (i : ℕ) (es d : List ℕ) (k : ℕ) → length d ≡ 98304 → length es ≡ 96 → i < slots → k < entry_words → field (put_entry i es d) i k ≡ get_or es k 0
unfolding field
entry_here i es d k long le hi hk = put_here (i * 96) es d k (omega arith) (omega arith)

pub entry_there : (i j : ℕ) (es d : List ℕ) (k : ℕ) → length es ≡ 96 → (j ≡ i → ⊥) → k < entry_words → field (put_entry i es d) j k ≡ field d j k
unfolding field
entry_there i j es d k le ne hk = put_other (i * 96) es d (j * 96 + k) (λ lo hi. ne (omega arith))

put_from_is : (p : ℕ) (es d : List ℕ) → p + length es ≤ length d → put_from p es d ≡ take p d ++ (es ++ drop (p + length es) d)
unfolding put_from
put_from_is p [] d fits = sym (take-append-drop p d) ∙ ap (λ k. take p d ++ drop k d) {x = p} {y = p + 0} (omega arith)
put_from_is p (e ∷ es) d fits =
    let inside : p < length d = omega arith in
    put_from_is (p + 1) es (set d p e) (let l = length-set d p e in omega arith)
    ∙ ap (λ xs. xs ++ (es ++ drop (p + 1 + length es) (set d p e))) (take_more_set d p e inside)
    ∙ append_assoc (take p d) (e ∷ []) (es ++ drop (p + 1 + length es) (set d p e))
    ∙ ap (λ xs. take p d ++ (e ∷ (es ++ xs))) (drop-set-lt (p + 1 + length es) d p e (omega arith) ∙ ap (λ k. drop k d) {x = p + 1 + length es} {y = p + suc (length es)} (omega arith))

-- the words of a slot written over
pub put_mid-put : (i : ℕ) (d : List ℕ) {ys : List ℕ} (es : List ℕ) → ys ≡ es → length es ≡ 96 → i * 96 + 96 ≤ length d → put_mid (i * 96) (i * 96 + 96 - i * 96) d ys ≡ put_entry i es d
put_mid-put i d {ys} es same long fits =
    let p = i * 96 in
    ap (λ xs. take p d ++ (xs ++ drop (p + 96 - p) (drop p d))) same
    ∙ ap (λ xs. take p d ++ (es ++ xs)) (drop-drop (p + 96 - p) p d ∙ ap (λ k. drop k d) {x = p + (p + 96 - p)} {y = p + length es} (omega arith))
    ∙ sym (put_from_is p es d (omega arith))

-- keys ---------------------------------------------------------------------------

key_length : (d : List ℕ) (i : ℕ) → length d ≡ 98304 → i < slots → length (key_at d i) ≡ key_length_at d i
unfolding key_at
key_length d i long hi =
    let l = length-drop (i * 96 + 32) d in
    length-take-le (key_length_at d i) (drop (i * 96 + 32) d) (omega arith)

key_at_lem : (d : List ℕ) (i j : ℕ) → j < key_length_at d i → get_or (key_at d i) j 0 ≡ field d i (32 + j)
unfolding key_at field
key_at_lem d i j h =
    get_or-take (key_length_at d i) (drop (i * 96 + 32) d) j 0 h ∙ get_or-drop (i * 96 + 32) d j 0 ∙ ap (λ k. get_or d k 0) {x = i * 96 + 32 + j} {y = i * 96 + (32 + j)} (omega arith)

pub key_same : (d d' : List ℕ) (i : ℕ) → length d ≡ 98304 → length d' ≡ 98304 → i < slots → ((k : ℕ) → k < entry_words → field d' i k ≡ field d i k) → key_at d' i ≡ key_at d i
key_same d d' i long long' hi e =
    let n : key_length_at d' i ≡ key_length_at d i = ap (λ v. min v 64) (e 2 (omega arith)) in
    let l = key_length d i long hi in
    let l' = key_length d' i long' hi in
    ext_get_or 0 (key_at d' i) (key_at d i) (omega arith)
    (λ j h. key_at_lem d' i j (omega arith) ∙ e (32 + j) (omega arith) ∙ sym (key_at_lem d i j (omega arith)))

pub key_is : (d : List ℕ) (i : ℕ) (n : List ℕ) → length d ≡ 98304 → i < slots → field d i 2 ≡ length n → length n ≤ 64 → ((j : ℕ) → j < length n → field d i (32 + j) ≡ get_or n j 0) → key_at d i ≡ n
key_is d i n long hi len few e =
    let m : key_length_at d i ≡ length n = omega arith in
    let l = key_length d i long hi in
    ext_get_or 0 (key_at d i) n (omega arith) (λ j h. key_at_lem d i j (omega arith) ∙ e j (omega arith))

-- the words of a new entry -----------------------------------------------------------

entry_block : (id size : ℕ) (key bs : List ℕ) (k : ℕ) → k < 18 → entry_word id size key bs (8 + k) ≡ get_or bs k 0
entry_block id size key bs k h =
    ap (λ t. cond t (cond (eqb (8 + k) 0) id (cond (eqb (8 + k) 1) size (cond (eqb (8 + k) 2) (length key) 0))) (cond (ltb (8 + k) 26) (get_or bs (8 + k - 8) 0) (cond (ltb (8 + k) 32) 0 (get_or key (8 + k - 32) 0)))) (le-ltb (8 + k) 8 (omega arith))
    ∙ ap (λ t. cond t (get_or bs (8 + k - 8) 0) (cond (ltb (8 + k) 32) 0 (get_or key (8 + k - 32) 0))) (lt-ltb (8 + k) 26 (omega arith))
    ∙ ap (λ j. get_or bs j 0) {x = 8 + k - 8} {y = k} (omega arith)

entry_letter : (id size : ℕ) (key bs : List ℕ) (k : ℕ) → entry_word id size key bs (32 + k) ≡ get_or key k 0
entry_letter id size key bs k =
    ap (λ t. cond t (cond (eqb (32 + k) 0) id (cond (eqb (32 + k) 1) size (cond (eqb (32 + k) 2) (length key) 0))) (cond (ltb (32 + k) 26) (get_or bs (32 + k - 8) 0) (cond (ltb (32 + k) 32) 0 (get_or key (32 + k - 32) 0)))) (le-ltb (32 + k) 8 (omega arith))
    ∙ ap (λ t. cond t (get_or bs (32 + k - 8) 0) (cond (ltb (32 + k) 32) 0 (get_or key (32 + k - 32) 0))) (le-ltb (32 + k) 26 (omega arith))
    ∙ ap (λ t. cond t 0 (get_or key (32 + k - 32) 0)) (le-ltb (32 + k) 32 (omega arith))
    ∙ ap (λ j. get_or key j 0) {x = 32 + k - 32} {y = k} (omega arith)

entry_gap : (id size : ℕ) (key bs : List ℕ) (k : ℕ) → k < 6 → entry_word id size key bs (26 + k) ≡ 0
entry_gap id size key bs k h =
    ap (λ t. cond t (cond (eqb (26 + k) 0) id (cond (eqb (26 + k) 1) size (cond (eqb (26 + k) 2) (length key) 0))) (cond (ltb (26 + k) 26) (get_or bs (26 + k - 8) 0) (cond (ltb (26 + k) 32) 0 (get_or key (26 + k - 32) 0)))) (le-ltb (26 + k) 8 (omega arith))
    ∙ ap (λ t. cond t (get_or bs (26 + k - 8) 0) (cond (ltb (26 + k) 32) 0 (get_or key (26 + k - 32) 0))) (le-ltb (26 + k) 26 (omega arith))
    ∙ ap (λ t. cond t 0 (get_or key (26 + k - 32) 0)) (lt-ltb (26 + k) 32 (omega arith))

-- the room for a key, behind eighteen blocks
pub key_room : (ys : List ℕ) → length ys ≡ 18 → length (take 64 (drop 24 (ys ++ replicate 70 0))) ≡ 64
key_room ys long =
    let l = length-append ys (replicate 70 0) in
    let d = length-drop 24 (ys ++ replicate 70 0) in
    length-take-le 64 (drop 24 (ys ++ replicate 70 0)) (omega (arith, long))

-- an entry put together of its parts
pub entry_parts : (id size : ℕ) (key bs ys zs : List ℕ) → ys ≡ bs → length bs ≡ 18 → length zs ≡ 64 → ((k : ℕ) → k < length zs → get_or zs k 0 ≡ get_or key k 0)
    → put_mid 32 64 (put_mid 8 18 (set (set (set (replicate 96 0) 0 id) 1 size) 2 (length key)) ys) zs ≡ entry_of id size key bs
entry_parts id size key bs ys zs same long long' each =
    entry_is id size key bs (put_mid 32 64 (put_mid 8 18 w ys) zs) whole place
  where
    w : List ℕ
    w = set (set (set (replicate 96 0) 0 id) 1 size) 2 (length key)

    zeros : List ℕ
    zeros = replicate 70 0

    rest : List ℕ
    rest = post_of 32 64 (put_mid 8 18 w ys)

    front : List ℕ
    front = take 24 (ys ++ zeros)

    ys_long : length ys ≡ 18
    ys_long = ap length same ∙ long

    front_long : length front ≡ 24
    front_long = length-take-le 24 (ys ++ zeros) (let l = length-append ys zeros in omega (arith, ys_long))

    whole : length (put_mid 32 64 (put_mid 8 18 w ys) zs) ≡ 96
    whole =
        let l = length-append front (zs ++ rest) in
        let l' = length-append zs rest in
        let r = length-drop 64 (drop 24 (ys ++ zeros)) in
        let r' = length-drop 24 (ys ++ zeros) in
        let y = length-append ys zeros in
        omega (arith, ys_long, front_long)

    front_is : (j : ℕ) → j < 24 → get_or (front ++ (zs ++ rest)) j 0 ≡ get_or (ys ++ zeros) j 0
    front_is j h = get_or-append front (zs ++ rest) 0 j (omega (arith, front_long)) ∙ get_or-take 24 (ys ++ zeros) j 0 h

    tail : (j : ℕ) → j < 88 → (a b : Bool) → ltb j 18 ≡ a → ltb j 24 ≡ b → get_or (front ++ (zs ++ rest)) j 0 ≡ entry_word id size key bs (8 + j)
    tail j h true b p q =
        let low : j < 18 = ltb-true j 18 p in
        front_is j (omega arith) ∙ get_or-append ys zeros 0 j (omega (arith, ys_long)) ∙ ap (λ xs. get_or xs j 0) same ∙ sym (entry_block id size key bs j low)
    tail j h false true p q =
        let high : 18 ≤ j = ltb-false j 18 p in
        let low : j < 24 = ltb-true j 24 q in
        front_is j low ∙ get_or-append_right ys zeros 18 j 0 ys_long high ∙ get_or-replicate 70 (j - 18) 0 0 (omega arith)
        ∙ sym (entry_gap id size key bs (j - 18) (omega arith)) ∙ ap (entry_word id size key bs) {x = 26 + (j - 18)} {y = 8 + j} (omega arith)
    tail j h false false p q =
        let high : 24 ≤ j = ltb-false j 24 q in
        get_or-append_right front (zs ++ rest) 24 j 0 front_long high ∙ get_or-append zs rest 0 (j - 24) (omega arith) ∙ each (j - 24) (omega arith)
        ∙ sym (entry_letter id size key bs (j - 24)) ∙ ap (entry_word id size key bs) {x = 32 + (j - 24)} {y = 8 + j} (omega arith)

    place : (k : ℕ) → k < 96 → get_or (put_mid 32 64 (put_mid 8 18 w ys) zs) k 0 ≡ entry_word id size key bs k
    place zero h = refl
    place (suc zero) h = refl
    place (suc (suc zero)) h = refl
    place (suc (suc (suc zero))) h = refl
    place (suc (suc (suc (suc zero)))) h = refl
    place (suc (suc (suc (suc (suc zero))))) h = refl
    place (suc (suc (suc (suc (suc (suc zero)))))) h = refl
    place (suc (suc (suc (suc (suc (suc (suc zero))))))) h = refl
    place (suc (suc (suc (suc (suc (suc (suc (suc j)))))))) h =
        tail j (omega arith) (ltb j 18) (ltb j 24) refl refl ∙ ap (entry_word id size key bs) {x = 8 + j} {y = suc (suc (suc (suc (suc (suc (suc (suc j)))))))} (omega arith)

small_by : (ws : List ℕ) → ((k : ℕ) → k < length ws → get_or ws k 0 < 18446744073709551616) → Small ws
small_by [] h = tt
small_by (w ∷ ws) h = (h 0 (omega arith), small_by ws (λ k l. h (suc k) (omega arith)))

pub entry_small : (id size : ℕ) (key bs : List ℕ) → id < 18446744073709551616 → size < 18446744073709551616 → length key < 18446744073709551616
    → ((k : ℕ) → get_or bs k 0 < 18446744073709551616) → ((k : ℕ) → get_or key k 0 < 18446744073709551616) → Small (entry_of id size key bs)
entry_small id size key bs hi hs hk hb hn =
    small_by (entry_of id size key bs) (λ k h. let l = entry_length id size key bs in subst (λ w. w < 18446744073709551616) (sym (entry_at id size key bs k (omega arith))) (go k (ltb k 8) (ltb k 26) (ltb k 32) (eqb k 0) (eqb k 1) (eqb k 2)))
  where
    go : (k : ℕ) (a b c d e f : Bool) → cond a (cond d id (cond e size (cond f (length key) 0))) (cond b (get_or bs (k - 8) 0) (cond c 0 (get_or key (k - 32) 0))) < 18446744073709551616
    go k true b c true e f = hi
    go k true b c false true f = hs
    go k true b c false false true = hk
    go k true b c false false false = omega arith
    go k false true c d e f = hb (k - 8)
    go k false false true d e f = omega arith
    go k false false false d e f = hn (k - 32)

-- the directory with a new entry
module _ (id size i : ℕ) (key bs d : List ℕ) (long : length d ≡ 98304) (hi : i < slots) where
  abbrev new : List ℕ
  new = put_entry i (entry_of id size key bs) d

  pub new_field : (k : ℕ) → k < entry_words → field new i k ≡ entry_word id size key bs k
  new_field k h = entry_here i (entry_of id size key bs) d k long (entry_length id size key bs) hi h ∙ entry_at id size key bs k h

  pub new_block : (k : ℕ) → k < 18 → block_at new i k ≡ get_or bs k 0
  new_block k h = new_field (8 + k) (omega arith) ∙ entry_block id size key bs k h

  pub new_length : length new ≡ 98304
  new_length = put_length (i * 96) (entry_of id size key bs) d ∙ long

  pub new_key_lem : length key ≤ 64 → key_at new i ≡ key
  new_key_lem few = key_is new i key new_length hi (new_field 2 (omega arith)) few (λ j h. new_field (32 + j) (omega arith) ∙ entry_letter id size key bs j)

-- the next number -------------------------------------------------------------------

pub bump_bit : (off i : ℕ) (p : List ℕ) → 0 < off → bit_of off (bumped p) i ≡ bit_of off p i
unfolding bit_of
bump_bit off i p h = ap (λ v. v / 2 ^ (i % 64) % 2) (get_or-set_other p 0 (off + i / 64) (next_of p) 0 (λ e. omega arith))

pub bump_next : (p : List ℕ) → 0 < length p → next_of (bumped p) ≡ next_of p + 1
bump_next p h = ap (λ v. v + 1) (get_or-set_same p 0 (next_of p) 0 h)

pub bump_length : (p : List ℕ) → length (bumped p) ≡ length p
bump_length p = length-set p 0 (next_of p)
