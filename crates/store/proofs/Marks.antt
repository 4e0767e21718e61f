-- Marks of blocks. Assumes nothing.
use Rattle.std.proofs.Common.{◌≡◌, ℕ, zero, suc, ◌+◌, ◌-◌, ◌*◌, ◌<◌, ◌≤◌, Bool, true, false, cond, eqb, ltb, leb, ◌⊎◌, List, [], ◌∷◌, ◌++◌, length, get_or, take, set, replicate, Some, None, sym, refl, ap, ◌∙◌, subst, inl, inr, arith, length-append, length-set, length-take-le, get_or-set_other, get_or-set_same, ltb-false, ltb-true, eq-eqb, ne_eqb, eqb-true, le-leb, leb-true}
use lib.ListN.{length-replicate}
use borrow.Author.Tests.{eqb-false}
use Rattle.std.proofs.lemmas.List.{get_or_past}
use Rattle.blocks.specs.Works.{blocks_in}
use Rattle.store.specs.Layout.{used_of, size_at, block_at, blocks_for}
use Rattle.store.specs.Shows.{Free}
use Rattle.store.specs.Finds.{weight_over}
use Rattle.store.specs.Room.{mark_blocks, mark_slot, mark_slots, marked, zeros_from, chosen, looked_at, Chosen, RoomStands}

-- ---- what is marked stays so, and all that should be is

set_one : (ms : List ℕ) (b j : ℕ) → get_or ms j 0 ≡ 1 → get_or (set ms b 1) j 0 ≡ 1
set_one ms b j h = go (eqb j b) refl
  where
    at : (b < length ms) ⊎ (length ms ≤ b) → j ≡ b → get_or (set ms b 1) j 0 ≡ 1
    at (inl l) e = ap (λ k. get_or (set ms b 1) k 0) e ∙ get_or-set_same ms b 1 0 l
    at (inr l) e = absurd (past ms j (omega arith) h)
      where
        past : (ms : List ℕ) (j : ℕ) → length ms ≤ j → get_or ms j 0 ≡ 1 → ⊥
        past [] j l h = omega arith
        past (m ∷ ms) zero l h = omega arith
        past (m ∷ ms) (suc j) l h = past ms j (omega arith) h

    which : (b < length ms) ⊎ (length ms ≤ b)
    which = elim (ltb b (length ms)) as (λ t. (ltb b (length ms) ≡ t) → (b < length ms) ⊎ (length ms ≤ b)) [ true ↦ λ e. inl (ltb-true _ _ e) | false ↦ λ e. inr (ltb-false _ _ e) ] refl

    go : (t : Bool) → eqb j b ≡ t → get_or (set ms b 1) j 0 ≡ 1
    go true t = at which (eqb-true j b t)
    go false t = get_or-set_other ms b j 1 0 (eqb-false j b t) ∙ h

blocks_keep : (d : List ℕ) (i k n : ℕ) (ms : List ℕ) (j : ℕ) → get_or ms j 0 ≡ 1 → get_or (mark_blocks d i k n ms) j 0 ≡ 1
unfolding mark_blocks
blocks_keep d i k zero ms j h = h
blocks_keep d i k (suc n) ms j h = blocks_keep d i (k + 1) n (set ms (block_at d i k) 1) j (set_one ms (block_at d i k) j h)

blocks_length : (d : List ℕ) (i k n : ℕ) (ms : List ℕ) → length (mark_blocks d i k n ms) ≡ length ms
unfolding mark_blocks
blocks_length d i k zero ms = refl
blocks_length d i k (suc n) ms = blocks_length d i (k + 1) n (set ms (block_at d i k) 1) ∙ length-set ms (block_at d i k) 1

blocks_has : (d : List ℕ) (i k n l : ℕ) (ms : List ℕ) → k ≤ l → l < k + n → block_at d i l < length ms → get_or (mark_blocks d i k n ms) (block_at d i l) 0 ≡ 1
unfolding mark_blocks
blocks_has d i k zero l ms lo hi h = absurd (omega arith)
blocks_has d i k (suc n) l ms lo hi h = go (eqb l k) refl (blocks_has d i (k + 1) n l (set ms (block_at d i k) 1))
  where
    go : (t : Bool) → eqb l k ≡ t → (k + 1 ≤ l → l < k + 1 + n → block_at d i l < length (set ms (block_at d i k) 1) → get_or (mark_blocks d i (k + 1) n (set ms (block_at d i k) 1)) (block_at d i l) 0 ≡ 1)
        → get_or (mark_blocks d i (k + 1) n (set ms (block_at d i k) 1)) (block_at d i l) 0 ≡ 1
    go true t ih =
        let e = eqb-true l k t in
        let b : get_or (set ms (block_at d i k) 1) (block_at d i l) 0 ≡ 1 = ap (λ x. get_or (set ms (block_at d i k) 1) (block_at d i x) 0) e ∙ get_or-set_same ms (block_at d i k) 1 0 (subst (λ x. block_at d i x < length ms) e h) in
        blocks_keep d i (k + 1) n (set ms (block_at d i k) 1) (block_at d i l) b
    go false t ih =
        let ne : l ≡ k → ⊥ = eqb-false l k t in
        ih (omega (arith, ne)) (omega arith) (subst (λ x. block_at d i l < x) (sym (length-set ms (block_at d i k) 1)) h)

slot_keep : (q d : List ℕ) (i : ℕ) (ms : List ℕ) (j : ℕ) → get_or ms j 0 ≡ 1 → get_or (mark_slot q d i ms) j 0 ≡ 1
slot_keep q d i ms j h = elim (eqb (used_of q i) 1) as (λ t. get_or (cond t (mark_blocks d i 0 (blocks_for (size_at d i)) ms) ms) j 0 ≡ 1) [ true ↦ blocks_keep d i 0 (blocks_for (size_at d i)) ms j h | false ↦ h ]

slot_length : (q d : List ℕ) (i : ℕ) (ms : List ℕ) → length (mark_slot q d i ms) ≡ length ms
slot_length q d i ms = elim (eqb (used_of q i) 1) as (λ t. length (cond t (mark_blocks d i 0 (blocks_for (size_at d i)) ms) ms) ≡ length ms) [ true ↦ blocks_length d i 0 (blocks_for (size_at d i)) ms | false ↦ refl ]

slot_has : (q d : List ℕ) (i k : ℕ) (ms : List ℕ) → used_of q i ≡ 1 → k < blocks_for (size_at d i) → block_at d i k < length ms → get_or (mark_slot q d i ms) (block_at d i k) 0 ≡ 1
slot_has q d i k ms u hk h =
    ap (λ t. get_or (cond t (mark_blocks d i 0 (blocks_for (size_at d i)) ms) ms) (block_at d i k) 0) (eq-eqb _ _ u) ∙ blocks_has d i 0 (blocks_for (size_at d i)) k ms (omega arith) (omega arith) h

slots_keep : (q d : List ℕ) (i n : ℕ) (ms : List ℕ) (j : ℕ) → get_or ms j 0 ≡ 1 → get_or (mark_slots q d i n ms) j 0 ≡ 1
unfolding mark_slots
slots_keep q d i zero ms j h = h
slots_keep q d i (suc n) ms j h = slots_keep q d (i + 1) n (mark_slot q d i ms) j (slot_keep q d i ms j h)

slots_length : (q d : List ℕ) (i n : ℕ) (ms : List ℕ) → length (mark_slots q d i n ms) ≡ length ms
unfolding mark_slots
slots_length q d i zero ms = refl
slots_length q d i (suc n) ms = slots_length q d (i + 1) n (mark_slot q d i ms) ∙ slot_length q d i ms

slots_has : (q d : List ℕ) (i n j k : ℕ) (ms : List ℕ) → i ≤ j → j < i + n → used_of q j ≡ 1 → k < blocks_for (size_at d j) → block_at d j k < length ms → get_or (mark_slots q d i n ms) (block_at d j k) 0 ≡ 1
unfolding mark_slots
slots_has q d i zero j k ms lo hi u hk h = absurd (omega arith)
slots_has q d i (suc n) j k ms lo hi u hk h = go (eqb j i) refl (slots_has q d (i + 1) n j k (mark_slot q d i ms))
  where
    go : (t : Bool) → eqb j i ≡ t → (i + 1 ≤ j → j < i + 1 + n → used_of q j ≡ 1 → k < blocks_for (size_at d j) → block_at d j k < length (mark_slot q d i ms) → get_or (mark_slots q d (i + 1) n (mark_slot q d i ms)) (block_at d j k) 0 ≡ 1)
        → get_or (mark_slots q d (i + 1) n (mark_slot q d i ms)) (block_at d j k) 0 ≡ 1
    go true t ih =
        let e = eqb-true j i t in
        slots_keep q d (i + 1) n (mark_slot q d i ms) (block_at d j k) (subst (λ x. get_or (mark_slot q d x ms) (block_at d j k) 0 ≡ 1) e (slot_has q d j k ms u hk h))
    go false t ih =
        let ne : j ≡ i → ⊥ = eqb-false j i t in
        ih (omega (arith, ne)) (omega arith) u hk (subst (λ x. block_at d j k < x) (sym (slot_length q d i ms)) h)

pub marked_length : (q d : List ℕ) (n : ℕ) → length (marked q d n) ≡ n
unfolding marked
marked_length q d n = slots_length q d 0 1024 (replicate n 0) ∙ length-replicate n 0

marked_free : (q d : List ℕ) (n b : ℕ) → b < n → get_or (marked q d n) b 0 ≡ 0 → Free q d b
unfolding marked
marked_free q d n b hb z i k u hk = ne_eqb _ _ (λ e.
    let h : block_at d i k < length (replicate {A = ℕ} n 0) = subst (λ x. block_at d i k < x) (sym (length-replicate n 0)) (omega arith) in
    let one = slots_has q d 0 1024 i k (replicate n 0) (omega arith) (omega (arith, u.0)) u.1 hk h in
    let two : get_or (mark_slots q d 0 1024 (replicate n 0)) b 0 ≡ 1 = ap (λ x. get_or (mark_slots q d 0 1024 (replicate n 0)) x 0) (sym e) ∙ one in
    omega arith)

-- ---- the zeros

abbrev ZeroAt : List ℕ → (b z : ℕ) → Type 0
ZeroAt ms b z = (b ≤ z) × (z < b + length ms) × (get_or ms (z - b) 0 ≡ 0)

zero_more : (m : ℕ) (ms : List ℕ) (b z : ℕ) → ZeroAt ms (b + 1) z → ZeroAt (m ∷ ms) b z
zero_more m ms b z (lo, hi, e) =
    let s : z - b ≡ suc (z - (b + 1)) = omega arith in
    (omega arith, omega arith, ap (λ k. get_or (m ∷ ms) k 0) s ∙ e)

zeros_at : (ms : List ℕ) (b k : ℕ) → k < length (zeros_from ms b) → ZeroAt ms b (get_or (zeros_from ms b) k 0)
unfolding zeros_from
zeros_at [] b k h = absurd (omega arith)
zeros_at (m ∷ ms) b k h = go (eqb m 0) refl k h (zeros_at ms (b + 1))
  where
    go : (t : Bool) → eqb m 0 ≡ t → (k : ℕ) → k < length (cond t (b ∷ zeros_from ms (b + 1)) (zeros_from ms (b + 1)))
        → ((k : ℕ) → k < length (zeros_from ms (b + 1)) → ZeroAt ms (b + 1) (get_or (zeros_from ms (b + 1)) k 0))
        → ZeroAt (m ∷ ms) b (get_or (cond t (b ∷ zeros_from ms (b + 1)) (zeros_from ms (b + 1))) k 0)
    go true t zero h ih = let z : b - b ≡ 0 = omega arith in (omega arith, omega arith, ap (λ k. get_or (m ∷ ms) k 0) z ∙ eqb-true m 0 t)
    go true t (suc k) h ih = zero_more m ms b _ (ih k (omega arith))
    go false t k h ih = zero_more m ms b _ (ih k h)

-- one after the other
zeros_up : (ms : List ℕ) (b k l : ℕ) → k < l → l < length (zeros_from ms b) → get_or (zeros_from ms b) k 0 < get_or (zeros_from ms b) l 0
unfolding zeros_from
zeros_up [] b k l lt h = absurd (omega arith)
zeros_up (m ∷ ms) b k l lt h = go (eqb m 0) k l lt h (zeros_up ms (b + 1))
  where
    go : (t : Bool) (k l : ℕ) → k < l → l < length (cond t (b ∷ zeros_from ms (b + 1)) (zeros_from ms (b + 1)))
        → ((k l : ℕ) → k < l → l < length (zeros_from ms (b + 1)) → get_or (zeros_from ms (b + 1)) k 0 < get_or (zeros_from ms (b + 1)) l 0)
        → get_or (cond t (b ∷ zeros_from ms (b + 1)) (zeros_from ms (b + 1))) k 0 < get_or (cond t (b ∷ zeros_from ms (b + 1)) (zeros_from ms (b + 1))) l 0
    go true k zero lt h ih = absurd (omega arith)
    go true zero (suc l) lt h ih = let z = zeros_at ms (b + 1) l (omega arith) in omega (arith, z.0)
    go true (suc k) (suc l) lt h ih = ih k l (omega arith) (omega arith)
    go false k l lt h ih = ih k l lt h

-- ---- how many there are

ones : List ℕ → ℕ
ones [] = 0
ones (m ∷ ms) = cond (eqb m 0) 0 1 + ones ms

zeros_count : (ms : List ℕ) (b : ℕ) → ones ms + length (zeros_from ms b) ≡ length ms
unfolding zeros_from ones
zeros_count [] b = refl
zeros_count (m ∷ ms) b = go (eqb m 0) (zeros_count ms (b + 1))
  where
    go : (t : Bool) → ones ms + length (zeros_from ms (b + 1)) ≡ length ms → cond t 0 1 + ones ms + length (cond t (b ∷ zeros_from ms (b + 1)) (zeros_from ms (b + 1))) ≡ suc (length ms)
    go true e = omega arith
    go false e = omega arith

ones_set : (ms : List ℕ) (b : ℕ) → ones (set ms b 1) ≤ ones ms + 1
unfolding ones
ones_set [] b = omega arith
ones_set (m ∷ ms) zero = elim (eqb m 0) as (λ t. 1 + ones ms ≤ cond t 0 1 + ones ms + 1) [ true ↦ omega arith | false ↦ omega arith ]
ones_set (m ∷ ms) (suc b) = let h = ones_set ms b in omega arith

ones_none : (n : ℕ) → ones (replicate n 0) ≡ 0
unfolding ones
ones_none zero = refl
ones_none (suc n) = let h = ones_none n in omega arith

blocks_ones : (d : List ℕ) (i k n : ℕ) (ms : List ℕ) → ones (mark_blocks d i k n ms) ≤ ones ms + n
unfolding mark_blocks
blocks_ones d i k zero ms = omega arith
blocks_ones d i k (suc n) ms = let h = blocks_ones d i (k + 1) n (set ms (block_at d i k) 1) in let s = ones_set ms (block_at d i k) in omega arith

-- blocks of n slots, from slot i on
abbrev takes : (q d : List ℕ) → ℕ → ℕ
takes q d i = cond (eqb (used_of q i) 1) (blocks_for (size_at d i)) 0

takes_over : (q d : List ℕ) → (i n : ℕ) → ℕ
takes_over q d i zero = 0
takes_over q d i (suc n) = takes q d i + takes_over q d (i + 1) n

slots_ones : (q d : List ℕ) (i n : ℕ) (ms : List ℕ) → ones (mark_slots q d i n ms) ≤ ones ms + takes_over q d i n
unfolding mark_slots takes_over
slots_ones q d i zero ms = omega arith
slots_ones q d i (suc n) ms = let h = slots_ones q d (i + 1) n (mark_slot q d i ms) in let s = one (eqb (used_of q i) 1) in omega arith
  where
    one : (t : Bool) → ones (cond t (mark_blocks d i 0 (blocks_for (size_at d i)) ms) ms) ≤ ones ms + cond t (blocks_for (size_at d i)) 0
    one true = blocks_ones d i 0 (blocks_for (size_at d i)) ms
    one false = omega arith

-- a flow's blocks take no more bytes than twice its weight; and no flow has more than 18
takes_weigh : (q d : List ℕ) (i n : ℕ) → 8192 * takes_over q d i n ≤ 2 * weight_over q d i n
unfolding takes_over weight_over
takes_weigh q d i zero = omega arith
takes_weigh q d i (suc n) = let h = takes_weigh q d (i + 1) n in let s = one (eqb (used_of q i) 1) in omega arith
  where
    one : (t : Bool) → 8192 * cond t (blocks_for (size_at d i)) 0 ≤ 2 * cond t (16384 + 16 * size_at d i) 0
    one true = omega arith
    one false = omega arith

takes_low : (q d : List ℕ) (i : ℕ) → takes q d i ≤ 18
takes_low q d i = elim (eqb (used_of q i) 1) as (λ t. cond t (blocks_for (size_at d i)) 0 ≤ 18) [ true ↦ omega arith | false ↦ omega arith ]

takes_few : (q d : List ℕ) (i n : ℕ) → takes_over q d i n ≤ 18 * n
unfolding takes_over
takes_few q d i zero = omega arith
takes_few q d i (suc n) = let h = takes_few q d (i + 1) n in let s = takes_low q d i in omega arith

-- where one of the slots is not in use, one flow fewer
takes_but : (q d : List ℕ) (i n j : ℕ) → i ≤ j → j < i + n → used_of q j ≡ 0 → takes_over q d i n + 18 ≤ 18 * n
unfolding takes_over
takes_but q d i zero j lo hi u = absurd (omega arith)
takes_but q d i (suc n) j lo hi u = go (eqb j i) refl (takes_but q d (i + 1) n j)
  where
    go : (t : Bool) → eqb j i ≡ t → (i + 1 ≤ j → j < i + 1 + n → used_of q j ≡ 0 → takes_over q d (i + 1) n + 18 ≤ 18 * n) → takes q d i + takes_over q d (i + 1) n + 18 ≤ 18 * suc n
    go true t ih =
        let e = eqb-true j i t in
        let z : takes q d i ≡ 0 = ap (λ b. cond b (blocks_for (size_at d i)) 0) (ne_eqb (used_of q i) 1 (λ k. let r : used_of q j ≡ used_of q i = ap (used_of q) e in omega arith)) in
        let f = takes_few q d (i + 1) n in
        omega arith
    go false t ih =
        let ne : j ≡ i → ⊥ = eqb-false j i t in
        let h = ih (omega (arith, ne)) (omega arith) u in
        let s = takes_low q d i in
        omega arith

marked_zeros : (q d : List ℕ) (n : ℕ) → n ≤ length (zeros_from (marked q d n) 0) + takes_over q d 0 1024
unfolding marked
marked_zeros q d n =
    let c = zeros_count (mark_slots q d 0 1024 (replicate n 0)) 0 in
    let l = marked_length q d n in
    let o = slots_ones q d 0 1024 (replicate n 0) in
    let z = ones_none n in
    omega arith

-- ---- the theorem

take_at : (n k : ℕ) (xs ys : List ℕ) → k < n → n ≤ length xs → get_or (take n xs ++ ys) k 0 ≡ get_or xs k 0
take_at zero k xs ys h l = absurd (omega arith)
take_at (suc n) k [] ys h l = absurd (omega arith)
take_at (suc n) zero (x ∷ xs) ys h l = refl
take_at (suc n) (suc k) (x ∷ xs) ys h l = take_at n k xs ys (omega arith) (omega arith)

low_append : (xs ys : List ℕ) → ((k : ℕ) → get_or xs k 0 < 18446744073709551616) → ((k : ℕ) → get_or ys k 0 < 18446744073709551616) → (k : ℕ) → get_or (xs ++ ys) k 0 < 18446744073709551616
low_append [] ys hx hy k = hy k
low_append (x ∷ xs) ys hx hy zero = hx 0
low_append (x ∷ xs) ys hx hy (suc k) = low_append xs ys (λ j. hx (suc j)) hy k

low_take : (n : ℕ) (xs : List ℕ) → ((k : ℕ) → get_or xs k 0 < 18446744073709551616) → (k : ℕ) → get_or (take n xs) k 0 < 18446744073709551616
low_take zero xs h k = omega arith
low_take (suc n) [] h k = omega arith
low_take (suc n) (x ∷ xs) h zero = h 0
low_take (suc n) (x ∷ xs) h (suc k) = low_take n xs (λ j. h (suc j)) k

low_zeros : (n k : ℕ) → get_or (replicate n 0) k 0 < 18446744073709551616
low_zeros zero k = omega arith
low_zeros (suc n) zero = omega arith
low_zeros (suc n) (suc k) = low_zeros n k

pub room_stands : RoomStands
unfolding chosen
room_stands = record {
  chooses = λ lines q d size bs low e. picks lines q d size bs low (leb (blocks_for size) (length (zeros_from (marked q d (looked_at lines)) 0))) refl e;
  suffices = λ lines q d size i room low hi u fits. enough lines q d size i room low hi u fits;
}
  where
    picks : (lines : ℕ) (q d : List ℕ) (size : ℕ) (bs : List ℕ) → size ≤ 4096 → (t : Bool) → leb (blocks_for size) (length (zeros_from (marked q d (looked_at lines)) 0)) ≡ t
        → cond t (Some (take (blocks_for size) (zeros_from (marked q d (looked_at lines)) 0) ++ replicate (18 - blocks_for size) 0)) None ≡ Some bs → Chosen lines q d size bs
    picks lines q d size bs low false t e = let z : ◌≡◌ {A = ℕ} 0 1 = cc in absurd (omega arith)
    picks lines q d size bs low true t e =
        subst (Chosen lines q d size) same (record {
          long = length-append (take need zs) (replicate (18 - need) 0) ∙ ap (λ k. k + length (replicate {A = ℕ} (18 - need) 0)) (length-take-le need zs l) ∙ ap (λ k. need + k) (length-replicate (18 - need) 0) ∙ sum;
          low = low_append (take need zs) (replicate (18 - need) 0) (low_take need zs (λ k. zero_low k (ltb k (length zs)) refl)) (low_zeros (18 - need));
          fits = λ k h. subst (λ b. b < blocks_in lines) (sym (is k h)) (let z = zeros_at ms 0 k (omega (arith, l)) in omega (arith, z.1, marked_length q d (looked_at lines)));
          each = λ k k' h h' eq. one k k' h h' (sym (is k h) ∙ eq ∙ is k' h') (ltb k k') refl (ltb k' k) refl;
          free = λ k h. subst (Free q d) (sym (is k h)) (let z = zeros_at ms 0 k (omega (arith, l)) in marked_free q d (looked_at lines) (get_or zs k 0) (omega (arith, z.1, marked_length q d (looked_at lines))) (ap (λ b. get_or ms b 0) {x = get_or zs k 0} {y = get_or zs k 0 - 0} (omega arith) ∙ z.2));
        })
      where
        zero_low : (k : ℕ) (t : Bool) → ltb k (length (zeros_from (marked q d (looked_at lines)) 0)) ≡ t → get_or (zeros_from (marked q d (looked_at lines)) 0) k 0 < 18446744073709551616
        zero_low k true t = let z = zeros_at (marked q d (looked_at lines)) 0 k (ltb-true _ _ t) in omega (arith, z.1, marked_length q d (looked_at lines))
        zero_low k false t = let e = get_or_past (zeros_from (marked q d (looked_at lines)) 0) k 0 (ltb-false _ _ t) in omega arith

        need : ℕ
        need = blocks_for size

        ms : List ℕ
        ms = marked q d (looked_at lines)

        zs : List ℕ
        zs = zeros_from ms 0

        l : need ≤ length zs
        l = leb-true _ _ t

        same : take need zs ++ replicate (18 - need) 0 ≡ bs
        same = cc

        sum : need + (18 - need) ≡ 18
        sum = omega arith

        is : (k : ℕ) → k < need → get_or (take need zs ++ replicate (18 - need) 0) k 0 ≡ get_or zs k 0
        is k h = take_at need k zs (replicate (18 - need) 0) h l

        one : (k k' : ℕ) → k < need → k' < need → get_or zs k 0 ≡ get_or zs k' 0 → (a : Bool) → ltb k k' ≡ a → (b : Bool) → ltb k' k ≡ b → k ≡ k'
        one k k' h h' eq true a b bb = let z = zeros_up ms 0 k k' (ltb-true _ _ a) (omega (arith, l)) in absurd (omega arith)
        one k k' h h' eq false a true bb = let z = zeros_up ms 0 k' k (ltb-true _ _ bb) (omega (arith, l)) in absurd (omega arith)
        one k k' h h' eq false a false bb = let x = ltb-false k k' a in let y = ltb-false k' k bb in omega arith

    enough : (lines : ℕ) (q d : List ℕ) (size i : ℕ) → 32768 ≤ lines → size ≤ 4096 → i < 1024 → used_of q i ≡ 0
        → 1048576 + 2 * (weight_over q d 0 1024 + (16384 + 16 * size)) ≤ 64 * lines
        → (bs : List ℕ) × (cond (leb (blocks_for size) (length (zeros_from (marked q d (looked_at lines)) 0))) (Some (take (blocks_for size) (zeros_from (marked q d (looked_at lines)) 0) ++ replicate (18 - blocks_for size) 0)) None ≡ Some bs)
    enough lines q d size i room low hi u fits =
        let z = marked_zeros q d (looked_at lines) in
        let w = takes_weigh q d 0 1024 in
        let b = takes_but q d 0 1024 i (omega arith) (omega arith) u in
        let l : blocks_for size ≤ length (zeros_from (marked q d (looked_at lines)) 0) = omega arith in (
          take (blocks_for size) (zeros_from (marked q d (looked_at lines)) 0) ++ replicate (18 - blocks_for size) 0,
          ap (λ t. cond t (Some (take (blocks_for size) (zeros_from (marked q d (looked_at lines)) 0) ++ replicate (18 - blocks_for size) 0)) None) (le-leb _ _ l),
        )
