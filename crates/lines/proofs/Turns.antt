-- One turn of each walk along the journal.
-- Assumes nothing.
use Rattle.std.proofs.Common.{◌≡◌, ℕ, suc, ◌+◌, ◌-◌, ◌/◌, ◌<◌, ◌≤◌, Bool, true, false, cond, eqb, ltb, List, [], ◌∷◌, ◌++◌, length, get_or, take, drop, set, sym, refl, ap, ◌∙◌, subst, add-one, arith, drop-cons, get_or-set_other, get_or-set_same, take-suc-set, drop-set-lt, ltb-false, ltb-true, eqb-true}
use Rattle.std.proofs.lemmas.List.{drop_all}
use lib.Seq.{set_out}
use borrow.Author.Tests.{eqb-false}
use Rattle.lines.specs.declared.journal.Store.{Store}
use Rattle.lines.specs.Walks.{Settling, settling, lasting, staying, settle, lost_sees, lost_counts}

pub next_of : {A : Type 0} (xs : List A) (i : ℕ) (x : A) → i < length xs → x ≡ get_or xs i x → drop i xs ≡ x ∷ drop (i + 1) xs
next_of xs i x h e = drop-cons xs i x h ∙ ap (λ y. y ∷ drop (suc i) xs) (sym e) ∙ ap (λ j. x ∷ drop j xs) (sym (add-one i))

module _ (xs : List Store) (i : ℕ) (x : Store) (h : i < length xs) (e : x ≡ get_or xs i x) where
  turn : (z : Settling) (b : Bool) → b ≡ ltb 0 (get_or z.pushed (x.place / 8) 0)
      → settle (drop i xs) z ≡ settle (drop (i + 1) xs) (cond b (lasting x z) (staying x z))
  unfolding settle
  turn z b t = ap (λ ys. settle ys z) (next_of xs i x h e) ∙ ap (λ c. settle (drop (i + 1) xs) (cond c (lasting x z) (staying x z))) (sym t)

  -- the store lasts
  pub settle_gone : (k : ℕ) (ls cs ps ls' cs' ps' : List ℕ) (b : Bool) → b ≡ ltb 0 (get_or ps (x.place / 8) 0)
      → ls' ≡ cond b (set ls x.place x.value) ls
      → cs' ≡ cond b (set cs (x.place / 8) (get_or cs (x.place / 8) 0 - 1)) cs
      → ps' ≡ cond b (set ps (x.place / 8) (get_or ps (x.place / 8) 0 - 1)) ps
      → b ≡ true
      → settle (drop (i + 1) xs) (settling ls' cs' ps' (take k xs)) ≡ settle (drop i xs) (settling ls cs ps (take k xs))
  settle_gone k ls cs ps ls' cs' ps' b t p q r true-b =
      let z = settling ls cs ps (take k xs) in
      let p' : ls' ≡ (lasting x z).lasts = p ∙ ap (λ c. cond c (set ls x.place x.value) ls) true-b in
      let q' : cs' ≡ (lasting x z).counts = q ∙ ap (λ c. cond c (set cs (x.place / 8) (get_or cs (x.place / 8) 0 - 1)) cs) true-b in
      let r' : ps' ≡ (lasting x z).pushed = r ∙ ap (λ c. cond c (set ps (x.place / 8) (get_or ps (x.place / 8) 0 - 1)) ps) true-b in
      let same : settling ls' cs' ps' (take k xs) ≡ lasting x z = λ j. settling (p' j) (q' j) (r' j) (take k xs) in
      ap (settle (drop (i + 1) xs)) same ∙ sym (turn z true (sym true-b ∙ t))

  -- the store stays, and goes to the next free place
  pub settle_stays : (k : ℕ) (ls cs ps ls' cs' ps' : List ℕ) (ys : List Store) (b : Bool) → b ≡ ltb 0 (get_or ps (x.place / 8) 0)
      → ls' ≡ cond b (set ls x.place x.value) ls
      → cs' ≡ cond b (set cs (x.place / 8) (get_or cs (x.place / 8) 0 - 1)) cs
      → ps' ≡ cond b (set ps (x.place / 8) (get_or ps (x.place / 8) 0 - 1)) ps
      → b ≡ false → k ≤ i → ys ≡ set xs k x
      → settle (drop (i + 1) ys) (settling ls' cs' ps' (take (k + 1) ys)) ≡ settle (drop i xs) (settling ls cs ps (take k xs))
  settle_stays k ls cs ps ls' cs' ps' ys b t p q r false-b low there =
      let z = settling ls cs ps (take k xs) in
      let p' : ls' ≡ ls = p ∙ ap (λ c. cond c (set ls x.place x.value) ls) false-b in
      let q' : cs' ≡ cs = q ∙ ap (λ c. cond c (set cs (x.place / 8) (get_or cs (x.place / 8) 0 - 1)) cs) false-b in
      let r' : ps' ≡ ps = r ∙ ap (λ c. cond c (set ps (x.place / 8) (get_or ps (x.place / 8) 0 - 1)) ps) false-b in
      let front : take (k + 1) ys ≡ take k xs ++ (x ∷ []) =
      ap (take (k + 1)) there ∙ ap (λ j. take j (set xs k x)) (add-one k) ∙ take-suc-set xs k x (omega arith) in
      let back : drop (i + 1) ys ≡ drop (i + 1) xs = ap (drop (i + 1)) there ∙ drop-set-lt (i + 1) xs k x (omega arith) in
      let same : settling ls' cs' ps' (take (k + 1) ys) ≡ staying x z = λ j. settling (p' j) (q' j) (r' j) (front j) in
      ap (λ zs. settle zs (settling ls' cs' ps' (take (k + 1) ys))) back ∙ ap (settle (drop (i + 1) xs)) same ∙ sym (turn z false (sym false-b ∙ t))

  pub sees_turn : (ls ss ss' : List ℕ) → ss' ≡ set ss x.place (get_or ls x.place 0) → lost_sees (drop (i + 1) xs) ls ss' ≡ lost_sees (drop i xs) ls ss
  unfolding lost_sees
  sees_turn ls ss ss' p = ap (lost_sees (drop (i + 1) xs) ls) p ∙ ap (λ ys. lost_sees ys ls ss) (sym (next_of xs i x h e))

  pub counts_turn : (cs cs' : List ℕ) → cs' ≡ set cs (x.place / 8) 0 → lost_counts (drop (i + 1) xs) cs' ≡ lost_counts (drop i xs) cs
  unfolding lost_counts
  counts_turn cs cs' p = ap (lost_counts (drop (i + 1) xs)) p ∙ ap (λ ys. lost_counts ys cs) (sym (next_of xs i x h e))

-- a walk that has come to the end
pub settle_end : (xs : List Store) (i : ℕ) (z : Settling) → length xs ≤ i → settle (drop i xs) z ≡ z
unfolding settle
settle_end xs i z h = ap (λ ys. settle ys z) (drop_all i xs h)

pub sees_end : (xs : List Store) (i : ℕ) (ls ss : List ℕ) → length xs ≤ i → lost_sees (drop i xs) ls ss ≡ ss
unfolding lost_sees
sees_end xs i ls ss h = ap (λ ys. lost_sees ys ls ss) (drop_all i xs h)

pub counts_end : (xs : List Store) (i : ℕ) (cs : List ℕ) → length xs ≤ i → lost_counts (drop i xs) cs ≡ cs
unfolding lost_counts
counts_end xs i cs h = ap (λ ys. lost_counts ys cs) (drop_all i xs h)

-- the same walk, by other names
pub settle_moved : (i k k' : ℕ) (xs ys : List Store) (ls cs ps : List ℕ) → k ≡ k' → xs ≡ ys
    → settle (drop i xs) (settling ls cs ps (take k xs)) ≡ settle (drop i ys) (settling ls cs ps (take k' ys))
settle_moved i k k' xs ys ls cs ps p q = λ j. settle (drop i (q j)) (settling ls cs ps (take (p j) (q j)))

-- a number is set that is not above its bound
pub set_within : (ps ps' cs : List ℕ) (l v : ℕ) → ps' ≡ set ps l v → v ≤ get_or cs l 0 → ((k : ℕ) → get_or ps k 0 ≤ get_or cs k 0) → (k : ℕ) → get_or ps' k 0 ≤ get_or cs k 0
set_within ps ps' cs l v e low h k = subst (λ qs. get_or qs k 0 ≤ get_or cs k 0) (sym e) (go (eqb k l) refl (ltb l (length ps)) refl)
  where
    go : (b : Bool) → eqb k l ≡ b → (t : Bool) → ltb l (length ps) ≡ t → get_or (set ps l v) k 0 ≤ get_or cs k 0
    go true p true q =
        subst (λ j. get_or (set ps l v) j 0 ≤ get_or cs j 0) (sym (eqb-true k l p))
        (subst (λ n. n ≤ get_or cs l 0) (sym (get_or-set_same ps l v 0 (ltb-true l (length ps) q))) low)
    go true p false q = subst (λ qs. get_or qs k 0 ≤ get_or cs k 0) (sym (set_out ps l v (ltb-false l (length ps) q))) (h k)
    go false p t q = subst (λ n. n ≤ get_or cs k 0) (sym (get_or-set_other ps l k v 0 (eqb-false k l p))) (h k)
