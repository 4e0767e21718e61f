-- What the walks along the journal do to one line.
-- Assumes nothing.
use Rattle.std.proofs.Common.{◌≡◌, ℕ, suc, ◌+◌, ◌-◌, ◌*◌, ◌/◌, ◌%◌, ◌<◌, Bool, true, false, cond, eqb, ltb, ◌⊎◌, List, [], ◌∷◌, ◌++◌, length, get_or, set, sym, refl, ap, ◌∙◌, subst, inl, inr, append_assoc, append-nil, arith, length-append, length-set, get_or-set_other, get_or-set_same, ltb-false, ltb-true, eq-eqb, ne_eqb, eqb-true}
use lib.Seq.{set_out}
use borrow.Author.Tests.{eqb-false}
use Rattle.device.specs.Lines.{applied, first_of, drop_of}
use Rattle.device.proofs.Image.{Put, wrote, first_of_nil, drop_of_nil}
use Rattle.lines.specs.declared.journal.Store.{Store}
use Rattle.lines.specs.Walks.{of_line, Settling, lasting, staying, settle, lost_sees, lost_counts}
use Rattle.lines.specs.Caches.{Inside}

-- ---- lists

-- what is stored into a word does not depend on the other words
pub applied_at : (xs : List Put) (f g : ℕ → ℕ) (w : ℕ) → f w ≡ g w → applied xs f w ≡ applied xs g w
unfolding applied
applied_at [] f g w e = e
applied_at (x ∷ xs) f g w e = applied_at xs _ _ w (ap (cond (eqb w x.word) x.value) e)

pub set_cond : (xs : List ℕ) (i j v : ℕ) → i < length xs → get_or (set xs i v) j 0 ≡ cond (eqb j i) v (get_or xs j 0)
set_cond xs i j v h = go (eqb j i) refl
  where
    go : (b : Bool) → eqb j i ≡ b → get_or (set xs i v) j 0 ≡ cond b v (get_or xs j 0)
    go true e = ap (λ k. get_or (set xs i v) k 0) (eqb-true j i e) ∙ get_or-set_same xs i v 0 h
    go false e = get_or-set_other xs i j v 0 (eqb-false j i e)

-- a word of a line is at the place of a store exactly where it is that word
pub place_eqb : (p l w : ℕ) → p / 8 ≡ l → eqb (l * 8 + w) p ≡ eqb w (p % 8)
place_eqb p l w e = go (eqb w (p % 8)) refl
  where
    go : (b : Bool) → eqb w (p % 8) ≡ b → eqb (l * 8 + w) p ≡ b
    go true h = let q : w ≡ p % 8 = eqb-true w (p % 8) h in eq-eqb (l * 8 + w) p (omega arith)
    go false h = ne_eqb (l * 8 + w) p (λ z. eqb-false w (p % 8) h (omega arith))

-- ---- the stores of one line

pub own_line : (l : ℕ) (x : Store) (xs : List Store) → x.place / 8 ≡ l → of_line l (x ∷ xs) ≡ wrote (x.place % 8) x.value ∷ of_line l xs
unfolding of_line
own_line l x xs e = ap (λ b. cond b (wrote (x.place % 8) x.value ∷ of_line l xs) (of_line l xs)) (eq-eqb (x.place / 8) l e)

pub other_line : (l : ℕ) (x : Store) (xs : List Store) → (x.place / 8 ≡ l → ⊥) → of_line l (x ∷ xs) ≡ of_line l xs
unfolding of_line
other_line l x xs e = ap (λ b. cond b (wrote (x.place % 8) x.value ∷ of_line l xs) (of_line l xs)) (ne_eqb (x.place / 8) l e)

pub line_append : (l : ℕ) (xs ys : List Store) → of_line l (xs ++ ys) ≡ of_line l xs ++ of_line l ys
unfolding of_line
line_append l [] ys = refl
line_append l (x ∷ xs) ys = go (eqb (x.place / 8) l) (line_append l xs ys)
  where
    go : (b : Bool) → of_line l (xs ++ ys) ≡ of_line l xs ++ of_line l ys
        → cond b (wrote (x.place % 8) x.value ∷ of_line l (xs ++ ys)) (of_line l (xs ++ ys)) ≡ cond b (wrote (x.place % 8) x.value ∷ of_line l xs) (of_line l xs) ++ of_line l ys
    go true e = ap (λ r. wrote (x.place % 8) x.value ∷ r) e
    go false e = e

pub own_snoc : (l : ℕ) (xs : List Store) (x : Store) → x.place / 8 ≡ l → of_line l (xs ++ (x ∷ [])) ≡ of_line l xs ++ (wrote (x.place % 8) x.value ∷ [])
unfolding of_line
own_snoc l xs x e = line_append l xs (x ∷ []) ∙ ap (λ r. of_line l xs ++ r) (own_line l x [] e)

pub other_snoc : (l : ℕ) (xs : List Store) (x : Store) → (x.place / 8 ≡ l → ⊥) → of_line l (xs ++ (x ∷ [])) ≡ of_line l xs
unfolding of_line
other_snoc l xs x e = line_append l xs (x ∷ []) ∙ ap (λ r. of_line l xs ++ r) (other_line l x [] e) ∙ append-nil (of_line l xs)

-- ---- the walk of a fence

pub record Sized (n : ℕ) (z : Settling) : Type 0 where
  pub lasts : length z.lasts ≡ 8 * n
  pub counts : length z.counts ≡ n
  pub pushed : length z.pushed ≡ n

pub sized_lasting : (n : ℕ) (x : Store) (z : Settling) → Sized n z → Sized n (lasting x z)
sized_lasting n x z s = record {
  lasts = length-set z.lasts x.place x.value ∙ s.lasts;
  counts = length-set z.counts (x.place / 8) (get_or z.counts (x.place / 8) 0 - 1) ∙ s.counts;
  pushed = length-set z.pushed (x.place / 8) (get_or z.pushed (x.place / 8) 0 - 1) ∙ s.pushed;
}

pub sized_staying : (n : ℕ) (x : Store) (z : Settling) → Sized n z → Sized n (staying x z)
sized_staying n x z s = record { lasts = s.lasts; counts = s.counts; pushed = s.pushed }

sized_turn : (n : ℕ) (x : Store) (z : Settling) (b : Bool) → Sized n z → Sized n (cond b (lasting x z) (staying x z))
sized_turn n x z true s = sized_lasting n x z s
sized_turn n x z false s = sized_staying n x z s

pub sized_settle : (n : ℕ) (xs : List Store) (z : Settling) → Sized n z → Sized n (settle xs z)
unfolding settle
sized_settle n [] z s = s
sized_settle n (x ∷ xs) z s = sized_settle n xs _ (sized_turn n x z (ltb 0 (get_or z.pushed (x.place / 8) 0)) s)

pub settle_counts_length : (xs : List Store) (z : Settling) → length (settle xs z).counts ≡ length z.counts
unfolding settle
settle_counts_length [] z = refl
settle_counts_length (x ∷ xs) z = settle_counts_length xs _ ∙ go (ltb 0 (get_or z.pushed (x.place / 8) 0))
  where
    go : (b : Bool) → length (cond b (lasting x z) (staying x z)).counts ≡ length z.counts
    go true = length-set z.counts (x.place / 8) (get_or z.counts (x.place / 8) 0 - 1)
    go false = refl

inside_snoc : (n : ℕ) (xs : List Store) (x : Store) → Inside n xs → x.place < 8 * n → Inside n (xs ++ (x ∷ []))
inside_snoc n [] x h p = (p, tt)
inside_snoc n (y ∷ ys) x h p = (h.0, inside_snoc n ys x h.1 p)

pub inside_more : (n : ℕ) (xs : List Store) (x : Store) → Inside n xs → x.place < 8 * n → Inside n (xs ++ (x ∷ []))
inside_more n xs x h p = inside_snoc n xs x h p

-- what stays is inside too
pub inside_settle : (n : ℕ) (xs : List Store) (z : Settling) → Inside n xs → Inside n z.kept → Inside n (settle xs z).kept
unfolding settle
inside_settle n [] z h k = k
inside_settle n (x ∷ xs) z h k = inside_settle n xs _ h.1 (go (ltb 0 (get_or z.pushed (x.place / 8) 0)))
  where
    go : (b : Bool) → Inside n (cond b (lasting x z) (staying x z)).kept
    go true = k
    go false = inside_snoc n z.kept x k h.0

-- one line, before a walk along xs from z on, and after it
pub record Settled (l w : ℕ) (xs : List Store) (z f : Settling) : Type 0 where
  pub pushed : get_or f.pushed l 0 ≡ get_or z.pushed l 0 - length (of_line l xs)
  pub kept : of_line l f.kept ≡ of_line l z.kept ++ drop_of (get_or z.pushed l 0) (of_line l xs)
  pub lasts : get_or f.lasts (l * 8 + w) 0 ≡ applied (first_of (get_or z.pushed l 0) (of_line l xs)) (λ k. get_or z.lasts (l * 8 + k) 0) w
  pub counts : get_or f.counts l 0 ≡ length (of_line l f.kept)

abbrev pub Counted : ℕ → List Store → Settling → Type 0
Counted l xs z = get_or z.counts l 0 ≡ length (of_line l z.kept) + length (of_line l xs)

module _ (n l w : ℕ) (hl : l < n) (hw : w < 8) (x : Store) (xs : List Store) (inside : x.place < 8 * n) (z f : Settling) (s : Sized n z) where
  -- a store to another line that lasts
  gone_other : (x.place / 8 ≡ l → ⊥) → Settled l w xs (lasting x z) f → Settled l w (x ∷ xs) z f
  gone_other ne r =
      let o = other_line l x xs ne in
      let p : get_or (lasting x z).pushed l 0 ≡ get_or z.pushed l 0 = get_or-set_other z.pushed (x.place / 8) l _ 0 (λ e. ne (sym e)) in
      let v : get_or (lasting x z).lasts (l * 8 + w) 0 ≡ get_or z.lasts (l * 8 + w) 0 = get_or-set_other z.lasts x.place (l * 8 + w) x.value 0 (λ e. ne (omega arith)) in
      record {
        pushed = r.pushed ∙ ap (λ k. k - length (of_line l xs)) p ∙ ap (λ ys. get_or z.pushed l 0 - length ys) (sym o);
        kept = r.kept ∙ (λ i. of_line l z.kept ++ drop_of (p i) (sym o i));
        lasts = r.lasts ∙ applied_at (first_of (get_or (lasting x z).pushed l 0) (of_line l xs)) _ _ w v ∙ (λ i. applied (first_of (p i) (sym o i)) (λ k. get_or z.lasts (l * 8 + k) 0) w);
        counts = r.counts;
      }

  -- a store to another line that stays
  stays_other : (x.place / 8 ≡ l → ⊥) → Settled l w xs (staying x z) f → Settled l w (x ∷ xs) z f
  stays_other ne r =
      let o = other_line l x xs ne in
      record {
        pushed = r.pushed ∙ ap (λ ys. get_or z.pushed l 0 - length ys) (sym o);
        kept = r.kept ∙ (λ i. other_snoc l z.kept x ne i ++ drop_of (get_or z.pushed l 0) (sym o i));
        lasts = r.lasts ∙ (λ i. applied (first_of (get_or z.pushed l 0) (sym o i)) (λ k. get_or z.lasts (l * 8 + k) 0) w);
        counts = r.counts;
      }

  -- a store to this line that lasts
  gone_own : x.place / 8 ≡ l → 0 < get_or z.pushed l 0 → Settled l w xs (lasting x z) f → Settled l w (x ∷ xs) z f
  unfolding drop_of first_of applied
  gone_own e some r =
      let o = own_line l x xs e in
      let p : get_or (lasting x z).pushed l 0 ≡ get_or z.pushed l 0 - 1 =
      subst (λ j. get_or (set z.pushed j (get_or z.pushed j 0 - 1)) l 0 ≡ get_or z.pushed l 0 - 1) (sym e) (get_or-set_same z.pushed l (get_or z.pushed l 0 - 1) 0 (omega (arith, s.pushed))) in
      let q : suc (get_or z.pushed l 0 - 1) ≡ get_or z.pushed l 0 = omega arith in
      let v : get_or (lasting x z).lasts (l * 8 + w) 0 ≡ cond (eqb w (x.place % 8)) x.value (get_or z.lasts (l * 8 + w) 0) =
      set_cond z.lasts x.place (l * 8 + w) x.value (omega (arith, s.lasts)) ∙ ap (λ b. cond b x.value (get_or z.lasts (l * 8 + w) 0)) (place_eqb x.place l w e) in
      let a : Put = wrote (x.place % 8) x.value in
      let len : length (of_line l (x ∷ xs)) ≡ suc (length (of_line l xs)) = ap length o in
      record {
        pushed = r.pushed ∙ ap (λ k. k - length (of_line l xs)) p ∙ omega (arith, len);
        kept = r.kept ∙ ap (λ k. of_line l z.kept ++ drop_of k (of_line l xs)) p ∙ (λ i. of_line l z.kept ++ drop_of (q i) (sym o i));
        lasts = r.lasts ∙ ap (λ k. applied (first_of k (of_line l xs)) (λ j. get_or (lasting x z).lasts (l * 8 + j) 0) w) p
            ∙ applied_at (first_of (get_or z.pushed l 0 - 1) (of_line l xs)) _ (λ j. cond (eqb j (x.place % 8)) x.value (get_or z.lasts (l * 8 + j) 0)) w v
            ∙ (λ i. applied (first_of (q i) (sym o i)) (λ k. get_or z.lasts (l * 8 + k) 0) w);
        counts = r.counts;
      }

  -- a store to this line that stays
  stays_own : x.place / 8 ≡ l → get_or z.pushed l 0 ≡ 0 → Settled l w xs (staying x z) f → Settled l w (x ∷ xs) z f
  unfolding drop_of first_of
  stays_own e none r =
      let o = own_line l x xs e in
      let a : Put = wrote (x.place % 8) x.value in
      record {
        pushed = r.pushed ∙ omega (arith, none);
        kept = r.kept ∙ ap (λ ys. ys ++ drop_of (get_or z.pushed l 0) (of_line l xs)) (own_snoc l z.kept x e)
            ∙ ap (λ k. (of_line l z.kept ++ (a ∷ [])) ++ drop_of k (of_line l xs)) none
            ∙ append_assoc (of_line l z.kept) (a ∷ []) (of_line l xs)
            ∙ (λ i. of_line l z.kept ++ drop_of (sym none i) (sym o i));
        lasts = r.lasts ∙ ap (λ k. applied (first_of k (of_line l xs)) (λ j. get_or z.lasts (l * 8 + j) 0) w) none
            ∙ (λ i. applied (first_of (sym none i) (sym o i)) (λ k. get_or z.lasts (l * 8 + k) 0) w);
        counts = r.counts;
      }

  -- the count of the line is right after the turn
  counted_gone : Counted l (x ∷ xs) z → Counted l xs (lasting x z)
  counted_gone c = go (eqb (x.place / 8) l) refl
    where
      go : (b : Bool) → eqb (x.place / 8) l ≡ b → Counted l xs (lasting x z)
      go true h =
          let e : x.place / 8 ≡ l = eqb-true (x.place / 8) l h in
          let len : length (of_line l (x ∷ xs)) ≡ suc (length (of_line l xs)) = ap length (own_line l x xs e) in
          subst (λ j. get_or (set z.counts j (get_or z.counts j 0 - 1)) l 0 ≡ length (of_line l z.kept) + length (of_line l xs)) (sym e)
          (get_or-set_same z.counts l (get_or z.counts l 0 - 1) 0 (omega (arith, s.counts)) ∙ omega (arith, c, len))
      go false h =
          let ne = eqb-false (x.place / 8) l h in
          get_or-set_other z.counts (x.place / 8) l _ 0 (λ e. ne (sym e)) ∙ c ∙ ap (λ ys. length (of_line l z.kept) + length ys) (other_line l x xs ne)

  counted_stays : Counted l (x ∷ xs) z → Counted l xs (staying x z)
  counted_stays c = go (eqb (x.place / 8) l) refl
    where
      go : (b : Bool) → eqb (x.place / 8) l ≡ b → Counted l xs (staying x z)
      go true h =
          let e : x.place / 8 ≡ l = eqb-true (x.place / 8) l h in
          let len : length (of_line l (x ∷ xs)) ≡ suc (length (of_line l xs)) = ap length (own_line l x xs e) in
          let more : length (of_line l (z.kept ++ (x ∷ []))) ≡ length (of_line l z.kept) + 1 = ap length (own_snoc l z.kept x e) ∙ length-append (of_line l z.kept) _ in
          omega (arith, c, len, more)
      go false h =
          let ne = eqb-false (x.place / 8) l h in
          c ∙ (λ i. length (sym (other_snoc l z.kept x ne) i) + length (other_line l x xs ne i))

  turn_gone : 0 < get_or z.pushed (x.place / 8) 0 → Settled l w xs (lasting x z) f → Settled l w (x ∷ xs) z f
  turn_gone some r = go (eqb (x.place / 8) l) refl
    where
      go : (b : Bool) → eqb (x.place / 8) l ≡ b → Settled l w (x ∷ xs) z f
      go true h = let e = eqb-true (x.place / 8) l h in gone_own e (subst (λ j. 0 < get_or z.pushed j 0) e some) r
      go false h = gone_other (eqb-false (x.place / 8) l h) r

  turn_stays : get_or z.pushed (x.place / 8) 0 ≡ 0 → Settled l w xs (staying x z) f → Settled l w (x ∷ xs) z f
  turn_stays none r = go (eqb (x.place / 8) l) refl
    where
      go : (b : Bool) → eqb (x.place / 8) l ≡ b → Settled l w (x ∷ xs) z f
      go true h = let e = eqb-true (x.place / 8) l h in stays_own e (subst (λ j. get_or z.pushed j 0 ≡ 0) e none) r
      go false h = stays_other (eqb-false (x.place / 8) l h) r

pub settled : (n l w : ℕ) → l < n → w < 8 → (xs : List Store) (z : Settling) → Inside n xs → Sized n z → Counted l xs z → Settled l w xs z (settle xs z)
unfolding settle of_line applied
settled n l w hl hw [] z inside s c = record {
  pushed = omega arith;
  kept = sym (append-nil (of_line l z.kept)) ∙ ap (λ ys. of_line l z.kept ++ ys) (sym (drop_none (get_or z.pushed l 0)));
  lasts = ap (λ ys. applied ys (λ k. get_or z.lasts (l * 8 + k) 0) w) (sym (first_none (get_or z.pushed l 0)));
  counts = c ∙ omega arith;
}
  where
    drop_none : (k : ℕ) → drop_of {A = Put} k [] ≡ []
    drop_none k = drop_of_nil k

    first_none : (k : ℕ) → first_of {A = Put} k [] ≡ []
    first_none k = first_of_nil k
settled n l w hl hw (x ∷ xs) z inside s c =
    go (ltb 0 (get_or z.pushed (x.place / 8) 0)) refl
    (settled n l w hl hw xs (lasting x z) inside.1 (sized_lasting n x z s) (counted_gone n l w hl hw x xs inside.0 z z s c))
    (settled n l w hl hw xs (staying x z) inside.1 (sized_staying n x z s) (counted_stays n l w hl hw x xs inside.0 z z s c))
  where
    go : (b : Bool) → ltb 0 (get_or z.pushed (x.place / 8) 0) ≡ b
        → Settled l w xs (lasting x z) (settle xs (lasting x z)) → Settled l w xs (staying x z) (settle xs (staying x z))
        → Settled l w (x ∷ xs) z (settle xs (cond b (lasting x z) (staying x z)))
    go true e p q = turn_gone n l w hl hw x xs inside.0 z (settle xs (lasting x z)) s (ltb-true _ _ e) p
    go false e p q =
        let none : get_or z.pushed (x.place / 8) 0 ≡ 0 = omega (arith, ltb-false 0 (get_or z.pushed (x.place / 8) 0) e) in
        turn_stays n l w hl hw x xs inside.0 z (settle xs (staying x z)) s none q

-- ---- the walk of a power failure

-- a word that is seen as it lasts stays so
same_lost : (xs : List Store) (ls ss : List ℕ) (p : ℕ) → get_or ss p 0 ≡ get_or ls p 0 → get_or (lost_sees xs ls ss) p 0 ≡ get_or ls p 0
unfolding lost_sees
same_lost [] ls ss p e = e
same_lost (x ∷ xs) ls ss p e = same_lost xs ls _ p (go (eqb p x.place) refl (ltb x.place (length ss)) refl)
  where
    go : (b : Bool) → eqb p x.place ≡ b → (t : Bool) → ltb x.place (length ss) ≡ t → get_or (set ss x.place (get_or ls x.place 0)) p 0 ≡ get_or ls p 0
    go true h true k =
        set_cond ss x.place p (get_or ls x.place 0) (ltb-true _ _ k) ∙ ap (λ b. cond b (get_or ls x.place 0) (get_or ss p 0)) h ∙ ap (λ j. get_or ls j 0) (sym (eqb-true p x.place h))
    go true h false k = ap (λ r. get_or r p 0) (set_out ss x.place _ (ltb-false _ _ k)) ∙ e
    go false h t k = get_or-set_other ss x.place p _ 0 (eqb-false p x.place h) ∙ e

pub lost_sees_lem : (n l w : ℕ) → l < n → w < 8 → (xs : List Store) (ls ss : List ℕ) → Inside n xs → length ss ≡ 8 * n
    → get_or ss (l * 8 + w) 0 ≡ applied (of_line l xs) (λ k. get_or ls (l * 8 + k) 0) w → get_or (lost_sees xs ls ss) (l * 8 + w) 0 ≡ get_or ls (l * 8 + w) 0
unfolding lost_sees of_line applied
lost_sees_lem n l w hl hw [] ls ss inside len e = e
lost_sees_lem n l w hl hw (x ∷ xs) ls ss inside len e =
    go (eqb (l * 8 + w) x.place) refl
    (λ h. lost_sees_lem n l w hl hw xs ls ss' inside.1 (length-set ss x.place (get_or ls x.place 0) ∙ len) h)
  where
    ss' : List ℕ
    ss' = set ss x.place (get_or ls x.place 0)

    away : eqb (l * 8 + w) x.place ≡ false → (b : Bool) → eqb (x.place / 8) l ≡ b → get_or ss (l * 8 + w) 0 ≡ applied (of_line l xs) (λ k. get_or ls (l * 8 + k) 0) w
    away h true k =
        let q : x.place / 8 ≡ l = eqb-true _ _ k in
        e ∙ ap (λ ys. applied ys (λ j. get_or ls (l * 8 + j) 0) w) (own_line l x xs q)
        ∙ applied_at (of_line l xs) _ (λ j. get_or ls (l * 8 + j) 0) w (ap (λ b. cond b x.value (get_or ls (l * 8 + w) 0)) (sym (place_eqb x.place l w q) ∙ h))
    away h false k = e ∙ ap (λ ys. applied ys (λ j. get_or ls (l * 8 + j) 0) w) (other_line l x xs (eqb-false _ _ k))

    go : (b : Bool) → eqb (l * 8 + w) x.place ≡ b
        → (get_or ss' (l * 8 + w) 0 ≡ applied (of_line l xs) (λ k. get_or ls (l * 8 + k) 0) w → get_or (lost_sees xs ls ss') (l * 8 + w) 0 ≡ get_or ls (l * 8 + w) 0)
        → get_or (lost_sees xs ls ss') (l * 8 + w) 0 ≡ get_or ls (l * 8 + w) 0
    go true h more =
        same_lost xs ls ss' (l * 8 + w)
        (set_cond ss x.place (l * 8 + w) (get_or ls x.place 0) (omega (arith, inside.0)) ∙ ap (λ b. cond b (get_or ls x.place 0) (get_or ss (l * 8 + w) 0)) h ∙ ap (λ j. get_or ls j 0) (sym (eqb-true _ _ h)))
    go false h more = more (get_or-set_other ss x.place (l * 8 + w) _ 0 (eqb-false _ _ h) ∙ away h (eqb (x.place / 8) l) refl)

pub lost_length : (xs : List Store) (ls ss : List ℕ) → length (lost_sees xs ls ss) ≡ length ss
unfolding lost_sees
lost_length [] ls ss = refl
lost_length (x ∷ xs) ls ss = lost_length xs ls _ ∙ length-set ss x.place (get_or ls x.place 0)

pub lost_counts_length : (xs : List Store) (cs : List ℕ) → length (lost_counts xs cs) ≡ length cs
unfolding lost_counts
lost_counts_length [] cs = refl
lost_counts_length (x ∷ xs) cs = lost_counts_length xs _ ∙ length-set cs (x.place / 8) 0

-- a line that has no stores is counted so
pub lost_counts_lem : (n l : ℕ) → l < n → (xs : List Store) (cs : List ℕ) → length cs ≡ n → (get_or cs l 0 ≡ 0) ⊎ (0 < length (of_line l xs)) → get_or (lost_counts xs cs) l 0 ≡ 0
unfolding lost_counts of_line
lost_counts_lem n l hl [] cs len h = elim h [ inl e ↦ e | inr p ↦ absurd (omega arith) ]
lost_counts_lem n l hl (x ∷ xs) cs len h = lost_counts_lem n l hl xs (set cs (x.place / 8) 0) (length-set cs (x.place / 8) 0 ∙ len) (go (eqb (x.place / 8) l) refl)
  where
    go : (b : Bool) → eqb (x.place / 8) l ≡ b → (get_or (set cs (x.place / 8) 0) l 0 ≡ 0) ⊎ (0 < length (of_line l xs))
    go true k = inl (subst (λ j. get_or (set cs j 0) l 0 ≡ 0) (sym (eqb-true _ _ k)) (get_or-set_same cs l 0 0 (omega arith)))
    go false k =
        let ne = eqb-false (x.place / 8) l k in
        elim h [
          | inl e ↦ inl (get_or-set_other cs (x.place / 8) l 0 0 (λ q. ne (sym q)) ∙ e)
          | inr p ↦ inr (subst (λ ys. 0 < length ys) (other_line l x xs ne) p)
        ]
