-- Slots that come into use and go out of it. Assumes nothing.
use Rattle.std.proofs.Common.{◌≡◌, ℕ, zero, suc, ◌+◌, ◌*◌, ◌/◌, ◌%◌, ◌<◌, ◌≤◌, min, Bool, true, false, cond, eqb, List, ◌∷◌, sym, refl, ap, ◌∙◌, subst, arith, eq-eqb, eqb-true}
use borrow.Author.Tests.{both_ways}
use Rattle.device.specs.Images.{Image}
use Rattle.blocks.specs.Works.{block_line, blocks_in}
use Rattle.words.specs.Runs.{read_via}
use Rattle.store.specs.Layout.{entry_words, entry_line, page_words, pick_of, field, size_at, block_at, blocks_for, page_at, plan_at}
use Rattle.store.specs.Shows.{Used, Sane, Body, Free}
use Rattle.store.proofs.Turns.{bit_low}
use Rattle.store.proofs.Where.{page_line, plan_line}

-- the same words by other names of the same lines
pub reads_at : (g : Image) (at at' : ℕ → ℕ) (i n : ℕ) → ((k : ℕ) → k < i + n → at (k / 8) ≡ at' (k / 8)) → read_via g at i n ≡ read_via g at' i n
unfolding read_via
reads_at g at at' i zero e = refl
reads_at g at at' i (suc n) e = ap (λ l. g l (i % 8) ∷ read_via g at (i + 1) n) (e i (omega arith)) ∙ ap (λ xs. g (at' (i / 8)) (i % 8) ∷ xs) (reads_at g at at' (i + 1) n (λ k h. e k (omega arith)))

-- a directory that has the same entries of the slots in use
abbrev pub SameDir : (q d d' : List ℕ) → Type 0
SameDir q d d' = (i : ℕ) → Used q i → (k : ℕ) → k < entry_words → field d' i k ≡ field d i k

pub body_dir : (N : ℕ) (g : Image) (q d d' : List ℕ) (fp pl : ℕ → List ℕ) → SameDir q d d' → Body N g q d fp pl → Body N g q d' fp pl
body_dir N g q d d' fp pl e b = record {
  sane = record {
    sizes = λ i u. subst (λ s. s ≤ 4096) (sym (e i u 1 (omega arith))) (s.sizes i u);
    fits = fits;
    each = λ i k j l u v hk hl z.
        let hk' : k < blocks_for (size_at d i) = subst (λ n. k < blocks_for n) (size i u) hk in
        let hl' : l < blocks_for (size_at d j) = subst (λ n. l < blocks_for n) (size j v) hl in
        s.each i k j l u v hk' hl' (sym (e i u (8 + k) (omega arith)) ∙ z ∙ e j v (8 + l) (omega arith));
  };
  entries = λ i u k h. b.entries i u k h ∙ sym (e i u k h);
  pages = λ i u.
      let c = bit_low 17 q i in
      reads_at g (page_at N d' i (pick_of q i)) (page_at N d i (pick_of q i)) 0 page_words
      (λ k z. page_line N i (pick_of q i) (k / 8) d' (fits i (pick_of q i) u (omega arith)) (omega arith)
      ∙ ap (λ a. block_line a + k / 8) (e i u (8 + pick_of q i) (omega arith))
      ∙ sym (page_line N i (pick_of q i) (k / 8) d (s.fits i (pick_of q i) u (omega arith)) (omega arith)))
      ∙ b.pages i u;
  plans = λ i u.
      ap (λ n. read_via g (plan_at N d' i) 0 (4 * n)) (size i u)
      ∙ reads_at g (plan_at N d' i) (plan_at N d i) 0 (4 * size_at d i)
      (λ k z.
      let hb : 2 + (k / 8) / 128 < blocks_for (size_at d i) = omega arith in
      plan_line N i (k / 8) d' (omega arith) (fits i (2 + (k / 8) / 128) u (subst (λ n. 2 + (k / 8) / 128 < blocks_for n) (sym (size i u)) hb))
      ∙ ap (λ a. block_line a + (k / 8) % 128) (e i u (8 + (2 + (k / 8) / 128)) (omega arith))
      ∙ sym (plan_line N i (k / 8) d (omega arith) (s.fits i (2 + (k / 8) / 128) u hb)))
      ∙ b.plans i u;
}
  where
    s : Sane N q d
    s = b.sane

    size : (i : ℕ) → Used q i → size_at d' i ≡ size_at d i
    size i u = ap (λ n. min n 4096) (e i u 1 (omega arith))

    fits : (i k : ℕ) → Used q i → k < blocks_for (size_at d' i) → block_at d' i k < blocks_in N
    fits i k u h =
        let h' : k < blocks_for (size_at d i) = subst (λ n. k < blocks_for n) (size i u) h in
        subst (λ a. a < blocks_in N) (sym (e i u (8 + k) (omega arith))) (s.fits i k u h')

-- fewer slots in use
pub body_fewer : (N : ℕ) (g : Image) (q q' d : List ℕ) (fp pl : ℕ → List ℕ) → ((i : ℕ) → Used q' i → Used q i × (pick_of q' i ≡ pick_of q i)) → Body N g q d fp pl → Body N g q' d fp pl
body_fewer N g q q' d fp pl was b = record {
  sane = record {
    sizes = λ i u. b.sane.sizes i (was i u).0;
    fits = λ i k u. b.sane.fits i k (was i u).0;
    each = λ i k j l u v. b.sane.each i k j l (was i u).0 (was j v).0;
  };
  entries = λ i u. b.entries i (was i u).0;
  pages = λ i u. ap (λ c. read_via g (page_at N d i c) 0 page_words) (was i u).1 ∙ b.pages i (was i u).0;
  plans = λ i u. b.plans i (was i u).0;
}

-- one slot i comes into use, with this page and this plan
pub record Comes (N : ℕ) (g : Image) (q d : List ℕ) (i c : ℕ) (page plan : List ℕ) : Type 0 where
  pub sizes : field d i 1 ≤ 4096
  pub fits : (k : ℕ) → k < blocks_for (size_at d i) → block_at d i k < blocks_in N
  pub each : (k l : ℕ) → k < blocks_for (size_at d i) → l < blocks_for (size_at d i) → block_at d i k ≡ block_at d i l → k ≡ l
  pub free : (k : ℕ) → k < blocks_for (size_at d i) → Free q d (block_at d i k)
  pub entries : (k : ℕ) → k < entry_words → g (entry_line i + k / 8) (k % 8) ≡ field d i k
  pub pages : read_via g (page_at N d i c) 0 page_words ≡ page
  pub plans : read_via g (plan_at N d i) 0 (4 * size_at d i) ≡ plan

pub body_more : (N : ℕ) (g : Image) (q q' d : List ℕ) (fp pl : ℕ → List ℕ) (i c : ℕ) (page plan : List ℕ)
    → ((j : ℕ) → Used q' j → eqb j i ≡ false → Used q j × (pick_of q' j ≡ pick_of q j)) → pick_of q' i ≡ c
    → Body N g q d fp pl → Comes N g q d i c page plan
    → Body N g q' d (λ j. cond (eqb j i) page (fp j)) (λ j. cond (eqb j i) plan (pl j))
body_more N g q q' d fp pl i c page plan was pick b n = record {
  sane = record {
    sizes = λ j u. sizes j u (eqb j i) refl;
    fits = λ j k u h. fits j k u h (eqb j i) refl;
    each = λ j k j' l u v hk hl e. each j k j' l u v hk hl e (eqb j i) refl (eqb j' i) refl;
  };
  entries = λ j u k h. entries j u k h (eqb j i) refl;
  pages = λ j u. pages j u (eqb j i) refl;
  plans = λ j u. plans j u (eqb j i) refl;
}
  where
    sizes : (j : ℕ) → Used q' j → (t : Bool) → eqb j i ≡ t → field d j 1 ≤ 4096
    sizes j u true t = subst (λ m. field d m 1 ≤ 4096) (sym (eqb-true j i t)) n.sizes
    sizes j u false t = b.sane.sizes j (was j u t).0

    fits : (j k : ℕ) → Used q' j → k < blocks_for (size_at d j) → (t : Bool) → eqb j i ≡ t → block_at d j k < blocks_in N
    fits j k u h true t =
        let e = eqb-true j i t in
        subst (λ m. block_at d m k < blocks_in N) (sym e) (n.fits k (subst (λ m. k < blocks_for (size_at d m)) e h))
    fits j k u h false t = b.sane.fits j k (was j u t).0 h

    each : (j k j' l : ℕ) → Used q' j → Used q' j' → k < blocks_for (size_at d j) → l < blocks_for (size_at d j') → block_at d j k ≡ block_at d j' l
        → (t : Bool) → eqb j i ≡ t → (t' : Bool) → eqb j' i ≡ t' → (j ≡ j') × (k ≡ l)
    each j k j' l u v hk hl e true t true t' =
        let a = eqb-true j i t in
        let a' = eqb-true j' i t' in (
          a ∙ sym a',
          n.each k l (subst (λ m. k < blocks_for (size_at d m)) a hk) (subst (λ m. l < blocks_for (size_at d m)) a' hl)
              (ap (λ m. block_at d m k) (sym a) ∙ e ∙ ap (λ m. block_at d m l) a'),
        )
    each j k j' l u v hk hl e true t false t' =
        let a = eqb-true j i t in
        absurd (both_ways _ (n.free k (subst (λ m. k < blocks_for (size_at d m)) a hk) j' l (was j' v t').0 hl) (eq-eqb _ _ (sym e ∙ ap (λ m. block_at d m k) a)))
    each j k j' l u v hk hl e false t true t' =
        let a' = eqb-true j' i t' in
        absurd (both_ways _ (n.free l (subst (λ m. l < blocks_for (size_at d m)) a' hl) j k (was j u t).0 hk) (eq-eqb _ _ (e ∙ ap (λ m. block_at d m l) a')))
    each j k j' l u v hk hl e false t false t' = b.sane.each j k j' l (was j u t).0 (was j' v t').0 hk hl e

    entries : (j : ℕ) → Used q' j → (k : ℕ) → k < entry_words → (t : Bool) → eqb j i ≡ t → g (entry_line j + k / 8) (k % 8) ≡ field d j k
    entries j u k h true t = subst (λ m. g (entry_line m + k / 8) (k % 8) ≡ field d m k) (sym (eqb-true j i t)) (n.entries k h)
    entries j u k h false t = b.entries j (was j u t).0 k h

    pages : (j : ℕ) → Used q' j → (t : Bool) → eqb j i ≡ t → read_via g (page_at N d j (pick_of q' j)) 0 page_words ≡ cond t page (fp j)
    pages j u true t =
        ap (λ m. read_via g (page_at N d m (pick_of q' m)) 0 page_words) (eqb-true j i t) ∙ ap (λ v. read_via g (page_at N d i v) 0 page_words) pick ∙ n.pages
    pages j u false t = ap (λ v. read_via g (page_at N d j v) 0 page_words) (was j u t).1 ∙ b.pages j (was j u t).0

    plans : (j : ℕ) → Used q' j → (t : Bool) → eqb j i ≡ t → read_via g (plan_at N d j) 0 (4 * size_at d j) ≡ cond t plan (pl j)
    plans j u true t = ap (λ m. read_via g (plan_at N d m) 0 (4 * size_at d m)) (eqb-true j i t) ∙ n.plans
    plans j u false t = b.plans j (was j u t).0
