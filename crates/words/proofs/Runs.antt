-- Runs of words in an image, and that loading, storing and saving them is safe.
-- Assumes nothing.
use mathlib.Core.Path.{◌≡◌, refl, sym, ap, ap₂, subst, ◌∙◌}
use mathlib.Core.Bool.{Bool, true, false}
use mathlib.Core.List.{List, [], ◌∷◌}
use Prim.Native.Nat.{ℕ, zero, suc, ◌+◌, ◌*◌, ◌/◌, ◌%◌, ◌<◌, ◌≤◌}
use native.Mathlib.Omega.{arith}
use lib.Dec.{eqb}
use lib.ListN.{length}
use borrow.Author.Tests.{eqb-true, eqb-false, ne_eqb}
use Rattle.device.specs.Lines.{Lines, seen, stored, pushed_back, yields}
use Rattle.device.specs.Does.{loop_from}
use Rattle.device.specs.Safe.{Safe, s_end, s_load, s_store, s_push}
use Rattle.device.specs.Images.{Image, upd, All, None, At}
use Rattle.device.proofs.Safe.{safe_bind, safe_more}
use Rattle.device.proofs.Image.{upd_line, upd_same, upd_word, at_less, at_store, at_push}
use Rattle.device.proofs.Loops.{safe_loop}
use Rattle.words.specs.Works.{load_via, store_via, push_turn, push_via, save_via}
use Rattle.words.specs.Runs.{read_via, put_via, Each, Small}

pub reads_ext : (f g : Image) (at : ℕ → ℕ) (i n : ℕ) → ((k : ℕ) → k < i + n → f (at (k / 8)) (k % 8) ≡ g (at (k / 8)) (k % 8)) → read_via f at i n ≡ read_via g at i n
unfolding read_via
reads_ext f g at i zero e = refl
reads_ext f g at i (suc n) e = ap₂ (λ x xs. x ∷ xs) (e i (omega arith)) (reads_ext f g at (i + 1) n (λ k h. e k (omega arith)))

pub upd_apart : (at : ℕ → ℕ) (n : ℕ) → Each at n → (i k v : ℕ) (g : Image) → i / 8 < n → k / 8 < n → (k ≡ i → ⊥) → upd (at (i / 8)) (i % 8) v g (at (k / 8)) (k % 8) ≡ g (at (k / 8)) (k % 8)
upd_apart at n each i k v g hi hk ne = go (eqb (k % 8) (i % 8)) refl
  where
    go : (b : Bool) → eqb (k % 8) (i % 8) ≡ b → upd (at (i / 8)) (i % 8) v g (at (k / 8)) (k % 8) ≡ g (at (k / 8)) (k % 8)
    go true e =
        let same : k % 8 ≡ i % 8 = eqb-true _ _ e in
        upd_line _ _ v g _ _ (ne_eqb _ _ (λ q. ne (let p : k / 8 ≡ i / 8 = each (k / 8) (i / 8) hk hi q in omega arith)))
    go false e = upd_word _ _ v g _ _ e

pub puts_before : (at : ℕ → ℕ) (n : ℕ) → Each at n → (i : ℕ) (ws : List ℕ) (g : Image) (k : ℕ) → i + length ws ≤ 8 * n → k < 8 * n → k < i → put_via at i ws g (at (k / 8)) (k % 8) ≡ g (at (k / 8)) (k % 8)
unfolding put_via
puts_before at n each i [] g k b hk h = refl
puts_before at n each i (w ∷ ws) g k b hk h = puts_before at n each (i + 1) ws _ k (omega arith) hk (omega arith) ∙ upd_apart at n each i k w g (omega arith) (omega arith) (λ q. omega arith)

pub puts_line : (at : ℕ → ℕ) (i : ℕ) (ws : List ℕ) (g : Image) (j w : ℕ) → ((k : ℕ) → k < i + length ws → eqb j (at (k / 8)) ≡ false) → put_via at i ws g j w ≡ g j w
unfolding put_via
puts_line at i [] g j w off = refl
puts_line at i (x ∷ ws) g j w off =
    puts_line at (i + 1) ws _ j w (λ k h. off k (omega arith)) ∙ upd_line _ _ x g j w (off i (omega arith))

pub reads_puts : (at : ℕ → ℕ) (n : ℕ) → Each at n → (i : ℕ) (ws : List ℕ) (g : Image) → i + length ws ≤ 8 * n → read_via (put_via at i ws g) at i (length ws) ≡ ws
unfolding put_via read_via
reads_puts at n each i [] g b = refl
reads_puts at n each i (w ∷ ws) g b =
    let g' : Image = upd (at (i / 8)) (i % 8) w g in
    ap₂ (λ x xs. x ∷ xs) (puts_before at n each (i + 1) ws g' i (omega arith) (omega arith) (omega arith) ∙ upd_same (at (i / 8)) (i % 8) w g) (reads_puts at n each (i + 1) ws g' (omega arith))

-- ---- loads and stores of words are safe

pub safe_load_via : {N : ℕ} {R : Lines → Type 0} (m : Lines) (at : ℕ → ℕ) (i n : ℕ) {Q : List ℕ → Lines → Type 0}
    → R m → ((l : ℕ) → 8 * l < i + n → at l < N) → Q (read_via (seen m) at i n) m → Safe N Q R (load_via at i n) m
unfolding load_via read_via
safe_load_via m at i zero r b q = s_end r q
safe_load_via m at i (suc n) r b q =
    s_load r (b (i / 8) (omega arith)) (omega arith)
    (safe_bind (λ vs. yields (seen m (at (i / 8)) (i % 8) ∷ vs)) (safe_load_via m at (i + 1) n r (λ l h. b l (omega arith)) (s_end r q)))

pub safe_store_via : {N : ℕ} {Q : Unit {0} → Lines → Type 0} {R : Lines → Type 0} (C P : ℕ → Type 0) (ws : List ℕ) (at : ℕ → ℕ) (i : ℕ) (g : Image) (m : Lines)
    → At g C P m
    → ((j k : ℕ) → C j → k < i + length ws → eqb j (at (k / 8)) ≡ false)
    → ((j k : ℕ) → P j → k < i + length ws → eqb j (at (k / 8)) ≡ false)
    → ((l : ℕ) → 8 * l < i + length ws → at l < N) → Small ws
    → ((n : Lines) (h : Image) → At h C P n → ((j w : ℕ) → C j → h j w ≡ g j w) → R n)
    → ((n : Lines) → At (put_via at i ws g) C P n → Q tt n)
    → Safe N Q R (store_via at i ws) m
unfolding store_via put_via
safe_store_via C P [] at i g m a offC offP b small r q = s_end (r m g a (λ j w c. refl)) (q m a)
safe_store_via C P (x ∷ ws) at i g m a offC offP b small r q =
    s_store (r m g a (λ j w c. refl)) (b (i / 8) (omega arith)) (omega arith) small.0
    (safe_store_via C P ws at (i + 1) (upd (at (i / 8)) (i % 8) x g) (stored (at (i / 8)) (i % 8) x m)
    (at_store a (at (i / 8)) (i % 8) x C P (λ j c. (c, offC j i c (omega arith))) (λ j p. (p, offP j i p (omega arith))))
    (λ j k c h. offC j k c (omega arith)) (λ j k p h. offP j k p (omega arith)) (λ l h. b l (omega arith)) small.1
    (λ n h a' e. r n h a' (λ j w c. e j w c ∙ upd_line _ _ x g j w (offC j i c (omega arith))))
    q)

-- the lines that are not among those from i on
abbrev pub Off : (at : ℕ → ℕ) (n i j : ℕ) → Type 0
Off at n i j = (k : ℕ) → i ≤ k → k < n → eqb j (at k) ≡ false

off_more : (at : ℕ → ℕ) (n i j : ℕ) → Off at n (i + 1) j → eqb j (at i) ≡ false → Off at n i j
off_more at n i j off e k lo hi = go (eqb k i) refl
  where
    go : (b : Bool) → eqb k i ≡ b → eqb j (at k) ≡ false
    go true q = subst (λ x. eqb j (at x) ≡ false) (sym (eqb-true k i q)) e
    go false q = let ne : k ≡ i → ⊥ = eqb-false k i q in off k (omega arith) hi

-- words saved outside C: at the end everything is settled again
pub safe_save_via : {N : ℕ} {Q : Unit {0} → Lines → Type 0} {R : Lines → Type 0} (C : ℕ → Type 0) (ws : List ℕ) (at : ℕ → ℕ) (n : ℕ) (g : Image) (m : Lines)
    → At g C All m
    → ((j k : ℕ) → C j → k < n → eqb j (at k) ≡ false)
    → length ws ≤ 8 * n → ((l : ℕ) → l < n → at l < N) → Small ws
    → ((o : Lines) (h : Image) → At h C None o → ((j w : ℕ) → C j → h j w ≡ g j w) → R o)
    → ((o : Lines) → At (put_via at 0 ws g) C All o → Q tt o)
    → Safe N Q R (save_via at n ws) m
unfolding save_via push_via
safe_save_via {N} {Q} {R} C ws at n g m a off fits room small r q =
    safe_bind (λ x. loop_from (push_turn at) 0 n tt)
    (safe_store_via C (Off at n 0) ws at 0 g m (at_less a C (Off at n 0) (λ j c. c) (λ j p. tt))
    (λ j k c h. off j (k / 8) c (omega arith)) (λ j k p h. p (k / 8) (omega arith) (omega arith)) (λ l h. room l (omega arith)) small
    (λ o h a' e. r o h (at_less a' C None (λ j c. c) (λ j p. absurd p)) e)
    (λ o a2.
    safe_more (λ x p k i. q p (at_less i C All (λ j c. c) (λ j z k' lo hi. absurd (omega arith)))) (λ p k. k)
    (safe_loop (push_turn at) n (λ i x p. At h2 C (Off at n i) p) R (λ i x p i'. calm i p i')
    (λ i x p lt i'. s_push (calm i p i') (room i lt) (s_end (calm (i + 1) (pushed_back (at i) p) (again i p i')) (again i p i')))
    0 n tt o (omega arith) a2)))
  where
    h2 : Image
    h2 = put_via at 0 ws g

    calm : (i : ℕ) (p : Lines) → At h2 C (Off at n i) p → R p
    calm i p a' = r p h2 (at_less a' C None (λ j c. c) (λ j z. absurd z)) (λ j w c. puts_line at 0 ws g j w (λ k h. off j (k / 8) c (omega arith)))

    again : (i : ℕ) (p : Lines) → At h2 C (Off at n i) p → At h2 C (Off at n (i + 1)) (pushed_back (at i) p)
    again i p a' = at_push a' (at i) (Off at n (i + 1)) (λ j z e. off_more at n i j z e)

-- ---- short facts

pub reads_length : (g : Image) (at : ℕ → ℕ) (i n : ℕ) → length (read_via g at i n) ≡ n
unfolding read_via
reads_length g at i zero = refl
reads_length g at i (suc n) = ap suc (reads_length g at (i + 1) n)
