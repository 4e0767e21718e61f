-- The flip: work that leaves alone what the state rests on, then one store that changes the state.
-- Assumes nothing.
use mathlib.Core.Path.{◌≡◌, refl, ◌∙◌}
use mathlib.Core.Logic.{◌⊎◌, inl, inr}
use mathlib.Core.Bool.{true, false}
use Prim.Native.Nat.{ℕ, ◌<◌}
use lib.Dec.{eqb}
use borrow.Author.Tests.{both_ways}
use Rattle.device.specs.Lines.{Lines, stored, pushed_back, fenced, Left, Work}
use Rattle.device.specs.Does.{bind}
use Rattle.device.specs.Safe.{Safe, s_end, s_store, s_push, s_fence}
use Rattle.device.specs.Images.{Image, upd, All, None, At, Agree, Back}
use Rattle.device.specs.Flips.{commit_work, Rests, Amid, Prepared, FlipStands}
use Rattle.device.proofs.Safe.{safe_bind, safe_more, safe_of, safe_safely}
use Rattle.device.proofs.Image.{at_less, at_store, at_push, at_fence, at_left, Lone, lone_store, lone_push, lone_left}

either : (j i : ℕ) → (eqb j i ≡ true) ⊎ (eqb j i ≡ false)
either j i = elim (eqb j i) as (λ b. (b ≡ true) ⊎ (b ≡ false)) [ true ↦ inl refl | false ↦ inr refl ]

pub amid_rests : {State : Type 0} (Decodes : Image → State → Type 0) (C : ℕ → Type 0) (g : Image) (s : State) → ((h : Image) → Agree C g h → Decodes h s)
    → (n o : Lines) → Amid C g n → Left n o → Rests Decodes s o
amid_rests Decodes C g s old n o (h, a, e) l = let b = at_left a l in (b.0, b.1, old b.0 (λ j w c. b.2 j w c ∙ e j w c))

module _ {State : Type 0} (Decodes : Image → State → Type 0) {N : ℕ} (C P : ℕ → Type 0) (g : Image) (root k : ℕ) (s : State)
    (old : (h : Image) → Agree C g h → Decodes h s) (room : root < N) (word : k < 8) where
  amid_left : (n o : Lines) → Amid C g n → Left n o → Rests Decodes s o
  amid_left n o (h, a, e) l = let b = at_left a l in (b.0, b.1, old b.0 (λ j w c. b.2 j w c ∙ e j w c))

  pub commit_end : (v : ℕ) (t : State) (n : Lines) → v < 18446744073709551616 → Prepared Decodes C P g root k v t n
      → Safe N (λ x o. Rests Decodes t o) (λ o. (p : Lines) → Left o p → Rests Decodes s p ⊎ Rests Decodes t p) (commit_work root k v) n
  commit_end v t n small (h, a, all, e, new) =
      let a4 : At h All None (fenced n) = at_fence a All (λ j c. all j) in
      let x5 : Lone (fenced n) root k v (stored root k v (fenced n)) = lone_store (fenced n) root k v in
      let a5 : At (upd root k v h) (λ j. eqb j root ≡ false) None (stored root k v (fenced n)) = at_store a4 root k v (λ j. eqb j root ≡ false) None (λ j c. (tt, c)) (λ j p. absurd p) in
      let a6 : At (upd root k v h) (λ j. eqb j root ≡ false) (λ j. eqb j root ≡ true) (pushed_back root (stored root k v (fenced n))) = at_push a5 root (λ j. eqb j root ≡ true) (λ j p q. both_ways (eqb j root) q p) in
      let a7 : At (upd root k v h) All None (fenced (pushed_back root (stored root k v (fenced n)))) = at_fence a6 All (λ j c. either j root) in
      s_fence (λ p l. inl (amid_left n p (h, at_less a C None (λ j c. c) (λ j q. absurd q), e) l))
      (s_store (λ p l. inl (before p (at_left a4 l))) room word small
      (s_push (λ p l. lone p (lone_left a4 tt x5 l)) room
      (s_fence (λ p l. lone p (lone_left a4 tt (lone_push root x5) l))
      (s_end (λ p l. inr (after p (at_left a7 l))) (upd root k v h, a7, new (upd root k v h) (λ j w c. refl))))))
    where
      before : (p : Lines) → Back h All p → Rests Decodes s p
      before p b = (b.0, b.1, old b.0 (λ j w c. b.2 j w tt ∙ e j w c))

      after : (p : Lines) → Back (upd root k v h) All p → Rests Decodes t p
      after p b = (b.0, b.1, new b.0 b.2)

      lone : (p : Lines) → Back h All p ⊎ Back (upd root k v h) All p → Rests Decodes s p ⊎ Rests Decodes t p
      lone p b = elim b [ inl x ↦ inl (before p x) | inr x ↦ inr (after p x) ]

  pub commit : {A : Type 0} (v : A → ℕ) (t : State) (w : Work A) (m : Lines) → ((a : A) → v a < 18446744073709551616)
      → Safe N (λ a n. Prepared Decodes C P g root k (v a) t n) (λ n. Amid C g n) w m
      → Safe N (λ x o. Rests Decodes t o) (λ o. (p : Lines) → Left o p → Rests Decodes s p ⊎ Rests Decodes t p) (bind w (λ a. commit_work root k (v a))) m
  commit v t w m small body =
      safe_bind (λ a. commit_work root k (v a))
      (safe_more (λ a n r q. commit_end (v a) t n (small a) q) (λ n r p l. inl (amid_left n p r l)) body)

pub flip_stands : {State : Type 0} (Reads : Image → State → Type 0) (Counts : Image → ℕ → Type 0)
    → ((g h : Image) (s : State) → Reads g s → Agree (Counts g) g h → Reads h s) → (A : Type 0) → FlipStands Reads Counts A
flip_stands Reads Counts rests A N root k w v g s t m room word small at reads within amid prepared =
    let whole = safe_safely (commit Reads (Counts g) All g root k s (λ h e. rests g h s reads e) room word v t w m small (safe_of within amid prepared)) in
    (whole.0, (λ n o p l. whole.1 n p o l), whole.2)
