-- One turn of the loops that load and store words.
-- Assumes nothing.
use mathlib.Core.Path.{◌≡◌, sym, ap, subst, ◌∙◌}
use mathlib.Core.List.{List, [], ◌∷◌, ◌++◌, append-nil}
use Prim.Native.Nat.{ℕ, suc, ◌+◌, ◌-◌, ◌/◌, ◌%◌, ◌<◌, ◌≤◌}
use native.Mathlib.Numerals.{add-one}
use native.Mathlib.Omega.{arith}
use lib.ListN.{length, get_or, set, take, drop}
use Rattle.std.proofs.lemmas.List.{drop_all}
use lib.Seq.{drop-cons, take-suc-set, take_all, append_snoc}
use Rattle.device.specs.Lines.{Work, yields}
use Rattle.device.specs.Does.{Op, Loaded, Stored, bind, Did, d_end, d_load, d_store, Leads}
use Rattle.device.proofs.Did.{did_bind}
use Rattle.words.specs.Works.{load_via, store_via}

module _ {S : Type 0} (step : S → Op → S → Type 0) where
  pub store_again : (at : ℕ → ℕ) (i : ℕ) (ws : List ℕ) (q : Work (Unit {0})) {s t s₀ : S} → i < length ws
      → step s (Stored (at (i / 8)) (i % 8) (get_or ws i 0)) t
      → Leads step (store_via at i (drop i ws)) s (λ a. a) q s₀
      → Leads step (store_via at (i + 1) (drop (i + 1) ws)) t (λ a. a) q s₀
  unfolding store_via
  store_again at i ws q {s} h x leads a u d =
      let e : drop i ws ≡ get_or ws i 0 ∷ drop (i + 1) ws = drop-cons ws i 0 h ∙ ap (λ j. get_or ws i 0 ∷ drop j ws) (sym (add-one i)) in
      leads a u (subst (λ xs. Did step (store_via at i xs) s a u) (sym e) (d_store x d))

  pub store_all : (at : ℕ → ℕ) (i : ℕ) (ws : List ℕ) (q : Work (Unit {0})) {s s₀ : S} → length ws ≤ i
      → Leads step (store_via at i (drop i ws)) s (λ a. a) q s₀ → Did step q s₀ tt s
  unfolding store_via
  store_all at i ws q {s} h leads = leads tt s (subst (λ xs. Did step (store_via at i xs) s tt s) (sym (drop_all i ws h)) d_end)

  pub load_again : (at : ℕ → ℕ) (i n : ℕ) (out : List ℕ) (v : ℕ) (q : Work (List ℕ)) {s t s₀ : S} → i < n → length out ≡ n
      → step s (Loaded (at (i / 8)) (i % 8) v) t
      → Leads step (load_via at i (n - i)) s (λ vs. take i out ++ vs) q s₀
      → Leads step (load_via at (i + 1) (n - (i + 1))) t (λ vs. take (i + 1) (set out i v) ++ vs) q s₀
  unfolding load_via bind
  load_again at i n out v q {s} {t} {s₀} h e x leads vs u d =
      let less : n - i ≡ suc (n - (i + 1)) = omega arith in
      let inside : i < length out = omega arith in
      let joined : take i out ++ (v ∷ vs) ≡ take (i + 1) (set out i v) ++ vs =
      sym (append_snoc (take i out) v vs) ∙ ap (λ r. r ++ vs) (sym (take-suc-set out i v inside)) ∙ ap (λ j. take j (set out i v) ++ vs) (sym (add-one i)) in
      subst (λ r. Did step q s₀ r u) joined
      (leads (v ∷ vs) u (subst (λ k. Did step (load_via at i k) s (v ∷ vs) u) (sym less) (d_load x (did_bind (λ ws. yields (v ∷ ws)) d d_end))))

  pub load_all : (at : ℕ → ℕ) (i n : ℕ) (out : List ℕ) (q : Work (List ℕ)) {s s₀ : S} → n ≤ i → length out ≡ n
      → Leads step (load_via at i (n - i)) s (λ vs. take i out ++ vs) q s₀ → Did step q s₀ out s
  unfolding load_via
  load_all at i n out q {s} {s₀} h e leads =
      let none : n - i ≡ 0 = omega arith in
      let whole : take i out ++ [] ≡ out = append-nil (take i out) ∙ take_all i out (omega arith) in
      subst (λ r. Did step q s₀ r s) whole (leads [] s (subst (λ k. Did step (load_via at i k) s [] s) (sym none) d_end))
