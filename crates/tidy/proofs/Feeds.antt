-- Counting line feeds.
use Rattle.std.proofs.Common.{◌≡◌, ◌≢◌, ℕ, suc, ◌+◌, ◌-◌, ◌<◌, ◌≤◌, Bool, true, false, cond, eqb, ltb, List, [], ◌∷◌, ◌++◌, length, get_or, take, drop, Some, None, Option, sym, refl, ap, ◌∙◌, subst, arith, length-drop}
use Rattle.std.proofs.lemmas.List.{take_more, take_all, get_or-drop}
use Rattle.std.specs.List.{AllWithin, HoldsAt}
use Rattle.std.specs.Option.{MatchOption, unwrap_or}
use Rattle.std.proofs.lemmas.Bool.Decides.{nat_tests}
use Rattle.tidy.specs.Tidies.{feeds}

feeds_append : (xs ys : List ℕ) → feeds (xs ++ ys) ≡ feeds xs + feeds ys
feeds_append [] ys = omega arith
feeds_append (x ∷ xs) ys = let h = feeds_append xs ys in omega arith

pub feeds_more : (xs : List ℕ) (i : ℕ) → i < length xs → feeds (take (i + 1) xs) ≡ feeds (take i xs) + cond (eqb (get_or xs i 0) 10) 1 0
feeds_more xs i h = ap feeds (take_more xs i 0 h) ∙ (feeds_append (take i xs) (get_or xs i 0 ∷ []) ∙ omega arith)

pub feed_here : (xs : List ℕ) (i : ℕ) → i < length xs → get_or xs i 0 ≡ 10 → feeds (take (i + 1) xs) ≡ feeds (take i xs) + 1
feed_here xs i h e = feeds_more xs i h ∙ (rw e refl)

pub no_feed : (xs : List ℕ) (i : ℕ) → i < length xs → (get_or xs i 0 ≡ 10 → ⊥) → feeds (take (i + 1) xs) ≡ feeds (take i xs)
no_feed xs i h e = feeds_more xs i h ∙ go (eqb (get_or xs i 0) 10) refl
  where
    go : (b : Bool) → eqb (get_or xs i 0) 10 ≡ b → feeds (take i xs) + cond b 1 0 ≡ feeds (take i xs)
    go true q = absurd (e (grind (arith, nat_tests)))
    go false q = omega arith

-- no line feed from b up to i
abbrev pub Bare : List ℕ → (b i : ℕ) → Type 0
Bare xs b i = (k : ℕ) → b ≤ k → k < i → get_or xs k 0 ≡ 10 → ⊥

pub bare_none : (xs : List ℕ) (b i : ℕ) → i ≤ b → Bare xs b i
bare_none xs b i h k p q e = absurd (omega arith)

pub bare_more : (xs : List ℕ) (b i : ℕ) → Bare xs b i → (get_or xs i 0 ≡ 10 → ⊥) → Bare xs b (i + 1)
bare_more xs b i old other k p q e = go (ltb k i) refl
  where
    go : (t : Bool) → ltb k i ≡ t → ⊥
    go true w = old k p (grind (arith, nat_tests)) e
    go false w = let same : k ≡ i = grind (arith, nat_tests) in other (subst (λ z. get_or xs z 0 ≡ 10) same e)

pub behind_here : (xs : List ℕ) (i : ℕ) → get_or xs i 0 ≡ 10 → (k : ℕ) → suc k ≡ i + 1 → get_or xs k 0 ≡ 10
behind_here xs i e k q = let same : i ≡ k = omega arith in subst (λ z. get_or xs z 0 ≡ 10) same e

-- where a line ends: at the next line feed, or at the end
pub record EndAt (text : List ℕ) (at end : ℕ) : Type 0 where
  pub ends : (at ≤ end) × (end ≤ length text)
  pub before : end < length text → get_or text end 0 ≡ 10
  pub to : (k : ℕ) → at ≤ k → k < end → get_or text k 0 ≢ 10

pub end_found : (text : List ℕ) (at : ℕ) (r : Option ℕ) (n : ℕ) → at ≤ length text →
    MatchOption r (AllWithin (λ b. b ≢ 10) (take (length text - at) (drop at text)) 0 (length (take (length text - at) (drop at text))))
    (λ i. (i < length (take (length text - at) (drop at text))) × HoldsAt (λ b. b ≡ 10) (take (length text - at) (drop at text)) i × AllWithin (λ b. b ≢ 10) (take (length text - at) (drop at text)) 0 i) →
    n ≡ unwrap_or r (length (take (length text - at) (drop at text))) → EndAt text at (at + n)
end_found text at r n l m e =
    let whole : take (length text - at) (drop at text) ≡ drop at text = take_all (length text - at) (drop at text) (simp length-drop (omega arith)) in
    go r (e ∙ ap (λ (d : List ℕ). unwrap_or r (length d)) whole) (subst (λ (d : List ℕ). Found r d) whole m)
  where
    Found : Option ℕ → List ℕ → Type 0
    Found r d = MatchOption r (AllWithin (λ b. b ≢ 10) d 0 (length d)) (λ i. (i < length d) × HoldsAt (λ b. b ≡ 10) d i × AllWithin (λ b. b ≢ 10) d 0 i)

    size : length (drop at text) ≡ length text - at
    size = length-drop at text

    bare : (i : ℕ) → AllWithin (λ b. b ≢ 10) (drop at text) 0 i → (k : ℕ) → at ≤ k → k < at + i → get_or text k 0 ≢ 10
    bare i a k p q =
        let j : at + (k - at) ≡ k = omega arith in
        subst (λ (x : ℕ). get_or text x 0 ≢ 10) j (subst (λ (x : ℕ). x ≢ 10) (get_or-drop at text (k - at) 0) (a (k - at) 0 (omega arith) (omega arith)))

    go : (r : Option ℕ) → n ≡ unwrap_or r (length (drop at text)) → Found r (drop at text) → EndAt text at (at + n)
    go None e m = record { ends = (omega arith, omega (arith, e, size)); before = λ h. absurd (omega (arith, e, size)); to = λ k p q. bare n (subst (λ (x : ℕ). AllWithin (λ b. b ≢ 10) (drop at text) 0 x) (sym e) m) k p q }
    go (Some i) e m = record { ends = (omega arith, omega (arith, e, m.0, size)); before = λ h. subst (λ (x : ℕ). get_or text (at + x) 0 ≡ 10) (sym e) (sym (get_or-drop at text i 0) ∙ m.1 0); to = λ k p q. bare n (subst (λ (x : ℕ). AllWithin (λ b. b ≢ 10) (drop at text) 0 x) (sym e) m.2) k p q }
