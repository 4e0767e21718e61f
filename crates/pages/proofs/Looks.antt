-- What is asked of a flow. Assumes nothing.
use Rattle.std.proofs.Common.{◌≡◌, ℕ, Bool, true, false, cond, eqb, ◌||◌, List, [], ◌∷◌, refl, sym, ◌∙◌, ap₂}
use Rattle.std.proofs.lemmas.Bool.{eq-eqb, ne_eqb}
use Rattle.std.specs.List.{list_any}
use Rattle.flows.proofs.Lists.{eqb_same}
use Rattle.pages.specs.Events.{one_of}

flips : (a b : ℕ) (c : Bool) → eqb a b ≡ c → eqb b a ≡ c
flips a b true h = eq-eqb b a (sym (eqb_same a b h))
flips a b false h = ne_eqb b a (λ e. let z : ◌≡◌ {A = Bool} true false = sym (eq-eqb a b (sym e)) ∙ h in cc)

pub one_is : (k : ℕ) (xs : List ℕ) → list_any (λ y. eqb y k) xs ≡ one_of k xs
unfolding one_of
one_is k [] = refl
one_is k (x ∷ xs) = ap₂ (λ (b c : Bool). b || c) (flips k x (eqb k x) refl) (one_is k xs) ∙ either (eqb k x) (one_of k xs)
  where
    either : (b c : Bool) → (b || c) ≡ cond b true c
    either true c = refl
    either false c = refl
