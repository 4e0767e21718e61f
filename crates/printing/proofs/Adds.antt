-- One text after another. Assumes nothing.
use Rattle.std.proofs.Common.{◌≡◌, ℕ, zero, suc, ◌+◌, ◌*◌, ◌/◌, ◌%◌, ◌^◌, ◌<◌, ◌≤◌, min, List, [], ◌∷◌, ◌++◌, take, replicate, Ok, Err, decimal, Result, sym, refl, ap, ◌∙◌, subst, append_assoc, arith}
use Rattle.std.proofs.lemmas.Fmt.{decimal_digit, decimal_step}
use Rattle.text.specs.Printer.{indent}
use Rattle.printing.specs.declared.PrintError.{PrintError}
use Rattle.printing.specs.declared.PrintError.TheVariants.{Memory, Damaged}
use Rattle.printing.specs.Said.{Wrote, Spoke}

pub seq : (old mid new t u : List ℕ) → mid ≡ old ++ t → new ≡ mid ++ u → new ≡ old ++ (t ++ u)
seq old mid new t u e f = f ∙ (ap (λ (x : List ℕ). x ++ u) e ∙ append_assoc old t u)

pub then_wrote : {A : Type 0} (r : Result A PrintError) (old mid new t u : List ℕ) → mid ≡ old ++ t → Wrote r mid u new → Wrote r old (t ++ u) new
then_wrote (Ok x) old mid new t u e h = seq old mid new t u e h
then_wrote (Err Memory) old mid new t u e h = tt
then_wrote (Err Damaged) old mid new t u e h = h

pub wrote_as : {A : Type 0} (r : Result A PrintError) (old new t u : List ℕ) → t ≡ u → Wrote r old t new → Wrote r old u new
wrote_as r old new t u e h = subst (λ (x : List ℕ). Wrote r old x new) e h

pub then_spoke : (r : Result ℕ PrintError) (ws rest old mid new t u : List ℕ) → mid ≡ old ++ t → Spoke r ws rest mid u new → Spoke r ws rest old (t ++ u) new
then_spoke (Ok x) ws rest old mid new t u e h = (h.0, seq old mid new t u e h.1)
then_spoke (Err Memory) ws rest old mid new t u e h = tt
then_spoke (Err Damaged) ws rest old mid new t u e h = h

pub spoke_as : (r : Result ℕ PrintError) (ws rest old new t u : List ℕ) → t ≡ u → Spoke r ws rest old t new → Spoke r ws rest old u new
spoke_as r ws rest old new t u e h = subst (λ (x : List ℕ). Spoke r ws rest old x new) e h

take_same : (n m x : ℕ) → n ≤ m → take n (replicate m x) ≡ replicate n x
take_same zero m x h = refl
take_same (suc n) zero x h = absurd (omega arith)
take_same (suc n) (suc m) x h = ap (λ (l : List ℕ). x ∷ l) (take_same n m x (omega arith))

pub spaces : (d : ℕ) → d ≤ 32 → take (4 * d) (replicate 128 32) ≡ indent d
unfolding indent
spaces d h =
    let e : 4 * d ≡ 4 * min d 32 = omega arith in
    ap (λ (k : ℕ). take k (replicate 128 32)) e ∙ take_same (4 * min d 32) 128 32 (omega arith)

pub last_digit : (r : Result (Unit {0}) PrintError) (old mid new : List ℕ) (n : ℕ) → 10 ≤ n → n < 2 ^ 64 → mid ≡ old ++ decimal (n / 10) → Wrote r mid ((48 + n % 10) ∷ []) new → Wrote r old (decimal n) new
last_digit r old mid new n l h e w = wrote_as r old new _ _ (sym (decimal_step n l h)) (then_wrote r old mid new (decimal (n / 10)) ((48 + n % 10) ∷ []) e w)

pub only_digit : (r : Result (Unit {0}) PrintError) (old new : List ℕ) (n : ℕ) → n < 10 → Wrote r old ((48 + n) ∷ []) new → Wrote r old (decimal n) new
only_digit r old new n l w = wrote_as r old new _ _ (sym (decimal_digit n l)) w
