-- A wish as a task, and a run as a flow. Assumes nothing.
use Rattle.std.proofs.Common.{◌≡◌, ℕ, ◌<◌, ◌≤◌, min, Bool, true, false, ltb, List, length, take, Some, None, Ok, Option, sym, refl, ap, ◌∙◌, ap₂, arith, length-take-le, take_all}
use Rattle.std.proofs.lemmas.Bool.{ltb-true, ltb-false}
use Rattle.runs.specs.declared.step.Place.{Place}
use Rattle.runs.specs.declared.step.Wish.{Wish}
use Rattle.runs.specs.declared.step.Moved.{Moved}
use Rattle.runs.specs.Steps.{fill, Lost, moves_w, wishes}
use Rattle.runs.specs.Runs.{as_out}
use Rattle.pages.specs.declared.flow.Standing.TheVariants.{Due}
use Rattle.pages.specs.declared.flow.Task.{Task}
use Rattle.pages.specs.Page.{damaged}
use Rattle.pages.specs.Events.{task_from, settled, ran_on}

few : (xs : List ℕ) (k n : ℕ) → length xs ≡ 16 → n ≡ min k 16 → (take n xs ≡ take k xs) × (n ≡ length (take k xs))
few xs k n l e = go (ltb k 16) refl
  where
    go : (b : Bool) → ltb k 16 ≡ b → (take n xs ≡ take k xs) × (n ≡ length (take k xs))
    go true h =
        let q : k < 16 = ltb-true k 16 h in
        let m : n ≡ k = omega (arith, e) in
        (ap (λ (j : ℕ). take j xs) m, m ∙ sym (length-take-le k xs (omega arith)))
    go false h =
        let q : 16 ≤ k = ltb-false k 16 h in
        let m : n ≡ 16 = omega (arith, e) in
        let a : take k xs ≡ xs = take_all k xs (omega arith) in
        (take_all n xs (omega arith) ∙ sym a, m ∙ sym l ∙ sym (ap (λ (j : List ℕ). length j) a))

pub wish_is : (w : Wish) (t n : ℕ) (a : List ℕ) → length w.args ≡ 16 → n ≡ min w.count 16 → a ≡ fill (take n w.args) → Some (record { kind = w.kind; args = a; count = n; attempt = 1; tries = w.tries; pause = w.pause; standing = Due t }) ≡ task_from t (wishes (Some w))
unfolding task_from
wish_is w t n a l e k =
    let q = few w.args w.count n l e in
    ap₂ (λ (b : List ℕ) (m : ℕ). Some (record { kind = w.kind; args = b; count = m; attempt = 1; tries = w.tries; pause = w.pause; standing = Due t })) (k ∙ ap fill q.0) q.1

pub no_wish : (t : ℕ) → None ≡ task_from t (wishes None)
unfolding task_from
no_wish t = refl

pub ran_is : (room : ℕ) (ws : List ℕ) (t : ℕ) (p : Place) (vs us : List ℕ) (m : Moved) (u : Option Task) → moves_w room ws t 1000 p vs ≡ as_out m us → u ≡ task_from t (wishes m.wish) → Ok (record { place = m.place; vars = us; task = u }) ≡ ran_on room ws t p vs
unfolding settled
ran_is room ws t p vs us m u e k = ap (λ (v : Option Task). Ok (record { place = m.place; vars = us; task = v })) k ∙ sym (ap (settled t) e)

pub ran_lost : (room : ℕ) (ws : List ℕ) (t : ℕ) (p : Place) (vs : List ℕ) → moves_w room ws t 1000 p vs ≡ Lost → damaged ≡ ran_on room ws t p vs
unfolding settled
ran_lost room ws t p vs e = sym (ap (settled t) e)
