-- Words written one after the other: joining, and how much room is left.
use Rattle.std.proofs.Common.{◌≡◌, ℕ, suc, ◌+◌, ◌<◌, ◌≤◌, List, [], ◌∷◌, ◌++◌, length, get_or, take, drop, sym, refl, ap, ◌∙◌, subst, append_assoc, append-nil, add-zero, add-one, arith, length-set, drop-cons}
use Rattle.std.proofs.lemmas.List.{drop_all, take_more_set}
use Rattle.plans.specs.Noted.{Noted}
use Rattle.plans.specs.Sheet.{Wrote, nothing, more, Step}

pub wrote_append : {S : Type 0} {wrote : S → ℕ → S → Type 0} {xs : List ℕ} {s t : S} → Wrote wrote xs s t → (ys : List ℕ) {u : S} → Wrote wrote ys t u → Wrote wrote (xs ++ ys) s u
wrote_append nothing ys k = k
wrote_append (more x h) ys k = more x (wrote_append h ys k)

pub wrote_room : {S : Type 0} {wrote : S → ℕ → S → Type 0} (room : S → ℕ) {ws : List ℕ} {s t : S} → Wrote (Step wrote room) ws s t → room t + length ws ≡ room s
wrote_room room nothing = add-zero _
wrote_room room (more {s} {t} {u} {w} {ws} x h) = let a : room u + length ws ≡ room t = wrote_room room h in let b : suc (room t) ≡ room s = x.1 in omega arith

-- a loop that writes words has come to i: what is left leads to the whole
abbrev pub Leads : {S : Type 0} → (S → ℕ → S → Type 0) → (ws : List ℕ) → ℕ → S → S → Type 0
Leads {S} wrote ws i s0 s = (u : S) → Wrote wrote (drop i ws) s u → Wrote wrote ws s0 u

pub leads_more : {S : Type 0} (wrote : S → ℕ → S → Type 0) (ws : List ℕ) (i : ℕ) (s0 s t : S) → i < length ws → Leads wrote ws i s0 s → wrote s (get_or ws i 0) t → Leads wrote ws (i + 1) s0 t
leads_more {S} wrote ws i s0 s t h k x u r =
    let r' : Wrote wrote (drop (suc i) ws) t u = subst (λ (j : ℕ). Wrote wrote (drop j ws) t u) (add-one i) r in
    k u (subst (λ (l : List ℕ). Wrote wrote l s u) (sym (drop-cons ws i 0 h)) (more x r'))

pub leads_all : {S : Type 0} (wrote : S → ℕ → S → Type 0) (ws : List ℕ) (i : ℕ) (s0 s : S) → length ws ≤ i → Leads wrote ws i s0 s → Wrote wrote ws s0 s
leads_all wrote ws i s0 s h k = k s (subst (λ (l : List ℕ). Wrote wrote l s s) (sym (drop_all i ws h)) nothing)

-- words written to plain memory stand there, behind those that stood there
pub noted_all : {S : Type 0} (wrote : S → ℕ → S → Type 0) (room : S → ℕ) (items : S → List ℕ) (len : S → ℕ) → ((s : S) (w : ℕ) (t : S) → wrote s w t → Noted (items s) (len s) w (items t) (len t)) → {ws : List ℕ} {s t : S} → Wrote (Step wrote room) ws s t →
    (len t ≡ len s + length ws) × (take (len t) (items t) ≡ take (len s) (items s) ++ ws) × (length (items t) ≡ length (items s))
noted_all wrote room items len f (nothing {s}) = (sym (add-zero (len s)), sym (append-nil (take (len s) (items s))), refl)
noted_all wrote room items len f (more {s} {t} {u} {w} {ws} x h) =
    let n = f s w t x.0 in
    let k = noted_all wrote room items len f h in
    let one : take (len t) (items t) ≡ take (len s) (items s) ++ (w ∷ []) = ap (λ (m : ℕ). take m (items t)) n.count ∙ (ap (take (len s + 1)) n.holds ∙ take_more_set (items s) (len s) w n.fits) in
    (k.0 ∙ (let c = n.count in omega arith), k.1 ∙ (ap (λ (l : List ℕ). l ++ ws) one ∙ append_assoc (take (len s) (items s)) (w ∷ []) ws), k.2 ∙ (ap length n.holds ∙ length-set (items s) (len s) w))

-- the same of memory that grows
pub appended_all : {S : Type 0} (room : S → ℕ) (items : S → List ℕ) {ws : List ℕ} {s t : S} → Wrote (Step (λ s w t. items t ≡ items s ++ (w ∷ [])) room) ws s t → items t ≡ items s ++ ws
appended_all room items (nothing {s}) = sym (append-nil (items s))
appended_all room items (more {s} {t} {u} {w} {ws} x h) = appended_all room items h ∙ (ap (λ (l : List ℕ). l ++ ws) x.0 ∙ append_assoc (items s) (w ∷ []) ws)
