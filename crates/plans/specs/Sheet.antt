-- Words written one after the other. Assumes nothing.
use Rattle.std.specs.Prelude.{◌≡◌, ℕ, suc, ◌<◌, List, [], ◌∷◌, length, Ok, Err, Result}
use Rattle.plans.specs.declared.sheet.Full.{Full}
use Rattle.plans.specs.declared.link.LinkError.{LinkError}
use Rattle.plans.specs.declared.link.LinkError.TheVariants.{NoRoom, Damaged}

-- these words were written, in this order
pub data Wrote {S : Type 0} (wrote : S → ℕ → S → Type 0) : List ℕ → S → S → Type 0 where
  nothing : {s : S} → Wrote wrote [] s s
  more : {s t u : S} {w : ℕ} {ws : List ℕ} → wrote s w t → Wrote wrote ws t u → Wrote wrote (w ∷ ws) s u

-- one word was written, and there is room for one less
abbrev pub Step : {S : Type 0} → (S → ℕ → S → Type 0) → (S → ℕ) → S → ℕ → S → Type 0
Step wrote room s w t = wrote s w t × (suc (room t) ≡ room s)

-- one word was written, or there is no room
abbrev pub Put : {S : Type 0} → (S → ℕ → S → Type 0) → (S → ℕ) → Result (Unit {0}) Full → S → ℕ → S → Type 0
Put wrote room (Ok x) s w t = Step wrote room s w t
Put wrote room (Err e) s w t = room s ≡ 0

-- these words were written, or there is too little room for them
abbrev pub Written : {S : Type 0} → (S → ℕ → S → Type 0) → (S → ℕ) → Result (Unit {0}) LinkError → S → List ℕ → S → Type 0
Written wrote room (Ok x) s ws t = Wrote (Step wrote room) ws s t
Written wrote room (Err NoRoom) s ws t = room s < length ws
Written wrote room (Err Damaged) s ws t = ⊥

-- the same, with where what was read ends
abbrev pub WrittenTo : {S : Type 0} → (S → ℕ → S → Type 0) → (S → ℕ) → Result ℕ LinkError → S → List ℕ → ℕ → S → Type 0
WrittenTo wrote room (Ok x) s ws end t = (x ≡ end) × Wrote (Step wrote room) ws s t
WrittenTo wrote room (Err NoRoom) s ws end t = room s < length ws
WrittenTo wrote room (Err Damaged) s ws end t = ⊥
