-- An engine that keeps an invariant makes sense, and stays within its lines.
-- Assumes nothing.
use mathlib.Core.Logic.{inl, inr}
use mathlib.Core.List.{List}
use Prim.Native.Nat.{ℕ}
use Rattle.device.specs.Lines.{Lines, Within, Engine, Event, Sense, MakesSense, nothing, answer, undone, was_done, dark, FromDark, stays, rises, fails_rising, FromLight, rests, does, fails_doing, fails_resting, InDark, new', from_rising, from_doing, from_resting, InLight, risen, done}
use Rattle.device.specs.Safe.{Kept}
use Rattle.device.proofs.Safe.{safe_partly, safe_worked, safe_within}

module _ {C R : Type 0} (N : ℕ) (e : Engine C R) (j : Sense C R) (Dark : j.State → Lines → Type 0) (Light : j.State → e.Mind → Lines → Type 0) (k : Kept N e j Dark Light) where
  mutual
    pub dark_sense : {m : Lines} {es : List (Event C R)} → FromDark e N m es → (s : j.State) → Dark s m → MakesSense j s es
    dark_sense stays s h = nothing
    dark_sense {m} (rises w f) s h = light_sense f s (safe_worked w (k.rising s m h))
    dark_sense {m} (fails_rising p l f) s h = dark (dark_sense f (j.after s) (safe_partly p (k.rising s m h) _ l))

    pub light_sense : {x : e.Mind} {m : Lines} {es : List (Event C R)} → FromLight e N x m es → (s : j.State) → Light s x m → MakesSense j s es
    light_sense rests s h = nothing
    light_sense {x} {m} (does c y w f) s h =
        let q = safe_worked w (k.doing c s x m h) in
        answer q.1 (light_sense f q.0 q.2)
    light_sense {x} {m} (fails_doing {es} c p l f) s h =
        elim (safe_partly p (k.doing c s x m h) _ l) [
          | inl d ↦ undone (dark_sense f (j.after s) d)
          | inr q ↦ was_done q.2 (dark_sense f (j.after q.0) q.3)
        ]
    light_sense {x} {m} (fails_resting l f) s h = dark (dark_sense f (j.after s) (k.resting s x m _ h l))

  mutual
    pub dark_held : {m : Lines} → InDark e N m → (s : j.State) × Dark s m
    dark_held new' = (j.start, k.starts)
    dark_held (from_rising {m} d p l) = let q = dark_held d in (j.after q.0, safe_partly p (k.rising q.0 m q.1) _ l)
    dark_held (from_doing {x} {m} c d p l) =
        let q = light_held d in
        elim (safe_partly p (k.doing c q.0 x m q.1) _ l) [
          | inl h ↦ (j.after q.0, h)
          | inr h ↦ (j.after h.0, h.3)
        ]
    dark_held (from_resting {x} {m} d l) = let q = light_held d in (j.after q.0, k.resting q.0 x m _ q.1 l)

    pub light_held : {x : e.Mind} {m : Lines} → InLight e N x m → (s : j.State) × Light s x m
    light_held (risen {m} d w) = let q = dark_held d in (q.0, safe_worked w (k.rising q.0 m q.1))
    light_held (done {x} {m} c y d w) = let q = light_held d in let h = safe_worked w (k.doing c q.0 x m q.1) in (h.0, h.2)

  pub dark_within : (m : Lines) → InDark e N m → Within N (e.rises N) m
  dark_within m d = let q = dark_held d in safe_within (k.rising q.0 m q.1)

  pub light_within : (x : e.Mind) (m : Lines) (c : C) → InLight e N x m → Within N (e.does c x) m
  light_within x m c d = let q = light_held d in safe_within (k.doing c q.0 x m q.1)
