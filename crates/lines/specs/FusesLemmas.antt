-- A memory under a fuse gives what was stored last where the memory within does.
-- Assumes nothing.
use Rattle.std.specs.Prelude.{is_none, ◌≡◌, Bool, true, false, ◌||◌, ◌⊎◌, refl}
use Rattle.std.proofs.Common.{sym, ap, subst, inl, inr}
use Rattle.std.proofs.lemmas.Bool.{both_ways}
use Rattle.device.specs.Lines.{Lines}
use Rattle.device.specs.Does.{Op}
use Rattle.device.specs.Ties.{Coheres}
use Rattle.lines.specs.declared.fuse.Fuse.{Fuse}
use Rattle.lines.specs.Fuses.{is_cut, FuseStep, goes, cuts, fuse_stopped, fuse_stands}

neither : (a b : Bool) → (a || b) ≡ false → (a ≡ false) × (b ≡ false)
neither true b e = absurd (both_ways true e refl)
neither false b e = (refl, e)

one_of : (a b : Bool) → (a || b) ≡ true → (a ≡ true) ⊎ (b ≡ true)
one_of true b e = inl refl
one_of false b e = inr e

or_left : (a b : Bool) → a ≡ true → (a || b) ≡ true
or_left a b e = ap (λ c. c || b) e

or_right : (a b : Bool) → b ≡ true → (a || b) ≡ true
or_right true b e = refl
or_right false b e = e

module _ {D : Type 0} {step : D → Op → D → Type 0} {stopped : D → Bool} {stands : D → Lines → Type 0} (c : Coheres step stopped stands) where
  runs : {s t : Fuse D} {o : Op} → FuseStep step s o t → fuse_stopped stopped t ≡ false → step s.memory o t.memory × (stopped t.memory ≡ false)
  runs {s} {t} (goes p x) e = (x, (neither (is_cut t) (stopped t.memory) e).1)
  runs {s} {t} (cuts q same n) e = absurd (both_ways (is_cut t) (neither (is_cut t) (stopped t.memory) e).0 (ap is_none q))

  halts : (s t : Fuse D) (m : Lines) (o : Op) → FuseStep step s o t → fuse_stopped stopped t ≡ true → stands s.memory m → stands t.memory m
  halts s t m o (goes p x) e h = elim (one_of (is_cut t) (stopped t.memory) e) [
    | inl z ↦ absurd (both_ways (is_cut t) (ap is_none p.is) z)
    | inr z ↦ (c s.memory o t.memory x).stops z m h
  ]
  halts s t m o (cuts q same n) e h = subst (λ d. stands d m) (sym same) h

  stays : (s t : Fuse D) (o : Op) → FuseStep step s o t → fuse_stopped stopped s ≡ true → fuse_stopped stopped t ≡ true
  stays s t o (goes p x) e = elim (one_of (is_cut s) (stopped s.memory) e) [
    | inl z ↦ absurd (both_ways (is_cut s) (ap is_none p.was) z)
    | inr z ↦ or_right (is_cut t) (stopped t.memory) ((c s.memory o t.memory x).still z)
  ]
  stays s t o (cuts q same n) e = or_left (is_cut t) (stopped t.memory) (ap is_none q)

  pub fuse_coheres : Coheres (FuseStep step) (fuse_stopped stopped) (fuse_stands stands)
  fuse_coheres s o t x = record {
    goes = λ e m h. let r = runs x e in (c s.memory o t.memory r.0).goes r.1 m h;
    stops = λ e m h. halts s t m o x e h;
    still = λ e. stays s t o x e;
  }
