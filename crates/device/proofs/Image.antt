-- What operations and power failures do to lines, by the image that is seen of them.
-- Assumes nothing.
use mathlib.Core.Path.{◌≡◌, refl, sym, ap, ◌∙◌}
use mathlib.Core.Logic.{◌⊎◌, inl, inr}
use mathlib.Core.Bool.{Bool, true, false, cond}
use mathlib.Core.List.{List, [], ◌∷◌, ◌++◌}
use Prim.Native.Nat.{ℕ, zero, suc}
use lib.Dec.{eqb}
use lib.ListN.{length}
use borrow.Author.Tests.{eqb-true, eq-eqb, both_ways}
use Rattle.device.specs.Lines.{Line, Lines, fresh_lines, applied, first_of, drop_of, seen, stored, pushed_back, fenced, Left}
use Rattle.device.specs.Images.{Image, upd, All, None, At, Back, Rules}

-- ---- lists of stores

abbrev pub Put : Type 0
Put = record { word : ℕ; value : ℕ }

abbrev pub wrote : (word value : ℕ) → Put
wrote k v = record { word = k; value = v }

pub applied_snoc : (xs : List Put) (f : ℕ → ℕ) (k v w : ℕ)
    → applied (xs ++ (wrote k v ∷ [])) f w ≡ cond (eqb w k) v (applied xs f w)
unfolding applied
applied_snoc [] f k v w = refl
applied_snoc (x ∷ xs) f k v w = applied_snoc xs (λ j. cond (eqb j x.word) x.value (f j)) k v w

pub applied_ext : (xs : List Put) (f g : ℕ → ℕ) → ((w : ℕ) → f w ≡ g w) → (w : ℕ) → applied xs f w ≡ applied xs g w
unfolding applied
applied_ext [] f g e w = e w
applied_ext (x ∷ xs) f g e w = applied_ext xs _ _ (λ j. ap (cond (eqb j x.word) x.value) (e j)) w

pub first_of_all : {A : Type 0} (xs : List A) → first_of (length xs) xs ≡ xs
unfolding first_of
first_of_all [] = refl
first_of_all (x ∷ xs) = ap (λ r. x ∷ r) (first_of_all xs)

pub drop_of_all : {A : Type 0} (xs : List A) → drop_of (length xs) xs ≡ []
unfolding drop_of
drop_of_all [] = refl
drop_of_all (x ∷ xs) = drop_of_all xs

pub first_of_nil : {A : Type 0} (n : ℕ) → ◌≡◌ {A = List A} (first_of n []) []
unfolding first_of
first_of_nil zero = refl
first_of_nil (suc n) = refl

pub drop_of_nil : {A : Type 0} (n : ℕ) → ◌≡◌ {A = List A} (drop_of n []) []
unfolding drop_of
drop_of_nil zero = refl
drop_of_nil (suc n) = refl

-- the part that reached the memory, then the rest: all
pub applied_parts : (n : ℕ) (xs : List Put) (f : ℕ → ℕ) (w : ℕ) → applied (drop_of n xs) (applied (first_of n xs) f) w ≡ applied xs f w
unfolding applied first_of drop_of
applied_parts zero xs f w = refl
applied_parts (suc n) [] f w = refl
applied_parts (suc n) (x ∷ xs) f w = applied_parts n xs (λ j. cond (eqb j x.word) x.value (f j)) w

-- of one store, none of it or all
pub first_of_one : {A : Type 0} (n : ℕ) (x : A) → (first_of n (x ∷ []) ≡ []) ⊎ (first_of n (x ∷ []) ≡ x ∷ [])
unfolding first_of
first_of_one zero x = inl refl
first_of_one (suc n) x = inr (ap (λ r. x ∷ r) (first_of_nil n))

-- ---- images

pub upd_line : (l k v : ℕ) (g : Image) (j w : ℕ) → eqb j l ≡ false → upd l k v g j w ≡ g j w
unfolding upd
upd_line l k v g j w e = ap (λ b. cond b (cond (eqb w k) v (g l w)) (g j w)) e

pub upd_same : (l k v : ℕ) (g : Image) → upd l k v g l k ≡ v
unfolding upd
upd_same l k v g = ap (λ b. cond b (cond (eqb k k) v (g l k)) (g l k)) (eq-eqb l l refl) ∙ ap (λ b. cond b v (g l k)) (eq-eqb k k refl)

pub upd_word : (l k v : ℕ) (g : Image) (j w : ℕ) → eqb w k ≡ false → upd l k v g j w ≡ g j w
unfolding upd
upd_word l k v g j w e = go (eqb j l) refl
  where
    go : (b : Bool) → eqb j l ≡ b → cond b (cond (eqb w k) v (g l w)) (g j w) ≡ g j w
    go true h = ap (λ b. cond b v (g l w)) e ∙ ap (λ x. g x w) (sym (eqb-true j l h))
    go false h = refl

module _ {g : Image} {C P : ℕ → Type 0} {m : Lines} (a : At g C P m) where
  -- what is clean lasts
  pub at_lasts : (l w : ℕ) → C l → (m l).lasts w ≡ g l w
  unfolding applied
  at_lasts l w c = ap (λ xs. applied xs (m l).lasts w) (sym (a.clean l c)) ∙ a.shows l w

  pub at_less : (C' P' : ℕ → Type 0) → ((j : ℕ) → C' j → C j) → ((j : ℕ) → P' j → P j) → At g C' P' m
  at_less C' P' c p = record { shows = a.shows; clean = λ l h. a.clean l (c l h); ready = λ l h. a.ready l (p l h) }

  -- what is clean is settled
  pub at_settled : At g C (λ j. P j ⊎ C j) m
  at_settled = record {
    shows = a.shows;
    clean = a.clean;
    ready = λ l h. elim h [
      | inl p ↦ a.ready l p
      | inr c ↦ ap (drop_of (m l).pushed) (a.clean l c) ∙ drop_of_nil (m l).pushed
    ];
  }

  pub at_store : (l k v : ℕ) (C' P' : ℕ → Type 0) → ((j : ℕ) → C' j → C j × (eqb j l ≡ false)) → ((j : ℕ) → P' j → P j × (eqb j l ≡ false))
      → At (upd l k v g) C' P' (stored l k v m)
  unfolding upd
  at_store l k v C' P' c p = record {
    shows = λ j w. elim (eqb j l) as (λ b. seen (λ i. cond b new (m i)) j w ≡ cond b (cond (eqb w k) v (g l w)) (g j w)) [
      | true ↦ applied_snoc (m l).since (m l).lasts k v w ∙ ap (cond (eqb w k) v) (a.shows l w)
      | false ↦ a.shows j w
    ];
    clean = λ j h. ap (λ b. (cond b new (m j)).since) (c j h).1 ∙ a.clean j (c j h).0;
    ready = λ j h. ap (λ b. drop_of (cond b new (m j)).pushed (cond b new (m j)).since) (p j h).1 ∙ a.ready j (p j h).0;
  }
    where
      new : Line
      new = record { lasts = (m l).lasts; since = (m l).since ++ (wrote k v ∷ []); pushed = (m l).pushed }

  pub at_push : (l : ℕ) (P' : ℕ → Type 0) → ((j : ℕ) → P' j → eqb j l ≡ false → P j) → At g C P' (pushed_back l m)
  at_push l P' p = record {
    shows = λ j w. go_shows j w (eqb j l) refl;
    clean = λ j h. go_clean j h (eqb j l) refl;
    ready = λ j h. go_ready j h (eqb j l) refl;
  }
    where
      new : Line
      new = record { lasts = (m l).lasts; since = (m l).since; pushed = length (m l).since }

      go_shows : (j w : ℕ) (b : Bool) → eqb j l ≡ b → applied (cond b new (m j)).since (cond b new (m j)).lasts w ≡ g j w
      go_shows j w true e = a.shows l w ∙ ap (λ x. g x w) (sym (eqb-true j l e))
      go_shows j w false e = a.shows j w

      go_clean : (j : ℕ) → C j → (b : Bool) → eqb j l ≡ b → (cond b new (m j)).since ≡ []
      go_clean j h true e = ap (λ x. (m x).since) (sym (eqb-true j l e)) ∙ a.clean j h
      go_clean j h false e = a.clean j h

      go_ready : (j : ℕ) → P' j → (b : Bool) → eqb j l ≡ b → drop_of (cond b new (m j)).pushed (cond b new (m j)).since ≡ []
      go_ready j h true e = drop_of_all (m l).since
      go_ready j h false e = a.ready j (p j h e)

  pub at_fence : (C' : ℕ → Type 0) → ((j : ℕ) → C' j → P j ⊎ C j) → At g C' None (fenced m)
  at_fence C' c = record {
    shows = λ l w. applied_parts (m l).pushed (m l).since (m l).lasts w ∙ a.shows l w;
    clean = λ l h. elim (c l h) [
      | inl p ↦ a.ready l p
      | inr h' ↦ ap (drop_of (m l).pushed) (a.clean l h') ∙ drop_of_nil (m l).pushed
    ];
    ready = λ l h. absurd h;
  }

-- ---- when the power fails

left_at : (m o : Lines) → Left m o → At (λ l w. (o l).lasts w) All None o
unfolding applied
left_at m o x = record { shows = λ l w. ap (λ xs. applied xs (o l).lasts w) (x.none l); clean = λ l h. x.none l; ready = λ l h. absurd h }

pub at_left : {g : Image} {C P : ℕ → Type 0} {m o : Lines} → At g C P m → Left m o → Back g C o
unfolding applied
at_left {g} {C} {P} {m} {o} a x = (
  λ l w. (o l).lasts w,
  left_at m o x,
  λ l w c.
      (x.line l).1 w
      ∙ ap (λ xs. applied (first_of (x.line l).0 xs) (m l).lasts w) (a.clean l c)
      ∙ ap (λ xs. applied xs (m l).lasts w) (first_of_nil (x.line l).0)
      ∙ at_lasts a l w c,
)

-- n is m, but that a word of a clean line was stored, and not more
pub record Lone (m : Lines) (l k v : ℕ) (n : Lines) : Type 0 where
  pub lasts : (j w : ℕ) → (n j).lasts w ≡ (m j).lasts w
  pub there : (n l).since ≡ (m l).since ++ (wrote k v ∷ [])
  pub else' : (j : ℕ) → eqb j l ≡ false → (n j).since ≡ (m j).since

pub lone_store : (m : Lines) (l k v : ℕ) → Lone m l k v (stored l k v m)
lone_store m l k v = record {
  lasts = λ j w. go j w (eqb j l) refl;
  there = ap (λ b. (cond b new (m l)).since) (eq-eqb l l refl);
  else' = λ j e. ap (λ b. (cond b new (m j)).since) e;
}
  where
    new : Line
    new = record { lasts = (m l).lasts; since = (m l).since ++ (wrote k v ∷ []); pushed = (m l).pushed }

    go : (j w : ℕ) (b : Bool) → eqb j l ≡ b → (cond b new (m j)).lasts w ≡ (m j).lasts w
    go j w true e = ap (λ x. (m x).lasts w) (sym (eqb-true j l e))
    go j w false e = refl

pub lone_push : {m n : Lines} {l k v : ℕ} (i : ℕ) → Lone m l k v n → Lone m l k v (pushed_back i n)
lone_push {m} {n} {l} {k} {v} i x = record {
  lasts = λ j w. lasts_same j w (eqb j i) refl ∙ x.lasts j w;
  there = since_same l (eqb l i) refl ∙ x.there;
  else' = λ j e. since_same j (eqb j i) refl ∙ x.else' j e;
}
  where
    new : Line
    new = record { lasts = (n i).lasts; since = (n i).since; pushed = length (n i).since }

    lasts_same : (j w : ℕ) (b : Bool) → eqb j i ≡ b → (cond b new (n j)).lasts w ≡ (n j).lasts w
    lasts_same j w true e = ap (λ y. (n y).lasts w) (sym (eqb-true j i e))
    lasts_same j w false e = refl

    since_same : (j : ℕ) (b : Bool) → eqb j i ≡ b → (cond b new (n j)).since ≡ (n j).since
    since_same j true e = ap (λ y. (n y).since) (sym (eqb-true j i e))
    since_same j false e = refl

-- a lone store is done or not
pub lone_left : {g : Image} {C P : ℕ → Type 0} {m n o : Lines} {l k v : ℕ} → At g C P m → C l → Lone m l k v n → Left n o
    → Back g C o ⊎ Back (upd l k v g) C o
unfolding applied upd
lone_left {g} {C} {P} {m} {n} {o} {l} {k} {v} a c x y =
    elim (first_of_one (y.line l).0 (wrote k v)) [
      | inl e ↦ inl (λ j w. (o j).lasts w, left_at n o y, λ j w h. old e j w h (eqb j l) refl)
      | inr e ↦ inr (λ j w. (o j).lasts w, left_at n o y, λ j w h. done e j w h (eqb j l) refl)
    ]
  where
    only : (n l).since ≡ wrote k v ∷ []
    only = x.there ∙ ap (λ xs. xs ++ (wrote k v ∷ [])) (a.clean l c)

    here : (w : ℕ) (xs : List Put) → first_of (y.line l).0 (wrote k v ∷ []) ≡ xs → (o l).lasts w ≡ applied xs (m l).lasts w
    here w xs e = (y.line l).1 w ∙ ap (λ ys. applied (first_of (y.line l).0 ys) (n l).lasts w) only ∙ ap (λ ys. applied ys (n l).lasts w) e
        ∙ applied_ext xs (n l).lasts (m l).lasts (x.lasts l) w

    away : (j w : ℕ) → C j → eqb j l ≡ false → (o j).lasts w ≡ g j w
    away j w h e = (y.line j).1 w
        ∙ ap (λ ys. applied (first_of (y.line j).0 ys) (n j).lasts w) (x.else' j e ∙ a.clean j h)
        ∙ ap (λ ys. applied ys (n j).lasts w) (first_of_nil (y.line j).0)
        ∙ x.lasts j w ∙ at_lasts a j w h

    old : first_of (y.line l).0 (wrote k v ∷ []) ≡ [] → (j w : ℕ) → C j → (b : Bool) → eqb j l ≡ b → (o j).lasts w ≡ g j w
    old e j w h true q = ap (λ i. (o i).lasts w) (eqb-true j l q) ∙ here w [] e ∙ at_lasts a l w c ∙ ap (λ i. g i w) (sym (eqb-true j l q))
    old e j w h false q = away j w h q

    done : first_of (y.line l).0 (wrote k v ∷ []) ≡ wrote k v ∷ []
        → (j w : ℕ) → C j → (b : Bool) → eqb j l ≡ b → (o j).lasts w ≡ cond b (cond (eqb w k) v (g l w)) (g j w)
    done e j w h true q = ap (λ i. (o i).lasts w) (eqb-true j l q) ∙ here w (wrote k v ∷ []) e ∙ ap (cond (eqb w k) v) (at_lasts a l w c)
    done e j w h false q = away j w h q

pub at_fresh : At (λ l w. 0) All None fresh_lines
unfolding applied
at_fresh = record { shows = λ l w. refl; clean = λ l h. refl; ready = λ l h. absurd h }

pub rules : (C P : ℕ → Type 0) → Rules C P
rules C P = record {
  storing = λ g m l k v a c p. at_store a l k v C P (λ j h. (h, c j h)) (λ j h. (h, p j h));
  pushing = λ g m l a. at_push a l (λ j. P j ⊎ (eqb j l ≡ true)) (λ j h e. elim h [ inl p ↦ p | inr q ↦ absurd (differ (eqb j l) q e) ]);
  fencing = λ g m a. at_fence a (λ j. P j ⊎ C j) (λ j h. h);
  failing = λ g m o a x. at_left a x;
}
  where
    differ : (b : Bool) → b ≡ true → b ≡ false → ⊥
    differ b p q = both_ways b q p
