-- The operations of the simulated memory are the given ones, and its failure is a power failure.
-- Assumes nothing.
use Rattle.std.proofs.Common.{◌≡◌, ℕ, ◌+◌, ◌*◌, ◌/◌, ◌%◌, ◌<◌, ◌≤◌, Bool, true, false, cond, eqb, ltb, ◌⊎◌, List, [], ◌∷◌, ◌++◌, length, get_or, set, replicate, vec_items, vec_len, Vec, Global, map, sym, refl, ap, ◌∙◌, subst, inl, inr, arith, length-append, length-set, get_or-set_other, get_or-set_same, ltb-false, ltb-true, eqb-true}
use Rattle.std.proofs.lemmas.List.{length-map}
use lib.ListN.{length-replicate, get_or-replicate, get_or-eq_default}
use borrow.Author.Tests.{eqb-false, both_ways}
use Rattle.device.specs.Lines.{Line, Lines, fresh_lines, applied, first_of, drop_of, seen, stored, pushed_back, fenced}
use Rattle.device.specs.Does.{Loaded, Stored, Pushed, Fenced}
use Rattle.device.proofs.Image.{wrote, applied_snoc, applied_parts}
use Rattle.lines.specs.declared.journal.Store.{Store}
use Rattle.lines.specs.declared.cached.Cached.{Cached}
use Rattle.lines.specs.Walks.{lasts_in, sees_in, counts_in, pushed_in, of_line, Settling, settling, settle, lost_sees, lost_counts}
use Rattle.lines.specs.Caches.{Held, held_in, lines_in, Sound, Shows, Stands, CachedStep, Fails}
use Rattle.lines.proofs.Parts.{map-replicate}
use Rattle.lines.proofs.Settles.{applied_at, set_cond, place_eqb, own_snoc, other_snoc, Sized, sized_settle, inside_more, inside_settle, Settled, settled, lost_sees_lem, lost_length, lost_counts_lem, lost_counts_length}

-- ---- from what is held to the memory

abbrev Tied : ℕ → Held → Lines → Type 0
Tied n h m = Sound n h × Shows n h m

tied_in : (s : Cached) (m : Lines) → Stands s m → Tied (lines_in s) (held_in s) m
tied_in s m x = (x.sound, x.shows)

stands_by : (t : Cached) (n : ℕ) (h : Held) (m : Lines) → lines_in t ≡ n → held_in t ≡ h → Tied n h m → Stands t m
stands_by t n h m size e x =
    let y : Tied (lines_in t) (held_in t) m = subst (λ k. Tied k (held_in t) m) (sym size) (subst (λ g. Tied n g m) (sym e) x) in
    record { sound = y.0; shows = y.1 }

-- lists with one part of as many elements are of one length
pub same_len : {X : Type 0} (f : X → ℕ) (v w : Vec X Global) → length (map f v.items) ≡ length (map f w.items) → vec_len v ≡ vec_len w
same_len f v w e = omega (arith, v.ok.0, w.ok.0, e, length-map v.items f, length-map w.items f)

lines_same : (s t : Cached) → length (held_in t).sees ≡ length (held_in s).sees → lines_in t ≡ lines_in s
lines_same s t e =
    ap (λ k. k / 8) (same_len (λ w. w.sees) t.words s.words e)

-- ---- loads

pub load_gives : (n : ℕ) (h : Held) (m : Lines) (l k : ℕ) → Tied n h m → l < n → k < 8 → get_or h.sees (l * 8 + k) 0 ≡ seen m l k
load_gives n h m l k (s, w) hl hk =
    s.sees l k hl hk ∙ sym (ap (λ xs. applied xs (m l).lasts k) (w.since l hl) ∙ applied_at (of_line l h.journal) _ _ k (w.lasts l k hl hk))

pub load_step : (s t : Cached) (l k v : ℕ) → held_in t ≡ held_in s → t.stopped ≡ s.stopped → l < lines_in s → k < 8 → v ≡ get_or (held_in s).sees (l * 8 + k) 0
    → CachedStep s (Loaded l k v) t
load_step s t l k v e same hl hk value =
    let size : lines_in t ≡ lines_in s = lines_same s t (ap (λ h. length h.sees) e) in
    record {
      size = size;
      follows = record {
        goes = λ z m x. (value ∙ load_gives (lines_in s) (held_in s) m l k (tied_in s m x) hl hk, stands_by t (lines_in s) (held_in s) m size e (tied_in s m x));
        stops = λ z m x. stands_by t (lines_in s) (held_in s) m size e (tied_in s m x);
        still = λ z. same ∙ z;
      };
    }

-- ---- stores

abbrev storing : Store → Held → Held
storing x h = record {
  lasts = h.lasts;
  sees = set h.sees x.place x.value;
  journal = h.journal ++ (x ∷ []);
  counts = set h.counts (x.place / 8) (get_or h.counts (x.place / 8) 0 + 1);
  pushed = h.pushed;
}

module _ (n : ℕ) (h : Held) (m : Lines) (x : Store) (l : ℕ) (here : x.place / 8 ≡ l) (inside : x.place < 8 * n) (s : Sound n h) (w : Shows n h m) where
  store_sees : (j k : ℕ) → j < n → k < 8 → (b : Bool) → eqb j l ≡ b
      → get_or (set h.sees x.place x.value) (j * 8 + k) 0 ≡ applied (of_line j (h.journal ++ (x ∷ []))) (λ i. get_or h.lasts (j * 8 + i) 0) k
  store_sees j k hj hk true e =
      let q : x.place / 8 ≡ j = here ∙ sym (eqb-true j l e) in
      set_cond h.sees x.place (j * 8 + k) x.value (omega (arith, s.all_seen))
      ∙ ap (λ b. cond b x.value (get_or h.sees (j * 8 + k) 0)) (place_eqb x.place j k q)
      ∙ ap (cond (eqb k (x.place % 8)) x.value) (s.sees j k hj hk)
      ∙ sym (ap (λ xs. applied xs (λ i. get_or h.lasts (j * 8 + i) 0) k) (own_snoc j h.journal x q) ∙ applied_snoc (of_line j h.journal) (λ i. get_or h.lasts (j * 8 + i) 0) (x.place % 8) x.value k)
  store_sees j k hj hk false e =
      let ne : x.place / 8 ≡ j → ⊥ = λ q. eqb-false j l e (sym q ∙ here) in
      get_or-set_other h.sees x.place (j * 8 + k) x.value 0 (λ q. ne (omega arith))
      ∙ s.sees j k hj hk
      ∙ ap (λ xs. applied xs (λ i. get_or h.lasts (j * 8 + i) 0) k) (sym (other_snoc j h.journal x ne))

  store_counts : (j : ℕ) → j < n → (b : Bool) → eqb j l ≡ b
      → get_or (set h.counts (x.place / 8) (get_or h.counts (x.place / 8) 0 + 1)) j 0 ≡ length (of_line j (h.journal ++ (x ∷ [])))
  store_counts j hj true e =
      let q : x.place / 8 ≡ j = here ∙ sym (eqb-true j l e) in
      subst (λ i. get_or (set h.counts i (get_or h.counts i 0 + 1)) j 0 ≡ length (of_line j (h.journal ++ (x ∷ [])))) (sym q)
      (get_or-set_same h.counts j (get_or h.counts j 0 + 1) 0 (omega (arith, s.all_counts)) ∙ ap (λ c. c + 1) (s.counts j hj)
      ∙ sym (ap length (own_snoc j h.journal x q) ∙ length-append (of_line j h.journal) (wrote (x.place % 8) x.value ∷ [])))
  store_counts j hj false e =
      let ne : x.place / 8 ≡ j → ⊥ = λ q. eqb-false j l e (sym q ∙ here) in
      get_or-set_other h.counts (x.place / 8) j (get_or h.counts (x.place / 8) 0 + 1) 0 (λ q. ne (sym q)) ∙ s.counts j hj ∙ ap length (sym (other_snoc j h.journal x ne))

  store_pushed : (j : ℕ) (b : Bool) → eqb j l ≡ b → get_or h.pushed j 0 ≤ get_or (set h.counts (x.place / 8) (get_or h.counts (x.place / 8) 0 + 1)) j 0
  store_pushed j true e =
      let q : x.place / 8 ≡ j = here ∙ sym (eqb-true j l e) in
      subst (λ i. get_or h.pushed j 0 ≤ get_or (set h.counts i (get_or h.counts i 0 + 1)) j 0) (sym q)
      (subst (λ c. get_or h.pushed j 0 ≤ c) (sym (get_or-set_same h.counts j (get_or h.counts j 0 + 1) 0 (omega (arith, s.all_counts)))) (omega (arith, s.pushed j)))
  store_pushed j false e =
      subst (λ c. get_or h.pushed j 0 ≤ c) (sym (get_or-set_other h.counts (x.place / 8) j (get_or h.counts (x.place / 8) 0 + 1) 0 (λ q. eqb-false j l e (q ∙ here)))) (s.pushed j)

  new : Line
  new = record { lasts = (m l).lasts; since = (m l).since ++ (wrote (x.place % 8) x.value ∷ []); pushed = (m l).pushed }

  abbrev after : Bool → ℕ → Line
  after b j = cond b new (m j)

  store_shows_lasts : (j k : ℕ) → j < n → k < 8 → (b : Bool) → eqb j l ≡ b → (after b j).lasts k ≡ get_or h.lasts (j * 8 + k) 0
  unfolding new
  store_shows_lasts j k hj hk true e = ap (λ i. (m i).lasts k) (sym (eqb-true j l e)) ∙ w.lasts j k hj hk
  store_shows_lasts j k hj hk false e = w.lasts j k hj hk

  store_shows_since : (j : ℕ) → j < n → (b : Bool) → eqb j l ≡ b → (after b j).since ≡ of_line j (h.journal ++ (x ∷ []))
  unfolding new
  store_shows_since j hj true e =
      let q : x.place / 8 ≡ j = here ∙ sym (eqb-true j l e) in
      ap (λ i. (m i).since ++ (wrote (x.place % 8) x.value ∷ [])) (sym (eqb-true j l e)) ∙ ap (λ xs. xs ++ (wrote (x.place % 8) x.value ∷ [])) (w.since j hj) ∙ sym (own_snoc j h.journal x q)
  store_shows_since j hj false e = w.since j hj ∙ sym (other_snoc j h.journal x (λ q. eqb-false j l e (sym q ∙ here)))

  store_shows_pushed : (j : ℕ) → j < n → (b : Bool) → eqb j l ≡ b → (after b j).pushed ≡ get_or h.pushed j 0
  unfolding new
  store_shows_pushed j hj true e = ap (λ i. (m i).pushed) (sym (eqb-true j l e)) ∙ w.pushed j hj
  store_shows_pushed j hj false e = w.pushed j hj

  store_tied : Tied n (storing x h) (stored l (x.place % 8) x.value m)
  unfolding new
  store_tied = (
    record {
      all_last = s.all_last;
      all_seen = length-set h.sees x.place x.value ∙ s.all_seen;
      all_counts = length-set h.counts (x.place / 8) (get_or h.counts (x.place / 8) 0 + 1) ∙ s.all_counts;
      all_pushed = s.all_pushed;
      inside = inside_more n h.journal x s.inside inside;
      sees = λ j k hj hk. store_sees j k hj hk (eqb j l) refl;
      counts = λ j hj. store_counts j hj (eqb j l) refl;
      pushed = λ j. store_pushed j (eqb j l) refl;
    },
    record {
      lasts = λ j k hj hk. store_shows_lasts j k hj hk (eqb j l) refl;
      since = λ j hj. store_shows_since j hj (eqb j l) refl;
      pushed = λ j hj. store_shows_pushed j hj (eqb j l) refl;
    },
  )

pub store_step : (s t : Cached) (l k v : ℕ) (x : Store) → x.place ≡ l * 8 + k → x.value ≡ v → l < lines_in s → k < 8
    → (held_in t).lasts ≡ (held_in s).lasts → (held_in t).sees ≡ set (held_in s).sees x.place v → vec_items t.journal ≡ vec_items s.journal ++ (x ∷ [])
    → (held_in t).counts ≡ set (held_in s).counts l (get_or (held_in s).counts l 0 + 1) → (held_in t).pushed ≡ (held_in s).pushed
    → s.stopped ≡ false → t.stopped ≡ false → CachedStep s (Stored l k v) t
store_step s t l k v x place value hl hk ls ss js cs ps run run' =
    let size : lines_in t ≡ lines_in s = lines_same s t (ap length ss ∙ length-set (held_in s).sees x.place v) in
    let line : x.place / 8 ≡ l = omega arith in
    let word : x.place % 8 ≡ k = omega arith in
    let cs' : (held_in t).counts ≡ set (held_in s).counts (x.place / 8) (get_or (held_in s).counts (x.place / 8) 0 + 1) =
    cs ∙ ap (λ i. set (held_in s).counts i (get_or (held_in s).counts i 0 + 1)) (sym line) in
    let ss' : (held_in t).sees ≡ set (held_in s).sees x.place x.value = ss ∙ ap (set (held_in s).sees x.place) (sym value) in
    let e : held_in t ≡ storing x (held_in s) = λ i. record { lasts = ls i; sees = ss' i; journal = js i; counts = cs' i; pushed = ps i } in
    record {
      size = size;
      follows = record {
        goes = λ z m y. (
          tt,
          stands_by t (lines_in s) (storing x (held_in s)) (stored l k v m) size e
              (subst (λ r. Tied (lines_in s) (storing x (held_in s)) (stored l k r m)) value
              (subst (λ r. Tied (lines_in s) (storing x (held_in s)) (stored l r x.value m)) word
              (store_tied (lines_in s) (held_in s) m x l line (omega (arith, y.sound.all_seen)) y.sound y.shows))),
        );
        stops = λ z m y. absurd (both_ways t.stopped run' z);
        still = λ z. absurd (both_ways s.stopped run z);
      };
    }

-- ---- pushes

abbrev pushing : ℕ → Held → Held
pushing l h = record { lasts = h.lasts; sees = h.sees; journal = h.journal; counts = h.counts; pushed = set h.pushed l (get_or h.counts l 0) }

module _ (n : ℕ) (h : Held) (m : Lines) (l : ℕ) (hl : l < n) (s : Sound n h) (w : Shows n h m) where
  push_value : get_or (set h.pushed l (get_or h.counts l 0)) l 0 ≡ get_or h.counts l 0
  push_value = get_or-set_same h.pushed l (get_or h.counts l 0) 0 (omega (arith, s.all_pushed))

  push_low : (j : ℕ) (b : Bool) → eqb j l ≡ b → get_or (set h.pushed l (get_or h.counts l 0)) j 0 ≤ get_or h.counts j 0
  push_low j true e = subst (λ i. get_or (set h.pushed l (get_or h.counts l 0)) i 0 ≤ get_or h.counts i 0) (sym (eqb-true j l e)) (omega (arith, push_value))
  push_low j false e = subst (λ c. c ≤ get_or h.counts j 0) (sym (get_or-set_other h.pushed l j (get_or h.counts l 0) 0 (eqb-false j l e))) (s.pushed j)

  told : Line
  told = record { lasts = (m l).lasts; since = (m l).since; pushed = length (m l).since }

  push_lasts : (j k : ℕ) → j < n → k < 8 → (b : Bool) → eqb j l ≡ b → (cond b told (m j)).lasts k ≡ get_or h.lasts (j * 8 + k) 0
  unfolding told
  push_lasts j k hj hk true e = ap (λ i. (m i).lasts k) (sym (eqb-true j l e)) ∙ w.lasts j k hj hk
  push_lasts j k hj hk false e = w.lasts j k hj hk

  push_since : (j : ℕ) → j < n → (b : Bool) → eqb j l ≡ b → (cond b told (m j)).since ≡ of_line j h.journal
  unfolding told
  push_since j hj true e = ap (λ i. (m i).since) (sym (eqb-true j l e)) ∙ w.since j hj
  push_since j hj false e = w.since j hj

  push_pushed : (j : ℕ) → j < n → (b : Bool) → eqb j l ≡ b → (cond b told (m j)).pushed ≡ get_or (set h.pushed l (get_or h.counts l 0)) j 0
  unfolding told
  push_pushed j hj true e =
      ap length (w.since l hl) ∙ sym (s.counts l hl) ∙ sym push_value ∙ ap (λ i. get_or (set h.pushed l (get_or h.counts l 0)) i 0) (sym (eqb-true j l e))
  push_pushed j hj false e = w.pushed j hj ∙ sym (get_or-set_other h.pushed l j (get_or h.counts l 0) 0 (eqb-false j l e))

  push_tied : Tied n (pushing l h) (pushed_back l m)
  unfolding told
  push_tied = (
    record {
      all_last = s.all_last;
      all_seen = s.all_seen;
      all_counts = s.all_counts;
      all_pushed = length-set h.pushed l (get_or h.counts l 0) ∙ s.all_pushed;
      inside = s.inside;
      sees = s.sees;
      counts = s.counts;
      pushed = λ j. push_low j (eqb j l) refl;
    },
    record {
      lasts = λ j k hj hk. push_lasts j k hj hk (eqb j l) refl;
      since = λ j hj. push_since j hj (eqb j l) refl;
      pushed = λ j hj. push_pushed j hj (eqb j l) refl;
    },
  )

pub push_step : (s t : Cached) (l : ℕ) → l < lines_in s
    → (held_in t).lasts ≡ (held_in s).lasts → (held_in t).sees ≡ (held_in s).sees → vec_items t.journal ≡ vec_items s.journal
    → (held_in t).counts ≡ (held_in s).counts → (held_in t).pushed ≡ set (held_in s).pushed l (get_or (held_in s).counts l 0)
    → s.stopped ≡ false → t.stopped ≡ false → CachedStep s (Pushed l) t
push_step s t l hl ls ss js cs ps run run' =
    let size : lines_in t ≡ lines_in s = lines_same s t (ap length ss) in
    let e : held_in t ≡ pushing l (held_in s) = λ i. record { lasts = ls i; sees = ss i; journal = js i; counts = cs i; pushed = ps i } in
    record {
      size = size;
      follows = record {
        goes = λ z m y. (tt, stands_by t (lines_in s) (pushing l (held_in s)) (pushed_back l m) size e (push_tied (lines_in s) (held_in s) m l hl y.sound y.shows));
        stops = λ z m y. absurd (both_ways t.stopped run' z);
        still = λ z. absurd (both_ways s.stopped run z);
      };
    }

-- ---- fences

-- what is held after a walk along the journal
abbrev fencing : Held → Held
fencing h =
    let f = settle h.journal (settling h.lasts h.counts h.pushed []) in
    record { lasts = f.lasts; sees = h.sees; journal = f.kept; counts = f.counts; pushed = f.pushed }

module _ (n : ℕ) (h : Held) (s : Sound n h) where
  start : Settling
  start = settling h.lasts h.counts h.pushed []

  sized : Sized n (settling h.lasts h.counts h.pushed [])
  sized = record { lasts = s.all_last; counts = s.all_counts; pushed = s.all_pushed }

  line_settled : (l w : ℕ) → l < n → w < 8 → Settled l w h.journal (settling h.lasts h.counts h.pushed []) (settle h.journal (settling h.lasts h.counts h.pushed []))
  unfolding of_line
  line_settled l w hl hw = settled n l w hl hw h.journal (settling h.lasts h.counts h.pushed []) s.inside sized (s.counts l hl ∙ omega arith)

  walked : Sized n (settle h.journal (settling h.lasts h.counts h.pushed []))
  walked = sized_settle n h.journal (settling h.lasts h.counts h.pushed []) sized

  kept_is : (l : ℕ) → l < n → of_line l (fencing h).journal ≡ drop_of (get_or h.pushed l 0) (of_line l h.journal)
  unfolding of_line
  kept_is l hl = (line_settled l 0 hl (omega arith)).kept

  none_pushed : (l : ℕ) → get_or (fencing h).pushed l 0 ≡ 0
  none_pushed l = go (ltb l n) refl
    where
      go : (b : Bool) → ltb l n ≡ b → get_or (fencing h).pushed l 0 ≡ 0
      go true e =
          let hl : l < n = ltb-true l n e in
          let p = (line_settled l 0 hl (omega arith)).pushed in
          p ∙ omega (arith, s.pushed l, s.counts l hl)
      go false e = get_or-eq_default (fencing h).pushed 0 (omega (arith, ltb-false l n e, walked.pushed))

  fence_sound : Sound n (fencing h)
  unfolding of_line
  fence_sound = record {
    all_last = walked.lasts;
    all_seen = s.all_seen;
    all_counts = walked.counts;
    all_pushed = walked.pushed;
    inside = inside_settle n h.journal (settling h.lasts h.counts h.pushed []) s.inside tt;
    sees = λ l w hl hw.
        s.sees l w hl hw
        ∙ sym (applied_parts (get_or h.pushed l 0) (of_line l h.journal) (λ k. get_or h.lasts (l * 8 + k) 0) w)
        ∙ applied_at (drop_of (get_or h.pushed l 0) (of_line l h.journal)) _ (λ k. get_or (fencing h).lasts (l * 8 + k) 0) w (sym (line_settled l w hl hw).lasts)
        ∙ ap (λ xs. applied xs (λ k. get_or (fencing h).lasts (l * 8 + k) 0) w) (sym (kept_is l hl));
    counts = λ l hl. (line_settled l 0 hl (omega arith)).counts;
    pushed = λ l. subst (λ k. k ≤ get_or (fencing h).counts l 0) (sym (none_pushed l)) (omega arith);
  }

  -- what lasts then, by the lines that it stood for
  fence_lasts : (m : Lines) → Shows n h m → (l w : ℕ) → l < n → w < 8
      → applied (first_of (m l).pushed (m l).since) (m l).lasts w ≡ get_or (fencing h).lasts (l * 8 + w) 0
  fence_lasts m x l w hl hw =
      (λ i. applied (first_of (x.pushed l hl i) (x.since l hl i)) (m l).lasts w)
      ∙ applied_at (first_of (get_or h.pushed l 0) (of_line l h.journal)) _ (λ k. get_or h.lasts (l * 8 + k) 0) w (x.lasts l w hl hw)
      ∙ sym (line_settled l w hl hw).lasts

  fence_tied : (m : Lines) → Shows n h m → Tied n (fencing h) (fenced m)
  fence_tied m x = (
    fence_sound,
    record {
      lasts = fence_lasts m x;
      since = λ l hl. (λ i. drop_of (x.pushed l hl i) (x.since l hl i)) ∙ sym (kept_is l hl);
      pushed = λ l hl. sym (none_pushed l);
    },
  )

pub fence_step : (s t : Cached)
    → settling (held_in t).lasts (held_in t).counts (held_in t).pushed (vec_items t.journal)
    ≡ settle (vec_items s.journal) (settling (held_in s).lasts (held_in s).counts (held_in s).pushed [])
    → (held_in t).sees ≡ (held_in s).sees → s.stopped ≡ false → t.stopped ≡ false → CachedStep s Fenced t
fence_step s t walk ss run run' =
    let size : lines_in t ≡ lines_in s = lines_same s t (ap length ss) in
    let e : held_in t ≡ fencing (held_in s) = λ i. record { lasts = (walk i).lasts; sees = ss i; journal = (walk i).kept; counts = (walk i).counts; pushed = (walk i).pushed } in
    record {
      size = size;
      follows = record {
        goes = λ z m y. (tt, stands_by t (lines_in s) (fencing (held_in s)) (fenced m) size e (fence_tied (lines_in s) (held_in s) y.sound m y.shows));
        stops = λ z m y. absurd (both_ways t.stopped run' z);
        still = λ z. absurd (both_ways s.stopped run z);
      };
    }

-- ---- power failures

abbrev chosen : List ℕ → Held → Held
chosen ps h = record { lasts = h.lasts; sees = h.sees; journal = h.journal; counts = h.counts; pushed = ps }

choose_sound : (n : ℕ) (h : Held) (ps : List ℕ) → Sound n h → length ps ≡ length h.pushed → ((l : ℕ) → get_or ps l 0 ≤ get_or h.counts l 0) → Sound n (chosen ps h)
choose_sound n h ps s len low = record {
  all_last = s.all_last;
  all_seen = s.all_seen;
  all_counts = s.all_counts;
  all_pushed = len ∙ s.all_pushed;
  inside = s.inside;
  sees = s.sees;
  counts = s.counts;
  pushed = low;
}

abbrev losing : Held → Held
losing h = record { lasts = h.lasts; sees = lost_sees h.journal h.lasts h.sees; journal = []; counts = lost_counts h.journal h.counts; pushed = h.pushed }

lose_sound : (n : ℕ) (h : Held) → Sound n h → ((l : ℕ) → get_or h.pushed l 0 ≡ 0) → Sound n (losing h)
unfolding of_line applied
lose_sound n h s none = record {
  all_last = s.all_last;
  all_seen = lost_length h.journal h.lasts h.sees ∙ s.all_seen;
  all_counts = lost_counts_length h.journal h.counts ∙ s.all_counts;
  all_pushed = s.all_pushed;
  inside = tt;
  sees = λ l w hl hw. lost_sees_lem n l w hl hw h.journal h.lasts h.sees s.inside s.all_seen (s.sees l w hl hw);
  counts = λ l hl. lost_counts_lem n l hl h.journal h.counts s.all_counts (some l hl);
  pushed = λ l. subst (λ k. k ≤ get_or (lost_counts h.journal h.counts) l 0) (sym (none l)) (omega arith);
}
  where
    some : (l : ℕ) → l < n → (get_or h.counts l 0 ≡ 0) ⊎ (0 < length (of_line l h.journal))
    some l hl = go (ltb 0 (length (of_line l h.journal))) refl
      where
        go : (b : Bool) → ltb 0 (length (of_line l h.journal)) ≡ b → (get_or h.counts l 0 ≡ 0) ⊎ (0 < length (of_line l h.journal))
        go true e = inr (ltb-true 0 _ e)
        go false e = inl (s.counts l hl ∙ omega (arith, ltb-false 0 (length (of_line l h.journal)) e))

-- the lines after the failure
back : (ps : List ℕ) → Lines → Lines
back ps m l = record { lasts = applied (first_of (get_or ps l 0) (m l).since) (m l).lasts; since = []; pushed = 0 }

-- the same lines, with other stores pushed
marked : (ps : List ℕ) → Lines → Lines
marked ps m l = record { lasts = (m l).lasts; since = (m l).since; pushed = get_or ps l 0 }

fail_held : (n : ℕ) (h : Held) (ps : List ℕ) (m : Lines) → Tied n h m → length ps ≡ length h.pushed → ((l : ℕ) → get_or ps l 0 ≤ get_or h.counts l 0)
    → Tied n (losing (fencing (chosen ps h))) (back ps m)
unfolding back marked of_line
fail_held n h ps m (s, w) len low =
    let s1 : Sound n (chosen ps h) = choose_sound n h ps s len low in
    let shown1 : Shows n (chosen ps h) (marked ps m) = record { lasts = w.lasts; since = w.since; pushed = λ l hl. refl } in (
      lose_sound n (fencing (chosen ps h)) (fence_sound n (chosen ps h) s1) (none_pushed n (chosen ps h) s1),
      record {
        lasts = λ l k hl hk. fence_lasts n (chosen ps h) s1 (marked ps m) shown1 l k hl hk;
        since = λ l hl. refl;
        pushed = λ l hl. sym (none_pushed n (chosen ps h) s1 l);
      },
    )

pub fail_fails : (s t : Cached) (ps ls cs qs : List ℕ) (js : List Store)
    → length ps ≡ length (held_in s).pushed
    → (((l : ℕ) → get_or (held_in s).pushed l 0 ≤ get_or (held_in s).counts l 0) → (l : ℕ) → get_or ps l 0 ≤ get_or (held_in s).counts l 0)
    → settling ls cs qs js ≡ settle (vec_items s.journal) (settling (held_in s).lasts (held_in s).counts ps [])
    → (held_in t).lasts ≡ ls → (held_in t).sees ≡ lost_sees js ls (held_in s).sees → vec_items t.journal ≡ [] → (held_in t).counts ≡ lost_counts js cs → (held_in t).pushed ≡ qs
    → Fails s t × (lines_in t ≡ lines_in s)
unfolding back
fail_fails s t ps ls cs qs js len low walk tl ts tj tc tp =
    let size : lines_in t ≡ lines_in s = lines_same s t (ap length ts ∙ lost_length js ls (held_in s).sees) in
    let f : Settling = settle (vec_items s.journal) (settling (held_in s).lasts (held_in s).counts ps []) in
    let tl' : (held_in t).lasts ≡ f.lasts = tl ∙ ap (λ z. z.lasts) walk in
    let ts' : (held_in t).sees ≡ lost_sees f.kept f.lasts (held_in s).sees = ts ∙ ap (λ z. lost_sees z.kept z.lasts (held_in s).sees) walk in
    let tc' : (held_in t).counts ≡ lost_counts f.kept f.counts = tc ∙ ap (λ z. lost_counts z.kept z.counts) walk in
    let tp' : (held_in t).pushed ≡ f.pushed = tp ∙ ap (λ z. z.pushed) walk in
    let e : held_in t ≡ losing (fencing (chosen ps (held_in s))) = λ i. record { lasts = tl' i; sees = ts' i; journal = tj i; counts = tc' i; pushed = tp' i } in (
      λ m x. (
        back ps m,
        record { line = λ l. (get_or ps l 0, λ w. refl); none = λ l. refl; calm = λ l. refl },
        stands_by t (lines_in s) (losing (fencing (chosen ps (held_in s)))) (back ps m) size e (fail_held (lines_in s) (held_in s) ps m (tied_in s m x) len (low x.sound.pushed)),
      ),
      size,
    )

-- ---- new memory

fresh_held : (n : ℕ) → Tied n (record { lasts = replicate (8 * n) 0; sees = replicate (8 * n) 0; journal = []; counts = replicate n 0; pushed = replicate n 0 }) fresh_lines
unfolding of_line applied
fresh_held n = (
  record {
    all_last = length-replicate (8 * n) 0;
    all_seen = length-replicate (8 * n) 0;
    all_counts = length-replicate n 0;
    all_pushed = length-replicate n 0;
    inside = tt;
    sees = λ l w hl hw. refl;
    counts = λ l hl. get_or-replicate n l 0 0 hl;
    pushed = λ l. omega arith;
  },
  record {
    lasts = λ l w hl hw. sym (get_or-replicate (8 * n) (l * 8 + w) 0 0 (omega arith));
    since = λ l hl. refl;
    pushed = λ l hl. sym (get_or-replicate n l 0 0 hl);
  },
)

pub fresh_stands : (s : Cached) (n : ℕ) → vec_items s.words ≡ replicate (n * 8) (record { lasts = 0; sees = 0 }) → vec_items s.lines ≡ replicate n (record { count = 0; pushed = 0 })
    → vec_items s.journal ≡ [] → Stands s fresh_lines × (lines_in s ≡ n)
fresh_stands s n ws xs js =
    let turn : n * 8 ≡ 8 * n = omega arith in
    let ls : (held_in s).lasts ≡ replicate (8 * n) 0 = ap lasts_in ws ∙ map-replicate (λ w. w.lasts) (n * 8) _ ∙ ap (λ k. replicate {A = ℕ} k 0) turn in
    let ss : (held_in s).sees ≡ replicate (8 * n) 0 = ap sees_in ws ∙ map-replicate (λ w. w.sees) (n * 8) _ ∙ ap (λ k. replicate {A = ℕ} k 0) turn in
    let cs : (held_in s).counts ≡ replicate n 0 = ap counts_in xs ∙ map-replicate (λ x. x.count) n _ in
    let ps : (held_in s).pushed ≡ replicate n 0 = ap pushed_in xs ∙ map-replicate (λ x. x.pushed) n _ in
    let len : length (held_in s).sees ≡ 8 * n = ap length ss ∙ length-replicate (8 * n) 0 in
    let size : lines_in s ≡ n = omega (arith, len, length-map (vec_items s.words) (λ w. w.sees)) in
    let e : held_in s ≡ record { lasts = replicate (8 * n) 0; sees = replicate (8 * n) 0; journal = []; counts = replicate n 0; pushed = replicate n 0 } =
    λ i. record { lasts = ls i; sees = ss i; journal = js i; counts = cs i; pushed = ps i } in
    (stands_by s n _ fresh_lines size e (fresh_held n), size)
