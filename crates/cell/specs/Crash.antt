-- The cell is safe whenever the power fails, and what it costs.
-- Assumes nothing.
use Rattle.std.specs.Prelude.{◌≡◌, refl, ◌⊎◌, length, get_or, replicate}
use Rattle.std.proofs.Common.{sym, ap, subst, ◌∙◌, inr, arith, ne_eqb}
use Rattle.std.proofs.Math.Logic.{inl}
use mathlib.Core.List.{List, [], ◌∷◌}
use Prim.Native.Nat.{ℕ, zero, suc, ◌+◌, ◌-◌, ◌/◌, ◌%◌, ◌<◌, ◌≤◌}
use Rattle.device.specs.Lines.{Lines, fresh_lines, seen, Left, yields}
use Rattle.device.specs.Does.{Did}
use Rattle.device.specs.Safe.{Safe, s_end, s_load, Kept}
use Rattle.device.specs.Images.{Image, upd, All, None, At, Agree}
use Rattle.device.specs.Flips.{commit_work}
use Rattle.device.specs.Costs.{Costs, Any, c_load}
use Rattle.device.proofs.Safe.{safe_bind, safe_more, safe_partly}
use Rattle.device.proofs.Image.{upd_same, at_left, at_fresh}
use Rattle.device.proofs.Commit.{amid_rests}
use Rattle.device.proofs.Costs.{costs_more, costs_bind, costs_commit_work}
use Rattle.device.proofs.Did.{did_ties}
use Rattle.words.specs.Works.{from_line}
use Rattle.words.specs.Runs.{read_via, read_from, puts, Small}
use Rattle.words.proofs.Runs.{reads_ext, safe_load_via}
use Rattle.words.proofs.Drafting.{drafting_start, drafting_save_via, drafting_flip, reads_here, reads_flipped}
use Rattle.words.proofs.Costs.{runs_cost}
use Rattle.lines.specs.declared.cached.Cached.{Cached}
use Rattle.lines.specs.declared.fuse.Fuse.{Fuse}
use Rattle.lines.specs.Caches.{lines_in, Stands, CachedStep, Fails}
use Rattle.lines.specs.Fuses.{FuseStep}
use Rattle.lines.specs.FusesLemmas.{fuse_coheres}
use Rattle.cell.specs.Works.{counts_at, spare_at, get_work, put_at, put_work}
use Rattle.cell.specs.Cells.{Call, Put, Get, Reply, Done, Holds, fit, May, cell_sense, cell_does, cell_engine, cell_of, Counts, Rest, CellCosts}
use Rattle.cell.specs.Trials.{Survives}

same_cell : (h g : Image) (r : ℕ) → h 0 0 ≡ r → g 0 0 ≡ r → ((k : ℕ) → k < 16 → h (counts_at r + k / 8) (k % 8) ≡ g (counts_at r + k / 8) (k % 8)) → cell_of h ≡ cell_of g
unfolding cell_of
same_cell h g r p q e =
    ap (λ x. read_from h (counts_at x) 0 16) p ∙ reads_ext h g (from_line (counts_at r)) 0 16 (λ k z. e k (omega arith)) ∙ ap (λ x. read_from g (counts_at x) 0 16) (sym q)

rest_left : (s : List ℕ) (m o : Lines) → Rest s m → Left m o → Rest s o
rest_left s m o (g, a, e) l =
    let b = at_left a l in
    (b.0, b.1, same_cell b.0 g (g 0 0) (b.2 0 0 tt) refl (λ k z. b.2 _ _ tt) ∙ e)

-- what the cell holds rests on the lines that count
pub cell_rests : (g i : Image) (r : ℕ) (s : List ℕ) → g 0 0 ≡ r → cell_of g ≡ s → Agree (Counts r) g i → cell_of i ≡ s
cell_rests g i r s eg es e =
    same_cell i g r (e 0 0 (λ k z. ne_eqb 0 (spare_at r + k) (λ q. omega arith)) ∙ eg) eg (λ k z. e _ _ (λ k' z'. ne_eqb (counts_at r + k / 8) (spare_at r + k') (λ q. omega arith))) ∙ es

module _ (N : ℕ) (big : 5 ≤ N) (s ws : List ℕ) (sixteen : length ws ≡ 16) (small : Small ws) where
  put_at_lem : (m : Lines) (g : Image) (r : ℕ) → At g All None m → cell_of g ≡ s → g 0 0 ≡ r
      → Safe N (λ x n. Rest ws n) (λ n. (o : Lines) → Left n o → Rest s o ⊎ Rest ws o) (put_at r ws) m
  unfolding cell_of
  put_at_lem m g r a es eg =
      safe_bind (λ x. commit_work 0 0 (1 - r % 2))
      (safe_more (λ x n calm d. drafting_flip d Decodes 0 0 (1 - r % 2) s ws old (omega arith) (omega arith) (omega arith) new) (λ n x o l. inl (amid_rests Decodes C g s old n o x l))
      (drafting_save_via (drafting_start C g m a) (from_line (spare_at r)) 2 ws (λ j k c h. c k h) (omega arith) (λ l h. omega arith) small (λ o x. x)))
    where
      Decodes : Image → List ℕ → Type 0
      Decodes h x = cell_of h ≡ x

      C : ℕ → Type 0
      C j = Counts r j

      h2 : Image
      h2 = puts (spare_at r) 0 ws g

      old : (i : Image) → ((l w : ℕ) → Counts r l → i l w ≡ g l w) → cell_of i ≡ s
      old i e = cell_rests g i r s eg es e

      new : (i : Image) → Agree All (upd 0 0 (1 - r % 2) (puts (spare_at r) 0 ws g)) i → cell_of i ≡ ws
      new i e =
          let there : counts_at (1 - r % 2) ≡ spare_at r = omega arith in
          ap (λ x. read_from i (counts_at x) 0 16) (e 0 0 tt ∙ upd_same 0 0 (1 - r % 2) (puts (spare_at r) 0 ws g))
          ∙ ap (λ x. read_from i x 0 16) there
          ∙ reads_flipped 0 0 (1 - r % 2) (spare_at r) 16 (puts (spare_at r) 0 ws g) i e (omega arith)
          ∙ reads_here (spare_at r) 16 ws g sixteen

  pub put_rest : (m : Lines) → Rest s m → Safe N (λ x n. Rest ws n) (λ n. (o : Lines) → Left n o → Rest s o ⊎ Rest ws o) (put_work ws) m
  unfolding put_work
  put_rest m h = s_load (λ o l. inl (rest_left s m o h l)) (omega arith) (omega arith) (put_at_lem m h.0 (seen m 0 0) h.1 h.2 (sym (h.1.shows 0 0)))

pub get_rest : (N : ℕ) → 5 ≤ N → (s : List ℕ) (m : Lines) → Rest s m → Safe N (λ ws n. (ws ≡ s) × Rest s n) (λ n. (o : Lines) → Left n o → Rest s o) get_work m
unfolding get_work cell_of
get_rest N big s m h =
    let e : cell_of (seen m) ≡ s = same_cell (seen m) h.0 (seen m 0 0) refl (sym (h.1.shows 0 0)) (λ k z. h.1.shows _ _) ∙ h.2 in
    s_load (λ o l. rest_left s m o h l) (omega arith) (omega arith)
    (safe_load_via m (from_line (counts_at (seen m 0 0))) 0 16 (λ o l. rest_left s m o h l) (λ l z. omega arith) (e, h))

length_fit : (n : ℕ) (ws : List ℕ) → length (fit n ws) ≡ n
unfolding fit
length_fit zero ws = refl
length_fit (suc n) [] = ap suc (length_fit n [])
length_fit (suc n) (w ∷ ws) = ap suc (length_fit n ws)

small_fit : (n : ℕ) (ws : List ℕ) → Small (fit n ws)
unfolding fit
small_fit zero ws = tt
small_fit (suc n) [] = (omega arith, small_fit n [])
small_fit (suc n) (w ∷ ws) = (omega arith, small_fit n ws)

cell_does_lem : (N : ℕ) → 5 ≤ N → (c : Call) (s : List ℕ) (m : Lines) → Rest s m
    → Safe N (λ y n. (t : List ℕ) × May c s y.reply t × Rest t n)
    (λ n. (o : Lines) → Left n o → Rest s o ⊎ ((t : List ℕ) × (r : Reply) × May c s r t × Rest t o)) (cell_does c) m
unfolding cell_does
cell_does_lem N big (Put ws) s m h =
    safe_bind (λ x. yields (record { reply = Done; mind = tt }))
    (safe_more (λ a n r q. s_end (put_left r) (fit 16 ws, (refl, refl), q)) (λ n r. put_left r) (put_rest N big s (fit 16 ws) (length_fit 16 ws) (small_fit 16 ws) m h))
  where
    put_left : {n : Lines} → ((o : Lines) → Left n o → Rest s o ⊎ Rest (fit 16 ws) o)
        → (o : Lines) → Left n o → Rest s o ⊎ ((t : List ℕ) × (r : Reply) × May (Put ws) s r t × Rest t o)
    put_left r o l = elim (r o l) [ inl x ↦ inl x | inr x ↦ inr (fit 16 ws, Done, (refl, refl), x) ]
cell_does_lem N big Get s m h =
    safe_bind (λ ws. yields (record { reply = Holds ws; mind = tt }))
    (safe_more (λ a n r q. s_end (λ o l. inl (r o l)) (s, (ap Holds q.0, refl), q.1)) (λ n r o l. inl (r o l)) (get_rest N big s m h))

cell_starts : Rest (replicate 16 0) fresh_lines
unfolding cell_of read_via
cell_starts = (λ l w. 0, at_fresh, refl)

pub cell_kept : (N : ℕ) → 5 ≤ N → Kept N cell_engine cell_sense Rest (λ s x m. Rest s m)
cell_kept N big = record {
  starts = cell_starts;
  rising = λ s m h. s_end (λ o l. rest_left s m o h l) h;
  resting = λ s x m o h l. rest_left s m o h l;
  doing = λ c s x m h. cell_does_lem N big c s m h;
}

-- in memory of a size that a house may have
pub cell_keeps : (n : ℕ) → 32768 ≤ n → n ≤ 1099511627776 → Kept n cell_engine cell_sense Rest (λ s x m. Rest s m)
cell_keeps n low high = cell_kept n (omega arith)

-- ---- costs

put_costs : (ws : List ℕ) → length ws ≡ 16 → Costs Any 1 17 3 2 (put_work ws)
unfolding put_work
put_costs ws e =
    c_load {l' = 0} (omega arith)
    (λ r.
    costs_more (λ a q. q) (costs_bind (λ x. commit_work 0 0 (1 - r % 2)) (λ a q. costs_commit_work 0 0 (1 - r % 2)) (runs_cost.saving (spare_at r) 2 ws))
    (omega arith) (omega arith) (omega arith) (omega arith))

get_costs : Costs Any 17 0 0 0 get_work
unfolding get_work
get_costs = c_load {l' = 16} (omega arith) (λ r. costs_more (λ a q. tt) (runs_cost.loading (counts_at r) 16) (omega arith) (omega arith) (omega arith) (omega arith))

pub cell_costs : CellCosts
cell_costs = record { getting = get_costs; putting = λ ws. put_costs (fit 16 ws) (length_fit 16 ws) }

-- ---- on the simulated memory

pub small_of : (ws : List ℕ) → ((i : ℕ) → get_or ws i 0 < 18446744073709551616) → Small ws
small_of [] h = tt
small_of (w ∷ ws) h = (h 0, small_of ws (λ i. h (suc i)))

pub survives : (s : Cached) (f g : Fuse Cached) (t : Cached) (ws : List ℕ) → f.memory ≡ s → 5 ≤ lines_in s → length ws ≡ 16 → Small ws
    → Did (FuseStep CachedStep) (put_work ws) f tt g → Fails g.memory t → Survives s ws t
survives s f g t ws same big sixteen small d fails m x stands rest =
    let y = did_ties (fuse_coheres (λ a o b e. e.follows)) d m (subst (λ c. Stands c m) (sym same) stands) in
    let z = fails y.0 y.2 in
    (z.0, z.2, safe_partly y.1 (put_rest (lines_in s) big x ws sixteen small m rest) z.0 z.1)
