-- The operations of the memory in a file are the given ones, as far as they are seen.
-- Assumes nothing.
use Rattle.std.proofs.Common.{◌≡◌, ℕ, ◌+◌, ◌*◌, ◌/◌, ◌<◌, ◌≤◌, Bool, true, false, eqb, List, length, get_or, set, is_some, vec_items, vec_len, sym, refl, ap, ◌∙◌, subst, arith, length-set, get_or-set_other, get_or-set_same, eqb-true}
use borrow.Author.Tests.{eqb-false, both_ways}
use Rattle.device.specs.Lines.{Lines, seen}
use Rattle.device.specs.Does.{Op, Loaded, Stored, Pushed, Fenced}
use Rattle.device.specs.Ties.{Gives, After}
use Rattle.device.specs.Images.{Image, upd, At, None}
use Rattle.device.proofs.Image.{upd_line, upd_same, upd_word, at_store, at_push, at_fence}
use Rattle.file_memory.specs.declared.memory.FileMemory.{FileMemory}
use Rattle.file_memory.specs.Files.{lines_of, is_broken, Stands, FileStep}

at_seen : (m : Lines) → At (seen m) None None m
at_seen m = record { shows = λ l w. refl; clean = λ l h. absurd h; ready = λ l h. absurd h }

upd_set : (g : Image) (xs : List ℕ) (n : ℕ) → n ≤ length xs / 8 → ((l k : ℕ) → l < n → k < 8 → g l k ≡ get_or xs (l * 8 + k) 0)
    → (l k v : ℕ) → l < n → k < 8 → (j w : ℕ) → j < n → w < 8 → upd l k v g j w ≡ get_or (set xs (l * 8 + k) v) (j * 8 + w) 0
upd_set g xs n fits e l k v hl hk j w hj hw = line (eqb j l) refl
  where
    other : (j * 8 + w ≡ l * 8 + k → ⊥) → g j w ≡ get_or (set xs (l * 8 + k) v) (j * 8 + w) 0
    other ne = e j w hj hw ∙ sym (get_or-set_other xs (l * 8 + k) (j * 8 + w) v 0 ne)

    word : (b : Bool) → eqb w k ≡ b → j ≡ l → upd l k v g j w ≡ get_or (set xs (l * 8 + k) v) (j * 8 + w) 0
    word true q p =
        ap (λ i. upd l k v g i w) p ∙ ap (λ i. upd l k v g l i) (eqb-true w k q) ∙ upd_same l k v g
        ∙ sym (get_or-set_same xs (l * 8 + k) v 0 (omega arith))
        ∙ ap (λ i. get_or (set xs (l * 8 + k) v) i 0) (ap (λ i. i * 8 + k) (sym p) ∙ ap (λ i. j * 8 + i) (sym (eqb-true w k q)))
    word false q p = upd_word l k v g j w q ∙ other (λ z. eqb-false w k q (omega arith))

    line : (b : Bool) → eqb j l ≡ b → upd l k v g j w ≡ get_or (set xs (l * 8 + k) v) (j * 8 + w) 0
    line true q = word (eqb w k) refl (eqb-true j l q)
    line false q = upd_line l k v g j w q ∙ other (λ z. eqb-false j l q (omega arith))

module _ {F : Type 0} (s t : FileMemory F) where
  same_lines : length (vec_items t.words) ≡ length (vec_items s.words) → lines_of t ≡ lines_of s
  same_lines e = let same : vec_len t.words ≡ vec_len s.words = omega (arith, e) in ap (λ k. k / 8) same

  -- words that did not change, and lines of which the same is seen
  stands_on : (m n : Lines) → vec_items t.words ≡ vec_items s.words → ((l k : ℕ) → seen n l k ≡ seen m l k) → Stands s m → Stands t n
  stands_on m n e same h l k hl hk =
      same l k ∙ h l k (subst (λ i. l < i) (same_lines (ap length e)) hl) hk ∙ ap (λ xs. get_or xs (l * 8 + k) 0) (sym e)

  -- an operation that changes no word
  quiet : (o : Op) → vec_items t.words ≡ vec_items s.words → (is_broken s ≡ true → is_broken t ≡ true)
      → ((m : Lines) → Stands s m → Gives o m) → ((m : Lines) (l k : ℕ) → seen (After o m) l k ≡ seen m l k) → FileStep s o t
  quiet o e still gives same = record {
    size = same_lines (ap length e);
    follows = record {
      goes = λ z m h. (gives m h, stands_on m (After o m) e (same m) h);
      stops = λ z m h. stands_on m m e (λ l k. refl) h;
      still = still;
    };
  }

  pub load_step : (l k v : ℕ) → vec_items t.words ≡ vec_items s.words → t.trouble ≡ s.trouble → l < lines_of s → k < 8 → v ≡ get_or (vec_items s.words) (l * 8 + k) 0
      → FileStep s (Loaded l k v) t
  load_step l k v e still hl hk value =
      quiet (Loaded l k v) e (λ z. ap (λ x. is_some x) still ∙ z) (λ m h. value ∙ sym (h l k hl hk)) (λ m j w. refl)

  pub push_step : (l : ℕ) → vec_items t.words ≡ vec_items s.words → is_broken s ≡ false → FileStep s (Pushed l) t
  push_step l e run =
      quiet (Pushed l) e (λ z. absurd (both_ways (is_broken s) run z)) (λ m h. tt) (λ m. (at_push (at_seen m) l None (λ j p q. p)).shows)

  pub fence_step : vec_items t.words ≡ vec_items s.words → is_broken s ≡ false → FileStep s Fenced t
  fence_step e run =
      quiet Fenced e (λ z. absurd (both_ways (is_broken s) run z)) (λ m h. tt) (λ m. (at_fence (at_seen m) None (λ j p. absurd p)).shows)

  pub store_step : (l k v : ℕ) → l < lines_of s → k < 8 → vec_items t.words ≡ set (vec_items s.words) (l * 8 + k) v → is_broken s ≡ false → is_broken t ≡ false
      → FileStep s (Stored l k v) t
  store_step l k v hl hk e run run' =
      let len : length (vec_items t.words) ≡ length (vec_items s.words) = ap length e ∙ length-set (vec_items s.words) (l * 8 + k) v in
      record {
        size = same_lines len;
        follows = record {
          goes = λ z m h. (
            tt,
            λ j w hj hw.
                (at_store (at_seen m) l k v None None (λ i c. absurd c) (λ i c. absurd c)).shows j w
                ∙ upd_set (seen m) (vec_items s.words) (lines_of s) (omega arith) h l k v hl hk j w (subst (λ i. j < i) (same_lines len) hj) hw
                ∙ ap (λ xs. get_or xs (j * 8 + w) 0) (sym e),
          );
          stops = λ z m h. absurd (both_ways (is_broken t) run' z);
          still = λ z. absurd (both_ways (is_broken s) run z);
        };
      }
