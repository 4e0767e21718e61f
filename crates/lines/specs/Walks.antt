-- What the simulated memory does with its journal, as functions on lists.
-- Assumes nothing.
use Rattle.std.specs.Prelude.{ℕ, ◌-◌, ◌/◌, ◌%◌, cond, List, [], ◌∷◌, ◌++◌, ◌==◌, nat_lt, slice_index, slice_set, map}
use Rattle.lines.specs.declared.journal.Store.{Store}
use Rattle.lines.specs.declared.journal.Word.{Word}
use Rattle.lines.specs.declared.journal.LineStores.{LineStores}

-- the words that have reached the memory, and the words as they were stored last
abbrev pub lasts_in : List Word → List ℕ
lasts_in ws = map (λ w. w.lasts) ws

abbrev pub sees_in : List Word → List ℕ
sees_in ws = map (λ w. w.sees) ws

-- for each line, how many stores the journal has, and how many of them are pushed
abbrev pub counts_in : List LineStores → List ℕ
counts_in ls = map (λ x. x.count) ls

abbrev pub pushed_in : List LineStores → List ℕ
pushed_in ls = map (λ x. x.pushed) ls

-- the stores to one line, oldest first
unfoldable pub of_line : ℕ → List Store → List (record { word : ℕ; value : ℕ })
of_line l [] = []
of_line l (x ∷ xs) = cond (x.place / 8 == l) (record { word = x.place % 8; value = x.value } ∷ of_line l xs) (of_line l xs)

-- what a walk along the journal changes: the words that last, for each line how many stores are in the journal and how many of them are
-- pushed, and the stores that stay in the journal
pub record Settling : Type 0 where
  pub lasts : List ℕ
  pub counts : List ℕ
  pub pushed : List ℕ
  pub kept : List Store

abbrev pub settling : (lasts counts pushed : List ℕ) → List Store → Settling
settling ls cs ps ks = record { lasts = ls; counts = cs; pushed = ps; kept = ks }

-- a store that is pushed lasts
abbrev pub lasting : Store → Settling → Settling
lasting x z = record {
  lasts = slice_set z.lasts x.place x.value;
  counts = slice_set z.counts (x.place / 8) (slice_index z.counts (x.place / 8) - 1);
  pushed = slice_set z.pushed (x.place / 8) (slice_index z.pushed (x.place / 8) - 1);
  kept = z.kept;
}

-- one that is not stays in the journal
abbrev pub staying : Store → Settling → Settling
staying x z = record { lasts = z.lasts; counts = z.counts; pushed = z.pushed; kept = z.kept ++ (x ∷ []) }

-- of each line, the stores that are pushed last, and the others stay
unfoldable pub settle : List Store → Settling → Settling
settle [] z = z
settle (x ∷ xs) z = settle xs (cond (nat_lt 0 (slice_index z.pushed (x.place / 8))) (lasting x z) (staying x z))

-- the stores that stayed are lost: what is seen of their words is what lasts
unfoldable pub lost_sees : List Store → (lasts sees : List ℕ) → List ℕ
lost_sees [] ls ss = ss
lost_sees (x ∷ xs) ls ss = lost_sees xs ls (slice_set ss x.place (slice_index ls x.place))

unfoldable pub lost_counts : List Store → (counts : List ℕ) → List ℕ
lost_counts [] cs = cs
lost_counts (x ∷ xs) cs = lost_counts xs (slice_set cs (x.place / 8) 0)
