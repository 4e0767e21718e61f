-- What a unit of the flat form says, by its words alone. Assumes nothing.
use Rattle.std.specs.Prelude.{ℕ, zero, suc, ◌+◌, ◌/◌, ◌%◌, cond, List, Some, None, Option, ◌==◌, slice_index}
use Rattle.runs.specs.declared.unit.Statement.{Statement}
use Rattle.runs.specs.declared.unit.Statement.TheVariants.{Set, Do, Sleep, Hear, If, While, Guard, Go, Return, Fail, End}

-- where a failure goes, by its word: the address and 1 more, or 0 where no guard takes it
unfoldable pub way_in : ℕ → Option ℕ
way_in zero = None
way_in (suc a) = Some a

-- a unit of this kind at `at`, with the three words behind its first
-- a loop as it turns, and the step out of a guard, begin one word behind their unit: so what is the third word for others is their second
abbrev pub statement_of : (kind at b c d : ℕ) → Option Statement
statement_of kind at b c d = cond (kind == 1) (Some (Set b c (at + 4))) (cond (kind == 2) (Some (Do b c (way_in d) (at + 4))) (cond (kind == 3) (Some (Sleep c (at + 4))) (cond (kind == 4) (Some (Hear b d c (at + 4))) (cond (kind == 5) (Some (If b (at + 4))) (cond (kind == 6) (Some (While c (at + 4))) (cond (kind == 7) (Some (While b (at + 3))) (cond (kind == 8) (Some (Guard (at + 4))) (cond (kind == 9) (Some (Go b)) (cond (kind == 10) (Some (Return (at + 4))) (cond (kind == 11) (Some (Fail (way_in d))) (cond (kind == 12) (Some (Go c)) (cond (kind == 13) (Some End) None))))))))))))

-- what stands at an address; past the words, and at words of no plan, nothing does
unfoldable pub statement_at : List ℕ → ℕ → Option Statement
statement_at ws a = statement_of (slice_index ws a % 32) a (slice_index ws (a + 1)) (slice_index ws (a + 2)) (slice_index ws (a + 3))

abbrev pub deep_at : List ℕ → ℕ → ℕ
deep_at ws a = slice_index ws a / 32
