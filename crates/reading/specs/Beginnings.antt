-- How statements begin and parts end. Assumes nothing.
use Rattle.std.specs.Prelude.{◌≡◌, ℕ, ◌+◌, ◌<◌, ◌≤◌, Bool, true, false, List, [], ◌∷◌, ◌++◌, length, take, Some, None, Option, Ok, Err, Result}
use Rattle.text.specs.declared.Token.{Token}
use Rattle.text.specs.declared.Token.TheVariants as is
use Rattle.text.specs.declared.Key.{Key}
use Rattle.text.specs.declared.Key.TheVariants as word
use Rattle.reading.specs.declared.error.NoPlan.{NoPlan}
use Rattle.reading.specs.declared.exprs.Cursor.{Cursor}
use Rattle.reading.specs.declared.stmts.Beginning.{Beginning}
use Rattle.reading.specs.declared.stmts.Beginning.TheVariants as begin

abbrev pub key_begins : Key → Option Beginning
key_begins word.Set = Some begin.Set
key_begins word.Do = None
key_begins word.Tries = None
key_begins word.Pause = None
key_begins word.Sleep = Some begin.Sleep
key_begins word.Hear = None
key_begins word.For = None
key_begins word.If = Some begin.If
key_begins word.Else = None
key_begins word.While = Some begin.While
key_begins word.Guard = Some begin.Guard
key_begins word.Return = Some begin.Return
key_begins word.Fail = Some begin.Fail
key_begins word.Not = None
key_begins word.Open = None
key_begins word.Close = None
key_begins word.Begin = None
key_begins word.End = None
key_begins word.Comma = None

abbrev pub begins_at : Token → Option Beginning
begins_at (is.Number n) = None
begins_at (is.Variable v) = Some (begin.Variable v)
begins_at is.Name = None
begins_at (is.Operator o) = None
begins_at (is.Key k) = key_begins k
begins_at is.Stop = None
begins_at is.Bad = None

abbrev pub key_ends : Key → Bool
key_ends word.Set = false
key_ends word.Do = false
key_ends word.Tries = false
key_ends word.Pause = false
key_ends word.Sleep = false
key_ends word.Hear = false
key_ends word.For = false
key_ends word.If = false
key_ends word.Else = false
key_ends word.While = false
key_ends word.Guard = false
key_ends word.Return = false
key_ends word.Fail = false
key_ends word.Not = false
key_ends word.Open = false
key_ends word.Close = false
key_ends word.Begin = false
key_ends word.End = true
key_ends word.Comma = false

abbrev pub ends_at : Token → Bool
ends_at (is.Number n) = false
ends_at (is.Variable v) = false
ends_at is.Name = false
ends_at (is.Operator o) = false
ends_at (is.Key k) = key_ends k
ends_at is.Stop = true
ends_at is.Bad = false

-- one head was written, or there is no room for it
abbrev pub Failure : Result Cursor NoPlan → (next len : ℕ) → (xs ys : List ℕ) → Type 0
Failure (Ok c) next len xs ys = (c.pos ≡ next) × (c.len ≡ len + 4) × (len + 4 ≤ length xs) × (take (len + 4) ys ≡ take len xs ++ (11 ∷ 0 ∷ 1 ∷ 0 ∷ []))
Failure (Err e) next len xs ys = length xs < len + 4
