-- What the readers of tasks and hearings leave. Assumes nothing.
use Rattle.std.specs.Prelude.{◌≡◌, ℕ, ◌+◌, ◌-◌, ◌*◌, ◌<◌, ◌≤◌, true, false, ◌⊎◌, List, ◌++◌, length, take, drop, Ok, Err, Result, ◌≢◌}
use Rattle.plans.specs.Plan.{Expr, sizes}
use Rattle.plans.specs.Flat.{codes_of, padded}
use Rattle.text.specs.Lexer.{Lexed}
use Rattle.text.specs.Ahead.{ahead}
use Rattle.reading.specs.declared.error.NoPlan.{NoPlan}
use Rattle.reading.specs.declared.tokens.Found.{Found}
use Rattle.reading.specs.declared.tasks.Args.{Args}
use Rattle.reading.specs.declared.tasks.Back.{Back}
use Rattle.reading.specs.declared.tasks.Hearing.{Hearing}
use Rattle.reading.specs.Took.{Family, Took, Bars}
use Rattle.reading.specs.Tokens.{Onward}
use Rattle.reading.specs.Statements.{front_at, back_at, Times, times_ok, heard_at, Heard}

abbrev pub ReadFront : Result (Found ℕ) NoPlan → List ℕ → ℕ → Type 0
ReadFront (Ok f) text from = Took front_at f.value (ahead text from) (ahead text f.next) × (f.value < 4294967296) × Onward from f.next (length text)
ReadFront (Err e) text from = Bars front_at (λ k. 4294967296 ≤ k) (ahead text from)

abbrev pub times_of : Back → Times
times_of b = record { tries = b.tries; pause = b.pause }

abbrev pub ReadBack : Result Back NoPlan → List ℕ → ℕ → Type 0
ReadBack (Ok b) text from = Took back_at (times_of b) (ahead text from) (ahead text b.next) × (times_ok (times_of b) ≡ true) × Onward from b.next (length text)
ReadBack (Err e) text from = Bars back_at (λ x. times_ok x ≡ false) (ahead text from)

-- arguments: too large for the room, or with those before them too many
abbrev pub Many : (room len count : ℕ) → List Expr → Type 0
Many room len count es = (room < len + 4 * sizes es) ⊎ (16 < count + length es)

pub record ReadItems (p : Family (List Expr)) (l : Lexed) (text pre : List ℕ) (count : ℕ) (a : Args) (ys : List ℕ) : Type 0 where
  pub items : List Expr
  pub took : Took p items l (ahead text a.at.pos)
  pub words : take a.at.len ys ≡ pre ++ codes_of items
  pub counted : a.count ≡ count + length items
  pub few : a.count ≤ 16

abbrev pub ReadArgs : Result Args NoPlan → Family (List Expr) → Lexed → (text pre : List ℕ) → ℕ → (ys : List ℕ) → Type 0
ReadArgs (Ok a) p l text pre count ys = ReadItems p l text pre count a ys
ReadArgs (Err e) p l text pre count ys = Bars p (Many (length ys) (length pre) count) l

abbrev pub ArgsOn : Result Args NoPlan → (next len bytes room : ℕ) → Type 0
ArgsOn (Ok a) next len bytes room = (next < a.at.pos) × (a.at.pos ≤ bytes) × (len ≤ a.at.len) × (a.at.len ≤ room)
ArgsOn (Err e) next len bytes room = Unit {0}

abbrev pub heard_of : List ℕ → Hearing → Heard
heard_of text h = record { other = h.other; name = take (h.end - h.start) (drop h.start text) }

abbrev pub ReadHeard : Result Hearing NoPlan → ℕ → List ℕ → ℕ → Type 0
ReadHeard (Ok h) v text from = Took heard_at (heard_of text h) (ahead text from) (ahead text h.next) × (h.other ≢ v) × Onward from h.next (length text) × (h.start ≤ h.end) × (h.end ≤ length text)
ReadHeard (Err e) v text from = Bars heard_at (λ x. x.other ≡ v) (ahead text from)

-- a name written into 64 words
abbrev pub named : List ℕ → ℕ → List ℕ → List ℕ
named xs at n = take at xs ++ (padded n ++ drop (at + 64) xs)
