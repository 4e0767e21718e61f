-- Readers of one token. Assumes nothing.
use Rattle.std.specs.Prelude.{ℕ, ◌-◌, ◌<◌, ◌≤◌, List, length, take, drop, Some, None, Option, Ok, Err, Result}
use Rattle.plans.specs.Plan.{Name}
use Rattle.text.specs.Token.{Token, Got, fails, got}
use Rattle.text.specs.Token as token
use Rattle.text.specs.Lexer.{Lexed}
use Rattle.text.specs.Parser.{after, after_same, with_number, with_variable, with_name}
use Rattle.text.specs.Ahead.{ahead}
use Rattle.text.specs.declared.Lexeme.{Lexeme}
use Rattle.reading.specs.declared.error.Expected.{Expected}
use Rattle.reading.specs.declared.error.NoPlan.{NoPlan}
use Rattle.reading.specs.declared.tokens.Found.{Found}
use Rattle.reading.specs.Took.{Family, Took, Bars}

-- a token that has what is wanted
abbrev pub wanted_of : {T : Type 0} → Lexeme → Option T → Expected → Result (Found T) NoPlan
wanted_of t (Some v) e = Ok (record { value = v; start = t.start; next = t.next })
wanted_of t None e = Err (record { at = t.start; expected = e })

abbrev pub one_key : token.Key → Family (Unit {0})
one_key k n i ts = after k ts (got tt)

abbrev pub one_same : Family (Unit {0})
one_same n i ts = after_same ts (got tt)

abbrev pub one_number : Family ℕ
one_number n i ts = with_number ts got

abbrev pub one_variable : Family ℕ
one_variable n i ts = with_variable ts got

abbrev pub one_name : Family Name
one_name n i ts = with_name ts got

-- nothing is taken, however large
abbrev pub Refuses : {A : Type 0} → Family A → Lexed → Type 0
Refuses p l = Bars p (λ _. ⊥) l

-- it goes on in the text
abbrev pub Onward : (from to bytes : ℕ) → Type 0
Onward from to bytes = (from < to) × (to ≤ bytes)

abbrev pub TookKey : Result ℕ NoPlan → token.Key → List ℕ → ℕ → Type 0
TookKey (Ok p) k text from = Took (one_key k) tt (ahead text from) (ahead text p) × Onward from p (length text)
TookKey (Err e) k text from = Refuses (one_key k) (ahead text from)

abbrev pub TookSame : Result ℕ NoPlan → List ℕ → ℕ → Type 0
TookSame (Ok p) text from = Took one_same tt (ahead text from) (ahead text p) × Onward from p (length text)
TookSame (Err e) text from = Refuses one_same (ahead text from)

abbrev pub TookNumber : Result (Found ℕ) NoPlan → List ℕ → ℕ → Type 0
TookNumber (Ok f) text from = Took one_number f.value (ahead text from) (ahead text f.next) × Onward from f.next (length text)
TookNumber (Err e) text from = Refuses one_number (ahead text from)

abbrev pub TookVariable : Result (Found ℕ) NoPlan → List ℕ → ℕ → Type 0
TookVariable (Ok f) text from = Took one_variable f.value (ahead text from) (ahead text f.next) × Onward from f.next (length text)
TookVariable (Err e) text from = Refuses one_variable (ahead text from)

abbrev pub TookName : Result (Found (Unit {0})) NoPlan → List ℕ → ℕ → Type 0
TookName (Ok f) text from = Took one_name (take (f.next - f.start) (drop f.start text)) (ahead text from) (ahead text f.next) × Onward from f.next (length text) × (f.start ≤ f.next)
TookName (Err e) text from = Refuses one_name (ahead text from)
