-- What a reader takes of a text, against the reader of tokens. Assumes nothing.
-- A reader of tokens comes as a family: its two numbers are how often it may call itself, and there are never too few.
use Rattle.std.specs.Prelude.{◌≡◌, ℕ, ◌≤◌, List, length}
use Rattle.text.specs.Token.{Token, Got, fails, got}
use Rattle.text.specs.Lexer.{Lexed, wrong, tokens}

abbrev pub Family : Type 0 → Type 0
Family A = ℕ → ℕ → List Token → Got A

-- the reader takes `a` from the tokens of l, and m is left; of a text with a wrong token nothing is said, but that it stays wrong
pub data Took {A : Type 0} (p : Family A) (a : A) : Lexed → Lexed → Type 0 where
  lost : Took p a wrong wrong
  found : {ts us : List Token} → length us ≤ length ts → ((n i : ℕ) → length ts ≤ n → length ts ≤ i → p n i ts ≡ got a us) → Took p a (tokens ts) (tokens us)

-- if something was read, it is too large
abbrev pub Only : {A : Type 0} → (A → Type 0) → Got A → Type 0
Only Big fails = Unit {0}
Only Big (got a us) = Big a

-- whatever the reader takes from the tokens of l is too large; so it takes nothing where nothing is
pub data Bars {A : Type 0} (p : Family A) (Big : A → Type 0) : Lexed → Type 0 where
  lost : Bars p Big wrong
  bars : {ts : List Token} → ((n i : ℕ) → length ts ≤ n → length ts ≤ i → Only Big (p n i ts)) → Bars p Big (tokens ts)
