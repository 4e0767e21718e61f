-- What the lexer's code answers. Assumes nothing.
use Rattle.std.specs.Prelude.{◌≡◌, ℕ, ◌-◌, ◌<◌, ◌≤◌, Bool, true, false, List, [], ◌∷◌, take, drop, Some, None, Option}
use Rattle.text.specs.Token.{SET, DO, TRIES, PAUSE, SLEEP, HEAR, FOR, IF, ELSE, WHILE, GUARD, RETURN, FAIL, NOT, OPEN, CLOSE, BEGIN, END, COMMA, Op, PLUS, MINUS, TIMES, LESS, SAME, number, variable, name, op, key}
use Rattle.text.specs.Token as token
use Rattle.text.specs.Lexer.{Lexed, wrong, tokens, tokens_in}
use Rattle.text.specs.declared.Lexeme.{Lexeme}
use Rattle.text.specs.declared.Token.{Token}
use Rattle.text.specs.declared.Token.TheVariants as is
use Rattle.text.specs.declared.Operator.{Operator}
use Rattle.text.specs.declared.Operator.TheVariants.{Plus, Minus, Times, Less, Same}
use Rattle.text.specs.declared.Key.{Key}
use Rattle.text.specs.declared.Key.TheVariants.{Set, Do, Tries, Pause, Sleep, Hear, For, If, Else, While, Guard, Return, Fail, Not, Open, Close, Begin, End, Comma}

-- the tokens of a text from a place on
abbrev pub ahead : List ℕ → ℕ → Lexed
ahead text p = tokens_in (drop p text)

abbrev pub operator_meant : Operator → Op
operator_meant Plus = PLUS
operator_meant Minus = MINUS
operator_meant Times = TIMES
operator_meant Less = LESS
operator_meant Same = SAME

abbrev pub key_meant : Key → token.Key
key_meant Set = SET
key_meant Do = DO
key_meant Tries = TRIES
key_meant Pause = PAUSE
key_meant Sleep = SLEEP
key_meant Hear = HEAR
key_meant For = FOR
key_meant If = IF
key_meant Else = ELSE
key_meant While = WHILE
key_meant Guard = GUARD
key_meant Return = RETURN
key_meant Fail = FAIL
key_meant Not = NOT
key_meant Open = OPEN
key_meant Close = CLOSE
key_meant Begin = BEGIN
key_meant End = END
key_meant Comma = COMMA

-- the tokens that the code's token stands for, where w are its bytes
abbrev pub means : Token → List ℕ → Lexed
means (is.Number n) w = tokens (number n ∷ [])
means (is.Variable v) w = tokens (variable v ∷ [])
means is.Name w = tokens (name w ∷ [])
means (is.Operator o) w = tokens (op (operator_meant o) ∷ [])
means (is.Key k) w = tokens (key (key_meant k) ∷ [])
means is.Stop w = tokens []
means is.Bad w = wrong

abbrev pub meant : List ℕ → Lexeme → Lexed
meant text r = means r.token (take (r.next - r.start) (drop r.start text))

-- the number, or the variable, that a token is
abbrev pub number_in : Token → Option ℕ
number_in (is.Number n) = Some n
number_in (is.Variable v) = None
number_in is.Name = None
number_in (is.Operator o) = None
number_in (is.Key k) = None
number_in is.Stop = None
number_in is.Bad = None

abbrev pub variable_in : Token → Option ℕ
variable_in (is.Number n) = None
variable_in (is.Variable v) = Some v
variable_in is.Name = None
variable_in (is.Operator o) = None
variable_in (is.Key k) = None
variable_in is.Stop = None
variable_in is.Bad = None

-- it is a token
abbrev pub taken : Token → Bool
taken (is.Number n) = true
taken (is.Variable v) = true
taken is.Name = true
taken (is.Operator o) = true
taken (is.Key k) = true
taken is.Stop = false
taken is.Bad = false

-- there is none
abbrev pub stops : Token → Bool
stops (is.Number n) = false
stops (is.Variable v) = false
stops is.Name = false
stops (is.Operator o) = false
stops (is.Key k) = false
stops is.Stop = true
stops is.Bad = false

-- a variable's number is below 64
abbrev pub Small : Token → Type 0
Small (is.Number n) = Unit {0}
Small (is.Variable v) = v < 64
Small is.Name = Unit {0}
Small (is.Operator o) = Unit {0}
Small (is.Key k) = Unit {0}
Small is.Stop = Unit {0}
Small is.Bad = Unit {0}

-- what a word or a sign is: not the end
pub record Plain (t : Token) : Type 0 where
  pub here : stops t ≡ false
  pub small : Small t

-- where a token begins and ends that is looked for from a place on, in a text of n bytes
pub record Forth (from : ℕ) (r : Lexeme) (n : ℕ) : Type 0 where
  pub after : from ≤ r.start
  pub order : r.start ≤ r.next
  pub within : from ≤ n → r.next ≤ n
  pub moves : stops r.token ≡ false → r.start < r.next
  pub ends : stops r.token ≡ true → n ≤ r.next
  pub small : Small r.token
