-- From bytes to tokens, byte by byte, and from tokens to bytes. Assumes nothing.
use Rattle.std.specs.Prelude.{ℕ, ◌+◌, ◌-◌, ◌*◌, Bool, true, false, cond, ◌&&◌, ◌||◌, List, [], ◌∷◌, ◌++◌, length, codes, decimal, ◌==◌, nat_le, nat_lt, slice_index}
use Rattle.std.specs.Str.{all_ascii_digits}
use Rattle.plans.specs.Plan.{same_name, word_ok}
use Rattle.text.specs.Token.{Key, SET, DO, TRIES, PAUSE, SLEEP, HEAR, FOR, IF, ELSE, WHILE, GUARD, RETURN, FAIL, NOT, OPEN, CLOSE, BEGIN, END, COMMA, Op, PLUS, MINUS, TIMES, LESS, SAME, Token, number, variable, name, op, key}

-- how a word or sign is written
unfoldable pub spell : Key → List ℕ
spell SET = codes "set"
spell DO = codes "do"
spell TRIES = codes "tries"
spell PAUSE = codes "pause"
spell SLEEP = codes "sleep"
spell HEAR = codes "hear"
spell FOR = codes "for"
spell IF = codes "if"
spell ELSE = codes "else"
spell WHILE = codes "while"
spell GUARD = codes "guard"
spell RETURN = codes "return"
spell FAIL = codes "fail"
spell NOT = codes "not"
spell OPEN = codes "("
spell CLOSE = codes ")"
spell BEGIN = codes "{"
spell END = codes "}"
spell COMMA = codes ","

unfoldable pub spell_op : Op → List ℕ
spell_op PLUS = codes "+"
spell_op MINUS = codes "-"
spell_op TIMES = codes "*"
spell_op LESS = codes "<"
spell_op SAME = codes "="

-- the tokens of a text, if each of its bytes is part of a token, a blank or a remark
pub data Lexed : Type 0 where
  wrong : Lexed
  tokens : List Token → Lexed

unfoldable pub both : Lexed → Lexed → Lexed
both wrong r = wrong
both (tokens ts) wrong = wrong
both (tokens ts) (tokens us) = tokens (ts ++ us)

unfoldable pub or_else : Lexed → Lexed → Lexed
or_else wrong r = r
or_else (tokens ts) r = tokens ts

abbrev pub is_wrong : Lexed → Bool
is_wrong wrong = true
is_wrong (tokens ts) = false

abbrev pub one : Bool → Token → Lexed
one b t = cond b (tokens (t ∷ [])) wrong

-- the number that digits are, in tens
unfoldable pub value_from : ℕ → List ℕ → ℕ
value_from n [] = n
value_from n (d ∷ ds) = value_from (n * 10 + (d - 48)) ds

abbrev pub top : ℕ
top = 18446744073709551616

unfoldable pub number_of : List ℕ → Lexed
number_of w = one (all_ascii_digits w && nat_lt (value_from 0 w) top) (number (value_from 0 w))

unfoldable pub key_in : List Key → List ℕ → Lexed
key_in [] w = wrong
key_in (k ∷ ks) w = cond (same_name (spell k) w) (tokens (key k ∷ [])) (key_in ks w)

unfoldable pub key_of : List ℕ → Lexed
key_of w = key_in (SET ∷ DO ∷ TRIES ∷ PAUSE ∷ SLEEP ∷ HEAR ∷ FOR ∷ IF ∷ ELSE ∷ WHILE ∷ GUARD ∷ RETURN ∷ FAIL ∷ NOT ∷ []) w

-- 1 to 64 letters a to z
unfoldable pub name_of : List ℕ → Lexed
name_of w = one (word_ok w) (name w)

-- digits, and no 0 before another
abbrev pub plain_digits : List ℕ → Bool
plain_digits ds = all_ascii_digits ds && nat_lt 0 (length ds) && (length ds == 1 || nat_lt 48 (slice_index ds 0))

-- v0 to v63
unfoldable pub variable_of : List ℕ → Lexed
variable_of [] = wrong
variable_of (b ∷ ds) = one (b == 118 && plain_digits ds && nat_lt (value_from 0 ds) 64) (variable (value_from 0 ds))

unfoldable pub word_token : List ℕ → Lexed
word_token w = or_else (number_of w) (or_else (key_of w) (or_else (name_of w) (variable_of w)))

-- a word that has ended, if there was one
unfoldable pub ended : List ℕ → Lexed
ended [] = tokens []
ended (b ∷ bs) = word_token (b ∷ bs)

abbrev pub word_byte : ℕ → Bool
word_byte b = (nat_le 48 b && nat_le b 57) || (nat_le 65 b && nat_le b 90) || (nat_le 97 b && nat_le b 122)

-- a sign
abbrev pub sign_of : ℕ → Lexed
sign_of b =
    cond (b == 43) (tokens (op PLUS ∷ [])) (cond (b == 45) (tokens (op MINUS ∷ [])) (cond (b == 42) (tokens (op TIMES ∷ [])) (cond (b == 60) (tokens (op LESS ∷ [])) (cond (b == 61) (tokens (op SAME ∷ []))
    (cond (b == 40) (tokens (key OPEN ∷ [])) (cond (b == 41) (tokens (key CLOSE ∷ [])) (cond (b == 123) (tokens (key BEGIN ∷ [])) (cond (b == 125) (tokens (key END ∷ [])) (cond (b == 44) (tokens (key COMMA ∷ [])) wrong)))))))))

-- a byte that is part of no word: blanks and the beginning of a remark are no token
unfoldable pub sign_at : ℕ → Lexed
sign_at b = cond (b == 32 || b == 9 || b == 13 || b == 10 || b == 35) (tokens []) (sign_of b)

-- where the reader stands: behind the first bytes of a word (none: between words), or in a remark
pub data Mode : Type 0 where
  word : List ℕ → Mode
  remark : Mode

-- where it stands behind one byte more, and the tokens that the byte ends or is
unfoldable pub goes : Mode → ℕ → Mode
goes (word w) b = cond (word_byte b) (word (w ++ (b ∷ []))) (cond (b == 35) remark (word []))
goes remark b = cond (b == 10) (word []) remark

unfoldable pub gives : Mode → ℕ → Lexed
gives (word w) b = cond (word_byte b) (tokens []) (both (ended w) (sign_at b))
gives remark b = tokens []

unfoldable pub lex : Mode → List ℕ → Lexed
lex (word w) [] = ended w
lex remark [] = tokens []
lex (word w) (b ∷ bs) = both (gives (word w) b) (lex (goes (word w) b) bs)
lex remark (b ∷ bs) = both (gives remark b) (lex (goes remark b) bs)

abbrev pub tokens_in : List ℕ → Lexed
tokens_in bs = lex (word []) bs

-- what the tokens of a text are like
unfoldable pub token_ok : Token → Bool
token_ok (number n) = nat_lt n top
token_ok (variable v) = nat_lt v 64
token_ok (name w) = word_ok w && is_wrong (key_of w)
token_ok (op o) = true
token_ok (key k) = true

-- how a token is written
unfoldable pub spelled : Token → List ℕ
spelled (number n) = decimal n
spelled (variable v) = 118 ∷ decimal v
spelled (name w) = w
spelled (op o) = spell_op o
spelled (key k) = spell k
