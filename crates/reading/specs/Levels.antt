-- Readers of expressions, by level. Assumes nothing.
use Rattle.std.specs.Prelude.{◌≡◌, ℕ, ◌+◌, ◌*◌, ◌<◌, ◌≤◌, List, [], ◌∷◌, ◌++◌, length, take, Some, None, Ok, Err, Option, Result}
use Rattle.plans.specs.Plan.{Expr, Plus, Minus, Times, Less, Same, expr_size}
use Rattle.plans.specs.Flat.{code_of}
use Rattle.text.specs.Token as token
use Rattle.text.specs.Parser.{Parser, Join, ends, product_op, sum_op, compare_op, more_s, chain_s, unary_s}
use Rattle.text.specs.Lexer.{Lexed, tokens, both}
use Rattle.text.specs.Ahead.{ahead}
use Rattle.text.specs.declared.Token.{Token}
use Rattle.text.specs.declared.Token.TheVariants as is
use Rattle.text.specs.declared.Operator.{Operator}
use Rattle.text.specs.declared.Operator.TheVariants as by
use Rattle.text.specs.declared.Key.{Key}
use Rattle.text.specs.declared.Key.TheVariants as word
use Rattle.reading.specs.declared.error.NoPlan.{NoPlan}
use Rattle.reading.specs.declared.exprs.Level.{Level}
use Rattle.reading.specs.declared.exprs.Level.TheVariants.{Compare, Sum, Product, Unary}
use Rattle.reading.specs.declared.exprs.Opening.{Opening}
use Rattle.reading.specs.declared.exprs.Opening.TheVariants as opening
use Rattle.reading.specs.declared.exprs.Cursor.{Cursor}
use Rattle.reading.specs.Took.{Family, Took, Bars}

-- the level of the operands
abbrev pub below_of : Level → Level
below_of Compare = Sum
below_of Sum = Product
below_of Product = Unary
below_of Unary = Unary

abbrev pub rank_of : Level → ℕ
rank_of Compare = 3
rank_of Sum = 2
rank_of Product = 1
rank_of Unary = 0

abbrev pub join_at : Level → token.Token → Join
join_at Compare = compare_op
join_at Sum = sum_op
join_at Product = product_op
join_at Unary = λ t. ends

-- with n calls of itself, and brackets nested at most d deep
abbrev pub parser_at : Level → ℕ → ℕ → Parser
parser_at Compare n d = chain_s compare_op (chain_s sum_op (chain_s product_op (unary_s n d)))
parser_at Sum n d = chain_s sum_op (chain_s product_op (unary_s n d))
parser_at Product n d = chain_s product_op (unary_s n d)
parser_at Unary n d = unary_s n d

-- an expression of a level
abbrev pub expr_at : Level → ℕ → Family Expr
expr_at level d n i ts = parser_at level n d ts

-- what is behind a first operand of a level
abbrev pub more_at : Level → ℕ → Expr → Family Expr
more_at level d e n i ts = more_s (join_at level) (parser_at (below_of level) n d) i e ts

abbrev pub level_of : Operator → Level
level_of by.Plus = Sum
level_of by.Minus = Sum
level_of by.Times = Product
level_of by.Less = Compare
level_of by.Same = Compare

abbrev pub only_at : Level → Operator → Option Operator
only_at Compare by.Plus = None
only_at Compare by.Minus = None
only_at Compare by.Times = None
only_at Compare by.Less = Some by.Less
only_at Compare by.Same = Some by.Same
only_at Sum by.Plus = Some by.Plus
only_at Sum by.Minus = Some by.Minus
only_at Sum by.Times = None
only_at Sum by.Less = None
only_at Sum by.Same = None
only_at Product by.Plus = None
only_at Product by.Minus = None
only_at Product by.Times = Some by.Times
only_at Product by.Less = None
only_at Product by.Same = None
only_at Unary o = None

-- the operation that a token is, if it is one of this level
abbrev pub joins_at : Level → Token → Option Operator
joins_at level (is.Number n) = None
joins_at level (is.Variable v) = None
joins_at level is.Name = None
joins_at level (is.Operator o) = only_at level o
joins_at level (is.Key k) = None
joins_at level is.Stop = None
joins_at level is.Bad = None

abbrev pub build : Operator → Expr → Expr → Expr
build by.Plus a b = Plus a b
build by.Minus a b = Minus a b
build by.Times a b = Times a b
build by.Less a b = Less a b
build by.Same a b = Same a b

-- how an expression without operations begins
abbrev pub key_opens : Key → Option Opening
key_opens word.Set = None
key_opens word.Do = None
key_opens word.Tries = None
key_opens word.Pause = None
key_opens word.Sleep = None
key_opens word.Hear = None
key_opens word.For = None
key_opens word.If = None
key_opens word.Else = None
key_opens word.While = None
key_opens word.Guard = None
key_opens word.Return = None
key_opens word.Fail = None
key_opens word.Not = Some opening.Negation
key_opens word.Open = Some opening.Bracket
key_opens word.Close = None
key_opens word.Begin = None
key_opens word.End = None
key_opens word.Comma = None

abbrev pub opens_at : Token → Option Opening
opens_at (is.Number n) = Some (opening.Number n)
opens_at (is.Variable v) = Some (opening.Variable v)
opens_at is.Name = None
opens_at (is.Operator o) = None
opens_at (is.Key k) = key_opens k
opens_at is.Stop = None
opens_at is.Bad = None

-- it went on by `least` bytes or more, and the draft did not shrink
abbrev pub Further : Result Cursor NoPlan → (least : ℕ) → Cursor → (bytes room : ℕ) → Type 0
Further (Ok c) least at bytes room = (at.pos + least ≤ c.pos) × (c.pos ≤ bytes) × (at.len ≤ c.len) × (c.len ≤ room)
Further (Err e) least at bytes room = Unit {0}

-- there is no room for it behind so many words
abbrev pub NoRoom : (room len : ℕ) → Expr → Type 0
NoRoom room len e = room < len + 4 * expr_size e

-- the same, from a place behind the first token
abbrev pub Onwards : Result Cursor NoPlan → (next len bytes room : ℕ) → Type 0
Onwards (Ok c) next len bytes room = (next ≤ c.pos) × (c.pos ≤ bytes) × (len ≤ c.len) × (c.len ≤ room)
Onwards (Err e) next len bytes room = Unit {0}

-- what a reader of expressions leaves: behind the words that were there, those of the expression
pub record ReadAs (p : Family Expr) (l : Lexed) (text : List ℕ) (pre : List ℕ) (c : Cursor) (ys : List ℕ) : Type 0 where
  pub tree : Expr
  pub took : Took p tree l (ahead text c.pos)
  pub words : take c.len ys ≡ pre ++ code_of tree

abbrev pub ReadFrom : Result Cursor NoPlan → Family Expr → Lexed → (text pre ys : List ℕ) → Type 0
ReadFrom (Ok c) p l text pre ys = ReadAs p l text pre c ys
ReadFrom (Err e) p l text pre ys = Bars p (NoRoom (length ys) (length pre)) l

abbrev pub ReadExpr : Result Cursor NoPlan → Family Expr → (text : List ℕ) (at : ℕ) (pre : List ℕ) (ys : List ℕ) → Type 0
ReadExpr r p text at pre ys = ReadFrom r p (ahead text at) text pre ys

-- what is ahead where the word not, or an opening bracket, stands before this place
abbrev pub behind_not : List ℕ → ℕ → Lexed
behind_not text next = both (tokens (token.key token.NOT ∷ [])) (ahead text next)

abbrev pub behind_open : List ℕ → ℕ → Lexed
behind_open text next = both (tokens (token.key token.OPEN ∷ [])) (ahead text next)

-- one unit was written, or there is no room for it
abbrev pub Leaf : Result Cursor NoPlan → (next len kind value : ℕ) → (xs ys : List ℕ) → Type 0
Leaf (Ok c) next len kind value xs ys = (c.pos ≡ next) × (c.len ≡ len + 4) × (len + 4 ≤ length xs) × (take (len + 4) ys ≡ take len xs ++ (kind ∷ value ∷ 0 ∷ 0 ∷ []))
Leaf (Err e) next len kind value xs ys = length xs < len + 4
