-- Operations, and where they stand. Assumes nothing.
use Rattle.std.specs.Prelude.{◌≡◌, ℕ, ◌+◌, ◌*◌, ◌<◌, List, Some, None, codes, Option}
use Rattle.text.specs.Token.{Op, PLUS, MINUS, TIMES, LESS, SAME}
use Rattle.text.specs.Grammar as grammar
use Rattle.text.specs.Grammar.{unary, product, sum, compare}
use Rattle.printing.specs.declared.Level.{Level}
use Rattle.printing.specs.declared.Level.TheVariants.{Unary, Product, Sum, Compare}

abbrev pub level_meant : Level → grammar.Level
level_meant Unary = unary
level_meant Product = product
level_meant Sum = sum
level_meant Compare = compare

-- the level of an operation and of its left operand, and that of its right operand
abbrev pub own_of : Op → grammar.Level
own_of PLUS = sum
own_of MINUS = sum
own_of TIMES = product
own_of LESS = compare
own_of SAME = compare

abbrev pub right_of : Op → grammar.Level
right_of PLUS = product
right_of MINUS = product
right_of TIMES = unary
right_of LESS = sum
right_of SAME = sum

-- what stands before the units of the operand before a root
abbrev pub Before : Option ℕ → ℕ → ℕ → Type 0
Before (Some l) root n = l + 4 + 4 * n ≡ root
Before None root n = root < 4 + 4 * n

-- how an operation is written
abbrev pub sign_text : Op → List ℕ
sign_text PLUS = codes " + "
sign_text MINUS = codes " - "
sign_text TIMES = codes " * "
sign_text LESS = codes " < "
sign_text SAME = codes " = "
