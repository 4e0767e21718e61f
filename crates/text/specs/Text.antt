-- The text of a plan. Assumes nothing.
use Rattle.std.specs.Prelude.{◌≡◌, ℕ, ◌≤◌, Bool, true, cond, ◌&&◌, List, [], ◌∷◌, length, nat_le}
use Rattle.plans.specs.Plan.{Stmt, Set, Do, Sleep, Hear, If, While, Guard, Return, FailNow, Block, done, then, size_of, block_ok}
use Rattle.text.specs.Token.{Token, Got, fails, got}
use Rattle.text.specs.Grammar.{IsPlan}
use Rattle.text.specs.Parser.{plan_s}
use Rattle.text.specs.Printer.{part_deep}
use Rattle.text.specs.Lexer.{Lexed, wrong, tokens, tokens_in, key_of, is_wrong}

-- bs is a text of the plan b, of at most `limit` bytes
pub record IsText (limit : ℕ) (bs : List ℕ) (b : Block) : Type 0 where
  pub short : length bs ≤ limit
  pub words : List Token
  pub lexed : tokens_in bs ≡ tokens words
  pub plan : IsPlan words b
  pub size : size_of b ≤ 4096

pub data Reading : Type 0 where
  nothing : Reading
  plan : Block → Reading

unfoldable pub sized : Block → Reading
sized b = cond (nat_le (size_of b) 4096) (plan b) nothing

unfoldable pub whole : Got Block → Reading
whole fails = nothing
whole (got b []) = sized b
whole (got b (t ∷ ts)) = nothing

unfoldable pub parsed : Lexed → Reading
parsed wrong = nothing
parsed (tokens ts) = whole (plan_s ts)

unfoldable pub read_text : ℕ → List ℕ → Reading
read_text limit bs = cond (nat_le (length bs) limit) (parsed (tokens_in bs)) nothing

-- the names in a plan are no words of the language
unfoldable mutual
  pub stmt_named : Stmt → Bool
  stmt_named (Set v e) = true
  stmt_named (Do v k es n p) = true
  stmt_named (Sleep e) = true
  stmt_named (Hear v w n e) = is_wrong (key_of n)
  stmt_named (If e a b) = named a && named b
  stmt_named (While e a) = named a
  stmt_named (Guard a b) = named a && named b
  stmt_named (Return e) = true
  stmt_named FailNow = true

  pub named : Block → Bool
  named done = true
  named (then s b) = stmt_named s && named b

-- a plan that has a text
pub record Sayable (b : Block) : Type 0 where
  pub fine : block_ok b ≡ true
  pub names : named b ≡ true
  pub flat : part_deep b ≤ 256
  pub size : size_of b ≤ 4096
