-- What a plan is written as: its tokens, with brackets only where they are needed, and its text, one statement a line. Assumes nothing.
use Rattle.std.specs.Prelude.{ℕ, suc, ◌*◌, min, max, Bool, true, false, List, [], ◌∷◌, ◌++◌, replicate, codes, decimal, nat_le}
use Rattle.plans.specs.Plan.{Expr, Lit, Var, Plus, Minus, Times, Less, Same, Not, Stmt, Set, Do, Sleep, Hear, If, While, Guard, Return, FailNow, Block, done, then}
use Rattle.text.specs.Token.{SET, DO, TRIES, PAUSE, SLEEP, HEAR, FOR, IF, ELSE, WHILE, GUARD, RETURN, FAIL, NOT, OPEN, CLOSE, BEGIN, END, COMMA, Op, PLUS, MINUS, TIMES, LESS, SAME, Token, number, variable, name, op, key}
use Rattle.text.specs.Grammar.{Level, unary, product, sum, compare}
use Rattle.text.specs.Lexer.{spell_op}

abbrev pub rank : Level → ℕ
rank unary = 0
rank product = 1
rank sum = 2
rank compare = 3

unfoldable pub wrap : Bool → (List Token → List Token) → List Token → List Token
wrap true f us = f us
wrap false f us = key OPEN ∷ f (key CLOSE ∷ us)

-- can an expression of this level stand where one of that level is wanted
abbrev pub fits : Level → Level → Bool
fits own l = nat_le (rank own) (rank l)

-- the tokens of an expression, where one of level l is wanted, and then us
unfoldable pub put : Level → Expr → List Token → List Token
put l (Lit n) us = number n ∷ us
put l (Var v) us = variable v ∷ us
put l (Plus a b) us = wrap (fits sum l) (λ vs. put sum a (op PLUS ∷ put product b vs)) us
put l (Minus a b) us = wrap (fits sum l) (λ vs. put sum a (op MINUS ∷ put product b vs)) us
put l (Times a b) us = wrap (fits product l) (λ vs. put product a (op TIMES ∷ put unary b vs)) us
put l (Less a b) us = wrap (fits compare l) (λ vs. put compare a (op LESS ∷ put sum b vs)) us
put l (Same a b) us = wrap (fits compare l) (λ vs. put compare a (op SAME ∷ put sum b vs)) us
put l (Not a) us = key NOT ∷ put unary a us

unfoldable pub put_more : List Expr → List Token → List Token
put_more [] us = key CLOSE ∷ us
put_more (e ∷ es) us = key COMMA ∷ put compare e (put_more es us)

unfoldable pub put_args : List Expr → List Token → List Token
put_args [] us = key CLOSE ∷ us
put_args (e ∷ es) us = put compare e (put_more es us)

unfoldable mutual
  pub put_stmt : Stmt → List Token → List Token
  put_stmt (Set v e) us = key SET ∷ variable v ∷ op SAME ∷ put compare e us
  put_stmt (Do v k es n p) us = variable v ∷ op SAME ∷ key DO ∷ number k ∷ key OPEN ∷ put_args es (key TRIES ∷ number n ∷ key PAUSE ∷ number p ∷ us)
  put_stmt (Sleep e) us = key SLEEP ∷ put compare e us
  put_stmt (Hear v w n e) us = variable v ∷ key COMMA ∷ variable w ∷ op SAME ∷ key HEAR ∷ name n ∷ key FOR ∷ put compare e us
  put_stmt (If e a b) us = key IF ∷ put compare e (key BEGIN ∷ put_part a (key END ∷ key ELSE ∷ key BEGIN ∷ put_part b (key END ∷ us)))
  put_stmt (While e a) us = key WHILE ∷ put compare e (key BEGIN ∷ put_part a (key END ∷ us))
  put_stmt (Guard a b) us = key GUARD ∷ key BEGIN ∷ put_part a (key END ∷ key ELSE ∷ key BEGIN ∷ put_part b (key END ∷ us))
  put_stmt (Return e) us = key RETURN ∷ put compare e us
  put_stmt FailNow us = key FAIL ∷ us

  pub put_part : Block → List Token → List Token
  put_part done us = us
  put_part (then s b) us = put_stmt s (put_part b us)

abbrev pub tokens_of : Block → List Token
tokens_of b = put_part b []

-- The text. Brackets stand tight; an operation has a space on each side.
unfoldable pub bracketed : Bool → List ℕ → List ℕ
bracketed true w = w
bracketed false w = 40 ∷ (w ++ (41 ∷ []))

unfoldable pub between : Op → List ℕ
between o = 32 ∷ (spell_op o ++ (32 ∷ []))

-- an expression, where one of level l is wanted
unfoldable pub expr_text : Level → Expr → List ℕ
expr_text l (Lit n) = decimal n
expr_text l (Var v) = codes "v" ++ decimal v
expr_text l (Plus a b) = bracketed (fits sum l) (expr_text sum a ++ (between PLUS ++ expr_text product b))
expr_text l (Minus a b) = bracketed (fits sum l) (expr_text sum a ++ (between MINUS ++ expr_text product b))
expr_text l (Times a b) = bracketed (fits product l) (expr_text product a ++ (between TIMES ++ expr_text unary b))
expr_text l (Less a b) = bracketed (fits compare l) (expr_text compare a ++ (between LESS ++ expr_text sum b))
expr_text l (Same a b) = bracketed (fits compare l) (expr_text compare a ++ (between SAME ++ expr_text sum b))
expr_text l (Not a) = codes "not " ++ expr_text unary a

-- the arguments of a task behind the first of them, and all of them
unfoldable pub more_text : List Expr → List ℕ
more_text [] = []
more_text (e ∷ es) = codes ", " ++ (expr_text compare e ++ more_text es)

unfoldable pub args_text : List Expr → List ℕ
args_text [] = []
args_text (e ∷ es) = expr_text compare e ++ more_text es

-- the end of a line, and its beginning: four spaces for each part that it is in, for up to 32 of them
abbrev pub eol : List ℕ
eol = 10 ∷ []

unfoldable pub indent : ℕ → List ℕ
indent d = replicate (4 * min d 32) 32

-- the lines of a statement, and of a part, inside so many parts
unfoldable mutual
  pub line_stmt : ℕ → Stmt → List ℕ
  line_stmt d (Set v e) = indent d ++ (codes "set v" ++ (decimal v ++ (codes " = " ++ (expr_text compare e ++ eol))))
  line_stmt d (Do v k es n p) =
      indent d ++ (codes "v" ++ (decimal v ++ (codes " = do " ++ (decimal k ++ (codes " (" ++ (args_text es ++ (codes ") tries " ++ (decimal n ++ (codes " pause " ++ (decimal p ++ eol))))))))))
  line_stmt d (Sleep e) = indent d ++ (codes "sleep " ++ (expr_text compare e ++ eol))
  line_stmt d (Hear v w n e) =
      indent d ++ (codes "v" ++ (decimal v ++ (codes ", v" ++ (decimal w ++ (codes " = hear " ++ (n ++ (codes " for " ++ (expr_text compare e ++ eol))))))))
  line_stmt d (If e a b) =
      indent d ++ (codes "if " ++ (expr_text compare e ++ (codes " {" ++ (eol ++ (lines_of (suc d) a ++ (indent d ++ (codes "} else {" ++ (eol ++ (lines_of (suc d) b ++ (indent d ++ (codes "}" ++ eol)))))))))))
  line_stmt d (While e a) = indent d ++ (codes "while " ++ (expr_text compare e ++ (codes " {" ++ (eol ++ (lines_of (suc d) a ++ (indent d ++ (codes "}" ++ eol)))))))
  line_stmt d (Guard a b) =
      indent d ++ (codes "guard {" ++ (eol ++ (lines_of (suc d) a ++ (indent d ++ (codes "} else {" ++ (eol ++ (lines_of (suc d) b ++ (indent d ++ (codes "}" ++ eol)))))))))
  line_stmt d (Return e) = indent d ++ (codes "return " ++ (expr_text compare e ++ eol))
  line_stmt d FailNow = indent d ++ (codes "fail" ++ eol)

  pub lines_of : ℕ → Block → List ℕ
  lines_of d done = []
  lines_of d (then s b) = line_stmt d s ++ lines_of d b

-- the text of a plan
abbrev pub text_of : Block → List ℕ
text_of b = lines_of 0 b

-- how deep the brackets are nested that this writes
unfoldable pub inside : Bool → ℕ → ℕ
inside true n = n
inside false n = suc n

unfoldable pub deep : Level → Expr → ℕ
deep l (Lit n) = 0
deep l (Var v) = 0
deep l (Plus a b) = inside (fits sum l) (max (deep sum a) (deep product b))
deep l (Minus a b) = inside (fits sum l) (max (deep sum a) (deep product b))
deep l (Times a b) = inside (fits product l) (max (deep product a) (deep unary b))
deep l (Less a b) = inside (fits compare l) (max (deep compare a) (deep sum b))
deep l (Same a b) = inside (fits compare l) (max (deep compare a) (deep sum b))
deep l (Not a) = deep unary a

unfoldable pub deeps : List Expr → ℕ
deeps [] = 0
deeps (e ∷ es) = max (deep compare e) (deeps es)

unfoldable mutual
  pub stmt_deep : Stmt → ℕ
  stmt_deep (Set v e) = deep compare e
  stmt_deep (Do v k es n p) = deeps es
  stmt_deep (Sleep e) = deep compare e
  stmt_deep (Hear v w n e) = deep compare e
  stmt_deep (If e a b) = max (deep compare e) (max (part_deep a) (part_deep b))
  stmt_deep (While e a) = max (deep compare e) (part_deep a)
  stmt_deep (Guard a b) = max (part_deep a) (part_deep b)
  stmt_deep (Return e) = deep compare e
  stmt_deep FailNow = 0

  pub part_deep : Block → ℕ
  part_deep done = 0
  part_deep (then s b) = max (stmt_deep s) (part_deep b)
