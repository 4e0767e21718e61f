-- The grammar: which tokens are which plan. Assumes nothing.
-- `Reads l d ts e us`: the tokens ts begin with an expression e of level l, with brackets nested at most d deep, and us is what follows it.
use Rattle.std.specs.Prelude.{◌≡◌, ℕ, suc, Bool, true, not, ◌&&◌, List, [], ◌∷◌, length, ◌==◌, nat_le, nat_lt}
use Rattle.plans.specs.Plan.{Name, Expr, Lit, Var, Plus, Minus, Times, Less, Same, Not, Stmt, Set, Do, Sleep, Hear, If, While, Guard, Return, FailNow, Block, done, then}
use Rattle.text.specs.Token.{SET, DO, TRIES, PAUSE, SLEEP, HEAR, FOR, IF, ELSE, WHILE, GUARD, RETURN, FAIL, NOT, OPEN, CLOSE, BEGIN, END, COMMA, PLUS, MINUS, TIMES, LESS, SAME, Token, number, variable, name, op, key}

pub data Level : Type 0 where
  unary product sum compare : Level

pub data Reads : Level → ℕ → List Token → Expr → List Token → Type 0 where
  literal : {d : ℕ} {us : List Token} (n : ℕ) → Reads unary d (number n ∷ us) (Lit n) us
  var : {d : ℕ} {us : List Token} (v : ℕ) → Reads unary d (variable v ∷ us) (Var v) us
  negation : {d : ℕ} {ts us : List Token} {e : Expr} → Reads unary d ts e us → Reads unary d (key NOT ∷ ts) (Not e) us
  bracket : {d : ℕ} {ts us : List Token} {e : Expr} → Reads compare d ts e (key CLOSE ∷ us) → Reads unary (suc d) (key OPEN ∷ ts) e us
  factor : {d : ℕ} {ts us : List Token} {e : Expr} → Reads unary d ts e us → Reads product d ts e us
  times : {d : ℕ} {ts us vs : List Token} {a b : Expr} → Reads product d ts a (op TIMES ∷ us) → Reads unary d us b vs → Reads product d ts (Times a b) vs
  term : {d : ℕ} {ts us : List Token} {e : Expr} → Reads product d ts e us → Reads sum d ts e us
  plus : {d : ℕ} {ts us vs : List Token} {a b : Expr} → Reads sum d ts a (op PLUS ∷ us) → Reads product d us b vs → Reads sum d ts (Plus a b) vs
  minus : {d : ℕ} {ts us vs : List Token} {a b : Expr} → Reads sum d ts a (op MINUS ∷ us) → Reads product d us b vs → Reads sum d ts (Minus a b) vs
  side : {d : ℕ} {ts us : List Token} {e : Expr} → Reads sum d ts e us → Reads compare d ts e us
  less : {d : ℕ} {ts us vs : List Token} {a b : Expr} → Reads compare d ts a (op LESS ∷ us) → Reads sum d us b vs → Reads compare d ts (Less a b) vs
  same : {d : ℕ} {ts us vs : List Token} {a b : Expr} → Reads compare d ts a (op SAME ∷ us) → Reads sum d us b vs → Reads compare d ts (Same a b) vs

-- an expression of a plan
abbrev pub IsExpr : List Token → Expr → List Token → Type 0
IsExpr ts e us = Reads compare 256 ts e us

-- `, E , E )`
pub data More : List Token → List Expr → List Token → Type 0 where
  close : {us : List Token} → More (key CLOSE ∷ us) [] us
  comma : {ts us vs : List Token} {e : Expr} {es : List Expr} → IsExpr ts e us → More us es vs → More (key COMMA ∷ ts) (e ∷ es) vs

-- `( E , E )` behind its opening bracket
pub data Args : List Token → List Expr → List Token → Type 0 where
  none : {us : List Token} → Args (key CLOSE ∷ us) [] us
  some : {ts us vs : List Token} {e : Expr} {es : List Expr} → IsExpr ts e us → More us es vs → Args ts (e ∷ es) vs

abbrev pub do_ok : (kind : ℕ) → List Expr → (tries pause : ℕ) → Bool
do_ok k es n p = nat_lt k 4294967296 && nat_le (length es) 16 && nat_lt 0 n && nat_le n 32 && nat_le p 86400000

mutual
  pub data IsStmt : List Token → Stmt → List Token → Type 0 where
    set : {ts us : List Token} {v : ℕ} {e : Expr} → IsExpr ts e us → IsStmt (key SET ∷ variable v ∷ op SAME ∷ ts) (Set v e) us
    does : {ts us : List Token} {v k n p : ℕ} {es : List Expr} → Args ts es (key TRIES ∷ number n ∷ key PAUSE ∷ number p ∷ us) → do_ok k es n p ≡ true →
        IsStmt (variable v ∷ op SAME ∷ key DO ∷ number k ∷ key OPEN ∷ ts) (Do v k es n p) us
    sleep : {ts us : List Token} {e : Expr} → IsExpr ts e us → IsStmt (key SLEEP ∷ ts) (Sleep e) us
    hear : {ts us : List Token} {v w : ℕ} {n : Name} {e : Expr} → not (v == w) ≡ true → IsExpr ts e us →
        IsStmt (variable v ∷ key COMMA ∷ variable w ∷ op SAME ∷ key HEAR ∷ name n ∷ key FOR ∷ ts) (Hear v w n e) us
    if : {ts us vs ws : List Token} {e : Expr} {a b : Block} → IsExpr ts e (key BEGIN ∷ us) → IsPart us a (key END ∷ key ELSE ∷ key BEGIN ∷ vs) → IsPart vs b (key END ∷ ws) →
        IsStmt (key IF ∷ ts) (If e a b) ws
    while : {ts us vs : List Token} {e : Expr} {a : Block} → IsExpr ts e (key BEGIN ∷ us) → IsPart us a (key END ∷ vs) → IsStmt (key WHILE ∷ ts) (While e a) vs
    guard : {ts us vs : List Token} {a b : Block} → IsPart ts a (key END ∷ key ELSE ∷ key BEGIN ∷ us) → IsPart us b (key END ∷ vs) →
        IsStmt (key GUARD ∷ key BEGIN ∷ ts) (Guard a b) vs
    return : {ts us : List Token} {e : Expr} → IsExpr ts e us → IsStmt (key RETURN ∷ ts) (Return e) us
    fail : {us : List Token} → IsStmt (key FAIL ∷ us) FailNow us

  pub data IsPart : List Token → Block → List Token → Type 0 where
    end : {us : List Token} → IsPart us done us
    next : {ts us vs : List Token} {s : Stmt} {b : Block} → IsStmt ts s us → IsPart us b vs → IsPart ts (then s b) vs

abbrev pub IsPlan : List Token → Block → Type 0
IsPlan ts b = IsPart ts b []
