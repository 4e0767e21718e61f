-- What is in the grammar the reader reads: statements, parts, plans. Assumes nothing.
use Rattle.std.proofs.Common.{◌≡◌, ℕ, zero, suc, ◌<◌, ◌≤◌, true, false, List, [], ◌∷◌, length, refl, le_refl, arith}
use Rattle.plans.specs.Plan.{Expr, Stmt, Block}
use Rattle.text.specs.Token.{Key, BEGIN, Token, number, variable, name, op, key, got}
use Rattle.text.specs.Grammar.{Level, Reads, literal, var, negation, bracket, factor, times, term, plus, minus, side, less, same, More, close, comma, Args, none, some, IsStmt, set, does, sleep, hear, if, while, guard, return, fail, IsPart, end, next, IsPlan}
use Rattle.text.specs.Parser.{and_then, product_op, sum_op, compare_op, code_of, after, after_same, with_number, with_variable, with_name, if_ok, closes, args_s, list_s, do_s, hear_s, assign_s, part_s, key_s, stmt_s, ended, block_s, plan_s}
use Rattle.text.proofs.Complete.{Fresh, shorter, expr_complete}

-- what can follow an expression: no token that joins
pub fresh_key : (k : Key) (us : List Token) → Fresh (key k ∷ us)
unfolding product_op sum_op compare_op
fresh_key k us = record { products = refl; sums = refl; compares = refl }

pub more_shorter : {ts us : List Token} {es : List Expr} → More ts es us → length us < length ts
more_shorter close = omega arith
more_shorter (comma x y) = omega (arith, shorter x, more_shorter y)

pub args_shorter : {ts us : List Token} {es : List Expr} → Args ts es us → length us < length ts
args_shorter none = omega arith
args_shorter (some x y) = omega (arith, shorter x, more_shorter y)

mutual
  pub stmt_shorter : {ts us : List Token} {s : Stmt} → IsStmt ts s us → length us < length ts
  stmt_shorter (set x) = omega (arith, shorter x)
  stmt_shorter (does x ok) = omega (arith, args_shorter x)
  stmt_shorter (sleep x) = omega (arith, shorter x)
  stmt_shorter (hear ok x) = omega (arith, shorter x)
  stmt_shorter (if x y z) = omega (arith, shorter x, part_shorter y, part_shorter z)
  stmt_shorter (while x y) = omega (arith, shorter x, part_shorter y)
  stmt_shorter (guard y z) = omega (arith, part_shorter y, part_shorter z)
  stmt_shorter (return x) = omega (arith, shorter x)
  stmt_shorter fail = omega arith

  pub part_shorter : {ts us : List Token} {b : Block} → IsPart ts b us → length us ≤ length ts
  part_shorter end = le_refl _
  part_shorter (next x y) = omega (arith, stmt_shorter x, part_shorter y)

pub ended_fresh : (ts : List Token) → ended ts ≡ true → Fresh ts
unfolding ended
ended_fresh [] h = record { products = tt; sums = tt; compares = tt }
ended_fresh (number n ∷ ts) h = let z : ◌≡◌ {A = ℕ} 0 1 = cc in absurd (omega arith)
ended_fresh (variable n ∷ ts) h = let z : ◌≡◌ {A = ℕ} 0 1 = cc in absurd (omega arith)
ended_fresh (name n ∷ ts) h = let z : ◌≡◌ {A = ℕ} 0 1 = cc in absurd (omega arith)
ended_fresh (op n ∷ ts) h = let z : ◌≡◌ {A = ℕ} 0 1 = cc in absurd (omega arith)
ended_fresh (key k ∷ ts) h = fresh_key k ts

fresh_variable : (v : ℕ) (us : List Token) → Fresh (variable v ∷ us)
unfolding product_op sum_op compare_op
fresh_variable v us = record { products = refl; sums = refl; compares = refl }

stmt_fresh : {ts us : List Token} {s : Stmt} → IsStmt ts s us → Fresh ts
stmt_fresh (set x) = fresh_key _ _
stmt_fresh (does x ok) = fresh_variable _ _
stmt_fresh (sleep x) = fresh_key _ _
stmt_fresh (hear ok x) = fresh_variable _ _
stmt_fresh (if x y z) = fresh_key _ _
stmt_fresh (while x y) = fresh_key _ _
stmt_fresh (guard y z) = fresh_key _ _
stmt_fresh (return x) = fresh_key _ _
stmt_fresh fail = fresh_key _ _

stmt_begins : {ts us : List Token} {s : Stmt} → IsStmt ts s us → ended ts ≡ false
unfolding ended code_of
stmt_begins (set x) = refl
stmt_begins (does x ok) = refl
stmt_begins (sleep x) = refl
stmt_begins (hear ok x) = refl
stmt_begins (if x y z) = refl
stmt_begins (while x y) = refl
stmt_begins (guard y z) = refl
stmt_begins (return x) = refl
stmt_begins fail = refl

part_fresh : {ts us : List Token} {b : Block} → IsPart ts b us → Fresh us → Fresh ts
part_fresh end f = f
part_fresh (next x y) f = stmt_fresh x

reads_opens : {l : Level} {d : ℕ} {ts us : List Token} {e : Expr} → Reads l d ts e us → closes ts ≡ false
unfolding closes code_of
reads_opens (literal n) = refl
reads_opens (var v) = refl
reads_opens (negation x) = refl
reads_opens (bracket x) = refl
reads_opens (factor x) = reads_opens x
reads_opens (times x y) = reads_opens x
reads_opens (term x) = reads_opens x
reads_opens (plus x y) = reads_opens x
reads_opens (minus x y) = reads_opens x
reads_opens (side x) = reads_opens x
reads_opens (less x y) = reads_opens x
reads_opens (same x y) = reads_opens x

more_fresh : {ts us : List Token} {es : List Expr} → More ts es us → Fresh ts
more_fresh close = fresh_key _ _
more_fresh (comma x y) = fresh_key _ _

more_complete : {ts us : List Token} {es : List Expr} → More ts es us → (n : ℕ) → length ts ≤ n → args_s n ts ≡ got es us
unfolding args_s closes after code_of and_then
more_complete close zero le = absurd (omega arith)
more_complete close (suc n) le = refl
more_complete (comma x y) zero le = absurd (omega arith)
more_complete (comma x y) (suc n) le = rw (expr_complete x (more_fresh y), more_complete y n (omega (arith, shorter x))) refl

args_complete : {ts us : List Token} {es : List Expr} → Args ts es us → list_s ts ≡ got es us
unfolding list_s closes after code_of and_then
args_complete none = refl
args_complete (some x y) = rw (reads_opens x, expr_complete x (more_fresh y), more_complete y _ (le_refl _)) refl

mutual
  unfolding stmt_s key_s assign_s do_s hear_s part_s block_s after after_same with_number with_variable with_name if_ok code_of and_then ended

  pub stmt_complete : {ts us : List Token} {s : Stmt} → IsStmt ts s us → (n : ℕ) → length ts ≤ n → Fresh us → stmt_s (λ t. block_s n t) ts ≡ got s us
  stmt_complete (set x) n le f = rw (expr_complete x f) refl
  stmt_complete (does x ok) n le f = rw (args_complete x, ok) refl
  stmt_complete (sleep x) n le f = rw (expr_complete x f) refl
  stmt_complete (hear ok x) n le f = rw (expr_complete x f, ok) refl
  stmt_complete (if x y z) n le f =
      rw (expr_complete x (fresh_key BEGIN _), part_complete y n (omega (arith, shorter x)) refl, part_complete z n (omega (arith, shorter x, part_shorter y)) refl) refl
  stmt_complete (while x y) n le f = rw (expr_complete x (fresh_key BEGIN _), part_complete y n (omega (arith, shorter x)) refl) refl
  stmt_complete (guard y z) n le f = rw (part_complete y n (omega arith) refl, part_complete z n (omega (arith, part_shorter y)) refl) refl
  stmt_complete (return x) n le f = rw (expr_complete x f) refl
  stmt_complete fail n le f = refl

  pub part_complete : {ts us : List Token} {b : Block} → IsPart ts b us → (n : ℕ) → length ts < n → ended us ≡ true → block_s n ts ≡ got b us
  part_complete end zero le f = absurd (omega arith)
  part_complete end (suc n) le f = rw f refl
  part_complete (next x y) zero le f = absurd (omega arith)
  part_complete (next {us = us} {vs = vs} x y) (suc n) le f =
      rw (stmt_begins x, stmt_complete x n (omega arith) (part_fresh y (ended_fresh vs f)), part_complete y n (omega (arith, stmt_shorter x)) f) refl

pub plan_complete : (ts : List Token) (b : Block) → IsPlan ts b → plan_s ts ≡ got b []
unfolding plan_s ended
plan_complete ts b x = part_complete x (suc (length ts)) (le_refl _) refl

-- at most one plan for the tokens
pub one_plan : (ts : List Token) (a b : Block) → IsPlan ts a → IsPlan ts b → a ≡ b
one_plan ts a b x y = let p = plan_complete ts a x in let q = plan_complete ts b y in cc
