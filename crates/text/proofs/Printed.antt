-- What is printed is in the grammar, and needs no deeper brackets than any text of the plan. Assumes nothing.
use Rattle.std.proofs.Common.{◌≡◌, ℕ, zero, suc, ◌<◌, ◌≤◌, max, Bool, true, false, not, ◌&&◌, eqb, ltb, leb, List, [], ◌∷◌, length, refl, le_refl, arith}
use Rattle.std.proofs.lemmas.Bool.Decides.{nat_tests}
use Rattle.plans.specs.Plan.{Name, Expr, Lit, Var, Plus, Minus, Times, Less, Same, Not, Stmt, Set, Do, Sleep, Hear, If, While, Guard, Return, FailNow, Block, done, then}
use Rattle.text.specs.Token.{CLOSE, PLUS, MINUS, TIMES, LESS, SAME, Token, op, key}
use Rattle.text.specs.Grammar.{do_ok, Level, unary, product, sum, compare, Reads, literal, var, negation, bracket, factor, times, term, plus, minus, side, less, same, More, close, comma, Args, none, some, IsStmt, set, does, sleep, hear, if, while, guard, return, fail, IsPart, end, next}
use Rattle.plans.specs.Plan.{every, expr_ok, stmt_ok, block_ok, word_ok}
use Rattle.text.specs.Printer.{rank, wrap, fits, put, put_more, put_args, put_stmt, put_part, inside, deep, deeps, stmt_deep, part_deep}

pub lift : {d : ℕ} {ts us : List Token} {e : Expr} (own l : Level) → fits own l ≡ true → Reads own d ts e us → Reads l d ts e us
lift unary unary h x = x
lift unary product h x = factor x
lift unary sum h x = term (factor x)
lift unary compare h x = side (term (factor x))
lift product unary h x = let z : ◌≡◌ {A = ℕ} 0 1 = cc in absurd (omega arith)
lift product product h x = x
lift product sum h x = term x
lift product compare h x = side (term x)
lift sum unary h x = let z : ◌≡◌ {A = ℕ} 0 1 = cc in absurd (omega arith)
lift sum product h x = let z : ◌≡◌ {A = ℕ} 0 1 = cc in absurd (omega arith)
lift sum sum h x = x
lift sum compare h x = side x
lift compare unary h x = let z : ◌≡◌ {A = ℕ} 0 1 = cc in absurd (omega arith)
lift compare product h x = let z : ◌≡◌ {A = ℕ} 0 1 = cc in absurd (omega arith)
lift compare sum h x = let z : ◌≡◌ {A = ℕ} 0 1 = cc in absurd (omega arith)
lift compare compare h x = x

fits_compare : (own : Level) → fits own compare ≡ true
fits_compare unary = refl
fits_compare product = refl
fits_compare sum = refl
fits_compare compare = refl

unary_fits : (l : Level) → fits unary l ≡ true
unary_fits unary = refl
unary_fits product = refl
unary_fits sum = refl
unary_fits compare = refl

wrapped : (own l : Level) (d n : ℕ) (f : List Token → List Token) (e : Expr) (us : List Token) →
    ((c : ℕ) → n ≤ c → (vs : List Token) → Reads own c (f vs) e vs) → inside (fits own l) n ≤ d → Reads l d (wrap (fits own l) f us) e us
unfolding wrap inside
wrapped own l d n f e us h le = go (fits own l) refl d le
  where
    go : (b : Bool) → fits own l ≡ b → (c : ℕ) → inside b n ≤ c → Reads l c (wrap b f us) e us
    go true i c q = lift own l i (h c q us)
    go false i zero q = absurd (omega arith)
    go false i (suc c) q = lift unary l (unary_fits l) (bracket (lift own compare (fits_compare own) (h c (omega arith) (key CLOSE ∷ us))))

pub put_reads : (l : Level) (e : Expr) (d : ℕ) (us : List Token) → deep l e ≤ d → Reads l d (put l e us) e us
unfolding put deep
put_reads l (Lit n) d us le = lift unary l (unary_fits l) (literal n)
put_reads l (Var n) d us le = lift unary l (unary_fits l) (var n)
put_reads l (Plus a b) d us le = wrapped sum l d (max (deep sum a) (deep product b)) _ _ us (λ c q vs. plus (put_reads sum a c (op PLUS ∷ put product b vs) (omega arith)) (put_reads product b c vs (omega arith))) le
put_reads l (Minus a b) d us le = wrapped sum l d (max (deep sum a) (deep product b)) _ _ us (λ c q vs. minus (put_reads sum a c (op MINUS ∷ put product b vs) (omega arith)) (put_reads product b c vs (omega arith))) le
put_reads l (Times a b) d us le = wrapped product l d (max (deep product a) (deep unary b)) _ _ us (λ c q vs. times (put_reads product a c (op TIMES ∷ put unary b vs) (omega arith)) (put_reads unary b c vs (omega arith))) le
put_reads l (Less a b) d us le = wrapped compare l d (max (deep compare a) (deep sum b)) _ _ us (λ c q vs. less (put_reads compare a c (op LESS ∷ put sum b vs) (omega arith)) (put_reads sum b c vs (omega arith))) le
put_reads l (Same a b) d us le = wrapped compare l d (max (deep compare a) (deep sum b)) _ _ us (λ c q vs. same (put_reads compare a c (op SAME ∷ put sum b vs) (omega arith)) (put_reads sum b c vs (omega arith))) le
put_reads l (Not a) d us le = lift unary l (unary_fits l) (negation (put_reads unary a d us le))

-- a looser place needs no more brackets
inside_le : (o l m n : ℕ) → l ≤ m → inside (leb o m) n ≤ inside (leb o l) n
unfolding inside
inside_le o l m n h = go (leb o l) (leb o m) refl refl
  where
    go : (a b : Bool) → leb o l ≡ a → leb o m ≡ b → inside b n ≤ inside a n
    go true true p q = le_refl n
    go true false p q = absurd (let x : o ≤ l = grind (arith, nat_tests) in let y : m < o = grind (arith, nat_tests) in omega arith)
    go false true p q = omega arith
    go false false p q = le_refl _

inside_any : (b : Bool) (n : ℕ) → inside b n ≤ suc n
unfolding inside
inside_any true n = omega arith
inside_any false n = le_refl _

deep_down : (l m : Level) (e : Expr) → rank l ≤ rank m → deep m e ≤ deep l e
unfolding deep
deep_down l m (Lit n) h = le_refl _
deep_down l m (Var n) h = le_refl _
deep_down l m (Plus a b) h = inside_le _ _ _ _ h
deep_down l m (Minus a b) h = inside_le _ _ _ _ h
deep_down l m (Times a b) h = inside_le _ _ _ _ h
deep_down l m (Less a b) h = inside_le _ _ _ _ h
deep_down l m (Same a b) h = inside_le _ _ _ _ h
deep_down l m (Not a) h = le_refl _

deep_once : (l : Level) (e : Expr) → deep l e ≤ suc (deep compare e)
unfolding deep inside
deep_once l (Lit n) = omega arith
deep_once l (Var n) = omega arith
deep_once l (Plus a b) = inside_any _ _
deep_once l (Minus a b) = inside_any _ _
deep_once l (Times a b) = inside_any _ _
deep_once l (Less a b) = inside_any _ _
deep_once l (Same a b) = inside_any _ _
deep_once l (Not a) = omega arith

pub reads_deep : {l : Level} {d : ℕ} {ts us : List Token} {e : Expr} → Reads l d ts e us → deep l e ≤ d
unfolding deep inside
reads_deep (literal n) = omega arith
reads_deep (var n) = omega arith
reads_deep (negation x) = reads_deep x
reads_deep (bracket {e = e} x) = omega (arith, reads_deep x, deep_once unary e)
reads_deep (factor {e = e} x) = omega (arith, reads_deep x, deep_down unary product e (omega arith))
reads_deep (times x y) = omega (arith, reads_deep x, reads_deep y)
reads_deep (term {e = e} x) = omega (arith, reads_deep x, deep_down product sum e (omega arith))
reads_deep (plus x y) = omega (arith, reads_deep x, reads_deep y)
reads_deep (minus x y) = omega (arith, reads_deep x, reads_deep y)
reads_deep (side {e = e} x) = omega (arith, reads_deep x, deep_down sum compare e (omega arith))
reads_deep (less x y) = omega (arith, reads_deep x, reads_deep y)
reads_deep (same x y) = omega (arith, reads_deep x, reads_deep y)

pub more_deep : {ts us : List Token} {es : List Expr} → More ts es us → deeps es ≤ 256
unfolding deeps
more_deep close = omega arith
more_deep (comma x y) = omega (arith, reads_deep x, more_deep y)

pub args_deep : {ts us : List Token} {es : List Expr} → Args ts es us → deeps es ≤ 256
unfolding deeps
args_deep none = omega arith
args_deep (some x y) = omega (arith, reads_deep x, more_deep y)

mutual
  unfolding stmt_deep part_deep

  pub stmt_deep_lem : {ts us : List Token} {s : Stmt} → IsStmt ts s us → stmt_deep s ≤ 256
  stmt_deep_lem (set x) = reads_deep x
  stmt_deep_lem (does x ok) = args_deep x
  stmt_deep_lem (sleep x) = reads_deep x
  stmt_deep_lem (hear ok x) = reads_deep x
  stmt_deep_lem (if x y z) = omega (arith, reads_deep x, part_deep_lem y, part_deep_lem z)
  stmt_deep_lem (while x y) = omega (arith, reads_deep x, part_deep_lem y)
  stmt_deep_lem (guard y z) = omega (arith, part_deep_lem y, part_deep_lem z)
  stmt_deep_lem (return x) = reads_deep x
  stmt_deep_lem fail = omega arith

  pub part_deep_lem : {ts us : List Token} {b : Block} → IsPart ts b us → part_deep b ≤ 256
  part_deep_lem end = omega arith
  part_deep_lem (next x y) = omega (arith, stmt_deep_lem x, part_deep_lem y)

pub put_more_lem : (es : List Expr) (us : List Token) → deeps es ≤ 256 → More (put_more es us) es us
unfolding put_more deeps
put_more_lem [] us le = close
put_more_lem (e ∷ es) us le = comma (put_reads compare e 256 (put_more es us) (omega arith)) (put_more_lem es us (omega arith))

pub put_args_lem : (es : List Expr) (us : List Token) → deeps es ≤ 256 → Args (put_args es us) es us
unfolding put_args deeps
put_args_lem [] us le = none
put_args_lem (e ∷ es) us le = some (put_reads compare e 256 (put_more es us) (omega arith)) (put_more_lem es us (omega arith))

pub and_left : (a b : Bool) → a && b ≡ true → a ≡ true
and_left true b h = refl
and_left false b h = h

pub and_right : (a b : Bool) → a && b ≡ true → b ≡ true
and_right true b h = h
and_right false b h = let z : ◌≡◌ {A = ℕ} 0 1 = cc in absurd (omega arith)

pub and_both : (a b : Bool) → a ≡ true → b ≡ true → a && b ≡ true
and_both true b p q = q
and_both false b p q = p

-- what the grammar asks of a Do and of a Hear, out of what Plan asks
do_ok_lem : (v k : ℕ) (es : List Expr) (n p : ℕ) → stmt_ok (Do v k es n p) ≡ true → do_ok k es n p ≡ true
unfolding stmt_ok
do_ok_lem v k es n p h =
    let h1 = and_left (ltb v 64 && ltb k 4294967296 && leb (length es) 16 && every expr_ok es && ltb 0 n && leb n 32) (leb p 86400000) h in
    let p1 = and_right (ltb v 64 && ltb k 4294967296 && leb (length es) 16 && every expr_ok es && ltb 0 n && leb n 32) (leb p 86400000) h in
    let h2 = and_left (ltb v 64 && ltb k 4294967296 && leb (length es) 16 && every expr_ok es && ltb 0 n) (leb n 32) h1 in
    let p2 = and_right (ltb v 64 && ltb k 4294967296 && leb (length es) 16 && every expr_ok es && ltb 0 n) (leb n 32) h1 in
    let h3 = and_left (ltb v 64 && ltb k 4294967296 && leb (length es) 16 && every expr_ok es) (ltb 0 n) h2 in
    let p3 = and_right (ltb v 64 && ltb k 4294967296 && leb (length es) 16 && every expr_ok es) (ltb 0 n) h2 in
    let h4 = and_left (ltb v 64 && ltb k 4294967296 && leb (length es) 16) (every expr_ok es) h3 in
    let p5 = and_right (ltb v 64 && ltb k 4294967296) (leb (length es) 16) h4 in
    let h5 = and_left (ltb v 64 && ltb k 4294967296) (leb (length es) 16) h4 in
    let p6 = and_right (ltb v 64) (ltb k 4294967296) h5 in
    rw (p6, p5, p3, p2, p1) refl

hear_ok : (v w : ℕ) (n : Name) (e : Expr) → stmt_ok (Hear v w n e) ≡ true → not (eqb v w) ≡ true
unfolding stmt_ok
hear_ok v w n e h =
    let h1 = and_left (ltb v 64 && ltb w 64 && not (eqb v w) && word_ok n) (expr_ok e) h in
    let h2 = and_left (ltb v 64 && ltb w 64 && not (eqb v w)) (word_ok n) h1 in
    and_right (ltb v 64 && ltb w 64) (not (eqb v w)) h2

mutual
  unfolding put_stmt put_part stmt_deep part_deep stmt_ok block_ok

  pub put_stmt_lem : (s : Stmt) (us : List Token) → stmt_ok s ≡ true → stmt_deep s ≤ 256 → IsStmt (put_stmt s us) s us
  put_stmt_lem (Set v e) us ok le = set (put_reads compare e 256 us le)
  put_stmt_lem (Do v k es n p) us ok le = does (put_args_lem es _ le) (do_ok_lem v k es n p ok)
  put_stmt_lem (Sleep e) us ok le = sleep (put_reads compare e 256 us le)
  put_stmt_lem (Hear v w n e) us ok le = hear (hear_ok v w n e ok) (put_reads compare e 256 us le)
  put_stmt_lem (If e a b) us ok le =
      if (put_reads compare e 256 _ (omega arith)) (put_part_lem a _ (and_right (expr_ok e) (block_ok a) (and_left (expr_ok e && block_ok a) (block_ok b) ok)) (omega arith))
      (put_part_lem b _ (and_right (expr_ok e && block_ok a) (block_ok b) ok) (omega arith))
  put_stmt_lem (While e a) us ok le = while (put_reads compare e 256 _ (omega arith)) (put_part_lem a _ (and_right (expr_ok e) (block_ok a) ok) (omega arith))
  put_stmt_lem (Guard a b) us ok le = guard (put_part_lem a _ (and_left (block_ok a) (block_ok b) ok) (omega arith)) (put_part_lem b _ (and_right (block_ok a) (block_ok b) ok) (omega arith))
  put_stmt_lem (Return e) us ok le = return (put_reads compare e 256 us le)
  put_stmt_lem FailNow us ok le = fail

  pub put_part_lem : (b : Block) (us : List Token) → block_ok b ≡ true → part_deep b ≤ 256 → IsPart (put_part b us) b us
  put_part_lem done us ok le = end
  put_part_lem (then s b) us ok le = next (put_stmt_lem s (put_part b us) (and_left (stmt_ok s) (block_ok b) ok) (omega arith)) (put_part_lem b us (and_right (stmt_ok s) (block_ok b) ok) (omega arith))
