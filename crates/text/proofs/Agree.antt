-- The two grammars agree. Assumes nothing.
use Rattle.std.proofs.Common.{◌≡◌, ℕ, List, [], ◌∷◌, ◌++◌, sym, refl, ap, ◌∙◌, subst, append_assoc, append-nil}
use Rattle.plans.specs.Plan.{Expr, Stmt, Block}
use Rattle.text.specs.Token.{SET, DO, TRIES, PAUSE, SLEEP, HEAR, FOR, IF, ELSE, WHILE, GUARD, RETURN, FAIL, NOT, OPEN, CLOSE, BEGIN, END, COMMA, PLUS, MINUS, TIMES, LESS, SAME, Token, number, variable, name, op, key}
use Rattle.text.specs.Grammar.{Level, Reads, literal, var, negation, bracket, factor, times, term, plus, minus, side, less, same, More, close, comma, Args, none, some, IsStmt, set, does, sleep, hear, if, while, guard, return, fail, IsPart, end, next, IsPlan}
use Rattle.text.specs.Reference.{Says, Further, Exprs, AStmt, APart}

pub to_reads : {l : Level} {d : ℕ} {xs : List Token} {e : Expr} → Says l d xs e → (us : List Token) → Reads l d (xs ++ us) e us
to_reads (Says.literal n) us = literal n
to_reads (Says.var v) us = var v
to_reads (Says.negation x) us = negation (to_reads x us)
to_reads (Says.bracket {xs = xs} x) us = bracket (rw (append_assoc xs (key CLOSE ∷ []) us) (to_reads x (key CLOSE ∷ us)))
to_reads (Says.factor x) us = factor (to_reads x us)
to_reads (Says.times {xs = xs} {ys = ys} x y) us = rw (append_assoc xs (op TIMES ∷ ys) us) (times (to_reads x (op TIMES ∷ (ys ++ us))) (to_reads y us))
to_reads (Says.term x) us = term (to_reads x us)
to_reads (Says.plus {xs = xs} {ys = ys} x y) us = rw (append_assoc xs (op PLUS ∷ ys) us) (plus (to_reads x (op PLUS ∷ (ys ++ us))) (to_reads y us))
to_reads (Says.minus {xs = xs} {ys = ys} x y) us = rw (append_assoc xs (op MINUS ∷ ys) us) (minus (to_reads x (op MINUS ∷ (ys ++ us))) (to_reads y us))
to_reads (Says.side x) us = side (to_reads x us)
to_reads (Says.less {xs = xs} {ys = ys} x y) us = rw (append_assoc xs (op LESS ∷ ys) us) (less (to_reads x (op LESS ∷ (ys ++ us))) (to_reads y us))
to_reads (Says.same {xs = xs} {ys = ys} x y) us = rw (append_assoc xs (op SAME ∷ ys) us) (same (to_reads x (op SAME ∷ (ys ++ us))) (to_reads y us))

-- what was read is the tokens in front of what follows
abbrev pub Front : (List Token → Type 0) → List Token → List Token → Type 0
Front P ts us = (xs : List Token) × (ts ≡ xs ++ us) × P xs

joined : (xs ys ts us vs : List Token) (t : Token) → ts ≡ xs ++ (t ∷ us) → us ≡ ys ++ vs → ts ≡ (xs ++ (t ∷ ys)) ++ vs
joined xs ys ts us vs t p q = p ∙ (ap (λ (z : List Token). xs ++ (t ∷ z)) q ∙ sym (append_assoc xs (t ∷ ys) vs))

pub to_says : {l : Level} {d : ℕ} {ts us : List Token} {e : Expr} → Reads l d ts e us → Front (λ xs. Says l d xs e) ts us
to_says (literal n) = (number n ∷ [], refl, Says.literal n)
to_says (var v) = (variable v ∷ [], refl, Says.var v)
to_says (negation x) = let r = to_says x in (key NOT ∷ r.0, ap (λ (z : List Token). key NOT ∷ z) r.1, Says.negation r.2)
to_says (bracket {us = us} x) = let r = to_says x in (key OPEN ∷ (r.0 ++ (key CLOSE ∷ [])), ap (λ (z : List Token). key OPEN ∷ z) (joined r.0 [] _ us us (key CLOSE) r.1 refl), Says.bracket r.2)
to_says (factor x) = let r = to_says x in (r.0, r.1, Says.factor r.2)
to_says (times x y) = let r = to_says x in let s = to_says y in (r.0 ++ (op TIMES ∷ s.0), joined r.0 s.0 _ _ _ (op TIMES) r.1 s.1, Says.times r.2 s.2)
to_says (term x) = let r = to_says x in (r.0, r.1, Says.term r.2)
to_says (plus x y) = let r = to_says x in let s = to_says y in (r.0 ++ (op PLUS ∷ s.0), joined r.0 s.0 _ _ _ (op PLUS) r.1 s.1, Says.plus r.2 s.2)
to_says (minus x y) = let r = to_says x in let s = to_says y in (r.0 ++ (op MINUS ∷ s.0), joined r.0 s.0 _ _ _ (op MINUS) r.1 s.1, Says.minus r.2 s.2)
to_says (side x) = let r = to_says x in (r.0, r.1, Says.side r.2)
to_says (less x y) = let r = to_says x in let s = to_says y in (r.0 ++ (op LESS ∷ s.0), joined r.0 s.0 _ _ _ (op LESS) r.1 s.1, Says.less r.2 s.2)
to_says (same x y) = let r = to_says x in let s = to_says y in (r.0 ++ (op SAME ∷ s.0), joined r.0 s.0 _ _ _ (op SAME) r.1 s.1, Says.same r.2 s.2)

further_more : {xs : List Token} {es : List Expr} → Further xs es → (us : List Token) → More (xs ++ (key CLOSE ∷ us)) es us
further_more Further.end us = close
further_more (Further.comma {xs = xs} {ys = ys} x y) us = comma (rw (append_assoc xs ys (key CLOSE ∷ us)) (to_reads x (ys ++ (key CLOSE ∷ us)))) (further_more y us)

exprs_args : {xs : List Token} {es : List Expr} → Exprs xs es → (us : List Token) → Args (xs ++ (key CLOSE ∷ us)) es us
exprs_args Exprs.none us = none
exprs_args (Exprs.some {xs = xs} {ys = ys} x y) us = some (rw (append_assoc xs ys (key CLOSE ∷ us)) (to_reads x (ys ++ (key CLOSE ∷ us)))) (further_more y us)

mutual
  pub to_stmt : {xs : List Token} {s : Stmt} → AStmt xs s → (us : List Token) → IsStmt (xs ++ us) s us
  to_stmt (AStmt.set x) us = set (to_reads x us)
  to_stmt (AStmt.does {xs = xs} {n = n} {p = p} x ok) us =
      does (rw (append_assoc xs (key CLOSE ∷ key TRIES ∷ number n ∷ key PAUSE ∷ number p ∷ []) us) (exprs_args x (key TRIES ∷ number n ∷ key PAUSE ∷ number p ∷ us))) ok
  to_stmt (AStmt.sleep x) us = sleep (to_reads x us)
  to_stmt (AStmt.hear ok x) us = hear ok (to_reads x us)
  to_stmt (AStmt.if {xs = xs} {ys = ys} {zs = zs} x y z) us =
      if {us = (ys ++ (key END ∷ key ELSE ∷ key BEGIN ∷ (zs ++ (key END ∷ [])))) ++ us} {vs = (zs ++ (key END ∷ [])) ++ us} (rw (append_assoc xs (key BEGIN ∷ (ys ++ (key END ∷ key ELSE ∷ key BEGIN ∷ (zs ++ (key END ∷ []))))) us) (to_reads x _))
      (rw (append_assoc ys (key END ∷ key ELSE ∷ key BEGIN ∷ (zs ++ (key END ∷ []))) us) (to_part y _))
      (rw (append_assoc zs (key END ∷ []) us) (to_part z (key END ∷ us)))
  to_stmt (AStmt.while {xs = xs} {ys = ys} x y) us =
      while {us = (ys ++ (key END ∷ [])) ++ us} (rw (append_assoc xs (key BEGIN ∷ (ys ++ (key END ∷ []))) us) (to_reads x _)) (rw (append_assoc ys (key END ∷ []) us) (to_part y (key END ∷ us)))
  to_stmt (AStmt.guard {xs = xs} {ys = ys} x y) us =
      guard {us = (ys ++ (key END ∷ [])) ++ us} (rw (append_assoc xs (key END ∷ key ELSE ∷ key BEGIN ∷ (ys ++ (key END ∷ []))) us) (to_part x _)) (rw (append_assoc ys (key END ∷ []) us) (to_part y (key END ∷ us)))
  to_stmt (AStmt.return x) us = return (to_reads x us)
  to_stmt AStmt.fail us = fail

  pub to_part : {xs : List Token} {b : Block} → APart xs b → (us : List Token) → IsPart (xs ++ us) b us
  to_part APart.end us = end
  to_part (APart.next {xs = xs} {ys = ys} x y) us = next {us = ys ++ us} (rw (append_assoc xs ys us) (to_stmt x (ys ++ us))) (to_part y us)

more_further : {ts us : List Token} {es : List Expr} → More ts es us → Front (λ xs. Further xs es) ts (key CLOSE ∷ us)
more_further close = ([], refl, Further.end)
more_further (comma {vs = vs} x y) =
    let r = to_says x in let s = more_further y in
    (key COMMA ∷ (r.0 ++ s.0), ap (λ (z : List Token). key COMMA ∷ z) (r.1 ∙ (ap (λ (z : List Token). r.0 ++ z) s.1 ∙ sym (append_assoc r.0 s.0 (key CLOSE ∷ vs)))), Further.comma r.2 s.2)

args_exprs : {ts us : List Token} {es : List Expr} → Args ts es us → Front (λ xs. Exprs xs es) ts (key CLOSE ∷ us)
args_exprs none = ([], refl, Exprs.none)
args_exprs (some {vs = vs} x y) =
    let r = to_says x in let s = more_further y in
    (r.0 ++ s.0, r.1 ∙ (ap (λ (z : List Token). r.0 ++ z) s.1 ∙ sym (append_assoc r.0 s.0 (key CLOSE ∷ vs))), Exprs.some r.2 s.2)

-- x behind xs: the tokens of both are in front of what follows x
behind : (xs ys ts us vs : List Token) → ts ≡ xs ++ us → us ≡ ys ++ vs → ts ≡ (xs ++ ys) ++ vs
behind xs ys ts us vs p q = p ∙ (ap (λ (z : List Token). xs ++ z) q ∙ sym (append_assoc xs ys vs))

braces : (xs ts us : List Token) → ts ≡ xs ++ (key END ∷ us) → ts ≡ (xs ++ (key END ∷ [])) ++ us
braces xs ts us p = p ∙ sym (append_assoc xs (key END ∷ []) us)

halves : (xs ys ts us vs : List Token) → ts ≡ xs ++ (key END ∷ key ELSE ∷ key BEGIN ∷ us) → us ≡ ys ++ (key END ∷ vs) →
    ts ≡ (xs ++ (key END ∷ key ELSE ∷ key BEGIN ∷ (ys ++ (key END ∷ [])))) ++ vs
halves xs ys ts us vs p q =
    p ∙ (ap (λ (z : List Token). xs ++ (key END ∷ key ELSE ∷ key BEGIN ∷ z)) (q ∙ sym (append_assoc ys (key END ∷ []) vs)) ∙ sym (append_assoc xs (key END ∷ key ELSE ∷ key BEGIN ∷ (ys ++ (key END ∷ []))) vs))

mutual
  pub from_stmt : {ts us : List Token} {s : Stmt} → IsStmt ts s us → Front (λ xs. AStmt xs s) ts us
  from_stmt (set {v = v} x) = let r = to_says x in (key SET ∷ variable v ∷ op SAME ∷ r.0, ap (λ (z : List Token). key SET ∷ variable v ∷ op SAME ∷ z) r.1, AStmt.set r.2)
  from_stmt (does {us = us} {v = v} {k = k} {n = n} {p = p} x ok) =
      let r = args_exprs x in (
        variable v ∷ op SAME ∷ key DO ∷ number k ∷ key OPEN ∷ (r.0 ++ (key CLOSE ∷ key TRIES ∷ number n ∷ key PAUSE ∷ number p ∷ [])),
        ap (λ (z : List Token). variable v ∷ op SAME ∷ key DO ∷ number k ∷ key OPEN ∷ z) (r.1 ∙ sym (append_assoc r.0 (key CLOSE ∷ key TRIES ∷ number n ∷ key PAUSE ∷ number p ∷ []) us)),
        AStmt.does r.2 ok,
      )
  from_stmt (sleep x) = let r = to_says x in (key SLEEP ∷ r.0, ap (λ (z : List Token). key SLEEP ∷ z) r.1, AStmt.sleep r.2)
  from_stmt (hear {v = v} {w = w} {n = n} ok x) =
      let r = to_says x in (
        variable v ∷ key COMMA ∷ variable w ∷ op SAME ∷ key HEAR ∷ name n ∷ key FOR ∷ r.0,
        ap (λ (z : List Token). variable v ∷ key COMMA ∷ variable w ∷ op SAME ∷ key HEAR ∷ name n ∷ key FOR ∷ z) r.1,
        AStmt.hear ok r.2,
      )
  from_stmt (if {us = us} {vs = vs} {ws = ws} x y z) =
      let r = to_says x in let s = from_part y in let t = from_part z in (
        key IF ∷ (r.0 ++ (key BEGIN ∷ (s.0 ++ (key END ∷ key ELSE ∷ key BEGIN ∷ (t.0 ++ (key END ∷ [])))))),
        ap (λ (q : List Token). key IF ∷ q) (joined r.0 (s.0 ++ (key END ∷ key ELSE ∷ key BEGIN ∷ (t.0 ++ (key END ∷ [])))) _ us ws (key BEGIN) r.1 (halves s.0 t.0 us vs ws s.1 t.1)),
        AStmt.if r.2 s.2 t.2,
      )
  from_stmt (while {us = us} {vs = vs} x y) =
      let r = to_says x in let s = from_part y in (
        key WHILE ∷ (r.0 ++ (key BEGIN ∷ (s.0 ++ (key END ∷ [])))),
        ap (λ (q : List Token). key WHILE ∷ q) (joined r.0 (s.0 ++ (key END ∷ [])) _ us vs (key BEGIN) r.1 (braces s.0 us vs s.1)),
        AStmt.while r.2 s.2,
      )
  from_stmt (guard {ts = ts} {us = us} {vs = vs} y z) =
      let s = from_part y in let t = from_part z in (
        key GUARD ∷ key BEGIN ∷ (s.0 ++ (key END ∷ key ELSE ∷ key BEGIN ∷ (t.0 ++ (key END ∷ [])))),
        ap (λ (q : List Token). key GUARD ∷ key BEGIN ∷ q) (halves s.0 t.0 ts us vs s.1 t.1),
        AStmt.guard s.2 t.2,
      )
  from_stmt (return x) = let r = to_says x in (key RETURN ∷ r.0, ap (λ (z : List Token). key RETURN ∷ z) r.1, AStmt.return r.2)
  from_stmt fail = (key FAIL ∷ [], refl, AStmt.fail)

  pub from_part : {ts us : List Token} {b : Block} → IsPart ts b us → Front (λ xs. APart xs b) ts us
  from_part end = ([], refl, APart.end)
  from_part (next x y) = let r = from_stmt x in let s = from_part y in (r.0 ++ s.0, behind r.0 s.0 _ _ _ r.1 s.1, APart.next r.2 s.2)

-- the two grammars have the same plans
pub same_plans : (ts : List Token) (b : Block) → (APart ts b → IsPlan ts b) × (IsPlan ts b → APart ts b)
same_plans ts b = (λ x. subst (λ (z : List Token). IsPart z b []) (append-nil ts) (to_part x []), λ x. let r = from_part x in subst (λ (z : List Token). APart z b) (sym (append-nil r.0) ∙ sym r.1) r.2)
