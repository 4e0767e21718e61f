-- The text of a plan: at most one plan, read exactly, and written so that it is read back. Assumes nothing.
use Rattle.std.proofs.Common.{◌≡◌, ℕ, suc, ◌<◌, ◌≤◌, Bool, true, false, cond, not, ◌&&◌, eqb, ltb, leb, List, [], ◌∷◌, ◌++◌, length, refl, ap, subst, append_assoc, append-nil, arith}
use Rattle.std.proofs.lemmas.Bool.Decides.{nat_tests}
use Rattle.plans.specs.Plan.{Name, Expr, Lit, Var, Plus, Minus, Times, Less, Same, Not, Stmt, Set, Do, Sleep, Hear, If, While, Guard, Return, FailNow, Block, done, then}
use Rattle.text.specs.Token.{SET, DO, TRIES, PAUSE, SLEEP, HEAR, FOR, IF, ELSE, WHILE, GUARD, RETURN, FAIL, NOT, OPEN, CLOSE, BEGIN, END, COMMA, Op, PLUS, MINUS, TIMES, LESS, SAME, Token, number, variable, name, op, key, Got, fails, got}
use Rattle.text.specs.Grammar.{do_ok, Level, unary, product, sum, compare, Reads, literal, var, negation, bracket, factor, times, term, plus, minus, side, less, same, More, close, comma, Args, none, some, IsStmt, set, does, sleep, hear, if, while, guard, return, fail, IsPart, end, next}
use Rattle.plans.specs.Plan.{every, expr_ok, stmt_ok, block_ok, word_ok, size_of}
use Rattle.text.specs.Parser.{plan_s}
use Rattle.text.specs.Printer.{wrap, fits, put, put_more, put_args, put_stmt, put_part, tokens_of, bracketed, between, expr_text, more_text, args_text, indent, line_stmt, lines_of, text_of}
use Rattle.text.specs.Lexer.{spell, spell_op, Lexed, wrong, tokens, key_of, is_wrong, top, tokens_in, token_ok, spelled}
use Rattle.text.specs.Text.{IsText, nothing, plan, sized, whole, parsed, read_text, stmt_named, named, Sayable}
use Rattle.text.proofs.Printed.{and_left, and_right, and_both, part_deep_lem, put_part_lem}
use Rattle.text.proofs.Completes.{plan_complete}
use Rattle.text.proofs.Sounds.{plan_sound}
use Rattle.text.proofs.Lexed.{lexed_ok, apart, Lexes, blank, newline, blanks, nothing_more, token_back}

-- the reader answers exactly the plan of the text
pub read_complete : (limit : ℕ) (bs : List ℕ) (b : Block) → IsText limit bs b → read_text limit bs ≡ plan b
unfolding read_text parsed whole sized
read_complete limit bs b x =
    let s : leb (length bs) limit ≡ true = let q = x.short in grind (arith, nat_tests) in
    let z : leb (size_of b) 4096 ≡ true = let q = x.size in grind (arith, nat_tests) in
    rw (s, x.lexed, plan_complete x.words b x.plan, z) refl

pub one_text : (limit : ℕ) (bs : List ℕ) (a b : Block) → IsText limit bs a → IsText limit bs b → a ≡ b
one_text limit bs a b x y = let p = read_complete limit bs a x in let q = read_complete limit bs b y in cc

sized_is : (a b : Block) → sized a ≡ plan b → (a ≡ b) × (size_of b ≤ 4096)
unfolding sized
sized_is a b h = go (leb (size_of a) 4096) refl h
  where
    go : (c : Bool) → leb (size_of a) 4096 ≡ c → cond c (plan a) nothing ≡ plan b → (a ≡ b) × (size_of b ≤ 4096)
    go true e k = let q : a ≡ b = cc in let l : size_of a ≤ 4096 = grind (arith, nat_tests) in (q, subst (λ c. size_of c ≤ 4096) q l)
    go false e k = let z : ◌≡◌ {A = ℕ} 0 1 = cc in absurd (omega arith)

whole_is : (g : Got Block) (b : Block) → whole g ≡ plan b → (g ≡ got b []) × (size_of b ≤ 4096)
unfolding whole
whole_is fails b h = let z : ◌≡◌ {A = ℕ} 0 1 = cc in absurd (omega arith)
whole_is (got a []) b h = let r = sized_is a b h in (ap (λ c. got c []) r.0, r.1)
whole_is (got a (t ∷ ts)) b h = let z : ◌≡◌ {A = ℕ} 0 1 = cc in absurd (omega arith)

pub read_sound : (limit : ℕ) (bs : List ℕ) (b : Block) → read_text limit bs ≡ plan b → IsText limit bs b
unfolding read_text parsed
read_sound limit bs b h = go (leb (length bs) limit) refl h
  where
    at : length bs ≤ limit → (r : Lexed) → tokens_in bs ≡ r → parsed r ≡ plan b → IsText limit bs b
    at l wrong e k = let z : ◌≡◌ {A = ℕ} 0 1 = cc in absurd (omega arith)
    at l (tokens ts) e k = let r = whole_is (plan_s ts) b k in record { short = l; words = ts; lexed = e; plan = plan_sound ts b r.0; size = r.1 }

    go : (c : Bool) → leb (length bs) limit ≡ c → cond c (parsed (tokens_in bs)) nothing ≡ plan b → IsText limit bs b
    go true e k = at (grind (arith, nat_tests)) (tokens_in bs) refl k
    go false e k = let z : ◌≡◌ {A = ℕ} 0 1 = cc in absurd (omega arith)

-- the plan of ok tokens is ok
abbrev Ok : List Token → Type 0
Ok ts = every token_ok ts ≡ true

tail_ok : (t : Token) (ts : List Token) → Ok (t ∷ ts) → Ok ts
unfolding every
tail_ok t ts h = and_right (token_ok t) (every token_ok ts) h

head_ok : (t : Token) (ts : List Token) → Ok (t ∷ ts) → token_ok t ≡ true
unfolding every
head_ok t ts h = and_left (token_ok t) (every token_ok ts) h

reads_ok : {l : Level} {d : ℕ} {ts us : List Token} {e : Expr} → Reads l d ts e us → Ok ts → (expr_ok e ≡ true) × Ok us
unfolding expr_ok token_ok
reads_ok (literal n) h = (head_ok (number n) _ h, tail_ok (number n) _ h)
reads_ok (var n) h = (head_ok (variable n) _ h, tail_ok (variable n) _ h)
reads_ok (negation x) h = reads_ok x (tail_ok _ _ h)
reads_ok (bracket x) h = let r = reads_ok x (tail_ok _ _ h) in (r.0, tail_ok _ _ r.1)
reads_ok (factor x) h = reads_ok x h
reads_ok (times x y) h = let r = reads_ok x h in let s = reads_ok y (tail_ok _ _ r.1) in (and_both _ _ r.0 s.0, s.1)
reads_ok (term x) h = reads_ok x h
reads_ok (plus x y) h = let r = reads_ok x h in let s = reads_ok y (tail_ok _ _ r.1) in (and_both _ _ r.0 s.0, s.1)
reads_ok (minus x y) h = let r = reads_ok x h in let s = reads_ok y (tail_ok _ _ r.1) in (and_both _ _ r.0 s.0, s.1)
reads_ok (side x) h = reads_ok x h
reads_ok (less x y) h = let r = reads_ok x h in let s = reads_ok y (tail_ok _ _ r.1) in (and_both _ _ r.0 s.0, s.1)
reads_ok (same x y) h = let r = reads_ok x h in let s = reads_ok y (tail_ok _ _ r.1) in (and_both _ _ r.0 s.0, s.1)

more_ok : {ts us : List Token} {es : List Expr} → More ts es us → Ok ts → (every expr_ok es ≡ true) × Ok us
unfolding every
more_ok close h = (refl, tail_ok _ _ h)
more_ok (comma x y) h = let r = reads_ok x (tail_ok _ _ h) in let s = more_ok y r.1 in (and_both _ _ r.0 s.0, s.1)

args_ok : {ts us : List Token} {es : List Expr} → Args ts es us → Ok ts → (every expr_ok es ≡ true) × Ok us
unfolding every
args_ok none h = (refl, tail_ok _ _ h)
args_ok (some x y) h = let r = reads_ok x h in let s = more_ok y r.1 in (and_both _ _ r.0 s.0, s.1)

do_fine : (v k : ℕ) (es : List Expr) (n p : ℕ) → ltb v 64 ≡ true → every expr_ok es ≡ true → do_ok k es n p ≡ true → stmt_ok (Do v k es n p) ≡ true
unfolding stmt_ok
do_fine v k es n p a b h =
    let h1 = and_left (ltb k 4294967296 && leb (length es) 16 && ltb 0 n && leb n 32) (leb p 86400000) h in
    let p1 = and_right (ltb k 4294967296 && leb (length es) 16 && ltb 0 n && leb n 32) (leb p 86400000) h in
    let h2 = and_left (ltb k 4294967296 && leb (length es) 16 && ltb 0 n) (leb n 32) h1 in
    let p2 = and_right (ltb k 4294967296 && leb (length es) 16 && ltb 0 n) (leb n 32) h1 in
    let h3 = and_left (ltb k 4294967296 && leb (length es) 16) (ltb 0 n) h2 in
    let p3 = and_right (ltb k 4294967296 && leb (length es) 16) (ltb 0 n) h2 in
    let p4 = and_left (ltb k 4294967296) (leb (length es) 16) h3 in
    let p5 = and_right (ltb k 4294967296) (leb (length es) 16) h3 in
    rw (a, b, p4, p5, p3, p2, p1) refl

hear_fine : (v w : ℕ) (n : Name) (e : Expr) → ltb v 64 ≡ true → ltb w 64 ≡ true → not (eqb v w) ≡ true → word_ok n ≡ true → expr_ok e ≡ true → stmt_ok (Hear v w n e) ≡ true
unfolding stmt_ok
hear_fine v w n e a b c d f = rw (a, b, c, d, f) refl

mutual
  unfolding stmt_ok block_ok stmt_named named token_ok

  stmt_ok_lem : {ts us : List Token} {s : Stmt} → IsStmt ts s us → Ok ts → (stmt_ok s ≡ true) × (stmt_named s ≡ true) × Ok us
  stmt_ok_lem (set {v = v} x) h =
      let h1 = tail_ok (key SET) _ h in
      let r = reads_ok x (tail_ok _ _ (tail_ok _ _ h1)) in (and_both _ _ (head_ok (variable v) _ h1) r.0, refl, r.1)
  stmt_ok_lem (does {v = v} {k = k} {n = n} {p = p} {es = es} x ok) h =
      let r = args_ok x (tail_ok _ _ (tail_ok _ _ (tail_ok _ _ (tail_ok _ _ (tail_ok _ _ h))))) in
      (do_fine v k es n p (head_ok (variable v) _ h) r.0 ok, refl, tail_ok _ _ (tail_ok _ _ (tail_ok _ _ (tail_ok _ _ r.1))))
  stmt_ok_lem (sleep x) h = let r = reads_ok x (tail_ok _ _ h) in (r.0, refl, r.1)
  stmt_ok_lem (hear {v = v} {w = w} {n = n} {e = e} ok x) h =
      let h2 = tail_ok _ _ (tail_ok _ _ h) in
      let h5 = tail_ok _ _ (tail_ok _ _ (tail_ok _ _ h2)) in
      let m = head_ok (name n) _ h5 in
      let r = reads_ok x (tail_ok _ _ (tail_ok _ _ h5)) in
      (hear_fine v w n e (head_ok (variable v) _ h) (head_ok (variable w) _ h2) ok (and_left (word_ok n) (is_wrong (key_of n)) m) r.0, and_right (word_ok n) (is_wrong (key_of n)) m, r.1)
  stmt_ok_lem (if x y z) h =
      let r = reads_ok x (tail_ok _ _ h) in let s = part_ok y (tail_ok _ _ r.1) in let t = part_ok z (tail_ok _ _ (tail_ok _ _ (tail_ok _ _ s.2))) in
      (and_both _ _ (and_both _ _ r.0 s.0) t.0, and_both _ _ s.1 t.1, tail_ok _ _ t.2)
  stmt_ok_lem (while x y) h = let r = reads_ok x (tail_ok _ _ h) in let s = part_ok y (tail_ok _ _ r.1) in (and_both _ _ r.0 s.0, s.1, tail_ok _ _ s.2)
  stmt_ok_lem (guard y z) h =
      let s = part_ok y (tail_ok _ _ (tail_ok _ _ h)) in let t = part_ok z (tail_ok _ _ (tail_ok _ _ (tail_ok _ _ s.2))) in
      (and_both _ _ s.0 t.0, and_both _ _ s.1 t.1, tail_ok _ _ t.2)
  stmt_ok_lem (return x) h = let r = reads_ok x (tail_ok _ _ h) in (r.0, refl, r.1)
  stmt_ok_lem fail h = (refl, refl, tail_ok _ _ h)

  part_ok : {ts us : List Token} {b : Block} → IsPart ts b us → Ok ts → (block_ok b ≡ true) × (named b ≡ true) × Ok us
  part_ok end h = (refl, refl, h)
  part_ok (next x y) h = let r = stmt_ok_lem x h in let s = part_ok y r.2 in (and_both _ _ r.0 s.0, and_both _ _ r.1 s.1, s.2)

pub sayable : (limit : ℕ) (bs : List ℕ) (b : Block) → IsText limit bs b → Sayable b
sayable limit bs b x =
    let r = part_ok x.plan (lexed_ok bs x.words x.lexed) in
    record { fine = r.0; names = r.1; flat = part_deep_lem x.plan; size = x.size }

-- what Plan asks of a Do and of a Hear, taken apart
pub record DoParts (v k : ℕ) (es : List Expr) (n p : ℕ) : Type 0 where
  pub var : ltb v 64 ≡ true
  pub kind : ltb k 4294967296 ≡ true
  pub few : leb (length es) 16 ≡ true
  pub args : every expr_ok es ≡ true
  pub tries : leb n 32 ≡ true
  pub pause : leb p 86400000 ≡ true

pub do_parts : (v k : ℕ) (es : List Expr) (n p : ℕ) → stmt_ok (Do v k es n p) ≡ true → DoParts v k es n p
unfolding stmt_ok
do_parts v k es n p h =
    let h1 = and_left (ltb v 64 && ltb k 4294967296 && leb (length es) 16 && every expr_ok es && ltb 0 n && leb n 32) (leb p 86400000) h in
    let p1 = and_right (ltb v 64 && ltb k 4294967296 && leb (length es) 16 && every expr_ok es && ltb 0 n && leb n 32) (leb p 86400000) h in
    let h2 = and_left (ltb v 64 && ltb k 4294967296 && leb (length es) 16 && every expr_ok es && ltb 0 n) (leb n 32) h1 in
    let p2 = and_right (ltb v 64 && ltb k 4294967296 && leb (length es) 16 && every expr_ok es && ltb 0 n) (leb n 32) h1 in
    let h3 = and_left (ltb v 64 && ltb k 4294967296 && leb (length es) 16 && every expr_ok es) (ltb 0 n) h2 in
    let h4 = and_left (ltb v 64 && ltb k 4294967296 && leb (length es) 16) (every expr_ok es) h3 in
    let p4 = and_right (ltb v 64 && ltb k 4294967296 && leb (length es) 16) (every expr_ok es) h3 in
    let h5 = and_left (ltb v 64 && ltb k 4294967296) (leb (length es) 16) h4 in
    let p5 = and_right (ltb v 64 && ltb k 4294967296) (leb (length es) 16) h4 in
    record { var = and_left (ltb v 64) (ltb k 4294967296) h5; kind = and_right (ltb v 64) (ltb k 4294967296) h5; few = p5; args = p4; tries = p2; pause = p1 }

pub record HearParts (v w : ℕ) (n : Name) (e : Expr) : Type 0 where
  pub var : ltb v 64 ≡ true
  pub came : ltb w 64 ≡ true
  pub word : word_ok n ≡ true
  pub time : expr_ok e ≡ true

pub hear_parts : (v w : ℕ) (n : Name) (e : Expr) → stmt_ok (Hear v w n e) ≡ true → HearParts v w n e
unfolding stmt_ok
hear_parts v w n e h =
    let h1 = and_left (ltb v 64 && ltb w 64 && not (eqb v w) && word_ok n) (expr_ok e) h in
    let p1 = and_right (ltb v 64 && ltb w 64 && not (eqb v w) && word_ok n) (expr_ok e) h in
    let h2 = and_left (ltb v 64 && ltb w 64 && not (eqb v w)) (word_ok n) h1 in
    let p2 = and_right (ltb v 64 && ltb w 64 && not (eqb v w)) (word_ok n) h1 in
    let h3 = and_left (ltb v 64 && ltb w 64) (not (eqb v w)) h2 in
    record { var = and_left (ltb v 64) (ltb w 64) h3; came = and_right (ltb v 64) (ltb w 64) h3; word = p2; time = p1 }

-- what is written of an expression is its tokens
bracket_back : {rest : List ℕ} {us : List Token} (b : Bool) (w : List ℕ) (f : List Token → List Token) →
    ((bs : List ℕ) (ts : List Token) → apart bs ≡ true → Lexes bs ts → Lexes (w ++ bs) (f ts)) → apart rest ≡ true → Lexes rest us → Lexes (bracketed b w ++ rest) (wrap b f us)
unfolding bracketed wrap spell spelled token_ok
bracket_back true w f h a r = h _ _ a r
bracket_back false w f h a r = rw append_assoc (token_back (key OPEN) refl refl (h _ _ refl (token_back (key CLOSE) refl refl r)))

between_back : {rest : List ℕ} {us : List Token} (o : Op) → Lexes rest us → Lexes (between o ++ rest) (op o ∷ us)
unfolding between spelled token_ok
between_back o r = rw append_assoc (blank (token_back (op o) refl refl (blank r)))

between_apart : (o : Op) (rest : List ℕ) → apart (between o ++ rest) ≡ true
unfolding between
between_apart o rest = refl

expr_back : (l : Level) (e : Expr) {rest : List ℕ} {us : List Token} → expr_ok e ≡ true → apart rest ≡ true → Lexes rest us → Lexes (expr_text l e ++ rest) (put l e us)
unfolding expr_text put expr_ok token_ok spelled spell
expr_back l (Lit n) h a r = token_back (number n) h a r
expr_back l (Var v) h a r = token_back (variable v) h a r
expr_back l (Plus x y) h a r =
    bracket_back (fits sum l) _ _ (λ bs ts b q. rw (append_assoc, append_assoc) (expr_back sum x (and_left (expr_ok x) (expr_ok y) h) (between_apart PLUS _) (between_back PLUS (expr_back product y (and_right (expr_ok x) (expr_ok y) h) b q)))) a r
expr_back l (Minus x y) h a r =
    bracket_back (fits sum l) _ _ (λ bs ts b q. rw (append_assoc, append_assoc) (expr_back sum x (and_left (expr_ok x) (expr_ok y) h) (between_apart MINUS _) (between_back MINUS (expr_back product y (and_right (expr_ok x) (expr_ok y) h) b q)))) a r
expr_back l (Times x y) h a r =
    bracket_back (fits product l) _ _ (λ bs ts b q. rw (append_assoc, append_assoc) (expr_back product x (and_left (expr_ok x) (expr_ok y) h) (between_apart TIMES _) (between_back TIMES (expr_back unary y (and_right (expr_ok x) (expr_ok y) h) b q)))) a r
expr_back l (Less x y) h a r =
    bracket_back (fits compare l) _ _ (λ bs ts b q. rw (append_assoc, append_assoc) (expr_back compare x (and_left (expr_ok x) (expr_ok y) h) (between_apart LESS _) (between_back LESS (expr_back sum y (and_right (expr_ok x) (expr_ok y) h) b q)))) a r
expr_back l (Same x y) h a r =
    bracket_back (fits compare l) _ _ (λ bs ts b q. rw (append_assoc, append_assoc) (expr_back compare x (and_left (expr_ok x) (expr_ok y) h) (between_apart SAME _) (between_back SAME (expr_back sum y (and_right (expr_ok x) (expr_ok y) h) b q)))) a r
expr_back l (Not x) h a r = token_back (key NOT) refl refl (blank (expr_back unary x h a r))

more_apart : (es : List Expr) (rest : List ℕ) → apart rest ≡ true → apart (more_text es ++ rest) ≡ true
unfolding more_text
more_apart [] rest a = a
more_apart (e ∷ es) rest a = refl

more_back : {rest : List ℕ} {us : List Token} (es : List Expr) → every expr_ok es ≡ true → Lexes rest us → Lexes (more_text es ++ (41 ∷ rest)) (put_more es us)
unfolding more_text put_more every spelled spell token_ok
more_back [] h r = token_back (key CLOSE) refl refl r
more_back {rest} (e ∷ es) h r =
    simp append_assoc (token_back (key COMMA) refl refl (blank (expr_back compare e (and_left (expr_ok e) (every expr_ok es) h) (more_apart es (41 ∷ rest) refl) (more_back es (and_right (expr_ok e) (every expr_ok es) h) r))))

args_back : {rest : List ℕ} {us : List Token} (es : List Expr) → every expr_ok es ≡ true → Lexes rest us → Lexes (args_text es ++ (41 ∷ rest)) (put_args es us)
unfolding args_text put_args every spelled spell token_ok
args_back [] h r = token_back (key CLOSE) refl refl r
args_back {rest} (e ∷ es) h r = rw append_assoc (expr_back compare e (and_left (expr_ok e) (every expr_ok es) h) (more_apart es (41 ∷ rest) refl) (more_back es (and_right (expr_ok e) (every expr_ok es) h) r))

small_ok : (n b : ℕ) → b ≤ top → ltb n b ≡ true → token_ok (number n) ≡ true
unfolding token_ok
small_ok n b l h = grind (arith, nat_tests)

most_ok : (n b : ℕ) → b < top → leb n b ≡ true → token_ok (number n) ≡ true
unfolding token_ok
most_ok n b l h = grind (arith, nat_tests)

indented : {rest : List ℕ} {us : List Token} (d : ℕ) → Lexes rest us → Lexes (indent d ++ rest) us
unfolding indent
indented d r = blanks _ r

mutual
  unfolding line_stmt lines_of put_stmt put_part stmt_ok block_ok stmt_named named token_ok spelled spell spell_op

  line_back : {rest : List ℕ} {us : List Token} (d : ℕ) (s : Stmt) → stmt_ok s ≡ true → stmt_named s ≡ true → Lexes rest us → Lexes (line_stmt d s ++ rest) (put_stmt s us)
  line_back d (Set v e) h m r =
      simp append_assoc (indented d (token_back (key SET) refl refl (blank (token_back (variable v) (and_left (ltb v 64) (expr_ok e) h) refl (blank (token_back (op SAME) refl refl (blank
      (expr_back compare e (and_right (ltb v 64) (expr_ok e) h) refl (newline r)))))))))
  line_back d (Do v k es n p) h m r =
      let a = do_parts v k es n p h in
      simp append_assoc (indented d (token_back (variable v) a.var refl (blank (token_back (op SAME) refl refl (blank (token_back (key DO) refl refl (blank
      (token_back (number k) (small_ok k 4294967296 (omega arith) a.kind) refl (blank (token_back (key OPEN) refl refl (args_back es a.args (blank (token_back (key TRIES) refl refl (blank
      (token_back (number n) (most_ok n 32 (omega arith) a.tries) refl (blank (token_back (key PAUSE) refl refl (blank (token_back (number p) (most_ok p 86400000 (omega arith) a.pause) refl (newline r))))))))))))))))))))
  line_back d (Sleep e) h m r = simp append_assoc (indented d (token_back (key SLEEP) refl refl (blank (expr_back compare e h refl (newline r)))))
  line_back d (Hear v w n e) h m r =
      let a = hear_parts v w n e h in
      simp append_assoc (indented d (token_back (variable v) a.var refl (token_back (key COMMA) refl refl (blank (token_back (variable w) a.came refl (blank (token_back (op SAME) refl refl (blank
      (token_back (key HEAR) refl refl (blank (token_back (name n) (and_both (word_ok n) (is_wrong (key_of n)) a.word m) refl (blank (token_back (key FOR) refl refl (blank (expr_back compare e a.time refl (newline r))))))))))))))))
  line_back d (If e a b) h m r =
      let h1 = and_left (expr_ok e && block_ok a) (block_ok b) h in
      simp append_assoc (indented d (token_back (key IF) refl refl (blank (expr_back compare e (and_left (expr_ok e) (block_ok a) h1) refl (blank (token_back (key BEGIN) refl refl (newline
      (lines_back (suc d) a (and_right (expr_ok e) (block_ok a) h1) (and_left (named a) (named b) m) (indented d (token_back (key END) refl refl (blank (token_back (key ELSE) refl refl (blank (token_back (key BEGIN) refl refl (newline
      (lines_back (suc d) b (and_right (expr_ok e && block_ok a) (block_ok b) h) (and_right (named a) (named b) m) (indented d (token_back (key END) refl refl (newline r)))))))))))))))))))
  line_back d (While e a) h m r =
      simp append_assoc (indented d (token_back (key WHILE) refl refl (blank (expr_back compare e (and_left (expr_ok e) (block_ok a) h) refl (blank (token_back (key BEGIN) refl refl (newline
      (lines_back (suc d) a (and_right (expr_ok e) (block_ok a) h) m (indented d (token_back (key END) refl refl (newline r)))))))))))
  line_back d (Guard a b) h m r =
      simp append_assoc (indented d (token_back (key GUARD) refl refl (blank (token_back (key BEGIN) refl refl (newline
      (lines_back (suc d) a (and_left (block_ok a) (block_ok b) h) (and_left (named a) (named b) m) (indented d (token_back (key END) refl refl (blank (token_back (key ELSE) refl refl (blank (token_back (key BEGIN) refl refl (newline
      (lines_back (suc d) b (and_right (block_ok a) (block_ok b) h) (and_right (named a) (named b) m) (indented d (token_back (key END) refl refl (newline r)))))))))))))))))
  line_back d (Return e) h m r = simp append_assoc (indented d (token_back (key RETURN) refl refl (blank (expr_back compare e h refl (newline r)))))
  line_back d FailNow h m r = simp append_assoc (indented d (token_back (key FAIL) refl refl (newline r)))

  lines_back : {rest : List ℕ} {us : List Token} (d : ℕ) (b : Block) → block_ok b ≡ true → named b ≡ true → Lexes rest us → Lexes (lines_of d b ++ rest) (put_part b us)
  lines_back d done h m r = r
  lines_back d (then s b) h m r =
      rw append_assoc (line_back d s (and_left (stmt_ok s) (block_ok b) h) (and_left (stmt_named s) (named b) m) (lines_back d b (and_right (stmt_ok s) (block_ok b) h) (and_right (stmt_named s) (named b) m) r))

-- what is printed of a sayable plan is a text of it
pub printed_is : (limit : ℕ) (b : Block) → Sayable b → length (text_of b) ≤ limit → IsText limit (text_of b) b
printed_is limit b s l =
    let r : Lexes (text_of b ++ []) (tokens_of b) = lines_back 0 b s.fine s.names nothing_more in
    let e : tokens_in (text_of b) ≡ tokens (tokens_of b) = rw append-nil at r.is in
    record { short = l; words = tokens_of b; lexed = e; plan = put_part_lem b [] s.fine s.flat; size = s.size }

-- what is printed of a plan that was read is read as the same plan
pub reprinted : (limit : ℕ) (bs : List ℕ) (b : Block) → IsText limit bs b → length (text_of b) ≤ limit → read_text limit (text_of b) ≡ plan b
reprinted limit bs b x l = read_complete limit (text_of b) b (printed_is limit b (sayable limit bs b x) l)
