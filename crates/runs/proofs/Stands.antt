-- The words of a plan's flat form stand for the plan.
use Rattle.std.proofs.Common.{◌≡◌, ℕ, zero, suc, ◌+◌, ◌-◌, ◌*◌, ◌/◌, ◌%◌, ◌<◌, ◌≤◌, true, not, ◌&&◌, eqb, ltb, leb, List, [], ◌∷◌, ◌++◌, length, get_or, take, drop, replicate, sym, refl, ap, ◌∙◌, subst, append_assoc, arith}
use Rattle.std.proofs.lemmas.Bool.{lt-ltb, le-leb, ne_eqb, leb-true, and_parts, cond-true}
use Rattle.plans.specs.declared.eval.Join.{Join}
use Rattle.plans.specs.declared.eval.Join.TheVariants.{Sum, Difference, Product, Under, Equal}
use Rattle.plans.specs.declared.eval.Op.TheVariants.{Pair, Halt}
use Rattle.plans.specs.Eval.{op_of}
use Rattle.plans.specs.Plan.{Name, Expr, Lit, Var, Plus, Minus, Times, Less, Same, Not, Stmt, Set, Do, Sleep, Hear, If, While, Guard, Return, FailNow, Block, done, then, every, name_ok, word_ok, expr_ok, expr_size, sizes, stmt_size, size_of, stmt_ok, block_ok, Phase, Frame, Rest}
use Rattle.plans.specs.Flat.{Way, Nowhere, To, way_word, entry, code_of, codes_of, padded, under, go_on, lay_stmt, lay, laid}
use Rattle.plans.proofs.Drafts.{code_length, padded_length, lay_stmt_length, lay_length, Head, head_of, rest_of}
use Rattle.runs.specs.Machine.{Act, SetOp, DoOp, SleepOp, HearOp, IfOp, WhileOp, ReturnOp, FailOp, EndOp, Wrong, op, FlatStmt, Flat, FlatRest, Stack, Control}
use Rattle.runs.specs.Units.{way_in, statement_of, statement_at}
use Rattle.runs.specs.Decode.{Grown, grown, join_tree, leaf, paired_t, negated_t, acts_t, onto_t, or_grown, grow, trees_at, one_tree, back, all_trees, way_from, letters, act_of, code_in, BeginsAlike}

-- entries --------------------------------------------------------------------

kind_is : (k d : ℕ) → k < 32 → entry k d % 32 ≡ k
kind_is k d h = omega arith

deep_is : (k d : ℕ) → k < 32 → entry k d / 32 ≡ d
deep_is k d h = omega arith

-- no entry is a unit of an expression
entry_halts : (k d : ℕ) → k ≤ 13 → Halt ≡ op_of (entry k d)
entry_halts k d h = sym (rw (ne_eqb (entry k d) 16 (omega arith), ne_eqb (entry k d) 17 (omega arith), ne_eqb (entry k d) 18 (omega arith), ne_eqb (entry k d) 19 (omega arith), ne_eqb (entry k d) 20 (omega arith), ne_eqb (entry k d) 21 (omega arith), ne_eqb (entry k d) 22 (omega arith), ne_eqb (entry k d) 23 (omega arith)) refl)

-- words that begin with a unit of no expression
pub record Halting (ws : List ℕ) : Type 0 where
  pub kind : ℕ
  pub x : ℕ
  pub y : ℕ
  pub z : ℕ
  pub tail : List ℕ
  pub is : ws ≡ kind ∷ x ∷ y ∷ z ∷ tail
  pub ends : Halt ≡ op_of kind

halting : (k d x y z : ℕ) (tail : List ℕ) → k ≤ 13 → Halting (entry k d ∷ x ∷ y ∷ z ∷ tail)
halting k d x y z tail h = record { kind = entry k d; x = x; y = y; z = z; tail = tail; is = refl; ends = entry_halts k d h }

lay_halts : (b : Block) (a next : ℕ) (way : Way) (n : ℕ) (rest : List ℕ) → Halting (lay a b next way n ++ rest)
unfolding lay lay_stmt
lay_halts done a next way n rest = halting 12 (suc n) _ _ _ _ (omega arith)
lay_halts (then (Set v e) b) a next way n rest = halting 1 (suc n) _ _ _ _ (omega arith)
lay_halts (then (Do v k es t p) b) a next way n rest = halting 2 (suc n) _ _ _ _ (omega arith)
lay_halts (then (Sleep e) b) a next way n rest = halting 3 (suc n) _ _ _ _ (omega arith)
lay_halts (then (Hear v w nm e) b) a next way n rest = halting 4 (suc n) _ _ _ _ (omega arith)
lay_halts (then (If e x y) b) a next way n rest = halting 5 (suc n) _ _ _ _ (omega arith)
lay_halts (then (While e x) b) a next way n rest = halting 6 (suc n) _ _ _ _ (omega arith)
lay_halts (then (Guard x y) b) a next way n rest = halting 8 (suc n) _ _ _ _ (omega arith)
lay_halts (then (Return e) b) a next way n rest = halting 10 (suc n) _ _ _ _ (omega arith)
lay_halts (then FailNow b) a next way n rest = halting 11 (suc n) _ _ _ _ (omega arith)

-- expressions ------------------------------------------------------------------

two : (room : ℕ) (j : Join) (t u : ℕ) (a b rest : List ℕ) (x y : Expr) (m n pc : ℕ) (st : List Expr) → Pair j ≡ op_of t →
    ((more : List ℕ) → grow room (a ++ more) pc st ≡ grow room more (pc + 4 * m) (x ∷ st)) → ((more : List ℕ) → grow room (b ++ more) (pc + 4 * m) (x ∷ st) ≡ grow room more (pc + 4 * m + 4 * n) (y ∷ x ∷ st)) →
    grow room ((a ++ (b ++ (t ∷ u ∷ 0 ∷ 0 ∷ []))) ++ rest) pc st ≡ grow room rest (pc + 4 * (1 + (m + n))) (join_tree j x y ∷ st)
unfolding grow or_grown acts_t paired_t onto_t
two room j t u a b rest x y m n pc st is ha hb =
    let e : pc + 4 * m + 4 * n + 4 ≡ pc + 4 * (1 + (m + n)) = omega arith in
    ap (λ (l : List ℕ). grow room l pc st) (append_assoc a (b ++ (t ∷ u ∷ 0 ∷ 0 ∷ [])) rest ∙ ap (λ (l : List ℕ). a ++ l) (append_assoc b (t ∷ u ∷ 0 ∷ 0 ∷ []) rest)) ∙
    (ha (b ++ (t ∷ u ∷ 0 ∷ 0 ∷ rest)) ∙ (hb (t ∷ u ∷ 0 ∷ 0 ∷ rest) ∙ (rw (sym is, e) refl)))

-- the units of an expression make its tree
pub grows : (room : ℕ) (e : Expr) (rest : List ℕ) (pc : ℕ) (st : List Expr) → expr_ok e ≡ true → length st + expr_size e ≤ room → grow room (code_of e ++ rest) pc st ≡ grow room rest (pc + 4 * expr_size e) (e ∷ st)
unfolding code_of expr_ok expr_size grow or_grown acts_t leaf negated_t onto_t
grows room (Lit n) rest pc st ok k = rw (ok, lt-ltb (length st) room (omega arith)) refl
grows room (Var v) rest pc st ok k = rw (ok, lt-ltb (length st) room (omega arith)) refl
grows room (Plus a b) rest pc st ok k = let p = and_parts (expr_ok a) (expr_ok b) ok in two room Sum 18 (expr_size b) (code_of a) (code_of b) rest a b (expr_size a) (expr_size b) pc st refl (λ more. grows room a more pc st p.0 (omega arith)) (λ more. grows room b more (pc + 4 * expr_size a) (a ∷ st) p.1 (omega arith))
grows room (Minus a b) rest pc st ok k = let p = and_parts (expr_ok a) (expr_ok b) ok in two room Difference 19 (expr_size b) (code_of a) (code_of b) rest a b (expr_size a) (expr_size b) pc st refl (λ more. grows room a more pc st p.0 (omega arith)) (λ more. grows room b more (pc + 4 * expr_size a) (a ∷ st) p.1 (omega arith))
grows room (Times a b) rest pc st ok k = let p = and_parts (expr_ok a) (expr_ok b) ok in two room Product 20 (expr_size b) (code_of a) (code_of b) rest a b (expr_size a) (expr_size b) pc st refl (λ more. grows room a more pc st p.0 (omega arith)) (λ more. grows room b more (pc + 4 * expr_size a) (a ∷ st) p.1 (omega arith))
grows room (Less a b) rest pc st ok k = let p = and_parts (expr_ok a) (expr_ok b) ok in two room Under 21 (expr_size b) (code_of a) (code_of b) rest a b (expr_size a) (expr_size b) pc st refl (λ more. grows room a more pc st p.0 (omega arith)) (λ more. grows room b more (pc + 4 * expr_size a) (a ∷ st) p.1 (omega arith))
grows room (Same a b) rest pc st ok k = let p = and_parts (expr_ok a) (expr_ok b) ok in two room Equal 22 (expr_size b) (code_of a) (code_of b) rest a b (expr_size a) (expr_size b) pc st refl (λ more. grows room a more pc st p.0 (omega arith)) (λ more. grows room b more (pc + 4 * expr_size a) (a ∷ st) p.1 (omega arith))
grows room (Not a) rest pc st ok k =
    let e : pc + 4 * expr_size a + 4 ≡ pc + 4 * (1 + expr_size a) = omega arith in
    ap (λ (l : List ℕ). grow room l pc st) (append_assoc (code_of a) (23 ∷ 0 ∷ 0 ∷ 0 ∷ []) rest) ∙ (grows room a (23 ∷ 0 ∷ 0 ∷ 0 ∷ rest) pc st ok (omega arith) ∙ ap (λ (q : ℕ). grow room rest q (Not a ∷ st)) e)

stops : (room : ℕ) (ws : List ℕ) (pc : ℕ) (st : List Expr) → Halting ws → grow room ws pc st ≡ grown st pc
unfolding grow or_grown
stops room ws pc st h = ap (λ (l : List ℕ). grow room l pc st) h.is ∙ (rw (sym h.ends) refl)

-- an expression's tree, and where it ends
tree_at : (room : ℕ) (ws : List ℕ) (p : ℕ) (e : Expr) (rest : List ℕ) (f : Expr → ℕ → Act) → drop p ws ≡ code_of e ++ rest → Halting rest → expr_ok e ≡ true → expr_size e ≤ room → one_tree (trees_at room ws p) f ≡ f e (p + 4 * expr_size e)
unfolding one_tree
tree_at room ws p e rest f h k ok s = ap (λ (g : Grown). one_tree g f) (ap (λ (l : List ℕ). grow room l p []) h ∙ (grows room e rest p [] ok (omega arith) ∙ stops room rest (p + 4 * expr_size e) (e ∷ []) k))

-- several, one after the other
expr_some : (e : Expr) → 1 ≤ expr_size e
unfolding expr_size
expr_some (Lit n) = omega arith
expr_some (Var v) = omega arith
expr_some (Plus a b) = omega arith
expr_some (Minus a b) = omega arith
expr_some (Times a b) = omega arith
expr_some (Less a b) = omega arith
expr_some (Same a b) = omega arith
expr_some (Not a) = omega arith

grows_all : (room : ℕ) (es : List Expr) (rest : List ℕ) (pc : ℕ) (st : List Expr) → every expr_ok es ≡ true → length st + sizes es ≤ room → grow room (codes_of es ++ rest) pc st ≡ grow room rest (pc + 4 * sizes es) (back es st)
unfolding codes_of every sizes back
grows_all room [] rest pc st ok k = let e : pc ≡ pc + 4 * 0 = omega arith in ap (λ (q : ℕ). grow room rest q st) e
grows_all room (e ∷ es) rest pc st ok k =
    let p = and_parts (expr_ok e) (every expr_ok es) ok in
    let one = expr_some e in
    let g : pc + 4 * expr_size e + 4 * sizes es ≡ pc + 4 * (expr_size e + sizes es) = omega arith in
    ap (λ (l : List ℕ). grow room l pc st) (append_assoc (code_of e) (codes_of es) rest) ∙
    (grows room e (codes_of es ++ rest) pc st p.0 (omega arith) ∙
    (grows_all room es rest (pc + 4 * expr_size e) (e ∷ st) p.1 (omega arith) ∙ ap (λ (q : ℕ). grow room rest q (back es (e ∷ st))) g))

back_back : (xs ys zs : List Expr) → back (back xs ys) zs ≡ back ys (xs ++ zs)
unfolding back
back_back [] ys zs = refl
back_back (x ∷ xs) ys zs = back_back xs (x ∷ ys) zs

append_none : (xs : List Expr) → xs ++ [] ≡ xs
append_none [] = refl
append_none (x ∷ xs) = ap (λ (l : List Expr). x ∷ l) (append_none xs)

back_length : (xs ys : List Expr) → length (back xs ys) ≡ length xs + length ys
unfolding back
back_length [] ys = omega arith
back_length (x ∷ xs) ys = let h : length (back xs (x ∷ ys)) ≡ length xs + suc (length ys) = back_length xs (x ∷ ys) in omega arith

trees_at_lem : (room : ℕ) (ws : List ℕ) (p : ℕ) (es : List Expr) (rest : List ℕ) (f : List Expr → Act) → drop p ws ≡ codes_of es ++ rest → Halting rest → every expr_ok es ≡ true → sizes es ≤ room → length es ≤ 16 → all_trees (trees_at room ws p) f ≡ f es
unfolding all_trees back
trees_at_lem room ws p es rest f h k ok s few =
    let l : length (back es []) ≤ 16 = let q : length (back es []) ≡ length es + 0 = back_length es [] in omega arith in
    ap (λ (g : Grown). all_trees g f) (ap (λ (l : List ℕ). grow room l p []) h ∙ (grows_all room es rest p [] ok (omega arith) ∙ stops room rest (p + 4 * sizes es) (back es []) k)) ∙
    (cond-true (leb (length (back es [])) 16) (f (back (back es []) [])) Wrong (le-leb (length (back es [])) 16 l) ∙ ap f (back_back es [] [] ∙ append_none es))

-- names --------------------------------------------------------------------

letters_of : (k m : ℕ) (n : Name) (rest : List ℕ) → length n ≤ k → k ≤ m → every (λ (b : ℕ). leb 97 b && leb b 122) n ≡ true → letters k (take k (n ++ replicate m 0) ++ rest) ≡ n
unfolding letters every
letters_of zero m [] rest h l ok = refl
letters_of (suc k) zero [] rest h l ok = absurd (omega arith)
letters_of (suc k) (suc m) [] rest h l ok = refl
letters_of zero m (x ∷ n) rest h l ok = absurd (omega arith)
letters_of (suc k) m (x ∷ n) rest h l ok =
    let p = and_parts (leb 97 x && leb x 122) (every (λ (b : ℕ). leb 97 b && leb b 122) n) ok in
    let q = and_parts (leb 97 x) (leb x 122) p.0 in
    let low : 97 ≤ x = leb-true 97 x q.0 in
    rw (ne_eqb x 0 (omega arith)) (ap (λ (t : Name). x ∷ t) (letters_of k m n rest (omega arith) (omega arith) p.1))

name_at : (ws : List ℕ) (a : ℕ) (n : Name) (rest : List ℕ) → drop a ws ≡ padded n ++ rest → word_ok n ≡ true → letters 64 (drop a ws) ≡ n
unfolding padded
name_at ws a n rest h ok =
    let p = and_parts (name_ok n) (every (λ (b : ℕ). leb 97 b && leb b 122) n) ok in
    let q = and_parts (ltb 0 (length n) && leb (length n) 64) (every (λ (b : ℕ). ltb b 256) n) p.0 in
    let r = and_parts (ltb 0 (length n)) (leb (length n) 64) q.0 in
    let few : length n ≤ 64 = leb-true (length n) 64 r.1 in
    ap (letters 64) h ∙ letters_of 64 64 n rest few (omega arith) p.1

-- units --------------------------------------------------------------------

op_at : (room : ℕ) (ws : List ℕ) (a k d x y z : ℕ) (tail : List ℕ) → k < 32 → drop a ws ≡ entry k d ∷ x ∷ y ∷ z ∷ tail → code_in room ws a ≡ op d (act_of room ws (statement_of k a x y z))
unfolding statement_at
op_at room ws a k d x y z tail h e =
    let u : Head ws a (entry k d) x y z tail = head_of ws a (entry k d) x y z tail e in
    let p : get_or ws a 0 % 32 ≡ k = ap (λ (n : ℕ). n % 32) u.first ∙ kind_is k d h in
    let q : get_or ws a 0 / 32 ≡ d = ap (λ (n : ℕ). n / 32) u.first ∙ deep_is k d h in
    λ i. op (q i) (act_of room ws (statement_of (p i) a (u.second i) (u.third i) (u.fourth i)))

-- the second entry of a unit
turn_at_lem : (room : ℕ) (ws : List ℕ) (a w k d y z : ℕ) (tail : List ℕ) → k < 32 → drop a ws ≡ w ∷ entry k d ∷ y ∷ z ∷ tail → code_in room ws (suc a) ≡ op d (act_of room ws (statement_of k (suc a) y (get_or ws (suc a + 2) 0) (get_or ws (suc a + 3) 0)))
unfolding statement_at
turn_at_lem room ws a w k d y z tail h e =
    let u : Head ws a w (entry k d) y z tail = head_of ws a w (entry k d) y z tail e in
    let m : a + 1 ≡ suc a = omega arith in
    let n : a + 2 ≡ suc a + 1 = omega arith in
    let f : get_or ws (suc a) 0 ≡ entry k d = subst (λ (j : ℕ). get_or ws j 0 ≡ entry k d) m u.second in
    let g : get_or ws (suc a + 1) 0 ≡ y = subst (λ (j : ℕ). get_or ws j 0 ≡ y) n u.third in
    let p : get_or ws (suc a) 0 % 32 ≡ k = ap (λ (j : ℕ). j % 32) f ∙ kind_is k d h in
    let q : get_or ws (suc a) 0 / 32 ≡ d = ap (λ (j : ℕ). j / 32) f ∙ deep_is k d h in
    λ i. op (q i) (act_of room ws (statement_of (p i) (suc a) (g i) (get_or ws (suc a + 2) 0) (get_or ws (suc a + 3) 0)))

way_back : (way : Way) → way_from (way_in (way_word way)) ≡ way
unfolding way_from way_in way_word
way_back Nowhere = refl
way_back (To a) = refl

set_at : (room : ℕ) (ws : List ℕ) (a d v next : ℕ) (e : Expr) (rest : List ℕ) → drop a ws ≡ entry 1 d ∷ v ∷ next ∷ 0 ∷ (code_of e ++ rest) → Halting rest → ltb v 64 ≡ true → expr_ok e ≡ true → expr_size e ≤ room → code_in room ws a ≡ op d (SetOp v e next)
unfolding act_of
set_at room ws a d v next e rest h k low ok s =
    let u = head_of ws a (entry 1 d) v next 0 (code_of e ++ rest) h in
    op_at room ws a 1 d v next 0 (code_of e ++ rest) (omega arith) h ∙ ap (op d) (cond-true (ltb v 64) _ Wrong low ∙ tree_at room ws (a + 4) e rest (λ t end. SetOp v t next) u.behind k ok s)

sleep_at : (room : ℕ) (ws : List ℕ) (a d next : ℕ) (e : Expr) (rest : List ℕ) → drop a ws ≡ entry 3 d ∷ 0 ∷ next ∷ 0 ∷ (code_of e ++ rest) → Halting rest → expr_ok e ≡ true → expr_size e ≤ room → code_in room ws a ≡ op d (SleepOp e next)
unfolding act_of
sleep_at room ws a d next e rest h k ok s =
    let u = head_of ws a (entry 3 d) 0 next 0 (code_of e ++ rest) h in
    op_at room ws a 3 d 0 next 0 (code_of e ++ rest) (omega arith) h ∙ ap (op d) (tree_at room ws (a + 4) e rest (λ t end. SleepOp t next) u.behind k ok s)

return_at : (room : ℕ) (ws : List ℕ) (a d : ℕ) (e : Expr) (rest : List ℕ) → drop a ws ≡ entry 10 d ∷ 0 ∷ 0 ∷ 0 ∷ (code_of e ++ rest) → Halting rest → expr_ok e ≡ true → expr_size e ≤ room → code_in room ws a ≡ op d (ReturnOp e)
unfolding act_of
return_at room ws a d e rest h k ok s =
    let u = head_of ws a (entry 10 d) 0 0 0 (code_of e ++ rest) h in
    op_at room ws a 10 d 0 0 0 (code_of e ++ rest) (omega arith) h ∙ ap (op d) (tree_at room ws (a + 4) e rest (λ t end. ReturnOp t) u.behind k ok s)

if_at_lem : (room : ℕ) (ws : List ℕ) (a d other : ℕ) (e : Expr) (rest : List ℕ) → drop a ws ≡ entry 5 d ∷ other ∷ 0 ∷ 0 ∷ (code_of e ++ rest) → Halting rest → expr_ok e ≡ true → expr_size e ≤ room → code_in room ws a ≡ op d (IfOp e (a + (4 + 4 * expr_size e)) other)
unfolding act_of
if_at_lem room ws a d other e rest h k ok s =
    let u = head_of ws a (entry 5 d) other 0 0 (code_of e ++ rest) h in
    let g : a + 4 + 4 * expr_size e ≡ a + (4 + 4 * expr_size e) = omega arith in
    op_at room ws a 5 d other 0 0 (code_of e ++ rest) (omega arith) h ∙ ap (op d) (tree_at room ws (a + 4) e rest (λ t end. IfOp t end other) u.behind k ok s ∙ ap (λ (n : ℕ). IfOp e n other) g)

while_at_lem : (room : ℕ) (ws : List ℕ) (a d w next : ℕ) (e : Expr) (rest : List ℕ) → drop a ws ≡ entry 6 d ∷ w ∷ next ∷ 0 ∷ (code_of e ++ rest) → Halting rest → expr_ok e ≡ true → expr_size e ≤ room → code_in room ws a ≡ op d (WhileOp e (a + (4 + 4 * expr_size e)) next)
unfolding act_of
while_at_lem room ws a d w next e rest h k ok s =
    let u = head_of ws a (entry 6 d) w next 0 (code_of e ++ rest) h in
    let g : a + 4 + 4 * expr_size e ≡ a + (4 + 4 * expr_size e) = omega arith in
    op_at room ws a 6 d w next 0 (code_of e ++ rest) (omega arith) h ∙ ap (op d) (tree_at room ws (a + 4) e rest (λ t end. WhileOp t end next) u.behind k ok s ∙ ap (λ (n : ℕ). WhileOp e n next) g)

-- the loop as it turns
turns_at : (room : ℕ) (ws : List ℕ) (a w d next : ℕ) (e : Expr) (rest : List ℕ) → drop a ws ≡ w ∷ entry 7 d ∷ next ∷ 0 ∷ (code_of e ++ rest) → Halting rest → expr_ok e ≡ true → expr_size e ≤ room → code_in room ws (suc a) ≡ op d (WhileOp e (a + (4 + 4 * expr_size e)) next)
unfolding act_of
turns_at room ws a w d next e rest h k ok s =
    let u = head_of ws a w (entry 7 d) next 0 (code_of e ++ rest) h in
    let m : a + 4 ≡ suc a + 3 = omega arith in
    let g : suc a + 3 + 4 * expr_size e ≡ a + (4 + 4 * expr_size e) = omega arith in
    turn_at_lem room ws a w 7 d next 0 (code_of e ++ rest) (omega arith) h ∙ ap (op d) (tree_at room ws (suc a + 3) e rest (λ t end. WhileOp t end next) (subst (λ (j : ℕ). drop j ws ≡ code_of e ++ rest) m u.behind) k ok s ∙ ap (λ (n : ℕ). WhileOp e n next) g)

do_at : (room : ℕ) (ws : List ℕ) (a d v next kind tries pause count : ℕ) (way : Way) (es : List Expr) (rest : List ℕ) → drop a ws ≡ entry 2 d ∷ v ∷ next ∷ way_word way ∷ kind ∷ tries ∷ pause ∷ count ∷ 0 ∷ 0 ∷ 0 ∷ 0 ∷ 0 ∷ 0 ∷ 0 ∷ 0 ∷ (codes_of es ++ rest) → Halting rest → ltb v 64 ≡ true → every expr_ok es ≡ true → sizes es ≤ room → length es ≤ 16 → code_in room ws a ≡ op d (DoOp v kind es tries pause next way)
unfolding act_of
do_at room ws a d v next kind tries pause count way es rest h k low ok s few =
    let t1 : List ℕ = kind ∷ tries ∷ pause ∷ count ∷ 0 ∷ 0 ∷ 0 ∷ 0 ∷ 0 ∷ 0 ∷ 0 ∷ 0 ∷ (codes_of es ++ rest) in
    let u : Head ws a (entry 2 d) v next (way_word way) t1 = head_of ws a (entry 2 d) v next (way_word way) t1 h in
    let t : Head ws (a + 4) kind tries pause count (0 ∷ 0 ∷ 0 ∷ 0 ∷ 0 ∷ 0 ∷ 0 ∷ 0 ∷ (codes_of es ++ rest)) = head_of ws (a + 4) kind tries pause count (0 ∷ 0 ∷ 0 ∷ 0 ∷ 0 ∷ 0 ∷ 0 ∷ 0 ∷ (codes_of es ++ rest)) u.behind in
    let p : drop (a + 4 + 12) ws ≡ codes_of es ++ rest = rest_of ws (a + 4) 12 (kind ∷ tries ∷ pause ∷ count ∷ 0 ∷ 0 ∷ 0 ∷ 0 ∷ 0 ∷ 0 ∷ 0 ∷ 0 ∷ []) (codes_of es ++ rest) u.behind refl in
    op_at room ws a 2 d v next (way_word way) t1 (omega arith) h ∙ ap (op d) (cond-true (ltb v 64) _ Wrong low ∙ (trees_at_lem room ws (a + 4 + 12) es rest (λ ts. DoOp v (get_or ws (a + 4) 0) ts (get_or ws (a + 4 + 1) 0) (get_or ws (a + 4 + 2) 0) next (way_from (way_in (way_word way)))) p k ok s few ∙ λ i. DoOp v (t.first i) es (t.second i) (t.third i) next (way_back way i)))

hear_at_lem : (room : ℕ) (ws : List ℕ) (a d v w next : ℕ) (n : Name) (e : Expr) (rest : List ℕ) → drop a ws ≡ entry 4 d ∷ v ∷ next ∷ w ∷ (padded n ++ (code_of e ++ rest)) → Halting rest → ltb v 64 ≡ true → ltb w 64 ≡ true → word_ok n ≡ true → expr_ok e ≡ true → expr_size e ≤ room → code_in room ws a ≡ op d (HearOp v w n e next)
unfolding act_of
hear_at_lem room ws a d v w next n e rest h k low lower named ok s =
    let u = head_of ws a (entry 4 d) v next w (padded n ++ (code_of e ++ rest)) h in
    let p : drop (a + 4 + 64) ws ≡ code_of e ++ rest = rest_of ws (a + 4) 64 (padded n) (code_of e ++ rest) u.behind (padded_length n) in
    let both : ltb v 64 && ltb w 64 ≡ true = rw (low, lower) refl in
    op_at room ws a 4 d v next w (padded n ++ (code_of e ++ rest)) (omega arith) h ∙ ap (op d) (cond-true (ltb v 64 && ltb w 64) _ Wrong both ∙ (tree_at room ws (a + 4 + 64) e rest (λ t end. HearOp v w (letters 64 (drop (a + 4) ws)) t next) p k ok s ∙ ap (λ (l : Name). HearOp v w l e next) (name_at ws (a + 4) n (code_of e ++ rest) u.behind named)))

-- parts --------------------------------------------------------------------

moved_to : (ws : List ℕ) (a b : ℕ) (l : List ℕ) → a ≡ b → drop a ws ≡ l → drop b ws ≡ l
moved_to ws a b l e k = subst (λ (m : ℕ). drop m ws ≡ l) e k

regroup : (a b c d : List ℕ) → (a ++ (b ++ c)) ++ d ≡ a ++ (b ++ (c ++ d))
regroup a b c d = append_assoc a (b ++ c) d ∙ ap (λ (l : List ℕ). a ++ l) (append_assoc b c d)

module _ (room : ℕ) (ws : List ℕ) where
  mutual
    unfolding lay_stmt lay go_on stmt_ok block_ok stmt_size size_of FlatStmt Flat FlatRest act_of

    pub stands_stmt : (s : Stmt) (a next : ℕ) (way : Way) (u d : ℕ) (rest : List ℕ) → stmt_ok s ≡ true → stmt_size s ≤ room → Halting rest → drop a ws ≡ lay_stmt a s next way u d ++ rest → FlatStmt (code_in room ws) a s next way u d
    stands_stmt (Set v e) a next way u d rest ok sz k h = let p = and_parts (ltb v 64) (expr_ok e) ok in set_at room ws a d v next e rest h k p.0 p.1 (omega arith)
    stands_stmt (Do v kd es t p) a next way u d rest ok sz k h =
        let p1 = and_parts (ltb v 64 && ltb kd 4294967296 && leb (length es) 16 && every expr_ok es && ltb 0 t && leb t 32) (leb p 86400000) ok in
        let p2 = and_parts (ltb v 64 && ltb kd 4294967296 && leb (length es) 16 && every expr_ok es && ltb 0 t) (leb t 32) p1.0 in
        let p3 = and_parts (ltb v 64 && ltb kd 4294967296 && leb (length es) 16 && every expr_ok es) (ltb 0 t) p2.0 in
        let p4 = and_parts (ltb v 64 && ltb kd 4294967296 && leb (length es) 16) (every expr_ok es) p3.0 in
        let p5 = and_parts (ltb v 64 && ltb kd 4294967296) (leb (length es) 16) p4.0 in
        let p6 = and_parts (ltb v 64) (ltb kd 4294967296) p5.0 in
        do_at room ws a d v next kd t p (length es) way es rest h k p6.0 p4.1 (omega arith) (leb-true (length es) 16 p5.1)
    stands_stmt (Sleep e) a next way u d rest ok sz k h = sleep_at room ws a d next e rest h k ok (omega arith)
    stands_stmt (Hear v w n e) a next way u d rest ok sz k h =
        let p1 = and_parts (ltb v 64 && ltb w 64 && not (eqb v w) && word_ok n) (expr_ok e) ok in
        let p2 = and_parts (ltb v 64 && ltb w 64 && not (eqb v w)) (word_ok n) p1.0 in
        let p3 = and_parts (ltb v 64 && ltb w 64) (not (eqb v w)) p2.0 in
        let p4 = and_parts (ltb v 64) (ltb w 64) p3.0 in
        hear_at_lem room ws a d v w next n e rest (h ∙ ap (λ (l : List ℕ). entry 4 d ∷ v ∷ next ∷ w ∷ l) (append_assoc (padded n) (code_of e) rest)) k p4.0 p4.1 p2.1 p1.1 (omega arith)
    stands_stmt (If e x y) a next way u d rest ok sz k h =
        let y0 : ℕ = a + (4 + 4 * expr_size e) in
        let n0 : ℕ = y0 + 4 * size_of x in
        let p = and_parts (expr_ok e && block_ok x) (block_ok y) ok in
        let q = and_parts (expr_ok e) (block_ok x) p.0 in
        let first : List ℕ = lay y0 x next way u in
        let other : List ℕ = lay n0 y next way u in
        let h1 : drop a ws ≡ entry 5 d ∷ n0 ∷ 0 ∷ 0 ∷ (code_of e ++ (first ++ (other ++ rest))) = h ∙ ap (λ (l : List ℕ). entry 5 d ∷ n0 ∷ 0 ∷ 0 ∷ l) (regroup (code_of e) first other rest) in
        let b : drop (a + 4) ws ≡ code_of e ++ (first ++ (other ++ rest)) = (head_of ws a (entry 5 d) n0 0 0 (code_of e ++ (first ++ (other ++ rest))) h1).behind in
        let g : a + 4 + 4 * expr_size e ≡ y0 = omega arith in
        let h2 : drop y0 ws ≡ first ++ (other ++ rest) = moved_to ws (a + 4 + 4 * expr_size e) y0 (first ++ (other ++ rest)) g (rest_of ws (a + 4) (4 * expr_size e) (code_of e) (first ++ (other ++ rest)) b (code_length e)) in
        let h3 : drop n0 ws ≡ other ++ rest = rest_of ws y0 (4 * size_of x) first (other ++ rest) h2 (lay_length x y0 next way u) in
        (y0, n0, if_at_lem room ws a d n0 e (first ++ (other ++ rest)) h1 (lay_halts x y0 next way u (other ++ rest)) q.0 (omega arith), stands x y0 next way u (other ++ rest) q.1 (omega arith) h2, stands y n0 next way u rest p.1 (omega arith) h3)
    stands_stmt (While e x) a next way u d rest ok sz k h =
        let body : ℕ = a + (4 + 4 * expr_size e) in
        let q = and_parts (expr_ok e) (block_ok x) ok in
        let inner : List ℕ = lay body x (suc a) way (suc u) in
        let h1 : drop a ws ≡ entry 6 d ∷ entry 7 (suc u) ∷ next ∷ 0 ∷ (code_of e ++ (inner ++ rest)) = h ∙ ap (λ (l : List ℕ). entry 6 d ∷ entry 7 (suc u) ∷ next ∷ 0 ∷ l) (append_assoc (code_of e) inner rest) in
        let b : drop (a + 4) ws ≡ code_of e ++ (inner ++ rest) = (head_of ws a (entry 6 d) (entry 7 (suc u)) next 0 (code_of e ++ (inner ++ rest)) h1).behind in
        let g : a + 4 + 4 * expr_size e ≡ body = omega arith in
        let h2 : drop body ws ≡ inner ++ rest = moved_to ws (a + 4 + 4 * expr_size e) body (inner ++ rest) g (rest_of ws (a + 4) (4 * expr_size e) (code_of e) (inner ++ rest) b (code_length e)) in
        let halt : Halting (inner ++ rest) = lay_halts x body (suc a) way (suc u) rest in
        (body, suc a, while_at_lem room ws a d (entry 7 (suc u)) next e (inner ++ rest) h1 halt q.0 (omega arith), turns_at room ws a (entry 6 d) (suc u) next e (inner ++ rest) h1 halt q.0 (omega arith), stands x body (suc a) way (suc u) rest q.1 (omega arith) h2)
    stands_stmt (Guard x y) a next way u d rest ok sz k h =
        let first : ℕ = a + 4 in
        let other : ℕ = first + 4 * size_of x in
        let q = and_parts (block_ok x) (block_ok y) ok in
        let one : List ℕ = lay first x (suc a) (To other) (suc u) in
        let two0 : List ℕ = lay other y next way u in
        let h1 : drop a ws ≡ entry 8 d ∷ entry 9 (suc u) ∷ next ∷ other ∷ (one ++ (two0 ++ rest)) = h ∙ ap (λ (l : List ℕ). entry 8 d ∷ entry 9 (suc u) ∷ next ∷ other ∷ l) (append_assoc one two0 rest) in
        let h2 : drop first ws ≡ one ++ (two0 ++ rest) = (head_of ws a (entry 8 d) (entry 9 (suc u)) next other (one ++ (two0 ++ rest)) h1).behind in
        let h3 : drop other ws ≡ two0 ++ rest = rest_of ws first (4 * size_of x) one (two0 ++ rest) h2 (lay_length x first (suc a) (To other) (suc u)) in
        (first, suc a, other, op_at room ws a 8 d (entry 9 (suc u)) next other (one ++ (two0 ++ rest)) (omega arith) h1, turn_at_lem room ws a (entry 8 d) 9 (suc u) next other (one ++ (two0 ++ rest)) (omega arith) h1, stands x first (suc a) (To other) (suc u) (two0 ++ rest) q.0 (omega arith) h2, stands y other next way u rest q.1 (omega arith) h3)
    stands_stmt (Return e) a next way u d rest ok sz k h = return_at room ws a d e rest h k ok (omega arith)
    stands_stmt FailNow a next way u d rest ok sz k h = op_at room ws a 11 d 0 0 (way_word way) rest (omega arith) h ∙ ap (λ (w : Way). op d (FailOp w)) (way_back way)

    pub stands : (b : Block) (a next : ℕ) (way : Way) (n : ℕ) (rest : List ℕ) → block_ok b ≡ true → size_of b ≤ room → drop a ws ≡ lay a b next way n ++ rest → Flat (code_in room ws) a b next way n
    stands done a next way n rest ok sz h = op_at room ws a 12 (suc n) (entry 13 0) next 0 rest (omega arith) h
    stands (then s b) a next way n rest ok sz h =
        let m : ℕ = a + 4 * stmt_size s in
        let p = and_parts (stmt_ok s) (block_ok b) ok in
        let here : List ℕ = lay_stmt a s (go_on b m next) way (under b n) (suc n) in
        let after : List ℕ = lay m b next way n in
        let h1 : drop a ws ≡ here ++ (after ++ rest) = h ∙ append_assoc here after rest in
        let h2 : drop m ws ≡ after ++ rest = rest_of ws a (4 * stmt_size s) here (after ++ rest) h1 (lay_stmt_length s a (go_on b m next) way (under b n) (suc n)) in
        (go_on b m next, stands_stmt s a (go_on b m next) way (under b n) (suc n) (after ++ rest) p.0 (omega arith) (lay_halts b m next way n rest) h1, stands_rest b m next way n rest p.1 (omega arith) h2)

    pub stands_rest : (b : Block) (a next : ℕ) (way : Way) (n : ℕ) (rest : List ℕ) → block_ok b ≡ true → size_of b ≤ room → drop a ws ≡ lay a b next way n ++ rest → FlatRest (code_in room ws) (go_on b a next) b next way n
    stands_rest done a next way n rest ok sz h = refl
    stands_rest (then s b) a next way n rest ok sz h =
        let m : ℕ = a + 4 * stmt_size s in
        let p = and_parts (stmt_ok s) (block_ok b) ok in
        let here : List ℕ = lay_stmt a s (go_on b m next) way (under b n) (suc n) in
        let after : List ℕ = lay m b next way n in
        let h1 : drop a ws ≡ here ++ (after ++ rest) = h ∙ append_assoc here after rest in
        let h2 : drop m ws ≡ after ++ rest = rest_of ws a (4 * stmt_size s) here (after ++ rest) h1 (lay_stmt_length s a (go_on b m next) way (under b n) (suc n)) in
        (go_on b m next, stands_stmt s a (go_on b m next) way (under b n) (suc n) (after ++ rest) p.0 (omega arith) (lay_halts b m next way n rest) h1, stands_rest b m next way n rest p.1 (omega arith) h2)

  -- the end of a part: its last unit, whose second word is the end of the plan
  ends_at : (b : Block) (a next : ℕ) (way : Way) (n : ℕ) (rest : List ℕ) → drop a ws ≡ lay a b next way n ++ rest → (m : ℕ) × (suc m ≡ a + 4 * size_of b - 3) × (code_in room ws (suc m) ≡ op 0 EndOp)
  unfolding lay size_of act_of
  ends_at done a next way n rest h = (a, omega arith, turn_at_lem room ws a (entry 12 (suc n)) 13 0 next 0 rest (omega arith) h)
  ends_at (then s b) a next way n rest h =
      let m : ℕ = a + 4 * stmt_size s in
      let here : List ℕ = lay_stmt a s (go_on b m next) way (under b n) (suc n) in
      let after : List ℕ = lay m b next way n in
      let h2 : drop m ws ≡ after ++ rest = rest_of ws a (4 * stmt_size s) here (after ++ rest) (h ∙ append_assoc here after rest) (lay_stmt_length s a (go_on b m next) way (under b n) (suc n)) in
      let r : (k : ℕ) × (suc k ≡ m + 4 * size_of b - 3) × (code_in room ws (suc k) ≡ op 0 EndOp) = ends_at b m next way n rest h2 in
      let e : suc r.0 ≡ a + 4 * (stmt_size s + size_of b) - 3 = r.1 ∙ omega arith in
      (r.0, e, r.2)

append_nothing : (xs : List ℕ) → xs ++ [] ≡ xs
append_nothing [] = refl
append_nothing (x ∷ xs) = ap (λ (l : List ℕ). x ∷ l) (append_nothing xs)

plan_stack : (b : Block) (room : ℕ) → block_ok b ≡ true → size_of b ≤ room → Stack (code_in room (laid b)) 0 (Rest b ∷ []) Nowhere
unfolding Stack laid
plan_stack b room ok sz =
    let end : ℕ = 4 * size_of b - 3 in
    let h : drop 0 (laid b) ≡ lay 0 b end Nowhere 0 ++ [] = sym (append_nothing (lay 0 b end Nowhere 0)) in
    let r : (k : ℕ) × (suc k ≡ 0 + 4 * size_of b - 3) × (code_in room (laid b) (suc k) ≡ op 0 EndOp) = ends_at room (laid b) b 0 end Nowhere 0 [] h in
    let e : suc r.0 ≡ end = r.1 ∙ omega arith in
    (end, stands room (laid b) b 0 end Nowhere 0 [] ok sz h, (subst (λ (a : ℕ). code_in room (laid b) a ≡ op 0 EndOp) e r.2, refl))

pub begins_alike : BeginsAlike
unfolding Control
begins_alike b room x ok sz p q =
    let st : Stack (code_in room (laid b)) 0 (Rest b ∷ []) Nowhere = plan_stack b room ok sz in
    record {
      same = refl;
      control = subst (λ (r : Phase). Control (code_in room (laid b)) r 0 x.frames) (sym p) (Nowhere, subst (λ (fs : List Frame). Stack (code_in room (laid b)) 0 fs Nowhere) (sym q) st);
      place = record { frames = Rest b ∷ []; way = Nowhere; stands = st };
    }
