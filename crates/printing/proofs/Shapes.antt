-- What stands at an address, and at the root of an expression. Assumes nothing.
use Rattle.std.proofs.Common.{◌≡◌, ℕ, ◌+◌, ◌-◌, ◌*◌, ◌<◌, ◌≤◌, List, [], ◌∷◌, ◌++◌, length, get_or, drop, codes, decimal, sym, refl, ap, ◌∙◌, subst, append_assoc, arith, length-append, length-drop}
use Rattle.std.proofs.lemmas.List.{drop-drop, drop_at, get_or-drop}
use Rattle.plans.specs.Plan.{Expr, Lit, Var, Plus, Minus, Times, Less, Same, Not, expr_size}
use Rattle.plans.specs.Flat.{code_of}
use Rattle.text.specs.Token.{Op, PLUS, MINUS, TIMES, LESS, SAME}
use Rattle.text.specs.Grammar.{Level, unary}
use Rattle.text.specs.Lexer.{spell_op}
use Rattle.text.specs.Printer.{expr_text, bracketed, between, fits}
use Rattle.text.specs.Kinds.{op_kind}
use Rattle.printing.specs.Levels.{own_of, right_of, sign_text}
use Rattle.printing.specs.Roots.{Rooted, Operation}

pub past : (ws xs ys : List ℕ) (a : ℕ) → drop a ws ≡ xs ++ ys → drop (a + length xs) ws ≡ ys
past ws xs ys a e = sym (drop-drop (length xs) a ws) ∙ (ap (λ (l : List ℕ). drop (length xs) l) e ∙ drop_at xs ys (length xs) refl)

pub word_at : (ws xs : List ℕ) (a x : ℕ) → drop a ws ≡ x ∷ xs → get_or ws a 0 ≡ x
word_at ws xs a x e =
    let z : a ≡ a + 0 = omega arith in
    ap (λ (k : ℕ). get_or ws k 0) z ∙ (sym (get_or-drop a ws 0 0) ∙ ap (λ (l : List ℕ). get_or l 0 0) e)

pub room_at : (ws xs : List ℕ) (a x : ℕ) → drop a ws ≡ x ∷ xs → a < length ws
room_at ws xs a x e = omega (arith, length-drop a ws, ap length e)

pub second_at : (ws xs : List ℕ) (a x y : ℕ) → drop a ws ≡ x ∷ y ∷ xs → drop (a + 1) ws ≡ y ∷ xs
second_at ws xs a x y e = past ws (x ∷ []) (y ∷ xs) a e

pub size_some : (e : Expr) → 1 ≤ expr_size e
unfolding expr_size
size_some (Lit n) = omega arith
size_some (Var v) = omega arith
size_some (Plus a b) = omega arith
size_some (Minus a b) = omega arith
size_some (Times a b) = omega arith
size_some (Less a b) = omega arith
size_some (Same a b) = omega arith
size_some (Not a) = omega arith

two_length : (xs ys zs : List ℕ) (m n : ℕ) → length xs ≡ 4 * m → length ys ≡ 4 * n → length zs ≡ 4 → length (xs ++ (ys ++ zs)) ≡ 4 * (1 + (m + n))
two_length xs ys zs m n p q r = omega (arith, length-append xs (ys ++ zs), length-append ys zs)

pub length_code : (e : Expr) → length (code_of e) ≡ 4 * expr_size e
unfolding code_of expr_size
length_code (Lit n) = refl
length_code (Var v) = refl
length_code (Plus a b) = two_length (code_of a) (code_of b) _ (expr_size a) (expr_size b) (length_code a) (length_code b) refl
length_code (Minus a b) = two_length (code_of a) (code_of b) _ (expr_size a) (expr_size b) (length_code a) (length_code b) refl
length_code (Times a b) = two_length (code_of a) (code_of b) _ (expr_size a) (expr_size b) (length_code a) (length_code b) refl
length_code (Less a b) = two_length (code_of a) (code_of b) _ (expr_size a) (expr_size b) (length_code a) (length_code b) refl
length_code (Same a b) = two_length (code_of a) (code_of b) _ (expr_size a) (expr_size b) (length_code a) (length_code b) refl
length_code (Not a) = omega (arith, length-append (code_of a) (23 ∷ 0 ∷ 0 ∷ 0 ∷ []), length_code a)

-- the root of an expression that begins at `from`, and the expression's text where one of level l is wanted
pub data Shape (ws : List ℕ) (root from : ℕ) (l : Level) (t : List ℕ) : Type 0 where
  literal : get_or ws root 0 ≡ 16 → from ≡ root → t ≡ decimal (get_or ws (root + 1) 0) → Shape ws root from l t
  variable : get_or ws root 0 ≡ 17 → from ≡ root → t ≡ codes "v" ++ decimal (get_or ws (root + 1) 0) → Shape ws root from l t
  operation : (o : Op) (a b : Expr) (x : Operation ws root o a b) → x.left.from ≡ from → t ≡ bracketed (fits (own_of o) l) (expr_text (own_of o) a ++ (sign_text o ++ expr_text (right_of o) b)) → Shape ws root from l t
  negation : (a : Expr) → get_or ws root 0 ≡ 23 → 4 ≤ root → (x : Rooted ws (root - 4) a) → x.from ≡ from → t ≡ codes "not " ++ expr_text unary a → Shape ws root from l t

pub record Shaped (ws : List ℕ) (root from : ℕ) (l : Level) (t : List ℕ) : Type 0 where
  pub room : root + 1 < length ws
  pub shape : Shape ws root from l t

-- a unit at the root
pub record Unit4 (ws : List ℕ) (root k n : ℕ) : Type 0 where
  pub room : root + 1 < length ws
  pub kind : get_or ws root 0 ≡ k
  pub number : get_or ws (root + 1) 0 ≡ n

unit_at : (ws rest : List ℕ) (a root k n : ℕ) → a ≡ root → drop a ws ≡ k ∷ n ∷ rest → Unit4 ws root k n
unit_at ws rest a root k n h e =
    let f : drop root ws ≡ k ∷ n ∷ rest = subst (λ (x : ℕ). drop x ws ≡ k ∷ n ∷ rest) h e in
    let g : drop (root + 1) ws ≡ n ∷ rest = second_at ws rest root k n f in
    record { room = room_at ws rest (root + 1) n g; kind = word_at ws (n ∷ rest) root k f; number = word_at ws rest (root + 1) n g }

past_code : (ws rest : List ℕ) (a : ℕ) (e : Expr) → drop a ws ≡ code_of e ++ rest → drop (a + 4 * expr_size e) ws ≡ rest
past_code ws rest a e h = subst (λ (n : ℕ). drop (a + n) ws ≡ rest) (length_code e) (past ws (code_of e) rest a h)

two : (ws rest : List ℕ) (root from : ℕ) (l : Level) (t : List ℕ) (o : Op) (a b : Expr) → drop from ws ≡ (code_of a ++ (code_of b ++ (op_kind o ∷ expr_size b ∷ 0 ∷ 0 ∷ []))) ++ rest →
    root + 4 ≡ from + 4 * (1 + (expr_size a + expr_size b)) → t ≡ bracketed (fits (own_of o) l) (expr_text (own_of o) a ++ (sign_text o ++ expr_text (right_of o) b)) → Shaped ws root from l t
two ws rest root from l t o a b e h q =
    let u : List ℕ = op_kind o ∷ expr_size b ∷ 0 ∷ 0 ∷ [] in
    let pa : 1 ≤ expr_size a = size_some a in
    let e1 : drop from ws ≡ code_of a ++ (code_of b ++ (u ++ rest)) = simp append_assoc at e in
    let e2 : drop (from + 4 * expr_size a) ws ≡ code_of b ++ (u ++ rest) = past_code ws (code_of b ++ (u ++ rest)) from a e1 in
    let e3 : drop (from + 4 * expr_size a + 4 * expr_size b) ws ≡ u ++ rest = past_code ws (u ++ rest) (from + 4 * expr_size a) b e2 in
    let r : Unit4 ws root (op_kind o) (expr_size b) = unit_at ws (0 ∷ 0 ∷ rest) (from + 4 * expr_size a + 4 * expr_size b) root (op_kind o) (expr_size b) (omega arith) e3 in
    let x : Operation ws root o a b =
    record {
      kind = r.kind;
      units = r.number;
      room = omega arith;
      left = record { from = from; rest = code_of b ++ (u ++ rest); is = e1; ends = omega arith };
      right = record { from = from + 4 * expr_size a; rest = u ++ rest; is = e2; ends = omega arith };
    } in
    record { room = r.room; shape = operation o a b x refl q }

between_is : (o : Op) → between o ≡ sign_text o
unfolding between spell_op
between_is PLUS = refl
between_is MINUS = refl
between_is TIMES = refl
between_is LESS = refl
between_is SAME = refl

pub shaped : (ws : List ℕ) (root : ℕ) (l : Level) (e : Expr) (x : Rooted ws root e) → Shaped ws root x.from l (expr_text l e)
unfolding code_of expr_size expr_text
shaped ws root l (Lit n) x =
    let r : Unit4 ws root 16 n = unit_at ws (0 ∷ 0 ∷ x.rest) x.from root 16 n (let q = x.ends in omega arith) x.is in
    record { room = r.room; shape = literal r.kind (let q = x.ends in omega arith) (ap decimal (sym r.number)) }
shaped ws root l (Var v) x =
    let r : Unit4 ws root 17 v = unit_at ws (0 ∷ 0 ∷ x.rest) x.from root 17 v (let q = x.ends in omega arith) x.is in
    record { room = r.room; shape = variable r.kind (let q = x.ends in omega arith) (ap (λ (n : ℕ). codes "v" ++ decimal n) (sym r.number)) }
shaped ws root l (Plus a b) x = two ws x.rest root x.from l _ PLUS a b x.is x.ends (rw (between_is PLUS) refl)
shaped ws root l (Minus a b) x = two ws x.rest root x.from l _ MINUS a b x.is x.ends (rw (between_is MINUS) refl)
shaped ws root l (Times a b) x = two ws x.rest root x.from l _ TIMES a b x.is x.ends (rw (between_is TIMES) refl)
shaped ws root l (Less a b) x = two ws x.rest root x.from l _ LESS a b x.is x.ends (rw (between_is LESS) refl)
shaped ws root l (Same a b) x = two ws x.rest root x.from l _ SAME a b x.is x.ends (rw (between_is SAME) refl)
shaped ws root l (Not a) x =
    let pa : 1 ≤ expr_size a = size_some a in
    let q : root + 4 ≡ x.from + 4 * (1 + expr_size a) = x.ends in
    let e1 : drop x.from ws ≡ code_of a ++ (23 ∷ 0 ∷ 0 ∷ 0 ∷ x.rest) = simp append_assoc at x.is in
    let e2 : drop (x.from + 4 * expr_size a) ws ≡ 23 ∷ 0 ∷ 0 ∷ 0 ∷ x.rest = past_code ws _ x.from a e1 in
    let r : Unit4 ws root 23 0 = unit_at ws (0 ∷ 0 ∷ x.rest) (x.from + 4 * expr_size a) root 23 0 (omega arith) e2 in
    record { room = r.room; shape = negation a r.kind (omega arith) (record { from = x.from; rest = _; is = e1; ends = omega arith }) refl refl }
