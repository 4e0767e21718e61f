-- The arms of the functions that print an expression. Assumes nothing.
use Rattle.std.proofs.Common.{◌≡◌, ℕ, ◌+◌, ◌-◌, ◌*◌, ◌<◌, ◌≤◌, Bool, true, false, cond, ◌≢◌, List, [], ◌∷◌, ◌++◌, length, get_or, Some, None, Ok, Err, codes, decimal, Option, Result, sym, refl, ap, ◌∙◌, subst, append_assoc, append-nil, arith}
use Rattle.plans.specs.Plan.{Expr, expr_size}
use Rattle.text.specs.Token.{Op, PLUS, MINUS, TIMES, LESS, SAME}
use Rattle.text.specs.Grammar.{Level, unary}
use Rattle.text.specs.Printer.{expr_text, bracketed, fits}
use Rattle.printing.specs.declared.PrintError.{PrintError}
use Rattle.text.specs.Kinds.{op_kind, Operates}
use Rattle.text.specs.Ahead.{operator_meant}
use Rattle.text.specs.declared.Operator.{Operator}
use Rattle.text.specs.declared.NoOperation.{NoOperation}
use Rattle.std.specs.Result.{result_ok}
use Rattle.printing.specs.Levels.{own_of, right_of, sign_text, Before}
use Rattle.printing.specs.Roots.{Rooted, Operation, FirstOf, FirstBefore}
use Rattle.printing.specs.Said.{Wrote}
use Rattle.printing.proofs.Adds.{wrote_as, then_wrote}
use Rattle.printing.proofs.Shapes.{size_some, Shape, literal, variable, operation, negation, shaped}

op_low : (o : Op) → 18 ≤ op_kind o
op_low PLUS = omega arith
op_low MINUS = omega arith
op_low TIMES = omega arith
op_low LESS = omega arith
op_low SAME = omega arith

op_high : (o : Op) → op_kind o ≤ 22
op_high PLUS = omega arith
op_high MINUS = omega arith
op_high TIMES = omega arith
op_high LESS = omega arith
op_high SAME = omega arith

same_op_lem : (o p : Op) → op_kind o ≡ op_kind p → o ≡ p
same_op_lem PLUS PLUS h = refl
same_op_lem PLUS MINUS h = absurd (omega arith)
same_op_lem PLUS TIMES h = absurd (omega arith)
same_op_lem PLUS LESS h = absurd (omega arith)
same_op_lem PLUS SAME h = absurd (omega arith)
same_op_lem MINUS PLUS h = absurd (omega arith)
same_op_lem MINUS MINUS h = refl
same_op_lem MINUS TIMES h = absurd (omega arith)
same_op_lem MINUS LESS h = absurd (omega arith)
same_op_lem MINUS SAME h = absurd (omega arith)
same_op_lem TIMES PLUS h = absurd (omega arith)
same_op_lem TIMES MINUS h = absurd (omega arith)
same_op_lem TIMES TIMES h = refl
same_op_lem TIMES LESS h = absurd (omega arith)
same_op_lem TIMES SAME h = absurd (omega arith)
same_op_lem LESS PLUS h = absurd (omega arith)
same_op_lem LESS MINUS h = absurd (omega arith)
same_op_lem LESS TIMES h = absurd (omega arith)
same_op_lem LESS LESS h = refl
same_op_lem LESS SAME h = absurd (omega arith)
same_op_lem SAME PLUS h = absurd (omega arith)
same_op_lem SAME MINUS h = absurd (omega arith)
same_op_lem SAME TIMES h = absurd (omega arith)
same_op_lem SAME LESS h = absurd (omega arith)
same_op_lem SAME SAME h = refl

-- printing
module _ (ws : List ℕ) (low root : ℕ) (l : Level) (r : Result (Unit {0}) PrintError) (old new : List ℕ) where
  literal_to : (from : ℕ) (t : List ℕ) → Shape ws root from l t → get_or ws root 0 ≡ 16 → Wrote r old (decimal (get_or ws (root + 1) 0)) new → Wrote r old t new
  literal_to from t (literal k f e) h w = wrote_as r old new _ t (sym e) w
  literal_to from t (variable k f e) h w = absurd (omega arith)
  literal_to from t (operation o a b x f e) h w = absurd (omega (arith, op_low o, x.kind))
  literal_to from t (negation a k n x f e) h w = absurd (omega arith)

  variable_to : (from : ℕ) (t : List ℕ) → Shape ws root from l t → get_or ws root 0 ≡ 17 → Wrote r old (codes "v" ++ decimal (get_or ws (root + 1) 0)) new → Wrote r old t new
  variable_to from t (literal k f e) h w = absurd (omega arith)
  variable_to from t (variable k f e) h w = wrote_as r old new _ t (sym e) w
  variable_to from t (operation o a b x f e) h w = absurd (omega (arith, op_low o, x.kind))
  variable_to from t (negation a k n x f e) h w = absurd (omega arith)

  negation_to : (from : ℕ) (t : List ℕ) → Shape ws root from l t → low ≤ from → get_or ws root 0 ≡ 23 → ((e : Expr) → 4 ≤ root → (x : Rooted ws (root - 4) e) → low ≤ x.from → Wrote r old (codes "not " ++ expr_text unary e) new) → Wrote r old t new
  negation_to from t (literal k f e) g h w = absurd (omega arith)
  negation_to from t (variable k f e) g h w = absurd (omega arith)
  negation_to from t (operation o a b x f e) g h w = absurd (omega (arith, op_high o, x.kind))
  negation_to from t (negation a k n x f e) g h w = wrote_as r old new _ t (sym e) (w a n x (omega arith))

  operation_to : (from : ℕ) (t : List ℕ) → Shape ws root from l t → low ≤ from → get_or ws root 0 ≢ 16 → get_or ws root 0 ≢ 17 → get_or ws root 0 ≢ 23 →
      ((o : Op) (a b : Expr) (x : Operation ws root o a b) → low ≤ x.left.from → Wrote r old (bracketed (fits (own_of o) l) (expr_text (own_of o) a ++ (sign_text o ++ expr_text (right_of o) b))) new) → Wrote r old t new
  operation_to from t (literal k f e) g h1 h2 h3 w = absurd (h1 k)
  operation_to from t (variable k f e) g h1 h2 h3 w = absurd (h2 k)
  operation_to from t (operation o a b x f e) g h1 h2 h3 w = wrote_as r old new _ t (sym e) (w o a b x (omega arith))
  operation_to from t (negation a k n x f e) g h1 h2 h3 w = absurd (h3 k)

  pub literal_arm : get_or ws root 0 ≡ 16 → Wrote r old (decimal (get_or ws (root + 1) 0)) new → (e : Expr) (x : Rooted ws root e) → low ≤ x.from → Wrote r old (expr_text l e) new
  literal_arm h w e x g = literal_to x.from (expr_text l e) (shaped ws root l e x).shape h w

  pub variable_arm : get_or ws root 0 ≡ 17 → Wrote r old (codes "v" ++ decimal (get_or ws (root + 1) 0)) new → (e : Expr) (x : Rooted ws root e) → low ≤ x.from → Wrote r old (expr_text l e) new
  variable_arm h w e x g = variable_to x.from (expr_text l e) (shaped ws root l e x).shape h w

  pub negation_arm : get_or ws root 0 ≡ 23 → ((e : Expr) → 4 ≤ root → (x : Rooted ws (root - 4) e) → low ≤ x.from → Wrote r old (codes "not " ++ expr_text unary e) new) → (e : Expr) (x : Rooted ws root e) → low ≤ x.from → Wrote r old (expr_text l e) new
  negation_arm h w e x g = negation_to x.from (expr_text l e) (shaped ws root l e x).shape g h w

  pub operation_arm : get_or ws root 0 ≢ 16 → get_or ws root 0 ≢ 17 → get_or ws root 0 ≢ 23 →
      ((o : Op) (a b : Expr) (x : Operation ws root o a b) → low ≤ x.left.from → Wrote r old (bracketed (fits (own_of o) l) (expr_text (own_of o) a ++ (sign_text o ++ expr_text (right_of o) b))) new) →
      (e : Expr) (x : Rooted ws root e) → low ≤ x.from → Wrote r old (expr_text l e) new
  operation_arm h1 h2 h3 w e x g = operation_to x.from (expr_text l e) (shaped ws root l e x).shape g h1 h2 h3 w

pub room_arm : (ws : List ℕ) (root : ℕ) → length ws < root + 2 → (e : Expr) → Rooted ws root e → ⊥
room_arm ws root h e x = let q : root + 1 < length ws = (shaped ws root unary e x).room in omega arith

pub low_arm : (ws : List ℕ) (low root : ℕ) → root < low → (e : Expr) (x : Rooted ws root e) → low ≤ x.from → ⊥
low_arm ws low root h e x g = omega (arith, size_some e, x.ends)

brackets : (fit : Bool) (x y z : List ℕ) → cond fit [] (40 ∷ []) ++ (x ++ (y ++ (z ++ cond fit [] (41 ∷ [])))) ≡ bracketed fit (x ++ (y ++ z))
unfolding bracketed
brackets true x y z = simp append-nil
brackets false x y z = simp append_assoc

-- the operand before a root, where there is room for it
pub before_some : (r : Option ℕ) (root n l : ℕ) → Before r root n → r ≡ Some l → l + 4 + 4 * n ≡ root
before_some r root n l h e = subst (λ (x : Option ℕ). Before x root n) e h

pub before_none : (r : Option ℕ) (root n : ℕ) → Before r root n → r ≡ None → root < 4 + 4 * n
before_none r root n h e = subst (λ (x : Option ℕ). Before x root n) e h

-- what holds of an operation's operands, as the code finds them
module _ (ws : List ℕ) (low root left : ℕ) (P : Type 0) (s : left + 4 + 4 * get_or ws (root + 1) 0 ≡ root) (o : Op) (a b : Expr) (x : Operation ws root o a b) where
  pub of_left : low ≤ x.left.from → ((e : Expr) (y : Rooted ws left e) → low ≤ y.from → P) → P
  of_left h w =
      let u = x.units in let v = x.room in let q = x.left.ends in
      let ends : left + 4 ≡ x.left.from + 4 * expr_size a = omega arith in
      w a (record { from = x.left.from; rest = x.left.rest; is = x.left.is; ends = ends }) h

  pub of_right : ((e : Expr) (y : Rooted ws (root - 4) e) → left + 4 ≤ y.from → P) → P
  of_right w =
      let u = x.units in let v = x.room in let q = x.right.ends in
      w b x.right (omega arith)

-- an operation, as the code prints it
pub operated : (ws : List ℕ) (low root left : ℕ) (p : Op) (fit : Bool) (l own1 own2 right : Level) (r : Result (Unit {0}) PrintError) (old m1 m2 m3 m4 new : List ℕ) →
    get_or ws root 0 ≡ op_kind p → left + 4 + 4 * get_or ws (root + 1) 0 ≡ root → fit ≡ fits own1 l → own1 ≡ own_of p → own2 ≡ own_of p → right ≡ right_of p →
    m1 ≡ old ++ cond fit [] (40 ∷ []) → ((e : Expr) (y : Rooted ws left e) → low ≤ y.from → m2 ≡ m1 ++ expr_text own2 e) → m3 ≡ m2 ++ sign_text p → ((e : Expr) (y : Rooted ws (root - 4) e) → left + 4 ≤ y.from → m4 ≡ m3 ++ expr_text right e) →
    Wrote r m4 (cond fit [] (41 ∷ [])) new →
    (o : Op) (a b : Expr) (x : Operation ws root o a b) → low ≤ x.left.from → Wrote r old (bracketed (fits (own_of o) l) (expr_text (own_of o) a ++ (sign_text o ++ expr_text (right_of o) b))) new
operated ws low root left p fit l own1 own2 right r old m1 m2 m3 m4 new k s f o1 o2 o3 e1 e2 e3 e4 w o a b x low-le =
    let q : o ≡ p = same_op_lem o p (sym x.kind ∙ k) in
    let at : left ≡ root - (4 + 4 * expr_size b) = let u = x.units in omega arith in
    let ends : left + 4 ≡ x.left.from + 4 * expr_size a = let v = x.left.ends in let u = x.room in omega arith in
    let la : Rooted ws left a = record { from = x.left.from; rest = x.left.rest; is = x.left.is; ends = ends } in
    let ra : left + 4 ≤ x.right.from = let v = x.right.ends in let u = x.room in let k = x.units in omega arith in
    let f1 : m2 ≡ m1 ++ expr_text (own_of p) a = e2 a la low-le ∙ ap (λ (v : Level). m1 ++ expr_text v a) o2 in
    let f2 : m4 ≡ m3 ++ expr_text (right_of p) b = e4 b x.right ra ∙ ap (λ (v : Level). m3 ++ expr_text v b) o3 in
    let g : fit ≡ fits (own_of p) l = f ∙ ap (λ (v : Level). fits v l) o1 in
    let all : Wrote r old (cond fit [] (40 ∷ []) ++ (expr_text (own_of p) a ++ (sign_text p ++ (expr_text (right_of p) b ++ cond fit [] (41 ∷ []))))) new =
    then_wrote r old m1 new _ _ e1 (then_wrote r m1 m2 new _ _ f1 (then_wrote r m2 m3 new _ _ e3 (then_wrote r m3 m4 new _ _ f2 w))) in
    let done : Wrote r old (bracketed fit (expr_text (own_of p) a ++ (sign_text p ++ expr_text (right_of p) b))) new = wrote_as r old new _ _ (brackets fit (expr_text (own_of p) a) (sign_text p) (expr_text (right_of p) b)) all in
    let fine : Wrote r old (bracketed (fits (own_of p) l) (expr_text (own_of p) a ++ (sign_text p ++ expr_text (right_of p) b))) new = subst (λ (v : Bool). Wrote r old (bracketed v (expr_text (own_of p) a ++ (sign_text p ++ expr_text (right_of p) b))) new) g done in
    subst (λ (v : Op). Wrote r old (bracketed (fits (own_of v) l) (expr_text (own_of v) a ++ (sign_text v ++ expr_text (right_of v) b))) new) (sym q) fine

-- the operation that a kind is, if it is one
pub operates_some : (k : ℕ) (r : Result Operator NoOperation) (o : Operator) → Operates k r → result_ok r ≡ Some o → k ≡ op_kind (operator_meant o)
operates_some k (Ok p) o h e = let same : p ≡ o = cc in h ∙ ap (λ (x : Operator). op_kind (operator_meant x)) same
operates_some k (Err x) o h e = let z : ◌≡◌ {A = ℕ} 0 1 = cc in absurd (omega arith)

pub operates_none : (k : ℕ) (r : Result Operator NoOperation) → Operates k r → result_ok r ≡ None → (o : Op) → k ≢ op_kind o
operates_none k (Ok p) h e = let z : ◌≡◌ {A = ℕ} 0 1 = cc in absurd (omega arith)
operates_none k (Err x) h e = h

pub before_short : (ws : List ℕ) (root n : ℕ) → root < 4 + 4 * n → FirstBefore None ws root n
before_short ws root n h = λ e l i x. omega arith

-- where an expression begins
module _ (ws : List ℕ) (root : ℕ) where
  leaf_to : (from : ℕ) (t : List ℕ) → Shape ws root from unary t → get_or ws root 0 ≤ 17 → root ≡ from
  leaf_to from t (literal k f e) h = sym f
  leaf_to from t (variable k f e) h = sym f
  leaf_to from t (operation o a b x f e) h = absurd (omega (arith, op_low o, x.kind))
  leaf_to from t (negation a k n x f e) h = absurd (omega arith)

  pub leaf_first : get_or ws root 0 ≤ 17 → (root ≤ root) × ((e : Expr) (x : Rooted ws root e) → root ≡ x.from)
  leaf_first h = (omega arith, λ e x. leaf_to x.from (expr_text unary e) (shaped ws root unary e x).shape h)

  not_to : (from : ℕ) (t : List ℕ) → Shape ws root from unary t → get_or ws root 0 ≡ 23 → (a : ℕ) → ((e : Expr) (l : ℕ) → l + 4 + 4 * 0 ≡ root → (x : Rooted ws l e) → a ≡ x.from) → a ≡ from
  not_to from t (literal k f e) h a w = absurd (omega arith)
  not_to from t (variable k f e) h a w = absurd (omega arith)
  not_to from t (operation o b d x f e) h a w = absurd (omega (arith, op_high o, x.kind))
  not_to from t (negation b k n x f e) h a w = w b (root - 4) (omega arith) x ∙ f

  not_none : (from : ℕ) (t : List ℕ) → Shape ws root from unary t → get_or ws root 0 ≡ 23 → ((e : Expr) (l : ℕ) → l + 4 + 4 * 0 ≡ root → Rooted ws l e → ⊥) → ⊥
  not_none from t (literal k f e) h w = omega arith
  not_none from t (variable k f e) h w = omega arith
  not_none from t (operation o b d x f e) h w = omega (arith, op_high o, x.kind)
  not_none from t (negation b k n x f e) h w = w b (root - 4) (omega arith) x

  pub not_first : (r : Option ℕ) → get_or ws root 0 ≡ 23 → FirstBefore r ws root 0 → FirstOf r ws root
  not_first (Some a) h w = (w.0, λ e x. not_to x.from (expr_text unary e) (shaped ws root unary e x).shape h a w.1)
  not_first None h w = λ e x. not_none x.from (expr_text unary e) (shaped ws root unary e x).shape h w

  two_to : (from : ℕ) (t : List ℕ) → Shape ws root from unary t → 18 ≤ get_or ws root 0 → get_or ws root 0 ≤ 22 → (a : ℕ) → ((e : Expr) (l : ℕ) → l + 4 + 4 * get_or ws (root + 1) 0 ≡ root → (x : Rooted ws l e) → a ≡ x.from) → a ≡ from
  two_to from t (literal k f e) h g a w = absurd (omega arith)
  two_to from t (variable k f e) h g a w = absurd (omega arith)
  two_to from t (operation o b d x f e) h g a w = w b (root - (4 + 4 * expr_size d)) (let u = x.units in let v = x.room in omega arith) x.left ∙ f
  two_to from t (negation b k n x f e) h g a w = absurd (omega arith)

  two_none : (from : ℕ) (t : List ℕ) → Shape ws root from unary t → 18 ≤ get_or ws root 0 → get_or ws root 0 ≤ 22 → ((e : Expr) (l : ℕ) → l + 4 + 4 * get_or ws (root + 1) 0 ≡ root → Rooted ws l e → ⊥) → ⊥
  two_none from t (literal k f e) h g w = omega arith
  two_none from t (variable k f e) h g w = omega arith
  two_none from t (operation o b d x f e) h g w = w b (root - (4 + 4 * expr_size d)) (let u = x.units in let v = x.room in omega arith) x.left
  two_none from t (negation b k n x f e) h g w = omega arith

  pub two_first : (r : Option ℕ) (o : Op) → get_or ws root 0 ≡ op_kind o → FirstBefore r ws root (get_or ws (root + 1) 0) → FirstOf r ws root
  two_first (Some a) o h w = (w.0, λ e x. two_to x.from (expr_text unary e) (shaped ws root unary e x).shape (omega (arith, op_low o)) (omega (arith, op_high o)) a w.1)
  two_first None o h w = λ e x. two_none x.from (expr_text unary e) (shaped ws root unary e x).shape (omega (arith, op_low o)) (omega (arith, op_high o)) w

  none_to : (from : ℕ) (t : List ℕ) → Shape ws root from unary t → get_or ws root 0 ≢ 16 → get_or ws root 0 ≢ 17 → get_or ws root 0 ≢ 23 → ((o : Op) → get_or ws root 0 ≡ op_kind o → ⊥) → ⊥
  none_to from t (literal k f e) h1 h2 h3 w = h1 k
  none_to from t (variable k f e) h1 h2 h3 w = h2 k
  none_to from t (operation o b d x f e) h1 h2 h3 w = w o x.kind
  none_to from t (negation b k n x f e) h1 h2 h3 w = h3 k

  pub no_first : get_or ws root 0 ≢ 16 → get_or ws root 0 ≢ 17 → get_or ws root 0 ≢ 23 → ((o : Op) → get_or ws root 0 ≡ op_kind o → ⊥) → (e : Expr) → Rooted ws root e → ⊥
  no_first h1 h2 h3 w e x = none_to x.from (expr_text unary e) (shaped ws root unary e x).shape h1 h2 h3 w

-- the operand before
pub before_first : (ws : List ℕ) (root left n : ℕ) (r : Option ℕ) → left + 4 + 4 * n ≡ root → FirstOf r ws left → FirstBefore r ws root n
before_first ws root left n (Some a) h w = (let q : a ≤ left = w.0 in omega arith, λ e l g x. let s : l ≡ left = omega arith in go a e l x s w.1)
  where
    go : (a : ℕ) (e : Expr) (l : ℕ) (x : Rooted ws l e) → l ≡ left → ((e : Expr) (x : Rooted ws left e) → a ≡ x.from) → a ≡ x.from
    go a e l x s v = v e (record { from = x.from; rest = x.rest; is = x.is; ends = let q = x.ends in omega arith })
before_first ws root left n None h w = λ e l g x. let s : l ≡ left = omega arith in w e (subst (λ (k : ℕ). Rooted ws k e) s x)

pub first_some : (ws : List ℕ) (root : ℕ) (r : Option ℕ) (a : ℕ) → FirstOf r ws root → r ≡ Some a → FirstOf (Some a) ws root
first_some ws root r a h e = subst (λ (x : Option ℕ). FirstOf x ws root) e h

pub first_none : (ws : List ℕ) (root : ℕ) (r : Option ℕ) → FirstOf r ws root → r ≡ None → FirstOf None ws root
first_none ws root r h e = subst (λ (x : Option ℕ). FirstOf x ws root) e h
