-- The arguments of a task, the last first. Assumes nothing.
use Rattle.std.proofs.Common.{◌≡◌, ℕ, ◌+◌, ◌-◌, ◌*◌, ◌<◌, ◌≤◌, ◌≢◌, List, [], ◌∷◌, ◌++◌, length, drop, codes, Result, sym, refl, ap, ◌∙◌, subst, append_assoc, append-nil, arith, length-append}
use Rattle.plans.specs.Plan.{Expr, expr_size, sizes}
use Rattle.plans.specs.Flat.{code_of, codes_of}
use Rattle.text.specs.Grammar.{compare}
use Rattle.text.specs.Printer.{expr_text, args_text, more_text}
use Rattle.printing.specs.declared.PrintError.{PrintError}
use Rattle.printing.specs.Roots.{Rooted}
use Rattle.printing.specs.Said.{Wrote}
use Rattle.printing.proofs.Adds.{then_wrote, wrote_as}
use Rattle.printing.proofs.Shapes.{past, size_some}
use Rattle.printing.proofs.Units.{length_codes}

record Last (es : List Expr) : Type 0 where
  front : List Expr
  last : Expr
  is : es ≡ front ++ (last ∷ [])

last_of : (e : Expr) (es : List Expr) → Last (e ∷ es)
last_of e [] = record { front = []; last = e; is = refl }
last_of e (f ∷ es) = let r = last_of f es in record { front = e ∷ r.front; last = r.last; is = ap (λ (x : List Expr). e ∷ x) r.is }

codes_last : (es : List Expr) (e : Expr) → codes_of (es ++ (e ∷ [])) ≡ codes_of es ++ code_of e
unfolding codes_of
codes_last [] e = append-nil (code_of e)
codes_last (d ∷ es) e = rw (codes_last es e, append_assoc) refl

sizes_last : (es : List Expr) (e : Expr) → sizes (es ++ (e ∷ [])) ≡ sizes es + expr_size e
unfolding sizes
sizes_last [] e = omega arith
sizes_last (d ∷ es) e = omega (arith, sizes_last es e)

more_last : (es : List Expr) (e : Expr) → more_text (es ++ (e ∷ [])) ≡ more_text es ++ (codes ", " ++ expr_text compare e)
unfolding more_text
more_last [] e = rw append-nil refl
more_last (d ∷ es) e = rw (more_last es e) (simp append_assoc)

args_last : (es : List Expr) (e : Expr) → 0 < length es → args_text (es ++ (e ∷ [])) ≡ args_text es ++ (codes ", " ++ expr_text compare e)
unfolding args_text
args_last [] e h = absurd (omega arith)
args_last (d ∷ es) e h = rw (more_last es e) (simp append_assoc)

args_one : (es : List Expr) (e : Expr) → length es ≡ 0 → args_text (es ++ (e ∷ [])) ≡ expr_text compare e
unfolding args_text more_text
args_one [] e h = append-nil (expr_text compare e)
args_one (d ∷ es) e h = absurd (omega arith)

-- the last of some arguments, and those before it
pub record LastArg (ws : List ℕ) (end count : ℕ) (es : List Expr) (a : ℕ) : Type 0 where
  pub front : List Expr
  pub last : Expr
  pub is : es ≡ front ++ (last ∷ [])
  pub few : count ≡ length front + 1
  pub rest : List ℕ
  pub stands : drop a ws ≡ codes_of front ++ rest
  pub root : Rooted ws (end - 4) last
  pub begins : root.from ≡ a + 4 * sizes front
  pub wide : 4 ≤ end

pub last_arg : (ws : List ℕ) (end count : ℕ) (es : List Expr) (a : ℕ) (rest : List ℕ) → 0 < count → drop a ws ≡ codes_of es ++ rest → end ≡ a + 4 * sizes es → count ≡ length es → LastArg ws end count es a
last_arg ws end count [] a rest p h e n = absurd (omega arith)
last_arg ws end count (d ∷ ds) a rest p h e n =
    let r : Last (d ∷ ds) = last_of d ds in
    let q : d ∷ ds ≡ r.front ++ (r.last ∷ []) = r.is in
    let h1 : drop a ws ≡ (codes_of r.front ++ code_of r.last) ++ rest = h ∙ ap (λ (x : List ℕ). x ++ rest) (ap codes_of q ∙ codes_last r.front r.last) in
    let h2 : drop a ws ≡ codes_of r.front ++ (code_of r.last ++ rest) = h1 ∙ append_assoc (codes_of r.front) (code_of r.last) rest in
    let s : sizes (d ∷ ds) ≡ sizes r.front + expr_size r.last = ap sizes q ∙ sizes_last r.front r.last in
    let some : 1 ≤ expr_size r.last = size_some r.last in
    let m : length (r.front ++ (r.last ∷ [])) ≡ length r.front + 1 = length-append r.front (r.last ∷ []) in
    let k : length (d ∷ ds) ≡ length (r.front ++ (r.last ∷ [])) = ap length q in
    let h3 : drop (a + 4 * sizes r.front) ws ≡ code_of r.last ++ rest = subst (λ (x : ℕ). drop (a + x) ws ≡ code_of r.last ++ rest) (length_codes r.front) (past ws (codes_of r.front) (code_of r.last ++ rest) a h2) in
    record {
      front = r.front;
      last = r.last;
      is = q;
      few = omega arith;
      rest = code_of r.last ++ rest;
      stands = h2;
      root = record { from = a + 4 * sizes r.front; rest = rest; is = h3; ends = omega arith };
      begins = refl;
      wide = omega arith;
    }

pub no_args : (es : List Expr) (old : List ℕ) → length es ≡ 0 → old ≡ old ++ args_text es
unfolding args_text
no_args [] old h = sym (append-nil old)
no_args (e ∷ es) old h = absurd (omega arith)

module _ (ws : List ℕ) (end count : ℕ) (es : List Expr) (a : ℕ) (x : LastArg ws end count es a) (r : Result (Unit {0}) PrintError) (old new : List ℕ) where
  pub one_arg : (low : ℕ) → low ≤ a → count ≡ 1 → ((e : Expr) (y : Rooted ws (end - 4) e) → low ≤ y.from → Wrote r old (expr_text compare e) new) → Wrote r old (args_text es) new
  one_arg low g n w =
      let f = x.few in
      let z : length x.front ≡ 0 = omega arith in
      wrote_as r old new _ _ (sym (ap args_text x.is ∙ args_one x.front x.last z)) (w x.last x.root (let b = x.begins in omega arith))

  pub more_args : (first : ℕ) (mid sep : List ℕ) → first ≡ x.root.from → count ≢ 1 → mid ≡ old ++ args_text x.front → sep ≡ mid ++ codes ", " → ((e : Expr) (y : Rooted ws (end - 4) e) → first ≤ y.from → Wrote r sep (expr_text compare e) new) → Wrote r old (args_text es) new
  more_args first mid sep q n h s w =
      let f = x.few in
      let z : 0 < length x.front = omega arith in
      wrote_as r old new _ _ (sym (ap args_text x.is ∙ args_last x.front x.last z))
      (then_wrote r old mid new (args_text x.front) (codes ", " ++ expr_text compare x.last) h (then_wrote r mid sep new (codes ", ") (expr_text compare x.last) s (w x.last x.root (omega arith))))
