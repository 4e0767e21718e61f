-- What is in the grammar the reader reads: expressions. Assumes nothing.
use Rattle.std.proofs.Common.{◌≡◌, ℕ, zero, suc, ◌<◌, ◌≤◌, List, [], ◌∷◌, length, refl, ◌∙◌, le_refl, arith}
use Rattle.plans.specs.Plan.{Expr, Plus, Minus, Times, Less, Same}
use Rattle.text.specs.Token.{Token, got}
use Rattle.text.specs.Grammar.{Level, unary, product, sum, compare, Reads, literal, var, negation, bracket, factor, times, term, plus, minus, side, less, same, IsExpr}
use Rattle.text.specs.Parser.{and_then, Parser, Join, joins, ends, on_join, product_op, sum_op, compare_op, more_s, chain_s, code_of, after, levels, in_bracket, by_word, unary_s, expr_s}

-- no token that goes on with a chain
abbrev pub Stops : (Token → Join) → List Token → Type 0
Stops j [] = Unit {0}
Stops j (t ∷ ts) = j t ≡ ends

-- behind a whole expression
pub record Fresh (us : List Token) : Type 0 where
  pub products : Stops product_op us
  pub sums : Stops sum_op us
  pub compares : Stops compare_op us

pub record Goes (j : Token → Join) (p : Parser) (ts : List Token) (e : Expr) (us : List Token) : Type 0 where
  pub fuel : ℕ
  pub enough : length us ≤ fuel
  pub rest : chain_s j p ts ≡ more_s j p fuel e us

goes_one : (j : Token → Join) (p : Parser) (ts : List Token) (e : Expr) (us : List Token) → p ts ≡ got e us → Goes j p ts e us
unfolding chain_s and_then
goes_one j p ts e us h = record { fuel = length us; enough = le_refl _; rest = rw h refl }

goes_more : (j : Token → Join) (p : Parser) (ts : List Token) (a b : Expr) (t : Token) (us vs : List Token) (f : Expr → Expr → Expr) →
    Goes j p ts a (t ∷ us) → j t ≡ joins f → p us ≡ got b vs → length vs < length us → Goes j p ts (f a b) vs
unfolding more_s and_then on_join
goes_more j p ts a b t us vs f g jt pu short = go g.fuel g.enough g.rest
  where
    go : (m : ℕ) → length (t ∷ us) ≤ m → chain_s j p ts ≡ more_s j p m a (t ∷ us) → Goes j p ts (f a b) vs
    go zero le e = absurd (omega arith)
    go (suc m) le e = record { fuel = m; enough = omega arith; rest = e ∙ rw (jt, pu) refl }

goes_end : (j : Token → Join) (p : Parser) (ts : List Token) (e : Expr) (us : List Token) → Goes j p ts e us → Stops j us → chain_s j p ts ≡ got e us
unfolding more_s on_join
goes_end j p ts e us g stop = go g.fuel us g.rest stop
  where
    go : (m : ℕ) (vs : List Token) → chain_s j p ts ≡ more_s j p m e vs → Stops j vs → chain_s j p ts ≡ got e vs
    go zero vs h s = h
    go (suc m) [] h s = h
    go (suc m) (t ∷ vs) h s = h ∙ rw s refl

pub shorter : {l : Level} {d : ℕ} {ts us : List Token} {e : Expr} → Reads l d ts e us → length us < length ts
shorter (literal n) = omega arith
shorter (var v) = omega arith
shorter (negation x) = omega (arith, shorter x)
shorter (bracket x) = omega (arith, shorter x)
shorter (factor x) = shorter x
shorter (times x y) = omega (arith, shorter x, shorter y)
shorter (term x) = shorter x
shorter (plus x y) = omega (arith, shorter x, shorter y)
shorter (minus x y) = omega (arith, shorter x, shorter y)
shorter (side x) = shorter x
shorter (less x y) = omega (arith, shorter x, shorter y)
shorter (same x y) = omega (arith, shorter x, shorter y)

-- what may not follow, and what then is read
abbrev Free : Level → List Token → Type 0
Free unary us = Unit {0}
Free product us = Unit {0}
Free sum us = Stops product_op us
Free compare us = Stops product_op us × Stops sum_op us

abbrev Done : Level → ℕ → ℕ → List Token → Expr → List Token → Type 0
Done unary n d ts e us = unary_s n d ts ≡ got e us
Done product n d ts e us = Goes product_op (unary_s n d) ts e us
Done sum n d ts e us = Goes sum_op (chain_s product_op (unary_s n d)) ts e us
Done compare n d ts e us = Goes compare_op (chain_s sum_op (chain_s product_op (unary_s n d))) ts e us

complete : {l : Level} {d : ℕ} {ts us : List Token} {e : Expr} → Reads l d ts e us → (n : ℕ) → length ts ≤ n → Free l us → Done l n d ts e us
unfolding unary_s by_word in_bracket levels and_then after code_of product_op sum_op compare_op
complete (literal n) zero le s = absurd (omega arith)
complete (literal n) (suc m) le s = refl
complete (var n) zero le s = absurd (omega arith)
complete (var n) (suc m) le s = refl
complete (negation x) zero le s = absurd (omega arith)
complete (negation x) (suc m) le s = rw (complete x m (omega arith) tt) refl
complete (bracket x) zero le s = absurd (omega arith)
complete (bracket x) (suc m) le s = rw (goes_end _ _ _ _ _ (complete x m (omega arith) (refl, refl)) refl) refl
complete (factor x) n le s = goes_one _ _ _ _ _ (complete x n le tt)
complete (times x y) n le s = goes_more _ _ _ _ _ _ _ _ Times (complete x n le tt) refl (complete y n (omega (arith, shorter x)) tt) (shorter y)
complete (term x) n le s = goes_one _ _ _ _ _ (goes_end _ _ _ _ _ (complete x n le tt) s)
complete (plus x y) n le s = goes_more _ _ _ _ _ _ _ _ Plus (complete x n le refl) refl (goes_end _ _ _ _ _ (complete y n (omega (arith, shorter x)) tt) s) (shorter y)
complete (minus x y) n le s = goes_more _ _ _ _ _ _ _ _ Minus (complete x n le refl) refl (goes_end _ _ _ _ _ (complete y n (omega (arith, shorter x)) tt) s) (shorter y)
complete (side x) n le s = goes_one _ _ _ _ _ (goes_end _ _ _ _ _ (complete x n le s.0) s.1)
complete (less x y) n le s = goes_more _ _ _ _ _ _ _ _ Less (complete x n le (refl, refl)) refl (goes_end _ _ _ _ _ (complete y n (omega (arith, shorter x)) s.0) s.1) (shorter y)
complete (same x y) n le s = goes_more _ _ _ _ _ _ _ _ Same (complete x n le (refl, refl)) refl (goes_end _ _ _ _ _ (complete y n (omega (arith, shorter x)) s.0) s.1) (shorter y)

pub expr_complete : {ts us : List Token} {e : Expr} → IsExpr ts e us → Fresh us → expr_s ts ≡ got e us
unfolding expr_s levels
expr_complete {ts} {us} {e} x f = goes_end compare_op _ ts e us (complete x (length ts) (le_refl _) (f.products, f.sums)) f.compares
