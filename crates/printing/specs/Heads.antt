-- Statements and parts in the flat form. Assumes nothing.
use Rattle.std.specs.Prelude.{◌≡◌, ℕ, suc, ◌+◌, Bool, cond, ◌&&◌, List, [], ◌∷◌, ◌++◌, drop, codes, decimal, ◌==◌, nat_le}
use Rattle.plans.specs.Plan.{Stmt, Set, Do, Sleep, Hear, If, While, Guard, Return, FailNow, Block}
use Rattle.plans.specs.Flat.{Way, lay, lay_stmt}
use Rattle.text.specs.Grammar.{compare}
use Rattle.text.specs.Printer.{expr_text, args_text, eol, indent, lines_of}

-- the kind of a unit of an expression
abbrev pub is_unit : ℕ → Bool
is_unit k = nat_le 16 k && nat_le k 23

-- how many words the units of expressions have that stand first
unfoldable pub units_in : List ℕ → ℕ
units_in [] = 0
units_in (k ∷ []) = 0
units_in (k ∷ x ∷ []) = 0
units_in (k ∷ x ∷ y ∷ []) = 0
units_in (k ∷ x ∷ y ∷ z ∷ ws) = cond (is_unit k) (4 + units_in ws) 0

-- the words up to the first 0
unfoldable pub letters_in : List ℕ → List ℕ
letters_in [] = []
letters_in (x ∷ ws) = cond (x == 0) [] (x ∷ letters_in ws)

-- the part b stands here, and then the rest
pub record PartAt (ws : List ℕ) (at : ℕ) (b : Block) (rest : List ℕ) : Type 0 where
  pub place : ℕ
  pub next : ℕ
  pub way : Way
  pub under : ℕ
  pub is : drop at ws ≡ lay place b next way under ++ rest

-- the statement s stands here, and then the rest, which begins with no unit of an expression
pub record StmtAt (ws : List ℕ) (at : ℕ) (s : Stmt) (rest : List ℕ) : Type 0 where
  pub place : ℕ
  pub next : ℕ
  pub way : Way
  pub under : ℕ
  pub deep : ℕ
  pub is : drop at ws ≡ lay_stmt place s next way under (suc deep) ++ rest
  pub stop : units_in rest ≡ 0

-- a part in braces
abbrev pub braced : ℕ → Block → List ℕ
braced d b = codes " {" ++ (eol ++ (lines_of (suc d) b ++ (indent d ++ codes "}")))

-- the lines of a statement, behind what the first begins with
unfoldable pub told : ℕ → Stmt → List ℕ
told d (Set v e) = codes "set v" ++ (decimal v ++ (codes " = " ++ (expr_text compare e ++ eol)))
told d (Do v k es n p) =
    codes "v" ++ (decimal v ++ (codes " = do " ++ (decimal k ++ (codes " (" ++ (args_text es ++ (codes ") tries " ++ (decimal n ++ (codes " pause " ++ (decimal p ++ eol)))))))))
told d (Sleep e) = codes "sleep " ++ (expr_text compare e ++ eol)
told d (Hear v w n e) = codes "v" ++ (decimal v ++ (codes ", v" ++ (decimal w ++ (codes " = hear " ++ (n ++ (codes " for " ++ (expr_text compare e ++ eol)))))))
told d (If e a b) = codes "if " ++ (expr_text compare e ++ (braced d a ++ (codes " else" ++ (braced d b ++ eol))))
told d (While e a) = codes "while " ++ (expr_text compare e ++ (braced d a ++ eol))
told d (Guard a b) = codes "guard" ++ (braced d a ++ (codes " else" ++ (braced d b ++ eol)))
told d (Return e) = codes "return " ++ (expr_text compare e ++ eol)
told d FailNow = codes "fail" ++ eol
