-- A plan as words of 64 bits: four words, a unit, for each 1 of its size. An address is the place of a word in the plan.
--
-- A statement's first word is its entry: its kind and how many frames the meaning has while control is there.
-- A loop has a second entry in its second word, for when it turns; a guard has one there for the step out of its first part;
-- the unit that ends a part has there the end of the plan, to which control comes only in the plan's own last unit.
-- The expressions of a statement follow its head, in postfix order; the first unit that is of no expression ends them.
-- Assumes nothing.
use Rattle.std.specs.Prelude.{◌≡◌, ℕ, suc, ◌+◌, ◌-◌, ◌*◌, Bool, true, false, cond, ◌||◌, List, [], ◌∷◌, ◌++◌, length, take, replicate, Option, Some, None, ◌==◌}
use Rattle.plans.specs.Plan.{Name, Expr, Lit, Var, Plus, Minus, Times, Less, Same, Not, Stmt, Set, Do, Sleep, Hear, If, While, Guard, Return, FailNow, Block, done, then, expr_size, stmt_size, size_of}

-- where a failure goes: nowhere, so that the flow has failed, or to the address of a guard's other part
pub data Way : Type 0 where
  Nowhere : Way
  To : ℕ → Way

unfoldable pub way_word : Way → ℕ
way_word Nowhere = 0
way_word (To a) = suc a

-- the same, as the code has it
abbrev pub way_of : Option ℕ → Way
way_of None = Nowhere
way_of (Some a) = To a

-- an entry: a kind, and how deep control is there
abbrev pub entry : (kind deep : ℕ) → ℕ
entry k d = k + 32 * d

-- the units of an expression; an operation says how many units its right operand has
unfoldable pub code_of : Expr → List ℕ
code_of (Lit n) = 16 ∷ n ∷ 0 ∷ 0 ∷ []
code_of (Var v) = 17 ∷ v ∷ 0 ∷ 0 ∷ []
code_of (Plus a b) = code_of a ++ (code_of b ++ (18 ∷ expr_size b ∷ 0 ∷ 0 ∷ []))
code_of (Minus a b) = code_of a ++ (code_of b ++ (19 ∷ expr_size b ∷ 0 ∷ 0 ∷ []))
code_of (Times a b) = code_of a ++ (code_of b ++ (20 ∷ expr_size b ∷ 0 ∷ 0 ∷ []))
code_of (Less a b) = code_of a ++ (code_of b ++ (21 ∷ expr_size b ∷ 0 ∷ 0 ∷ []))
code_of (Same a b) = code_of a ++ (code_of b ++ (22 ∷ expr_size b ∷ 0 ∷ 0 ∷ []))
code_of (Not a) = code_of a ++ (23 ∷ 0 ∷ 0 ∷ 0 ∷ [])

unfoldable pub codes_of : List Expr → List ℕ
codes_of [] = []
codes_of (e ∷ es) = code_of e ++ codes_of es

-- a name, one letter a word, and zeros behind it: 64 words
unfoldable pub padded : Name → List ℕ
padded n = take 64 (n ++ replicate 64 0)

-- The draft: a plan as it is read, before it is known where control goes on behind a statement. A head has how many units the whole statement has,
-- behind how many units its second part begins, if it has two, and how many its condition has, if parts follow that.
unfoldable mutual
  pub draft_stmt : Stmt → List ℕ
  draft_stmt (Set v e) = 1 ∷ v ∷ stmt_size (Set v e) ∷ 0 ∷ code_of e
  draft_stmt (Do v k es t p) = 2 ∷ v ∷ stmt_size (Do v k es t p) ∷ 0 ∷ k ∷ t ∷ p ∷ length es ∷ 0 ∷ 0 ∷ 0 ∷ 0 ∷ 0 ∷ 0 ∷ 0 ∷ 0 ∷ codes_of es
  draft_stmt (Sleep e) = 3 ∷ 0 ∷ stmt_size (Sleep e) ∷ 0 ∷ code_of e
  draft_stmt (Hear v w n e) = 4 ∷ v ∷ stmt_size (Hear v w n e) ∷ w ∷ (padded n ++ code_of e)
  draft_stmt (If e x y) = 5 ∷ (1 + (expr_size e + size_of x)) ∷ stmt_size (If e x y) ∷ expr_size e ∷ (code_of e ++ (draft_of x ++ draft_of y))
  draft_stmt (While e x) = 6 ∷ 0 ∷ stmt_size (While e x) ∷ expr_size e ∷ (code_of e ++ draft_of x)
  draft_stmt (Guard x y) = 8 ∷ (1 + size_of x) ∷ stmt_size (Guard x y) ∷ 0 ∷ (draft_of x ++ draft_of y)
  draft_stmt (Return e) = 10 ∷ 0 ∷ stmt_size (Return e) ∷ 0 ∷ code_of e
  draft_stmt FailNow = 11 ∷ 0 ∷ 1 ∷ 0 ∷ []

  pub draft_of : Block → List ℕ
  draft_of done = 12 ∷ 0 ∷ 0 ∷ 0 ∷ []
  draft_of (then s b) = draft_stmt s ++ draft_of b

-- how many frames are under a statement that b follows, in a part with so many under it
unfoldable pub under : Block → ℕ → ℕ
under done n = n
under (then s b) n = suc n

-- what is left of a part is at m, or else, where nothing is left, control goes on at next
unfoldable pub go_on : Block → ℕ → ℕ → ℕ
go_on done m next = next
go_on (then s b) m next = m

-- The flat form. `lay_stmt a s next way u d`: the statement s at the address a, where d frames are; control goes on at next, where u frames are;
-- a failure goes to way. `lay a b next way n`: the part b at a, with n frames under it.
unfoldable mutual
  pub lay_stmt : ℕ → Stmt → ℕ → Way → ℕ → ℕ → List ℕ
  lay_stmt a (Set v e) next way u d = entry 1 d ∷ v ∷ next ∷ 0 ∷ code_of e
  lay_stmt a (Do v k es t p) next way u d = entry 2 d ∷ v ∷ next ∷ way_word way ∷ k ∷ t ∷ p ∷ length es ∷ 0 ∷ 0 ∷ 0 ∷ 0 ∷ 0 ∷ 0 ∷ 0 ∷ 0 ∷ codes_of es
  lay_stmt a (Sleep e) next way u d = entry 3 d ∷ 0 ∷ next ∷ 0 ∷ code_of e
  lay_stmt a (Hear v w n e) next way u d = entry 4 d ∷ v ∷ next ∷ w ∷ (padded n ++ code_of e)
  lay_stmt a (If e x y) next way u d =
      let yes0 : ℕ = a + (4 + 4 * expr_size e) in
      let no0 : ℕ = yes0 + 4 * size_of x in
      entry 5 d ∷ no0 ∷ 0 ∷ 0 ∷ (code_of e ++ (lay yes0 x next way u ++ lay no0 y next way u))
  lay_stmt a (While e x) next way u d = entry 6 d ∷ entry 7 (suc u) ∷ next ∷ 0 ∷ (code_of e ++ lay (a + (4 + 4 * expr_size e)) x (suc a) way (suc u))
  lay_stmt a (Guard x y) next way u d =
      let first : ℕ = a + 4 in
      let other : ℕ = first + 4 * size_of x in
      entry 8 d ∷ entry 9 (suc u) ∷ next ∷ other ∷ (lay first x (suc a) (To other) (suc u) ++ lay other y next way u)
  lay_stmt a (Return e) next way u d = entry 10 d ∷ 0 ∷ 0 ∷ 0 ∷ code_of e
  lay_stmt a FailNow next way u d = entry 11 d ∷ 0 ∷ 0 ∷ way_word way ∷ []

  pub lay : ℕ → Block → ℕ → Way → ℕ → List ℕ
  lay a done next way n = entry 12 (suc n) ∷ entry 13 0 ∷ next ∷ 0 ∷ []
  lay a (then s b) next way n = lay_stmt a s (go_on b (a + 4 * stmt_size s) next) way (under b n) (suc n) ++ lay (a + 4 * stmt_size s) b next way n

-- a whole plan: it begins at 0, and its end is in the second word of its last unit
unfoldable pub laid : Block → List ℕ
laid b = lay 0 b (4 * size_of b - 3) Nowhere 0

-- these words are that plan
abbrev pub IsFlat : List ℕ → Block → Type 0
IsFlat ws b = ws ≡ laid b

-- a statement with no parts
unfoldable pub is_simple : Stmt → Bool
is_simple (Set v e) = true
is_simple (Do v k es t p) = true
is_simple (Sleep e) = true
is_simple (Hear v w n e) = true
is_simple (If e x y) = false
is_simple (While e x) = false
is_simple (Guard x y) = false
is_simple (Return e) = true
is_simple FailNow = true

-- the third word of a head with no parts: nothing goes on behind the plan's end or a failure
abbrev pub next_word : (kind next : ℕ) → ℕ
next_word k next = cond (k == 10 || k == 11) 0 next

-- and its fourth: a task and a failure say where a failure goes
abbrev pub last_word : (kind way own : ℕ) → ℕ
last_word k way own = cond (k == 2 || k == 11) way own
