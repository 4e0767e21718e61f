-- Pieces of a statement, one after the other.
use Rattle.std.proofs.Common.{◌≡◌, ℕ, zero, suc, ◌+◌, ◌-◌, ◌/◌, ◌≤◌, List, [], ◌∷◌, ◌++◌, length, take, Ok, Err, Result, sym, refl, ap, ◌∙◌, le_trans, le_refl, arith, length-take-le}
use Rattle.plans.specs.Plan.{Expr, Stmt, Set, expr_size, stmt_size}
use Rattle.plans.specs.Flat.{code_of, draft_stmt}
use Rattle.plans.proofs.Drafts.{code_length}
use Rattle.text.specs.Token.{Token, Got, got}
use Rattle.text.specs.Lexer.{Lexed, wrong, tokens}
use Rattle.text.specs.Parser.{and_then, expr_s, levels}
use Rattle.reading.specs.declared.error.NoPlan.{NoPlan}
use Rattle.reading.specs.declared.exprs.Cursor.{Cursor}
use Rattle.reading.specs.declared.exprs.Level.TheVariants.{Compare}
use Rattle.reading.specs.Took.{Family, Took, found, Only, Bars, bars}
use Rattle.reading.specs.Took as took
use Rattle.reading.specs.Levels.{expr_at, NoRoom, Onwards, Further, ReadExpr}
use Rattle.reading.specs.Statements.{put4, Large, ReadStmt, whole_expr, expr_then, set_behind, set_at}
use Rattle.reading.specs.Tokens.{one_variable, one_same}
use Rattle.reading.proofs.Chains.{bind, bind_bar, rename, rename_bar, only_then, only_at_lem, and_at}
use Rattle.reading.proofs.Fours.{head_words, long_as}
use Rattle.reading.proofs.Leveled.{only_any, units_are}

-- one piece, and what is behind it
abbrev pub Then : {A B : Type 0} → Family A → (A → Family B) → Family B
Then q r n i ts = and_then (q n i ts) (λ a us. r a n i us)

pub step_took : {A B : Type 0} (q : Family A) (r : A → Family B) (a : A) (b : B) {l m k : Lexed} → Took q a l m → Took (r a) b m k → Took (Then q r) b l k
step_took q r a b x y = bind q (r a) (Then q r) a b b x y (λ ts us vs le g h n i j k. and_at (q n i ts) a us _ (g n i j k) ∙ h n i (le_trans le j) (le_trans le k))

pub step_bar_first : {A B : Type 0} (q : Family A) (r : A → Family B) (Small : A → Type 0) (Big : B → Type 0) {l : Lexed} → Bars q Small l → ((a : A) → Small a → (n i : ℕ) (us : List Token) → Only Big (r a n i us)) → Bars (Then q r) Big l
step_bar_first q r Small Big x f = rename_bar q (Then q r) Small Big x (λ ts g n i j k. only_then Small Big (q n i ts) _ (g n i j k) (λ a us s. f a s n i us))

pub step_bar : {A B : Type 0} (q : Family A) (r : A → Family B) (a : A) (Big : B → Type 0) {l m : Lexed} → Took q a l m → Bars (r a) Big m → Bars (Then q r) Big l
step_bar q r a Big x y = bind_bar q (r a) (Then q r) a Big Big x y (λ ts us le g h n i j k. only_at_lem Big _ _ (and_at (q n i ts) a us _ (g n i j k)) (h n i (le_trans le j) (le_trans le k)))

pub step_refused : {A B : Type 0} (q : Family A) (r : A → Family B) (Big : B → Type 0) {l : Lexed} → Bars q (λ _. ⊥) l → Bars (Then q r) Big l
step_refused q r Big x = step_bar_first q r (λ _. ⊥) Big x (λ a s n i us. absurd s)

pub end_took : {A : Type 0} (a : A) (l : Lexed) → Took (λ n i ts. got a ts) a l l
end_took a wrong = took.Took.lost
end_took a (tokens ts) = found (le_refl _) (λ n i j k. refl)

-- whatever is behind, what comes of it is too large
pub only_behind : {A B : Type 0} (Big : B → Type 0) (g : Got A) (f : A → List Token → Got B) → ((a : A) (us : List Token) → Only Big (f a us)) → Only Big (and_then g f)
only_behind Big g f k = only_then (λ _. Unit {0}) Big g f (only_any g) (λ a us x. k a us)

-- a whole expression
expr_is : (ts : List Token) → expr_s ts ≡ expr_at Compare 256 (length ts) (length ts) ts
unfolding expr_s levels
expr_is ts = refl

pub whole_read : (r : Result Cursor NoPlan) (text : List ℕ) (at : ℕ) (pre ys : List ℕ) → ReadExpr r (expr_at Compare 256) text at pre ys → ReadExpr r whole_expr text at pre ys
whole_read (Ok c) text at pre ys h = record { tree = h.tree; took = rename (expr_at Compare 256) whole_expr h.tree h.tree h.took (λ ts us g n i j k. expr_is ts ∙ g (length ts) (length ts) (le_refl _) (le_refl _)); words = h.words }
whole_read (Err e) text at pre ys h = rename_bar (expr_at Compare 256) whole_expr _ _ h (λ ts g n i j k. only_at_lem _ _ _ (expr_is ts) (g (length ts) (length ts) (le_refl _) (le_refl _)))

pub further_onwards : (r : Result Cursor NoPlan) (at : Cursor) (bytes room next len : ℕ) → next ≤ at.pos + 1 → len ≤ at.len → Further r 1 at bytes room → Onwards r next len bytes room
further_onwards (Ok c) at bytes room next len p q h = (omega (arith, h.0), h.1, omega (arith, h.2), h.3)
further_onwards (Err e) at bytes room next len p q h = tt

pub onwards_more : (r : Result Cursor NoPlan) (next len n m bytes room : ℕ) → n ≤ next → m ≤ len → Onwards r next len bytes room → Onwards r n m bytes room
onwards_more (Ok c) next len n m bytes room p q h = (omega (arith, h.0), h.1, omega (arith, h.2), h.3)
onwards_more (Err e) next len n m bytes room p q h = tt

-- an expression with a head before it
pub with_words : (xs zs : List ℕ) (len m kind second u : ℕ) (f : Expr → Stmt) (e : Expr) → draft_stmt (f e) ≡ kind ∷ second ∷ (1 + expr_size e) ∷ 0 ∷ code_of e → take m zs ≡ take (len + 4) xs ++ code_of e → len + 4 ≤ m → m ≤ length xs → length zs ≡ length xs → u ≡ (m - len) / 4 →
    take m (put4 zs len kind second u 0) ≡ take len xs ++ draft_stmt (f e)
with_words xs zs len m kind second u f e d h le room long is =
    let lm = long_as zs (take (len + 4) xs) (code_of e) m h (omega arith) in
    let lt = length-take-le (len + 4) xs (omega arith) in
    let lc = code_length e in
    let ue : u ≡ 1 + expr_size e = is ∙ units_are m len (1 + expr_size e) (omega arith) in
    head_words xs zs (code_of e) len m kind second u 0 h (omega arith) long le ∙ (ap (λ (k : ℕ). take len xs ++ (kind ∷ second ∷ k ∷ 0 ∷ code_of e)) ue ∙ ap (λ (l : List ℕ). take len xs ++ l) (sym d))

pub with_bar : (xs ys : List ℕ) (len : ℕ) (f : Expr → Stmt) (l : Lexed) → ((e : Expr) → stmt_size (f e) ≡ 1 + expr_size e) → len ≤ length xs → length ys ≡ length xs → Bars whole_expr (NoRoom (length ys) (length (take (len + 4) xs))) l → Bars (expr_then f) (Large stmt_size (length ys) (length (take len xs))) l
with_bar xs ys len f l s room long h =
    step_bar_first whole_expr (λ e n i us. got (f e) us) (NoRoom (length ys) (length (take (len + 4) xs))) _ h
    (λ e big n i us. let z = s e in let a = length-take-le len xs room in let b = short (len + 4) xs in omega arith)
  where
    short : (n : ℕ) (xs : List ℕ) → length (take n xs) ≤ n
    short zero xs = omega arith
    short (suc n) [] = omega arith
    short (suc n) (x ∷ xs) = let k = short n xs in omega arith

pub taken_all : (n : ℕ) (xs : List ℕ) → length xs ≤ n → length (take n xs) ≡ length xs
taken_all zero [] h = refl
taken_all zero (x ∷ xs) h = absurd (omega arith)
taken_all (suc n) [] h = refl
taken_all (suc n) (x ∷ xs) h = ap suc (taken_all n xs (omega arith))

-- set
pub set_draft : (v : ℕ) (e : Expr) → draft_stmt (Set v e) ≡ 1 ∷ v ∷ (1 + expr_size e) ∷ 0 ∷ code_of e
unfolding draft_stmt stmt_size
set_draft v e = refl

pub set_size : (v : ℕ) (e : Expr) → stmt_size (Set v e) ≡ 1 + expr_size e
unfolding stmt_size
set_size v e = refl

pub set_read : (r : Result Cursor NoPlan) (v : ℕ) (l m k : Lexed) (text pre ys : List ℕ) → Took one_variable v l m → Took one_same tt m k → ReadStmt r (expr_then (Set v)) k text pre ys → ReadStmt r set_at l text pre ys
set_read (Ok c) v l m k text pre ys x y h = record { item = h.item; took = step_took one_variable set_behind v h.item x (step_took one_same (λ z. expr_then (Set v)) tt h.item y h.took); words = h.words }
set_read (Err e) v l m k text pre ys x y h = step_bar one_variable set_behind v _ x (step_bar one_same (λ z. expr_then (Set v)) tt _ y h)
