-- Expressions, level by level, against the reader of tokens.
use Rattle.std.proofs.Common.{◌≡◌, ℕ, zero, suc, ◌+◌, ◌-◌, ◌*◌, ◌/◌, ◌<◌, ◌≤◌, Bool, true, false, cond, eqb, List, [], ◌∷◌, ◌++◌, length, take, drop, Some, None, Ok, Err, Option, Result, sym, refl, ap, ◌∙◌, subst, append_assoc, le_trans, le_refl, arith, length-append, length-take-le}
use Rattle.plans.specs.Plan.{Expr, Lit, Var, Plus, Minus, Times, Less, Same, Not, expr_size}
use Rattle.plans.specs.Flat.{code_of}
use Rattle.plans.proofs.Drafts.{code_length}
use Rattle.text.specs.Token.{SET, DO, TRIES, PAUSE, SLEEP, HEAR, FOR, IF, ELSE, WHILE, GUARD, RETURN, FAIL, NOT, OPEN, CLOSE, BEGIN, END, COMMA, PLUS, MINUS, TIMES, LESS, SAME, number, variable, name, op, key, Got, fails, got}
use Rattle.text.specs.Token as token
use Rattle.text.specs.Lexer.{Lexed, wrong, tokens, both}
use Rattle.text.specs.Parser.{and_then, Parser, Join, joins, ends, on_join, product_op, sum_op, compare_op, more_s, chain_s, unary_s, levels, in_bracket, by_word, after}
use Rattle.text.specs.Ahead.{ahead, key_meant, operator_meant, means, meant, stops}
use Rattle.text.specs.declared.Lexeme.{Lexeme}
use Rattle.text.specs.declared.Token.{Token}
use Rattle.text.specs.declared.Token.TheVariants as is
use Rattle.text.specs.declared.Operator.{Operator}
use Rattle.text.specs.declared.Operator.TheVariants as by
use Rattle.text.specs.declared.Key.TheVariants as word
use Rattle.reading.specs.declared.exprs.Level.{Level}
use Rattle.reading.specs.declared.exprs.Level.TheVariants.{Compare, Sum, Product, Unary}
use Rattle.reading.specs.declared.error.NoPlan.{NoPlan}
use Rattle.reading.specs.declared.exprs.Cursor.{Cursor}
use Rattle.reading.specs.declared.exprs.Opening.TheVariants as opening
use Rattle.reading.specs.Took.{Family, Took, found, Only, Bars, bars}
use Rattle.reading.specs.Took as took
use Rattle.reading.specs.Tokens.{one_key}
use Rattle.text.specs.Kinds.{kind_of}
use Rattle.reading.specs.Levels.{below_of, join_at, parser_at, expr_at, more_at, only_at, joins_at, build, opens_at, NoRoom, Further, Leaf, ReadExpr}
use Rattle.reading.proofs.Taking.{take_token, bar_token, bar_stop, bar_bad}
use Rattle.reading.proofs.Chains.{prefix, prefix_bar, bind, bind_bar, rename_bar, took_bar, only_then, only_at_lem, and_at}

pub only_any : {A : Type 0} (g : Got A) → Only (λ _. Unit {0}) g
only_any fails = tt
only_any (got a us) = tt

pub only_more : {A : Type 0} (P Q : A → Type 0) → ((a : A) → P a → Q a) → (g : Got A) → Only P g → Only Q g
only_more P Q f fails h = tt
only_more P Q f (got a us) h = f a h

pub some_size : (e : Expr) → 1 ≤ expr_size e
unfolding expr_size
some_size (Lit n) = omega arith
some_size (Var v) = omega arith
some_size (Plus a b) = omega arith
some_size (Minus a b) = omega arith
some_size (Times a b) = omega arith
some_size (Less a b) = omega arith
some_size (Same a b) = omega arith
some_size (Not a) = omega arith

-- there is no room for any expression
pub no_room : (p : Family Expr) (room len : ℕ) (l : Lexed) → room < len + 4 → Bars p (NoRoom room len) l
no_room p room len wrong h = took.Bars.lost
no_room p room len (tokens ts) h = bars (λ n i j k. only_more (λ _. Unit {0}) (NoRoom room len) (λ e x. let y = some_size e in omega arith) (p n i ts) (only_any (p n i ts)))

-- an operation is larger than its operands
abbrev Grows : Join → Type 0
Grows ends = Unit {0}
Grows (joins f) = (a b : Expr) → expr_size a ≤ expr_size (f a b)

grows : (level : Level) (t : token.Token) → Grows (join_at level t)
unfolding expr_size product_op sum_op compare_op
grows Compare (number n) = tt
grows Compare (variable n) = tt
grows Compare (name n) = tt
grows Compare (key k) = tt
grows Compare (op PLUS) = tt
grows Compare (op MINUS) = tt
grows Compare (op TIMES) = tt
grows Compare (op LESS) = λ a b. omega arith
grows Compare (op SAME) = λ a b. omega arith
grows Sum (number n) = tt
grows Sum (variable n) = tt
grows Sum (name n) = tt
grows Sum (key k) = tt
grows Sum (op PLUS) = λ a b. omega arith
grows Sum (op MINUS) = λ a b. omega arith
grows Sum (op TIMES) = tt
grows Sum (op LESS) = tt
grows Sum (op SAME) = tt
grows Product (number n) = tt
grows Product (variable n) = tt
grows Product (name n) = tt
grows Product (key k) = tt
grows Product (op PLUS) = tt
grows Product (op MINUS) = tt
grows Product (op TIMES) = λ a b. omega arith
grows Product (op LESS) = tt
grows Product (op SAME) = tt
grows Unary (number n) = tt
grows Unary (variable n) = tt
grows Unary (name n) = tt
grows Unary (key k) = tt
grows Unary (op PLUS) = tt
grows Unary (op MINUS) = tt
grows Unary (op TIMES) = tt
grows Unary (op LESS) = tt
grows Unary (op SAME) = tt

pub more_only : (j : token.Token → Join) (p : Parser) → ((t : token.Token) → Grows (j t)) → (m : ℕ) (e : Expr) (ts : List token.Token) → Only (λ (x : Expr). expr_size e ≤ expr_size x) (more_s j p m e ts)
unfolding more_s on_join
more_only j p g zero e ts = le_refl _
more_only j p g (suc m) e [] = le_refl _
more_only j p g (suc m) e (t ∷ ts) = go (j t) (g t) (λ f us. more_only j p g m f us)
  where
    go : (x : Join) → Grows x → ((f : Expr) (us : List token.Token) → Only (λ (x : Expr). expr_size f ≤ expr_size x) (more_s j p m f us)) →
        Only (λ (x : Expr). expr_size e ≤ expr_size x) (on_join x (got e (t ∷ ts)) (λ f. and_then (p ts) (λ b us. more_s j p m (f e b) us)))
    go ends h ih = le_refl _
    go (joins f) h ih =
        only_then (λ (x : Expr). Unit {0}) _ (p ts) _ (only_any (p ts)) (λ b us x. only_more (λ (z : Expr). expr_size (f e b) ≤ expr_size z) (λ (z : Expr). expr_size e ≤ expr_size z) (λ z y. le_trans (h e b) y) _ (ih (f e b) us))

-- an expression of a level is its first operand and what is behind that
chain_is : (level : Level) → (level ≡ Unary → ⊥) → (n d : ℕ) (ts : List token.Token) → parser_at level n d ts ≡ and_then (parser_at (below_of level) n d ts) (λ e us. more_s (join_at level) (parser_at (below_of level) n d) (length us) e us)
unfolding chain_s
chain_is Compare h n d ts = refl
chain_is Sum h n d ts = refl
chain_is Product h n d ts = refl
chain_is Unary h n d ts = absurd (h refl)

pub chain_took : (level : Level) (d : ℕ) (e f : Expr) {l m k : Lexed} → (level ≡ Unary → ⊥) → Took (expr_at (below_of level) d) e l m → Took (more_at level d e) f m k → Took (expr_at level d) f l k
unfolding and_then
chain_took level d e f u x y = bind (expr_at (below_of level) d) (more_at level d e) (expr_at level d) e f f x y (λ ts us vs le g h n i j k. chain_is level u n d ts ∙ (rw (g n i j k) (h n (length us) (le_trans le j) (le_refl _))))

pub chain_bar_first : (level : Level) (d room len : ℕ) {l : Lexed} → (level ≡ Unary → ⊥) → Bars (expr_at (below_of level) d) (NoRoom room len) l → Bars (expr_at level d) (NoRoom room len) l
chain_bar_first level d room len u x =
    rename_bar (expr_at (below_of level) d) (expr_at level d) (NoRoom room len) (NoRoom room len) x
    (λ ts g n i j k. only_at_lem _ _ _ (chain_is level u n d ts) (only_then (NoRoom room len) _ (parser_at (below_of level) n d ts) _ (g n i j k)
    (λ e us big. only_more (λ (z : Expr). expr_size e ≤ expr_size z) (NoRoom room len) (λ z le. omega arith) _ (more_only (join_at level) (parser_at (below_of level) n d) (grows level) (length us) e us))))

pub chain_bar_more : (level : Level) (d room len : ℕ) (e : Expr) {l m : Lexed} → (level ≡ Unary → ⊥) → Took (expr_at (below_of level) d) e l m → Bars (more_at level d e) (NoRoom room len) m → Bars (expr_at level d) (NoRoom room len) l
unfolding and_then
chain_bar_more level d room len e u x y =
    bind_bar (expr_at (below_of level) d) (more_at level d e) (expr_at level d) e (NoRoom room len) (NoRoom room len) x y
    (λ ts us le g h n i j k. only_at_lem _ _ _ (chain_is level u n d ts ∙ (rw (g n i j k) refl)) (h n (length us) (le_trans le j) (le_refl _)))

-- what cannot go on with an operation of a level
abbrev Ends : Level → List token.Token → Type 0
Ends level [] = Unit {0}
Ends level (t ∷ ts) = join_at level t ≡ ends

more_ends : (level : Level) (p : Parser) (i : ℕ) (e : Expr) (ts : List token.Token) → length ts ≤ i → Ends level ts → more_s (join_at level) p i e ts ≡ got e ts
unfolding more_s on_join
more_ends level p zero e [] h k = refl
more_ends level p (suc i) e [] h k = refl
more_ends level p zero e (t ∷ ts) h k = absurd (omega arith)
more_ends level p (suc i) e (t ∷ ts) h k = rw k refl

stays : (level : Level) (d : ℕ) (e : Expr) (l : Lexed) → ((ts : List token.Token) → l ≡ tokens ts → Ends level ts) → Took (more_at level d e) e l l
stays level d e wrong f = took.Took.lost
stays level d e (tokens ts) f = found (le_refl _) (λ n i j k. more_ends level (parser_at (below_of level) n d) i e ts k (f ts refl))

pub head_is : (P : List token.Token → Type 0) (t : token.Token) (l m : Lexed) (ts : List token.Token) → l ≡ both (tokens (t ∷ [])) m → l ≡ tokens ts → ((us : List token.Token) → P (t ∷ us)) → P ts
unfolding both
head_is P t l wrong ts h k f = let z : ◌≡◌ {A = ℕ} 0 1 = cc in absurd (omega arith)
head_is P t l (tokens us) ts h k f = let e : (t ∷ us) ≡ ts = cc in subst P e (f us)

pub none_is : (P : List token.Token → Type 0) (l m : Lexed) (ts : List token.Token) → l ≡ both (tokens []) m → m ≡ tokens [] → l ≡ tokens ts → P [] → P ts
unfolding both
none_is P l m ts h e k f = let q : tokens [] ≡ tokens ts = sym (h ∙ ap (both (tokens [])) e) ∙ k in let r : [] ≡ ts = cc in subst P r f

pub wrong_is : {X : Type 0} (l m : Lexed) (ts : List token.Token) → l ≡ both wrong m → l ≡ tokens ts → X
unfolding both
wrong_is l m ts h k = let z : ◌≡◌ {A = ℕ} 0 1 = cc in absurd (omega arith)

ends_number : (level : Level) (x : ℕ) → join_at level (number x) ≡ ends
unfolding product_op sum_op compare_op
ends_number Compare x = refl
ends_number Sum x = refl
ends_number Product x = refl
ends_number Unary x = refl

ends_variable : (level : Level) (x : ℕ) → join_at level (variable x) ≡ ends
unfolding product_op sum_op compare_op
ends_variable Compare x = refl
ends_variable Sum x = refl
ends_variable Product x = refl
ends_variable Unary x = refl

ends_name : (level : Level) (x : List ℕ) → join_at level (name x) ≡ ends
unfolding product_op sum_op compare_op
ends_name Compare x = refl
ends_name Sum x = refl
ends_name Product x = refl
ends_name Unary x = refl

ends_key : (level : Level) (x : token.Key) → join_at level (key x) ≡ ends
unfolding product_op sum_op compare_op
ends_key Compare x = refl
ends_key Sum x = refl
ends_key Product x = refl
ends_key Unary x = refl

ends_op : (level : Level) (o : Operator) → only_at level o ≡ None → join_at level (op (operator_meant o)) ≡ ends
unfolding product_op sum_op compare_op
ends_op Compare by.Plus h = refl
ends_op Compare by.Minus h = refl
ends_op Compare by.Times h = refl
ends_op Compare by.Less h = let z : ◌≡◌ {A = ℕ} 0 1 = cc in absurd (omega arith)
ends_op Compare by.Same h = let z : ◌≡◌ {A = ℕ} 0 1 = cc in absurd (omega arith)
ends_op Sum by.Plus h = let z : ◌≡◌ {A = ℕ} 0 1 = cc in absurd (omega arith)
ends_op Sum by.Minus h = let z : ◌≡◌ {A = ℕ} 0 1 = cc in absurd (omega arith)
ends_op Sum by.Times h = refl
ends_op Sum by.Less h = refl
ends_op Sum by.Same h = refl
ends_op Product by.Plus h = refl
ends_op Product by.Minus h = refl
ends_op Product by.Times h = let z : ◌≡◌ {A = ℕ} 0 1 = cc in absurd (omega arith)
ends_op Product by.Less h = refl
ends_op Product by.Same h = refl
ends_op Unary by.Plus h = refl
ends_op Unary by.Minus h = refl
ends_op Unary by.Times h = refl
ends_op Unary by.Less h = refl
ends_op Unary by.Same h = refl

pub more_none : (level : Level) (d : ℕ) (e : Expr) (t : Token) (w : List ℕ) (l m : Lexed) → l ≡ both (means t w) m → (stops t ≡ true → m ≡ tokens []) → joins_at level t ≡ None → Took (more_at level d e) e l l
more_none level d e (is.Number n) w l m h s k = stays level d e l (λ ts x. head_is (Ends level) (number n) l m ts h x (λ us. ends_number level n))
more_none level d e (is.Variable n) w l m h s k = stays level d e l (λ ts x. head_is (Ends level) (variable n) l m ts h x (λ us. ends_variable level n))
more_none level d e is.Name w l m h s k = stays level d e l (λ ts x. head_is (Ends level) (name w) l m ts h x (λ us. ends_name level w))
more_none level d e (is.Operator o) w l m h s k = stays level d e l (λ ts x. head_is (Ends level) (op (operator_meant o)) l m ts h x (λ us. ends_op level o k))
more_none level d e (is.Key q) w l m h s k = stays level d e l (λ ts x. head_is (Ends level) (key (key_meant q)) l m ts h x (λ us. ends_key level (key_meant q)))
more_none level d e is.Stop w l m h s k = stays level d e l (λ ts x. none_is (Ends level) l m ts h (s refl) x tt)
more_none level d e is.Bad w l m h s k = stays level d e l (λ ts x. wrong_is l m ts h x)

-- an operation of the level
pub record Joined (level : Level) (t : Token) (o : Operator) : Type 0 where
  pub token_is : t ≡ is.Operator o
  pub joins_by : join_at level (op (operator_meant o)) ≡ joins (build o)

at_some : (P : Operator → Type 0) (o q : Operator) → Some o ≡ Some q → P o → P q
at_some P o q h k = let e : o ≡ q = cc in subst P e k

joined_op : (level : Level) (o q : Operator) → only_at level o ≡ Some q → Joined level (is.Operator o) q
unfolding product_op sum_op compare_op
joined_op Compare by.Plus q h = let z : ◌≡◌ {A = ℕ} 0 1 = cc in absurd (omega arith)
joined_op Compare by.Minus q h = let z : ◌≡◌ {A = ℕ} 0 1 = cc in absurd (omega arith)
joined_op Compare by.Times q h = let z : ◌≡◌ {A = ℕ} 0 1 = cc in absurd (omega arith)
joined_op Compare by.Less q h = at_some (λ (z : Operator). Joined Compare (is.Operator by.Less) z) by.Less q h (record { token_is = refl; joins_by = refl })
joined_op Compare by.Same q h = at_some (λ (z : Operator). Joined Compare (is.Operator by.Same) z) by.Same q h (record { token_is = refl; joins_by = refl })
joined_op Sum by.Plus q h = at_some (λ (z : Operator). Joined Sum (is.Operator by.Plus) z) by.Plus q h (record { token_is = refl; joins_by = refl })
joined_op Sum by.Minus q h = at_some (λ (z : Operator). Joined Sum (is.Operator by.Minus) z) by.Minus q h (record { token_is = refl; joins_by = refl })
joined_op Sum by.Times q h = let z : ◌≡◌ {A = ℕ} 0 1 = cc in absurd (omega arith)
joined_op Sum by.Less q h = let z : ◌≡◌ {A = ℕ} 0 1 = cc in absurd (omega arith)
joined_op Sum by.Same q h = let z : ◌≡◌ {A = ℕ} 0 1 = cc in absurd (omega arith)
joined_op Product by.Plus q h = let z : ◌≡◌ {A = ℕ} 0 1 = cc in absurd (omega arith)
joined_op Product by.Minus q h = let z : ◌≡◌ {A = ℕ} 0 1 = cc in absurd (omega arith)
joined_op Product by.Times q h = at_some (λ (z : Operator). Joined Product (is.Operator by.Times) z) by.Times q h (record { token_is = refl; joins_by = refl })
joined_op Product by.Less q h = let z : ◌≡◌ {A = ℕ} 0 1 = cc in absurd (omega arith)
joined_op Product by.Same q h = let z : ◌≡◌ {A = ℕ} 0 1 = cc in absurd (omega arith)
joined_op Unary by.Plus q h = let z : ◌≡◌ {A = ℕ} 0 1 = cc in absurd (omega arith)
joined_op Unary by.Minus q h = let z : ◌≡◌ {A = ℕ} 0 1 = cc in absurd (omega arith)
joined_op Unary by.Times q h = let z : ◌≡◌ {A = ℕ} 0 1 = cc in absurd (omega arith)
joined_op Unary by.Less q h = let z : ◌≡◌ {A = ℕ} 0 1 = cc in absurd (omega arith)
joined_op Unary by.Same q h = let z : ◌≡◌ {A = ℕ} 0 1 = cc in absurd (omega arith)

pub joined : (level : Level) (t : Token) (o : Operator) → joins_at level t ≡ Some o → Joined level t o
joined level (is.Number n) o h = let z : ◌≡◌ {A = ℕ} 0 1 = cc in absurd (omega arith)
joined level (is.Variable n) o h = let z : ◌≡◌ {A = ℕ} 0 1 = cc in absurd (omega arith)
joined level is.Name o h = let z : ◌≡◌ {A = ℕ} 0 1 = cc in absurd (omega arith)
joined level (is.Key k) o h = let z : ◌≡◌ {A = ℕ} 0 1 = cc in absurd (omega arith)
joined level is.Stop o h = let z : ◌≡◌ {A = ℕ} 0 1 = cc in absurd (omega arith)
joined level is.Bad o h = let z : ◌≡◌ {A = ℕ} 0 1 = cc in absurd (omega arith)
joined level (is.Operator p) o h = joined_op level p o h

-- behind an operation: its right operand, and what is behind that
abbrev pub rest_at : Level → ℕ → Operator → Expr → Family Expr
rest_at level d o e n i us = and_then (parser_at (below_of level) n d us) (λ b vs. more_s (join_at level) (parser_at (below_of level) n d) i (build o e b) vs)

more_is : (level : Level) (d : ℕ) (o : Operator) (e : Expr) (n i : ℕ) (us : List token.Token) → join_at level (op (operator_meant o)) ≡ joins (build o) → more_at level d e (suc n) (suc i) (op (operator_meant o) ∷ us) ≡ rest_at level d o e (suc n) i us
unfolding more_s on_join
more_is level d o e n i us h = rw h refl

pub more_took : (level : Level) (d : ℕ) (o : Operator) (e b f : Expr) {l m k z : Lexed} → join_at level (op (operator_meant o)) ≡ joins (build o) → l ≡ both (tokens (op (operator_meant o) ∷ [])) m → Took (expr_at (below_of level) d) b m k → Took (more_at level d (build o e b)) f k z → Took (more_at level d e) f l z
unfolding and_then
more_took level d o e b f q h x y =
    prefix (rest_at level d o e) (more_at level d e) (op (operator_meant o)) f f h
    (bind (expr_at (below_of level) d) (more_at level d (build o e b)) (rest_at level d o e) b f f x y (λ ts us vs le g r n i j k. rw (g n i j k) (r n i (le_trans le j) (le_trans le k))))
    (λ us vs le g n i j k. more_is level d o e n i us q ∙ g (suc n) i (omega arith) k)

rest_bar : (level : Level) (d : ℕ) (o : Operator) (e : Expr) (Big : Expr → Type 0) {l m : Lexed} → join_at level (op (operator_meant o)) ≡ joins (build o) → l ≡ both (tokens (op (operator_meant o) ∷ [])) m → Bars (rest_at level d o e) Big m → Bars (more_at level d e) Big l
rest_bar level d o e Big q h x = prefix_bar (rest_at level d o e) (more_at level d e) (op (operator_meant o)) Big Big h x (λ us g n i j k. only_at_lem _ _ _ (more_is level d o e n i us q) (g (suc n) i (omega arith) k))

pub build_size : (o : Operator) (a b : Expr) → expr_size (build o a b) ≡ 1 + (expr_size a + expr_size b)
unfolding expr_size
build_size by.Plus a b = refl
build_size by.Minus a b = refl
build_size by.Times a b = refl
build_size by.Less a b = refl
build_size by.Same a b = refl

pub build_code : (o : Operator) (a b : Expr) → code_of (build o a b) ≡ code_of a ++ (code_of b ++ (kind_of o ∷ expr_size b ∷ 0 ∷ 0 ∷ []))
unfolding code_of
build_code by.Plus a b = refl
build_code by.Minus a b = refl
build_code by.Times a b = refl
build_code by.Less a b = refl
build_code by.Same a b = refl

-- the right operand is none, or too large
pub more_bar_right : (level : Level) (d room pre len : ℕ) (o : Operator) (e : Expr) {l m : Lexed} → join_at level (op (operator_meant o)) ≡ joins (build o) → l ≡ both (tokens (op (operator_meant o) ∷ [])) m → len ≡ pre + 4 * expr_size e → Bars (expr_at (below_of level) d) (NoRoom room len) m → Bars (more_at level d e) (NoRoom room pre) l
more_bar_right level d room pre len o e q h s x =
    rest_bar level d o e (NoRoom room pre) q h
    (rename_bar (expr_at (below_of level) d) (rest_at level d o e) (NoRoom room len) (NoRoom room pre) x
    (λ ts g n i j k. only_then (NoRoom room len) (NoRoom room pre) (parser_at (below_of level) n d ts) _ (g n i j k)
    (λ b us big. only_more (λ (z : Expr). expr_size (build o e b) ≤ expr_size z) (NoRoom room pre) (λ z le. let y = build_size o e b in omega arith) _ (more_only (join_at level) (parser_at (below_of level) n d) (grows level) i (build o e b) us))))

-- there is no room for the operation
pub more_bar_here : (level : Level) (d room pre : ℕ) (o : Operator) (e b : Expr) {l m k : Lexed} → join_at level (op (operator_meant o)) ≡ joins (build o) → l ≡ both (tokens (op (operator_meant o) ∷ [])) m → Took (expr_at (below_of level) d) b m k → room < pre + 4 * expr_size (build o e b) → Bars (more_at level d e) (NoRoom room pre) l
unfolding and_then
more_bar_here level d room pre o e b q h x big =
    rest_bar level d o e (NoRoom room pre) q h
    (took_bar (expr_at (below_of level) d) (rest_at level d o e) b (NoRoom room pre) x
    (λ ts us le g n i j k. only_at_lem _ _ _ (and_at _ b us _ (g n i j k)) (only_more (λ (z : Expr). expr_size (build o e b) ≤ expr_size z) (NoRoom room pre) (λ z y. omega arith) _ (more_only (join_at level) (parser_at (below_of level) n d) (grows level) i (build o e b) us))))

-- what is behind the operation is too large
pub more_bar_behind : (level : Level) (d room pre : ℕ) (o : Operator) (e b : Expr) {l m k : Lexed} → join_at level (op (operator_meant o)) ≡ joins (build o) → l ≡ both (tokens (op (operator_meant o) ∷ [])) m → Took (expr_at (below_of level) d) b m k → Bars (more_at level d (build o e b)) (NoRoom room pre) k → Bars (more_at level d e) (NoRoom room pre) l
unfolding and_then
more_bar_behind level d room pre o e b q h x y =
    rest_bar level d o e (NoRoom room pre) q h
    (bind_bar (expr_at (below_of level) d) (more_at level d (build o e b)) (rest_at level d o e) b (NoRoom room pre) (NoRoom room pre) x y
    (λ ts us le g r n i j k. only_at_lem _ _ _ (and_at _ b us _ (g n i j k)) (r n i (le_trans le j) (le_trans le k))))

-- numbers, variables, not, brackets
pub number_took : (d v : ℕ) (l m : Lexed) → l ≡ both (tokens (number v ∷ [])) m → Took (expr_at Unary d) (Lit v) l m
unfolding unary_s
number_took d v l m h = take_token (expr_at Unary d) (Lit v) (number v) l m h (λ us n i. refl)

pub variable_took : (d v : ℕ) (l m : Lexed) → l ≡ both (tokens (variable v ∷ [])) m → Took (expr_at Unary d) (Var v) l m
unfolding unary_s
variable_took d v l m h = take_token (expr_at Unary d) (Var v) (variable v) l m h (λ us n i. refl)

pub not_took : (d : ℕ) (e : Expr) {l m k : Lexed} → l ≡ both (tokens (key NOT ∷ [])) m → Took (expr_at Unary d) e m k → Took (expr_at Unary d) (Not e) l k
unfolding unary_s by_word and_then
not_took d e h x = prefix (expr_at Unary d) (expr_at Unary d) (key NOT) e (Not e) h x (λ us vs le g n i j k. rw (g n i j k) refl)

pub not_bar : (d room len : ℕ) {l m : Lexed} → l ≡ both (tokens (key NOT ∷ [])) m → Bars (expr_at Unary d) (NoRoom room len) m → Bars (expr_at Unary d) (NoRoom room len) l
unfolding unary_s by_word expr_size
not_bar d room len h x = prefix_bar (expr_at Unary d) (expr_at Unary d) (key NOT) (NoRoom room len) (NoRoom room len) h x (λ us g n i j k. only_then (NoRoom room len) (NoRoom room len) (unary_s n d us) _ (g n i j k) (λ e vs big. omega arith))

pub not_bar_here : (d room len : ℕ) (e : Expr) {l m k : Lexed} → l ≡ both (tokens (key NOT ∷ [])) m → Took (expr_at Unary d) e m k → room < len + 4 * expr_size (Not e) → Bars (expr_at Unary d) (NoRoom room len) l
unfolding unary_s by_word and_then
not_bar_here d room len e h x big =
    prefix_bar (expr_at Unary d) (expr_at Unary d) (key NOT) (λ (z : Expr). z ≡ e) (NoRoom room len) h
    (took_bar (expr_at Unary d) (expr_at Unary d) e (λ (z : Expr). z ≡ e) x (λ ts us le g n i j k. only_at_lem _ _ _ (g n i j k) refl))
    (λ us g n i j k. only_then (λ (z : Expr). z ≡ e) (NoRoom room len) (unary_s n d us) _ (g n i j k) (λ z vs q. subst (λ (y : Expr). NoRoom room len (Not y)) (sym q) big))

pub after_is : {A : Type 0} (k : token.Key) (ts : List token.Token) (f : List token.Token → Got A) → after k ts f ≡ and_then (after k ts (got (tt {0}))) (λ u us. f us)
unfolding after and_then
after_is k [] f = refl
after_is k (number n ∷ ts) f = refl
after_is k (variable n ∷ ts) f = refl
after_is k (name n ∷ ts) f = refl
after_is k (op n ∷ ts) f = refl
after_is k (key q ∷ ts) f = go (eqb (Rattle.text.specs.Parser.code_of k) (Rattle.text.specs.Parser.code_of q))
  where
    go : (b : Bool) → cond b (f ts) fails ≡ and_then (cond b (got (tt {0}) ts) fails) (λ u us. f us)
    go true = refl
    go false = refl

-- behind an opening bracket
abbrev pub box_at : ℕ → Family Expr
box_at d n i us = and_then (parser_at Compare n d us) (λ e vs. after CLOSE vs (got e))

open_is : (d n i : ℕ) (us : List token.Token) → expr_at Unary (suc d) (suc n) (suc i) (key OPEN ∷ us) ≡ box_at d n i us
unfolding unary_s by_word in_bracket levels
open_is d n i us = refl

pub bracket_took : (d : ℕ) (e : Expr) {l m k z : Lexed} → l ≡ both (tokens (key OPEN ∷ [])) m → Took (expr_at Compare d) e m k → Took (one_key CLOSE) tt k z → Took (expr_at Unary (suc d)) e l z
unfolding and_then
bracket_took d e h x y =
    prefix (box_at d) (expr_at Unary (suc d)) (key OPEN) e e h
    (bind (expr_at Compare d) (one_key CLOSE) (box_at d) e tt e x y (λ ts us vs le g r n i j k. rw (g n i j k, after_is CLOSE us (got e), r n i (le_trans le j) (le_trans le k)) refl))
    (λ us vs le g n i j k. open_is d n i us ∙ g n i j k)

box_bar : (d : ℕ) (Big : Expr → Type 0) {l m : Lexed} → l ≡ both (tokens (key OPEN ∷ [])) m → Bars (box_at d) Big m → Bars (expr_at Unary (suc d)) Big l
box_bar d Big h x = prefix_bar (box_at d) (expr_at Unary (suc d)) (key OPEN) Big Big h x (λ us g n i j k. only_at_lem _ _ _ (open_is d n i us) (g n i j k))

pub bracket_bar_inside : (d : ℕ) (Big : Expr → Type 0) {l m : Lexed} → l ≡ both (tokens (key OPEN ∷ [])) m → Bars (expr_at Compare d) Big m → Bars (expr_at Unary (suc d)) Big l
unfolding and_then
bracket_bar_inside d Big h x =
    box_bar d Big h (rename_bar (expr_at Compare d) (box_at d) Big Big x (λ ts g n i j k. only_then Big Big (parser_at Compare n d ts) _ (g n i j k) (λ e us big. only_at_lem _ _ _ (after_is CLOSE us (got e)) (only_then (λ _. Unit {0}) Big (after CLOSE us (got tt)) _ (only_any _) (λ u vs q. big)))))

pub bracket_bar_close : (d : ℕ) (e : Expr) (Big : Expr → Type 0) {l m k : Lexed} → l ≡ both (tokens (key OPEN ∷ [])) m → Took (expr_at Compare d) e m k → Bars (one_key CLOSE) (λ _. ⊥) k → Bars (expr_at Unary (suc d)) Big l
unfolding and_then
bracket_bar_close d e Big h x y =
    box_bar d Big h (bind_bar (expr_at Compare d) (one_key CLOSE) (box_at d) e (λ _. ⊥) Big x y
    (λ ts us le g r n i j k. only_at_lem _ _ _ (and_at _ e us _ (g n i j k) ∙ after_is CLOSE us (got e)) (only_then (λ _. ⊥) Big (after CLOSE us (got tt)) _ (r n i (le_trans le j) (le_trans le k)) (λ u vs q. absurd q))))

pub bracket_bar_deep : (Big : Expr → Type 0) (l m : Lexed) → l ≡ both (tokens (key OPEN ∷ [])) m → Bars (expr_at Unary 0) Big l
unfolding unary_s by_word in_bracket
bracket_bar_deep Big l m h = bar_token (expr_at Unary 0) Big (key OPEN) l m h (λ us n i. tt)

-- what begins no expression
pub nothing_bar : (d : ℕ) (Big : Expr → Type 0) (t : Token) (w : List ℕ) (l m : Lexed) → l ≡ both (means t w) m → (stops t ≡ true → m ≡ tokens []) → opens_at t ≡ None → Bars (expr_at Unary d) Big l
unfolding unary_s by_word
nothing_bar d Big (is.Number n) w l m h s k = let z : ◌≡◌ {A = ℕ} 0 1 = cc in absurd (omega arith)
nothing_bar d Big (is.Variable n) w l m h s k = let z : ◌≡◌ {A = ℕ} 0 1 = cc in absurd (omega arith)
nothing_bar d Big is.Name w l m h s k = bar_token (expr_at Unary d) Big (name w) l m h (λ us n i. tt)
nothing_bar d Big (is.Operator o) w l m h s k = bar_token (expr_at Unary d) Big (op (operator_meant o)) l m h (λ us n i. tt)
nothing_bar d Big is.Stop w l m h s k = bar_stop (expr_at Unary d) Big l m h (s refl) none
  where
    none : (n i : ℕ) → Only Big (unary_s n d [])
    none zero i = tt
    none (suc n) i = tt
nothing_bar d Big is.Bad w l m h s k = bar_bad (expr_at Unary d) Big l m h
nothing_bar d Big (is.Key word.Set) w l m h s k = bar_token (expr_at Unary d) Big (key SET) l m h (λ us n i. tt)
nothing_bar d Big (is.Key word.Do) w l m h s k = bar_token (expr_at Unary d) Big (key DO) l m h (λ us n i. tt)
nothing_bar d Big (is.Key word.Tries) w l m h s k = bar_token (expr_at Unary d) Big (key TRIES) l m h (λ us n i. tt)
nothing_bar d Big (is.Key word.Pause) w l m h s k = bar_token (expr_at Unary d) Big (key PAUSE) l m h (λ us n i. tt)
nothing_bar d Big (is.Key word.Sleep) w l m h s k = bar_token (expr_at Unary d) Big (key SLEEP) l m h (λ us n i. tt)
nothing_bar d Big (is.Key word.Hear) w l m h s k = bar_token (expr_at Unary d) Big (key HEAR) l m h (λ us n i. tt)
nothing_bar d Big (is.Key word.For) w l m h s k = bar_token (expr_at Unary d) Big (key FOR) l m h (λ us n i. tt)
nothing_bar d Big (is.Key word.If) w l m h s k = bar_token (expr_at Unary d) Big (key IF) l m h (λ us n i. tt)
nothing_bar d Big (is.Key word.Else) w l m h s k = bar_token (expr_at Unary d) Big (key ELSE) l m h (λ us n i. tt)
nothing_bar d Big (is.Key word.While) w l m h s k = bar_token (expr_at Unary d) Big (key WHILE) l m h (λ us n i. tt)
nothing_bar d Big (is.Key word.Guard) w l m h s k = bar_token (expr_at Unary d) Big (key GUARD) l m h (λ us n i. tt)
nothing_bar d Big (is.Key word.Return) w l m h s k = bar_token (expr_at Unary d) Big (key RETURN) l m h (λ us n i. tt)
nothing_bar d Big (is.Key word.Fail) w l m h s k = bar_token (expr_at Unary d) Big (key FAIL) l m h (λ us n i. tt)
nothing_bar d Big (is.Key word.Not) w l m h s k = let z : ◌≡◌ {A = ℕ} 0 1 = cc in absurd (omega arith)
nothing_bar d Big (is.Key word.Open) w l m h s k = let z : ◌≡◌ {A = ℕ} 0 1 = cc in absurd (omega arith)
nothing_bar d Big (is.Key word.Close) w l m h s k = bar_token (expr_at Unary d) Big (key CLOSE) l m h (λ us n i. tt)
nothing_bar d Big (is.Key word.Begin) w l m h s k = bar_token (expr_at Unary d) Big (key BEGIN) l m h (λ us n i. tt)
nothing_bar d Big (is.Key word.End) w l m h s k = bar_token (expr_at Unary d) Big (key END) l m h (λ us n i. tt)
nothing_bar d Big (is.Key word.Comma) w l m h s k = bar_token (expr_at Unary d) Big (key COMMA) l m h (λ us n i. tt)

-- how many words there are
pub words_long : (ys pre : List ℕ) (e : Expr) (n : ℕ) → take n ys ≡ pre ++ code_of e → n ≤ length ys → n ≡ length pre + 4 * expr_size e
words_long ys pre e n h k = sym (length-take-le n ys k) ∙ (ap length h ∙ (length-append pre (code_of e) ∙ ap (λ (x : ℕ). length pre + x) (code_length e)))

pub lit_code : (v : ℕ) → code_of (Lit v) ≡ 16 ∷ v ∷ 0 ∷ 0 ∷ []
unfolding code_of
lit_code v = refl

pub var_code : (v : ℕ) → code_of (Var v) ≡ 17 ∷ v ∷ 0 ∷ 0 ∷ []
unfolding code_of
var_code v = refl

pub not_words : (zs ys pre : List ℕ) (e : Expr) (n : ℕ) → take n ys ≡ pre ++ code_of e → take (n + 4) zs ≡ take n ys ++ (23 ∷ 0 ∷ 0 ∷ 0 ∷ []) → take (n + 4) zs ≡ pre ++ code_of (Not e)
unfolding code_of
not_words zs ys pre e n h k = k ∙ (ap (λ (l : List ℕ). l ++ (23 ∷ 0 ∷ 0 ∷ 0 ∷ [])) h ∙ append_assoc pre (code_of e) _)

-- an operation behind its two operands
pub pair_words : (zs ys xs pre : List ℕ) (o : Operator) (e b : Expr) (n m u : ℕ) → take n xs ≡ pre ++ code_of e → take m ys ≡ take n xs ++ code_of b → take (m + 4) zs ≡ take m ys ++ (kind_of o ∷ u ∷ 0 ∷ 0 ∷ []) → u ≡ expr_size b → take (m + 4) zs ≡ pre ++ code_of (build o e b)
pair_words zs ys xs pre o e b n m u h k q r =
    q ∙ (ap (λ (l : List ℕ). l ++ (kind_of o ∷ u ∷ 0 ∷ 0 ∷ [])) (k ∙ ap (λ (l : List ℕ). l ++ code_of b) h) ∙
    (append_assoc (pre ++ code_of e) (code_of b) _ ∙ (append_assoc pre (code_of e) _ ∙ (rw r (ap (λ (l : List ℕ). pre ++ l) (sym (build_code o e b)))))))

pub suc_pred : (n : ℕ) → (n ≡ 0 → ⊥) → suc (n - 1) ≡ n
suc_pred zero h = absurd (h refl)
suc_pred (suc n) h = omega arith

pub units_are : (m n u : ℕ) → m ≡ n + 4 * u → (m - n) / 4 ≡ u
units_are m n u h = omega arith

pub not_size : (e : Expr) → expr_size (Not e) ≡ 1 + expr_size e
unfolding expr_size
not_size e = refl

pub none_of : {X : Type 0} (o : Option X) → ((x : X) → o ≡ Some x → ⊥) → o ≡ None
none_of (Some x) h = absurd (h x refl)
none_of None h = refl

pub op_ahead : (text : List ℕ) (from : ℕ) (r : Lexeme) (o : Operator) → ahead text from ≡ both (meant text r) (ahead text r.next) → r.token ≡ is.Operator o → ahead text from ≡ both (tokens (op (operator_meant o) ∷ [])) (ahead text r.next)
op_ahead text from r o h e = h ∙ ap (λ (x : Token). both (means x (take (r.next - r.start) (drop r.start text))) (ahead text r.next)) e

pub opens_n : (t : Token) (n : ℕ) → opens_at t ≡ Some (opening.Number n) → t ≡ is.Number n
opens_n (is.Number x) n h = let e : x ≡ n = cc in ap is.Number e
opens_n (is.Variable x) n h = let z : ◌≡◌ {A = ℕ} 0 1 = cc in absurd (omega arith)
opens_n is.Name n h = let z : ◌≡◌ {A = ℕ} 0 1 = cc in absurd (omega arith)
opens_n (is.Operator o) n h = let z : ◌≡◌ {A = ℕ} 0 1 = cc in absurd (omega arith)
opens_n is.Stop n h = let z : ◌≡◌ {A = ℕ} 0 1 = cc in absurd (omega arith)
opens_n is.Bad n h = let z : ◌≡◌ {A = ℕ} 0 1 = cc in absurd (omega arith)
opens_n (is.Key word.Set) n h = let z : ◌≡◌ {A = ℕ} 0 1 = cc in absurd (omega arith)
opens_n (is.Key word.Do) n h = let z : ◌≡◌ {A = ℕ} 0 1 = cc in absurd (omega arith)
opens_n (is.Key word.Tries) n h = let z : ◌≡◌ {A = ℕ} 0 1 = cc in absurd (omega arith)
opens_n (is.Key word.Pause) n h = let z : ◌≡◌ {A = ℕ} 0 1 = cc in absurd (omega arith)
opens_n (is.Key word.Sleep) n h = let z : ◌≡◌ {A = ℕ} 0 1 = cc in absurd (omega arith)
opens_n (is.Key word.Hear) n h = let z : ◌≡◌ {A = ℕ} 0 1 = cc in absurd (omega arith)
opens_n (is.Key word.For) n h = let z : ◌≡◌ {A = ℕ} 0 1 = cc in absurd (omega arith)
opens_n (is.Key word.If) n h = let z : ◌≡◌ {A = ℕ} 0 1 = cc in absurd (omega arith)
opens_n (is.Key word.Else) n h = let z : ◌≡◌ {A = ℕ} 0 1 = cc in absurd (omega arith)
opens_n (is.Key word.While) n h = let z : ◌≡◌ {A = ℕ} 0 1 = cc in absurd (omega arith)
opens_n (is.Key word.Guard) n h = let z : ◌≡◌ {A = ℕ} 0 1 = cc in absurd (omega arith)
opens_n (is.Key word.Return) n h = let z : ◌≡◌ {A = ℕ} 0 1 = cc in absurd (omega arith)
opens_n (is.Key word.Fail) n h = let z : ◌≡◌ {A = ℕ} 0 1 = cc in absurd (omega arith)
opens_n (is.Key word.Not) n h = let z : ◌≡◌ {A = ℕ} 0 1 = cc in absurd (omega arith)
opens_n (is.Key word.Open) n h = let z : ◌≡◌ {A = ℕ} 0 1 = cc in absurd (omega arith)
opens_n (is.Key word.Close) n h = let z : ◌≡◌ {A = ℕ} 0 1 = cc in absurd (omega arith)
opens_n (is.Key word.Begin) n h = let z : ◌≡◌ {A = ℕ} 0 1 = cc in absurd (omega arith)
opens_n (is.Key word.End) n h = let z : ◌≡◌ {A = ℕ} 0 1 = cc in absurd (omega arith)
opens_n (is.Key word.Comma) n h = let z : ◌≡◌ {A = ℕ} 0 1 = cc in absurd (omega arith)

pub opens_v : (t : Token) (n : ℕ) → opens_at t ≡ Some (opening.Variable n) → t ≡ is.Variable n
opens_v (is.Number x) n h = let z : ◌≡◌ {A = ℕ} 0 1 = cc in absurd (omega arith)
opens_v (is.Variable x) n h = let e : x ≡ n = cc in ap is.Variable e
opens_v is.Name n h = let z : ◌≡◌ {A = ℕ} 0 1 = cc in absurd (omega arith)
opens_v (is.Operator o) n h = let z : ◌≡◌ {A = ℕ} 0 1 = cc in absurd (omega arith)
opens_v is.Stop n h = let z : ◌≡◌ {A = ℕ} 0 1 = cc in absurd (omega arith)
opens_v is.Bad n h = let z : ◌≡◌ {A = ℕ} 0 1 = cc in absurd (omega arith)
opens_v (is.Key word.Set) n h = let z : ◌≡◌ {A = ℕ} 0 1 = cc in absurd (omega arith)
opens_v (is.Key word.Do) n h = let z : ◌≡◌ {A = ℕ} 0 1 = cc in absurd (omega arith)
opens_v (is.Key word.Tries) n h = let z : ◌≡◌ {A = ℕ} 0 1 = cc in absurd (omega arith)
opens_v (is.Key word.Pause) n h = let z : ◌≡◌ {A = ℕ} 0 1 = cc in absurd (omega arith)
opens_v (is.Key word.Sleep) n h = let z : ◌≡◌ {A = ℕ} 0 1 = cc in absurd (omega arith)
opens_v (is.Key word.Hear) n h = let z : ◌≡◌ {A = ℕ} 0 1 = cc in absurd (omega arith)
opens_v (is.Key word.For) n h = let z : ◌≡◌ {A = ℕ} 0 1 = cc in absurd (omega arith)
opens_v (is.Key word.If) n h = let z : ◌≡◌ {A = ℕ} 0 1 = cc in absurd (omega arith)
opens_v (is.Key word.Else) n h = let z : ◌≡◌ {A = ℕ} 0 1 = cc in absurd (omega arith)
opens_v (is.Key word.While) n h = let z : ◌≡◌ {A = ℕ} 0 1 = cc in absurd (omega arith)
opens_v (is.Key word.Guard) n h = let z : ◌≡◌ {A = ℕ} 0 1 = cc in absurd (omega arith)
opens_v (is.Key word.Return) n h = let z : ◌≡◌ {A = ℕ} 0 1 = cc in absurd (omega arith)
opens_v (is.Key word.Fail) n h = let z : ◌≡◌ {A = ℕ} 0 1 = cc in absurd (omega arith)
opens_v (is.Key word.Not) n h = let z : ◌≡◌ {A = ℕ} 0 1 = cc in absurd (omega arith)
opens_v (is.Key word.Open) n h = let z : ◌≡◌ {A = ℕ} 0 1 = cc in absurd (omega arith)
opens_v (is.Key word.Close) n h = let z : ◌≡◌ {A = ℕ} 0 1 = cc in absurd (omega arith)
opens_v (is.Key word.Begin) n h = let z : ◌≡◌ {A = ℕ} 0 1 = cc in absurd (omega arith)
opens_v (is.Key word.End) n h = let z : ◌≡◌ {A = ℕ} 0 1 = cc in absurd (omega arith)
opens_v (is.Key word.Comma) n h = let z : ◌≡◌ {A = ℕ} 0 1 = cc in absurd (omega arith)

-- from the code's answers to the contract
pub further_on : (r : Result Cursor NoPlan) (least : ℕ) (at c : Cursor) (bytes room all : ℕ) → room ≡ all → Further r 0 c bytes room → at.pos + least ≤ c.pos → at.len ≤ c.len → Further r least at bytes all
further_on (Ok x) least at c bytes room all e h p q = (omega (arith, h.0), h.1, omega (arith, h.2), omega (arith, h.3))
further_on (Err x) least at c bytes room all e h p q = tt

pub chain_read : (level : Level) (d : ℕ) (e : Expr) (text : List ℕ) (at : ℕ) (pre : List ℕ) (c : Cursor) (ys : List ℕ) (r : Result Cursor NoPlan) → (level ≡ Unary → ⊥) → Took (expr_at (below_of level) d) e (ahead text at) (ahead text c.pos) → ReadExpr r (more_at level d e) text c.pos pre ys → ReadExpr r (expr_at level d) text at pre ys
chain_read level d e text at pre c ys (Ok x) u t h = record { tree = h.tree; took = chain_took level d e h.tree u t h.took; words = h.words }
chain_read level d e text at pre c ys (Err x) u t h = chain_bar_more level d (length ys) (length pre) e u t h

pub more_read : (level : Level) (d : ℕ) (o : Operator) (e b : Expr) (text : List ℕ) (at next : ℕ) (pre : List ℕ) (pos : ℕ) (ys : List ℕ) (r : Result Cursor NoPlan) → join_at level (op (operator_meant o)) ≡ joins (build o) → ahead text at ≡ both (tokens (op (operator_meant o) ∷ [])) (ahead text next) → Took (expr_at (below_of level) d) b (ahead text next) (ahead text pos) → ReadExpr r (more_at level d (build o e b)) text pos pre ys → ReadExpr r (more_at level d e) text at pre ys
more_read level d o e b text at next pre pos ys (Ok x) q a t h = record { tree = h.tree; took = more_took level d o e b h.tree q a t h.took; words = h.words }
more_read level d o e b text at next pre pos ys (Err x) q a t h = more_bar_behind level d (length ys) (length pre) o e b q a t h

pub leaf_read : (p : Family Expr) (e : Expr) (kind value : ℕ) (text : List ℕ) (at : Cursor) (next : ℕ) (xs ys : List ℕ) (r : Result Cursor NoPlan) → length ys ≡ length xs → Took p e (ahead text at.pos) (ahead text next) → code_of e ≡ kind ∷ value ∷ 0 ∷ 0 ∷ [] → at.len ≤ length xs → at.pos < next → next ≤ length text → Leaf r next at.len kind value xs ys →
    record { forth : Further r 1 at (length text) (length xs); read : ReadExpr r p text at.pos (take at.len xs) ys }
leaf_read p e kind value text at next xs ys (Ok c) k t w room lo hi h =
    record {
      forth = (omega (arith, h.0), omega (arith, h.0), omega (arith, h.1), omega (arith, h.1, h.2));
      read = record { tree = e; took = subst (λ (z : ℕ). Took p e (ahead text at.pos) (ahead text z)) (sym h.0) t; words = subst (λ (z : ℕ). take z ys ≡ take at.len xs ++ code_of e) (sym h.1) (h.3 ∙ ap (λ (l : List ℕ). take at.len xs ++ l) (sym w)) };
    }
leaf_read p e kind value text at next xs ys (Err c) k t w room lo hi h =
    record { forth = tt; read = no_room p (length ys) (length (take at.len xs)) (ahead text at.pos) (let l = length-take-le at.len xs room in omega arith) }
