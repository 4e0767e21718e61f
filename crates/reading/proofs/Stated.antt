-- Statements and parts against the reader of tokens.
use Rattle.std.proofs.Common.{◌≡◌, ℕ, zero, suc, ◌+◌, ◌-◌, ◌*◌, ◌/◌, ◌<◌, ◌≤◌, true, false, List, [], ◌∷◌, ◌++◌, length, take, Some, None, Ok, Err, Result, sym, refl, ap, ◌∙◌, subst, append_assoc, le_refl, arith, length-take-le}
use Rattle.std.proofs.lemmas.Bool.{false≢true}
use Rattle.plans.specs.Plan.{Expr, Stmt, Sleep, If, While, Guard, Return, FailNow, Block, done, then, expr_size, size_of, stmt_size}
use Rattle.plans.specs.Flat.{code_of, draft_stmt, draft_of}
use Rattle.plans.proofs.Drafts.{code_length, draft_length, stmt_length}
use Rattle.plans.proofs.Parts.{some_size}
use Rattle.text.specs.Token.{SET, DO, TRIES, PAUSE, SLEEP, HEAR, FOR, IF, ELSE, WHILE, GUARD, RETURN, FAIL, NOT, OPEN, CLOSE, BEGIN, END, COMMA, number, variable, name, op, key, Got, fails, got}
use Rattle.text.specs.Token as token
use Rattle.text.specs.Lexer.{Lexed, wrong, tokens, both}
use Rattle.text.specs.Parser.{and_then, after, after_same, with_variable, expr_s, part_s, key_s, assign_s, stmt_s, ended, block_s}
use Rattle.text.specs.Parser as parser
use Rattle.text.specs.Grammar.{IsStmt}
use Rattle.text.specs.Ahead.{ahead, operator_meant, means, stops}
use Rattle.text.proofs.Sound.{holds_got}
use Rattle.text.proofs.Sounds.{stmt_sound, block_sound}
use Rattle.text.proofs.Completes.{stmt_shorter}
use Rattle.text.specs.declared.Token.{Token}
use Rattle.text.specs.declared.Token.TheVariants as is
use Rattle.text.specs.declared.Key.TheVariants as word
use Rattle.reading.specs.declared.error.NoPlan.{NoPlan}
use Rattle.reading.specs.declared.exprs.Cursor.{Cursor}
use Rattle.reading.specs.declared.stmts.Beginning.{Beginning}
use Rattle.reading.specs.declared.stmts.Beginning.TheVariants as begin
use Rattle.reading.specs.Took.{Family, Took, found, Only, Bars, bars}
use Rattle.reading.specs.Took as took
use Rattle.reading.specs.Tokens.{one_key}
use Rattle.reading.specs.Beginnings.{begins_at, ends_at, Failure}
use Rattle.reading.specs.Levels.{NoRoom, Onwards, Leaf}
use Rattle.reading.specs.Statements.{put4, Large, ReadStmt, ReadPart, whole_expr, expr_then, set_at, part_at, closed_at, opened_at, other_at, if_else, if_behind, if_at, while_behind, while_at, guard_else, guard_at, stmt_at, key_at, assign_at}
use Rattle.reading.proofs.Chains.{Gives, Leaves, prefix, prefix_bar, only_then, only_at_lem, and_at}
use Rattle.reading.proofs.Fours.{head_words, long_as}
use Rattle.reading.proofs.Taking.{bar_token, bar_stop, bar_bad}
use Rattle.reading.proofs.Leveled.{only_any, only_more, units_are, after_is, head_is, none_is, wrong_is}
use Rattle.reading.proofs.Steps.{step_took, step_bar, step_bar_first, step_refused, end_took, only_behind}

-- joining readers
pub and_cong : {A B : Type 0} (g : Got A) (f h : A → List token.Token → Got B) → ((a : A) (us : List token.Token) → f a us ≡ h a us) → and_then g f ≡ and_then g h
unfolding and_then
and_cong fails f h k = refl
and_cong (got a us) f h k = k a us

pub and_assoc : {A B C : Type 0} (g : Got A) (f : A → List token.Token → Got B) (h : B → List token.Token → Got C) → and_then (and_then g f) h ≡ and_then g (λ a us. and_then (f a us) h)
unfolding and_then
and_assoc fails f h = refl
and_assoc (got a us) f h = refl

pub braces : {A : Type 0} (n i : ℕ) (ts : List token.Token) (f : Block → List token.Token → Got A) → after BEGIN ts (λ us. part_s (λ vs. block_s (suc n) vs) us f) ≡ and_then (opened_at n i ts) f
unfolding part_s and_then
braces n i ts f =
    after_is BEGIN ts _ ∙ (and_cong (after BEGIN ts (got tt)) _ _ (λ x us.
    and_cong (block_s (suc n) us) _ _ (λ b vs. after_is END vs (f b) ∙ (and_cong (after END vs (got tt)) _ (λ y ws. and_then (got b ws) f) (λ y ws. refl) ∙ sym (and_assoc (after END vs (got tt)) _ f))) ∙ sym (and_assoc (block_s (suc n) us) _ f)) ∙ sym (and_assoc (after BEGIN ts (got tt)) _ f))

pub else_braces : {A : Type 0} (n i : ℕ) (ts : List token.Token) (f : Block → List token.Token → Got A) → after ELSE ts (λ us. after BEGIN us (λ vs. part_s (λ ws. block_s (suc n) ws) vs f)) ≡ and_then (other_at n i ts) f
else_braces n i ts f = after_is ELSE ts _ ∙ (and_cong (after ELSE ts (got tt)) _ _ (λ x us. braces n i us f) ∙ sym (and_assoc (after ELSE ts (got tt)) _ f))

pub if_is : (n i : ℕ) (ts : List token.Token) → key_at IF n i ts ≡ if_at n i ts
unfolding key_s
if_is n i ts = and_cong (expr_s ts) _ _ (λ e us. braces n i us _ ∙ and_cong (opened_at n i us) _ _ (λ a vs. else_braces n i vs (λ b ws. got (If e a b) ws)))

pub while_is : (n i : ℕ) (ts : List token.Token) → key_at WHILE n i ts ≡ while_at n i ts
unfolding key_s
while_is n i ts = and_cong (expr_s ts) _ _ (λ e us. braces n i us (λ a vs. got (While e a) vs))

pub guard_is : (n i : ℕ) (ts : List token.Token) → key_at GUARD n i ts ≡ guard_at n i ts
unfolding key_s
guard_is n i ts = braces n i ts _ ∙ and_cong (opened_at n i ts) _ _ (λ a us. else_braces n i us (λ b vs. got (Guard a b) vs))

pub variable_is : {A : Type 0} (ts : List token.Token) (f : ℕ → List token.Token → Got A) → with_variable ts f ≡ and_then (with_variable ts got) f
unfolding with_variable and_then
variable_is [] f = refl
variable_is (number n ∷ ts) f = refl
variable_is (variable n ∷ ts) f = refl
variable_is (name n ∷ ts) f = refl
variable_is (op n ∷ ts) f = refl
variable_is (key n ∷ ts) f = refl

pub same_is : {A : Type 0} (ts : List token.Token) (f : List token.Token → Got A) → after_same ts f ≡ and_then (after_same ts (got (tt {0}))) (λ x us. f us)
unfolding after_same and_then
same_is [] f = refl
same_is (number n ∷ ts) f = refl
same_is (variable n ∷ ts) f = refl
same_is (name n ∷ ts) f = refl
same_is (op token.PLUS ∷ ts) f = refl
same_is (op token.MINUS ∷ ts) f = refl
same_is (op token.TIMES ∷ ts) f = refl
same_is (op token.LESS ∷ ts) f = refl
same_is (op token.SAME ∷ ts) f = refl
same_is (key n ∷ ts) f = refl

pub set_is : (n i : ℕ) (ts : List token.Token) → key_at SET n i ts ≡ set_at n i ts
unfolding key_s
set_is n i ts = variable_is ts _ ∙ and_cong (with_variable ts got) _ _ (λ v us. same_is us _)

pub sleep_is : (n i : ℕ) (ts : List token.Token) → key_at SLEEP n i ts ≡ expr_then Sleep n i ts
unfolding key_s
sleep_is n i ts = refl

pub return_is : (n i : ℕ) (ts : List token.Token) → key_at RETURN n i ts ≡ expr_then Return n i ts
unfolding key_s
return_is n i ts = refl

pub fail_is : (n i : ℕ) (ts : List token.Token) → key_at FAIL n i ts ≡ got FailNow ts
unfolding key_s
fail_is n i ts = refl

-- a statement behind its first word, or the variable that it begins with
pub by_key_lem : (k : token.Key) (p : Family Stmt) → ((n i : ℕ) (ts : List token.Token) → key_at k n i ts ≡ p n i ts) → (r : Result Cursor NoPlan) (l m : Lexed) (text pre ys : List ℕ) → l ≡ both (tokens (key k ∷ [])) m → ReadStmt r p m text pre ys → ReadStmt r stmt_at l text pre ys
unfolding stmt_s
by_key_lem k p is (Ok c) l m text pre ys h x = record { item = x.item; took = prefix p stmt_at (key k) x.item x.item h x.took (λ us vs le g n i j q. is n i us ∙ g n i j q); words = x.words }
by_key_lem k p is (Err e) l m text pre ys h x = prefix_bar p stmt_at (key k) _ _ h x (λ us g n i j q. only_at_lem _ _ _ (is n i us) (g n i j q))

pub by_variable : (v : ℕ) (r : Result Cursor NoPlan) (l m : Lexed) (text pre ys : List ℕ) → l ≡ both (tokens (variable v ∷ [])) m → ReadStmt r (assign_at v) m text pre ys → ReadStmt r stmt_at l text pre ys
unfolding stmt_s
by_variable v (Ok c) l m text pre ys h x = record { item = x.item; took = prefix (assign_at v) stmt_at (variable v) x.item x.item h x.took (λ us vs le g n i j q. g n i j q); words = x.words }
by_variable v (Err e) l m text pre ys h x = prefix_bar (assign_at v) stmt_at (variable v) _ _ h x (λ us g n i j q. g n i j q)

pub no_statement : (Big : Stmt → Type 0) (t : Token) (w : List ℕ) (l m : Lexed) → l ≡ both (means t w) m → (stops t ≡ true → m ≡ tokens []) → begins_at t ≡ None → Bars stmt_at Big l
unfolding stmt_s key_s
no_statement Big (is.Number n) w l m h s k = bar_token stmt_at Big (number n) l m h (λ us n i. tt)
no_statement Big (is.Variable n) w l m h s k = let z : ◌≡◌ {A = ℕ} 0 1 = cc in absurd (omega arith)
no_statement Big is.Name w l m h s k = bar_token stmt_at Big (name w) l m h (λ us n i. tt)
no_statement Big (is.Operator o) w l m h s k = bar_token stmt_at Big (op (operator_meant o)) l m h (λ us n i. tt)
no_statement Big is.Stop w l m h s k = bar_stop stmt_at Big l m h (s refl) (λ n i. tt)
no_statement Big is.Bad w l m h s k = bar_bad stmt_at Big l m h
no_statement Big (is.Key word.Set) w l m h s k = let z : ◌≡◌ {A = ℕ} 0 1 = cc in absurd (omega arith)
no_statement Big (is.Key word.Do) w l m h s k = bar_token stmt_at Big (key DO) l m h (λ us n i. tt)
no_statement Big (is.Key word.Tries) w l m h s k = bar_token stmt_at Big (key TRIES) l m h (λ us n i. tt)
no_statement Big (is.Key word.Pause) w l m h s k = bar_token stmt_at Big (key PAUSE) l m h (λ us n i. tt)
no_statement Big (is.Key word.Sleep) w l m h s k = let z : ◌≡◌ {A = ℕ} 0 1 = cc in absurd (omega arith)
no_statement Big (is.Key word.Hear) w l m h s k = bar_token stmt_at Big (key HEAR) l m h (λ us n i. tt)
no_statement Big (is.Key word.For) w l m h s k = bar_token stmt_at Big (key FOR) l m h (λ us n i. tt)
no_statement Big (is.Key word.If) w l m h s k = let z : ◌≡◌ {A = ℕ} 0 1 = cc in absurd (omega arith)
no_statement Big (is.Key word.Else) w l m h s k = bar_token stmt_at Big (key ELSE) l m h (λ us n i. tt)
no_statement Big (is.Key word.While) w l m h s k = let z : ◌≡◌ {A = ℕ} 0 1 = cc in absurd (omega arith)
no_statement Big (is.Key word.Guard) w l m h s k = let z : ◌≡◌ {A = ℕ} 0 1 = cc in absurd (omega arith)
no_statement Big (is.Key word.Return) w l m h s k = let z : ◌≡◌ {A = ℕ} 0 1 = cc in absurd (omega arith)
no_statement Big (is.Key word.Fail) w l m h s k = let z : ◌≡◌ {A = ℕ} 0 1 = cc in absurd (omega arith)
no_statement Big (is.Key word.Not) w l m h s k = bar_token stmt_at Big (key NOT) l m h (λ us n i. tt)
no_statement Big (is.Key word.Open) w l m h s k = bar_token stmt_at Big (key OPEN) l m h (λ us n i. tt)
no_statement Big (is.Key word.Close) w l m h s k = bar_token stmt_at Big (key CLOSE) l m h (λ us n i. tt)
no_statement Big (is.Key word.Begin) w l m h s k = bar_token stmt_at Big (key BEGIN) l m h (λ us n i. tt)
no_statement Big (is.Key word.End) w l m h s k = bar_token stmt_at Big (key END) l m h (λ us n i. tt)
no_statement Big (is.Key word.Comma) w l m h s k = bar_token stmt_at Big (key COMMA) l m h (λ us n i. tt)

-- which token begins a statement
abbrev pub begun_by : Beginning → Token
begun_by begin.Set = is.Key word.Set
begun_by begin.Sleep = is.Key word.Sleep
begun_by begin.If = is.Key word.If
begun_by begin.While = is.Key word.While
begun_by begin.Guard = is.Key word.Guard
begun_by begin.Return = is.Key word.Return
begun_by begin.Fail = is.Key word.Fail
begun_by (begin.Variable v) = is.Variable v

pub begins_is : (t : Token) (b : Beginning) → begins_at t ≡ Some b → t ≡ begun_by b
begins_is (is.Number n) b h = let z : ◌≡◌ {A = ℕ} 0 1 = cc in absurd (omega arith)
begins_is (is.Variable v) b h = let e : begin.Variable v ≡ b = cc in ap begun_by e
begins_is is.Name b h = let z : ◌≡◌ {A = ℕ} 0 1 = cc in absurd (omega arith)
begins_is (is.Operator o) b h = let z : ◌≡◌ {A = ℕ} 0 1 = cc in absurd (omega arith)
begins_is is.Stop b h = let z : ◌≡◌ {A = ℕ} 0 1 = cc in absurd (omega arith)
begins_is is.Bad b h = let z : ◌≡◌ {A = ℕ} 0 1 = cc in absurd (omega arith)
begins_is (is.Key word.Set) b h = let e : begin.Set ≡ b = cc in ap begun_by e
begins_is (is.Key word.Do) b h = let z : ◌≡◌ {A = ℕ} 0 1 = cc in absurd (omega arith)
begins_is (is.Key word.Tries) b h = let z : ◌≡◌ {A = ℕ} 0 1 = cc in absurd (omega arith)
begins_is (is.Key word.Pause) b h = let z : ◌≡◌ {A = ℕ} 0 1 = cc in absurd (omega arith)
begins_is (is.Key word.Sleep) b h = let e : begin.Sleep ≡ b = cc in ap begun_by e
begins_is (is.Key word.Hear) b h = let z : ◌≡◌ {A = ℕ} 0 1 = cc in absurd (omega arith)
begins_is (is.Key word.For) b h = let z : ◌≡◌ {A = ℕ} 0 1 = cc in absurd (omega arith)
begins_is (is.Key word.If) b h = let e : begin.If ≡ b = cc in ap begun_by e
begins_is (is.Key word.Else) b h = let z : ◌≡◌ {A = ℕ} 0 1 = cc in absurd (omega arith)
begins_is (is.Key word.While) b h = let e : begin.While ≡ b = cc in ap begun_by e
begins_is (is.Key word.Guard) b h = let e : begin.Guard ≡ b = cc in ap begun_by e
begins_is (is.Key word.Return) b h = let e : begin.Return ≡ b = cc in ap begun_by e
begins_is (is.Key word.Fail) b h = let e : begin.Fail ≡ b = cc in ap begun_by e
begins_is (is.Key word.Not) b h = let z : ◌≡◌ {A = ℕ} 0 1 = cc in absurd (omega arith)
begins_is (is.Key word.Open) b h = let z : ◌≡◌ {A = ℕ} 0 1 = cc in absurd (omega arith)
begins_is (is.Key word.Close) b h = let z : ◌≡◌ {A = ℕ} 0 1 = cc in absurd (omega arith)
begins_is (is.Key word.Begin) b h = let z : ◌≡◌ {A = ℕ} 0 1 = cc in absurd (omega arith)
begins_is (is.Key word.End) b h = let z : ◌≡◌ {A = ℕ} 0 1 = cc in absurd (omega arith)
begins_is (is.Key word.Comma) b h = let z : ◌≡◌ {A = ℕ} 0 1 = cc in absurd (omega arith)

pub at_token : (t u : Token) (w : List ℕ) (l m : Lexed) → l ≡ both (means t w) m → t ≡ u → l ≡ both (means u w) m
at_token t u w l m h e = h ∙ ap (λ (x : Token). both (means x w) m) e

-- the end of a part
part_stays : (l : Lexed) → ((ts : List token.Token) → l ≡ tokens ts → ended ts ≡ true) → Took part_at done l l
unfolding block_s
part_stays wrong f = took.Took.lost
part_stays (tokens ts) f = found (le_refl _) (λ n i j k. rw (f ts refl) refl)

pub part_end : (t : Token) (w : List ℕ) (l m : Lexed) → l ≡ both (means t w) m → (stops t ≡ true → m ≡ tokens []) → ends_at t ≡ true → Took part_at done l l
unfolding ended parser.code_of
part_end is.Stop w l m h s e = part_stays l (λ ts x. none_is (λ us. ended us ≡ true) l m ts h (s refl) x refl)
part_end (is.Key word.End) w l m h s e = part_stays l (λ ts x. head_is (λ us. ended us ≡ true) (key END) l m ts h x (λ us. refl))
part_end (is.Number n) w l m h s e = absurd (false≢true e)
part_end (is.Variable n) w l m h s e = absurd (false≢true e)
part_end is.Name w l m h s e = absurd (false≢true e)
part_end (is.Operator o) w l m h s e = absurd (false≢true e)
part_end is.Bad w l m h s e = absurd (false≢true e)
part_end (is.Key word.Set) w l m h s e = absurd (false≢true e)
part_end (is.Key word.Do) w l m h s e = absurd (false≢true e)
part_end (is.Key word.Tries) w l m h s e = absurd (false≢true e)
part_end (is.Key word.Pause) w l m h s e = absurd (false≢true e)
part_end (is.Key word.Sleep) w l m h s e = absurd (false≢true e)
part_end (is.Key word.Hear) w l m h s e = absurd (false≢true e)
part_end (is.Key word.For) w l m h s e = absurd (false≢true e)
part_end (is.Key word.If) w l m h s e = absurd (false≢true e)
part_end (is.Key word.Else) w l m h s e = absurd (false≢true e)
part_end (is.Key word.While) w l m h s e = absurd (false≢true e)
part_end (is.Key word.Guard) w l m h s e = absurd (false≢true e)
part_end (is.Key word.Return) w l m h s e = absurd (false≢true e)
part_end (is.Key word.Fail) w l m h s e = absurd (false≢true e)
part_end (is.Key word.Not) w l m h s e = absurd (false≢true e)
part_end (is.Key word.Open) w l m h s e = absurd (false≢true e)
part_end (is.Key word.Close) w l m h s e = absurd (false≢true e)
part_end (is.Key word.Begin) w l m h s e = absurd (false≢true e)
part_end (is.Key word.Comma) w l m h s e = absurd (false≢true e)

-- what is no end of a part
abbrev Going : List token.Token → Type 0
Going ts = ended ts ≡ false

pub going : (t : Token) (w : List ℕ) (l m : Lexed) → l ≡ both (means t w) m → ends_at t ≡ false → (ts : List token.Token) → l ≡ tokens ts → ended ts ≡ false
unfolding ended parser.code_of
going (is.Number n) w l m h e ts x = head_is Going (number n) l m ts h x (λ us. refl)
going (is.Variable n) w l m h e ts x = head_is Going (variable n) l m ts h x (λ us. refl)
going is.Name w l m h e ts x = head_is Going (name w) l m ts h x (λ us. refl)
going (is.Operator o) w l m h e ts x = head_is Going (op (operator_meant o)) l m ts h x (λ us. refl)
going is.Stop w l m h e ts x = absurd (false≢true (sym e))
going is.Bad w l m h e ts x = wrong_is l m ts h x
going (is.Key word.Set) w l m h e ts x = head_is Going (key SET) l m ts h x (λ us. refl)
going (is.Key word.Do) w l m h e ts x = head_is Going (key DO) l m ts h x (λ us. refl)
going (is.Key word.Tries) w l m h e ts x = head_is Going (key TRIES) l m ts h x (λ us. refl)
going (is.Key word.Pause) w l m h e ts x = head_is Going (key PAUSE) l m ts h x (λ us. refl)
going (is.Key word.Sleep) w l m h e ts x = head_is Going (key SLEEP) l m ts h x (λ us. refl)
going (is.Key word.Hear) w l m h e ts x = head_is Going (key HEAR) l m ts h x (λ us. refl)
going (is.Key word.For) w l m h e ts x = head_is Going (key FOR) l m ts h x (λ us. refl)
going (is.Key word.If) w l m h e ts x = head_is Going (key IF) l m ts h x (λ us. refl)
going (is.Key word.Else) w l m h e ts x = head_is Going (key ELSE) l m ts h x (λ us. refl)
going (is.Key word.While) w l m h e ts x = head_is Going (key WHILE) l m ts h x (λ us. refl)
going (is.Key word.Guard) w l m h e ts x = head_is Going (key GUARD) l m ts h x (λ us. refl)
going (is.Key word.Return) w l m h e ts x = head_is Going (key RETURN) l m ts h x (λ us. refl)
going (is.Key word.Fail) w l m h e ts x = head_is Going (key FAIL) l m ts h x (λ us. refl)
going (is.Key word.Not) w l m h e ts x = head_is Going (key NOT) l m ts h x (λ us. refl)
going (is.Key word.Open) w l m h e ts x = head_is Going (key OPEN) l m ts h x (λ us. refl)
going (is.Key word.Close) w l m h e ts x = head_is Going (key CLOSE) l m ts h x (λ us. refl)
going (is.Key word.Begin) w l m h e ts x = head_is Going (key BEGIN) l m ts h x (λ us. refl)
going (is.Key word.End) w l m h e ts x = absurd (false≢true (sym e))
going (is.Key word.Comma) w l m h e ts x = head_is Going (key COMMA) l m ts h x (λ us. refl)

stmt_less : (n : ℕ) (ts us : List token.Token) (s : Stmt) → stmt_s (λ vs. block_s n vs) ts ≡ got s us → length us < length ts
stmt_less n ts us s h = stmt_shorter (holds_got (IsStmt ts) (stmt_s (λ vs. block_s n vs) ts) s us (stmt_sound (λ vs. block_s n vs) (λ vs. block_sound n vs) ts) h)

more_is : (n i : ℕ) (ts : List token.Token) → ended ts ≡ false → part_at n i ts ≡ and_then (stmt_at n i ts) (λ s us. and_then (block_s n us) (λ b vs. got (then s b) vs))
unfolding block_s
more_is n i ts h = rw h refl

-- from fuel for what is left to fuel for the whole
rest_gives : (n : ℕ) (us : List token.Token) (g : Got Block) → Gives part_at us g → length us < n → block_s n us ≡ g
rest_gives zero us g f h = absurd (omega arith)
rest_gives (suc n) us g f h = f n n (omega arith) (omega arith)

rest_leaves : (n : ℕ) (us : List token.Token) (Big : Block → Type 0) → Leaves part_at Big us → length us < n → Only Big (block_s n us)
rest_leaves zero us Big f h = absurd (omega arith)
rest_leaves (suc n) us Big f h = f n n (omega arith) (omega arith)

-- a statement of a part, and the rest of the part
pub part_took : (s : Stmt) (b : Block) {l m k : Lexed} → ((ts : List token.Token) → l ≡ tokens ts → ended ts ≡ false) → Took stmt_at s l m → Took part_at b m k → Took part_at (then s b) l k
unfolding and_then
part_took s b go took.Took.lost took.Took.lost = took.Took.lost
part_took s b go (found {ts} {us} le g) (found {us = vs} le2 h) = found (omega arith) enough
  where
    enough : (n i : ℕ) → length ts ≤ n → length ts ≤ i → part_at n i ts ≡ got (then s b) vs
    enough n i j k =
        let e = g n i j k in
        let less = stmt_less n ts us s e in
        more_is n i ts (go ts refl) ∙ (and_at (stmt_at n i ts) s us _ e ∙ and_at (block_s n us) b vs _ (rest_gives n us (got b vs) h (omega arith)))

pub part_bar_first : (room len : ℕ) {l : Lexed} → ((ts : List token.Token) → l ≡ tokens ts → ended ts ≡ false) → Bars stmt_at (Large stmt_size room len) l → Bars part_at (Large size_of room len) l
unfolding size_of
part_bar_first room len go took.Bars.lost = took.Bars.lost
part_bar_first room len go (bars {ts} g) = bars (λ n i j k. only_at_lem _ _ _ (more_is n i ts (go ts refl)) (only_then (Large stmt_size room len) _ (stmt_at n i ts) _ (g n i j k) (λ s us big. only_behind _ (block_s n us) _ (λ b vs. omega arith))))

pub part_bar_rest : (room len at : ℕ) (s : Stmt) {l m : Lexed} → ((ts : List token.Token) → l ≡ tokens ts → ended ts ≡ false) → at ≡ len + 4 * stmt_size s → Took stmt_at s l m → Bars part_at (Large size_of room at) m → Bars part_at (Large size_of room len) l
unfolding size_of
part_bar_rest room len at s go is took.Took.lost took.Bars.lost = took.Bars.lost
part_bar_rest room len at s go is (found {ts} {us} le g) (bars h) = bars enough
  where
    enough : (n i : ℕ) → length ts ≤ n → length ts ≤ i → Only (Large size_of room len) (part_at n i ts)
    enough n i j k =
        let e = g n i j k in
        let less = stmt_less n ts us s e in
        only_at_lem _ _ _ (more_is n i ts (go ts refl) ∙ and_at (stmt_at n i ts) s us _ e) (only_then (Large size_of room at) _ (block_s n us) _ (rest_leaves n us _ h (omega arith)) (λ b vs big. omega arith))

-- sizes and places
pub long : {A : Type 0} (code : A → List ℕ) (size : A → ℕ) → ((a : A) → length (code a) ≡ 4 * size a) → (ys pre : List ℕ) (a : A) (n : ℕ) → take n ys ≡ pre ++ code a → n ≤ length ys → n ≡ length pre + 4 * size a
long code size sized ys pre a n h k = long_as ys pre (code a) n h k ∙ ap (λ (x : ℕ). length pre + x) (sized a)

pub short : (n : ℕ) (xs : List ℕ) → length (take n xs) ≤ n
short zero xs = omega arith
short (suc n) [] = omega arith
short (suc n) (x ∷ xs) = let k = short n xs in omega arith

-- a part in braces
abbrev pub close_at : Block → Family Block
close_at b n i vs = and_then (one_key END n i vs) (λ x ws. got b ws)

pub opened_bar : (Big : Block → Type 0) {l m : Lexed} → Took (one_key BEGIN) tt l m → Bars part_at Big m → Bars opened_at Big l
opened_bar Big x y = step_bar (one_key BEGIN) (λ z. closed_at) tt Big x (step_bar_first part_at close_at Big Big y (λ b big n i us. only_behind Big (one_key END n i us) _ (λ q vs. big)))

pub opened_open : (b : Block) (Big : Block → Type 0) {l m k : Lexed} → Took (one_key BEGIN) tt l m → Took part_at b m k → Bars (one_key END) (λ _. ⊥) k → Bars opened_at Big l
opened_open b Big x y z = step_bar (one_key BEGIN) (λ q. closed_at) tt Big x (step_bar part_at close_at b Big y (step_refused (one_key END) (λ q n i ws. got b ws) Big z))

pub opened_took : (b : Block) {l m k z : Lexed} → Took (one_key BEGIN) tt l m → Took part_at b m k → Took (one_key END) tt k z → Took opened_at b l z
opened_took b x y z = step_took (one_key BEGIN) (λ q. closed_at) tt b x (step_took part_at close_at b b y (step_took (one_key END) (λ q n i ws. got b ws) tt b z (end_took b _)))

pub other_read : (r : Result Cursor NoPlan) (l m : Lexed) (text pre ys : List ℕ) → Took (one_key ELSE) tt l m → ReadPart r opened_at m text pre ys → ReadPart r other_at l text pre ys
other_read (Ok c) l m text pre ys x h = record { item = h.item; took = step_took (one_key ELSE) (λ q. opened_at) tt h.item x h.took; words = h.words }
other_read (Err e) l m text pre ys x h = step_bar (one_key ELSE) (λ q. opened_at) tt _ x h

-- if
module _ (xs : List ℕ) (len room : ℕ) (l : Lexed) (fits : len ≤ length xs) where
  abbrev BigS : Stmt → Type 0
  BigS = Large stmt_size room (length (take len xs))

  pub if_bar_condition : Bars whole_expr (NoRoom room (length (take (len + 4) xs))) l → Bars if_at BigS l
  unfolding stmt_size
  if_bar_condition x =
      step_bar_first whole_expr if_behind _ BigS x
      (λ e big n i us. only_behind BigS (opened_at n i us) _ (λ a vs. only_behind BigS (other_at n i vs) _ (λ b ws. let p = length-take-le len xs fits in let q = short (len + 4) xs in omega arith)))

  pub if_bar_first : (e : Expr) {m : Lexed} (at : ℕ) → at ≡ len + 4 + 4 * expr_size e → Took whole_expr e l m → Bars opened_at (Large size_of room at) m → Bars if_at BigS l
  unfolding stmt_size
  if_bar_first e at is x y =
      step_bar whole_expr if_behind e BigS x (step_bar_first opened_at (if_else e) _ BigS y (λ a big n i us. only_behind BigS (other_at n i us) _ (λ b vs. let p = length-take-le len xs fits in omega arith)))

  pub if_bar_other : (e : Expr) (a : Block) {m k : Lexed} (at : ℕ) → at ≡ len + 4 + 4 * expr_size e + 4 * size_of a → Took whole_expr e l m → Took opened_at a m k → Bars other_at (Large size_of room at) k → Bars if_at BigS l
  unfolding stmt_size
  if_bar_other e a at is x y z =
      step_bar whole_expr if_behind e BigS x (step_bar opened_at (if_else e) a BigS y (step_bar_first other_at (λ b n i us. got (If e a b) us) _ BigS z (λ b big n i us. let p = length-take-le len xs fits in omega arith)))

  pub while_bar_condition : Bars whole_expr (NoRoom room (length (take (len + 4) xs))) l → Bars while_at BigS l
  unfolding stmt_size
  while_bar_condition x =
      step_bar_first whole_expr while_behind _ BigS x (λ e big n i us. only_behind BigS (opened_at n i us) _ (λ a vs. let p = length-take-le len xs fits in let q = short (len + 4) xs in omega arith))

  pub while_bar_body : (e : Expr) {m : Lexed} (at : ℕ) → at ≡ len + 4 + 4 * expr_size e → Took whole_expr e l m → Bars opened_at (Large size_of room at) m → Bars while_at BigS l
  unfolding stmt_size
  while_bar_body e at is x y = step_bar whole_expr while_behind e BigS x (step_bar_first opened_at (λ a n i us. got (While e a) us) _ BigS y (λ a big n i us. let p = length-take-le len xs fits in omega arith))

  pub guard_bar_first : (at : ℕ) → at ≡ len + 4 → Bars opened_at (Large size_of room at) l → Bars guard_at BigS l
  unfolding stmt_size
  guard_bar_first at is x = step_bar_first opened_at guard_else _ BigS x (λ a big n i us. only_behind BigS (other_at n i us) _ (λ b vs. let p = length-take-le len xs fits in omega arith))

  pub guard_bar_other : (a : Block) {m : Lexed} (at : ℕ) → at ≡ len + 4 + 4 * size_of a → Took opened_at a l m → Bars other_at (Large size_of room at) m → Bars guard_at BigS l
  unfolding stmt_size
  guard_bar_other a at is x y = step_bar opened_at guard_else a BigS x (step_bar_first other_at (λ b n i us. got (Guard a b) us) _ BigS y (λ b big n i us. let p = length-take-le len xs fits in omega arith))

pub if_took : (e : Expr) (a b : Block) {l m k z : Lexed} → Took whole_expr e l m → Took opened_at a m k → Took other_at b k z → Took if_at (If e a b) l z
if_took e a b x y z = step_took whole_expr if_behind e (If e a b) x (step_took opened_at (if_else e) a (If e a b) y (step_took other_at (λ b n i us. got (If e a b) us) b (If e a b) z (end_took (If e a b) _)))

pub while_took : (e : Expr) (a : Block) {l m k : Lexed} → Took whole_expr e l m → Took opened_at a m k → Took while_at (While e a) l k
while_took e a x y = step_took whole_expr while_behind e (While e a) x (step_took opened_at (λ a n i us. got (While e a) us) a (While e a) y (end_took (While e a) _))

pub guard_took : (a b : Block) {l m k : Lexed} → Took opened_at a l m → Took other_at b m k → Took guard_at (Guard a b) l k
guard_took a b x y = step_took opened_at guard_else a (Guard a b) x (step_took other_at (λ b n i us. got (Guard a b) us) b (Guard a b) y (end_took (Guard a b) _))

pub if_words : (xs y1 y2 y3 : List ℕ) (len m1 m2 m3 u v w : ℕ) (e : Expr) (a b : Block) → take m1 y1 ≡ take (len + 4) xs ++ code_of e → take m2 y2 ≡ take m1 y1 ++ draft_of a → take m3 y3 ≡ take m2 y2 ++ draft_of b →
    len + 4 ≤ m1 → m1 ≤ m2 → m2 ≤ m3 → m3 ≤ length xs → length y1 ≡ length xs → length y2 ≡ length xs → length y3 ≡ length xs → u ≡ (m2 - len) / 4 → v ≡ (m3 - len) / 4 → w ≡ (m1 - (len + 4)) / 4 →
    take m3 (put4 y3 len 5 u v w) ≡ take len xs ++ draft_stmt (If e a b)
unfolding draft_stmt stmt_size
if_words xs y1 y2 y3 len m1 m2 m3 u v w e a b h1 h2 h3 l1 l2 l3 lim s1 s2 s3 iu iv iw =
    let t0 = length-take-le (len + 4) xs (omega arith) in
    let k1 = long code_of expr_size code_length y1 (take (len + 4) xs) e m1 h1 (omega arith) in
    let t1 = length-take-le m1 y1 (omega arith) in
    let k2 = long draft_of size_of draft_length y2 (take m1 y1) a m2 h2 (omega arith) in
    let t2 = length-take-le m2 y2 (omega arith) in
    let k3 = long draft_of size_of draft_length y3 (take m2 y2) b m3 h3 (omega arith) in
    let all : take m3 y3 ≡ take (len + 4) xs ++ (code_of e ++ (draft_of a ++ draft_of b)) =
    h3 ∙ (ap (λ (q : List ℕ). q ++ draft_of b) (h2 ∙ ap (λ (q : List ℕ). q ++ draft_of a) h1) ∙ (append_assoc (take (len + 4) xs ++ code_of e) (draft_of a) (draft_of b) ∙ append_assoc (take (len + 4) xs) (code_of e) (draft_of a ++ draft_of b))) in
    let eu : u ≡ 1 + (expr_size e + size_of a) = iu ∙ units_are m2 len _ (omega arith) in
    let ev : v ≡ 1 + (expr_size e + (size_of a + size_of b)) = iv ∙ units_are m3 len _ (omega arith) in
    let ew : w ≡ expr_size e = iw ∙ units_are m1 (len + 4) _ (omega arith) in
    head_words xs y3 (code_of e ++ (draft_of a ++ draft_of b)) len m3 5 u v w all (omega arith) s3 (omega arith) ∙ (rw (eu, ev, ew) refl)

pub while_words : (xs y1 y2 : List ℕ) (len m1 m2 v w : ℕ) (e : Expr) (a : Block) → take m1 y1 ≡ take (len + 4) xs ++ code_of e → take m2 y2 ≡ take m1 y1 ++ draft_of a →
    len + 4 ≤ m1 → m1 ≤ m2 → m2 ≤ length xs → length y1 ≡ length xs → length y2 ≡ length xs → v ≡ (m2 - len) / 4 → w ≡ (m1 - (len + 4)) / 4 →
    take m2 (put4 y2 len 6 0 v w) ≡ take len xs ++ draft_stmt (While e a)
unfolding draft_stmt stmt_size
while_words xs y1 y2 len m1 m2 v w e a h1 h2 l1 l2 lim s1 s2 iv iw =
    let t0 = length-take-le (len + 4) xs (omega arith) in
    let k1 = long code_of expr_size code_length y1 (take (len + 4) xs) e m1 h1 (omega arith) in
    let t1 = length-take-le m1 y1 (omega arith) in
    let k2 = long draft_of size_of draft_length y2 (take m1 y1) a m2 h2 (omega arith) in
    let all : take m2 y2 ≡ take (len + 4) xs ++ (code_of e ++ draft_of a) = h2 ∙ (ap (λ (q : List ℕ). q ++ draft_of a) h1 ∙ append_assoc (take (len + 4) xs) (code_of e) (draft_of a)) in
    let ev : v ≡ 1 + (expr_size e + size_of a) = iv ∙ units_are m2 len _ (omega arith) in
    let ew : w ≡ expr_size e = iw ∙ units_are m1 (len + 4) _ (omega arith) in
    head_words xs y2 (code_of e ++ draft_of a) len m2 6 0 v w all (omega arith) s2 (omega arith) ∙ (rw (ev, ew) refl)

pub guard_words : (xs y2 y3 : List ℕ) (len m2 m3 u v : ℕ) (a b : Block) → take m2 y2 ≡ take (len + 4) xs ++ draft_of a → take m3 y3 ≡ take m2 y2 ++ draft_of b →
    len + 4 ≤ m2 → m2 ≤ m3 → m3 ≤ length xs → length y2 ≡ length xs → length y3 ≡ length xs → u ≡ (m2 - len) / 4 → v ≡ (m3 - len) / 4 →
    take m3 (put4 y3 len 8 u v 0) ≡ take len xs ++ draft_stmt (Guard a b)
unfolding draft_stmt stmt_size
guard_words xs y2 y3 len m2 m3 u v a b h2 h3 l2 l3 lim s2 s3 iu iv =
    let t0 = length-take-le (len + 4) xs (omega arith) in
    let k2 = long draft_of size_of draft_length y2 (take (len + 4) xs) a m2 h2 (omega arith) in
    let t2 = length-take-le m2 y2 (omega arith) in
    let k3 = long draft_of size_of draft_length y3 (take m2 y2) b m3 h3 (omega arith) in
    let all : take m3 y3 ≡ take (len + 4) xs ++ (draft_of a ++ draft_of b) = h3 ∙ (ap (λ (q : List ℕ). q ++ draft_of b) h2 ∙ append_assoc (take (len + 4) xs) (draft_of a) (draft_of b)) in
    let eu : u ≡ 1 + size_of a = iu ∙ units_are m2 len _ (omega arith) in
    let ev : v ≡ 1 + (size_of a + size_of b) = iv ∙ units_are m3 len _ (omega arith) in
    head_words xs y3 (draft_of a ++ draft_of b) len m3 8 u v 0 all (omega arith) s3 (omega arith) ∙ (rw (eu, ev) refl)

-- there is no room for any part, or statement
pub no_room_part : (p : Family Block) (room len : ℕ) (l : Lexed) → room < len + 4 → Bars p (Large size_of room len) l
no_room_part p room len wrong h = took.Bars.lost
no_room_part p room len (tokens ts) h = bars (λ n i j k. only_more (λ _. Unit {0}) _ (λ b x. let y = some_size b in omega arith) (p n i ts) (only_any (p n i ts)))

pub sleep_draft : (e : Expr) → draft_stmt (Sleep e) ≡ 3 ∷ 0 ∷ (1 + expr_size e) ∷ 0 ∷ code_of e
unfolding draft_stmt stmt_size
sleep_draft e = refl

pub sleep_size : (e : Expr) → stmt_size (Sleep e) ≡ 1 + expr_size e
unfolding stmt_size
sleep_size e = refl

pub return_draft : (e : Expr) → draft_stmt (Return e) ≡ 10 ∷ 0 ∷ (1 + expr_size e) ∷ 0 ∷ code_of e
unfolding draft_stmt stmt_size
return_draft e = refl

pub return_size : (e : Expr) → stmt_size (Return e) ≡ 1 + expr_size e
unfolding stmt_size
return_size e = refl

-- fail
abbrev pub fail_at : Family Stmt
fail_at n i ts = got FailNow ts

pub failure_onwards : (r : Result Cursor NoPlan) (next len bytes : ℕ) (xs ys : List ℕ) → next ≤ bytes → Failure r next len xs ys → Onwards r next len bytes (length xs)
failure_onwards (Ok c) next len bytes xs ys p h = (omega (arith, h.0), omega (arith, h.0), omega (arith, h.1), omega (arith, h.1, h.2))
failure_onwards (Err e) next len bytes xs ys p h = tt

fail_draft : draft_stmt FailNow ≡ 11 ∷ 0 ∷ 1 ∷ 0 ∷ []
unfolding draft_stmt
fail_draft = refl

fail_size : stmt_size FailNow ≡ 1
unfolding stmt_size
fail_size = refl

pub failure_read : (r : Result Cursor NoPlan) (text : List ℕ) (next len : ℕ) (xs ys : List ℕ) → len ≤ length xs → length ys ≡ length xs → Failure r next len xs ys → ReadStmt r fail_at (ahead text next) text (take len xs) ys
failure_read (Ok c) text next len xs ys fits same h =
    record {
      item = FailNow;
      took = subst (λ (z : ℕ). Took fail_at FailNow (ahead text next) (ahead text z)) (sym h.0) (end_took FailNow (ahead text next));
      words = subst (λ (z : ℕ). take z ys ≡ take len xs ++ draft_stmt FailNow) (sym h.1) (h.3 ∙ ap (λ (q : List ℕ). take len xs ++ q) (sym fail_draft));
    }
failure_read (Err e) text next len xs ys fits same h = fail_bar (ahead text next)
  where
    fail_bar : (l : Lexed) → Bars fail_at (Large stmt_size (length ys) (length (take len xs))) l
    fail_bar wrong = took.Bars.lost
    fail_bar (tokens ts) = bars (λ n i j k. let p = length-take-le len xs fits in let q = fail_size in omega arith)

done_draft : draft_of done ≡ 12 ∷ 0 ∷ 0 ∷ 0 ∷ []
unfolding draft_of
done_draft = refl

-- the end of a part
pub end_read : (text : List ℕ) (at : Cursor) (next : ℕ) (xs ys : List ℕ) (r : Result Cursor NoPlan) → at.pos ≤ next → next ≤ length text → ahead text next ≡ ahead text at.pos → at.len ≤ length xs → length ys ≡ length xs → Took part_at done (ahead text at.pos) (ahead text at.pos) → Leaf r next at.len 12 0 xs ys →
    record { forth : Onwards r at.pos at.len (length text) (length xs); read : ReadPart r part_at (ahead text at.pos) text (take at.len xs) ys }
end_read text at next xs ys (Ok c) on within there fits same t h =
    record {
      forth = (omega (arith, h.0), omega (arith, h.0), omega (arith, h.1), omega (arith, h.1, h.2));
      read = record {
        item = done;
        took = subst (λ (z : ℕ). Took part_at done (ahead text at.pos) (ahead text z)) (sym h.0) (subst (λ (x : Lexed). Took part_at done (ahead text at.pos) x) (sym there) t);
        words = subst (λ (z : ℕ). take z ys ≡ take at.len xs ++ draft_of done) (sym h.1) (h.3 ∙ ap (λ (q : List ℕ). take at.len xs ++ q) (sym done_draft));
      };
    }
end_read text at next xs ys (Err e) on within there fits same t h = record { forth = tt; read = no_room_part part_at _ _ _ (let p = length-take-le at.len xs fits in omega arith) }

-- a statement, and the rest of the part
pub part_read : (r : Result Cursor NoPlan) (text : List ℕ) (at c : Cursor) (xs ys zs : List ℕ) (s : Stmt) → ((ts : List token.Token) → ahead text at.pos ≡ tokens ts → ended ts ≡ false) → at.len ≤ length xs → at.pos ≤ c.pos → at.len ≤ c.len → c.len ≤ length xs → length ys ≡ length xs → length zs ≡ length ys →
    Took stmt_at s (ahead text at.pos) (ahead text c.pos) → take c.len ys ≡ take at.len xs ++ draft_stmt s → Onwards r c.pos c.len (length text) (length ys) → ReadPart r part_at (ahead text c.pos) text (take c.len ys) zs →
    record { forth : Onwards r at.pos at.len (length text) (length xs); read : ReadPart r part_at (ahead text at.pos) text (take at.len xs) zs }
unfolding draft_of
part_read (Ok d) text at c xs ys zs s go fits p q lim same same2 t w f h =
    record {
      forth = (omega (arith, f.0), f.1, omega (arith, f.2), omega (arith, f.3));
      read = record { item = then s h.item; took = part_took s h.item go t h.took; words = h.words ∙ (ap (λ (l : List ℕ). l ++ draft_of h.item) w ∙ append_assoc (take at.len xs) (draft_stmt s) (draft_of h.item)) };
    }
part_read (Err e) text at c xs ys zs s go fits p q lim same same2 t w f h =
    record { forth = tt; read = part_bar_rest (length zs) (length (take at.len xs)) (length (take c.len ys)) s go (length-take-le c.len ys (omega arith) ∙ long draft_stmt stmt_size stmt_length ys (take at.len xs) s c.len w (omega arith)) t h }

pub not_stop : (t : Token) → ends_at t ≡ false → stops t ≡ false
not_stop (is.Number n) h = refl
not_stop (is.Variable n) h = refl
not_stop is.Name h = refl
not_stop (is.Operator o) h = refl
not_stop (is.Key k) h = refl
not_stop is.Stop h = absurd (false≢true (sym h))
not_stop is.Bad h = refl
