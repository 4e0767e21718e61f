-- Tasks and hearings against the reader of tokens.
use Rattle.std.proofs.Common.{◌≡◌, ℕ, zero, suc, ◌+◌, ◌-◌, ◌*◌, ◌/◌, ◌<◌, ◌≤◌, Bool, true, false, cond, not, ◌&&◌, eqb, ltb, ltb-true, leb, ◌⊎◌, List, [], ◌∷◌, ◌++◌, length, get_or, take, drop, set, replicate, Ok, Err, Result, sym, refl, ap, ◌∙◌, subst, inl, inr, append_assoc, append-nil, le_trans, le_refl, arith, length-append, length-drop, length-take-le}
use lib.Seq.{take-append-le, take-append-add}
use Rattle.std.proofs.lemmas.List.{get_or_past, take-take, drop-take, drop_at, set_at, take_more, drop_more, get_or-take, get_or_append_left, get_or-append_right, get_or-replicate}
use Rattle.std.proofs.lemmas.Bool.{false≢true}
use Rattle.std.proofs.lemmas.Bool.Decides.{nat_tests}
use Rattle.plans.specs.Plan.{Name, Expr, Stmt, Do, Hear, expr_size, sizes, stmt_size}
use Rattle.plans.specs.Flat.{code_of, codes_of, padded, draft_stmt}
use Rattle.plans.proofs.Drafts.{code_length, codes_length, padded_length}
use Rattle.text.specs.Token.{DO, TRIES, PAUSE, HEAR, FOR, OPEN, CLOSE, COMMA, SAME, number, variable, name, op, key, Got, fails, got}
use Rattle.text.specs.Token as token
use Rattle.text.specs.Lexer.{Lexed, wrong, tokens, both}
use Rattle.text.specs.Parser.{and_then, after, after_same, with_number, with_variable, with_name, if_ok, expr_s, args_s, list_s, do_s, hear_s, assign_s}
use Rattle.text.specs.Parser as parser
use Rattle.text.specs.Grammar.{do_ok}
use Rattle.text.specs.Ahead.{operator_meant, means, stops}
use Rattle.text.specs.declared.Token.{Token}
use Rattle.text.specs.declared.Token.TheVariants as is
use Rattle.text.specs.declared.Key.TheVariants as word
use Rattle.reading.specs.declared.error.NoPlan.{NoPlan}
use Rattle.reading.specs.declared.exprs.Cursor.{Cursor}
use Rattle.reading.specs.declared.tasks.Args.{Args}
use Rattle.reading.specs.Took.{Family, Took, found, Only, Bars, bars}
use Rattle.reading.specs.Took as took
use Rattle.reading.specs.Tokens.{one_key, one_same, one_number, one_variable, one_name}
use Rattle.reading.specs.Levels.{NoRoom}
use Rattle.reading.specs.Statements.{put4, Large, ReadStmt, whole_expr, front_open, front_kind, front_at, Times, back_pause, back_then, back_tries, back_at, times_ok, args_at, list_at, task_done, task_args, task_kind, task_at, Heard, heard_for, heard_name, heard_hear, heard_same, heard_at, hear_done, hear_for, hear_at, assign_at}
use Rattle.reading.specs.Tasks.{Many, ReadArgs, ArgsOn, named}
use Rattle.reading.proofs.Chains.{rename, only_then, only_at_lem, and_at}
use Rattle.reading.proofs.Fours.{head_words, four_length}
use Rattle.reading.proofs.Taking.{take_token}
use Rattle.reading.proofs.Leveled.{units_are, after_is, head_is, none_is, wrong_is}
use Rattle.reading.proofs.Steps.{step_took, step_bar, step_bar_first, step_refused, end_took, only_behind}
use Rattle.reading.proofs.Stated.{and_cong, and_assoc, variable_is, same_is, short, long}

pub everywhere : {A : Type 0} (p : Family A) (Big : A → Type 0) → ((n i : ℕ) (ts : List token.Token) → Only Big (p n i ts)) → (l : Lexed) → Bars p Big l
everywhere p Big f wrong = took.Bars.lost
everywhere p Big f (tokens ts) = bars (λ n i j k. f n i ts)

pub only_if : {A : Type 0} (Big : A → Type 0) (b : Bool) (g : Got A) → (b ≡ true → Only Big g) → Only Big (if_ok b g)
unfolding if_ok
only_if Big true g f = f refl
only_if Big false g f = tt

-- do, kind, (
pub front_bar_kind : (k : ℕ) {l m z : Lexed} → Took (one_key DO) tt l m → Took one_number k m z → 4294967296 ≤ k → Bars front_at (λ x. 4294967296 ≤ x) l
front_bar_kind k x y big = step_bar (one_key DO) (λ q. front_kind) tt _ x (step_bar one_number front_open k _ y (everywhere (front_open k) _ (λ n i ts. only_behind _ (one_key OPEN n i ts) _ (λ q us. big)) _))

pub front_bar_open : (k : ℕ) {l m z : Lexed} → Took (one_key DO) tt l m → Took one_number k m z → Bars (one_key OPEN) (λ _. ⊥) z → Bars front_at (λ x. 4294967296 ≤ x) l
front_bar_open k x y b = step_bar (one_key DO) (λ q. front_kind) tt _ x (step_bar one_number front_open k _ y (step_refused (one_key OPEN) (λ q n i us. got k us) _ b))

pub front_took : (k : ℕ) {l m z w : Lexed} → Took (one_key DO) tt l m → Took one_number k m z → Took (one_key OPEN) tt z w → Took front_at k l w
front_took k x y z = step_took (one_key DO) (λ q. front_kind) tt k x (step_took one_number front_open k k y (step_took (one_key OPEN) (λ q n i us. got k us) tt k z (end_took k _)))

-- tries, pause
abbrev Bad : Times → Type 0
Bad x = times_ok x ≡ false

pub tries_bad : (t p : ℕ) → (t ≡ 0) ⊎ ((t ≡ 0 → ⊥) × (32 < t)) → times_ok (record { tries = t; pause = p }) ≡ false
tries_bad t p (inl h) = let e : ltb 0 t ≡ false = grind (arith, nat_tests) in rw e refl
tries_bad t p (inr h) = let e : leb t 32 ≡ false = not_le t 32 h.1 in cut (ltb 0 t) (leb t 32) _ e
  where
    not_le : (a b : ℕ) → b < a → leb a b ≡ false
    not_le a b h = grind (arith, nat_tests)

    cut : (x y z : Bool) → y ≡ false → (x && y) && z ≡ false
    cut true false z e = refl
    cut false false z e = refl
    cut x true z e = absurd (false≢true (sym e))

pub pause_bad : (t p : ℕ) → 86400000 < p → times_ok (record { tries = t; pause = p }) ≡ false
pause_bad t p h = let e : leb p 86400000 ≡ false = grind (arith, nat_tests) in cut (ltb 0 t && leb t 32) (leb p 86400000) e
  where
    cut : (x y : Bool) → y ≡ false → x && y ≡ false
    cut true false e = refl
    cut false false e = refl
    cut x true e = absurd (false≢true (sym e))

pub times_good : (t p : ℕ) → (t ≡ 0 → ⊥) → t ≤ 32 → p ≤ 86400000 → times_ok (record { tries = t; pause = p }) ≡ true
times_good t p a b c = let x : ltb 0 t ≡ true = positive t a in let y : leb t 32 ≡ true = grind (arith, nat_tests) in let z : leb p 86400000 ≡ true = grind (arith, nat_tests) in rw (x, y, z) refl
  where
    positive : (t : ℕ) → (t ≡ 0 → ⊥) → ltb 0 t ≡ true
    positive zero a = absurd (a refl)
    positive (suc t) a = grind (arith, nat_tests)

pub back_bar_tries : (t : ℕ) {l m z : Lexed} → Took (one_key TRIES) tt l m → Took one_number t m z → (t ≡ 0) ⊎ ((t ≡ 0 → ⊥) × (32 < t)) → Bars back_at Bad l
back_bar_tries t x y h = step_bar (one_key TRIES) (λ q. back_tries) tt Bad x (step_bar one_number back_then t Bad y (everywhere (back_then t) Bad (λ n i ts. only_behind Bad (one_key PAUSE n i ts) _ (λ q us. only_behind Bad (one_number n i us) _ (λ p vs. tries_bad t p h))) _))

pub back_bar_number : {l m : Lexed} → Took (one_key TRIES) tt l m → Bars one_number (λ _. ⊥) m → Bars back_at Bad l
back_bar_number x y = step_bar (one_key TRIES) (λ q. back_tries) tt Bad x (step_refused one_number back_then Bad y)

pub back_bar_then : (t : ℕ) {l m z : Lexed} → Took (one_key TRIES) tt l m → Took one_number t m z → Bars (one_key PAUSE) (λ _. ⊥) z → Bars back_at Bad l
back_bar_then t x y b = step_bar (one_key TRIES) (λ q. back_tries) tt Bad x (step_bar one_number back_then t Bad y (step_refused (one_key PAUSE) (λ q. back_pause t) Bad b))

pub back_bar_pause : (t : ℕ) {l m z w : Lexed} → Took (one_key TRIES) tt l m → Took one_number t m z → Took (one_key PAUSE) tt z w → Bars one_number (λ _. ⊥) w → Bars back_at Bad l
back_bar_pause t x y z b = step_bar (one_key TRIES) (λ q. back_tries) tt Bad x (step_bar one_number back_then t Bad y (step_bar (one_key PAUSE) (λ q. back_pause t) tt Bad z (step_refused one_number (λ p n i us. got (record { tries = t; pause = p }) us) Bad b)))

pub back_bar_long : (t p : ℕ) {l m z w v : Lexed} → Took (one_key TRIES) tt l m → Took one_number t m z → Took (one_key PAUSE) tt z w → Took one_number p w v → 86400000 < p → Bars back_at Bad l
back_bar_long t p x y z w h = step_bar (one_key TRIES) (λ q. back_tries) tt Bad x (step_bar one_number back_then t Bad y (step_bar (one_key PAUSE) (λ q. back_pause t) tt Bad z (step_bar one_number (λ p n i us. got (record { tries = t; pause = p }) us) p Bad w (everywhere _ Bad (λ n i ts. pause_bad t p h) _))))

pub back_took : (t p : ℕ) {l m z w v : Lexed} → Took (one_key TRIES) tt l m → Took one_number t m z → Took (one_key PAUSE) tt z w → Took one_number p w v → Took back_at (record { tries = t; pause = p }) l v
back_took t p x y z w = step_took (one_key TRIES) (λ q. back_tries) tt _ x (step_took one_number back_then t _ y (step_took (one_key PAUSE) (λ q. back_pause t) tt _ z (step_took one_number (λ p n i us. got (record { tries = t; pause = p }) us) p _ w (end_took _ _))))

-- arguments
pub args_close : (l m : Lexed) → l ≡ both (tokens (key CLOSE ∷ [])) m → Took args_at [] l m
unfolding args_s parser.closes after parser.code_of
args_close l m h = take_token args_at [] (key CLOSE) l m h (λ us n i. refl)

pub list_close : (l m : Lexed) → l ≡ both (tokens (key CLOSE ∷ [])) m → Took list_at [] l m
unfolding list_s parser.closes after parser.code_of
list_close l m h = take_token list_at [] (key CLOSE) l m h (λ us n i. refl)

abbrev Open : List token.Token → Type 0
Open ts = parser.closes ts ≡ false

pub still_open : (t : Token) (w : List ℕ) (l m : Lexed) → l ≡ both (means t w) m → (stops t ≡ true → m ≡ tokens []) → (t ≡ is.Key word.Close → ⊥) → (ts : List token.Token) → l ≡ tokens ts → parser.closes ts ≡ false
unfolding parser.closes parser.code_of
still_open (is.Number n) w l m h s e ts x = head_is Open (number n) l m ts h x (λ us. refl)
still_open (is.Variable n) w l m h s e ts x = head_is Open (variable n) l m ts h x (λ us. refl)
still_open is.Name w l m h s e ts x = head_is Open (name w) l m ts h x (λ us. refl)
still_open (is.Operator o) w l m h s e ts x = head_is Open (op (operator_meant o)) l m ts h x (λ us. refl)
still_open is.Stop w l m h s e ts x = none_is Open l m ts h (s refl) x refl
still_open is.Bad w l m h s e ts x = wrong_is l m ts h x
still_open (is.Key word.Set) w l m h s e ts x = head_is Open (key token.SET) l m ts h x (λ us. refl)
still_open (is.Key word.Do) w l m h s e ts x = head_is Open (key token.DO) l m ts h x (λ us. refl)
still_open (is.Key word.Tries) w l m h s e ts x = head_is Open (key token.TRIES) l m ts h x (λ us. refl)
still_open (is.Key word.Pause) w l m h s e ts x = head_is Open (key token.PAUSE) l m ts h x (λ us. refl)
still_open (is.Key word.Sleep) w l m h s e ts x = head_is Open (key token.SLEEP) l m ts h x (λ us. refl)
still_open (is.Key word.Hear) w l m h s e ts x = head_is Open (key token.HEAR) l m ts h x (λ us. refl)
still_open (is.Key word.For) w l m h s e ts x = head_is Open (key token.FOR) l m ts h x (λ us. refl)
still_open (is.Key word.If) w l m h s e ts x = head_is Open (key token.IF) l m ts h x (λ us. refl)
still_open (is.Key word.Else) w l m h s e ts x = head_is Open (key token.ELSE) l m ts h x (λ us. refl)
still_open (is.Key word.While) w l m h s e ts x = head_is Open (key token.WHILE) l m ts h x (λ us. refl)
still_open (is.Key word.Guard) w l m h s e ts x = head_is Open (key token.GUARD) l m ts h x (λ us. refl)
still_open (is.Key word.Return) w l m h s e ts x = head_is Open (key token.RETURN) l m ts h x (λ us. refl)
still_open (is.Key word.Fail) w l m h s e ts x = head_is Open (key token.FAIL) l m ts h x (λ us. refl)
still_open (is.Key word.Not) w l m h s e ts x = head_is Open (key token.NOT) l m ts h x (λ us. refl)
still_open (is.Key word.Open) w l m h s e ts x = head_is Open (key token.OPEN) l m ts h x (λ us. refl)
still_open (is.Key word.Close) w l m h s e ts x = absurd (e refl)
still_open (is.Key word.Begin) w l m h s e ts x = head_is Open (key token.BEGIN) l m ts h x (λ us. refl)
still_open (is.Key word.End) w l m h s e ts x = head_is Open (key token.END) l m ts h x (λ us. refl)
still_open (is.Key word.Comma) w l m h s e ts x = head_is Open (key token.COMMA) l m ts h x (λ us. refl)

key_less : (k : token.Key) (ts us : List token.Token) → after k ts (got (tt {0})) ≡ got tt us → length us < length ts
unfolding after
key_less k [] us h = let z : ◌≡◌ {A = ℕ} 0 1 = cc in absurd (omega arith)
key_less k (number n ∷ ts) us h = let z : ◌≡◌ {A = ℕ} 0 1 = cc in absurd (omega arith)
key_less k (variable n ∷ ts) us h = let z : ◌≡◌ {A = ℕ} 0 1 = cc in absurd (omega arith)
key_less k (name n ∷ ts) us h = let z : ◌≡◌ {A = ℕ} 0 1 = cc in absurd (omega arith)
key_less k (op n ∷ ts) us h = let z : ◌≡◌ {A = ℕ} 0 1 = cc in absurd (omega arith)
key_less k (key q ∷ ts) us h = go (eqb (parser.code_of k) (parser.code_of q)) h
  where
    go : (b : Bool) → cond b (got (tt {0}) ts) fails ≡ got tt us → length us < length (key q ∷ ts)
    go true h = let e : ts ≡ us = cc in subst (λ (x : List token.Token). length x < length (key q ∷ ts)) e (omega arith)
    go false h = let z : ◌≡◌ {A = ℕ} 0 1 = cc in absurd (omega arith)

-- behind a comma: an argument, and the others
arg_rest : ℕ → Expr → List token.Token → Got (List Expr)
arg_rest i e vs = and_then (args_s i vs) (λ es ws. got (e ∷ es) ws)

args_is : (i : ℕ) (ts : List token.Token) → parser.closes ts ≡ false → args_s (suc i) ts ≡ and_then (after COMMA ts (got (tt {0}))) (λ x us. and_then (expr_s us) (λ e vs. arg_rest i e vs))
unfolding args_s arg_rest
args_is i ts h = rw h (after_is COMMA ts _)

pub args_took : (e : Expr) (es : List Expr) {l m k z : Lexed} → ((ts : List token.Token) → l ≡ tokens ts → parser.closes ts ≡ false) → Took (one_key COMMA) tt l m → Took whole_expr e m k → Took args_at es k z → Took args_at (e ∷ es) l z
unfolding arg_rest
args_took e es go took.Took.lost took.Took.lost took.Took.lost = took.Took.lost
args_took e es go (found {ts} {us} le f) (found {us = vs} le2 g) (found {us = ws} le3 h) = found (omega arith) enough
  where
    enough : (n i : ℕ) → length ts ≤ n → length ts ≤ i → args_at n i ts ≡ got (e ∷ es) ws
    enough n zero j k = let q = key_less COMMA ts us (f n zero j k) in absurd (omega arith)
    enough n (suc i) j k =
        let q = key_less COMMA ts us (f n (suc i) j k) in
        args_is i ts (go ts refl) ∙ (and_at (after COMMA ts (got tt)) tt us _ (f n (suc i) j k) ∙ (and_at (expr_s us) e vs _ (g (length us) (length us) (le_refl _) (le_refl _)) ∙ and_at (args_s i vs) es ws _ (h (length vs) i (le_refl _) (omega arith))))

pub args_bar_comma : (Big : List Expr → Type 0) {l : Lexed} → ((ts : List token.Token) → l ≡ tokens ts → parser.closes ts ≡ false) → Bars (one_key COMMA) (λ _. ⊥) l → Bars args_at Big l
unfolding args_s
args_bar_comma Big go took.Bars.lost = took.Bars.lost
args_bar_comma Big go (bars {ts} g) = bars enough
  where
    enough : (n i : ℕ) → length ts ≤ n → length ts ≤ i → Only Big (args_at n i ts)
    enough n zero j k = tt
    enough n (suc i) j k = only_at_lem Big _ _ (args_is i ts (go ts refl)) (only_then (λ _. ⊥) Big (after COMMA ts (got tt)) _ (g n (suc i) j k) (λ x us q. absurd q))

-- whatever is behind a comma makes too many
pub args_bar_many : (room len count : ℕ) (l : Lexed) → ((ts : List token.Token) → l ≡ tokens ts → parser.closes ts ≡ false) → 16 ≤ count → Bars args_at (Many room len count) l
unfolding args_s arg_rest
args_bar_many room len count wrong go h = took.Bars.lost
args_bar_many room len count (tokens ts) go h = bars enough
  where
    enough : (n i : ℕ) → length ts ≤ n → length ts ≤ i → Only (Many room len count) (args_at n i ts)
    enough n zero j k = tt
    enough n (suc i) j k = only_at_lem _ _ _ (args_is i ts (go ts refl)) (only_behind _ (after COMMA ts (got tt)) _ (λ x us. only_behind _ (expr_s us) _ (λ e vs. only_behind _ (args_s i vs) _ (λ es ws. inr (omega arith)))))

sizes_more : (e : Expr) (es : List Expr) → sizes (e ∷ es) ≡ expr_size e + sizes es
unfolding sizes
sizes_more e es = refl

pub args_bar_expr : (room len count : ℕ) {l m : Lexed} → ((ts : List token.Token) → l ≡ tokens ts → parser.closes ts ≡ false) → Took (one_key COMMA) tt l m → Bars whole_expr (NoRoom room len) m → Bars args_at (Many room len count) l
unfolding args_s arg_rest
args_bar_expr room len count go took.Took.lost took.Bars.lost = took.Bars.lost
args_bar_expr room len count go (found {ts} {us} le f) (bars g) = bars enough
  where
    enough : (n i : ℕ) → length ts ≤ n → length ts ≤ i → Only (Many room len count) (args_at n i ts)
    enough n zero j k = tt
    enough n (suc i) j k =
        only_at_lem _ _ _ (args_is i ts (go ts refl) ∙ and_at (after COMMA ts (got tt)) tt us _ (f n (suc i) j k))
        (only_then (NoRoom room len) _ (expr_s us) _ (g (length us) (length us) (le_refl _) (le_refl _)) (λ e vs big. only_behind _ (args_s i vs) _ (λ es ws. inl (let q = sizes_more e es in omega arith))))

many_more : (room len at count : ℕ) (e : Expr) (es : List Expr) → at ≡ len + 4 * expr_size e → Many room at (count + 1) es → Many room len count (e ∷ es)
many_more room len at count e es is (inl h) = inl (let q = sizes_more e es in omega arith)
many_more room len at count e es is (inr h) = inr (omega arith)

pub args_bar_rest : (room len at count : ℕ) (e : Expr) {l m k : Lexed} → ((ts : List token.Token) → l ≡ tokens ts → parser.closes ts ≡ false) → at ≡ len + 4 * expr_size e → Took (one_key COMMA) tt l m → Took whole_expr e m k → Bars args_at (Many room at (count + 1)) k → Bars args_at (Many room len count) l
unfolding args_s arg_rest
args_bar_rest room len at count e go is took.Took.lost took.Took.lost took.Bars.lost = took.Bars.lost
args_bar_rest room len at count e go is (found {ts} {us} le f) (found {us = vs} le2 g) (bars h) = bars enough
  where
    enough : (n i : ℕ) → length ts ≤ n → length ts ≤ i → Only (Many room len count) (args_at n i ts)
    enough n zero j k = tt
    enough n (suc i) j k =
        let q = key_less COMMA ts us (f n (suc i) j k) in
        only_at_lem _ _ _ (args_is i ts (go ts refl) ∙ (and_at (after COMMA ts (got tt)) tt us _ (f n (suc i) j k) ∙ and_at (expr_s us) e vs _ (g (length us) (length us) (le_refl _) (le_refl _))))
        (only_then (Many room at (count + 1)) _ (args_s i vs) _ (h (length vs) i (le_refl _) (omega arith)) (λ es ws big. many_more room len at count e es is big))

list_is : (ts : List token.Token) → parser.closes ts ≡ false → list_s ts ≡ and_then (expr_s ts) (λ e us. arg_rest (length us) e us)
unfolding list_s arg_rest
list_is ts h = rw h refl

pub list_took : (e : Expr) (es : List Expr) {l m k : Lexed} → ((ts : List token.Token) → l ≡ tokens ts → parser.closes ts ≡ false) → Took whole_expr e l m → Took args_at es m k → Took list_at (e ∷ es) l k
unfolding arg_rest
list_took e es go took.Took.lost took.Took.lost = took.Took.lost
list_took e es go (found {ts} {us} le f) (found {us = vs} le2 g) = found (omega arith) (λ n i j k. list_is ts (go ts refl) ∙ (and_at (expr_s ts) e us _ (f n i j k) ∙ and_at (args_s (length us) us) es vs _ (g (length us) (length us) (le_refl _) (le_refl _))))

pub list_bar_expr : (room len : ℕ) {l : Lexed} → ((ts : List token.Token) → l ≡ tokens ts → parser.closes ts ≡ false) → Bars whole_expr (NoRoom room len) l → Bars list_at (Many room len 0) l
unfolding arg_rest
list_bar_expr room len go took.Bars.lost = took.Bars.lost
list_bar_expr room len go (bars {ts} g) = bars (λ n i j k. only_at_lem _ _ _ (list_is ts (go ts refl)) (only_then (NoRoom room len) _ (expr_s ts) _ (g n i j k) (λ e us big. only_behind _ (args_s (length us) us) _ (λ es vs. inl (let q = sizes_more e es in omega arith)))))

pub list_bar_rest : (room len at : ℕ) (e : Expr) {l m : Lexed} → ((ts : List token.Token) → l ≡ tokens ts → parser.closes ts ≡ false) → at ≡ len + 4 * expr_size e → Took whole_expr e l m → Bars args_at (Many room at 1) m → Bars list_at (Many room len 0) l
unfolding arg_rest
list_bar_rest room len at e go is took.Took.lost took.Bars.lost = took.Bars.lost
list_bar_rest room len at e go is (found {ts} {us} le f) (bars h) =
    bars (λ n i j k. only_at_lem _ _ _ (list_is ts (go ts refl) ∙ and_at (expr_s ts) e us _ (f n i j k)) (only_then (Many room at 1) _ (args_s (length us) us) _ (h (length us) (length us) (le_refl _) (le_refl _)) (λ es vs big. many_more room len at 0 e es is big)))

pub args_words : (ys xs zs : List ℕ) (n m o : ℕ) (e : Expr) (es : List Expr) → take n ys ≡ take m xs ++ code_of e → take o zs ≡ take n ys ++ codes_of es → take o zs ≡ take m xs ++ codes_of (e ∷ es)
unfolding codes_of
args_words ys xs zs n m o e es h k = k ∙ (ap (λ (l : List ℕ). l ++ codes_of es) h ∙ append_assoc (take m xs) (code_of e) (codes_of es))

pub no_args_words : (xs : List ℕ) (n : ℕ) → take n xs ≡ take n xs ++ codes_of []
unfolding codes_of
no_args_words xs n = sym (append-nil (take n xs))

-- a whole task
number_is : {A : Type 0} (ts : List token.Token) (f : ℕ → List token.Token → Got A) → with_number ts f ≡ and_then (with_number ts got) f
unfolding with_number and_then
number_is [] f = refl
number_is (number n ∷ ts) f = refl
number_is (variable n ∷ ts) f = refl
number_is (name n ∷ ts) f = refl
number_is (op n ∷ ts) f = refl
number_is (key n ∷ ts) f = refl

name_is : {A : Type 0} (ts : List token.Token) (f : Name → List token.Token → Got A) → with_name ts f ≡ and_then (with_name ts got) f
unfolding with_name and_then
name_is [] f = refl
name_is (number n ∷ ts) f = refl
name_is (variable n ∷ ts) f = refl
name_is (name n ∷ ts) f = refl
name_is (op n ∷ ts) f = refl
name_is (key n ∷ ts) f = refl

front_is : {A : Type 0} (n i : ℕ) (ts : List token.Token) (f : ℕ → List token.Token → Got A) → after DO ts (λ t1. with_number t1 (λ k t2. after OPEN t2 (λ t3. f k t3))) ≡ and_then (front_at n i ts) f
unfolding and_then
front_is n i ts f =
    after_is DO ts _ ∙ (and_cong (after DO ts (got tt)) _ _ (λ x us. number_is us _ ∙ (and_cong (with_number us got) _ _ (λ k vs. after_is OPEN vs _ ∙ (and_cong (after OPEN vs (got tt)) _ (λ y ws. and_then (got k ws) f) (λ y ws. refl) ∙ sym (and_assoc (after OPEN vs (got tt)) _ f))) ∙ sym (and_assoc (with_number us got) _ f))) ∙ sym (and_assoc (after DO ts (got tt)) _ f))

back_is : {A : Type 0} (n i : ℕ) (ts : List token.Token) (f : Times → List token.Token → Got A) → after TRIES ts (λ t5. with_number t5 (λ t t6. after PAUSE t6 (λ t7. with_number t7 (λ p t8. f (record { tries = t; pause = p }) t8)))) ≡ and_then (back_at n i ts) f
unfolding and_then
back_is n i ts f =
    after_is TRIES ts _ ∙ (and_cong (after TRIES ts (got tt)) _ _ (λ x us. number_is us _ ∙ (and_cong (with_number us got) _ _ (λ t vs. after_is PAUSE vs _ ∙
    (and_cong (after PAUSE vs (got tt)) _ _ (λ y ws. number_is ws _ ∙ (and_cong (with_number ws got) _ (λ p zs. and_then (got (record { tries = t; pause = p }) zs) f) (λ p zs. refl) ∙ sym (and_assoc (with_number ws got) _ f))) ∙ sym (and_assoc (after PAUSE vs (got tt)) _ f))) ∙ sym (and_assoc (with_number us got) _ f))) ∙ sym (and_assoc (after TRIES ts (got tt)) _ f))

pub task_is : (v n i : ℕ) (ts : List token.Token) → do_s v ts ≡ task_at v n i ts
unfolding do_s
task_is v n i ts = front_is n i ts _ ∙ and_cong (front_at n i ts) _ _ (λ k us. and_cong (list_s us) _ _ (λ es vs. back_is n i vs (λ x ws. if_ok (do_ok k es x.tries x.pause) (got (Do v k es x.tries x.pause) ws))))

record Fine (k : ℕ) (es : List Expr) (t p : ℕ) : Type 0 where
  kind : k < 4294967296
  few : length es ≤ 16
  times : times_ok (record { tries = t; pause = p }) ≡ true

and_first : (a b : Bool) → a && b ≡ true → a ≡ true
and_first true b h = refl
and_first false b h = h

and_second : (a b : Bool) → a && b ≡ true → b ≡ true
and_second true b h = h
and_second false b h = absurd (false≢true h)

and_both : (a b : Bool) → a ≡ true → b ≡ true → a && b ≡ true
and_both true true h k = refl
and_both true false h k = k
and_both false b h k = h

fine_of : (k : ℕ) (es : List Expr) (t p : ℕ) → do_ok k es t p ≡ true → Fine k es t p
fine_of k es t p h =
    let a = ltb k 4294967296 in
    let b = leb (length es) 16 in
    let c = ltb 0 t in
    let d = leb t 32 in
    let e = leb p 86400000 in
    let h1 = and_first (((a && b) && c) && d) e h in
    let he = and_second (((a && b) && c) && d) e h in
    let h2 = and_first ((a && b) && c) d h1 in
    let hd = and_second ((a && b) && c) d h1 in
    let h3 = and_first (a && b) c h2 in
    let hc = and_second (a && b) c h2 in
    let ha = and_first a b h3 in
    let hb = and_second a b h3 in
    record { kind = below_of_lem k ha; few = most_of (length es) hb; times = and_both (c && d) e (and_both c d hc hd) he }
  where
    below_of_lem : (k : ℕ) → ltb k 4294967296 ≡ true → k < 4294967296
    below_of_lem k h = grind (arith, nat_tests)

    most_of : (k : ℕ) → leb k 16 ≡ true → k ≤ 16
    most_of k h = grind (arith, nat_tests)

do_ok_lem : (k : ℕ) (es : List Expr) (t p : ℕ) → k < 4294967296 → length es ≤ 16 → times_ok (record { tries = t; pause = p }) ≡ true → do_ok k es t p ≡ true
do_ok_lem k es t p h f m =
    let a : ltb k 4294967296 ≡ true = grind (arith, nat_tests) in
    let b : leb (length es) 16 ≡ true = grind (arith, nat_tests) in
    let e = and_second (ltb 0 t && leb t 32) (leb p 86400000) m in
    let cd = and_first (ltb 0 t && leb t 32) (leb p 86400000) m in
    let c = and_first (ltb 0 t) (leb t 32) cd in
    let d = and_second (ltb 0 t) (leb t 32) cd in
    and_both _ (leb p 86400000) (and_both _ (leb t 32) (and_both _ (ltb 0 t) (and_both (ltb k 4294967296) (leb (length es) 16) a b) c) d) e

do_size : (v k : ℕ) (es : List Expr) (t p : ℕ) → stmt_size (Do v k es t p) ≡ 4 + sizes es
unfolding stmt_size
do_size v k es t p = refl

module _ (v : ℕ) (xs : List ℕ) (len room : ℕ) (fits : len ≤ length xs) where
  abbrev BigT : Stmt → Type 0
  BigT = Large stmt_size room (length (take len xs))

  pub task_bar_front : {l : Lexed} → Bars front_at (λ x. 4294967296 ≤ x) l → Bars (task_at v) BigT l
  task_bar_front x =
      step_bar_first front_at (task_kind v) _ BigT x
      (λ k big n i us. only_behind BigT (list_s us) _ (λ es vs. only_behind BigT (back_at n i vs) _ (λ x ws. only_if BigT (do_ok k es x.tries x.pause) _ (λ ok. let f = fine_of k es x.tries x.pause ok in absurd (omega (arith, f.kind))))))

  pub task_bar_room : (l : Lexed) → room < len + 16 → Bars (task_at v) BigT l
  task_bar_room l h =
      everywhere (task_at v) BigT
      (λ n i ts. only_behind BigT (front_at n i ts) _ (λ k us. only_behind BigT (list_s us) _ (λ es vs. only_behind BigT (back_at n i vs) _ (λ x ws. only_if BigT (do_ok k es x.tries x.pause) _ (λ ok. let p = length-take-le len xs fits in let q = do_size v k es x.tries x.pause in omega arith))))) l

  pub task_bar_args : (k : ℕ) {l m : Lexed} → Took front_at k l m → Bars list_at (Many room (length (take (len + 16) xs)) 0) m → Bars (task_at v) BigT l
  task_bar_args k x y =
      step_bar front_at (task_kind v) k BigT x (step_bar_first list_at (task_args v k) _ BigT y
      (λ es big n i us. only_behind BigT (back_at n i us) _ (λ x ws. only_if BigT (do_ok k es x.tries x.pause) _ (λ ok. large es x.tries x.pause big (fine_of k es x.tries x.pause ok)))))
    where
      large : (es : List Expr) (t p : ℕ) → Many room (length (take (len + 16) xs)) 0 es → Fine k es t p → BigT (Do v k es t p)
      large es t p (inl h) f = let a = length-take-le len xs fits in let b = short (len + 16) xs in let q = do_size v k es t p in omega arith
      large es t p (inr h) f = absurd (omega (arith, f.few))

  pub task_bar_back : (k : ℕ) (es : List Expr) {l m z : Lexed} → Took front_at k l m → Took list_at es m z → Bars back_at (λ x. times_ok x ≡ false) z → Bars (task_at v) BigT l
  task_bar_back k es x y z =
      step_bar front_at (task_kind v) k BigT x (step_bar list_at (task_args v k) es BigT y (step_bar_first back_at (task_done v k es) _ BigT z
      (λ x bad n i us. only_if BigT (do_ok k es x.tries x.pause) _ (λ ok. absurd (false≢true (sym bad ∙ (fine_of k es x.tries x.pause ok).times))))))

pub task_took : (v k : ℕ) (es : List Expr) (t p : ℕ) {l m z w : Lexed} → k < 4294967296 → length es ≤ 16 → times_ok (record { tries = t; pause = p }) ≡ true → Took front_at k l m → Took list_at es m z → Took back_at (record { tries = t; pause = p }) z w → Took (task_at v) (Do v k es t p) l w
unfolding if_ok
task_took v k es t p a b c x y z =
    step_took front_at (task_kind v) k _ x (step_took list_at (task_args v k) es _ y (step_took back_at (task_done v k es) (record { tries = t; pause = p }) _ z
    (rename (λ n i ts. got (Do v k es t p) ts) (task_done v k es (record { tries = t; pause = p })) _ _ (end_took (Do v k es t p) _) (λ ts us g n i j q. rw (do_ok_lem k es t p a b c) (g n i j q)))))

pub task_words_lem : (xs ys : List ℕ) (len m v k t p u : ℕ) (es : List Expr) → take m ys ≡ take (len + 16) xs ++ codes_of es → len + 16 ≤ m → m ≤ length xs → length ys ≡ length xs → u ≡ (m - len) / 4 → (count : ℕ) → count ≡ length es →
    take m (put4 (put4 (put4 (put4 ys (len + 12) 0 0 0 0) (len + 8) 0 0 0 0) (len + 4) k t p count) len 2 v u 0) ≡ take len xs ++ draft_stmt (Do v k es t p)
unfolding draft_stmt stmt_size
task_words_lem xs ys len m v k t p u es h le lim same is count ic =
    let l1 : length (put4 ys (len + 12) 0 0 0 0) ≡ length xs = four_length ys (len + 12) 0 0 0 0 ∙ same in
    let l2 : length (put4 (put4 ys (len + 12) 0 0 0 0) (len + 8) 0 0 0 0) ≡ length xs = four_length _ (len + 8) 0 0 0 0 ∙ l1 in
    let l3 : length (put4 (put4 (put4 ys (len + 12) 0 0 0 0) (len + 8) 0 0 0 0) (len + 4) k t p count) ≡ length xs = four_length _ (len + 4) k t p count ∙ l2 in
    let e12 : len + 12 + 4 ≡ len + 16 = omega arith in
    let e8 : len + 8 + 4 ≡ len + 12 = omega arith in
    let e4 : len + 4 + 4 ≡ len + 8 = omega arith in
    let ws1 : take m (put4 ys (len + 12) 0 0 0 0) ≡ take (len + 12) xs ++ (0 ∷ 0 ∷ 0 ∷ 0 ∷ codes_of es) = head_words xs ys (codes_of es) (len + 12) m 0 0 0 0 (h ∙ ap (λ (x : ℕ). take x xs ++ codes_of es) (sym e12)) (omega arith) same (omega arith) in
    let ws2 : take m (put4 (put4 ys (len + 12) 0 0 0 0) (len + 8) 0 0 0 0) ≡ take (len + 8) xs ++ (0 ∷ 0 ∷ 0 ∷ 0 ∷ 0 ∷ 0 ∷ 0 ∷ 0 ∷ codes_of es) = head_words xs _ _ (len + 8) m 0 0 0 0 (ws1 ∙ ap (λ (x : ℕ). take x xs ++ (0 ∷ 0 ∷ 0 ∷ 0 ∷ codes_of es)) (sym e8)) (omega arith) l1 (omega arith) in
    let ws3 = head_words xs _ _ (len + 4) m k t p count (ws2 ∙ ap (λ (x : ℕ). take x xs ++ (0 ∷ 0 ∷ 0 ∷ 0 ∷ 0 ∷ 0 ∷ 0 ∷ 0 ∷ codes_of es)) (sym e4)) (omega arith) l2 (omega arith) in
    let lt = length-take-le (len + 16) xs (omega arith) in
    let lm = long codes_of sizes codes_length ys (take (len + 16) xs) es m h (omega arith) in
    let eu : u ≡ 4 + sizes es = is ∙ units_are m len _ (omega arith) in
    head_words xs _ _ len m 2 v u 0 ws3 (omega arith) l3 (omega arith) ∙ (rw (eu, ic) refl)

-- hearing
abbrev Same : ℕ → Heard → Type 0
Same v h = h.other ≡ v

abbrev heard_end : ℕ → Name → Unit {0} → Family Heard
heard_end w m x n i us = got (record { other = w; name = m }) us

pub heard_bar_same : (v w : ℕ) {l m : Lexed} → Took one_variable w l m → w ≡ v → Bars heard_at (Same v) l
heard_bar_same v w x h =
    step_bar one_variable heard_same w (Same v) x (everywhere (heard_same w) (Same v)
    (λ n i ts. only_behind (Same v) (one_same n i ts) _ (λ a us. only_behind (Same v) (one_key HEAR n i us) _ (λ b vs. only_behind (Same v) (one_name n i vs) _ (λ c ws. only_behind (Same v) (one_key FOR n i ws) _ (λ d zs. h))))) _)

pub heard_bar_sign : (v w : ℕ) {l m : Lexed} → Took one_variable w l m → Bars one_same (λ _. ⊥) m → Bars heard_at (Same v) l
heard_bar_sign v w x b = step_bar one_variable heard_same w (Same v) x (step_refused one_same (λ z. heard_hear w) (Same v) b)

pub heard_bar_word : (v w : ℕ) {l m k : Lexed} → Took one_variable w l m → Took one_same tt m k → Bars (one_key HEAR) (λ _. ⊥) k → Bars heard_at (Same v) l
heard_bar_word v w x y b = step_bar one_variable heard_same w (Same v) x (step_bar one_same (λ z. heard_hear w) tt (Same v) y (step_refused (one_key HEAR) (λ z. heard_name w) (Same v) b))

pub heard_bar_name : (v w : ℕ) {l m k z : Lexed} → Took one_variable w l m → Took one_same tt m k → Took (one_key HEAR) tt k z → Bars one_name (λ _. ⊥) z → Bars heard_at (Same v) l
heard_bar_name v w x y z b = step_bar one_variable heard_same w (Same v) x (step_bar one_same (λ z. heard_hear w) tt (Same v) y (step_bar (one_key HEAR) (λ z. heard_name w) tt (Same v) z (step_refused one_name (heard_for w) (Same v) b)))

pub heard_bar_for : (v w : ℕ) (a : Name) {l m k z q : Lexed} → Took one_variable w l m → Took one_same tt m k → Took (one_key HEAR) tt k z → Took one_name a z q → Bars (one_key FOR) (λ _. ⊥) q → Bars heard_at (Same v) l
heard_bar_for v w a x y z q b = step_bar one_variable heard_same w (Same v) x (step_bar one_same (λ z. heard_hear w) tt (Same v) y (step_bar (one_key HEAR) (λ z. heard_name w) tt (Same v) z (step_bar one_name (heard_for w) a (Same v) q (step_refused (one_key FOR) (heard_end w a) (Same v) b))))

pub heard_took : (w : ℕ) (a : Name) {l m k z q r : Lexed} → Took one_variable w l m → Took one_same tt m k → Took (one_key HEAR) tt k z → Took one_name a z q → Took (one_key FOR) tt q r → Took heard_at (record { other = w; name = a }) l r
heard_took w a x y z q r = step_took one_variable heard_same w _ x (step_took one_same (λ z. heard_hear w) tt _ y (step_took (one_key HEAR) (λ z. heard_name w) tt _ z (step_took one_name (heard_for w) a _ q (step_took (one_key FOR) (heard_end w a) tt _ r (end_took _ _)))))

heard_is : {A : Type 0} (n i : ℕ) (ts : List token.Token) (f : Heard → List token.Token → Got A) →
    with_variable ts (λ w t1. after_same t1 (λ t2. after HEAR t2 (λ t3. with_name t3 (λ m t4. after FOR t4 (λ t5. f (record { other = w; name = m }) t5))))) ≡ and_then (heard_at n i ts) f
unfolding and_then
heard_is n i ts f =
    variable_is ts _ ∙ (and_cong (with_variable ts got) _ _ (λ w us. same_is us _ ∙ (and_cong (after_same us (got tt)) _ _ (λ a vs. after_is HEAR vs _ ∙ (and_cong (after HEAR vs (got tt)) _ _ (λ b ws. name_is ws _ ∙
    (and_cong (with_name ws got) _ _ (λ m zs. after_is FOR zs _ ∙ (and_cong (after FOR zs (got tt)) _ (λ c ys. and_then (got (record { other = w; name = m }) ys) f) (λ c ys. refl) ∙ sym (and_assoc (after FOR zs (got tt)) _ f))) ∙ sym (and_assoc (with_name ws got) _ f))) ∙ sym (and_assoc (after HEAR vs (got tt)) _ f))) ∙ sym (and_assoc (after_same us (got tt)) _ f))) ∙ sym (and_assoc (with_variable ts got) _ f))

pub hear_is : (v n i : ℕ) (ts : List token.Token) → hear_s v ts ≡ hear_at v n i ts
unfolding hear_s
hear_is v n i ts = heard_is n i ts (λ h us. hear_for v h n i us)

same_not : (v w : ℕ) → w ≡ v → not (eqb v w) ≡ true → ⊥
same_not v w e h = let a : eqb v w ≡ true = grind (arith, nat_tests) in false≢true (sym (ap not a) ∙ h)

other_ok : (v w : ℕ) → (w ≡ v → ⊥) → not (eqb v w) ≡ true
other_ok v w f = go (eqb v w) refl
  where
    go : (b : Bool) → eqb v w ≡ b → not b ≡ true
    go true e = absurd (f (let q : v ≡ w = grind (arith, nat_tests) in sym q))
    go false e = refl

hear_size : (v w : ℕ) (m : Name) (e : Expr) → stmt_size (Hear v w m e) ≡ 17 + expr_size e
unfolding stmt_size
hear_size v w m e = refl

module _ (v : ℕ) (xs : List ℕ) (len room : ℕ) (fits : len ≤ length xs) where
  abbrev BigH : Stmt → Type 0
  BigH = Large stmt_size room (length (take len xs))

  pub hear_bar_front : {l : Lexed} → Bars heard_at (Same v) l → Bars (hear_at v) BigH l
  hear_bar_front x = step_bar_first heard_at (hear_for v) _ BigH x (λ h big n i us. only_behind BigH (expr_s us) _ (λ e vs. only_if BigH (not (eqb v h.other)) _ (λ ok. absurd (same_not v h.other big ok))))

  pub hear_bar_room : (l : Lexed) → room < len + 68 → Bars (hear_at v) BigH l
  hear_bar_room l k =
      everywhere (hear_at v) BigH (λ n i ts. only_behind BigH (heard_at n i ts) _ (λ h us. only_behind BigH (expr_s us) _ (λ e vs. only_if BigH (not (eqb v h.other)) _ (λ ok. let p = length-take-le len xs fits in let q = hear_size v h.other h.name e in omega arith)))) l

  pub hear_bar_expr : (h : Heard) {l m : Lexed} → Took heard_at h l m → Bars whole_expr (NoRoom room (length (take (len + 68) xs))) m → Bars (hear_at v) BigH l
  hear_bar_expr h x y =
      step_bar heard_at (hear_for v) h BigH x (step_bar_first whole_expr (hear_done v h) _ BigH y (λ e big n i us. only_if BigH (not (eqb v h.other)) _ (λ ok. let p = length-take-le len xs fits in let b = short (len + 68) xs in let q = hear_size v h.other h.name e in omega arith)))

pub hear_took : (v : ℕ) (h : Heard) (e : Expr) {l m k : Lexed} → (h.other ≡ v → ⊥) → Took heard_at h l m → Took whole_expr e m k → Took (hear_at v) (Hear v h.other h.name e) l k
unfolding if_ok
hear_took v h e ne x y =
    step_took heard_at (hear_for v) h _ x (step_took whole_expr (hear_done v h) e _ y (rename (λ n i ts. got (Hear v h.other h.name e) ts) (hear_done v h e) _ _ (end_took (Hear v h.other h.name e) _) (λ ts us g n i j q. rw (other_ok v h.other ne) (g n i j q))))

-- a name among the words
pub named_words : (xs ys body : List ℕ) (n : Name) (len m : ℕ) → take m ys ≡ take (len + 68) xs ++ body → len + 68 ≤ m → m ≤ length xs → length ys ≡ length xs → (take m (named ys (len + 4) n) ≡ take (len + 4) xs ++ (padded n ++ body)) × (length (named ys (len + 4) n) ≡ length xs)
named_words xs ys body n len m h le lim same =
    let lp = padded_length n in
    let l4 : length (take (len + 4) ys) ≡ len + 4 = length-take-le (len + 4) ys (omega arith) in
    let e68 : len + 4 + 64 ≡ len + 68 = omega arith in
    let l68 : length (take (len + 68) xs) ≡ len + 68 = length-take-le (len + 68) xs (omega arith) in
    let f1 : take (len + 4) ys ≡ take (len + 4) xs = sym (take-take (len + 4) m ys (omega arith)) ∙ (ap (take (len + 4)) h ∙ (take-append-le (len + 4) (take (len + 68) xs) body (omega arith) ∙ take-take (len + 4) (len + 68) xs (omega arith))) in
    let k = m - (len + 68) in
    let ek : len + 68 + k ≡ m = omega arith in
    let b1 : take k (drop (len + 68) ys) ≡ body = sym (drop-take (len + 68) k ys) ∙ (ap (λ (q : ℕ). drop (len + 68) (take q ys)) ek ∙ (ap (drop (len + 68)) h ∙ drop_at (take (len + 68) xs) body (len + 68) l68)) in
    let pre = take (len + 4) ys ++ padded n in
    let lpre : length pre ≡ len + 68 = length-append (take (len + 4) ys) (padded n) ∙ omega arith in
    let em : length pre + k ≡ m = omega arith in
    let t1 : take m (pre ++ drop (len + 68) ys) ≡ pre ++ take k (drop (len + 68) ys) = subst (λ (q : ℕ). take q (pre ++ drop (len + 68) ys) ≡ pre ++ take k (drop (len + 68) ys)) em (take-append-add pre (drop (len + 68) ys) k) in
    let nm : named ys (len + 4) n ≡ pre ++ drop (len + 68) ys = ap (λ (q : ℕ). take (len + 4) ys ++ (padded n ++ drop q ys)) e68 ∙ sym (append_assoc (take (len + 4) ys) (padded n) (drop (len + 68) ys)) in
    let ld = length-drop (len + 68) ys in
    let la = length-append pre (drop (len + 68) ys) in
    (ap (take m) nm ∙ (t1 ∙ (ap (λ (q : List ℕ). pre ++ q) b1 ∙ (append_assoc (take (len + 4) ys) (padded n) body ∙ ap (λ (q : List ℕ). q ++ (padded n ++ body)) f1))), ap length nm ∙ (la ∙ omega arith))

pub hear_words : (xs ys : List ℕ) (len m v w u : ℕ) (n : Name) (e : Expr) → take m ys ≡ take (len + 68) xs ++ code_of e → len + 68 ≤ m → m ≤ length xs → length ys ≡ length xs → u ≡ (m - len) / 4 → take m (put4 (named ys (len + 4) n) len 4 v u w) ≡ take len xs ++ draft_stmt (Hear v w n e)
unfolding draft_stmt stmt_size
hear_words xs ys len m v w u n e h le lim same is =
    let q = named_words xs ys (code_of e) n len m h le lim same in
    let l68 = length-take-le (len + 68) xs (omega arith) in
    let lm = long code_of expr_size code_length ys (take (len + 68) xs) e m h (omega arith) in
    let eu : u ≡ 17 + expr_size e = is ∙ units_are m len _ (omega arith) in
    head_words xs (named ys (len + 4) n) (padded n ++ code_of e) len m 4 v u w q.0 (omega arith) q.1 (omega arith) ∙ (rw eu refl)

-- writing a name, letter by letter
name_letter : (n : Name) (i : ℕ) → i < 64 → i < length n → get_or (padded n) i 0 ≡ get_or n i 0
unfolding padded
name_letter n i h k = get_or-take 64 (n ++ replicate 64 0) i 0 h ∙ get_or_append_left n (replicate 64 0) 0 i k

name_zero : (n : Name) (i : ℕ) → i < 64 → length n ≤ i → get_or (padded n) i 0 ≡ 0
unfolding padded
name_zero n i h k = get_or-take 64 (n ++ replicate 64 0) i 0 h ∙ (get_or-append_right n (replicate 64 0) (length n) i 0 refl k ∙ get_or-replicate 64 (i - length n) 0 0 (omega arith))

pub name_at : (n : Name) (i : ℕ) → i < 64 → get_or n i 0 ≡ get_or (padded n) i 0
name_at n i h = go (ltb i (length n)) refl
  where
    go : (b : Bool) → ltb i (length n) ≡ b → get_or n i 0 ≡ get_or (padded n) i 0
    go true e = sym (name_letter n i h (ltb-true i (length n) e))
    go false e = let past : length n ≤ i = grind (arith, nat_tests) in get_or_past n i 0 past ∙ sym (name_zero n i h past)

pub name_turn : (xs ps : List ℕ) (at i x : ℕ) → at + i < length xs → i < length ps → x ≡ get_or ps i 0 → set (take at xs ++ (take i ps ++ drop (at + i) xs)) (at + i) x ≡ take at xs ++ (take (i + 1) ps ++ drop (at + (i + 1)) xs)
name_turn xs ps at i x h k e =
    let pre = take at xs ++ take i ps in
    let la = length-take-le at xs (omega arith) in
    let li = length-take-le i ps (omega arith) in
    let lp : length pre ≡ at + i = length-append (take at xs) (take i ps) ∙ omega arith in
    let d : drop (at + i) xs ≡ get_or xs (at + i) 0 ∷ drop (at + i + 1) xs = drop_more xs (at + i) 0 h in
    let ea : at + i + 1 ≡ at + (i + 1) = omega arith in
    ap (λ (l : List ℕ). set l (at + i) x) (sym (append_assoc (take at xs) (take i ps) (drop (at + i) xs)) ∙ ap (λ (l : List ℕ). pre ++ l) d) ∙
    (set_at pre (get_or xs (at + i) 0) (drop (at + i + 1) xs) x (at + i) lp ∙
    (append_assoc (take at xs) (take i ps) (x ∷ drop (at + i + 1) xs) ∙ ap (λ (l : List ℕ). take at xs ++ l)
    (sym (append_assoc (take i ps) (x ∷ []) (drop (at + i + 1) xs)) ∙ (ap (λ (l : List ℕ). l ++ drop (at + i + 1) xs) (ap (λ (y : ℕ). take i ps ++ (y ∷ [])) e ∙ sym (take_more ps i 0 k)) ∙ ap (λ (q : ℕ). take (i + 1) ps ++ drop q xs) ea))))

-- behind a variable: = goes before a comma
assign_same : (v n i : ℕ) (ts us : List token.Token) → after_same ts (got (tt {0})) ≡ got tt us → assign_s v ts ≡ task_at v n i us
unfolding assign_s after_same
assign_same v n i [] us h = let z : ◌≡◌ {A = ℕ} 0 1 = cc in absurd (omega arith)
assign_same v n i (number x ∷ ts) us h = let z : ◌≡◌ {A = ℕ} 0 1 = cc in absurd (omega arith)
assign_same v n i (variable x ∷ ts) us h = let z : ◌≡◌ {A = ℕ} 0 1 = cc in absurd (omega arith)
assign_same v n i (name x ∷ ts) us h = let z : ◌≡◌ {A = ℕ} 0 1 = cc in absurd (omega arith)
assign_same v n i (op token.PLUS ∷ ts) us h = let z : ◌≡◌ {A = ℕ} 0 1 = cc in absurd (omega arith)
assign_same v n i (op token.MINUS ∷ ts) us h = let z : ◌≡◌ {A = ℕ} 0 1 = cc in absurd (omega arith)
assign_same v n i (op token.TIMES ∷ ts) us h = let z : ◌≡◌ {A = ℕ} 0 1 = cc in absurd (omega arith)
assign_same v n i (op token.LESS ∷ ts) us h = let z : ◌≡◌ {A = ℕ} 0 1 = cc in absurd (omega arith)
assign_same v n i (op token.SAME ∷ ts) us h = let e : ts ≡ us = cc in task_is v n i ts ∙ ap (λ (x : List token.Token). task_at v n i x) e
assign_same v n i (key x ∷ ts) us h = let z : ◌≡◌ {A = ℕ} 0 1 = cc in absurd (omega arith)

assign_comma : (v n i : ℕ) (ts us : List token.Token) → after COMMA ts (got (tt {0})) ≡ got tt us → assign_s v ts ≡ hear_at v n i us
unfolding assign_s after
assign_comma v n i [] us h = let z : ◌≡◌ {A = ℕ} 0 1 = cc in absurd (omega arith)
assign_comma v n i (number x ∷ ts) us h = let z : ◌≡◌ {A = ℕ} 0 1 = cc in absurd (omega arith)
assign_comma v n i (variable x ∷ ts) us h = let z : ◌≡◌ {A = ℕ} 0 1 = cc in absurd (omega arith)
assign_comma v n i (name x ∷ ts) us h = let z : ◌≡◌ {A = ℕ} 0 1 = cc in absurd (omega arith)
assign_comma v n i (op x ∷ ts) us h = let z : ◌≡◌ {A = ℕ} 0 1 = cc in absurd (omega arith)
assign_comma v n i (key x ∷ ts) us h = go (eqb (parser.code_of COMMA) (parser.code_of x)) h
  where
    go : (b : Bool) → cond b (got (tt {0}) ts) fails ≡ got tt us → cond b (hear_s v ts) fails ≡ hear_at v n i us
    go true h = let e : ts ≡ us = cc in hear_is v n i ts ∙ ap (λ (y : List token.Token). hear_at v n i y) e
    go false h = let z : ◌≡◌ {A = ℕ} 0 1 = cc in absurd (omega arith)

assign_none : (v : ℕ) (Big : Stmt → Type 0) (ts : List token.Token) → Only (λ (x : Unit {0}). ⊥) (after_same ts (got tt)) → Only (λ (x : Unit {0}). ⊥) (after COMMA ts (got tt)) → Only Big (assign_s v ts)
unfolding assign_s after_same after
assign_none v Big [] h k = tt
assign_none v Big (number x ∷ ts) h k = tt
assign_none v Big (variable x ∷ ts) h k = tt
assign_none v Big (name x ∷ ts) h k = tt
assign_none v Big (op token.PLUS ∷ ts) h k = tt
assign_none v Big (op token.MINUS ∷ ts) h k = tt
assign_none v Big (op token.TIMES ∷ ts) h k = tt
assign_none v Big (op token.LESS ∷ ts) h k = tt
assign_none v Big (op token.SAME ∷ ts) h k = absurd h
assign_none v Big (key x ∷ ts) h k = go (eqb (parser.code_of COMMA) (parser.code_of x)) k
  where
    go : (b : Bool) → Only (λ (x : Unit {0}). ⊥) (cond b (got tt ts) fails) → Only Big (cond b (hear_s v ts) fails)
    go true k = absurd k
    go false k = tt

pub no_assignment : (v : ℕ) (Big : Stmt → Type 0) {l : Lexed} → Bars one_same (λ _. ⊥) l → Bars (one_key COMMA) (λ _. ⊥) l → Bars (assign_at v) Big l
no_assignment v Big took.Bars.lost took.Bars.lost = took.Bars.lost
no_assignment v Big (bars {ts} g) (bars h) = bars (λ n i j k. assign_none v Big ts (g n i j k) (h n i j k))

behind_took : {A : Type 0} (q : Family (Unit {0})) (p : Family A) (r : Family A) (a : A) {l m k : Lexed} → ((n i : ℕ) (ts us : List token.Token) → q n i ts ≡ got tt us → r n i ts ≡ p n i us) → Took q tt l m → Took p a m k → Took r a l k
behind_took q p r a f took.Took.lost took.Took.lost = took.Took.lost
behind_took q p r a f (found {ts} {us} le g) (found {us = vs} le2 h) = found (omega arith) (λ n i j k. f n i ts us (g n i j k) ∙ h n i (le_trans le j) (le_trans le k))

behind_bar : {A : Type 0} (q : Family (Unit {0})) (p : Family A) (r : Family A) (Big : A → Type 0) {l m : Lexed} → ((n i : ℕ) (ts us : List token.Token) → q n i ts ≡ got tt us → r n i ts ≡ p n i us) → Took q tt l m → Bars p Big m → Bars r Big l
behind_bar q p r Big f took.Took.lost took.Bars.lost = took.Bars.lost
behind_bar q p r Big f (found {ts} {us} le g) (bars h) = bars (λ n i j k. only_at_lem Big _ _ (f n i ts us (g n i j k)) (h n i (le_trans le j) (le_trans le k)))

pub by_same : (v : ℕ) (r : Result Cursor NoPlan) (l m : Lexed) (text pre ys : List ℕ) → Took one_same tt l m → ReadStmt r (task_at v) m text pre ys → ReadStmt r (assign_at v) l text pre ys
by_same v (Ok c) l m text pre ys x h = record { item = h.item; took = behind_took one_same (task_at v) (assign_at v) h.item (assign_same v) x h.took; words = h.words }
by_same v (Err e) l m text pre ys x h = behind_bar one_same (task_at v) (assign_at v) _ (assign_same v) x h

pub by_comma : (v : ℕ) (r : Result Cursor NoPlan) (l m : Lexed) (text pre ys : List ℕ) → Took (one_key COMMA) tt l m → ReadStmt r (hear_at v) m text pre ys → ReadStmt r (assign_at v) l text pre ys
by_comma v (Ok c) l m text pre ys x h = record { item = h.item; took = behind_took (one_key COMMA) (hear_at v) (assign_at v) h.item (assign_comma v) x h.took; words = h.words }
by_comma v (Err e) l m text pre ys x h = behind_bar (one_key COMMA) (hear_at v) (assign_at v) _ (assign_comma v) x h

-- from the code's answers on arguments
pub args_read : (r : Result Args NoPlan) (p q : Family (List Expr)) (e : Expr) (l m : Lexed) (text xs ys zs : List ℕ) (len n count : ℕ) → len ≤ length xs → n ≤ length ys → length ys ≡ length xs → length zs ≡ length ys → take n ys ≡ take len xs ++ code_of e →
    ((es : List Expr) (k : Lexed) → Took p es m k → Took q (e ∷ es) l k) → ((at : ℕ) → at ≡ length (take len xs) + 4 * expr_size e → Bars p (Many (length zs) at (count + 1)) m → Bars q (Many (length zs) (length (take len xs)) count) l) →
    ReadArgs r p m text (take n ys) (count + 1) zs → ReadArgs r q l text (take len xs) count zs
args_read (Ok a) p q e l m text xs ys zs len n count fits lim same same2 w f g h =
    record { items = e ∷ h.items; took = f h.items _ h.took; words = args_words ys xs zs n len a.at.len e h.items w h.words; counted = h.counted ∙ omega arith; few = h.few }
args_read (Err x) p q e l m text xs ys zs len n count fits lim same same2 w f g h = g (length (take n ys)) (length-take-le n ys lim ∙ long code_of expr_size code_length ys (take len xs) e n w lim) h

pub args_on : (r : Result Args NoPlan) (next len n m bytes room all : ℕ) → n ≤ next → m ≤ len → room ≡ all → ArgsOn r next len bytes room → ArgsOn r n m bytes all
args_on (Ok a) next len n m bytes room all p q e h = (omega (arith, h.0), h.1, omega (arith, h.2), omega (arith, h.3))
args_on (Err x) next len n m bytes room all p q e h = tt
