-- What the reader reads is in the grammar: expressions. Assumes nothing.
use Rattle.std.proofs.Common.{◌≡◌, ℕ, zero, suc, Bool, true, false, cond, eqb, List, [], ◌∷◌, length, sym, refl, ap, ◌∙◌, subst, arith}
use Rattle.std.proofs.lemmas.Bool.Decides.{nat_tests}
use Rattle.plans.specs.Plan.{Name, Expr, Plus, Minus, Times, Less, Same}
use Rattle.text.specs.Token.{Key, SET, DO, TRIES, PAUSE, SLEEP, HEAR, FOR, IF, ELSE, WHILE, GUARD, RETURN, FAIL, NOT, OPEN, CLOSE, BEGIN, END, COMMA, PLUS, MINUS, TIMES, LESS, SAME, Token, number, variable, name, op, key, Got, fails, got}
use Rattle.text.specs.Grammar.{unary, product, sum, compare, Reads, literal, var, negation, bracket, factor, times, term, plus, minus, side, less, same, IsExpr}
use Rattle.text.specs.Parser.{and_then, Parser, Join, joins, ends, on_join, product_op, sum_op, compare_op, more_s, chain_s, code_of, after, after_same, with_number, with_variable, with_name, if_ok, levels, in_bracket, by_word, unary_s, expr_s}

-- if something was read, it is as Q says
abbrev pub Holds : {A : Type 0} → (A → List Token → Type 0) → Got A → Type 0
Holds Q fails = Unit {0}
Holds Q (got a us) = Q a us

pub holds_got : {A : Type 0} (Q : A → List Token → Type 0) (g : Got A) (a : A) (us : List Token) → Holds Q g → g ≡ got a us → Q a us
holds_got Q g a us h e = subst (λ x. Holds Q x) e h

pub holds_and : {A B : Type 0} (P : A → List Token → Type 0) (Q : B → List Token → Type 0) (g : Got A) (f : A → List Token → Got B) →
    Holds P g → ((a : A) (us : List Token) → P a us → Holds Q (f a us)) → Holds Q (and_then g f)
unfolding and_then
holds_and P Q fails f h k = tt
holds_and P Q (got a us) f h k = k a us h

-- from a key's number to the key
unfoldable pub key_at : ℕ → Key
key_at n = cond (eqb n 0) SET (cond (eqb n 1) DO (cond (eqb n 2) TRIES (cond (eqb n 3) PAUSE (cond (eqb n 4) SLEEP (cond (eqb n 5) HEAR (cond (eqb n 6) FOR (cond (eqb n 7) IF (cond (eqb n 8) ELSE (cond (eqb n 9) WHILE
    (cond (eqb n 10) GUARD (cond (eqb n 11) RETURN (cond (eqb n 12) FAIL (cond (eqb n 13) NOT (cond (eqb n 14) OPEN (cond (eqb n 15) CLOSE (cond (eqb n 16) BEGIN (cond (eqb n 17) END COMMA)))))))))))))))))

pub key_at_code : (k : Key) → key_at (code_of k) ≡ k
unfolding key_at code_of
key_at_code SET = refl
key_at_code DO = refl
key_at_code TRIES = refl
key_at_code PAUSE = refl
key_at_code SLEEP = refl
key_at_code HEAR = refl
key_at_code FOR = refl
key_at_code IF = refl
key_at_code ELSE = refl
key_at_code WHILE = refl
key_at_code GUARD = refl
key_at_code RETURN = refl
key_at_code FAIL = refl
key_at_code NOT = refl
key_at_code OPEN = refl
key_at_code CLOSE = refl
key_at_code BEGIN = refl
key_at_code END = refl
key_at_code COMMA = refl

pub same_key : (k l : Key) → eqb (code_of k) (code_of l) ≡ true → k ≡ l
same_key k l h = let e : code_of k ≡ code_of l = grind (arith, nat_tests) in sym (key_at_code k) ∙ (ap key_at e ∙ key_at_code l)

pub eqb_same : (n : ℕ) → eqb n n ≡ true
eqb_same n = grind (arith, nat_tests)

pub holds_after : {A : Type 0} (R : List Token → Type 0) (Q : List Token → A → List Token → Type 0) (k : Key) (ts : List Token) (f : List Token → Got A) → R ts →
    ((us : List Token) → R (key k ∷ us) → Holds (Q (key k ∷ us)) (f us)) → Holds (Q ts) (after k ts f)
unfolding after
holds_after R Q k [] f r h = tt
holds_after R Q k (number n ∷ ts) f r h = tt
holds_after R Q k (variable n ∷ ts) f r h = tt
holds_after R Q k (name n ∷ ts) f r h = tt
holds_after R Q k (op n ∷ ts) f r h = tt
holds_after R Q k (key l ∷ ts) f r h = go (eqb (code_of k) (code_of l)) refl
  where
    go : (b : Bool) → eqb (code_of k) (code_of l) ≡ b → Holds (Q (key l ∷ ts)) (cond b (f ts) fails)
    go true e = subst (λ x. R (key x ∷ ts) → Holds (Q (key x ∷ ts)) (f ts)) (same_key k l e) (h ts) r
    go false e = tt

pub holds_same : {A : Type 0} (Q : List Token → A → List Token → Type 0) (ts : List Token) (f : List Token → Got A) →
    ((us : List Token) → Holds (Q (op SAME ∷ us)) (f us)) → Holds (Q ts) (after_same ts f)
unfolding after_same
holds_same Q [] f h = tt
holds_same Q (number n ∷ ts) f h = tt
holds_same Q (variable n ∷ ts) f h = tt
holds_same Q (name n ∷ ts) f h = tt
holds_same Q (op PLUS ∷ ts) f h = tt
holds_same Q (op MINUS ∷ ts) f h = tt
holds_same Q (op TIMES ∷ ts) f h = tt
holds_same Q (op LESS ∷ ts) f h = tt
holds_same Q (op SAME ∷ ts) f h = h ts
holds_same Q (key n ∷ ts) f h = tt

pub holds_number : {A : Type 0} (R : List Token → Type 0) (Q : List Token → A → List Token → Type 0) (ts : List Token) (f : ℕ → List Token → Got A) → R ts →
    ((n : ℕ) (us : List Token) → R (number n ∷ us) → Holds (Q (number n ∷ us)) (f n us)) → Holds (Q ts) (with_number ts f)
unfolding with_number
holds_number R Q [] f r h = tt
holds_number R Q (number n ∷ ts) f r h = h n ts r
holds_number R Q (variable n ∷ ts) f r h = tt
holds_number R Q (name n ∷ ts) f r h = tt
holds_number R Q (op n ∷ ts) f r h = tt
holds_number R Q (key n ∷ ts) f r h = tt

pub holds_variable : {A : Type 0} (Q : List Token → A → List Token → Type 0) (ts : List Token) (f : ℕ → List Token → Got A) →
    ((n : ℕ) (us : List Token) → Holds (Q (variable n ∷ us)) (f n us)) → Holds (Q ts) (with_variable ts f)
unfolding with_variable
holds_variable Q [] f h = tt
holds_variable Q (number n ∷ ts) f h = tt
holds_variable Q (variable n ∷ ts) f h = h n ts
holds_variable Q (name n ∷ ts) f h = tt
holds_variable Q (op n ∷ ts) f h = tt
holds_variable Q (key n ∷ ts) f h = tt

pub holds_name : {A : Type 0} (Q : List Token → A → List Token → Type 0) (ts : List Token) (f : Name → List Token → Got A) →
    ((n : Name) (us : List Token) → Holds (Q (name n ∷ us)) (f n us)) → Holds (Q ts) (with_name ts f)
unfolding with_name
holds_name Q [] f h = tt
holds_name Q (number n ∷ ts) f h = tt
holds_name Q (variable n ∷ ts) f h = tt
holds_name Q (name n ∷ ts) f h = h n ts
holds_name Q (op n ∷ ts) f h = tt
holds_name Q (key n ∷ ts) f h = tt

pub holds_ok : {A : Type 0} (Q : A → List Token → Type 0) (b : Bool) (g : Got A) → (b ≡ true → Holds Q g) → Holds Q (if_ok b g)
unfolding if_ok
holds_ok Q true g h = h refl
holds_ok Q false g h = tt

-- chains
pub more_sound : (j : Token → Join) (p : Parser) (P : List Token → Expr → List Token → Type 0) (Q : Expr → List Token → Type 0) →
    ((ts : List Token) → Holds (P ts) (p ts)) →
    ((t : Token) (f : Expr → Expr → Expr) (a b : Expr) (us vs : List Token) → j t ≡ joins f → Q a (t ∷ us) → P us b vs → Q (f a b) vs) →
    (m : ℕ) (e : Expr) (ts : List Token) → Q e ts → Holds Q (more_s j p m e ts)
unfolding more_s on_join
more_sound j p P Q ps grow zero e ts q = q
more_sound j p P Q ps grow (suc m) e [] q = q
more_sound j p P Q ps grow (suc m) e (t ∷ ts) q = go (j t) refl (more_sound j p P Q ps grow m)
  where
    go : (x : Join) → j t ≡ x → ((e' : Expr) (us : List Token) → Q e' us → Holds Q (more_s j p m e' us)) →
        Holds Q (on_join x (got e (t ∷ ts)) (λ f. and_then (p ts) (λ b us. more_s j p m (f e b) us)))
    go ends i ih = q
    go (joins f) i ih = holds_and (P ts) Q (p ts) _ (ps ts) (λ b us d. ih (f e b) us (grow t f e b ts us i q d))

pub chain_sound : (j : Token → Join) (p : Parser) (P Q : List Token → Expr → List Token → Type 0) →
    ((ts : List Token) → Holds (P ts) (p ts)) →
    ((ts : List Token) (e : Expr) (us : List Token) → P ts e us → Q ts e us) →
    ((ts : List Token) (t : Token) (f : Expr → Expr → Expr) (a b : Expr) (us vs : List Token) → j t ≡ joins f → Q ts a (t ∷ us) → P us b vs → Q ts (f a b) vs) →
    (ts : List Token) → Holds (Q ts) (chain_s j p ts)
unfolding chain_s
chain_sound j p P Q ps one grow ts = holds_and (P ts) (Q ts) (p ts) _ (ps ts) (λ e us d. more_sound j p P (Q ts) ps (grow ts) (length us) e us (one ts e us d))

never : {X : Type 0} {f : Expr → Expr → Expr} → ends ≡ joins f → X
never h = let z : ◌≡◌ {A = ℕ} 0 1 = cc in absurd (omega arith)

product_grow : (d : ℕ) (ts : List Token) (t : Token) (f : Expr → Expr → Expr) (a b : Expr) (us vs : List Token) →
    product_op t ≡ joins f → Reads product d ts a (t ∷ us) → Reads unary d us b vs → Reads product d ts (f a b) vs
unfolding product_op
product_grow d ts (number n) f a b us vs h x y = never h
product_grow d ts (variable n) f a b us vs h x y = never h
product_grow d ts (name n) f a b us vs h x y = never h
product_grow d ts (key n) f a b us vs h x y = never h
product_grow d ts (op PLUS) f a b us vs h x y = never h
product_grow d ts (op MINUS) f a b us vs h x y = never h
product_grow d ts (op TIMES) f a b us vs h x y = let q : Times ≡ f = cc in subst (λ g. Reads product d ts (g a b) vs) q (times x y)
product_grow d ts (op LESS) f a b us vs h x y = never h
product_grow d ts (op SAME) f a b us vs h x y = never h

sum_grow : (d : ℕ) (ts : List Token) (t : Token) (f : Expr → Expr → Expr) (a b : Expr) (us vs : List Token) →
    sum_op t ≡ joins f → Reads sum d ts a (t ∷ us) → Reads product d us b vs → Reads sum d ts (f a b) vs
unfolding sum_op
sum_grow d ts (number n) f a b us vs h x y = never h
sum_grow d ts (variable n) f a b us vs h x y = never h
sum_grow d ts (name n) f a b us vs h x y = never h
sum_grow d ts (key n) f a b us vs h x y = never h
sum_grow d ts (op PLUS) f a b us vs h x y = let q : Plus ≡ f = cc in subst (λ g. Reads sum d ts (g a b) vs) q (plus x y)
sum_grow d ts (op MINUS) f a b us vs h x y = let q : Minus ≡ f = cc in subst (λ g. Reads sum d ts (g a b) vs) q (minus x y)
sum_grow d ts (op TIMES) f a b us vs h x y = never h
sum_grow d ts (op LESS) f a b us vs h x y = never h
sum_grow d ts (op SAME) f a b us vs h x y = never h

compare_grow : (d : ℕ) (ts : List Token) (t : Token) (f : Expr → Expr → Expr) (a b : Expr) (us vs : List Token) →
    compare_op t ≡ joins f → Reads compare d ts a (t ∷ us) → Reads sum d us b vs → Reads compare d ts (f a b) vs
unfolding compare_op
compare_grow d ts (number n) f a b us vs h x y = never h
compare_grow d ts (variable n) f a b us vs h x y = never h
compare_grow d ts (name n) f a b us vs h x y = never h
compare_grow d ts (key n) f a b us vs h x y = never h
compare_grow d ts (op PLUS) f a b us vs h x y = never h
compare_grow d ts (op MINUS) f a b us vs h x y = never h
compare_grow d ts (op TIMES) f a b us vs h x y = never h
compare_grow d ts (op LESS) f a b us vs h x y = let q : Less ≡ f = cc in subst (λ g. Reads compare d ts (g a b) vs) q (less x y)
compare_grow d ts (op SAME) f a b us vs h x y = let q : Same ≡ f = cc in subst (λ g. Reads compare d ts (g a b) vs) q (same x y)

pub levels_sound : (d : ℕ) (p : Parser) → ((ts : List Token) → Holds (Reads unary d ts) (p ts)) → (ts : List Token) → Holds (Reads compare d ts) (levels p ts)
unfolding levels
levels_sound d p ps =
    chain_sound compare_op (chain_s sum_op (chain_s product_op p)) (Reads sum d) (Reads compare d)
    (chain_sound sum_op (chain_s product_op p) (Reads product d) (Reads sum d)
    (chain_sound product_op p (Reads unary d) (Reads product d) ps (λ ts e us x. factor x) (product_grow d))
    (λ ts e us x. term x) (sum_grow d))
    (λ ts e us x. side x) (compare_grow d)

bracket_sound : (d : ℕ) (p : ℕ → Parser) → ((c : ℕ) (ts : List Token) → Holds (Reads unary c ts) (p c ts)) → (ts : List Token) → Holds (Reads unary d (key OPEN ∷ ts)) (in_bracket d p ts)
unfolding in_bracket
bracket_sound zero p ps ts = tt
bracket_sound (suc d) p ps ts =
    holds_and (Reads compare d ts) (Reads unary (suc d) (key OPEN ∷ ts)) (levels (p d) ts) _ (levels_sound d (p d) (ps d) ts)
    (λ e us x. holds_after (Reads compare d ts e) (λ _. Reads unary (suc d) (key OPEN ∷ ts)) CLOSE us (got e) x (λ vs y. bracket y))

word_sound : (k : Key) (Q : List Token → Expr → List Token → Type 0) (ts : List Token) (f g : Got Expr) → Holds (Q (key NOT ∷ ts)) f → Holds (Q (key OPEN ∷ ts)) g → Holds (Q (key k ∷ ts)) (by_word k f g)
unfolding by_word
word_sound SET Q ts f g h i = tt
word_sound DO Q ts f g h i = tt
word_sound TRIES Q ts f g h i = tt
word_sound PAUSE Q ts f g h i = tt
word_sound SLEEP Q ts f g h i = tt
word_sound HEAR Q ts f g h i = tt
word_sound FOR Q ts f g h i = tt
word_sound IF Q ts f g h i = tt
word_sound ELSE Q ts f g h i = tt
word_sound WHILE Q ts f g h i = tt
word_sound GUARD Q ts f g h i = tt
word_sound RETURN Q ts f g h i = tt
word_sound FAIL Q ts f g h i = tt
word_sound NOT Q ts f g h i = h
word_sound OPEN Q ts f g h i = i
word_sound CLOSE Q ts f g h i = tt
word_sound BEGIN Q ts f g h i = tt
word_sound END Q ts f g h i = tt
word_sound COMMA Q ts f g h i = tt

pub unary_sound : (n d : ℕ) (ts : List Token) → Holds (Reads unary d ts) (unary_s n d ts)
unfolding unary_s
unary_sound zero d ts = tt
unary_sound (suc n) d [] = tt
unary_sound (suc n) d (number k ∷ ts) = literal k
unary_sound (suc n) d (variable v ∷ ts) = var v
unary_sound (suc n) d (name k ∷ ts) = tt
unary_sound (suc n) d (op o ∷ ts) = tt
unary_sound (suc n) d (key k ∷ ts) =
    word_sound k (λ us. Reads unary d us) ts _ _
    (holds_and (Reads unary d ts) (Reads unary d (key NOT ∷ ts)) (unary_s n d ts) _ (unary_sound n d ts) (λ e us x. negation x))
    (bracket_sound d (λ c. unary_s n c) (λ c us. unary_sound n c us) ts)

pub expr_sound : (ts : List Token) → Holds (IsExpr ts) (expr_s ts)
unfolding expr_s
expr_sound ts = levels_sound 256 (unary_s (length ts) 256) (unary_sound (length ts) 256) ts
