-- Taking one token of a text.
use Rattle.std.proofs.Common.{◌≡◌, ℕ, zero, suc, ◌<◌, ◌≤◌, ◌-◌, Bool, true, false, cond, eqb, ◌↔◌, List, [], ◌∷◌, length, take, drop, Some, None, Option, Ok, Err, sym, refl, ap, ◌∙◌, subst, arith}
use Rattle.std.proofs.lemmas.List.{drop_all}
use Rattle.std.proofs.lemmas.Bool.{false≢true}
use Rattle.std.proofs.lemmas.Bool.Decides.{nat_tests}
use Rattle.plans.specs.Plan.{Name}
use Rattle.std.specs.Bool.{then_some}
use Rattle.text.specs.Token.{PLUS, MINUS, TIMES, LESS, SAME, number, variable, name, op, key, Got, fails, got}
use Rattle.text.specs.Token as token
use Rattle.text.specs.Lexer.{Lexed, wrong, tokens, both, lex, ended, tokens_in}
use Rattle.text.specs.Parser.{code_of, after, after_same, with_number, with_variable, with_name}
use Rattle.text.specs.Ahead.{ahead, key_meant, operator_meant, means, meant, number_in, variable_in, taken, stops, Forth}
use Rattle.text.specs.declared.Lexeme.{Lexeme}
use Rattle.text.specs.declared.Token.{Token}
use Rattle.text.specs.declared.Token.TheVariants as is
use Rattle.text.specs.declared.Operator.TheVariants as by
use Rattle.text.specs.declared.Key.{Key}
use Rattle.text.specs.declared.Key.TheVariants.{Set, Do, Tries, Pause, Sleep, Hear, For, If, Else, While, Guard, Return, Fail, Not, Open, Close, Begin, End, Comma}
use Rattle.reading.specs.declared.error.NoPlan.{NoPlan}
use Rattle.reading.specs.declared.error.Expected.{Expected}
use Rattle.reading.specs.Took.{Family, Took, found, Only, Bars, bars}
use Rattle.reading.specs.Took as took
use Rattle.reading.specs.Tokens.{wanted_of, TookKey, TookSame, TookNumber, TookVariable, TookName, one_key, one_same, one_number, one_variable, one_name, Refuses}

-- behind the last byte there is no token
pub ahead_end : (text : List ℕ) (p : ℕ) → length text ≤ p → ahead text p ≡ tokens []
unfolding lex ended
ahead_end text p h = ap tokens_in (drop_all p text h)

-- a token of the text is the first of its tokens
pub take_token : {A : Type 0} (p : Family A) (a : A) (t : token.Token) (l m : Lexed) → l ≡ both (tokens (t ∷ [])) m → ((us : List token.Token) (n i : ℕ) → p (suc n) (suc i) (t ∷ us) ≡ got a us) → Took p a l m
unfolding both
take_token p a t l wrong h f = subst (λ (x : Lexed). Took p a x wrong) (sym h) took.Took.lost
take_token p a t l (tokens us) h f = subst (λ (x : Lexed). Took p a x (tokens us)) (sym h) (found (omega arith) (enough us))
  where
    enough : (us : List token.Token) (n i : ℕ) → length (t ∷ us) ≤ n → length (t ∷ us) ≤ i → p n i (t ∷ us) ≡ got a us
    enough us zero i j k = absurd (omega arith)
    enough us (suc n) zero j k = absurd (omega arith)
    enough us (suc n) (suc i) j k = f us n i

pub bar_token : {A : Type 0} (p : Family A) (Big : A → Type 0) (t : token.Token) (l m : Lexed) → l ≡ both (tokens (t ∷ [])) m → ((us : List token.Token) (n i : ℕ) → Only Big (p (suc n) (suc i) (t ∷ us))) → Bars p Big l
unfolding both
bar_token p Big t l wrong h f = subst (λ (x : Lexed). Bars p Big x) (sym h) took.Bars.lost
bar_token p Big t l (tokens us) h f = subst (λ (x : Lexed). Bars p Big x) (sym h) (bars (enough us))
  where
    enough : (us : List token.Token) (n i : ℕ) → length (t ∷ us) ≤ n → length (t ∷ us) ≤ i → Only Big (p n i (t ∷ us))
    enough us zero i j k = absurd (omega arith)
    enough us (suc n) zero j k = absurd (omega arith)
    enough us (suc n) (suc i) j k = f us n i

pub bar_stop : {A : Type 0} (p : Family A) (Big : A → Type 0) (l m : Lexed) → l ≡ both (tokens []) m → m ≡ tokens [] → ((n i : ℕ) → Only Big (p n i [])) → Bars p Big l
unfolding both
bar_stop p Big l m h e f = subst (λ (x : Lexed). Bars p Big x) (sym (h ∙ ap (both (tokens [])) e)) (bars (λ n i j k. f n i))

pub bar_bad : {A : Type 0} (p : Family A) (Big : A → Type 0) (l m : Lexed) → l ≡ both wrong m → Bars p Big l
unfolding both
bar_bad p Big l m h = subst (λ (x : Lexed). Bars p Big x) (sym h) took.Bars.lost

pub no_stop : (t : Token) → (t ≡ is.Stop → ⊥) → stops t ≡ false
no_stop (is.Number n) h = refl
no_stop (is.Variable n) h = refl
no_stop is.Name h = refl
no_stop (is.Operator o) h = refl
no_stop (is.Key k) h = refl
no_stop is.Stop h = absurd (h refl)
no_stop is.Bad h = refl

pub stop_end : (text : List ℕ) (from : ℕ) (r : Lexeme) → Forth from r (length text) → stops r.token ≡ true → ahead text r.next ≡ tokens []
stop_end text from r f s = ahead_end text r.next (f.ends s)

-- two words or signs with one number are one
key_inj : (k l : Key) → code_of (key_meant k) ≡ code_of (key_meant l) → k ≡ l
unfolding code_of
key_inj k l h = sym (numbered k) ∙ (ap at h ∙ numbered l)
  where
    at : ℕ → Key
    at n = cond (eqb n 0) Set (cond (eqb n 1) Do (cond (eqb n 2) Tries (cond (eqb n 3) Pause (cond (eqb n 4) Sleep (cond (eqb n 5) Hear (cond (eqb n 6) For (cond (eqb n 7) If (cond (eqb n 8) Else (cond (eqb n 9) While (cond (eqb n 10) Guard (cond (eqb n 11) Return (cond (eqb n 12) Fail (cond (eqb n 13) Not (cond (eqb n 14) Open (cond (eqb n 15) Close (cond (eqb n 16) Begin (cond (eqb n 17) End Comma)))))))))))))))))

    numbered : (k : Key) → at (code_of (key_meant k)) ≡ k
    numbered Set = refl
    numbered Do = refl
    numbered Tries = refl
    numbered Pause = refl
    numbered Sleep = refl
    numbered Hear = refl
    numbered For = refl
    numbered If = refl
    numbered Else = refl
    numbered While = refl
    numbered Guard = refl
    numbered Return = refl
    numbered Fail = refl
    numbered Not = refl
    numbered Open = refl
    numbered Close = refl
    numbered Begin = refl
    numbered End = refl
    numbered Comma = refl

eqb_same : (n : ℕ) → eqb n n ≡ true
eqb_same n = grind (arith, nat_tests)

key_other : (k l : Key) → (k ≡ l → ⊥) → eqb (code_of (key_meant l)) (code_of (key_meant k)) ≡ false
key_other k l h = go (eqb (code_of (key_meant l)) (code_of (key_meant k))) refl
  where
    go : (b : Bool) → eqb (code_of (key_meant l)) (code_of (key_meant k)) ≡ b → b ≡ false
    go false e = refl
    go true e = absurd (h (key_inj k l (grind (arith, nat_tests))))

key_yes : (want : Key) (l m : Lexed) → l ≡ both (tokens (key (key_meant want) ∷ [])) m → Took (one_key (key_meant want)) tt l m
unfolding after
key_yes want l m h = take_token (one_key (key_meant want)) tt (key (key_meant want)) l m h (λ us n i. rw (eqb_same (code_of (key_meant want))) refl)

key_no : (want : Key) (t : Token) (w : List ℕ) (l m : Lexed) → l ≡ both (means t w) m → (stops t ≡ true → m ≡ tokens []) → (t ≡ is.Key want → ⊥) → Refuses (one_key (key_meant want)) l
unfolding after
key_no want (is.Number n) w l m h e f = bar_token (one_key (key_meant want)) _ (number n) l m h (λ us n i. tt)
key_no want (is.Variable n) w l m h e f = bar_token (one_key (key_meant want)) _ (variable n) l m h (λ us n i. tt)
key_no want is.Name w l m h e f = bar_token (one_key (key_meant want)) _ (name w) l m h (λ us n i. tt)
key_no want (is.Operator o) w l m h e f = bar_token (one_key (key_meant want)) _ (op (operator_meant o)) l m h (λ us n i. tt)
key_no want (is.Key k) w l m h e f = bar_token (one_key (key_meant want)) _ (key (key_meant k)) l m h (λ us n i. rw (key_other k want (λ j. f (ap is.Key j))) tt)
key_no want is.Stop w l m h e f = bar_stop (one_key (key_meant want)) _ l m h (e refl) (λ n i. tt)
key_no want is.Bad w l m h e f = bar_bad (one_key (key_meant want)) _ l m h

some_none : {x : ℕ} → None ≡ Some x → ⊥
some_none h = let z : ◌≡◌ {A = ℕ} 0 1 = cc in omega arith

number_no : (t : Token) (w : List ℕ) (l m : Lexed) → l ≡ both (means t w) m → (stops t ≡ true → m ≡ tokens []) → None ≡ number_in t → Refuses one_number l
unfolding with_number
number_no (is.Number n) w l m h e f = absurd (some_none f)
number_no (is.Variable n) w l m h e f = bar_token one_number _ (variable n) l m h (λ us n i. tt)
number_no is.Name w l m h e f = bar_token one_number _ (name w) l m h (λ us n i. tt)
number_no (is.Operator o) w l m h e f = bar_token one_number _ (op (operator_meant o)) l m h (λ us n i. tt)
number_no (is.Key k) w l m h e f = bar_token one_number _ (key (key_meant k)) l m h (λ us n i. tt)
number_no is.Stop w l m h e f = bar_stop one_number _ l m h (e refl) (λ n i. tt)
number_no is.Bad w l m h e f = bar_bad one_number _ l m h

variable_no : (t : Token) (w : List ℕ) (l m : Lexed) → l ≡ both (means t w) m → (stops t ≡ true → m ≡ tokens []) → None ≡ variable_in t → Refuses one_variable l
unfolding with_variable
variable_no (is.Number n) w l m h e f = bar_token one_variable _ (number n) l m h (λ us n i. tt)
variable_no (is.Variable n) w l m h e f = absurd (some_none f)
variable_no is.Name w l m h e f = bar_token one_variable _ (name w) l m h (λ us n i. tt)
variable_no (is.Operator o) w l m h e f = bar_token one_variable _ (op (operator_meant o)) l m h (λ us n i. tt)
variable_no (is.Key k) w l m h e f = bar_token one_variable _ (key (key_meant k)) l m h (λ us n i. tt)
variable_no is.Stop w l m h e f = bar_stop one_variable _ l m h (e refl) (λ n i. tt)
variable_no is.Bad w l m h e f = bar_bad one_variable _ l m h

name_no : (t : Token) (w : List ℕ) (l m : Lexed) → l ≡ both (means t w) m → (stops t ≡ true → m ≡ tokens []) → (t ≡ is.Name → ⊥) → Refuses one_name l
unfolding with_name
name_no (is.Number n) w l m h e f = bar_token one_name _ (number n) l m h (λ us n i. tt)
name_no (is.Variable n) w l m h e f = bar_token one_name _ (variable n) l m h (λ us n i. tt)
name_no is.Name w l m h e f = absurd (f refl)
name_no (is.Operator o) w l m h e f = bar_token one_name _ (op (operator_meant o)) l m h (λ us n i. tt)
name_no (is.Key k) w l m h e f = bar_token one_name _ (key (key_meant k)) l m h (λ us n i. tt)
name_no is.Stop w l m h e f = bar_stop one_name _ l m h (e refl) (λ n i. tt)
name_no is.Bad w l m h e f = bar_bad one_name _ l m h

same_no : (t : Token) (w : List ℕ) (l m : Lexed) → l ≡ both (means t w) m → (stops t ≡ true → m ≡ tokens []) → (t ≡ is.Operator by.Same → ⊥) → Refuses one_same l
unfolding after_same
same_no (is.Number n) w l m h e f = bar_token one_same _ (number n) l m h (λ us n i. tt)
same_no (is.Variable n) w l m h e f = bar_token one_same _ (variable n) l m h (λ us n i. tt)
same_no is.Name w l m h e f = bar_token one_same _ (name w) l m h (λ us n i. tt)
same_no (is.Key k) w l m h e f = bar_token one_same _ (key (key_meant k)) l m h (λ us n i. tt)
same_no (is.Operator by.Plus) w l m h e f = bar_token one_same _ (op PLUS) l m h (λ us n i. tt)
same_no (is.Operator by.Minus) w l m h e f = bar_token one_same _ (op MINUS) l m h (λ us n i. tt)
same_no (is.Operator by.Times) w l m h e f = bar_token one_same _ (op TIMES) l m h (λ us n i. tt)
same_no (is.Operator by.Less) w l m h e f = bar_token one_same _ (op LESS) l m h (λ us n i. tt)
same_no (is.Operator by.Same) w l m h e f = absurd (f refl)
same_no is.Stop w l m h e f = bar_stop one_same _ l m h (e refl) (λ n i. tt)
same_no is.Bad w l m h e f = bar_bad one_same _ l m h

same_yes : (l m : Lexed) → l ≡ both (tokens (op SAME ∷ [])) m → Took one_same tt l m
unfolding after_same
same_yes l m h = take_token one_same tt (op SAME) l m h (λ us n i. refl)

number_yes : (v : ℕ) (t : Token) (w : List ℕ) (l m : Lexed) → l ≡ both (means t w) m → Some v ≡ number_in t → Took one_number v l m × (taken t ≡ true)
unfolding with_number
number_yes v (is.Number n) w l m h f = let e : v ≡ n = cc in (take_token one_number v (number n) l m h (λ us n i. rw e refl), refl)
number_yes v (is.Variable n) w l m h f = absurd (some_none (sym f))
number_yes v is.Name w l m h f = absurd (some_none (sym f))
number_yes v (is.Operator o) w l m h f = absurd (some_none (sym f))
number_yes v (is.Key k) w l m h f = absurd (some_none (sym f))
number_yes v is.Stop w l m h f = absurd (some_none (sym f))
number_yes v is.Bad w l m h f = absurd (some_none (sym f))

variable_yes : (v : ℕ) (t : Token) (w : List ℕ) (l m : Lexed) → l ≡ both (means t w) m → Some v ≡ variable_in t → Took one_variable v l m × (taken t ≡ true)
unfolding with_variable
variable_yes v (is.Variable n) w l m h f = let e : v ≡ n = cc in (take_token one_variable v (variable n) l m h (λ us n i. rw e refl), refl)
variable_yes v (is.Number n) w l m h f = absurd (some_none (sym f))
variable_yes v is.Name w l m h f = absurd (some_none (sym f))
variable_yes v (is.Operator o) w l m h f = absurd (some_none (sym f))
variable_yes v (is.Key k) w l m h f = absurd (some_none (sym f))
variable_yes v is.Stop w l m h f = absurd (some_none (sym f))
variable_yes v is.Bad w l m h f = absurd (some_none (sym f))

name_yes : (v : Name) (l m : Lexed) → l ≡ both (tokens (name v ∷ [])) m → Took one_name v l m
unfolding with_name
name_yes v l m h = take_token one_name v (name v) l m h (λ us n i. refl)

going_on : (t : Token) → taken t ≡ true → stops t ≡ false
going_on (is.Number n) h = refl
going_on (is.Variable n) h = refl
going_on is.Name h = refl
going_on (is.Operator o) h = refl
going_on (is.Key k) h = refl
going_on is.Stop h = absurd (false≢true h)
going_on is.Bad h = refl

-- where the token that was found is one, it lies ahead
pub onward : (from : ℕ) (r : Lexeme) (n : ℕ) → Forth from r n → from ≤ n → taken r.token ≡ true → (from < r.next) × (r.next ≤ n)
onward from r n f h t = let a = f.after in let b = f.moves (going_on r.token t) in let c = f.within h in (omega arith, c)

-- the token that was found from a place on, where it is the one that is wanted
module _ (text : List ℕ) (pos : ℕ) (r : Lexeme) (a : ahead text pos ≡ both (meant text r) (ahead text r.next)) (f : Forth pos r (length text)) (w : pos ≤ length text) where
  is_token : (t : Token) → r.token ≡ t → ahead text pos ≡ both (means t (take (r.next - r.start) (drop r.start text))) (ahead text r.next)
  is_token t e = a ∙ ap (λ (x : Token). both (means x (take (r.next - r.start) (drop r.start text))) (ahead text r.next)) e

  pub key_took : (want : Key) → r.token ≡ is.Key want → TookKey (Ok r.next) (key_meant want) text pos
  key_took want e = (key_yes want _ _ (is_token (is.Key want) e), onward pos r (length text) f w (ap taken e))

  pub key_refused : (want : Key) (e : NoPlan) → (r.token ≡ is.Key want → ⊥) → TookKey (Err e) (key_meant want) text pos
  key_refused want e h = key_no want r.token _ _ _ a (stop_end text pos r f) h

  pub same_took : r.token ≡ is.Operator by.Same → TookSame (Ok r.next) text pos
  same_took e = (same_yes _ _ (is_token (is.Operator by.Same) e), onward pos r (length text) f w (ap taken e))

  pub same_refused : (e : NoPlan) → (r.token ≡ is.Operator by.Same → ⊥) → TookSame (Err e) text pos
  same_refused e h = same_no r.token _ _ _ a (stop_end text pos r f) h

  pub number_wanted : (o : Option ℕ) (e : Expected) → o ≡ number_in r.token → TookNumber (wanted_of r o e) text pos
  number_wanted (Some v) e h = let y = number_yes v r.token _ _ _ a h in (y.0, onward pos r (length text) f w y.1)
  number_wanted None e h = number_no r.token _ _ _ a (stop_end text pos r f) h

  pub variable_wanted : (o : Option ℕ) (e : Expected) → o ≡ variable_in r.token → TookVariable (wanted_of r o e) text pos
  variable_wanted (Some v) e h = let y = variable_yes v r.token _ _ _ a h in (y.0, onward pos r (length text) f w y.1)
  variable_wanted None e h = variable_no r.token _ _ _ a (stop_end text pos r f) h

  pub name_wanted : (b : Bool) (e : Expected) → (b ≡ true) ↔ (r.token ≡ is.Name) → TookName (wanted_of r (then_some b tt) e) text pos
  name_wanted true e h = let i = h.0 refl in (name_yes _ _ _ (is_token is.Name i), onward pos r (length text) f w (ap taken i), f.order)
  name_wanted false e h = name_no r.token _ _ _ a (stop_end text pos r f) (λ i. false≢true (h.1 i))
