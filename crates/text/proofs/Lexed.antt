-- What is written is read back as the same tokens; and what the tokens of a text are like. Assumes nothing.
use Rattle.std.proofs.Common.{◌≡◌, ℕ, zero, suc, ◌<◌, Bool, true, false, cond, not, ◌&&◌, ◌||◌, eqb, ltb, leb, List, [], ◌∷◌, ◌++◌, length, get_or, replicate, decimal, sym, refl, ap, ◌∙◌, subst, append_assoc, append-nil, arith, rules}
use Rattle.std.proofs.lemmas.Bool.Decides.{nat_tests}
use Rattle.std.specs.Str.{all_ascii_digits}
use Rattle.std.proofs.lemmas.Str.Parse.{IsNumeralModel, numerals_by_fold}
use Rattle.std.proofs.lemmas.Fmt.{digits_decimal, digits_value-decimal, decimal_nonempty, first_decimal, decimal_digit}
use Rattle.plans.specs.Plan.{every, same_name, word_ok, name_ok}
use Rattle.text.specs.Token.{Key, SET, DO, TRIES, PAUSE, SLEEP, HEAR, FOR, IF, ELSE, WHILE, GUARD, RETURN, FAIL, NOT, OPEN, CLOSE, BEGIN, END, COMMA, Op, PLUS, MINUS, TIMES, LESS, SAME, Token, number, variable, name, op, key}
use Rattle.text.specs.Lexer.{spell, spell_op, Lexed, wrong, tokens, both, or_else, is_wrong, one, value_from, top, number_of, key_in, key_of, name_of, plain_digits, variable_of, word_token, ended, word_byte, sign_at, Mode, word, remark, goes, gives, lex, tokens_in, token_ok, spelled}
use Rattle.text.proofs.Printed.{and_left, and_right, and_both}

pub both_nil : (r : Lexed) → both (tokens []) r ≡ r
unfolding both
both_nil wrong = refl
both_nil (tokens ts) = refl

pub both_none : (r : Lexed) → both r (tokens []) ≡ r
unfolding both
both_none wrong = refl
both_none (tokens ts) = ap tokens (append-nil ts)

pub both_assoc : (r s t : Lexed) → both (both r s) t ≡ both r (both s t)
unfolding both
both_assoc wrong s t = refl
both_assoc (tokens xs) wrong t = refl
both_assoc (tokens xs) (tokens ys) wrong = refl
both_assoc (tokens xs) (tokens ys) (tokens zs) = ap tokens (append_assoc xs ys zs)

-- what follows a word
pub word_stop : (w : List ℕ) (b : ℕ) (bs : List ℕ) → word_byte b ≡ false → both (ended w) (lex (word []) (b ∷ bs)) ≡ lex (word w) (b ∷ bs)
unfolding lex gives goes ended
word_stop w b bs h = rw (h, both_nil, both_assoc) refl

pub word_end : (w : List ℕ) → both (ended w) (lex (word []) []) ≡ lex (word w) []
unfolding lex ended
word_end [] = both_nil (tokens [])
word_end (b ∷ bs) = both_none _

-- no word goes on here
abbrev pub apart : List ℕ → Bool
apart [] = true
apart (b ∷ bs) = not (word_byte b)

word_over : (w rest : List ℕ) → apart rest ≡ true → lex (word w) rest ≡ both (ended w) (lex (word []) rest)
word_over w [] a = sym (word_end w)
word_over w (b ∷ bs) a = let h : word_byte b ≡ false = grind (arith, nat_tests) in sym (word_stop w b bs h)

pub lex_word : (u w rest : List ℕ) → every word_byte w ≡ true → apart rest ≡ true → lex (word u) (w ++ rest) ≡ both (ended (u ++ w)) (lex (word []) rest)
unfolding lex gives goes every
lex_word u [] rest h a = rw append-nil (word_over u rest a)
lex_word u (b ∷ bs) rest h a =
    let hb : word_byte b ≡ true = and_left (word_byte b) (every word_byte bs) h in
    let ih : lex (word (u ++ (b ∷ []))) (bs ++ rest) ≡ both (ended ((u ++ (b ∷ [])) ++ bs)) (lex (word []) rest) = lex_word (u ++ (b ∷ [])) bs rest (and_right (word_byte b) (every word_byte bs) h) a in
    rw (hb, both_nil, ih, append_assoc) refl

-- decimals
own : IsNumeralModel (λ ds. all_ascii_digits ds ≡ true) (value_from 0)
unfolding value_from
own = numerals_by_fold _ (search rules) value_from (search rules)

digits_words : (ds : List ℕ) → all_ascii_digits ds ≡ true → every word_byte ds ≡ true
unfolding every
digits_words [] h = refl
digits_words (d ∷ ds) h = let ih : all_ascii_digits ds ≡ true → every word_byte ds ≡ true = digits_words ds in grind (arith, nat_tests)

pub number_spelled : (n : ℕ) → n < top → number_of (decimal n) ≡ tokens (number n ∷ [])
unfolding number_of
number_spelled n h =
    let v : value_from 0 (decimal n) ≡ n = digits_value-decimal own n h in
    let a : all_ascii_digits (decimal n) ≡ true = digits_decimal own n h in
    let l : ltb n top ≡ true = grind (arith, nat_tests) in
    rw (a, v, l) refl

-- a text that begins with a digit has no name of letters
no_name : (ds : List ℕ) → all_ascii_digits ds ≡ true → 0 < length ds → every (λ (b : ℕ). leb 97 b && leb b 122) ds ≡ false
unfolding every
no_name [] h l = absurd (omega arith)
no_name (d ∷ ds) h l = let a : leb 97 d ≡ false = grind (arith, nat_tests) in rw a refl

and_false : (a : Bool) → a && false ≡ false
and_false true = refl
and_false false = refl

plain_decimal : (n : ℕ) → n < top → plain_digits (decimal n) ≡ true
plain_decimal n h =
    let a : all_ascii_digits (decimal n) ≡ true = digits_decimal own n h in
    let l : 0 < length (decimal n) = decimal_nonempty n h in
    let l' : ltb 0 (length (decimal n)) ≡ true = grind (arith, nat_tests) in
    rw (a, l') (go (ltb n 10) refl)
  where
    go : (b : Bool) → ltb n 10 ≡ b → (eqb (length (decimal n)) 1 || ltb 48 (get_or (decimal n) 0 0)) ≡ true
    go true e = let small : n < 10 = grind (arith, nat_tests) in rw (decimal_digit n small) refl
    go false e =
        let big : 0 < n = grind (arith, nat_tests) in
        let f : 48 < get_or (decimal n) 0 0 = first_decimal n big h in
        grind (arith, nat_tests)

pub variable_spelled : (v : ℕ) → v < 64 → word_token (118 ∷ decimal v) ≡ tokens (variable v ∷ [])
unfolding word_token number_of key_of key_in spell same_name name_of variable_of or_else every
variable_spelled v h =
    let big : v < top = omega arith in
    let x : value_from 0 (decimal v) ≡ v = digits_value-decimal own v big in
    let a : all_ascii_digits (decimal v) ≡ true = digits_decimal own v big in
    let l : 0 < length (decimal v) = decimal_nonempty v big in
    let m : every (λ (b : ℕ). leb 97 b && leb b 122) (decimal v) ≡ false = no_name (decimal v) a l in
    let w : word_ok (118 ∷ decimal v) ≡ false = rw m (and_false _) in
    let p : plain_digits (decimal v) ≡ true = plain_decimal v big in
    let y : ltb v 64 ≡ true = grind (arith, nat_tests) in
    rw (w, p, x, y) refl

wrong_is : (r : Lexed) → is_wrong r ≡ true → r ≡ wrong
wrong_is wrong h = refl
wrong_is (tokens ts) h = let z : ◌≡◌ {A = ℕ} 0 1 = cc in absurd (omega arith)

letters_no_number : (w : List ℕ) → word_ok w ≡ true → all_ascii_digits w ≡ false
unfolding every
letters_no_number [] h = let z : ◌≡◌ {A = ℕ} 0 1 = cc in absurd (omega arith)
letters_no_number (b ∷ bs) h =
    let e : every (λ (c : ℕ). leb 97 c && leb c 122) (b ∷ bs) ≡ true = and_right (name_ok (b ∷ bs)) (every (λ (c : ℕ). leb 97 c && leb c 122) (b ∷ bs)) h in
    let f : (leb 97 b && leb b 122) ≡ true = and_left (leb 97 b && leb b 122) (every (λ (c : ℕ). leb 97 c && leb c 122) bs) e in
    let g : leb b 57 ≡ false = grind (arith, nat_tests) in
    rw (g, and_false (leb 48 b)) refl

pub name_spelled : (w : List ℕ) → token_ok (name w) ≡ true → word_token w ≡ tokens (name w ∷ [])
unfolding word_token number_of name_of or_else token_ok
name_spelled w h =
    let a : word_ok w ≡ true = and_left (word_ok w) (is_wrong (key_of w)) h in
    let k : key_of w ≡ wrong = wrong_is (key_of w) (and_right (word_ok w) (is_wrong (key_of w)) h) in
    rw (letters_no_number w a, k, a) refl

letters_words : (w : List ℕ) → every (λ (b : ℕ). leb 97 b && leb b 122) w ≡ true → every word_byte w ≡ true
unfolding every
letters_words [] h = refl
letters_words (d ∷ ds) h = let ih : every (λ (b : ℕ). leb 97 b && leb b 122) ds ≡ true → every word_byte ds ≡ true = letters_words ds in grind (arith, nat_tests)

-- the tokens of these bytes are those
pub record Lexes (bs : List ℕ) (us : List Token) : Type 0 where
  pub is : tokens_in bs ≡ tokens us

-- a token that is a word
word_back : {rest : List ℕ} {us : List Token} (t : Token) (w : List ℕ) → 0 < length w → every word_byte w ≡ true → word_token w ≡ tokens (t ∷ []) → apart rest ≡ true → Lexes rest us → Lexes (w ++ rest) (t ∷ us)
unfolding ended both
word_back t [] l h e a r = absurd (omega arith)
word_back {rest} {us} t (b ∷ bs) l h e a r = record { is = lex_word [] (b ∷ bs) rest h a ∙ rest_is }
  where
    rest_is : both (ended (b ∷ bs)) (lex (word []) rest) ≡ tokens (t ∷ us)
    rest_is = rw (e, r.is) refl

-- a token that is a sign
sign_back : {rest : List ℕ} {us : List Token} (t : Token) (b : ℕ) → word_byte b ≡ false → eqb b 35 ≡ false → sign_at b ≡ tokens (t ∷ []) → Lexes rest us → Lexes (b ∷ rest) (t ∷ us)
unfolding lex gives goes ended both
sign_back t b h k e r = record { is = rw (h, k, e, r.is) refl }

-- a blank is no token
pub blank : {rest : List ℕ} {us : List Token} → Lexes rest us → Lexes (32 ∷ rest) us
unfolding lex gives goes ended both sign_at
blank r = record { is = rw r.is refl }

pub newline : {rest : List ℕ} {us : List Token} → Lexes rest us → Lexes (10 ∷ rest) us
unfolding lex gives goes ended both sign_at
newline r = record { is = rw r.is refl }

pub blanks : {rest : List ℕ} {us : List Token} (n : ℕ) → Lexes rest us → Lexes (replicate n 32 ++ rest) us
blanks zero r = r
blanks (suc n) r = blank (blanks n r)

pub nothing_more : Lexes [] []
unfolding lex ended
nothing_more = record { is = refl }

-- signs need no blank behind them
abbrev pub sign_key : Key → Bool
sign_key SET = false
sign_key DO = false
sign_key TRIES = false
sign_key PAUSE = false
sign_key SLEEP = false
sign_key HEAR = false
sign_key FOR = false
sign_key IF = false
sign_key ELSE = false
sign_key WHILE = false
sign_key GUARD = false
sign_key RETURN = false
sign_key FAIL = false
sign_key NOT = false
sign_key OPEN = true
sign_key CLOSE = true
sign_key BEGIN = true
sign_key END = true
sign_key COMMA = true

abbrev pub is_sign : Token → Bool
is_sign (number n) = false
is_sign (variable v) = false
is_sign (name w) = false
is_sign (op o) = true
is_sign (key k) = sign_key k

key_back : {rest : List ℕ} {us : List Token} (k : Key) → (sign_key k || apart rest) ≡ true → Lexes rest us → Lexes (spell k ++ rest) (key k ∷ us)
unfolding spell sign_at word_token number_of key_of key_in same_name or_else every
key_back SET a r = word_back (key SET) (spell SET) (omega arith) refl refl a r
key_back DO a r = word_back (key DO) (spell DO) (omega arith) refl refl a r
key_back TRIES a r = word_back (key TRIES) (spell TRIES) (omega arith) refl refl a r
key_back PAUSE a r = word_back (key PAUSE) (spell PAUSE) (omega arith) refl refl a r
key_back SLEEP a r = word_back (key SLEEP) (spell SLEEP) (omega arith) refl refl a r
key_back HEAR a r = word_back (key HEAR) (spell HEAR) (omega arith) refl refl a r
key_back FOR a r = word_back (key FOR) (spell FOR) (omega arith) refl refl a r
key_back IF a r = word_back (key IF) (spell IF) (omega arith) refl refl a r
key_back ELSE a r = word_back (key ELSE) (spell ELSE) (omega arith) refl refl a r
key_back WHILE a r = word_back (key WHILE) (spell WHILE) (omega arith) refl refl a r
key_back GUARD a r = word_back (key GUARD) (spell GUARD) (omega arith) refl refl a r
key_back RETURN a r = word_back (key RETURN) (spell RETURN) (omega arith) refl refl a r
key_back FAIL a r = word_back (key FAIL) (spell FAIL) (omega arith) refl refl a r
key_back NOT a r = word_back (key NOT) (spell NOT) (omega arith) refl refl a r
key_back OPEN a r = sign_back (key OPEN) 40 refl refl refl r
key_back CLOSE a r = sign_back (key CLOSE) 41 refl refl refl r
key_back BEGIN a r = sign_back (key BEGIN) 123 refl refl refl r
key_back END a r = sign_back (key END) 125 refl refl refl r
key_back COMMA a r = sign_back (key COMMA) 44 refl refl refl r

op_back : {rest : List ℕ} {us : List Token} (o : Op) → Lexes rest us → Lexes (spell_op o ++ rest) (op o ∷ us)
unfolding spell_op sign_at
op_back PLUS r = sign_back (op PLUS) 43 refl refl refl r
op_back MINUS r = sign_back (op MINUS) 45 refl refl refl r
op_back TIMES r = sign_back (op TIMES) 42 refl refl refl r
op_back LESS r = sign_back (op LESS) 60 refl refl refl r
op_back SAME r = sign_back (op SAME) 61 refl refl refl r

-- a token as it is spelled, and then the rest
pub token_back : {rest : List ℕ} {us : List Token} (t : Token) → token_ok t ≡ true → (is_sign t || apart rest) ≡ true → Lexes rest us → Lexes (spelled t ++ rest) (t ∷ us)
unfolding spelled token_ok word_token or_else every
token_back (number n) h a r =
    let b : n < top = grind (arith, nat_tests) in
    word_back (number n) (decimal n) (decimal_nonempty n b) (digits_words (decimal n) (digits_decimal own n b)) (rw (number_spelled n b) refl) a r
token_back (variable v) h a r =
    let s : v < 64 = grind (arith, nat_tests) in
    let b : v < top = omega arith in
    word_back (variable v) (118 ∷ decimal v) (omega arith) (digits_words (decimal v) (digits_decimal own v b)) (variable_spelled v s) a r
token_back (name w) h a r =
    let i : word_ok w ≡ true = and_left (word_ok w) (is_wrong (key_of w)) h in
    let e : every (λ (c : ℕ). leb 97 c && leb c 122) w ≡ true = and_right (name_ok w) (every (λ (c : ℕ). leb 97 c && leb c 122) w) i in
    let n : name_ok w ≡ true = and_left (name_ok w) (every (λ (c : ℕ). leb 97 c && leb c 122) w) i in
    let l : ltb 0 (length w) ≡ true = and_left (ltb 0 (length w)) (leb (length w) 64) (and_left (ltb 0 (length w) && leb (length w) 64) (every (λ (b : ℕ). ltb b 256) w) n) in
    let q : 0 < length w = grind (arith, nat_tests) in
    word_back (name w) w q (letters_words w e) (name_spelled w h) a r
token_back (op o) h a r = op_back o r
token_back (key k) h a r = key_back k a r

-- the tokens of a text are as token_ok says
abbrev AllOk : Lexed → Type 0
AllOk wrong = Unit {0}
AllOk (tokens ts) = every token_ok ts ≡ true

every_append : (ts us : List Token) → every token_ok ts ≡ true → every token_ok us ≡ true → every token_ok (ts ++ us) ≡ true
unfolding every
every_append [] us h k = k
every_append (t ∷ ts) us h k = and_both (token_ok t) (every token_ok (ts ++ us)) (and_left (token_ok t) (every token_ok ts) h) (every_append ts us (and_right (token_ok t) (every token_ok ts) h) k)

both_ok : (r s : Lexed) → AllOk r → AllOk s → AllOk (both r s)
unfolding both
both_ok wrong s h k = tt
both_ok (tokens ts) wrong h k = tt
both_ok (tokens ts) (tokens us) h k = every_append ts us h k

one_ok : (b : Bool) (t : Token) → (b ≡ true → token_ok t ≡ true) → AllOk (one b t)
unfolding every
one_ok true t h = and_both (token_ok t) true (h refl) refl
one_ok false t h = tt

or_ok : (r s : Lexed) → AllOk r → (is_wrong r ≡ true → AllOk s) → AllOk (or_else r s)
unfolding or_else
or_ok wrong s h k = k refl
or_ok (tokens ts) s h k = h

cond_ok : (b : Bool) (r s : Lexed) → AllOk r → AllOk s → AllOk (cond b r s)
cond_ok true r s h k = h
cond_ok false r s h k = k

key_in_ok : (ks : List Key) (w : List ℕ) → AllOk (key_in ks w)
unfolding key_in every token_ok
key_in_ok [] w = tt
key_in_ok (k ∷ ks) w = cond_ok (same_name (spell k) w) (tokens (key k ∷ [])) (key_in ks w) refl (key_in_ok ks w)

variable_ok : (w : List ℕ) → AllOk (variable_of w)
unfolding variable_of token_ok
variable_ok [] = tt
variable_ok (b ∷ ds) = one_ok _ _ (λ h. and_right (eqb b 118 && plain_digits ds) (ltb (value_from 0 ds) 64) h)

word_ok_lem : (w : List ℕ) → AllOk (word_token w)
unfolding word_token number_of name_of key_of token_ok
word_ok_lem w =
    or_ok (number_of w) _ (one_ok _ _ (λ h. and_right (all_ascii_digits w) (ltb (value_from 0 w) top) h))
    (λ _. or_ok (key_of w) _ (key_in_ok _ w) (λ k. or_ok (name_of w) _ (one_ok _ _ (λ h. and_both (word_ok w) (is_wrong (key_of w)) h k)) (λ _. variable_ok w)))

ended_ok : (w : List ℕ) → AllOk (ended w)
unfolding ended every
ended_ok [] = refl
ended_ok (b ∷ bs) = word_ok_lem (b ∷ bs)

sign_ok : (b : ℕ) → AllOk (sign_at b)
unfolding sign_at every token_ok
sign_ok b =
    cond_ok (eqb b 32 || eqb b 9 || eqb b 13 || eqb b 10 || eqb b 35) _ _ refl
    (cond_ok (eqb b 43) _ _ refl (cond_ok (eqb b 45) _ _ refl (cond_ok (eqb b 42) _ _ refl (cond_ok (eqb b 60) _ _ refl (cond_ok (eqb b 61) _ _ refl
    (cond_ok (eqb b 40) _ _ refl (cond_ok (eqb b 41) _ _ refl (cond_ok (eqb b 123) _ _ refl (cond_ok (eqb b 125) _ _ refl (cond_ok (eqb b 44) _ _ refl tt))))))))))

gives_ok : (m : Mode) (b : ℕ) → AllOk (gives m b)
unfolding gives every
gives_ok (word w) b = cond_ok (word_byte b) _ _ refl (both_ok (ended w) (sign_at b) (ended_ok w) (sign_ok b))
gives_ok remark b = refl

lex_ok : (m : Mode) (bs : List ℕ) → AllOk (lex m bs)
unfolding lex every
lex_ok (word w) [] = ended_ok w
lex_ok remark [] = refl
lex_ok (word w) (b ∷ bs) = both_ok (gives (word w) b) _ (gives_ok (word w) b) (lex_ok (goes (word w) b) bs)
lex_ok remark (b ∷ bs) = both_ok (gives remark b) _ (gives_ok remark b) (lex_ok (goes remark b) bs)

pub lexed_ok : (bs : List ℕ) (ts : List Token) → tokens_in bs ≡ tokens ts → every token_ok ts ≡ true
lexed_ok bs ts e = subst (λ r. AllOk r) e (lex_ok (word []) bs)
