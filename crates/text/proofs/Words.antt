-- The words of the code are those of the language. Assumes nothing.
use Rattle.std.proofs.Common.{◌≡◌, ℕ, zero, suc, ◌-◌, ◌<◌, ◌≤◌, Bool, true, false, ◌&&◌, eqb, ltb, leb, List, [], ◌∷◌, length, get_or, take, drop, cond, Some, None, Option, sym, refl, ap, ◌∙◌, arith, length-drop}
use Rattle.std.proofs.lemmas.Bool.Decides.{nat_tests}
use Rattle.std.specs.Str.{all_ascii_digits}
use Rattle.std.proofs.lemmas.List.{take_all}
use Rattle.plans.specs.Plan.{every, word_ok, name_ok}
use Rattle.text.specs.Token.{Key, Token, key, number, variable, name}
use Rattle.text.specs.Lexer.{Lexed, tokens, wrong, one, key_of, number_of, value_from, top, variable_of, plain_digits, name_of, word_token, or_else}
use Rattle.text.specs.Words.{lower}
use Rattle.text.specs.Numbers.{begins_variable, numbered, variabled}
use Rattle.std.specs.Prelude.{All, ◌↔◌}
use Rattle.std.specs.Option.{MatchOption}
use Rattle.std.proofs.lemmas.Bool.{ltb-true, and_parts, false≢true}

and_false : (a : Bool) → a && false ≡ false
and_false true = refl
and_false false = refl

eqb_sym : (a b : ℕ) → eqb a b ≡ eqb b a
eqb_sym a b = grind (arith, nat_tests)

-- names
letters_bytes : (w : List ℕ) → every lower w ≡ true → every (λ (b : ℕ). ltb b 256) w ≡ true
unfolding every
letters_bytes [] h = refl
letters_bytes (b ∷ bs) h = let ih : every lower bs ≡ true → every (λ (b : ℕ). ltb b 256) bs ≡ true = letters_bytes bs in grind (arith, nat_tests)

every_lower : (w : List ℕ) → All (λ (b : ℕ). lower b ≡ true) w → every lower w ≡ true
unfolding every
every_lower [] h = refl
every_lower (b ∷ bs) h = rw (h 0 0 (omega arith), every_lower bs (λ k d l. h (suc k) d (omega arith))) refl

every_false : (w : List ℕ) → (All (λ (b : ℕ). lower b ≡ true) w → ⊥) → every lower w ≡ false
unfolding every
every_false w h = go (every lower w) refl
  where
    all_of : (v : List ℕ) → every lower v ≡ true → (k d : ℕ) → k < length v → lower (get_or v k d) ≡ true
    all_of (b ∷ bs) e zero d l = (and_parts (lower b) (every lower bs) e).0
    all_of (b ∷ bs) e (suc k) d l = all_of bs ((and_parts (lower b) (every lower bs) e).1) k d (omega arith)
    all_of [] e k d l = absurd (omega arith)

    go : (e : Bool) → every lower w ≡ e → every lower w ≡ false
    go true e = absurd (h (all_of w e))
    go false e = e

-- 1 to 64 bytes, each of them a letter
pub name_is : (w : List ℕ) (r : Bool) → 1 ≤ length w → length w ≤ 64 → (r ≡ true) ↔ All (λ (b : ℕ). lower b ≡ true) w → r ≡ word_ok w
name_is w r some few h =
    let sized : (ltb 0 (length w) && leb (length w) 64) ≡ true = grind (arith, nat_tests) in
    go r h sized
  where
    go : (r : Bool) → (r ≡ true) ↔ All (λ (b : ℕ). lower b ≡ true) w → (ltb 0 (length w) && leb (length w) 64) ≡ true → r ≡ word_ok w
    go true h s = let e = every_lower w (h.0 refl) in rw (s, e, letters_bytes w e) refl
    go false h s = rw (every_false w (λ a. false≢true (h.1 a)), and_false (name_ok w)) refl

-- variables
pub variable_none : (w : List ℕ) → begins_variable w ≡ false → wrong ≡ variable_of w
unfolding variable_of
variable_none [] h = refl
variable_none (b ∷ []) h = rw (and_false (eqb b 118)) refl
variable_none (b ∷ d ∷ ds) h = let z : (eqb b 118 && plain_digits (d ∷ ds) && ltb (value_from 0 (d ∷ ds)) 64) ≡ false = grind (arith, nat_tests) in rw z refl

one_is : (b : Bool) (x n : ℕ) → tokens (number n ∷ []) ≡ one b (number x) → (b ≡ true) × (x ≡ n)
one_is true x n e = (refl, cc)
one_is false x n e = let z : ◌≡◌ {A = ℕ} 0 1 = cc in absurd (omega arith)

one_not : (b : Bool) (t : Token) → wrong ≡ one b t → b ≡ false
one_not true t e = let z : ◌≡◌ {A = ℕ} 0 1 = cc in absurd (omega arith)
one_not false t e = refl

pub variable_some : (w : List ℕ) (n : ℕ) → begins_variable w ≡ true → tokens (number n ∷ []) ≡ number_of (drop 1 w) → n < 64 → tokens (variable n ∷ []) ≡ variable_of w
unfolding variable_of number_of
variable_some [] n h e l = let z : ◌≡◌ {A = ℕ} 0 1 = cc in absurd (omega arith)
variable_some (b ∷ ds) n h e l =
    let i : ((all_ascii_digits ds && ltb (value_from 0 ds) top) ≡ true) × (value_from 0 ds ≡ n) = one_is (all_ascii_digits ds && ltb (value_from 0 ds) top) (value_from 0 ds) n e in
    let i0 : (all_ascii_digits ds && ltb (value_from 0 ds) top) ≡ true = i.0 in
    let i1 : value_from 0 ds ≡ n = i.1 in
    let z : (eqb b 118 && plain_digits ds && ltb (value_from 0 ds) 64) ≡ true = grind (arith, nat_tests) in
    rw (z, i1) refl

pub variable_big : (w : List ℕ) (n : ℕ) → tokens (number n ∷ []) ≡ number_of (drop 1 w) → 64 ≤ n → wrong ≡ variable_of w
unfolding variable_of number_of
variable_big [] n e l = refl
variable_big (b ∷ ds) n e l =
    let i : ((all_ascii_digits ds && ltb (value_from 0 ds) top) ≡ true) × (value_from 0 ds ≡ n) = one_is (all_ascii_digits ds && ltb (value_from 0 ds) top) (value_from 0 ds) n e in
    let i1 : value_from 0 ds ≡ n = i.1 in
    let y : ltb (value_from 0 ds) 64 ≡ false = grind (arith, nat_tests) in
    rw (y, and_false (eqb b 118 && plain_digits ds)) refl

pub variable_bad : (w : List ℕ) → wrong ≡ number_of (drop 1 w) → wrong ≡ variable_of w
unfolding variable_of number_of
variable_bad [] e = refl
variable_bad (b ∷ ds) e =
    let i : (all_ascii_digits ds && ltb (value_from 0 ds) top) ≡ false = one_not (all_ascii_digits ds && ltb (value_from 0 ds) top) (number (value_from 0 ds)) e in
    let z : (eqb b 118 && plain_digits ds && ltb (value_from 0 ds) 64) ≡ false = grind (arith, nat_tests) in
    rw z refl

-- the code's tail of a word
pub tail_is : (w : List ℕ) → number_of (take (length w - 1) (drop 1 w)) ≡ number_of (drop 1 w)
tail_is w = ap number_of (take_all (length w - 1) (drop 1 w) (simp length-drop (omega arith)))

-- what is left of a number below 64
pub variable_is : (w : List ℕ) (r v : Option ℕ) → begins_variable w ≡ true → numbered r ≡ number_of (take (length w - 1) (drop 1 w)) →
    MatchOption r (v ≡ None) (λ n. v ≡ cond (ltb n 64) (Some n) None) → variabled v ≡ variable_of w
variable_is w None v h e m = rw m (variable_bad w (e ∙ tail_is w))
variable_is w (Some n) v h e m = go (ltb n 64) refl m
  where
    go : (b : Bool) → ltb n 64 ≡ b → v ≡ cond b (Some n) None → variabled v ≡ variable_of w
    go true i m = rw m (variable_some w n h (e ∙ tail_is w) (ltb-true n 64 i))
    go false i m = rw m (variable_big w n (e ∙ tail_is w) (grind (arith, nat_tests)))

-- words
pub word_number : (w : List ℕ) (n : ℕ) → tokens (number n ∷ []) ≡ number_of w → tokens (number n ∷ []) ≡ word_token w
unfolding word_token or_else
word_number w n e = rw (sym e) refl

pub word_key : (w : List ℕ) (k : Key) → wrong ≡ number_of w → tokens (key k ∷ []) ≡ key_of w → tokens (key k ∷ []) ≡ word_token w
unfolding word_token or_else
word_key w k e f = rw (sym e, sym f) refl

pub word_name : (w : List ℕ) → wrong ≡ number_of w → wrong ≡ key_of w → true ≡ word_ok w → tokens (name w ∷ []) ≡ word_token w
unfolding word_token or_else name_of
word_name w e f g = rw (sym e, sym f, sym g) refl

pub word_other : (w : List ℕ) (r : Lexed) → wrong ≡ number_of w → wrong ≡ key_of w → false ≡ word_ok w → r ≡ variable_of w → r ≡ word_token w
unfolding word_token or_else name_of
word_other w r e f g h = rw (sym e, sym f, sym g, sym h) refl
