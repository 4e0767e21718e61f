-- The turns of the loops that read a text's bytes. Assumes nothing.
use Rattle.std.proofs.Common.{◌≡◌, ℕ, zero, suc, ◌+◌, ◌-◌, ◌<◌, ◌≤◌, Bool, true, false, cond, not, eqb, List, [], ◌∷◌, length, get_or, take, drop, Some, None, Option, sym, refl, ap, ◌∙◌, subst, le_refl, add-one, arith, length-drop, drop-cons}
use Rattle.std.proofs.lemmas.Bool.Decides.{nat_tests}
use Rattle.std.proofs.lemmas.List.{drop_all, drop-drop, take_all, take-append-drop}
use Rattle.std.specs.List.{AllWithin, HoldsAt, slice_range}
use Rattle.std.specs.Option.{MatchOption, unwrap_or}
use Rattle.plans.specs.Plan.{every}
use Rattle.text.specs.Lexer.{both, ended, word_byte, sign_at, word, remark, goes, gives, lex, tokens_in}
use Rattle.text.specs.Gaps.{goes_on, in_remark, mode_of}
use Rattle.text.proofs.Lexed.{both_nil, apart, lex_word}

gap_word : (b : ℕ) → goes_on false b ≡ true → word_byte b ≡ false
gap_word b h = grind (arith, nat_tests)

gap_byte : (r : Bool) (b : ℕ) (bs : List ℕ) → goes_on r b ≡ true → lex (mode_of (in_remark r b)) bs ≡ lex (mode_of r) (b ∷ bs)
unfolding lex gives goes ended sign_at both
gap_byte true b bs h = rw both_nil (go (eqb b 10))
  where
    go : (x : Bool) → lex (mode_of (not x)) bs ≡ lex (cond x (word []) remark) bs
    go true = refl
    go false = refl
gap_byte false b bs h = rw (gap_word b h, h, both_nil) (go (eqb b 35))
  where
    go : (x : Bool) → lex (mode_of x) bs ≡ lex (cond x remark (word [])) bs
    go true = refl
    go false = refl

pub gap_turn : (text : List ℕ) (pos : ℕ) (r s : Bool) → pos < length text → goes_on r (get_or text pos 0) ≡ true → s ≡ in_remark r (get_or text pos 0) →
    lex (mode_of s) (drop (pos + 1) text) ≡ lex (mode_of r) (drop pos text)
gap_turn text pos r s l h e = rw (drop-cons text pos 0 l, e, add-one) (gap_byte r (get_or text pos 0) (drop (suc pos) text) h)

mode_end : (r : Bool) → lex (mode_of r) [] ≡ lex (word []) []
unfolding lex ended
mode_end true = refl
mode_end false = refl

pub gap_end : (text : List ℕ) (pos : ℕ) (r : Bool) → length text ≤ pos → tokens_in (drop pos text) ≡ lex (mode_of r) (drop pos text)
gap_end text pos r l = rw (drop_all pos text l) (sym (mode_end r))

-- words
every_within : (d : List ℕ) (n : ℕ) → AllWithin (λ b. word_byte b ≡ true) d 0 n → n ≤ length d → every word_byte (take n d) ≡ true
unfolding every
every_within d zero a l = refl
every_within [] (suc n) a l = absurd (omega arith)
every_within (x ∷ xs) (suc n) a l =
    let first : word_byte x ≡ true = a 0 0 (omega arith) (omega arith) in
    rw (first, every_within xs n (λ k d lo hi. a (suc k) d (omega arith) (omega arith)) (omega arith)) refl

word_front : (d : List ℕ) (n : ℕ) → AllWithin (λ b. word_byte b ≡ true) d 0 n → n ≤ length d → apart (drop n d) ≡ true → both (ended (take n d)) (tokens_in (drop n d)) ≡ tokens_in d
word_front d n a l h = sym (lex_word [] (take n d) (drop n d) (every_within d n a l) h) ∙ ap tokens_in (take-append-drop n d)

-- the word that begins at a place ends before the first byte that is part of none
pub word_taken : (text : List ℕ) (from : ℕ) (r : Option ℕ) (n : ℕ) → from ≤ length text →
    MatchOption r (AllWithin (λ b. word_byte b ≡ true) (take (length text - from) (drop from text)) 0 (length (take (length text - from) (drop from text))))
    (λ i. (i < length (take (length text - from) (drop from text))) × HoldsAt (λ b. word_byte b ≡ false) (take (length text - from) (drop from text)) i × AllWithin (λ b. word_byte b ≡ true) (take (length text - from) (drop from text)) 0 i) →
    n ≡ unwrap_or r (length (take (length text - from) (drop from text))) →
    both (ended (slice_range text from (from + n))) (tokens_in (drop (from + n) text)) ≡ tokens_in (drop from text)
word_taken text from r n l m e =
    let whole : take (length text - from) (drop from text) ≡ drop from text = take_all (length text - from) (drop from text) (simp length-drop (omega arith)) in
    let size : from + n - from ≡ n = omega arith in
    rw (size, sym (drop-drop n from text)) (go r (e ∙ ap (λ (d : List ℕ). unwrap_or r (length d)) whole) (subst (λ (d : List ℕ). Found r d) whole m))
  where
    Found : Option ℕ → List ℕ → Type 0
    Found r d = MatchOption r (AllWithin (λ b. word_byte b ≡ true) d 0 (length d)) (λ i. (i < length d) × HoldsAt (λ b. word_byte b ≡ false) d i × AllWithin (λ b. word_byte b ≡ true) d 0 i)

    go : (r : Option ℕ) → n ≡ unwrap_or r (length (drop from text)) → Found r (drop from text) → both (ended (take n (drop from text))) (tokens_in (drop n (drop from text))) ≡ tokens_in (drop from text)
    go None e m = word_front (drop from text) n (subst (λ (k : ℕ). AllWithin (λ b. word_byte b ≡ true) (drop from text) 0 k) (sym e) m) (omega (arith, e)) (rw (e, drop_all (length (drop from text)) (drop from text) (le_refl _)) refl)
    go (Some i) e m = word_front (drop from text) n (subst (λ (k : ℕ). AllWithin (λ b. word_byte b ≡ true) (drop from text) 0 k) (sym e) m.2) (omega (arith, e, m.0)) (rw (e, drop-cons (drop from text) i 0 m.0, m.1 0) refl)
