-- What the lexer finds is the first token of what is ahead. Assumes nothing.
use Rattle.std.proofs.Common.{◌≡◌, ℕ, suc, ◌+◌, ◌-◌, ◌<◌, ◌≤◌, true, false, eqb, List, [], ◌∷◌, length, get_or, take, drop, sym, refl, ap, ◌∙◌, add-one, arith, length-drop, length-take, drop-cons}
use Rattle.std.proofs.lemmas.Bool.Decides.{nat_tests}
use Rattle.text.specs.Lexer.{Lexed, both, ended, word_token, word_byte, sign_of, sign_at, word, goes, gives, lex, tokens_in}
use Rattle.text.specs.Gaps.{goes_on}
use Rattle.text.proofs.Lexed.{both_nil}

sign_first : (b : ℕ) (bs : List ℕ) → word_byte b ≡ false → goes_on false b ≡ false → lex (word []) (b ∷ bs) ≡ both (sign_of b) (lex (word []) bs)
unfolding lex gives goes ended sign_at
sign_first b bs h g = let k : eqb b 35 ≡ false = grind (arith, nat_tests) in rw (h, g, k, both_nil (sign_of b)) refl

pub sign_found : (text : List ℕ) (from start : ℕ) (m : Lexed) → start < length text → tokens_in (drop start text) ≡ tokens_in (drop from text) → word_byte (get_or text start 0) ≡ false → goes_on false (get_or text start 0) ≡ false →
    m ≡ sign_of (get_or text start 0) → tokens_in (drop from text) ≡ both m (tokens_in (drop (start + 1) text))
sign_found text from start m l e h g s = sym e ∙ rw (drop-cons text start 0 l, add-one, s) (sign_first (get_or text start 0) (drop (suc start) text) h g)

ended_some : (w : List ℕ) → 0 < length w → ended w ≡ word_token w
unfolding ended
ended_some [] l = absurd (omega arith)
ended_some (b ∷ bs) l = refl

pub word_found : (text : List ℕ) (from start next : ℕ) (m : Lexed) → start < next → next ≤ length text → tokens_in (drop start text) ≡ tokens_in (drop from text) →
    both (ended (take (next - start) (drop start text))) (tokens_in (drop next text)) ≡ tokens_in (drop start text) → m ≡ word_token (take (next - start) (drop start text)) →
    tokens_in (drop from text) ≡ both m (tokens_in (drop next text))
word_found text from start next m l k e s h =
    let some : 0 < length (take (next - start) (drop start text)) = simp (length-take, length-drop) (omega arith) in
    sym e ∙ (sym s ∙ ap (λ r. both r (tokens_in (drop next text))) (ended_some (take (next - start) (drop start text)) some ∙ sym h))

pub never_stops : false ≡ true → ⊥
never_stops h = let z : ◌≡◌ {A = ℕ} 0 1 = cc in omega arith
