-- A word against the words of the language, letter by letter.
use Rattle.std.proofs.Common.{◌≡◌, ℕ, suc, Bool, true, false, cond, ◌&&◌, eqb, List, [], ◌∷◌, length, get_or, codes, refl, ap, arith}
use Rattle.std.proofs.lemmas.Bool.Decides.{nat_tests}
use Rattle.plans.specs.Plan.{same_name}
use Rattle.text.specs.Token.{SET, DO, TRIES, PAUSE, SLEEP, HEAR, FOR, IF, ELSE, WHILE, GUARD, RETURN, FAIL, NOT, key}
use Rattle.text.specs.Lexer.{wrong, tokens, spell, key_in, key_of}

-- the letters from a place on
abbrev pub letters : List ℕ → List ℕ → ℕ → Bool
letters [] w k = true
letters (b ∷ bs) w k = eqb (get_or w k 0) b && letters bs w (suc k)

abbrev pub spelt : List ℕ → List ℕ → ℕ → Bool
spelt bs w k = eqb (length w) (length bs) && letters bs w k

letters_more : (bs : List ℕ) (x : ℕ) (w : List ℕ) (k : ℕ) → letters bs (x ∷ w) (suc k) ≡ letters bs w k
letters_more [] x w k = refl
letters_more (b ∷ bs) x w k = ap (λ (t : Bool). eqb (get_or w k 0) b && t) (letters_more bs x w (suc k))

and_swap : (a b c : Bool) → a && (b && c) ≡ b && (a && c)
and_swap true b c = refl
and_swap false true c = refl
and_swap false false c = refl

eqb_sym : (a b : ℕ) → eqb a b ≡ eqb b a
eqb_sym a b = grind (arith, nat_tests)

eqb_suc : (a b : ℕ) → eqb (suc a) (suc b) ≡ eqb a b
eqb_suc a b = grind (arith, nat_tests)

same_spelt : (bs w : List ℕ) → same_name bs w ≡ spelt bs w 0
unfolding same_name
same_spelt [] [] = refl
same_spelt [] (x ∷ w) = grind (arith, nat_tests)
same_spelt (b ∷ bs) [] = grind (arith, nat_tests)
same_spelt (b ∷ bs) (x ∷ w) = rw (eqb_sym b x, same_spelt bs w, letters_more bs x w 0, eqb_suc (length w) (length bs)) (and_swap (eqb x b) (eqb (length w) (length bs)) (letters bs w 0))

pub key_letters : (w : List ℕ) → key_of w ≡
    cond (spelt (codes "set") w 0) (tokens (key SET ∷ []))
    (cond (spelt (codes "do") w 0) (tokens (key DO ∷ []))
    (cond (spelt (codes "tries") w 0) (tokens (key TRIES ∷ []))
    (cond (spelt (codes "pause") w 0) (tokens (key PAUSE ∷ []))
    (cond (spelt (codes "sleep") w 0) (tokens (key SLEEP ∷ []))
    (cond (spelt (codes "hear") w 0) (tokens (key HEAR ∷ []))
    (cond (spelt (codes "for") w 0) (tokens (key FOR ∷ []))
    (cond (spelt (codes "if") w 0) (tokens (key IF ∷ []))
    (cond (spelt (codes "else") w 0) (tokens (key ELSE ∷ []))
    (cond (spelt (codes "while") w 0) (tokens (key WHILE ∷ []))
    (cond (spelt (codes "guard") w 0) (tokens (key GUARD ∷ []))
    (cond (spelt (codes "return") w 0) (tokens (key RETURN ∷ []))
    (cond (spelt (codes "fail") w 0) (tokens (key FAIL ∷ []))
    (cond (spelt (codes "not") w 0) (tokens (key NOT ∷ [])) wrong)))))))))))))
unfolding key_of key_in spell
key_letters w = rw (same_spelt (codes "set") w, same_spelt (codes "do") w, same_spelt (codes "tries") w, same_spelt (codes "pause") w, same_spelt (codes "sleep") w, same_spelt (codes "hear") w, same_spelt (codes "for") w, same_spelt (codes "if") w, same_spelt (codes "else") w, same_spelt (codes "while") w, same_spelt (codes "guard") w, same_spelt (codes "return") w, same_spelt (codes "fail") w, same_spelt (codes "not") w) refl
