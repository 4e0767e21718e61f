-- What stands in the head of a statement, and behind it. Assumes nothing.
use Rattle.std.proofs.Common.{◌≡◌, ℕ, zero, suc, ◌+◌, ◌-◌, ◌*◌, ◌<◌, ◌≤◌, true, false, ◌&&◌, eqb, ltb, leb, List, [], ◌∷◌, ◌++◌, length, get_or, take, drop, replicate, codes, decimal, Result, sym, refl, ap, ◌∙◌, subst, append_assoc, arith, length-append, length-drop}
use lib.ListN.{length-replicate}
use Rattle.std.proofs.lemmas.Bool.Decides.{nat_tests}
use Rattle.std.proofs.lemmas.List.{get_or-drop, take_at, take-replicate}
use Rattle.plans.specs.Plan.{Name, every, word_ok, Expr, sizes, Set, Do, Sleep, Hear, Return, FailNow}
use Rattle.plans.specs.Flat.{code_of, codes_of, padded, entry, way_word, lay_stmt}
use Rattle.text.specs.Grammar.{compare}
use Rattle.text.specs.Printer.{expr_text, args_text, eol}
use Rattle.printing.specs.Said.{Spoke}
use Rattle.printing.specs.Heads.{units_in, letters_in, StmtAt, told}
use Rattle.printing.specs.declared.PrintError.{PrintError}
use Rattle.printing.proofs.Adds.{seq, then_spoke, spoke_as}
use Rattle.printing.proofs.Shapes.{past}
use Rattle.printing.proofs.Units.{args_past, length_codes}

pub nth_at : (ws xs : List ℕ) (at i : ℕ) → drop at ws ≡ xs → get_or ws (at + i) 0 ≡ get_or xs i 0
nth_at ws xs at i e = sym (get_or-drop at ws i 0) ∙ ap (λ (l : List ℕ). get_or l i 0) e

pub room_for : (ws xs : List ℕ) (at n : ℕ) → drop at ws ≡ xs → 0 < n → n ≤ length xs → at + n ≤ length ws
room_for ws xs at n e p h = omega (arith, length-drop at ws, ap length e)

pub past4 : (ws xs : List ℕ) (at a b c d : ℕ) → drop at ws ≡ a ∷ b ∷ c ∷ d ∷ xs → drop (at + 4) ws ≡ xs
past4 ws xs at a b c d e = past ws (a ∷ b ∷ c ∷ d ∷ []) xs at e

-- one expression behind a head
module _ (ws : List ℕ) (at : ℕ) (e : Expr) (rest : List ℕ) where
  pub set_value : (v : ℕ) → StmtAt ws at (Set v e) rest → drop (at + 4) ws ≡ code_of e ++ rest
  unfolding lay_stmt
  set_value v x = past4 ws _ at _ _ _ _ x.is

  pub set_variable : (v : ℕ) → StmtAt ws at (Set v e) rest → get_or ws (at + 1) 0 ≡ v
  unfolding lay_stmt
  set_variable v x = nth_at ws _ at 1 x.is

  pub sleep_value : StmtAt ws at (Sleep e) rest → drop (at + 4) ws ≡ code_of e ++ rest
  unfolding lay_stmt
  sleep_value x = past4 ws _ at _ _ _ _ x.is

  pub return_value : StmtAt ws at (Return e) rest → drop (at + 4) ws ≡ code_of e ++ rest
  unfolding lay_stmt
  return_value x = past4 ws _ at _ _ _ _ x.is

pub fail_past : (ws : List ℕ) (at : ℕ) (rest : List ℕ) → StmtAt ws at FailNow rest → drop (at + 4) ws ≡ rest
unfolding lay_stmt
fail_past ws at rest x = past4 ws rest at _ _ _ _ x.is

pub set_said : (d v w : ℕ) (e : Expr) → w ≡ v → codes "set " ++ ((codes "v" ++ decimal w) ++ (codes " = " ++ (expr_text compare e ++ eol))) ≡ told d (Set v e)
unfolding told
set_said d v w e h = ap (λ (x : ℕ). codes "set v" ++ (decimal x ++ (codes " = " ++ (expr_text compare e ++ eol)))) h

-- a task
do_told : (d v k : ℕ) (es : List Expr) (n p : ℕ) → (codes "v" ++ (decimal v ++ (codes " = do " ++ (decimal k ++ codes " (")))) ++ (args_text es ++ (codes ") tries " ++ (decimal n ++ (codes " pause " ++ (decimal p ++ eol))))) ≡ told d (Do v k es n p)
unfolding told
do_told d v k es n p = simp append_assoc

module _ (ws : List ℕ) (at v k : ℕ) (es : List Expr) (n p : ℕ) (rest : List ℕ) (x : StmtAt ws at (Do v k es n p) rest) where
  pub do_room : at + 16 ≤ length ws
  unfolding lay_stmt
  do_room = room_for ws _ at 16 x.is (omega arith) (omega arith)

  pub do_variable : get_or ws (at + 1) 0 ≡ v
  unfolding lay_stmt
  do_variable = nth_at ws _ at 1 x.is

  pub do_kind : get_or ws (at + 4) 0 ≡ k
  unfolding lay_stmt
  do_kind = nth_at ws _ at 4 x.is

  pub do_tries : get_or ws (at + 5) 0 ≡ n
  unfolding lay_stmt
  do_tries = nth_at ws _ at 5 x.is

  pub do_pause : get_or ws (at + 6) 0 ≡ p
  unfolding lay_stmt
  do_pause = nth_at ws _ at 6 x.is

  pub do_count : get_or ws (at + 7) 0 ≡ length es
  unfolding lay_stmt
  do_count = nth_at ws _ at 7 x.is

  pub do_args : drop (at + 16) ws ≡ codes_of es ++ rest
  unfolding lay_stmt
  do_args = past ws (entry 2 (suc x.deep) ∷ v ∷ x.next ∷ way_word x.way ∷ k ∷ n ∷ p ∷ length es ∷ 0 ∷ 0 ∷ 0 ∷ 0 ∷ 0 ∷ 0 ∷ 0 ∷ 0 ∷ []) (codes_of es ++ rest) at x.is

  pub do_end : (end : ℕ) → end ≡ at + 16 + units_in (drop (at + 16) ws) → end ≡ at + 16 + 4 * sizes es
  do_end end h = args_past ws rest (at + 16) end es do_args x.stop h

  pub do_past : (end : ℕ) → end ≡ at + 16 + units_in (drop (at + 16) ws) → drop end ws ≡ rest
  do_past end h =
      let a : at + 16 + length (codes_of es) ≡ end = omega (arith, do_end end h, length_codes es) in
      subst (λ (j : ℕ). drop j ws ≡ rest) a (past ws (codes_of es) rest (at + 16) do_args)

  pub do_said : (d : ℕ) (old m1 m2 m3 : List ℕ) →
      m1 ≡ old ++ (codes "v" ++ (decimal (get_or ws (at + 1) 0) ++ (codes " = do " ++ (decimal (get_or ws (at + 4) 0) ++ codes " (")))) → m2 ≡ m1 ++ args_text es →
      m3 ≡ m2 ++ (codes ") tries " ++ (decimal (get_or ws (at + 5) 0) ++ (codes " pause " ++ (decimal (get_or ws (at + 6) 0) ++ eol)))) → m3 ≡ old ++ told d (Do v k es n p)
  do_said d old m1 m2 m3 e1 e2 e3 = seq old m1 m3 _ _ e1 (seq m1 m2 m3 _ _ e2 e3) ∙ rw (do_variable, do_kind, do_tries, do_pause) (ap (λ (t : List ℕ). old ++ t) (do_told d v k es n p))

-- names
zeros : (k : ℕ) → letters_in (replicate k 0) ≡ []
unfolding letters_in
zeros zero = refl
zeros (suc k) = refl

letters_before : (n : List ℕ) (k : ℕ) → every (λ (b : ℕ). leb 97 b && leb b 122) n ≡ true → letters_in (n ++ replicate k 0) ≡ n
unfolding letters_in every
letters_before [] k h = zeros k
letters_before (b ∷ n) k h =
    let z : eqb b 0 ≡ false = grind (arith, nat_tests) in
    let q : every (λ (b : ℕ). leb 97 b && leb b 122) n ≡ true = grind (arith, nat_tests) in
    rw (z, letters_before n k q) refl

small_zeros : (k : ℕ) → every (λ (b : ℕ). ltb b 256) (replicate k 0) ≡ true
unfolding every
small_zeros zero = refl
small_zeros (suc k) = small_zeros k

small_before : (n : List ℕ) (k : ℕ) → every (λ (b : ℕ). ltb b 256) n ≡ true → every (λ (b : ℕ). ltb b 256) (n ++ replicate k 0) ≡ true
unfolding every
small_before [] k h = small_zeros k
small_before (b ∷ n) k h =
    let z : ltb b 256 ≡ true = grind (arith, nat_tests) in
    let q : every (λ (b : ℕ). ltb b 256) n ≡ true = grind (arith, nat_tests) in
    rw (z, small_before n k q) refl

padded_through : (n : List ℕ) (k m : ℕ) → length n ≤ k → k ≤ length n + m → take k (n ++ replicate m 0) ≡ n ++ replicate (k - length n) 0
padded_through [] k m h l = let z : k - 0 ≡ k = omega arith in take-replicate k m 0 (omega arith) ∙ ap (λ (i : ℕ). replicate i 0) (sym z)
padded_through (b ∷ n) zero m h l = absurd (omega arith)
padded_through (b ∷ n) (suc k) m h l =
    let z : k - length n ≡ suc k - suc (length n) = omega arith in
    ap (λ (x : List ℕ). b ∷ x) (padded_through n k m (omega arith) (omega arith) ∙ ap (λ (i : ℕ). n ++ replicate i 0) z)

name_padded : (n : Name) → word_ok n ≡ true → padded n ≡ n ++ replicate (64 - length n) 0
unfolding padded
name_padded n h =
    let q : leb (length n) 64 ≡ true = grind (arith, nat_tests) in
    let r : length n ≤ 64 = grind (arith, nat_tests) in
    padded_through n 64 64 r (omega arith)

pub name_letters : (n : Name) → word_ok n ≡ true → letters_in (padded n) ≡ n
name_letters n h =
    let q : every (λ (b : ℕ). leb 97 b && leb b 122) n ≡ true = grind (arith, nat_tests) in
    ap letters_in (name_padded n h) ∙ letters_before n (64 - length n) q

pub name_small : (n : Name) → word_ok n ≡ true → every (λ (b : ℕ). ltb b 256) (padded n) ≡ true
name_small n h =
    let q : every (λ (b : ℕ). ltb b 256) n ≡ true = grind (arith, nat_tests) in
    ap (λ (x : List ℕ). every (λ (b : ℕ). ltb b 256) x) (name_padded n h) ∙ small_before n (64 - length n) q

name_length : (n : Name) → word_ok n ≡ true → length (padded n) ≡ 64
name_length n h =
    let q : leb (length n) 64 ≡ true = grind (arith, nat_tests) in
    let r : length n ≤ 64 = grind (arith, nat_tests) in
    omega (arith, ap length (name_padded n h), length-append n (replicate (64 - length n) 0), length-replicate {A = ℕ} (64 - length n) 0)

hear_told : (d v w : ℕ) (n : Name) (e : Expr) →
    (codes "v" ++ decimal v) ++ (codes ", " ++ ((codes "v" ++ decimal w) ++ (codes " = hear " ++ (n ++ (codes " for " ++ (expr_text compare e ++ eol)))))) ≡ told d (Hear v w n e)
unfolding told
hear_told d v w n e = refl

module _ (ws : List ℕ) (at v w : ℕ) (n : Name) (e : Expr) (rest : List ℕ) (x : StmtAt ws at (Hear v w n e) rest) (ok : word_ok n ≡ true) where
  hear_tail : drop (at + 4) ws ≡ padded n ++ (code_of e ++ rest)
  unfolding lay_stmt
  hear_tail = past4 ws _ at _ _ _ _ x.is ∙ append_assoc (padded n) (code_of e) rest

  pub hear_value : drop (at + 68) ws ≡ code_of e ++ rest
  hear_value =
      let a : at + 4 + length (padded n) ≡ at + 68 = omega (arith, name_length n ok) in
      subst (λ (k : ℕ). drop k ws ≡ code_of e ++ rest) a (past ws (padded n) (code_of e ++ rest) (at + 4) hear_tail)

  pub hear_room : at + 68 ≤ length ws
  hear_room = omega (arith, length-drop (at + 4) ws, ap length hear_tail, length-append (padded n) (code_of e ++ rest), name_length n ok)

  pub hear_name : take (at + 68 - (at + 4)) (drop (at + 4) ws) ≡ padded n
  hear_name =
      let a : at + 68 - (at + 4) ≡ 64 = omega arith in
      ap (λ (k : ℕ). take k (drop (at + 4) ws)) a ∙ (ap (λ (l : List ℕ). take 64 l) hear_tail ∙ take_at (padded n) (code_of e ++ rest) 64 (name_length n ok))

  pub hear_variable : get_or ws (at + 1) 0 ≡ v
  unfolding lay_stmt
  hear_variable = nth_at ws _ at 1 x.is

  pub hear_came : get_or ws (at + 3) 0 ≡ w
  unfolding lay_stmt
  hear_came = nth_at ws _ at 3 x.is

  pub hear_small : every (λ (b : ℕ). ltb b 256) (take (at + 68 - (at + 4)) (drop (at + 4) ws)) ≡ true
  hear_small = ap (λ (l : List ℕ). every (λ (b : ℕ). ltb b 256) l) hear_name ∙ name_small n ok

  pub hear_letters : letters_in (take (at + 68 - (at + 4)) (drop (at + 4) ws)) ≡ n
  hear_letters = ap letters_in hear_name ∙ name_letters n ok

  pub hear_said : (d : ℕ) (r : Result ℕ PrintError) (old m1 m2 m3 m4 m5 new : List ℕ) →
      m1 ≡ old ++ (codes "v" ++ decimal (get_or ws (at + 1) 0)) → m2 ≡ m1 ++ codes ", " → m3 ≡ m2 ++ (codes "v" ++ decimal (get_or ws (at + 3) 0)) → m4 ≡ m3 ++ codes " = hear " →
      m5 ≡ m4 ++ letters_in (take (at + 68 - (at + 4)) (drop (at + 4) ws)) → Spoke r ws rest m5 (codes " for " ++ (expr_text compare e ++ eol)) new → Spoke r ws rest old (told d (Hear v w n e)) new
  hear_said d r old m1 m2 m3 m4 m5 new e1 e2 e3 e4 e5 h =
      let f1 : m1 ≡ old ++ (codes "v" ++ decimal v) = e1 ∙ ap (λ (k : ℕ). old ++ (codes "v" ++ decimal k)) hear_variable in
      let f3 : m3 ≡ m2 ++ (codes "v" ++ decimal w) = e3 ∙ ap (λ (k : ℕ). m2 ++ (codes "v" ++ decimal k)) hear_came in
      let f5 : m5 ≡ m4 ++ n = e5 ∙ ap (λ (l : List ℕ). m4 ++ l) hear_letters in
      spoke_as r ws rest old new _ _ (hear_told d v w n e)
      (then_spoke r ws rest old m1 new _ _ f1 (then_spoke r ws rest m1 m2 new _ _ e2 (then_spoke r ws rest m2 m3 new _ _ f3 (then_spoke r ws rest m3 m4 new _ _ e4 (then_spoke r ws rest m4 m5 new _ _ f5 h)))))
