-- How long drafts and flat forms are, and what stands where in a draft.
use Rattle.std.proofs.Common.{◌≡◌, ℕ, suc, ◌+◌, ◌-◌, ◌*◌, ◌≤◌, List, [], ◌∷◌, ◌++◌, length, get_or, take, drop, replicate, sym, refl, ap, ◌∙◌, subst, add-zero, arith, length-append, length-drop, length-take-le}
use lib.ListN.{length-replicate}
use lib.Seq.{take-append_seam, drop-append_seam}
use Rattle.std.proofs.lemmas.List.{get_or-drop, drop-drop}
use Rattle.plans.specs.Plan.{Name, Expr, Lit, Var, Plus, Minus, Times, Less, Same, Not, Stmt, Set, Do, Sleep, Hear, If, While, Guard, Return, FailNow, Block, done, then, expr_size, sizes, stmt_size, size_of}
use Rattle.plans.specs.Flat.{Way, code_of, codes_of, padded, draft_stmt, draft_of, under, go_on, lay_stmt, lay}

length_three : (xs ys zs : List ℕ) → length (xs ++ (ys ++ zs)) ≡ length xs + (length ys + length zs)
length_three xs ys zs = length-append xs (ys ++ zs) ∙ ap (λ (n : ℕ). length xs + n) (length-append ys zs)

pub code_length : (e : Expr) → length (code_of e) ≡ 4 * expr_size e
unfolding code_of expr_size
code_length (Lit n) = refl
code_length (Var v) = refl
code_length (Plus a b) = let x = code_length a in let y = code_length b in length_three (code_of a) (code_of b) _ ∙ omega arith
code_length (Minus a b) = let x = code_length a in let y = code_length b in length_three (code_of a) (code_of b) _ ∙ omega arith
code_length (Times a b) = let x = code_length a in let y = code_length b in length_three (code_of a) (code_of b) _ ∙ omega arith
code_length (Less a b) = let x = code_length a in let y = code_length b in length_three (code_of a) (code_of b) _ ∙ omega arith
code_length (Same a b) = let x = code_length a in let y = code_length b in length_three (code_of a) (code_of b) _ ∙ omega arith
code_length (Not a) = let x = code_length a in length-append (code_of a) _ ∙ omega arith

pub codes_length : (es : List Expr) → length (codes_of es) ≡ 4 * sizes es
unfolding codes_of sizes
codes_length [] = refl
codes_length (e ∷ es) = let x = code_length e in let y = codes_length es in length-append (code_of e) (codes_of es) ∙ omega arith

pub padded_length : (n : Name) → length (padded n) ≡ 64
unfolding padded
padded_length n = length-take-le 64 (n ++ replicate 64 0) (simp (length-append, length-replicate) (omega arith))

mutual
  unfolding draft_stmt draft_of stmt_size size_of

  pub stmt_length : (s : Stmt) → length (draft_stmt s) ≡ 4 * stmt_size s
  stmt_length (Set v e) = let x = code_length e in omega arith
  stmt_length (Do v k es t p) = let x = codes_length es in omega arith
  stmt_length (Sleep e) = let x = code_length e in omega arith
  stmt_length (Hear v w n e) = let x = code_length e in let y = padded_length n in let z = length-append (padded n) (code_of e) in omega arith
  stmt_length (If e x y) = let a = code_length e in let b = draft_length x in let c = draft_length y in let z = length_three (code_of e) (draft_of x) (draft_of y) in omega arith
  stmt_length (While e x) = let a = code_length e in let b = draft_length x in let z = length-append (code_of e) (draft_of x) in omega arith
  stmt_length (Guard x y) = let b = draft_length x in let c = draft_length y in let z = length-append (draft_of x) (draft_of y) in omega arith
  stmt_length (Return e) = let x = code_length e in omega arith
  stmt_length FailNow = refl

  pub draft_length : (b : Block) → length (draft_of b) ≡ 4 * size_of b
  draft_length done = refl
  draft_length (then s b) = let x = stmt_length s in let y = draft_length b in length-append (draft_stmt s) (draft_of b) ∙ omega arith

mutual
  unfolding lay_stmt lay stmt_size size_of

  pub lay_stmt_length : (s : Stmt) (a next : ℕ) (way : Way) (u d : ℕ) → length (lay_stmt a s next way u d) ≡ 4 * stmt_size s
  lay_stmt_length (Set v e) a next way u d = let x = code_length e in omega arith
  lay_stmt_length (Do v k es t p) a next way u d = let x = codes_length es in omega arith
  lay_stmt_length (Sleep e) a next way u d = let x = code_length e in omega arith
  lay_stmt_length (Hear v w n e) a next way u d = let x = code_length e in let y = padded_length n in let z = length-append (padded n) (code_of e) in omega arith
  lay_stmt_length (If e x y) a next way u d =
      let p = code_length e in
      let q = lay_length x (a + (4 + 4 * expr_size e)) next way u in
      let r = lay_length y (a + (4 + 4 * expr_size e) + 4 * size_of x) next way u in
      let z = length_three (code_of e) (lay (a + (4 + 4 * expr_size e)) x next way u) (lay (a + (4 + 4 * expr_size e) + 4 * size_of x) y next way u) in
      omega arith
  lay_stmt_length (While e x) a next way u d =
      let p = code_length e in
      let q = lay_length x (a + (4 + 4 * expr_size e)) (suc a) way (suc u) in
      let z = length-append (code_of e) (lay (a + (4 + 4 * expr_size e)) x (suc a) way (suc u)) in
      omega arith
  lay_stmt_length (Guard x y) a next way u d =
      let q = lay_length x (a + 4) (suc a) (Way.To (a + 4 + 4 * size_of x)) (suc u) in
      let r = lay_length y (a + 4 + 4 * size_of x) next way u in
      let z = length-append (lay (a + 4) x (suc a) (Way.To (a + 4 + 4 * size_of x)) (suc u)) (lay (a + 4 + 4 * size_of x) y next way u) in
      omega arith
  lay_stmt_length (Return e) a next way u d = let x = code_length e in omega arith
  lay_stmt_length FailNow a next way u d = refl

  pub lay_length : (b : Block) (a next : ℕ) (way : Way) (n : ℕ) → length (lay a b next way n) ≡ 4 * size_of b
  lay_length done a next way n = refl
  lay_length (then s b) a next way n =
      let x = lay_stmt_length s a (go_on b (a + 4 * stmt_size s) next) way (under b n) (suc n) in
      let y = lay_length b (a + 4 * stmt_size s) next way n in
      length-append (lay_stmt a s (go_on b (a + 4 * stmt_size s) next) way (under b n) (suc n)) (lay (a + 4 * stmt_size s) b next way n) ∙ omega arith

-- what stands at an address, and behind it
pub record Head (ds : List ℕ) (at a b c d : ℕ) (tail : List ℕ) : Type 0 where
  pub first : get_or ds at 0 ≡ a
  pub second : get_or ds (at + 1) 0 ≡ b
  pub third : get_or ds (at + 2) 0 ≡ c
  pub fourth : get_or ds (at + 3) 0 ≡ d
  pub behind : drop (at + 4) ds ≡ tail
  pub whole : at + (4 + length tail) ≤ length ds

pub head_of : (ds : List ℕ) (at a b c d : ℕ) (tail : List ℕ) → drop at ds ≡ a ∷ b ∷ c ∷ d ∷ tail → Head ds at a b c d tail
head_of ds at a b c d tail h =
    record {
      first = subst (λ (k : ℕ). get_or ds k 0 ≡ a) (add-zero at) (nth 0 refl);
      second = nth 1 refl;
      third = nth 2 refl;
      fourth = nth 3 refl;
      behind = sym (drop-drop 4 at ds) ∙ ap (drop 4) h;
      whole = let l : length ds - at ≡ 4 + length tail = sym (length-drop at ds) ∙ (ap length h ∙ omega arith) in omega arith;
    }
  where
    nth : (k : ℕ) → {x : ℕ} → get_or (a ∷ b ∷ c ∷ d ∷ tail) k 0 ≡ x → get_or ds (at + k) 0 ≡ x
    nth k e = sym (get_or-drop at ds k 0) ∙ (ap (λ (l : List ℕ). get_or l k 0) h ∙ e)

-- the front of what is behind an address
pub front_of : (ds : List ℕ) (at n : ℕ) (xs rest : List ℕ) → drop at ds ≡ xs ++ rest → length xs ≡ n → take n (drop at ds) ≡ xs
front_of ds at n xs rest h l = subst (λ (k : ℕ). take k (drop at ds) ≡ xs) l (ap (take (length xs)) h ∙ take-append_seam xs rest)

pub rest_of : (ds : List ℕ) (at n : ℕ) (xs rest : List ℕ) → drop at ds ≡ xs ++ rest → length xs ≡ n → drop (at + n) ds ≡ rest
rest_of ds at n xs rest h l = subst (λ (k : ℕ). drop (at + k) ds ≡ rest) l (sym (drop-drop (length xs) at ds) ∙ (ap (drop (length xs)) h ∙ drop-append_seam xs rest))
