-- The words of a plan are of 64 bits. Assumes nothing.
use Rattle.std.proofs.Common.{◌≡◌, ℕ, suc, ◌+◌, ◌-◌, ◌*◌, ◌<◌, ◌≤◌, true, not, eqb, ltb, leb, List, [], ◌∷◌, ◌++◌, length, arith}
use Rattle.std.proofs.lemmas.Bool.{ltb-true, leb-true, and_parts}
use Rattle.plans.specs.Plan.{Name, Expr, Lit, Var, Plus, Minus, Times, Less, Same, Not, Stmt, Set, Do, Sleep, Hear, If, While, Guard, Return, FailNow, Block, done, then, every, word_ok, name_ok, expr_size, expr_ok, sizes, stmt_size, size_of, stmt_ok, block_ok, top}
use Rattle.plans.specs.Flat.{Way, Nowhere, To, way_word, entry, code_of, codes_of, padded, under, go_on, lay_stmt, lay, laid}
use Rattle.plans.proofs.Parts.{laid_length}
use Rattle.pages.specs.Page.{zeros}
use Rattle.pages.specs.Sound.{Small}
use Rattle.pages.specs.Laid.{LaidFits}
use Rattle.pages.proofs.Codes.{small_append, small_zeros}
use Rattle.pages.proofs.Fitting.{take_small}

unit_small : (a b c d : ℕ) (rest : List ℕ) → a < top → b < top → c < top → d < top → Small rest → Small (a ∷ b ∷ c ∷ d ∷ rest)
unit_small a b c d rest ha hb hc hd s = (ha, (hb, (hc, (hd, s))))

-- expressions --------------------------------------------------------------------

pair_small : (a b : List ℕ) (k n : ℕ) → Small a → Small b → k < top → n < top → Small (a ++ (b ++ (k ∷ n ∷ 0 ∷ 0 ∷ [])))
pair_small a b k n sa sb hk hn = small_append a (b ++ (k ∷ n ∷ 0 ∷ 0 ∷ [])) sa (small_append b (k ∷ n ∷ 0 ∷ 0 ∷ []) sb (unit_small k n 0 0 [] hk hn (omega arith) (omega arith) tt))

code_small : (e : Expr) → expr_ok e ≡ true → expr_size e ≤ 4096 → Small (code_of e)
unfolding code_of expr_ok expr_size
code_small (Lit n) h l = unit_small 16 n 0 0 [] (omega arith) (ltb-true n 18446744073709551616 h) (omega arith) (omega arith) tt
code_small (Var v) h l = unit_small 17 v 0 0 [] (omega arith) (omega (arith, ltb-true v 64 h)) (omega arith) (omega arith) tt
code_small (Plus a b) h l = let k = and_parts (expr_ok a) (expr_ok b) h in pair_small (code_of a) (code_of b) 18 (expr_size b) (code_small a k.0 (omega arith)) (code_small b k.1 (omega arith)) (omega arith) (omega arith)
code_small (Minus a b) h l = let k = and_parts (expr_ok a) (expr_ok b) h in pair_small (code_of a) (code_of b) 19 (expr_size b) (code_small a k.0 (omega arith)) (code_small b k.1 (omega arith)) (omega arith) (omega arith)
code_small (Times a b) h l = let k = and_parts (expr_ok a) (expr_ok b) h in pair_small (code_of a) (code_of b) 20 (expr_size b) (code_small a k.0 (omega arith)) (code_small b k.1 (omega arith)) (omega arith) (omega arith)
code_small (Less a b) h l = let k = and_parts (expr_ok a) (expr_ok b) h in pair_small (code_of a) (code_of b) 21 (expr_size b) (code_small a k.0 (omega arith)) (code_small b k.1 (omega arith)) (omega arith) (omega arith)
code_small (Same a b) h l = let k = and_parts (expr_ok a) (expr_ok b) h in pair_small (code_of a) (code_of b) 22 (expr_size b) (code_small a k.0 (omega arith)) (code_small b k.1 (omega arith)) (omega arith) (omega arith)
code_small (Not a) h l = small_append (code_of a) (23 ∷ 0 ∷ 0 ∷ 0 ∷ []) (code_small a h (omega arith)) (unit_small 23 0 0 0 [] (omega arith) (omega arith) (omega arith) (omega arith) tt)

codes_small : (es : List Expr) → every expr_ok es ≡ true → sizes es ≤ 4096 → Small (codes_of es)
unfolding codes_of every sizes
codes_small [] h l = tt
codes_small (e ∷ es) h l = let k = and_parts (expr_ok e) (every expr_ok es) h in small_append (code_of e) (codes_of es) (code_small e k.0 (omega arith)) (codes_small es k.1 (omega arith))

letters_small : (n : Name) → every (λ (b : ℕ). ltb b 256) n ≡ true → Small n
unfolding every
letters_small [] h = tt
letters_small (x ∷ xs) h = let k = and_parts (ltb x 256) (every (λ (b : ℕ). ltb b 256) xs) h in (omega (arith, ltb-true x 256 k.0), letters_small xs k.1)

padded_small : (n : Name) → word_ok n ≡ true → Small (padded n)
unfolding padded
padded_small n h =
    let a = and_parts (name_ok n) _ h in
    let b = and_parts _ (every (λ (b : ℕ). ltb b 256) n) a.0 in
    take_small 64 (n ++ zeros 64) (small_append n (zeros 64) (letters_small n b.1) (small_zeros 64))

-- statements ---------------------------------------------------------------------

size_some : (b : Block) → 1 ≤ size_of b
unfolding size_of
size_some done = omega arith
size_some (then s b) = let h = size_some b in omega arith

under_few : (b : Block) (n : ℕ) → under b n ≤ n + 1
unfolding under
under_few done n = omega arith
under_few (then s b) n = omega arith

go_near : (b : Block) (m next : ℕ) → m ≤ 20000 → next ≤ 20000 → go_on b m next ≤ 20000
unfolding go_on
go_near done m next h k = k
go_near (then s b) m next h k = h

-- addresses are of the plan, and frames are at most twice as many as what is laid
mutual
  unfolding lay_stmt lay stmt_size size_of stmt_ok block_ok way_word

  stmt_small : (s : Stmt) (a next : ℕ) (way : Way) (u d : ℕ) → stmt_ok s ≡ true → a + 4 * stmt_size s ≤ 16384 → next ≤ 20000 → way_word way ≤ 20000 → u + 2 * stmt_size s ≤ 10000 → d ≤ 10000 → Small (lay_stmt a s next way u d)
  stmt_small (Set v e) a next way u d ok l hn hw hu hd =
      let k = and_parts (ltb v 64) _ ok in
      unit_small (entry 1 d) v next 0 (code_of e) (omega arith) (omega (arith, ltb-true v 64 k.0)) (omega arith) (omega arith) (code_small e k.1 (omega arith))
  stmt_small (Do v k es t p) a next way u d ok l hn hw hu hd =
      let k1 = and_parts _ (leb p 86400000) ok in
      let k2 = and_parts _ (leb t 32) k1.0 in
      let k3 = and_parts _ (ltb 0 t) k2.0 in
      let k4 = and_parts _ (every expr_ok es) k3.0 in
      let k5 = and_parts _ (leb (length es) 16) k4.0 in
      let k6 = and_parts (ltb v 64) (ltb k 4294967296) k5.0 in
      let r1 : List ℕ = 0 ∷ 0 ∷ 0 ∷ 0 ∷ codes_of es in
      let r2 : List ℕ = 0 ∷ 0 ∷ 0 ∷ 0 ∷ r1 in
      unit_small (entry 2 d) v next (way_word way) (k ∷ t ∷ p ∷ length es ∷ r2) (omega arith) (omega (arith, ltb-true v 64 k6.0)) (omega arith) (omega arith)
      (unit_small k t p (length es) r2 (omega (arith, ltb-true k 4294967296 k6.1)) (omega (arith, leb-true t 32 k2.1)) (omega (arith, leb-true p 86400000 k1.1)) (omega (arith, leb-true (length es) 16 k5.1))
      (unit_small 0 0 0 0 r1 (omega arith) (omega arith) (omega arith) (omega arith) (unit_small 0 0 0 0 (codes_of es) (omega arith) (omega arith) (omega arith) (omega arith) (codes_small es k4.1 (omega arith)))))
  stmt_small (Sleep e) a next way u d ok l hn hw hu hd = unit_small (entry 3 d) 0 next 0 (code_of e) (omega arith) (omega arith) (omega arith) (omega arith) (code_small e ok (omega arith))
  stmt_small (Hear v w n e) a next way u d ok l hn hw hu hd =
      let k1 = and_parts _ (expr_ok e) ok in
      let k2 = and_parts _ (word_ok n) k1.0 in
      let k3 = and_parts _ (not (eqb v w)) k2.0 in
      let k4 = and_parts (ltb v 64) (ltb w 64) k3.0 in
      unit_small (entry 4 d) v next w (padded n ++ code_of e) (omega arith) (omega (arith, ltb-true v 64 k4.0)) (omega arith) (omega (arith, ltb-true w 64 k4.1)) (small_append (padded n) (code_of e) (padded_small n k2.1) (code_small e k1.1 (omega arith)))
  stmt_small (If e x y) a next way u d ok l hn hw hu hd =
      let k1 = and_parts _ (block_ok y) ok in
      let k2 = and_parts (expr_ok e) (block_ok x) k1.0 in
      let yes0 : ℕ = a + (4 + 4 * expr_size e) in
      let no0 : ℕ = yes0 + 4 * size_of x in
      unit_small (entry 5 d) no0 0 0 _ (omega arith) (omega arith) (omega arith) (omega arith)
      (small_append (code_of e) _ (code_small e k2.0 (omega arith)) (small_append (lay yes0 x next way u) (lay no0 y next way u) (lay_small x yes0 next way u k2.1 (omega arith) hn hw (omega arith)) (lay_small y no0 next way u k1.1 (omega arith) hn hw (omega arith))))
  stmt_small (While e x) a next way u d ok l hn hw hu hd =
      let k = and_parts (expr_ok e) _ ok in
      unit_small (entry 6 d) (entry 7 (suc u)) next 0 _ (omega arith) (omega arith) (omega arith) (omega arith)
      (small_append (code_of e) _ (code_small e k.0 (omega arith)) (lay_small x (a + (4 + 4 * expr_size e)) (suc a) way (suc u) k.1 (omega arith) (omega arith) hw (omega arith)))
  stmt_small (Guard x y) a next way u d ok l hn hw hu hd =
      let k = and_parts (block_ok x) _ ok in
      let first : ℕ = a + 4 in
      let other : ℕ = first + 4 * size_of x in
      unit_small (entry 8 d) (entry 9 (suc u)) next other _ (omega arith) (omega arith) (omega arith) (omega arith)
      (small_append (lay first x (suc a) (To other) (suc u)) (lay other y next way u) (lay_small x first (suc a) (To other) (suc u) k.0 (omega arith) (omega arith) (omega arith) (omega arith)) (lay_small y other next way u k.1 (omega arith) hn hw (omega arith)))
  stmt_small (Return e) a next way u d ok l hn hw hu hd = unit_small (entry 10 d) 0 0 0 (code_of e) (omega arith) (omega arith) (omega arith) (omega arith) (code_small e ok (omega arith))
  stmt_small FailNow a next way u d ok l hn hw hu hd = unit_small (entry 11 d) 0 0 (way_word way) [] (omega arith) (omega arith) (omega arith) (omega arith) tt

  lay_small : (b : Block) (a next : ℕ) (way : Way) (n : ℕ) → block_ok b ≡ true → a + 4 * size_of b ≤ 16384 → next ≤ 20000 → way_word way ≤ 20000 → n + 2 * size_of b ≤ 10000 → Small (lay a b next way n)
  lay_small done a next way n ok l hn hw hd = unit_small (entry 12 (suc n)) (entry 13 0) next 0 [] (omega arith) (omega arith) (omega arith) (omega arith) tt
  lay_small (then s b) a next way n ok l hn hw hd =
      let k = and_parts (stmt_ok s) _ ok in
      let one : 1 ≤ size_of b = size_some b in
      let few : under b n ≤ n + 1 = under_few b n in
      small_append (lay_stmt a s (go_on b (a + 4 * stmt_size s) next) way (under b n) (suc n)) (lay (a + 4 * stmt_size s) b next way n)
      (stmt_small s a (go_on b (a + 4 * stmt_size s) next) way (under b n) (suc n) k.0 (omega arith) (go_near b (a + 4 * stmt_size s) next (omega arith) hn) hw (omega arith) (omega arith))
      (lay_small b (a + 4 * stmt_size s) next way n k.1 (omega arith) hn hw (omega arith))

laid_small_lem : (b : Block) → block_ok b ≡ true → size_of b ≤ 4096 → Small (laid b)
unfolding laid way_word
laid_small_lem b ok l = lay_small b 0 (4 * size_of b - 3) Nowhere 0 ok (omega arith) (omega arith) (omega arith) (omega arith)

pub laid_fits : LaidFits
laid_fits = record { laid_small = laid_small_lem; laid_long = laid_length }
