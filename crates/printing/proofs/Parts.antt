-- Parts and statements where they stand in the words. Assumes nothing.
use Rattle.std.proofs.Common.{◌≡◌, ℕ, suc, ◌+◌, ◌*◌, ◌%◌, ◌<◌, ◌≤◌, min, Bool, true, false, cond, ◌&&◌, eqb, leb, ◌≢◌, List, ◌∷◌, ◌++◌, length, get_or, drop, replicate, Result, sym, refl, ap, ◌∙◌, subst, append_assoc, append-nil, arith}
use native.Mathlib.Nat.{add-mul-mod_self_left}
use Rattle.std.proofs.lemmas.Bool.Decides.{nat_tests}
use Rattle.plans.specs.Plan.{Name, Expr, stmt_size, Stmt, Set, Do, Sleep, Hear, If, While, Guard, Return, FailNow, Block, done, then, stmt_ok, block_ok}
use Rattle.plans.specs.Flat.{lay, lay_stmt}
use Rattle.text.specs.Printer.{indent, line_stmt, lines_of}
use Rattle.printing.specs.declared.PrintError.{PrintError}
use Rattle.printing.specs.Said.{Spoke}
use Rattle.printing.specs.Heads.{is_unit, units_in, PartAt, StmtAt, told}
use Rattle.printing.proofs.Adds.{then_spoke, spoke_as}
use Rattle.printing.proofs.Heads.{nth_at, room_for, past4}

-- the head of a statement is no unit of an expression
head_stops : (k n x y z : ℕ) (ws : List ℕ) → units_in ((k + 32 * suc n) ∷ x ∷ y ∷ z ∷ ws) ≡ 0
unfolding units_in
head_stops k n x y z ws = let h : leb (k + 32 * suc n) 23 ≡ false = grind (arith, nat_tests) in let g : is_unit (k + 32 * suc n) ≡ false = grind (arith, nat_tests) in rw g refl

stmt_stops : (a : ℕ) (s : Stmt) (next : ℕ) (way : _) (u n : ℕ) (rest : List ℕ) → units_in (lay_stmt a s next way u (suc n) ++ rest) ≡ 0
unfolding lay_stmt
stmt_stops a (Set v e) next way u n rest = head_stops 1 n _ _ _ _
stmt_stops a (Do v k es t p) next way u n rest = head_stops 2 n _ _ _ _
stmt_stops a (Sleep e) next way u n rest = head_stops 3 n _ _ _ _
stmt_stops a (Hear v w m e) next way u n rest = head_stops 4 n _ _ _ _
stmt_stops a (If e x y) next way u n rest = head_stops 5 n _ _ _ _
stmt_stops a (While e x) next way u n rest = head_stops 6 n _ _ _ _
stmt_stops a (Guard x y) next way u n rest = head_stops 8 n _ _ _ _
stmt_stops a (Return e) next way u n rest = head_stops 10 n _ _ _ _
stmt_stops a FailNow next way u n rest = head_stops 11 n _ _ _ _

pub part_stops : (a : ℕ) (b : Block) (next : ℕ) (way : _) (n : ℕ) (rest : List ℕ) → units_in (lay a b next way n ++ rest) ≡ 0
unfolding lay
part_stops a done next way n rest = head_stops 12 n _ _ _ _
part_stops a (then s b) next way n rest = rw append_assoc (stmt_stops a s _ way _ n _)

-- kinds of statements
pub data Kind : Type 0 where
  k_set k_do k_sleep k_hear k_if k_while k_guard k_return k_fail : Kind

abbrev pub kind_of : Stmt → Kind
kind_of (Set v e) = k_set
kind_of (Do v k es t p) = k_do
kind_of (Sleep e) = k_sleep
kind_of (Hear v w n e) = k_hear
kind_of (If e x y) = k_if
kind_of (While e x) = k_while
kind_of (Guard x y) = k_guard
kind_of (Return e) = k_return
kind_of FailNow = k_fail

abbrev pub number : Kind → ℕ
number k_set = 1
number k_do = 2
number k_sleep = 3
number k_hear = 4
number k_if = 5
number k_while = 6
number k_guard = 8
number k_return = 10
number k_fail = 11

kind_at : ℕ → Kind
kind_at n = cond (eqb n 1) k_set (cond (eqb n 2) k_do (cond (eqb n 3) k_sleep (cond (eqb n 4) k_hear (cond (eqb n 5) k_if (cond (eqb n 6) k_while (cond (eqb n 8) k_guard (cond (eqb n 10) k_return k_fail)))))))

at_number : (k : Kind) → kind_at (number k) ≡ k
unfolding kind_at
at_number k_set = refl
at_number k_do = refl
at_number k_sleep = refl
at_number k_hear = refl
at_number k_if = refl
at_number k_while = refl
at_number k_guard = refl
at_number k_return = refl
at_number k_fail = refl

same_kind : (k l : Kind) → number k ≡ number l → k ≡ l
same_kind k l h = sym (at_number k) ∙ (ap kind_at h ∙ at_number l)

-- what is to be shown of the statements of one kind
abbrev pub Only : Kind → (Stmt → Type 0) → Type 0
Only k_set P = (v : ℕ) (e : Expr) → P (Set v e)
Only k_do P = (v k : ℕ) (es : List Expr) (t p : ℕ) → P (Do v k es t p)
Only k_sleep P = (e : Expr) → P (Sleep e)
Only k_hear P = (v w : ℕ) (n : Name) (e : Expr) → P (Hear v w n e)
Only k_if P = (e : Expr) (x y : Block) → P (If e x y)
Only k_while P = (e : Expr) (x : Block) → P (While e x)
Only k_guard P = (x y : Block) → P (Guard x y)
Only k_return P = (e : Expr) → P (Return e)
Only k_fail P = P FailNow

only : (P : Stmt → Type 0) (s : Stmt) → Only (kind_of s) P → P s
only P (Set v e) h = h v e
only P (Do v k es t p) h = h v k es t p
only P (Sleep e) h = h e
only P (Hear v w n e) h = h v w n e
only P (If e x y) h = h e x y
only P (While e x) h = h e x
only P (Guard x y) h = h x y
only P (Return e) h = h e
only P FailNow h = h

by_kind : (P : Stmt → Type 0) (s : Stmt) (k : Kind) → number (kind_of s) ≡ number k → Only k P → P s
by_kind P s k h w = only P s (subst (λ (l : Kind). Only l P) (sym (same_kind (kind_of s) k h)) w)

-- the first word of a statement, and of a part's end
first_word : (ws xs : List ℕ) (at k n : ℕ) → k < 32 → drop at ws ≡ (k + 32 * n) ∷ xs → get_or ws at 0 % 32 ≡ k % 32
first_word ws xs at k n l e =
    let z : at + 0 ≡ at = omega arith in
    let f : get_or ws at 0 ≡ k + 32 * n = ap (λ (i : ℕ). get_or ws i 0) (sym z) ∙ nth_at ws ((k + 32 * n) ∷ xs) at 0 e in
    ap (λ (i : ℕ). i % 32) f ∙ add-mul-mod_self_left k 32 n

pub stmt_kind : (ws : List ℕ) (at : ℕ) (s : Stmt) (rest : List ℕ) → StmtAt ws at s rest → get_or ws at 0 % 32 ≡ number (kind_of s)
unfolding lay_stmt
stmt_kind ws at (Set v e) rest x = first_word ws _ at 1 (suc x.deep) (omega arith) x.is
stmt_kind ws at (Do v k es t p) rest x = first_word ws _ at 2 (suc x.deep) (omega arith) x.is
stmt_kind ws at (Sleep e) rest x = first_word ws _ at 3 (suc x.deep) (omega arith) x.is
stmt_kind ws at (Hear v w n e) rest x = first_word ws _ at 4 (suc x.deep) (omega arith) x.is
stmt_kind ws at (If e a b) rest x = first_word ws _ at 5 (suc x.deep) (omega arith) x.is
stmt_kind ws at (While e a) rest x = first_word ws _ at 6 (suc x.deep) (omega arith) x.is
stmt_kind ws at (Guard a b) rest x = first_word ws _ at 8 (suc x.deep) (omega arith) x.is
stmt_kind ws at (Return e) rest x = first_word ws _ at 10 (suc x.deep) (omega arith) x.is
stmt_kind ws at FailNow rest x = first_word ws _ at 11 (suc x.deep) (omega arith) x.is

stmt_room : (ws : List ℕ) (at : ℕ) (s : Stmt) (rest : List ℕ) → StmtAt ws at s rest → at + 4 ≤ length ws
unfolding lay_stmt
stmt_room ws at (Set v e) rest x = room_for ws _ at 4 x.is (omega arith) (omega arith)
stmt_room ws at (Do v k es t p) rest x = room_for ws _ at 4 x.is (omega arith) (omega arith)
stmt_room ws at (Sleep e) rest x = room_for ws _ at 4 x.is (omega arith) (omega arith)
stmt_room ws at (Hear v w n e) rest x = room_for ws _ at 4 x.is (omega arith) (omega arith)
stmt_room ws at (If e a b) rest x = room_for ws _ at 4 x.is (omega arith) (omega arith)
stmt_room ws at (While e a) rest x = room_for ws _ at 4 x.is (omega arith) (omega arith)
stmt_room ws at (Guard a b) rest x = room_for ws _ at 4 x.is (omega arith) (omega arith)
stmt_room ws at (Return e) rest x = room_for ws _ at 4 x.is (omega arith) (omega arith)
stmt_room ws at FailNow rest x = room_for ws _ at 4 x.is (omega arith) (omega arith)

not_end : (k : Kind) → number k ≢ 12
not_end k_set = omega arith
not_end k_do = omega arith
not_end k_sleep = omega arith
not_end k_hear = omega arith
not_end k_if = omega arith
not_end k_while = omega arith
not_end k_guard = omega arith
not_end k_return = omega arith
not_end k_fail = omega arith

-- a kind that no statement has
pub no_kind : (ws : List ℕ) (at : ℕ) (s : Stmt) (rest : List ℕ) → StmtAt ws at s rest → ((k : Kind) → get_or ws at 0 % 32 ≡ number k → ⊥) → ⊥
no_kind ws at s rest x h = h (kind_of s) (stmt_kind ws at s rest x)

pub none_of : (n : ℕ) → n ≢ 1 → n ≢ 2 → n ≢ 3 → n ≢ 4 → n ≢ 5 → n ≢ 6 → n ≢ 8 → n ≢ 10 → n ≢ 11 → (k : Kind) → n ≡ number k → ⊥
none_of n a b c d e f g h i k_set q = a q
none_of n a b c d e f g h i k_do q = b q
none_of n a b c d e f g h i k_sleep q = c q
none_of n a b c d e f g h i k_hear q = d q
none_of n a b c d e f g h i k_if q = e q
none_of n a b c d e f g h i k_while q = f q
none_of n a b c d e f g h i k_guard q = g q
none_of n a b c d e f g h i k_return q = h q
none_of n a b c d e f g h i k_fail q = i q

-- the lines of a statement
lines_told : (d : ℕ) (s : Stmt) → indent d ++ told d s ≡ line_stmt d s
unfolding told line_stmt
lines_told d (Set v e) = refl
lines_told d (Do v k es n p) = refl
lines_told d (Sleep e) = refl
lines_told d (Hear v w n e) = refl
lines_told d (If e a b) = simp append_assoc
lines_told d (While e a) = simp append_assoc
lines_told d (Guard a b) = simp append_assoc
lines_told d (Return e) = refl
lines_told d FailNow = refl

pub indent_same : (d depth : ℕ) → depth ≡ min d 32 → indent depth ≡ indent d
unfolding indent
indent_same d depth h = let e : 4 * min depth 32 ≡ 4 * min d 32 = omega arith in ap (λ (n : ℕ). replicate n 32) e

-- an arm of the function that prints a statement
pub stmt_arm : (ws : List ℕ) (at depth : ℕ) (r : Result ℕ PrintError) (old mid new : List ℕ) (k : Kind) → get_or ws at 0 % 32 ≡ number k → mid ≡ old ++ indent depth →
    (d : ℕ) (s : Stmt) (rest : List ℕ) → depth ≡ min d 32 → StmtAt ws at s rest → stmt_ok s ≡ true →
    Only k (λ s. StmtAt ws at s rest → stmt_ok s ≡ true → Spoke r ws rest mid (told d s) new) → Spoke r ws rest old (line_stmt d s) new
stmt_arm ws at depth r old mid new k h m d s rest q x ok w =
    let said : Spoke r ws rest mid (told d s) new = by_kind (λ s. StmtAt ws at s rest → stmt_ok s ≡ true → Spoke r ws rest mid (told d s) new) s k (sym (stmt_kind ws at s rest x) ∙ h) w x ok in
    let n : mid ≡ old ++ indent d = m ∙ ap (λ (t : List ℕ). old ++ t) (indent_same d depth q) in
    spoke_as r ws rest old new _ _ (lines_told d s) (then_spoke r ws rest old mid new (indent d) (told d s) n said)

-- parts
pub part_room : (ws : List ℕ) (at : ℕ) (b : Block) (rest : List ℕ) → PartAt ws at b rest → at + 4 ≤ length ws
unfolding lay
part_room ws at done rest x = room_for ws _ at 4 x.is (omega arith) (omega arith)
part_room ws at (then s b) rest x =
    stmt_room ws at s _ (record { place = x.place; next = _; way = x.way; under = _; deep = x.under; is = rw append_assoc at x.is; stop = part_stops _ b _ _ _ rest })

pub record Next (ws : List ℕ) (at : ℕ) (s : Stmt) (b : Block) (rest : List ℕ) : Type 0 where
  pub behind : List ℕ
  pub stmt : StmtAt ws at s behind
  pub then : (p : ℕ) → drop p ws ≡ behind → PartAt ws p b rest

pub next_stmt : (ws : List ℕ) (at : ℕ) (s : Stmt) (b : Block) (rest : List ℕ) → PartAt ws at (then s b) rest → Next ws at s b rest
unfolding lay
next_stmt ws at s b rest x =
    record {
      behind = lay (x.place + 4 * stmt_size s) b x.next x.way x.under ++ rest;
      stmt = record { place = x.place; next = _; way = x.way; under = _; deep = x.under; is = rw append_assoc at x.is; stop = part_stops _ b _ _ _ rest };
      then = λ p h. record { place = x.place + 4 * stmt_size s; next = x.next; way = x.way; under = x.under; is = h };
    }

pub end_past : (ws : List ℕ) (at : ℕ) (rest : List ℕ) → PartAt ws at done rest → drop (at + 4) ws ≡ rest
unfolding lay
end_past ws at rest x = past4 ws rest at _ _ _ _ x.is

pub end_kind : (ws : List ℕ) (at : ℕ) (rest : List ℕ) → PartAt ws at done rest → get_or ws at 0 % 32 ≡ 12
unfolding lay
end_kind ws at rest x = first_word ws _ at 12 (suc x.under) (omega arith) x.is

-- how far the lines of a part are printed: what is left stands here, and its lines are still to come
pub record Goes (ws : List ℕ) (here d : ℕ) (b : Block) (rest old text : List ℕ) : Type 0 where
  pub left : Block
  pub stands : PartAt ws here left rest
  pub fine : block_ok left ≡ true
  pub said : text ++ lines_of d left ≡ old ++ lines_of d b

pub goes_start : (ws : List ℕ) (at d : ℕ) (b : Block) (rest old : List ℕ) → PartAt ws at b rest → block_ok b ≡ true → Goes ws at d b rest old old
goes_start ws at d b rest old x h = record { left = b; stands = x; fine = h; said = refl }

pub goes_end : (ws : List ℕ) (here d : ℕ) (b : Block) (rest old text : List ℕ) → get_or ws here 0 % 32 ≡ 12 → Goes ws here d b rest old text → (drop (here + 4) ws ≡ rest) × (text ≡ old ++ lines_of d b)
unfolding lines_of
goes_end ws here d b rest old text h g = go g.left g.stands g.said
  where
    go : (l : Block) → PartAt ws here l rest → text ++ lines_of d l ≡ old ++ lines_of d b → (drop (here + 4) ws ≡ rest) × (text ≡ old ++ lines_of d b)
    go done x e = (end_past ws here rest x, sym (append-nil text) ∙ e)
    go (then s l) x e = absurd (not_end (kind_of s) (sym (stmt_kind ws here s _ (next_stmt ws here s l rest x).stmt) ∙ h))

pub goes_room : (ws : List ℕ) (here d : ℕ) (b : Block) (rest old text : List ℕ) → length ws < here + 4 → Goes ws here d b rest old text → ⊥
goes_room ws here d b rest old text h g = omega (arith, part_room ws here g.left rest g.stands)

-- one statement more
pub record More (ws : List ℕ) (here d : ℕ) (b : Block) (rest old text : List ℕ) : Type 0 where
  pub one : Stmt
  pub behind : List ℕ
  pub stands : StmtAt ws here one behind
  pub fine : stmt_ok one ≡ true
  pub goes : (p : ℕ) (new : List ℕ) → drop p ws ≡ behind → new ≡ text ++ line_stmt d one → Goes ws p d b rest old new

pub and_first : (a b : Bool) → a && b ≡ true → a ≡ true
and_first true b h = refl
and_first false b h = h

pub and_second : (a b : Bool) → a && b ≡ true → b ≡ true
and_second true b h = h
and_second false b h = let z : ◌≡◌ {A = ℕ} 0 1 = cc in absurd (omega arith)

pub goes_more : (ws : List ℕ) (here d : ℕ) (b : Block) (rest old text : List ℕ) → get_or ws here 0 % 32 ≢ 12 → Goes ws here d b rest old text → More ws here d b rest old text
unfolding lines_of block_ok
goes_more ws here d b rest old text h g = go g.left g.stands g.fine g.said
  where
    go : (l : Block) → PartAt ws here l rest → block_ok l ≡ true → text ++ lines_of d l ≡ old ++ lines_of d b → More ws here d b rest old text
    go done x f e = absurd (h (end_kind ws here rest x))
    go (then s l) x f e =
        let n : Next ws here s l rest = next_stmt ws here s l rest x in
        record {
          one = s;
          behind = n.behind;
          stands = n.stmt;
          fine = and_first (stmt_ok s) (block_ok l) f;
          goes = λ p new q w. record {
            left = l;
            stands = n.then p q;
            fine = and_second (stmt_ok s) (block_ok l) f;
            said = ap (λ (t : List ℕ). t ++ lines_of d l) w ∙ (append_assoc text (line_stmt d s) (lines_of d l) ∙ e);
          };
        }
