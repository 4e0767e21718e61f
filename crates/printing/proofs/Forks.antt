-- Statements that hold parts. Assumes nothing.
use Rattle.std.proofs.Common.{◌≡◌, ℕ, suc, ◌+◌, ◌*◌, ◌%◌, min, true, not, ◌&&◌, eqb, ltb, List, [], ◌++◌, get_or, drop, Ok, codes, sym, ap, ◌∙◌, append_assoc, append-nil}
use Rattle.plans.specs.Plan.{Name, word_ok, Expr, expr_ok, expr_size, size_of, Stmt, Hear, If, While, Guard, Block, stmt_ok, block_ok}
use Rattle.plans.specs.Flat.{code_of, lay, lay_stmt, laid, Nowhere, To, IsFlat}
use Rattle.text.specs.Grammar.{compare}
use Rattle.text.specs.Printer.{expr_text, eol, indent, lines_of, line_stmt}
use Rattle.printing.specs.Heads.{units_in, PartAt, StmtAt, braced, told}
use Rattle.printing.proofs.Adds.{seq}
use Rattle.printing.proofs.Heads.{past4, fail_past}
use Rattle.printing.proofs.Parts.{stmt_arm, k_fail, part_stops, indent_same, and_first, and_second}

pub record IfAt (ws : List ℕ) (at : ℕ) (e : Expr) (a b : Block) (rest : List ℕ) : Type 0 where
  pub behind : List ℕ
  pub value : drop (at + 4) ws ≡ code_of e ++ behind
  pub stop : units_in behind ≡ 0
  pub middle : List ℕ
  pub first : (p : ℕ) → drop p ws ≡ behind → PartAt ws p a middle
  pub other : (q : ℕ) → drop q ws ≡ middle → PartAt ws q b rest

pub if_at_lem : (ws : List ℕ) (at : ℕ) (e : Expr) (a b : Block) (rest : List ℕ) → StmtAt ws at (If e a b) rest → IfAt ws at e a b rest
unfolding lay_stmt
if_at_lem ws at e a b rest x =
    let yes0 : ℕ = x.place + (4 + 4 * expr_size e) in
    let no0 : ℕ = yes0 + 4 * size_of a in
    let one : List ℕ = lay yes0 a x.next x.way x.under in
    let two : List ℕ = lay no0 b x.next x.way x.under in
    let h : drop (at + 4) ws ≡ (code_of e ++ (one ++ two)) ++ rest = past4 ws _ at _ _ _ _ x.is in
    record {
      behind = one ++ (two ++ rest);
      value = simp append_assoc at h;
      stop = part_stops yes0 a _ _ _ _;
      middle = two ++ rest;
      first = λ p q. record { place = yes0; next = x.next; way = x.way; under = x.under; is = q };
      other = λ p q. record { place = no0; next = x.next; way = x.way; under = x.under; is = q };
    }

pub record WhileAt (ws : List ℕ) (at : ℕ) (e : Expr) (a : Block) (rest : List ℕ) : Type 0 where
  pub behind : List ℕ
  pub value : drop (at + 4) ws ≡ code_of e ++ behind
  pub stop : units_in behind ≡ 0
  pub first : (p : ℕ) → drop p ws ≡ behind → PartAt ws p a rest

pub while_at_lem : (ws : List ℕ) (at : ℕ) (e : Expr) (a : Block) (rest : List ℕ) → StmtAt ws at (While e a) rest → WhileAt ws at e a rest
unfolding lay_stmt
while_at_lem ws at e a rest x =
    let one : List ℕ = lay (x.place + (4 + 4 * expr_size e)) a (suc x.place) x.way (suc x.under) in
    let h : drop (at + 4) ws ≡ (code_of e ++ one) ++ rest = past4 ws _ at _ _ _ _ x.is in
    record {
      behind = one ++ rest;
      value = simp append_assoc at h;
      stop = part_stops _ a _ _ _ _;
      first = λ p q. record { place = x.place + (4 + 4 * expr_size e); next = suc x.place; way = x.way; under = suc x.under; is = q };
    }

pub record GuardAt (ws : List ℕ) (at : ℕ) (a b : Block) (rest : List ℕ) : Type 0 where
  pub middle : List ℕ
  pub first : PartAt ws (at + 4) a middle
  pub other : (q : ℕ) → drop q ws ≡ middle → PartAt ws q b rest

pub guard_at_lem : (ws : List ℕ) (at : ℕ) (a b : Block) (rest : List ℕ) → StmtAt ws at (Guard a b) rest → GuardAt ws at a b rest
unfolding lay_stmt
guard_at_lem ws at a b rest x =
    let first : ℕ = x.place + 4 in
    let other : ℕ = first + 4 * size_of a in
    let one : List ℕ = lay first a (suc x.place) (To other) (suc x.under) in
    let two : List ℕ = lay other b x.next x.way x.under in
    let h : drop (at + 4) ws ≡ (one ++ two) ++ rest = past4 ws _ at _ _ _ _ x.is in
    record {
      middle = two ++ rest;
      first = record { place = first; next = suc x.place; way = To other; under = suc x.under; is = h ∙ append_assoc one two rest };
      other = λ p q. record { place = other; next = x.next; way = x.way; under = x.under; is = q };
    }

-- what they print
pub if_said : (d : ℕ) (e : Expr) (a b : Block) (old m1 m2 m3 m4 m5 m6 : List ℕ) → m1 ≡ old ++ codes "if " → m2 ≡ m1 ++ expr_text compare e → m3 ≡ m2 ++ braced d a → m4 ≡ m3 ++ codes " else" → m5 ≡ m4 ++ braced d b → m6 ≡ m5 ++ eol →
    m6 ≡ old ++ told d (If e a b)
unfolding told
if_said d e a b old m1 m2 m3 m4 m5 m6 e1 e2 e3 e4 e5 e6 = seq old m1 m6 _ _ e1 (seq m1 m2 m6 _ _ e2 (seq m2 m3 m6 _ _ e3 (seq m3 m4 m6 _ _ e4 (seq m4 m5 m6 _ _ e5 e6))))

pub while_said : (d : ℕ) (e : Expr) (a : Block) (old m1 m2 m3 m4 : List ℕ) → m1 ≡ old ++ codes "while " → m2 ≡ m1 ++ expr_text compare e → m3 ≡ m2 ++ braced d a → m4 ≡ m3 ++ eol → m4 ≡ old ++ told d (While e a)
unfolding told
while_said d e a old m1 m2 m3 m4 e1 e2 e3 e4 = seq old m1 m4 _ _ e1 (seq m1 m2 m4 _ _ e2 (seq m2 m3 m4 _ _ e3 e4))

pub guard_said : (d : ℕ) (a b : Block) (old m1 m2 m3 m4 m5 : List ℕ) → m1 ≡ old ++ codes "guard" → m2 ≡ m1 ++ braced d a → m3 ≡ m2 ++ codes " else" → m4 ≡ m3 ++ braced d b → m5 ≡ m4 ++ eol → m5 ≡ old ++ told d (Guard a b)
unfolding told
guard_said d a b old m1 m2 m3 m4 m5 e1 e2 e3 e4 e5 = seq old m1 m5 _ _ e1 (seq m1 m2 m5 _ _ e2 (seq m2 m3 m5 _ _ e3 (seq m3 m4 m5 _ _ e4 e5)))

pub braced_said : (d depth : ℕ) (b : Block) (old m1 m2 m3 m4 : List ℕ) → depth ≡ min d 32 → m1 ≡ old ++ (codes " {" ++ eol) → m2 ≡ m1 ++ lines_of (suc d) b → m3 ≡ m2 ++ indent depth → m4 ≡ m3 ++ codes "}" → m4 ≡ old ++ braced d b
braced_said d depth b old m1 m2 m3 m4 q e1 e2 e3 e4 =
    let f3 : m3 ≡ m2 ++ indent d = e3 ∙ ap (λ (t : List ℕ). m2 ++ t) (indent_same d depth q) in
    seq old m1 m4 (codes " {" ++ eol) _ e1 (seq m1 m2 m4 _ _ e2 (seq m2 m3 m4 _ _ f3 e4))

-- what is asked of their parts
pub if_first : (e : Expr) (a b : Block) → stmt_ok (If e a b) ≡ true → block_ok a ≡ true
unfolding stmt_ok
if_first e a b h = and_second (expr_ok e) (block_ok a) (and_first (expr_ok e && block_ok a) (block_ok b) h)

pub if_other : (e : Expr) (a b : Block) → stmt_ok (If e a b) ≡ true → block_ok b ≡ true
unfolding stmt_ok
if_other e a b h = and_second (expr_ok e && block_ok a) (block_ok b) h

pub while_first : (e : Expr) (a : Block) → stmt_ok (While e a) ≡ true → block_ok a ≡ true
unfolding stmt_ok
while_first e a h = and_second (expr_ok e) (block_ok a) h

pub guard_first : (a b : Block) → stmt_ok (Guard a b) ≡ true → block_ok a ≡ true
unfolding stmt_ok
guard_first a b h = and_first (block_ok a) (block_ok b) h

pub guard_other : (a b : Block) → stmt_ok (Guard a b) ≡ true → block_ok b ≡ true
unfolding stmt_ok
guard_other a b h = and_second (block_ok a) (block_ok b) h

pub hear_word : (v w : ℕ) (n : Name) (e : Expr) → stmt_ok (Hear v w n e) ≡ true → word_ok n ≡ true
unfolding stmt_ok
hear_word v w n e h = and_second (ltb v 64 && ltb w 64 && not (eqb v w)) (word_ok n) (and_first (ltb v 64 && ltb w 64 && not (eqb v w) && word_ok n) (expr_ok e) h)

-- a whole plan
pub whole : (ws : List ℕ) (b : Block) → IsFlat ws b → PartAt ws 0 b []
unfolding laid
whole ws b h = record { place = 0; next = _; way = Nowhere; under = 0; is = h ∙ sym (append-nil _) }

-- the arm that prints a failure
pub fail_arm : (ws : List ℕ) (at depth : ℕ) (old mid new : List ℕ) → get_or ws at 0 % 32 ≡ 11 → mid ≡ old ++ indent depth → new ≡ mid ++ (codes "fail" ++ eol) →
    (d : ℕ) (s : Stmt) (rest : List ℕ) → depth ≡ min d 32 → StmtAt ws at s rest → stmt_ok s ≡ true → (drop (at + 4) ws ≡ rest) × (new ≡ old ++ line_stmt d s)
unfolding told
fail_arm ws at depth old mid new k m w d s rest q x ok = stmt_arm ws at depth (Ok (at + 4)) old mid new k_fail k m d s rest q x ok (λ y h. (fail_past ws at rest y, w))
