-- Statements with parts, and parts: what is written of them, piece by piece.
use Rattle.std.proofs.Common.{◌≡◌, ℕ, suc, ◌+◌, ◌-◌, ◌*◌, ◌<◌, ◌≤◌, true, false, cond, eqb, List, [], ◌∷◌, ◌++◌, length, get_or, take, drop, Ok, Err, Result, sym, refl, ap, ◌∙◌, subst, append_assoc, append-nil, add-one, arith, length-append, length-drop}
use Rattle.std.proofs.lemmas.Bool.Decides.{nat_tests}
use Rattle.plans.specs.declared.link.LinkError.{LinkError}
use Rattle.plans.specs.declared.link.LinkError.TheVariants.{NoRoom, Damaged}
use Rattle.plans.specs.Plan.{Expr, Stmt, Set, Do, Sleep, Hear, If, While, Guard, Return, FailNow, Block, done, then, expr_size, stmt_size, size_of}
use Rattle.plans.specs.Flat.{Way, Nowhere, To, code_of, draft_stmt, draft_of, under, go_on, lay_stmt, lay, laid, is_simple}
use Rattle.plans.specs.Sheet.{Wrote, Step, Written, WrittenTo}
use Rattle.plans.proofs.Written.{wrote_append, wrote_room}
use Rattle.plans.proofs.Drafts.{head_of, front_of, rest_of, code_length, draft_length, stmt_length, lay_length, lay_stmt_length}
use Rattle.plans.proofs.Simple.{kind_of, head_at, kind_small, tail_length, written_short}

pub written_front : {S : Type 0} (wrote : S → ℕ → S → Type 0) (room : S → ℕ) (xs ys : List ℕ) (s t u : S) (e : LinkError) → Written wrote room (Err e) s xs t → Written wrote room (Err e) s (xs ++ ys) u
written_front wrote room xs ys s t u e k = let l = length-append xs ys in written_short wrote room xs (xs ++ ys) s t u e (omega arith) k

pub to_written : {S : Type 0} (wrote : S → ℕ → S → Type 0) (room : S → ℕ) (xs : List ℕ) (end : ℕ) (s t : S) (e : LinkError) → WrittenTo wrote room (Err e) s xs end t → Written wrote room (Err e) s xs t
to_written wrote room xs end s t NoRoom k = k
to_written wrote room xs end s t Damaged k = k

pub to_whole : {S : Type 0} (wrote : S → ℕ → S → Type 0) (room : S → ℕ) (xs : List ℕ) (end : ℕ) (s t u : S) (e : LinkError) → Written wrote room (Err e) s xs t → WrittenTo wrote room (Err e) s xs end u
to_whole wrote room xs end s t u NoRoom k = k
to_whole wrote room xs end s t u Damaged k = k

-- what is written in four pieces, some of which may be empty
pub record Pieces (whole : List ℕ) : Type 0 where
  pub first : List ℕ
  pub second : List ℕ
  pub third : List ℕ
  pub fourth : List ℕ
  pub is : whole ≡ first ++ (second ++ (third ++ fourth))

-- too little room for one of them, and all of them
module _ {S : Type 0} (wrote : S → ℕ → S → Type 0) (room : S → ℕ) {whole : List ℕ} (q : Pieces whole) where
  lengths : length whole ≡ length q.first + (length q.second + (length q.third + length q.fourth))
  lengths = let a = length-append q.first (q.second ++ (q.third ++ q.fourth)) in let b = length-append q.second (q.third ++ q.fourth) in let c = length-append q.third q.fourth in ap length q.is ∙ omega arith

  pub first_piece : (a b z : S) (e : LinkError) → Written wrote room (Err e) a q.first b → Written wrote room (Err e) a whole z
  first_piece a b z e x = let l = lengths in written_short wrote room q.first whole a b z e (omega arith) x

  pub second_piece : (a b c z : S) (e : LinkError) → Wrote (Step wrote room) q.first a b → Written wrote room (Err e) b q.second c → Written wrote room (Err e) a whole z
  second_piece a b c z NoRoom p x = let l = lengths in let m = wrote_room room p in omega arith
  second_piece a b c z Damaged p x = x

  pub third_piece : (a b c d z : S) (e : LinkError) → Wrote (Step wrote room) q.first a b → Wrote (Step wrote room) q.second b c → Written wrote room (Err e) c q.third d → Written wrote room (Err e) a whole z
  third_piece a b c d z NoRoom p r x = let l = lengths in let m = wrote_room room p in let n = wrote_room room r in omega arith
  third_piece a b c d z Damaged p r x = x

  pub fourth_piece : (a b c d f z : S) (e : LinkError) → Wrote (Step wrote room) q.first a b → Wrote (Step wrote room) q.second b c → Wrote (Step wrote room) q.third c d → Written wrote room (Err e) d q.fourth f → Written wrote room (Err e) a whole z
  fourth_piece a b c d f z NoRoom p r t x = let l = lengths in let m = wrote_room room p in let n = wrote_room room r in let o = wrote_room room t in omega arith
  fourth_piece a b c d f z Damaged p r t x = x

  pub all_pieces : (a b c d f : S) → Wrote (Step wrote room) q.first a b → Wrote (Step wrote room) q.second b c → Wrote (Step wrote room) q.third c d → Wrote (Step wrote room) q.fourth d f → Wrote (Step wrote room) whole a f
  all_pieces a b c d f p r t x = subst (λ (l : List ℕ). Wrote (Step wrote room) l a f) (sym q.is) (wrote_append p _ (wrote_append r _ (wrote_append t _ x)))

-- if
pub record IfParts (ds : List ℕ) (at : ℕ) (e : Expr) (x y : Block) (rest : List ℕ) : Type 0 where
  pub some : 1 ≤ get_or ds (at + 1) 0
  pub few : get_or ds (at + 1) 0 ≤ 4096
  pub short : get_or ds (at + 3) 0 ≤ 4096
  pub fits : at + 4 + 4 * get_or ds (at + 3) 0 ≤ length ds
  pub code : take (4 * get_or ds (at + 3) 0) (drop (at + 4) ds) ≡ code_of e
  pub first : drop (at + 4 + 4 * get_or ds (at + 3) 0) ds ≡ draft_of x ++ (draft_of y ++ rest)
  pub other : drop (at + 4 * get_or ds (at + 1) 0) ds ≡ draft_of y ++ rest
  pub first_is : at + (4 + 4 * expr_size e) ≡ at + 4 + 4 * get_or ds (at + 3) 0
  pub other_is : at + (4 + 4 * expr_size e) + 4 * size_of x ≡ at + 4 * get_or ds (at + 1) 0

pub if_parts : (ds : List ℕ) (at : ℕ) (e : Expr) (x y : Block) (rest : List ℕ) → length ds ≤ 16384 → drop at ds ≡ draft_stmt (If e x y) ++ rest → IfParts ds at e x y rest
if_parts ds at e x y rest small d =
    let h = head_at ds at (If e x y) rest d in
    let behind : drop (at + 4) ds ≡ code_of e ++ (draft_of x ++ (draft_of y ++ rest)) = h.behind ∙ (append_assoc (code_of e) (draft_of x ++ draft_of y) rest ∙ ap (λ (l : List ℕ). code_of e ++ l) (append_assoc (draft_of x) (draft_of y) rest)) in
    let le : length (code_of e) ≡ 4 * get_or ds (at + 3) 0 = code_length e ∙ ap (λ (n : ℕ). 4 * n) (sym h.fourth) in
    let first : drop (at + 4 + 4 * get_or ds (at + 3) 0) ds ≡ draft_of x ++ (draft_of y ++ rest) = rest_of ds (at + 4) (4 * get_or ds (at + 3) 0) (code_of e) _ behind le in
    let other : drop (at + 4 + 4 * get_or ds (at + 3) 0 + 4 * size_of x) ds ≡ draft_of y ++ rest = rest_of ds _ (4 * size_of x) (draft_of x) _ first (draft_length x) in
    let first_is : at + (4 + 4 * expr_size e) ≡ at + 4 + 4 * get_or ds (at + 3) 0 = omega (arith, h.fourth) in
    let other_is : at + (4 + 4 * expr_size e) + 4 * size_of x ≡ at + 4 * get_or ds (at + 1) 0 = omega (arith, h.second) in
    let ll : length ds - (at + 4) ≡ length (code_of e ++ (draft_of x ++ (draft_of y ++ rest))) = sym (length-drop (at + 4) ds) ∙ ap length behind in
    let la = length-append (code_of e) (draft_of x ++ (draft_of y ++ rest)) in
    let lb = length-append (draft_of x) (draft_of y ++ rest) in
    let lx = draft_length x in
    let ly = draft_length y in
    let lc = length-append (draft_of y) rest in
    let ce = code_length e in
    record {
      some = omega (arith, h.second);
      few = omega (arith, h.second, h.whole);
      short = omega (arith, h.fourth, h.whole);
      fits = omega (arith, h.fourth, h.whole);
      code = front_of ds (at + 4) (4 * get_or ds (at + 3) 0) (code_of e) _ behind le;
      first = first;
      other = subst (λ (n : ℕ). drop n ds ≡ draft_of y ++ rest) (ap (λ (n : ℕ). n + 4 * size_of x) (sym first_is) ∙ other_is) other;
      first_is = first_is;
      other_is = other_is;
    }

pub if_is : (ds : List ℕ) (at : ℕ) (e : Expr) (x y : Block) (rest : List ℕ) (next : ℕ) (w : Way) (u d : ℕ) → IfParts ds at e x y rest →
    lay_stmt at (If e x y) next w u d ≡ ((5 + 32 * d) ∷ (at + 4 * get_or ds (at + 1) 0) ∷ 0 ∷ 0 ∷ []) ++ (take (4 * get_or ds (at + 3) 0) (drop (at + 4) ds) ++ (lay (at + 4 + 4 * get_or ds (at + 3) 0) x next w u ++ lay (at + 4 * get_or ds (at + 1) 0) y next w u))
unfolding lay_stmt
if_is ds at e x y rest next w u d p = rw (p.other_is, p.first_is, p.code) refl

abbrev pub if_pieces : (ds : List ℕ) (at : ℕ) (e : Expr) (x y : Block) (rest : List ℕ) (next : ℕ) (w : Way) (u d : ℕ) → IfParts ds at e x y rest → Pieces (lay_stmt at (If e x y) next w u d)
if_pieces ds at e x y rest next w u d p =
    record {
      first = (5 + 32 * d) ∷ (at + 4 * get_or ds (at + 1) 0) ∷ 0 ∷ 0 ∷ [];
      second = take (4 * get_or ds (at + 3) 0) (drop (at + 4) ds);
      third = lay (at + 4 + 4 * get_or ds (at + 3) 0) x next w u;
      fourth = lay (at + 4 * get_or ds (at + 1) 0) y next w u;
      is = if_is ds at e x y rest next w u d p;
    }

-- while
pub record WhileParts (ds : List ℕ) (at : ℕ) (e : Expr) (x : Block) (rest : List ℕ) : Type 0 where
  pub short : get_or ds (at + 3) 0 ≤ 4096
  pub fits : at + 4 + 4 * get_or ds (at + 3) 0 ≤ length ds
  pub code : take (4 * get_or ds (at + 3) 0) (drop (at + 4) ds) ≡ code_of e
  pub body : drop (at + 4 + 4 * get_or ds (at + 3) 0) ds ≡ draft_of x ++ rest
  pub body_is : at + (4 + 4 * expr_size e) ≡ at + 4 + 4 * get_or ds (at + 3) 0

pub while_parts : (ds : List ℕ) (at : ℕ) (e : Expr) (x : Block) (rest : List ℕ) → length ds ≤ 16384 → drop at ds ≡ draft_stmt (While e x) ++ rest → WhileParts ds at e x rest
while_parts ds at e x rest small d =
    let h = head_at ds at (While e x) rest d in
    let behind : drop (at + 4) ds ≡ code_of e ++ (draft_of x ++ rest) = h.behind ∙ append_assoc (code_of e) (draft_of x) rest in
    let le : length (code_of e) ≡ 4 * get_or ds (at + 3) 0 = code_length e ∙ ap (λ (n : ℕ). 4 * n) (sym h.fourth) in
    let ll : length ds - (at + 4) ≡ length (code_of e ++ (draft_of x ++ rest)) = sym (length-drop (at + 4) ds) ∙ ap length behind in
    let la = length-append (code_of e) (draft_of x ++ rest) in
    let ce = code_length e in
    record {
      short = omega (arith, h.fourth, h.whole);
      fits = omega (arith, h.fourth, h.whole);
      code = front_of ds (at + 4) (4 * get_or ds (at + 3) 0) (code_of e) _ behind le;
      body = rest_of ds (at + 4) (4 * get_or ds (at + 3) 0) (code_of e) _ behind le;
      body_is = omega (arith, h.fourth);
    }

pub while_is : (ds : List ℕ) (at : ℕ) (e : Expr) (x : Block) (rest : List ℕ) (next : ℕ) (w : Way) (u d : ℕ) → WhileParts ds at e x rest →
    lay_stmt at (While e x) next w u d ≡ ((6 + 32 * d) ∷ (7 + 32 * (u + 1)) ∷ next ∷ 0 ∷ []) ++ (take (4 * get_or ds (at + 3) 0) (drop (at + 4) ds) ++ lay (at + 4 + 4 * get_or ds (at + 3) 0) x (at + 1) w (u + 1))
unfolding lay_stmt
while_is ds at e x rest next w u d p = rw (p.body_is, p.code, add-one u, add-one at) refl

abbrev pub while_pieces : (ds : List ℕ) (at : ℕ) (e : Expr) (x : Block) (rest : List ℕ) (next : ℕ) (w : Way) (u d : ℕ) → WhileParts ds at e x rest → Pieces (lay_stmt at (While e x) next w u d)
while_pieces ds at e x rest next w u d p =
    record {
      first = (6 + 32 * d) ∷ (7 + 32 * (u + 1)) ∷ next ∷ 0 ∷ [];
      second = [];
      third = take (4 * get_or ds (at + 3) 0) (drop (at + 4) ds);
      fourth = lay (at + 4 + 4 * get_or ds (at + 3) 0) x (at + 1) w (u + 1);
      is = while_is ds at e x rest next w u d p;
    }

-- guard
pub record GuardParts (ds : List ℕ) (at : ℕ) (x y : Block) (rest : List ℕ) : Type 0 where
  pub some : 1 ≤ get_or ds (at + 1) 0
  pub few : get_or ds (at + 1) 0 ≤ 4096
  pub first : drop (at + 4) ds ≡ draft_of x ++ (draft_of y ++ rest)
  pub other : drop (at + 4 * get_or ds (at + 1) 0) ds ≡ draft_of y ++ rest
  pub other_is : at + 4 + 4 * size_of x ≡ at + 4 * get_or ds (at + 1) 0

pub guard_parts : (ds : List ℕ) (at : ℕ) (x y : Block) (rest : List ℕ) → length ds ≤ 16384 → drop at ds ≡ draft_stmt (Guard x y) ++ rest → GuardParts ds at x y rest
guard_parts ds at x y rest small d =
    let h = head_at ds at (Guard x y) rest d in
    let first : drop (at + 4) ds ≡ draft_of x ++ (draft_of y ++ rest) = h.behind ∙ append_assoc (draft_of x) (draft_of y) rest in
    let other : drop (at + 4 + 4 * size_of x) ds ≡ draft_of y ++ rest = rest_of ds (at + 4) (4 * size_of x) (draft_of x) _ first (draft_length x) in
    let other_is : at + 4 + 4 * size_of x ≡ at + 4 * get_or ds (at + 1) 0 = omega (arith, h.second) in
    let ll : length ds - (at + 4) ≡ length (draft_of x ++ (draft_of y ++ rest)) = sym (length-drop (at + 4) ds) ∙ ap length first in
    let la = length-append (draft_of x) (draft_of y ++ rest) in
    let lx = draft_length x in
    record {
      some = omega (arith, h.second);
      few = omega (arith, h.second, h.whole);
      first = first;
      other = subst (λ (n : ℕ). drop n ds ≡ draft_of y ++ rest) other_is other;
      other_is = other_is;
    }

pub guard_is : (ds : List ℕ) (at : ℕ) (x y : Block) (rest : List ℕ) (next : ℕ) (w : Way) (u d : ℕ) → GuardParts ds at x y rest →
    lay_stmt at (Guard x y) next w u d ≡ ((8 + 32 * d) ∷ (9 + 32 * (u + 1)) ∷ next ∷ (at + 4 * get_or ds (at + 1) 0) ∷ []) ++ (lay (at + 4) x (at + 1) (To (at + 4 * get_or ds (at + 1) 0)) (u + 1) ++ lay (at + 4 * get_or ds (at + 1) 0) y next w u)
unfolding lay_stmt
guard_is ds at x y rest next w u d p = rw (p.other_is, add-one u, add-one at) refl

abbrev pub guard_pieces : (ds : List ℕ) (at : ℕ) (x y : Block) (rest : List ℕ) (next : ℕ) (w : Way) (u d : ℕ) → GuardParts ds at x y rest → Pieces (lay_stmt at (Guard x y) next w u d)
guard_pieces ds at x y rest next w u d p =
    record {
      first = (8 + 32 * d) ∷ (9 + 32 * (u + 1)) ∷ next ∷ (at + 4 * get_or ds (at + 1) 0) ∷ [];
      second = [];
      third = lay (at + 4) x (at + 1) (To (at + 4 * get_or ds (at + 1) 0)) (u + 1);
      fourth = lay (at + 4 * get_or ds (at + 1) 0) y next w u;
      is = guard_is ds at x y rest next w u d p;
    }

-- parts
pub part_big : (b : Block) (ds : List ℕ) (at : ℕ) (rest : List ℕ) → drop at ds ≡ draft_of b ++ rest → at + 4 ≤ length ds
unfolding draft_of
part_big done ds at rest d = let h = head_of ds at _ _ _ _ _ d in omega (arith, h.whole)
part_big (then s b) ds at rest d = let h = head_at ds at s (draft_of b ++ rest) (d ∙ append_assoc (draft_stmt s) (draft_of b) rest) in omega (arith, h.whole)

pub data Begins (ds : List ℕ) (at : ℕ) (rest : List ℕ) : Block → Type 0 where
  empty : get_or ds at 0 ≡ 12 → Begins ds at rest done
  begins : (s : Stmt) (b : Block) → get_or ds at 0 ≤ 11 → drop at ds ≡ draft_stmt s ++ (draft_of b ++ rest) → Begins ds at rest (then s b)

pub begins_with : (b : Block) (ds : List ℕ) (at : ℕ) (rest : List ℕ) → drop at ds ≡ draft_of b ++ rest → Begins ds at rest b
unfolding draft_of
begins_with done ds at rest d = empty (head_of ds at _ _ _ _ _ d).first
begins_with (then s b) ds at rest d =
    let d' : drop at ds ≡ draft_stmt s ++ (draft_of b ++ rest) = d ∙ append_assoc (draft_stmt s) (draft_of b) rest in
    begins s b (let h = head_at ds at s (draft_of b ++ rest) d' in let k = kind_small s in omega (arith, h.first)) d'

not_end : (n : ℕ) → n ≤ 11 → eqb n 12 ≡ false
not_end n h = grind (arith, nat_tests)

-- what is behind a statement that b follows
pub behind_is : (b : Block) (ds : List ℕ) (end : ℕ) (rest : List ℕ) (next n : ℕ) → drop end ds ≡ draft_of b ++ rest → (cond (eqb (get_or ds end 0) 12) next end ≡ go_on b end next) × (cond (eqb (get_or ds end 0) 12) n (n + 1) ≡ under b n)
unfolding go_on under
behind_is b ds end rest next n d = go b (begins_with b ds end rest d)
  where
    go : (x : Block) → Begins ds end rest x → (cond (eqb (get_or ds end 0) 12) next end ≡ go_on x end next) × (cond (eqb (get_or ds end 0) 12) n (n + 1) ≡ under x n)
    go done (empty h) = (rw h refl, rw h refl)
    go (then s x) (begins _ _ h k) = (rw (not_end _ h) refl, rw (not_end _ h) (add-one n))

-- a statement of a part, and the rest of the part
pub record Steps (ds : List ℕ) (at : ℕ) (s : Stmt) (b : Block) (rest : List ℕ) : Type 0 where
  pub some : 1 ≤ get_or ds (at + 2) 0
  pub few : get_or ds (at + 2) 0 ≤ 4096
  pub inside : at + 4 * get_or ds (at + 2) 0 < length ds
  pub after : drop (at + 4 * get_or ds (at + 2) 0) ds ≡ draft_of b ++ rest
  pub size : get_or ds (at + 2) 0 ≡ stmt_size s

pub steps : (ds : List ℕ) (at : ℕ) (s : Stmt) (b : Block) (rest : List ℕ) → length ds ≤ 16384 → drop at ds ≡ draft_stmt s ++ (draft_of b ++ rest) → Steps ds at s b rest
steps ds at s b rest small d =
    let h = head_at ds at s (draft_of b ++ rest) d in
    let ls : length (draft_stmt s) ≡ 4 * get_or ds (at + 2) 0 = stmt_length s ∙ ap (λ (n : ℕ). 4 * n) (sym h.third) in
    let after : drop (at + 4 * get_or ds (at + 2) 0) ds ≡ draft_of b ++ rest = rest_of ds at (4 * get_or ds (at + 2) 0) (draft_stmt s) _ d ls in
    let big = part_big b ds (at + 4 * get_or ds (at + 2) 0) rest after in
    let t = tail_length s in
    record { some = omega (arith, h.third); few = omega (arith, big); inside = omega (arith, big); after = after; size = h.third }

pub part_linked : {S : Type 0} (wrote : S → ℕ → S → Type 0) (room : S → ℕ) → (ds : List ℕ) (at : ℕ) (s : Stmt) (b : Block) (rest : List ℕ) (next n nx un : ℕ) (w wx : Way) (a m c : S) (r : Result ℕ LinkError) →
    Steps ds at s b rest → nx ≡ go_on b (at + 4 * get_or ds (at + 2) 0) next → wx ≡ w → un ≡ under b n →
    Wrote (Step wrote room) (lay_stmt at s nx wx un (n + 1)) a m →
    WrittenTo wrote room r m (lay (at + 4 * get_or ds (at + 2) 0) b next w n) (at + 4 * get_or ds (at + 2) 0 + 4 * size_of b) c →
    WrittenTo wrote room r a (lay at (then s b) next w n) (at + 4 * size_of (then s b)) c
unfolding lay size_of
part_linked {S} wrote room ds at s b rest next n nx un w wx a m c r p en ew eu h k =
    let h' : Wrote (Step wrote room) (lay_stmt at s (go_on b (at + 4 * stmt_size s) next) w (under b n) (suc n)) a m = subst (λ (l : List ℕ). Wrote (Step wrote room) l a m) (rw (en, ew, eu, p.size, add-one n) refl) h in
    let ea : at + 4 * get_or ds (at + 2) 0 ≡ at + 4 * stmt_size s = omega (arith, p.size) in
    let k' : WrittenTo wrote room r m (lay (at + 4 * stmt_size s) b next w n) (at + 4 * stmt_size s + 4 * size_of b) c = subst (λ (q : ℕ). WrittenTo wrote room r m (lay q b next w n) (q + 4 * size_of b) c) ea k in
    go r k' h'
  where
    go : (r : Result ℕ LinkError) → WrittenTo wrote room r m (lay (at + 4 * stmt_size s) b next w n) (at + 4 * stmt_size s + 4 * size_of b) c → Wrote (Step wrote room) (lay_stmt at s (go_on b (at + 4 * stmt_size s) next) w (under b n) (suc n)) a m →
        WrittenTo wrote room r a (lay_stmt at s (go_on b (at + 4 * stmt_size s) next) w (under b n) (suc n) ++ lay (at + 4 * stmt_size s) b next w n) (at + 4 * (stmt_size s + size_of b)) c
    go (Ok x) k h = (omega (arith, k.0), wrote_append h _ k.1)
    go (Err NoRoom) k h =
        let q = wrote_room room h in
        let l = length-append (lay_stmt at s (go_on b (at + 4 * stmt_size s) next) w (under b n) (suc n)) (lay (at + 4 * stmt_size s) b next w n) in
        omega arith
    go (Err Damaged) k h = k

pub part_refused : {S : Type 0} (wrote : S → ℕ → S → Type 0) (room : S → ℕ) (ds : List ℕ) (at : ℕ) (s : Stmt) (b : Block) (rest : List ℕ) (next n nx un : ℕ) (w wx : Way) (a m c : S) (e : LinkError) →
    Written wrote room (Err e) a (lay_stmt at s nx wx un (n + 1)) m → WrittenTo wrote room (Err e) a (lay at (then s b) next w n) (at + 4 * size_of (then s b)) c
unfolding lay size_of
part_refused wrote room ds at s b rest next n nx un w wx a m c e h =
    let l = lay_stmt_length s at nx wx un (n + 1) in
    let l' = lay_length (then s b) at next w n in
    to_whole wrote room _ _ a c c e (written_short wrote room _ _ a m c e (omega arith) h)

-- which statement it is, by its kind
pub is_if : (P : Stmt → Type 0) (s : Stmt) → kind_of s ≡ 5 → ((e : Expr) (x y : Block) → P (If e x y)) → P s
is_if P (Set v e) h f = absurd (omega arith)
is_if P (Do v k es t p) h f = absurd (omega arith)
is_if P (Sleep e) h f = absurd (omega arith)
is_if P (Hear v w n e) h f = absurd (omega arith)
is_if P (If e x y) h f = f e x y
is_if P (While e x) h f = absurd (omega arith)
is_if P (Guard x y) h f = absurd (omega arith)
is_if P (Return e) h f = absurd (omega arith)
is_if P FailNow h f = absurd (omega arith)

pub is_while : (P : Stmt → Type 0) (s : Stmt) → kind_of s ≡ 6 → ((e : Expr) (x : Block) → P (While e x)) → P s
is_while P (Set v e) h f = absurd (omega arith)
is_while P (Do v k es t p) h f = absurd (omega arith)
is_while P (Sleep e) h f = absurd (omega arith)
is_while P (Hear v w n e) h f = absurd (omega arith)
is_while P (If e x y) h f = absurd (omega arith)
is_while P (While e x) h f = f e x
is_while P (Guard x y) h f = absurd (omega arith)
is_while P (Return e) h f = absurd (omega arith)
is_while P FailNow h f = absurd (omega arith)

pub is_guard : (P : Stmt → Type 0) (s : Stmt) → kind_of s ≡ 8 → ((x y : Block) → P (Guard x y)) → P s
is_guard P (Set v e) h f = absurd (omega arith)
is_guard P (Do v k es t p) h f = absurd (omega arith)
is_guard P (Sleep e) h f = absurd (omega arith)
is_guard P (Hear v w n e) h f = absurd (omega arith)
is_guard P (If e x y) h f = absurd (omega arith)
is_guard P (While e x) h f = absurd (omega arith)
is_guard P (Guard x y) h f = f x y
is_guard P (Return e) h f = absurd (omega arith)
is_guard P FailNow h f = absurd (omega arith)

pub is_simple_lem : (s : Stmt) → (kind_of s ≡ 5 → ⊥) → (kind_of s ≡ 6 → ⊥) → (kind_of s ≡ 8 → ⊥) → is_simple s ≡ true
unfolding is_simple
is_simple_lem (Set v e) na nb nc = refl
is_simple_lem (Do v k es t p) na nb nc = refl
is_simple_lem (Sleep e) na nb nc = refl
is_simple_lem (Hear v w n e) na nb nc = refl
is_simple_lem (If e x y) na nb nc = absurd (na refl)
is_simple_lem (While e x) na nb nc = absurd (nb refl)
is_simple_lem (Guard x y) na nb nc = absurd (nc refl)
is_simple_lem (Return e) na nb nc = refl
is_simple_lem FailNow na nb nc = refl

pub some_size : (b : Block) → 1 ≤ size_of b
some_size b = let x = draft_length b in let y = part_big b (draft_of b) 0 [] (sym (append-nil (draft_of b))) in omega arith

-- a part that is empty
pub end_linked : {S : Type 0} (wrote : S → ℕ → S → Type 0) (room : S → ℕ) (ds : List ℕ) (at : ℕ) (b : Block) (rest : List ℕ) (next n : ℕ) (w : Way) (a c : S) → get_or ds at 0 ≡ 12 → drop at ds ≡ draft_of b ++ rest →
    Wrote (Step wrote room) ((12 + 32 * (n + 1)) ∷ 13 ∷ next ∷ 0 ∷ []) a c → (at + 4 ≡ at + 4 * size_of b) × Wrote (Step wrote room) (lay at b next w n) a c
unfolding lay size_of
end_linked {S} wrote room ds at b rest next n w a c is d h = go b (begins_with b ds at rest d)
  where
    go : (x : Block) → Begins ds at rest x → (at + 4 ≡ at + 4 * size_of x) × Wrote (Step wrote room) (lay at x next w n) a c
    go done (empty i) = (refl, subst (λ (k : ℕ). Wrote (Step wrote room) ((12 + 32 * k) ∷ 13 ∷ next ∷ 0 ∷ []) a c) (add-one n) h)
    go (then s x) (begins _ _ i k) = absurd (omega (arith, is, i))

-- a part that is not
pub by_statement : (ds : List ℕ) (at : ℕ) (rest : List ℕ) (P : Block → Type 0) (b : Block) → (get_or ds at 0 ≡ 12 → ⊥) → drop at ds ≡ draft_of b ++ rest → ((s : Stmt) (x : Block) → drop at ds ≡ draft_stmt s ++ (draft_of x ++ rest) → P (then s x)) → P b
by_statement ds at rest P b ne d f = go b (begins_with b ds at rest d)
  where
    go : (x : Block) → Begins ds at rest x → P x
    go done (empty i) = absurd (ne i)
    go (then s x) (begins _ _ i k) = f s x k

pub not_damaged : (ds : List ℕ) (at : ℕ) (b : Block) (rest : List ℕ) → length ds ≤ 16384 → (get_or ds at 0 ≡ 12 → ⊥) → drop at ds ≡ draft_of b ++ rest →
    (1 ≤ get_or ds (at + 2) 0 → get_or ds (at + 2) 0 ≤ 4096 → at + 4 * get_or ds (at + 2) 0 < length ds → ⊥) → ⊥
not_damaged ds at b rest small ne d f = by_statement ds at rest (λ (z : Block). ⊥) b ne d (λ s x i. let p = steps ds at s x rest small i in f p.some p.few p.inside)

-- a whole plan
pub laid_is : {S : Type 0} (wrote : S → ℕ → S → Type 0) (room : S → ℕ) (b : Block) (ds : List ℕ) → ds ≡ draft_of b → (a c : S) → Wrote (Step wrote room) (lay 0 b (length ds - 3) Nowhere 0) a c → Wrote (Step wrote room) (laid b) a c
unfolding laid
laid_is {S} wrote room b ds d a c h = let l : length ds ≡ 4 * size_of b = ap length d ∙ draft_length b in subst (λ (n : ℕ). Wrote (Step wrote room) (lay 0 b (n - 3) Nowhere 0) a c) l h

pub laid_refused : {S : Type 0} (wrote : S → ℕ → S → Type 0) (room : S → ℕ) (b : Block) (ds : List ℕ) → ds ≡ draft_of b → (a c : S) (e : LinkError) → WrittenTo wrote room (Err e) a (lay 0 b (length ds - 3) Nowhere 0) (0 + 4 * size_of b) c → Written wrote room (Err e) a (laid b) c
unfolding laid
laid_refused wrote room b ds d a c NoRoom h = let l = lay_length b 0 (length ds - 3) Nowhere 0 in let m = lay_length b 0 (4 * size_of b - 3) Nowhere 0 in omega arith
laid_refused wrote room b ds d a c Damaged h = h

pub laid_length : (b : Block) → length (laid b) ≡ 4 * size_of b
unfolding laid
laid_length b = lay_length b 0 (4 * size_of b - 3) Nowhere 0
