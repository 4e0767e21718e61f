-- Statements with no parts: their drafts and their flat forms differ only in where control and a failure go.
use Rattle.std.proofs.Common.{◌≡◌, ℕ, ◌+◌, ◌-◌, ◌*◌, ◌≤◌, true, List, [], ◌∷◌, ◌++◌, length, get_or, take, drop, Ok, Err, Result, sym, refl, ap, ◌∙◌, subst, arith, length-append}
use Rattle.std.proofs.lemmas.Bool.{false≢true}
use Rattle.plans.specs.declared.link.LinkError.{LinkError}
use Rattle.plans.specs.declared.link.LinkError.TheVariants.{NoRoom, Damaged}
use Rattle.plans.specs.Plan.{Stmt, Set, Do, Sleep, Hear, If, While, Guard, Return, FailNow, expr_size, stmt_size, size_of}
use Rattle.plans.specs.Flat.{Way, way_word, entry, code_of, codes_of, padded, draft_stmt, draft_of, lay_stmt, is_simple, next_word, last_word}
use Rattle.plans.specs.Sheet.{Wrote, Step, Written}
use Rattle.plans.proofs.Written.{wrote_append, wrote_room}
use Rattle.plans.proofs.Drafts.{Head, head_of, front_of, stmt_length}

abbrev pub kind_of : Stmt → ℕ
kind_of (Set v e) = 1
kind_of (Do v k es t p) = 2
kind_of (Sleep e) = 3
kind_of (Hear v w n e) = 4
kind_of (If e x y) = 5
kind_of (While e x) = 6
kind_of (Guard x y) = 8
kind_of (Return e) = 10
kind_of FailNow = 11

abbrev pub second_of : Stmt → ℕ
second_of (Set v e) = v
second_of (Do v k es t p) = v
second_of (Sleep e) = 0
second_of (Hear v w n e) = v
second_of (If e x y) = 1 + (expr_size e + size_of x)
second_of (While e x) = 0
second_of (Guard x y) = 1 + size_of x
second_of (Return e) = 0
second_of FailNow = 0

abbrev pub fourth_of : Stmt → ℕ
fourth_of (Set v e) = 0
fourth_of (Do v k es t p) = 0
fourth_of (Sleep e) = 0
fourth_of (Hear v w n e) = w
fourth_of (If e x y) = expr_size e
fourth_of (While e x) = expr_size e
fourth_of (Guard x y) = 0
fourth_of (Return e) = 0
fourth_of FailNow = 0

abbrev pub tail_of : Stmt → List ℕ
tail_of (Set v e) = code_of e
tail_of (Do v k es t p) = k ∷ t ∷ p ∷ length es ∷ 0 ∷ 0 ∷ 0 ∷ 0 ∷ 0 ∷ 0 ∷ 0 ∷ 0 ∷ codes_of es
tail_of (Sleep e) = code_of e
tail_of (Hear v w n e) = padded n ++ code_of e
tail_of (If e x y) = code_of e ++ (draft_of x ++ draft_of y)
tail_of (While e x) = code_of e ++ draft_of x
tail_of (Guard x y) = draft_of x ++ draft_of y
tail_of (Return e) = code_of e
tail_of FailNow = []

pub draft_is : (s : Stmt) → draft_stmt s ≡ kind_of s ∷ second_of s ∷ stmt_size s ∷ fourth_of s ∷ tail_of s
unfolding draft_stmt stmt_size
draft_is (Set v e) = refl
draft_is (Do v k es t p) = refl
draft_is (Sleep e) = refl
draft_is (Hear v w n e) = refl
draft_is (If e x y) = refl
draft_is (While e x) = refl
draft_is (Guard x y) = refl
draft_is (Return e) = refl
draft_is FailNow = refl

pub lay_is : (s : Stmt) → is_simple s ≡ true → (a next : ℕ) (way : Way) (u d : ℕ) → lay_stmt a s next way u d ≡ entry (kind_of s) d ∷ second_of s ∷ next_word (kind_of s) next ∷ last_word (kind_of s) (way_word way) (fourth_of s) ∷ tail_of s
unfolding lay_stmt is_simple
lay_is (Set v e) h a next way u d = refl
lay_is (Do v k es t p) h a next way u d = refl
lay_is (Sleep e) h a next way u d = refl
lay_is (Hear v w n e) h a next way u d = refl
lay_is (If e x y) h a next way u d = absurd (false≢true h)
lay_is (While e x) h a next way u d = absurd (false≢true h)
lay_is (Guard x y) h a next way u d = absurd (false≢true h)
lay_is (Return e) h a next way u d = refl
lay_is FailNow h a next way u d = refl

pub kind_small : (s : Stmt) → kind_of s ≤ 11
kind_small (Set v e) = omega arith
kind_small (Do v k es t p) = omega arith
kind_small (Sleep e) = omega arith
kind_small (Hear v w n e) = omega arith
kind_small (If e x y) = omega arith
kind_small (While e x) = omega arith
kind_small (Guard x y) = omega arith
kind_small (Return e) = omega arith
kind_small FailNow = omega arith

-- a statement's head in the draft
pub head_at : (ds : List ℕ) (at : ℕ) (s : Stmt) (rest : List ℕ) → drop at ds ≡ draft_stmt s ++ rest → Head ds at (kind_of s) (second_of s) (stmt_size s) (fourth_of s) (tail_of s ++ rest)
head_at ds at s rest h = head_of ds at _ _ _ _ _ (h ∙ ap (λ (l : List ℕ). l ++ rest) (draft_is s))

pub tail_length : (s : Stmt) → 4 + length (tail_of s) ≡ 4 * stmt_size s
tail_length s = let x = stmt_length s in let y : length (draft_stmt s) ≡ 4 + length (tail_of s) = ap length (draft_is s) ∙ omega arith in omega arith

-- words written behind others; and too little room for the first of them is too little for all
pub written_then : {S : Type 0} (wrote : S → ℕ → S → Type 0) (room : S → ℕ) → (xs ys : List ℕ) (s t u : S) (r : Result (Unit {0}) LinkError) → Wrote (Step wrote room) xs s t → Written wrote room r t ys u → Written wrote room r s (xs ++ ys) u
written_then wrote room xs ys s t u (Ok x) h k = wrote_append h ys k
written_then wrote room xs ys s t u (Err NoRoom) h k = let a : room t + length xs ≡ room s = wrote_room room h in let b = length-append xs ys in omega arith
written_then wrote room xs ys s t u (Err Damaged) h k = k

pub written_short : {S : Type 0} (wrote : S → ℕ → S → Type 0) (room : S → ℕ) (xs ys : List ℕ) (s t u : S) (e : LinkError) → length xs ≤ length ys → Written wrote room (Err e) s xs t → Written wrote room (Err e) s ys u
written_short wrote room xs ys s t u NoRoom h k = omega arith
written_short wrote room xs ys s t u Damaged h k = k

pub written_at : {S : Type 0} (wrote : S → ℕ → S → Type 0) (room : S → ℕ) (s t : S) (r : Result (Unit {0}) LinkError) (xs ys : List ℕ) → xs ≡ ys → Written wrote room r s xs t → Written wrote room r s ys t
written_at wrote room s t r xs ys h k = subst (λ (l : List ℕ). Written wrote room r s l t) h k

pub size_at_least : (s : Stmt) → 1 ≤ stmt_size s
size_at_least s = let x = tail_length s in omega arith

-- no head of a statement is turned away
pub simple_good : (ds : List ℕ) (at : ℕ) (s : Stmt) (rest : List ℕ) → length ds ≤ 16384 → drop at ds ≡ draft_stmt s ++ rest → (get_or ds at 0 ≤ 11) × (1 ≤ get_or ds (at + 2) 0) × (get_or ds (at + 2) 0 ≤ 4096)
simple_good ds at s rest h d =
    let x = head_at ds at s rest d in
    let k = kind_small s in
    let l = length-append (tail_of s) rest in
    let m = tail_length s in
    (omega (arith, x.first), omega (arith, x.third), omega (arith, x.third, x.whole))

-- the head, and then the words behind it as they are in the draft
pub simple_linked : {S : Type 0} (wrote : S → ℕ → S → Type 0) (room : S → ℕ) → (ds : List ℕ) (at : ℕ) (s : Stmt) (w : Way) (rest : List ℕ) (next way u deep n l : ℕ) (a b c : S) (r : Result (Unit {0}) LinkError) →
    is_simple s ≡ true → drop at ds ≡ draft_stmt s ++ rest → way ≡ way_word w → n ≡ next_word (get_or ds at 0) next → l ≡ last_word (get_or ds at 0) way (get_or ds (at + 3) 0) →
    Wrote (Step wrote room) ((get_or ds at 0 + 32 * deep) ∷ get_or ds (at + 1) 0 ∷ n ∷ l ∷ []) a b →
    (at + 4 + 4 * (get_or ds (at + 2) 0 - 1) ≤ length ds → Written wrote room r b (take (4 * (get_or ds (at + 2) 0 - 1)) (drop (at + 4) ds)) c) →
    Written wrote room r a (lay_stmt at s next w u deep) c
simple_linked {S} wrote room ds at s w rest next way u deep n l a b c r simple d is en el h k =
    let x = head_at ds at s rest d in
    let m = tail_length s in
    let la = length-append (tail_of s) rest in
    let big : at + 4 + 4 * (get_or ds (at + 2) 0 - 1) ≤ length ds = omega (arith, x.third, x.whole) in
    let tl : length (tail_of s) ≡ 4 * (get_or ds (at + 2) 0 - 1) = omega (arith, x.third) in
    let t : take (4 * (get_or ds (at + 2) 0 - 1)) (drop (at + 4) ds) ≡ tail_of s = front_of ds (at + 4) _ (tail_of s) rest x.behind tl in
    let hd : ((get_or ds at 0 + 32 * deep) ∷ get_or ds (at + 1) 0 ∷ n ∷ l ∷ []) ≡ (entry (kind_of s) deep ∷ second_of s ∷ next_word (kind_of s) next ∷ last_word (kind_of s) (way_word w) (fourth_of s) ∷ []) =
    rw (en, el, is, x.first, x.second, x.fourth) refl in
    let h' : Wrote (Step wrote room) (entry (kind_of s) deep ∷ second_of s ∷ next_word (kind_of s) next ∷ last_word (kind_of s) (way_word w) (fourth_of s) ∷ []) a b = subst (λ (q : List ℕ). Wrote (Step wrote room) q a b) hd h in
    let k' : Written wrote room r b (tail_of s) c = written_at wrote room b c r _ _ t (k big) in
    written_at wrote room a c r _ _ (sym (lay_is s simple at next w u deep)) (written_then wrote room _ (tail_of s) a b c r h' k')
