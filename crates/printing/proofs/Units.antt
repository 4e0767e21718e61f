-- The units of expressions, and letters, where they stand in the words. Assumes nothing.
use Rattle.std.proofs.Common.{◌≡◌, ℕ, zero, suc, ◌+◌, ◌-◌, ◌*◌, ◌<◌, ◌≤◌, true, false, eqb, ltb, ◌≢◌, List, [], ◌∷◌, ◌++◌, length, get_or, drop, sym, refl, ap, ◌∙◌, subst, append_assoc, append-nil, le_refl, add-one, arith, length-append, length-drop, drop-cons}
use Rattle.std.proofs.lemmas.Bool.Decides.{nat_tests}
use Rattle.std.proofs.lemmas.List.{drop_all}
use Rattle.plans.specs.Plan.{every, Expr, Lit, Var, Plus, Minus, Times, Less, Same, Not, expr_size, sizes}
use Rattle.plans.specs.Flat.{code_of, codes_of}
use Rattle.printing.specs.Roots.{Rooted}
use Rattle.printing.specs.Heads.{is_unit, units_in, letters_in}
use Rattle.printing.proofs.Shapes.{past, size_some, length_code}

one_at : (ws : List ℕ) (at : ℕ) → at < length ws → drop at ws ≡ get_or ws at 0 ∷ drop (at + 1) ws
one_at ws at h = rw (drop-cons ws at 0 h, add-one) refl

next_at : (ws : List ℕ) (at i : ℕ) → at + i < length ws → drop (at + i) ws ≡ get_or ws (at + i) 0 ∷ drop (at + (i + 1)) ws
next_at ws at i h = let e : at + i + 1 ≡ at + (i + 1) = omega arith in one_at ws (at + i) h ∙ ap (λ (k : ℕ). get_or ws (at + i) 0 ∷ drop k ws) e

four_at_lem : (ws : List ℕ) (at : ℕ) → at + 4 ≤ length ws → drop at ws ≡ get_or ws at 0 ∷ get_or ws (at + 1) 0 ∷ get_or ws (at + 2) 0 ∷ get_or ws (at + 3) 0 ∷ drop (at + 4) ws
four_at_lem ws at h =
    let a = one_at ws at (omega arith) in
    let b = next_at ws at 1 (omega arith) in
    let c = next_at ws at 2 (omega arith) in
    let d = next_at ws at 3 (omega arith) in
    cc

pub unit_turn : (ws : List ℕ) (at : ℕ) → at + 4 ≤ length ws → is_unit (get_or ws at 0) ≡ true → units_in (drop at ws) ≡ 4 + units_in (drop (at + 4) ws)
unfolding units_in
unit_turn ws at h u = rw (four_at_lem ws at h, u) refl

pub unit_stop : (ws : List ℕ) (at : ℕ) → at + 4 ≤ length ws → is_unit (get_or ws at 0) ≡ false → units_in (drop at ws) ≡ 0
unfolding units_in
unit_stop ws at h u = rw (four_at_lem ws at h, u) refl

short : (xs : List ℕ) → length xs < 4 → units_in xs ≡ 0
unfolding units_in
short [] h = refl
short (k ∷ []) h = refl
short (k ∷ x ∷ []) h = refl
short (k ∷ x ∷ y ∷ []) h = refl
short (k ∷ x ∷ y ∷ z ∷ ws) h = absurd (omega arith)

pub unit_short : (ws : List ℕ) (at : ℕ) → length ws < at + 4 → units_in (drop at ws) ≡ 0
unit_short ws at h = short (drop at ws) (simp length-drop (omega arith))

two_units : (xs ys rest : List ℕ) (k n s t : ℕ) → is_unit k ≡ true → ((zs : List ℕ) → units_in (xs ++ zs) ≡ 4 * s + units_in zs) → ((zs : List ℕ) → units_in (ys ++ zs) ≡ 4 * t + units_in zs) →
    units_in ((xs ++ (ys ++ (k ∷ n ∷ 0 ∷ 0 ∷ []))) ++ rest) ≡ 4 * (1 + (s + t)) + units_in rest
unfolding units_in
two_units xs ys rest k n s t h f g =
    let a : units_in (k ∷ n ∷ 0 ∷ 0 ∷ rest) ≡ 4 + units_in rest = rw h refl in
    simp append_assoc (omega (arith, f (ys ++ (k ∷ n ∷ 0 ∷ 0 ∷ rest)), g (k ∷ n ∷ 0 ∷ 0 ∷ rest), a))

pub units_code : (e : Expr) (rest : List ℕ) → units_in (code_of e ++ rest) ≡ 4 * expr_size e + units_in rest
unfolding code_of expr_size units_in
units_code (Lit n) rest = refl
units_code (Var v) rest = refl
units_code (Plus a b) rest = two_units (code_of a) (code_of b) rest 18 (expr_size b) (expr_size a) (expr_size b) refl (units_code a) (units_code b)
units_code (Minus a b) rest = two_units (code_of a) (code_of b) rest 19 (expr_size b) (expr_size a) (expr_size b) refl (units_code a) (units_code b)
units_code (Times a b) rest = two_units (code_of a) (code_of b) rest 20 (expr_size b) (expr_size a) (expr_size b) refl (units_code a) (units_code b)
units_code (Less a b) rest = two_units (code_of a) (code_of b) rest 21 (expr_size b) (expr_size a) (expr_size b) refl (units_code a) (units_code b)
units_code (Same a b) rest = two_units (code_of a) (code_of b) rest 22 (expr_size b) (expr_size a) (expr_size b) refl (units_code a) (units_code b)
units_code (Not a) rest =
    let s : units_in (23 ∷ 0 ∷ 0 ∷ 0 ∷ rest) ≡ 4 + units_in rest = refl in
    rw append_assoc (omega (arith, units_code a (23 ∷ 0 ∷ 0 ∷ 0 ∷ rest)))

pub units_codes : (es : List Expr) (rest : List ℕ) → units_in (codes_of es ++ rest) ≡ 4 * sizes es + units_in rest
unfolding codes_of sizes
units_codes [] rest = omega arith
units_codes (e ∷ es) rest = rw append_assoc (omega (arith, units_code e (codes_of es ++ rest), units_codes es rest))

pub length_codes : (es : List Expr) → length (codes_of es) ≡ 4 * sizes es
unfolding codes_of sizes
length_codes [] = refl
length_codes (e ∷ es) = omega (arith, length-append (code_of e) (codes_of es), length_code e, length_codes es)

-- one expression
pub value_end : (ws rest : List ℕ) (at end : ℕ) (e : Expr) → drop at ws ≡ code_of e ++ rest → units_in rest ≡ 0 → end ≡ at + units_in (drop at ws) → end ≡ at + 4 * expr_size e
value_end ws rest at end e h s q = omega (arith, ap units_in h, units_code e rest)

unfoldable pub value_rooted : (ws rest : List ℕ) (at end : ℕ) (e : Expr) → drop at ws ≡ code_of e ++ rest → units_in rest ≡ 0 → end ≡ at + units_in (drop at ws) → Rooted ws (end - 4) e
value_rooted ws rest at end e h s q =
    let a : end ≡ at + 4 * expr_size e = value_end ws rest at end e h s q in
    let b : 1 ≤ expr_size e = size_some e in
    record { from = at; rest = rest; is = h; ends = omega arith }

pub value_low : (ws rest : List ℕ) (at end : ℕ) (e : Expr) (h : drop at ws ≡ code_of e ++ rest) (s : units_in rest ≡ 0) (q : end ≡ at + units_in (drop at ws)) → at ≤ (value_rooted ws rest at end e h s q).from
unfolding value_rooted
value_low ws rest at end e h s q = le_refl at

pub value_some : (ws rest : List ℕ) (at end : ℕ) (e : Expr) → drop at ws ≡ code_of e ++ rest → units_in rest ≡ 0 → end ≡ at + units_in (drop at ws) → end < 4 → ⊥
value_some ws rest at end e h s q l = omega (arith, value_end ws rest at end e h s q, size_some e)

pub value_past : (ws rest : List ℕ) (at end : ℕ) (e : Expr) → drop at ws ≡ code_of e ++ rest → units_in rest ≡ 0 → end ≡ at + units_in (drop at ws) → drop end ws ≡ rest
value_past ws rest at end e h s q =
    let a : at + length (code_of e) ≡ end = omega (arith, value_end ws rest at end e h s q, length_code e) in
    subst (λ (k : ℕ). drop k ws ≡ rest) a (past ws (code_of e) rest at h)

pub args_past : (ws rest : List ℕ) (at end : ℕ) (es : List Expr) → drop at ws ≡ codes_of es ++ rest → units_in rest ≡ 0 → end ≡ at + units_in (drop at ws) → end ≡ at + 4 * sizes es
args_past ws rest at end es h s q = omega (arith, ap units_in h, units_codes es rest)

-- letters
pub letter_turn : (ws : List ℕ) (i : ℕ) → i < length ws → eqb (get_or ws i 0) 0 ≡ false → letters_in (drop i ws) ≡ get_or ws i 0 ∷ letters_in (drop (i + 1) ws)
unfolding letters_in
letter_turn ws i h z = rw (one_at ws i h, z) refl

pub letter_stop : (ws : List ℕ) (i : ℕ) → i < length ws → get_or ws i 0 ≡ 0 → letters_in (drop i ws) ≡ []
unfolding letters_in
letter_stop ws i h z = rw (one_at ws i h, z) refl

pub letter_end : (ws : List ℕ) (i : ℕ) → length ws ≤ i → letters_in (drop i ws) ≡ []
unfolding letters_in
letter_end ws i h = rw (drop_all i ws h) refl

pub letter_added : (mid new all : List ℕ) (ws : List ℕ) (i : ℕ) → i < length ws → get_or ws i 0 ≢ 0 → mid ++ letters_in (drop i ws) ≡ all → new ≡ mid ++ (get_or ws i 0 ∷ []) → new ++ letters_in (drop (i + 1) ws) ≡ all
letter_added mid new all ws i h z e n =
    let y : eqb (get_or ws i 0) 0 ≡ false = grind (arith, nat_tests) in
    let f = letter_turn ws i h y in
    ap (λ (x : List ℕ). x ++ letters_in (drop (i + 1) ws)) n ∙ (append_assoc mid (get_or ws i 0 ∷ []) (letters_in (drop (i + 1) ws)) ∙ (ap (λ (x : List ℕ). mid ++ x) (sym f) ∙ e))

pub letters_done : (mid all xs : List ℕ) → xs ≡ [] → mid ++ xs ≡ all → mid ≡ all
letters_done mid all xs h e = sym (append-nil mid) ∙ (ap (λ (x : List ℕ). mid ++ x) (sym h) ∙ e)

every_at : (ws : List ℕ) (i : ℕ) → every (λ (b : ℕ). ltb b 256) ws ≡ true → get_or ws i 0 < 256
unfolding every
every_at [] i h = omega arith
every_at (x ∷ ws) zero h = grind (arith, nat_tests)
every_at (x ∷ ws) (suc i) h = let q : every (λ (b : ℕ). ltb b 256) ws ≡ true = grind (arith, nat_tests) in every_at ws i q

pub letter_large : (ws : List ℕ) (i : ℕ) → every (λ (b : ℕ). ltb b 256) ws ≡ true → 255 < get_or ws i 0 → ⊥
letter_large ws i h g = omega (arith, every_at ws i h)
