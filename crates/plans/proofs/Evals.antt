-- The units of an expression do what the tree is worth.
use Rattle.std.proofs.Common.{◌≡◌, ℕ, zero, suc, ◌+◌, ◌-◌, ◌*◌, ◌%◌, ◌<◌, ◌≤◌, Bool, true, false, cond, eqb, ◌≢◌, ◌⊎◌, List, [], ◌∷◌, ◌++◌, length, get_or, take, drop, set, sym, refl, ap, ◌∙◌, subst, length-drop, inl, inr, append_assoc, mod-eq_of_lt, add-one, arith, get_or-set_other, get_or-set_same}
use mir.Val.{bool_byte}
use Rattle.std.proofs.lemmas.List.{take_all}
use Rattle.std.proofs.lemmas.Bool.{lt-ltb, le-ltb, ltb-true, and_parts}
use Rattle.plans.specs.declared.eval.Join.{Join}
use Rattle.plans.specs.declared.eval.Join.TheVariants.{Sum, Difference, Product, Under, Equal}
use Rattle.plans.specs.declared.eval.Op.{Op}
use Rattle.plans.specs.declared.eval.Op.TheVariants.{Push, Load, Pair, Negate, Halt}
use Rattle.plans.specs.Plan.{Expr, Lit, Var, Plus, Minus, Times, Less, Same, Not, expr_ok, expr_size, value, top, less_by, bit}
use Rattle.plans.specs.Flat.{code_of}
use Rattle.plans.specs.Eval.{op_of, join_of, Out, Bad, Stop, tops, pushed, loaded, paired, negated, onto, acts, or_stop, run_e, One, no_value, one_value, one_of, look, Meant}

pub bool_byte_is : (b : Bool) → bool_byte b ≡ cond b 1 0
bool_byte_is true = refl
bool_byte_is false = refl

-- the stack in an array
pub length_tops : (xs : List ℕ) (n : ℕ) → length (tops xs n) ≡ n
length_tops xs zero = refl
length_tops xs (suc n) = ap suc (length_tops xs n)

tops_below : (xs : List ℕ) (n k v : ℕ) → n ≤ k → tops (set xs k v) n ≡ tops xs n
tops_below xs zero k v h = refl
tops_below xs (suc n) k v h =
    let ne : n ≢ k = omega arith in
    let below : n ≤ k = omega arith in
    rw (get_or-set_other, tops_below xs n k v below)

tops_put : (xs : List ℕ) (n v : ℕ) → n < length xs → tops (set xs n v) (suc n) ≡ v ∷ tops xs n
tops_put xs n v h = let same : n ≤ n = omega arith in rw (get_or-set_same, tops_below xs n n v same)

tops_more : (xs : List ℕ) (n v : ℕ) → n < length xs → tops (set xs n v) (n + 1) ≡ v ∷ tops xs n
tops_more xs n v h = subst (λ k. tops (set xs n v) k ≡ v ∷ tops xs n) (sym (add-one n)) (tops_put xs n v h)

tops_one : (xs : List ℕ) (n : ℕ) → 1 ≤ n → tops xs n ≡ get_or xs (n - 1) 0 ∷ tops xs (n - 1)
tops_one xs zero h = absurd (omega arith)
tops_one xs (suc m) h = let e : suc m - 1 ≡ m = omega arith in rw e

tops_set : (xs : List ℕ) (n v : ℕ) → 1 ≤ n → n ≤ length xs → tops (set xs (n - 1) v) n ≡ v ∷ tops xs (n - 1)
tops_set xs zero v h k = absurd (omega arith)
tops_set xs (suc m) v h k = let e : m ≡ suc m - 1 = omega arith in subst (λ k. tops (set xs k v) (suc m) ≡ v ∷ tops xs k) e (tops_put xs m v (omega arith))

-- the words behind a unit, as the code cuts them off
abbrev rest : List ℕ → List ℕ
rest ws = take (length ws - 4) (drop 4 ws)

pub no_unit : (room : ℕ) (vs ws : List ℕ) (pc : ℕ) (st : List ℕ) → length ws < 4 → run_e room vs ws pc st ≡ Bad
unfolding run_e
no_unit room vs [] pc st h = refl
no_unit room vs (a ∷ []) pc st h = refl
no_unit room vs (a ∷ b ∷ []) pc st h = refl
no_unit room vs (a ∷ b ∷ c ∷ []) pc st h = refl
no_unit room vs (a ∷ b ∷ c ∷ d ∷ l) pc st h = absurd (omega arith)

pub too_short : (room : ℕ) (vs ws : List ℕ) (pc : ℕ) (st : List ℕ) → length ws < pc + 4 → run_e room vs (drop pc ws) pc st ≡ Bad
too_short room vs ws pc st h = no_unit room vs (drop pc ws) pc st (let l = length-drop pc ws in omega arith)

module _ (room : ℕ) (vs : List ℕ) (total : ℕ) where
  abbrev pub running : List ℕ → List ℕ → Out
  running ws st = run_e room vs ws (total - length ws) st

  by_op : (o : Op) (ws st : List ℕ) → 4 ≤ length ws → length ws ≤ total → o ≡ op_of (get_or ws 0 0) → running ws st ≡ or_stop o (Stop st (total - length ws)) (onto (acts room vs o (get_or ws 1 0) st) (λ s. running (rest ws) s))
  unfolding run_e
  by_op o [] st h t e = absurd (omega arith)
  by_op o (a ∷ []) st h t e = absurd (omega arith)
  by_op o (a ∷ b ∷ []) st h t e = absurd (omega arith)
  by_op o (a ∷ b ∷ c ∷ []) st h t e = absurd (omega arith)
  by_op o (a ∷ b ∷ c ∷ d ∷ ws) st h t e =
      let same : take (length (a ∷ b ∷ c ∷ d ∷ ws) - 4) ws ≡ ws = take_all _ ws (omega arith) in
      let pc : total - length (a ∷ b ∷ c ∷ d ∷ ws) + 4 ≡ total - length ws = omega arith in
      rw (same, pc, e) refl

  pub halts : (ws st : List ℕ) → 4 ≤ length ws → length ws ≤ total → Halt ≡ op_of (get_or ws 0 0) → running ws st ≡ Stop st (total - length ws)
  unfolding or_stop
  halts ws st h t e = by_op Halt ws st h t e

  pub push_full : (ws : List ℕ) (n : ℕ) (xs : List ℕ) → 4 ≤ length ws → length ws ≤ total → Push ≡ op_of (get_or ws 0 0) → room ≤ n → running ws (tops xs n) ≡ Bad
  unfolding or_stop acts pushed onto
  push_full ws n xs h t e k = by_op Push ws (tops xs n) h t e ∙ (rw (length_tops xs n, le-ltb n room k) refl)

  pub push_turn_lem : (ws : List ℕ) (n : ℕ) (xs : List ℕ) → 4 ≤ length ws → length ws ≤ total → Push ≡ op_of (get_or ws 0 0) → n < room → length xs ≡ room → running (rest ws) (tops (set xs n (get_or ws 1 0)) (n + 1)) ≡ running ws (tops xs n)
  unfolding or_stop acts pushed onto
  push_turn_lem ws n xs h t e k l = ap (running (rest ws)) (tops_more xs n _ (omega arith)) ∙ sym (by_op Push ws (tops xs n) h t e ∙ (rw (length_tops xs n, lt-ltb n room k) refl))

  pub load_bad : (ws : List ℕ) (n : ℕ) (xs : List ℕ) → 4 ≤ length ws → length ws ≤ total → Load ≡ op_of (get_or ws 0 0) → (length vs ≤ get_or ws 1 0) ⊎ ((get_or ws 1 0 < length vs) × (room ≤ n)) → running ws (tops xs n) ≡ Bad
  unfolding or_stop acts loaded pushed onto
  load_bad ws n xs h t e (inl k) = by_op Load ws (tops xs n) h t e ∙ (rw (le-ltb (get_or ws 1 0) (length vs) k) refl)
  load_bad ws n xs h t e (inr k) = by_op Load ws (tops xs n) h t e ∙ (rw (lt-ltb (get_or ws 1 0) (length vs) k.0, length_tops xs n, le-ltb n room k.1) refl)

  pub load_turn : (ws : List ℕ) (n : ℕ) (xs : List ℕ) → 4 ≤ length ws → length ws ≤ total → Load ≡ op_of (get_or ws 0 0) → get_or ws 1 0 < length vs → n < room → length xs ≡ room → running (rest ws) (tops (set xs n (get_or vs (get_or ws 1 0) 0)) (n + 1)) ≡ running ws (tops xs n)
  unfolding or_stop acts loaded pushed onto
  load_turn ws n xs h t e v k l = ap (running (rest ws)) (tops_more xs n _ (omega arith)) ∙ sym (by_op Load ws (tops xs n) h t e ∙ (rw (lt-ltb (get_or ws 1 0) (length vs) v, length_tops xs n, lt-ltb n room k) refl))

  pub pair_bad : (j : Join) (ws : List ℕ) (n : ℕ) (xs : List ℕ) → 4 ≤ length ws → length ws ≤ total → Pair j ≡ op_of (get_or ws 0 0) → n < 2 → running ws (tops xs n) ≡ Bad
  unfolding or_stop acts paired onto
  pair_bad j ws zero xs h t e k = by_op (Pair j) ws [] h t e
  pair_bad j ws (suc zero) xs h t e k = by_op (Pair j) ws _ h t e
  pair_bad j ws (suc (suc n)) xs h t e k = absurd (omega arith)

  pub pair_turn : (j : Join) (ws : List ℕ) (n r : ℕ) (xs : List ℕ) → 4 ≤ length ws → length ws ≤ total → Pair j ≡ op_of (get_or ws 0 0) → 2 ≤ n → n ≤ length xs → r ≡ join_of j (get_or xs (n - 1 - 1) 0) (get_or xs (n - 1) 0) → running (rest ws) (tops (set xs (n - 1 - 1) r) (n - 1)) ≡ running ws (tops xs n)
  unfolding or_stop acts paired onto
  pair_turn j ws n r xs h t e two lim is =
      let both : tops xs n ≡ get_or xs (n - 1) 0 ∷ get_or xs (n - 1 - 1) 0 ∷ tops xs (n - 1 - 1) = tops_one xs n (omega arith) ∙ ap (λ (l : List ℕ). get_or xs (n - 1) 0 ∷ l) (tops_one xs (n - 1) (omega arith)) in
      ap (running (rest ws)) (tops_set xs (n - 1) r (omega arith) (omega arith) ∙ ap (λ (x : ℕ). x ∷ tops xs (n - 1 - 1)) is) ∙ sym (ap (running ws) both ∙ by_op (Pair j) ws (get_or xs (n - 1) 0 ∷ get_or xs (n - 1 - 1) 0 ∷ tops xs (n - 1 - 1)) h t e)

  pub negate_bad : (ws : List ℕ) (n : ℕ) (xs : List ℕ) → 4 ≤ length ws → length ws ≤ total → Negate ≡ op_of (get_or ws 0 0) → n < 1 → running ws (tops xs n) ≡ Bad
  unfolding or_stop acts negated onto
  negate_bad ws zero xs h t e k = by_op Negate ws [] h t e
  negate_bad ws (suc n) xs h t e k = absurd (omega arith)

  pub negate_turn : (ws : List ℕ) (n r : ℕ) (xs : List ℕ) → 4 ≤ length ws → length ws ≤ total → Negate ≡ op_of (get_or ws 0 0) → 1 ≤ n → n ≤ length xs → r ≡ cond (eqb (get_or xs (n - 1) 0) 0) 1 0 → running (rest ws) (tops (set xs (n - 1) r) n) ≡ running ws (tops xs n)
  unfolding or_stop acts negated onto
  negate_turn ws n r xs h t e one lim is =
      ap (running (rest ws)) (tops_set xs n r one lim ∙ ap (λ (x : ℕ). x ∷ tops xs (n - 1)) is) ∙ sym (ap (running ws) (tops_one xs n one) ∙ by_op Negate ws (get_or xs (n - 1) 0 ∷ tops xs (n - 1)) h t e)

-- the tree
less_by_is : (k m : ℕ) → less_by k m ≡ m - k
unfolding less_by
less_by_is zero m = omega arith
less_by_is (suc k) zero = omega arith
less_by_is (suc k) (suc m) = let h = less_by_is k m in omega arith

module _ (room : ℕ) (vs : List ℕ) (all : length vs ≡ 64) where
  two : (j : Join) (t u : ℕ) (a b rest : List ℕ) (x y m n pc : ℕ) (st : List ℕ) → Pair j ≡ op_of t →
      ((more : List ℕ) → run_e room vs (a ++ more) pc st ≡ run_e room vs more (pc + 4 * m) (x ∷ st)) → ((more : List ℕ) → run_e room vs (b ++ more) (pc + 4 * m) (x ∷ st) ≡ run_e room vs more (pc + 4 * m + 4 * n) (y ∷ x ∷ st)) →
      run_e room vs ((a ++ (b ++ (t ∷ u ∷ 0 ∷ 0 ∷ []))) ++ rest) pc st ≡ run_e room vs rest (pc + 4 * (1 + (m + n))) (join_of j x y ∷ st)
  unfolding run_e or_stop acts paired onto
  two j t u a b rest x y m n pc st is ha hb =
      let e : pc + 4 * m + 4 * n + 4 ≡ pc + 4 * (1 + (m + n)) = omega arith in
      ap (λ (l : List ℕ). run_e room vs l pc st) (append_assoc a (b ++ (t ∷ u ∷ 0 ∷ 0 ∷ [])) rest ∙ ap (λ (l : List ℕ). a ++ l) (append_assoc b (t ∷ u ∷ 0 ∷ 0 ∷ []) rest)) ∙
      (ha (b ++ (t ∷ u ∷ 0 ∷ 0 ∷ rest)) ∙ (hb (t ∷ u ∷ 0 ∷ 0 ∷ rest) ∙ (rw (sym is, e) refl)))

  pub runs : (e : Expr) (rest : List ℕ) (pc : ℕ) (st : List ℕ) → expr_ok e ≡ true → length st + expr_size e ≤ room → run_e room vs (code_of e ++ rest) pc st ≡ run_e room vs rest (pc + 4 * expr_size e) (value e (look vs) ∷ st)
  unfolding code_of expr_ok expr_size value run_e or_stop acts pushed loaded negated onto
  runs (Lit n) rest pc st ok k =
      let small : n % top ≡ n = mod-eq_of_lt (ltb-true n top ok) in
      rw (lt-ltb (length st) room (omega arith), small) refl
  runs (Var v) rest pc st ok k =
      let inside : v < length vs = omega (arith, ltb-true v 64 ok) in
      rw (lt-ltb v (length vs) inside, lt-ltb (length st) room (omega arith)) refl
  runs (Plus a b) rest pc st ok k = let p = and_parts (expr_ok a) (expr_ok b) ok in two Sum 18 (expr_size b) (code_of a) (code_of b) rest _ _ (expr_size a) (expr_size b) pc st refl (λ more. runs a more pc st p.0 (omega arith)) (λ more. runs b more (pc + 4 * expr_size a) (value a (look vs) ∷ st) p.1 (omega arith))
  runs (Minus a b) rest pc st ok k = let p = and_parts (expr_ok a) (expr_ok b) ok in rw less_by_is (two Difference 19 (expr_size b) (code_of a) (code_of b) rest _ _ (expr_size a) (expr_size b) pc st refl (λ more. runs a more pc st p.0 (omega arith)) (λ more. runs b more (pc + 4 * expr_size a) (value a (look vs) ∷ st) p.1 (omega arith)))
  runs (Times a b) rest pc st ok k = let p = and_parts (expr_ok a) (expr_ok b) ok in two Product 20 (expr_size b) (code_of a) (code_of b) rest _ _ (expr_size a) (expr_size b) pc st refl (λ more. runs a more pc st p.0 (omega arith)) (λ more. runs b more (pc + 4 * expr_size a) (value a (look vs) ∷ st) p.1 (omega arith))
  runs (Less a b) rest pc st ok k = let p = and_parts (expr_ok a) (expr_ok b) ok in two Under 21 (expr_size b) (code_of a) (code_of b) rest _ _ (expr_size a) (expr_size b) pc st refl (λ more. runs a more pc st p.0 (omega arith)) (λ more. runs b more (pc + 4 * expr_size a) (value a (look vs) ∷ st) p.1 (omega arith))
  runs (Same a b) rest pc st ok k = let p = and_parts (expr_ok a) (expr_ok b) ok in two Equal 22 (expr_size b) (code_of a) (code_of b) rest _ _ (expr_size a) (expr_size b) pc st refl (λ more. runs a more pc st p.0 (omega arith)) (λ more. runs b more (pc + 4 * expr_size a) (value a (look vs) ∷ st) p.1 (omega arith))
  runs (Not a) rest pc st ok k =
      let e : pc + 4 * expr_size a + 4 ≡ pc + 4 * (1 + expr_size a) = omega arith in
      ap (λ (l : List ℕ). run_e room vs l pc st) (append_assoc (code_of a) (23 ∷ 0 ∷ 0 ∷ 0 ∷ []) rest) ∙ (runs a (23 ∷ 0 ∷ 0 ∷ 0 ∷ rest) pc st ok (omega arith) ∙ ap (λ (q : ℕ). run_e room vs rest q (bit (eqb (value a (look vs)) 0) ∷ st)) e)

stops_at : (room : ℕ) (vs : List ℕ) (k : ℕ) (rest : List ℕ) (pc : ℕ) (st : List ℕ) → 3 ≤ length rest → Halt ≡ op_of k → run_e room vs (k ∷ rest) pc st ≡ Stop st pc
unfolding run_e or_stop
stops_at room vs k [] pc st h e = absurd (omega arith)
stops_at room vs k (a ∷ []) pc st h e = absurd (omega arith)
stops_at room vs k (a ∷ b ∷ []) pc st h e = absurd (omega arith)
stops_at room vs k (a ∷ b ∷ c ∷ rest) pc st h e = rw (sym e) refl

pub worth_is : (ws : List ℕ) (at : ℕ) (vs : List ℕ) (room : ℕ) (e : Expr) → Meant ws at vs room e → one_of (run_e room vs (drop at ws) at []) ≡ one_value (value e (look vs)) (at + 4 * expr_size e)
unfolding one_of
worth_is ws at vs room e h =
    ap one_of (ap (λ (l : List ℕ). run_e room vs l at []) h.stands ∙ (runs room vs h.all e (h.kind ∷ h.rest) at [] h.good (omega (arith, h.small)) ∙ stops_at room vs h.kind h.rest (at + 4 * expr_size e) (value e (look vs) ∷ []) h.whole h.ends))

pub not_one : (xs : List ℕ) (n e : ℕ) (o : Out) → o ≡ Stop (tops xs n) e → (n ≡ 1 → ⊥) → one_of o ≡ no_value
unfolding one_of
not_one xs zero e o h k = ap one_of h
not_one xs (suc zero) e o h k = absurd (k refl)
not_one xs (suc (suc n)) e o h k = ap one_of h

pub just_one : (xs : List ℕ) (n e : ℕ) (o : Out) → o ≡ Stop (tops xs n) e → n ≡ 1 → one_of o ≡ one_value (get_or xs 0 0) e
unfolding one_of
just_one xs n e o h k = ap one_of (h ∙ ap (λ m. Stop (tops xs m) e) k)

pub no_run : (o : Out) → o ≡ Bad → one_of o ≡ no_value
unfolding one_of
no_run o h = ap one_of h

pub never_worth : {o : One} {x b : ℕ} → o ≡ no_value → o ≡ one_value x b → ⊥
never_worth h e = let z : ◌≡◌ {A = ℕ} 0 1 = cc in omega arith

pub same_worth : {o : One} {x y a b : ℕ} → o ≡ one_value x a → o ≡ one_value y b → (x ≡ y) × (a ≡ b)
same_worth h e = (cc, cc)
