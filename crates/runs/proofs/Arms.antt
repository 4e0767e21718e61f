-- What each statement does on the words, by what its expression is worth.
use Rattle.std.proofs.Common.{◌≡◌, ℕ, zero, suc, ◌+◌, ◌<◌, ◌≤◌, true, false, cond, ◌&&◌, eqb, ltb, leb, ◌⊎◌, List, [], ◌∷◌, ◌++◌, length, get_or, take, drop, set, Some, None, Option, Result, sym, refl, ap, ◌∙◌, subst, inl, inr, append_assoc, arith, take-suc}
use Rattle.std.proofs.lemmas.Bool.{lt-ltb, le-ltb, eq-eqb, ne_eqb, le-leb, lt-leb, cond-true, cond-false}
use Rattle.runs.specs.declared.unit.Statement.{Statement}
use Rattle.runs.specs.declared.unit.Statement.TheVariants.{Set, Do, Sleep, Hear, If, Return}
use Rattle.runs.specs.declared.step.Phase.TheVariants.{Asleep, Listens, Ended, Failed}
use Rattle.runs.specs.declared.step.Place.{Place}
use Rattle.plans.proofs.Evals.{too_short, no_run, length_tops}
use Rattle.plans.specs.Plan.{capped}
use Rattle.plans.specs.Eval.{Out as Run, Bad, Stop, tops, run_e, One, no_value, one_value}
use Rattle.runs.specs.Steps.{Out, Lost, Went, gone_to, ended_as, waits_at, asked_into, with_value, worth_at, backs, with_all, does_w, busy, step_w, Stepped}
use Rattle.runs.specs.Machine.{spent}
use Rattle.runs.specs.Units.{statement_at, deep_at}
use Rattle.runs.specs.declared.step.Moved.{Moved}
use Rattle.plans.specs.declared.eval.Damaged.{Damaged}

value_lost : (o : One) (f : ℕ → ℕ → Out) → o ≡ no_value → with_value o f ≡ Lost
unfolding with_value
value_lost o f h = ap (λ (p : One). with_value p f) h

value_went : (o : One) (x e : ℕ) (f : ℕ → ℕ → Out) → o ≡ one_value x e → with_value o f ≡ f x e
unfolding with_value
value_went o x e f h = ap (λ (p : One). with_value p f) h

-- a stack from its bottom
append_none : (xs : List ℕ) → xs ++ [] ≡ xs
append_none [] = refl
append_none (x ∷ xs) = ap (λ (l : List ℕ). x ∷ l) (append_none xs)

backs_tops : (xs : List ℕ) (n : ℕ) (acc : List ℕ) → n ≤ length xs → backs (tops xs n) acc ≡ take n xs ++ acc
unfolding backs
backs_tops xs zero acc h = refl
backs_tops xs (suc n) acc h = backs_tops xs n (get_or xs n 0 ∷ acc) (omega arith) ∙ (sym (append_assoc (take n xs) (get_or xs n 0 ∷ []) acc) ∙ ap (λ (l : List ℕ). l ++ acc) (sym (take-suc xs n 0 (omega arith))))

module _ (room : ℕ) (ws : List ℕ) (p : Place) (vs : List ℕ) where
  pub set_past : (t v next e : ℕ) → 64 ≤ v → does_w room ws t (Some (Set v next e)) p vs ≡ Lost
  unfolding does_w
  set_past t v next e h = cond-false (ltb v 64) _ Lost (le-ltb v 64 h)

  pub set_bad : (t v next e : ℕ) → v < 64 → worth_at room ws e vs ≡ no_value → does_w room ws t (Some (Set v next e)) p vs ≡ Lost
  unfolding does_w
  set_bad t v next e h k = cond-true (ltb v 64) _ Lost (lt-ltb v 64 h) ∙ value_lost (worth_at room ws e vs) _ k

  pub set_went : (t v next e x end : ℕ) (r : Place) → v < 64 → worth_at room ws e vs ≡ one_value x end → r ≡ gone_to next p → does_w room ws t (Some (Set v next e)) p vs ≡ Went r (set vs v x) []
  unfolding does_w
  set_went t v next e x end r h k g = cond-true (ltb v 64) _ Lost (lt-ltb v 64 h) ∙ (value_went (worth_at room ws e vs) x end (λ y z. Went (gone_to next p) (set vs v y) []) k ∙ ap (λ (q : Place). Went q (set vs v x) []) (sym g))

  pub if_bad : (t other e : ℕ) → worth_at room ws e vs ≡ no_value → does_w room ws t (Some (If other e)) p vs ≡ Lost
  unfolding does_w
  if_bad t other e k = value_lost (worth_at room ws e vs) _ k

  pub if_no : (t other e x end : ℕ) (r : Place) → worth_at room ws e vs ≡ one_value x end → x ≡ 0 → r ≡ gone_to other p → does_w room ws t (Some (If other e)) p vs ≡ Went r vs []
  unfolding does_w
  if_no t other e x end r k z g = value_went (worth_at room ws e vs) x end (λ y n. Went (gone_to (cond (eqb y 0) other n) p) vs []) k ∙ (ap (λ (n : ℕ). Went (gone_to n p) vs []) (cond-true (eqb x 0) other end (eq-eqb x 0 z)) ∙ ap (λ (q : Place). Went q vs []) (sym g))

  pub if_yes : (t other e x end : ℕ) (r : Place) → worth_at room ws e vs ≡ one_value x end → (x ≡ 0 → ⊥) → r ≡ gone_to end p → does_w room ws t (Some (If other e)) p vs ≡ Went r vs []
  unfolding does_w
  if_yes t other e x end r k z g = value_went (worth_at room ws e vs) x end (λ y n. Went (gone_to (cond (eqb y 0) other n) p) vs []) k ∙ (ap (λ (n : ℕ). Went (gone_to n p) vs []) (cond-false (eqb x 0) other end (ne_eqb x 0 z)) ∙ ap (λ (q : Place). Went q vs []) (sym g))

  pub return_bad : (t e : ℕ) → worth_at room ws e vs ≡ no_value → does_w room ws t (Some (Return e)) p vs ≡ Lost
  unfolding does_w
  return_bad t e k = value_lost (worth_at room ws e vs) _ k

  pub return_went : (t e x end : ℕ) (r : Place) → worth_at room ws e vs ≡ one_value x end → r ≡ ended_as (Ended x) p → does_w room ws t (Some (Return e)) p vs ≡ Went r vs []
  unfolding does_w
  return_went t e x end r k g = value_went (worth_at room ws e vs) x end (λ y n. Went (ended_as (Ended y) p) vs []) k ∙ ap (λ (q : Place). Went q vs []) (sym g)

  pub sleep_bad : (t next e : ℕ) → worth_at room ws e vs ≡ no_value → does_w room ws t (Some (Sleep next e)) p vs ≡ Lost
  unfolding does_w
  sleep_bad t next e k = value_lost (worth_at room ws e vs) _ k

  pub sleep_went : (t next e x end u : ℕ) → worth_at room ws e vs ≡ one_value x end → u ≡ t + capped x → does_w room ws t (Some (Sleep next e)) p vs ≡ Went (waits_at (Asleep u) next p) vs []
  unfolding does_w
  sleep_went t next e x end u k g = value_went (worth_at room ws e vs) x end (λ y n. Went (waits_at (Asleep (t + capped y)) next p) vs []) k ∙ ap (λ (w : ℕ). Went (waits_at (Asleep w) next p) vs []) (sym g)

  pub hear_past : (t v w next name : ℕ) → ltb v 64 && ltb w 64 ≡ false → does_w room ws t (Some (Hear v w next name)) p vs ≡ Lost
  unfolding does_w
  hear_past t v w next name h = cond-false (ltb v 64 && ltb w 64) _ Lost h

  pub hear_bad : (t v w next name : ℕ) → v < 64 → w < 64 → worth_at room ws (name + 64) vs ≡ no_value → does_w room ws t (Some (Hear v w next name)) p vs ≡ Lost
  unfolding does_w
  hear_bad t v w next name h g k = cond-true (ltb v 64 && ltb w 64) _ Lost (rw (lt-ltb v 64 h, lt-ltb w 64 g) refl) ∙ value_lost (worth_at room ws (name + 64) vs) _ k

  pub hear_went : (t v w next name x end u : ℕ) → v < 64 → w < 64 → worth_at room ws (name + 64) vs ≡ one_value x end → u ≡ t + capped x → does_w room ws t (Some (Hear v w next name)) p vs ≡ Went (waits_at (Listens v w name u) next p) vs []
  unfolding does_w
  hear_went t v w next name x end u h g k e = cond-true (ltb v 64 && ltb w 64) _ Lost (rw (lt-ltb v 64 h, lt-ltb w 64 g) refl) ∙ (value_went (worth_at room ws (name + 64) vs) x end (λ y n. Went (waits_at (Listens v w name (t + capped y)) next p) vs []) k ∙ ap (λ (a : ℕ). Went (waits_at (Listens v w name a) next p) vs []) (sym e))

  pub hear_past_either : (t v w next name : ℕ) → (64 ≤ v) ⊎ (((v < 64) × (64 ≤ w)) ⊎ ((v < 64) × (w < 64) × (length ws ≤ name))) → does_w room ws t (Some (Hear v w next name)) p vs ≡ Lost
  hear_past_either t v w next name h = go h
    where
      worthless : length ws ≤ name → worth_at room ws (name + 64) vs ≡ no_value
      worthless l = no_run (run_e room vs (drop (name + 64) ws) (name + 64) []) (too_short room vs ws (name + 64) [] (omega arith))

      go : (64 ≤ v) ⊎ (((v < 64) × (64 ≤ w)) ⊎ ((v < 64) × (w < 64) × (length ws ≤ name))) → does_w room ws t (Some (Hear v w next name)) p vs ≡ Lost
      go (inl a) = hear_past t v w next name (rw (le-ltb v 64 a) refl)
      go (inr (inl (a, b))) = hear_past t v w next name (rw (lt-ltb v 64 a, le-ltb w 64 b) refl)
      go (inr (inr (a, b, l))) = hear_bad t v w next name a b (worthless l)

  all_lost : (r : Run) (f : List ℕ → Out) → r ≡ Bad → with_all r f ≡ Lost
  unfolding with_all
  all_lost r f h = ap (λ (q : Run). with_all q f) h

  pub do_bad : (t v next : ℕ) (way : Option ℕ) (task : ℕ) → v < 64 → run_e room vs (drop (task + 12) ws) (task + 12) [] ≡ Bad → does_w room ws t (Some (Do v next way task)) p vs ≡ Lost
  unfolding does_w
  do_bad t v next way task h k = cond-true (ltb v 64) _ Lost (lt-ltb v 64 h) ∙ all_lost (run_e room vs (drop (task + 12) ws) (task + 12) []) _ k

  pub do_past : (t v next : ℕ) (way : Option ℕ) (task : ℕ) → (64 ≤ v) ⊎ ((v < 64) × (length ws ≤ task)) → does_w room ws t (Some (Do v next way task)) p vs ≡ Lost
  unfolding does_w
  do_past t v next way task (inl a) = cond-false (ltb v 64) _ Lost (le-ltb v 64 a)
  do_past t v next way task (inr (a, l)) = do_bad t v next way task a (too_short room vs ws (task + 12) [] (omega arith))

  pub do_many : (t v next : ℕ) (way : Option ℕ) (task n end : ℕ) (xs : List ℕ) → v < 64 → run_e room vs (drop (task + 12) ws) (task + 12) [] ≡ Stop (tops xs n) end → 16 < n → does_w room ws t (Some (Do v next way task)) p vs ≡ Lost
  unfolding does_w with_all
  do_many t v next way task n end xs h k m =
      cond-true (ltb v 64) _ Lost (lt-ltb v 64 h) ∙ (ap (λ (q : Run). with_all q (λ zs. Went (asked_into v p) vs (record { kind = get_or ws task 0; args = zs; tries = get_or ws (task + 1) 0; pause = get_or ws (task + 2) 0 } ∷ []))) k ∙ (rw (length_tops xs n, lt-leb n 16 m) refl))

  pub do_went : (t v next : ℕ) (way : Option ℕ) (task n end kind tries pause : ℕ) (xs ys : List ℕ) → v < 64 → run_e room vs (drop (task + 12) ws) (task + 12) [] ≡ Stop (tops xs n) end → n ≤ 16 → n ≤ length xs → take n ys ≡ take n xs → kind ≡ get_or ws task 0 → tries ≡ get_or ws (task + 1) 0 → pause ≡ get_or ws (task + 2) 0 →
      does_w room ws t (Some (Do v next way task)) p vs ≡ Went (asked_into v p) vs (record { kind = kind; args = take n ys; tries = tries; pause = pause } ∷ [])
  unfolding does_w with_all
  do_went t v next way task n end kind tries pause xs ys h k few inside same ek et ep =
      let e : backs (tops xs n) [] ≡ take n ys = backs_tops xs n [] inside ∙ (append_none (take n xs) ∙ sym same) in
      cond-true (ltb v 64) _ Lost (lt-ltb v 64 h) ∙ (ap (λ (q : Run). with_all q (λ zs. Went (asked_into v p) vs (record { kind = get_or ws task 0; args = zs; tries = get_or ws (task + 1) 0; pause = get_or ws (task + 2) 0 } ∷ []))) k ∙
      (cond-true (leb (length (tops xs n)) 16) _ Lost (rw (length_tops xs n) (le-leb n 16 few)) ∙ λ i. Went (asked_into v p) vs (record { kind = sym ek i; args = e i; tries = sym et i; pause = sym ep i } ∷ [])))

  -- one move
  pub step_calm : (t : ℕ) → busy p.phase ≡ false → step_w room ws t p vs ≡ Went p vs []
  unfolding step_w
  step_calm t h = cond-false (busy p.phase) _ (Went p vs []) h

  spent_is : (d s : ℕ) → (64 < d) ⊎ ((d ≤ 64) × (4611686018427387904 ≤ s)) → spent d s ≡ true
  spent_is d s (inl h) = rw (lt-ltb 64 d h) refl
  spent_is d s (inr (k, h)) = rw (le-ltb 64 d k, le-leb 4611686018427387904 s h) refl

  pub step_spent : (t d : ℕ) (r : Place) → busy p.phase ≡ true → d ≡ deep_at ws p.here → (64 < d) ⊎ ((d ≤ 64) × (4611686018427387904 ≤ p.steps)) → r ≡ ended_as Failed p → step_w room ws t p vs ≡ Went r vs []
  unfolding step_w
  step_spent t d r h e k g = cond-true (busy p.phase) _ (Went p vs []) h ∙ (cond-true (spent (deep_at ws p.here) p.steps) _ _ (subst (λ (n : ℕ). spent n p.steps ≡ true) e (spent_is d p.steps k)) ∙ ap (λ (q : Place). Went q vs []) (sym g))

  pub step_does : (t d : ℕ) → busy p.phase ≡ true → d ≡ deep_at ws p.here → d ≤ 64 → p.steps < 4611686018427387904 → step_w room ws t p vs ≡ does_w room ws t (statement_at ws p.here) p vs
  unfolding step_w
  step_does t d h e k g = cond-true (busy p.phase) _ (Went p vs []) h ∙ cond-false (spent (deep_at ws p.here) p.steps) _ _ (subst (λ (n : ℕ). spent n p.steps ≡ false) e (rw (le-ltb 64 d k, lt-leb 4611686018427387904 p.steps g) refl))

  pub step_some : (t : ℕ) (s : Statement) (r : Result Moved Damaged) (us : List ℕ) → step_w room ws t p vs ≡ does_w room ws t (statement_at ws p.here) p vs → Some s ≡ statement_at ws p.here → Stepped r us (does_w room ws t (Some s) p vs) → Stepped r us (step_w room ws t p vs)
  step_some t s r us e h k = subst (λ (o : Out). Stepped r us o) (ap (λ (q : Option Statement). does_w room ws t q p vs) h ∙ sym e) k

  pub step_none : (t : ℕ) → step_w room ws t p vs ≡ does_w room ws t (statement_at ws p.here) p vs → None ≡ statement_at ws p.here → step_w room ws t p vs ≡ Lost
  unfolding does_w
  step_none t e h = e ∙ ap (λ (q : Option Statement). does_w room ws t q p vs) (sym h)

  pub arm : (t : ℕ) (s u : Statement) (r : Result Moved Damaged) (us : List ℕ) → s ≡ u → Stepped r us (does_w room ws t (Some u) p vs) → Stepped r us (does_w room ws t (Some s) p vs)
  arm t s u r us e k = subst (λ (q : Statement). Stepped r us (does_w room ws t (Some q) p vs)) (sym e) k
