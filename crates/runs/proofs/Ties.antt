-- A move on the words is the machine's move.
use Rattle.std.proofs.Common.{◌≡◌, ℕ, zero, suc, ◌+◌, ◌-◌, ◌%◌, ◌<◌, Bool, true, false, cond, ◌&&◌, eqb, ltb, leb, ◌⊎◌, List, [], ◌∷◌, length, get_or, drop, set, Some, None, Option, sym, refl, ap, ◌∙◌, subst, inl, inr, mod-eq_of_lt, arith, length-set, get_or-set_other, get_or-set_same}
use Rattle.std.proofs.lemmas.Bool.{ltb-true, eqb-true, eqb-false}
use Rattle.plans.specs.declared.eval.Join.{Join}
use Rattle.plans.specs.declared.eval.Join.TheVariants.{Sum, Difference, Product, Under, Equal}
use Rattle.plans.specs.declared.eval.Op.{Op as ExprOp}
use Rattle.plans.specs.declared.eval.Op.TheVariants.{Push, Load, Pair, Negate, Halt}
use Rattle.plans.specs.Plan.{Expr, Lit, Var, Word, Failed as failed_p, value, values, less_by, top, at, capped, is_busy, none}
use Rattle.plans.specs.Eval.{op_of, join_of, Out as Run, Stop, Stack as Values, some as some_values, pushed, loaded, paired, negated, onto, acts, or_stop, run_e, one_of, look}
use Rattle.runs.specs.declared.unit.Statement.{Statement}
use Rattle.runs.specs.declared.unit.Statement.TheVariants.{Set, Do, Sleep, Hear, If, While, Guard, Go, Return, Fail, End}
use Rattle.runs.specs.declared.step.Phase.{Phase}
use Rattle.runs.specs.declared.step.Phase.TheVariants.{Busy, Tasked, Asleep, Listens, Ended, Failed}
use Rattle.runs.specs.declared.step.Place.{Place}
use Rattle.runs.specs.Machine.{Act, SetOp, DoOp, SleepOp, HearOp, IfOp, WhileOp, EnterOp, GoOp, ReturnOp, FailOp, EndOp, Wrong, FlatFlow, fgoes, fends, fstill, fbroken, flistens, fdoes, spent}
use Rattle.runs.specs.Units.{statement_at, deep_at}
use Rattle.runs.specs.Decode.{Grown, withered, grown, no_trees, trees, join_tree, leaf, paired_t, negated_t, acts_t, onto_t, or_grown, grow, trees_at, one_tree, back, all_trees, way_from, letters, act_of}
use Rattle.runs.specs.Steps.{Out, Lost, Went, gone_to, ended_as, waits_at, asked_into, fails_to, with_value, backs, with_all, does_w, busy, step_w}
use Rattle.runs.specs.Carried.{phase_in, flow_in, deaf, Quiet, QuietAlike, HearsAtOnce, Tells, StepsAlike}

-- values and trees -------------------------------------------------------------

vals : List ℕ → List Expr → List ℕ
vals vs [] = []
vals vs (e ∷ es) = value e (look vs) ∷ vals vs es

vals_length : (vs : List ℕ) (es : List Expr) → length (vals vs es) ≡ length es
unfolding vals
vals_length vs [] = refl
vals_length vs (e ∷ es) = ap suc (vals_length vs es)

Agrees : List ℕ → Grown → Run → Type 0
Agrees vs withered r = Unit {0}
Agrees vs (grown es end) r = r ≡ Stop (vals vs es) end

less_by_is : (k m : ℕ) → less_by k m ≡ m - k
unfolding less_by
less_by_is zero m = omega arith
less_by_is (suc k) zero = omega arith
less_by_is (suc k) (suc m) = let h = less_by_is k m in omega arith

join_is : (j : Join) (a b : Expr) (vs : List ℕ) → join_of j (value a (look vs)) (value b (look vs)) ≡ value (join_tree j a b) (look vs)
unfolding value
join_is Sum a b vs = refl
join_is Difference a b vs = ap (λ (n : ℕ). (value a (look vs) + n) % top) (sym (less_by_is (value b (look vs)) top))
join_is Product a b vs = refl
join_is Under a b vs = refl
join_is Equal a b vs = refl

module _ (room : ℕ) (vs : List ℕ) (all : length vs ≡ 64) where
  leaf_agrees : (b c : Bool) (e : Expr) (es : List Expr) (f : List Expr → Grown) (g : List ℕ → Run) (st : Values) → (b ≡ true → c ≡ true → st ≡ some_values (value e (look vs) ∷ vals vs es)) → ((ts : List Expr) → Agrees vs (f ts) (g (vals vs ts))) → Agrees vs (onto_t (cond (b && c) (trees (e ∷ es)) no_trees) f) (onto st g)
  unfolding Agrees onto_t onto vals
  leaf_agrees true true e es f g st h k = subst (λ (q : Values). Agrees vs (f (e ∷ es)) (onto q g)) (sym (h refl refl)) (k (e ∷ es))
  leaf_agrees true false e es f g st h k = tt
  leaf_agrees false c e es f g st h k = tt

  pair_agrees : (j : Join) (es : List Expr) (f : List Expr → Grown) (g : List ℕ → Run) → ((ts : List Expr) → Agrees vs (f ts) (g (vals vs ts))) → Agrees vs (onto_t (paired_t j es) f) (onto (paired j (vals vs es)) g)
  unfolding Agrees onto_t onto vals paired_t paired
  pair_agrees j [] f g k = tt
  pair_agrees j (b ∷ []) f g k = tt
  pair_agrees j (b ∷ a ∷ es) f g k = subst (λ (n : ℕ). Agrees vs (f (join_tree j a b ∷ es)) (g (n ∷ vals vs es))) (sym (join_is j a b vs)) (k (join_tree j a b ∷ es))

  not_agrees : (es : List Expr) (f : List Expr → Grown) (g : List ℕ → Run) → ((ts : List Expr) → Agrees vs (f ts) (g (vals vs ts))) → Agrees vs (onto_t (negated_t es) f) (onto (negated (vals vs es)) g)
  unfolding Agrees onto_t onto vals negated_t negated value
  not_agrees [] f g k = tt
  not_agrees (a ∷ es) f g k = k (Expr.Not a ∷ es)

  op_agrees : (o : ExprOp) (x pc : ℕ) (es : List Expr) (f : List Expr → Grown) (g : List ℕ → Run) → ((ts : List Expr) → Agrees vs (f ts) (g (vals vs ts))) → Agrees vs (or_grown o (grown es pc) (onto_t (acts_t room o x es) f)) (or_stop o (Stop (vals vs es) pc) (onto (acts room vs o x (vals vs es)) g))
  unfolding or_grown or_stop acts_t acts leaf pushed loaded value Agrees
  op_agrees Push x pc es f g k = leaf_agrees (ltb x 18446744073709551616) (ltb (length es) room) (Lit x) es f g _ (λ p q. (rw (vals_length vs es, q) (ap (λ (n : ℕ). some_values (n ∷ vals vs es)) (sym (mod-eq_of_lt (ltb-true x top p)))))) k
  op_agrees Load x pc es f g k = leaf_agrees (ltb x 64) (ltb (length es) room) (Var x) es f g _ (λ p q. (rw (all, p, vals_length vs es, q) refl)) k
  op_agrees (Pair j) x pc es f g k = pair_agrees j es f g k
  op_agrees Negate x pc es f g k = not_agrees es f g k
  op_agrees Halt x pc es f g k = refl

  agrees : (ws : List ℕ) (pc : ℕ) (es : List Expr) → Agrees vs (grow room ws pc es) (run_e room vs ws pc (vals vs es))
  unfolding grow run_e Agrees
  agrees [] pc es = tt
  agrees (w ∷ []) pc es = tt
  agrees (w ∷ x ∷ []) pc es = tt
  agrees (w ∷ x ∷ y ∷ []) pc es = tt
  agrees (w ∷ x ∷ y ∷ z ∷ ws) pc es = op_agrees (op_of w) x pc es (grow room ws (pc + 4)) (run_e room vs ws (pc + 4)) (λ ts. agrees ws (pc + 4) ts)

backs_vals : (vs : List ℕ) (es ds : List Expr) → backs (vals vs es) (vals vs ds) ≡ vals vs (back es ds)
unfolding backs vals back
backs_vals vs [] ds = refl
backs_vals vs (e ∷ es) ds = backs_vals vs es (e ∷ ds)

vals_values : (vs : List ℕ) (es : List Expr) → vals vs es ≡ values es (look vs)
unfolding vals values
vals_values vs [] = refl
vals_values vs (e ∷ es) = ap (λ (l : List ℕ). value e (look vs) ∷ l) (vals_values vs es)

-- a variable set
pub look_set : (vs : List ℕ) (v x : ℕ) → v < length vs → at v x (look vs) ≡ look (set vs v x)
look_set vs v x h = λ i w. go w (eqb w v) refl i
  where
    go : (w : ℕ) (b : Bool) → eqb w v ≡ b → cond b x (look vs w) ≡ look (set vs v x) w
    go w true e = sym (get_or-set_same vs v x 0 h) ∙ ap (λ (n : ℕ). get_or (set vs v x) n 0) (sym (eqb-true w v e))
    go w false e = sym (get_or-set_other vs v w x 0 (eqb-false w v e))

-- statements ---------------------------------------------------------------

-- the machine's flow at a busy place
module _ (ws : List ℕ) (y : FlatFlow) (now : ℕ) (vs : List ℕ) where
  one_tie : (x : FlatFlow) (g : Grown) (r : Run) (f : Expr → ℕ → Act) (h : ℕ → ℕ → Out) → Agrees vs g r → ((e : Expr) (end : ℕ) → Tells ws y (h (value e (look vs)) end) (deaf now (f e end) x)) → (one_tree g f ≡ Wrong) ⊎ Tells ws y (with_value (one_of r) h) (deaf now (one_tree g f) x)
  unfolding one_tree Agrees vals with_value one_of
  one_tie x withered r f h k t = inl refl
  one_tie x (grown [] end) r f h k t = inl refl
  one_tie x (grown (e ∷ []) end) r f h k t = inr (subst (λ (q : Run). Tells ws y (with_value (one_of q) h) (deaf now (f e end) x)) (sym k) (t e end))
  one_tie x (grown (e ∷ d ∷ es) end) r f h k t = inl refl

  all_tie : (x : FlatFlow) (g : Grown) (r : Run) (f : List Expr → Act) (h : List ℕ → Out) → Agrees vs g r → ((es : List Expr) → Tells ws y (h (values es (look vs))) (deaf now (f es) x)) → (all_trees g f ≡ Wrong) ⊎ Tells ws y (with_all r h) (deaf now (all_trees g f) x)
  unfolding all_trees Agrees with_all vals
  all_tie x withered r f h k t = inl refl
  all_tie x (grown es end) r f h k t = subst (λ (q : Run). (cond (leb (length es) 16) (f (back es [])) Wrong ≡ Wrong) ⊎ Tells ws y (with_all q h) (deaf now (cond (leb (length es) 16) (f (back es [])) Wrong) x)) (sym k) (go (leb (length es) 16) (leb (length (vals vs es)) 16) (ap (λ (n : ℕ). leb n 16) (sym (vals_length vs es))))
    where
      same : backs (vals vs es) [] ≡ values (back es []) (look vs)
      same = backs_vals vs es [] ∙ vals_values vs (back es [])

      go : (b c : Bool) → b ≡ c → (cond b (f (back es [])) Wrong ≡ Wrong) ⊎ Tells ws y (cond c (h (backs (vals vs es) [])) Lost) (deaf now (cond b (f (back es [])) Wrong) x)
      go true true e = inr (subst (λ (l : List ℕ). Tells ws y (h l) (deaf now (f (back es [])) x)) (sym same) (t (back es [])))
      go true false e = let z : ◌≡◌ {A = ℕ} 0 1 = cc in absurd (omega arith)
      go false c e = inl refl

  when : (b : Bool) (a : Act) (o : Out) (x : FlatFlow) → (b ≡ true → (a ≡ Wrong) ⊎ Tells ws y o (deaf now a x)) → (cond b a Wrong ≡ Wrong) ⊎ Tells ws y (cond b o Lost) (deaf now (cond b a Wrong) x)
  when true a o x k = k refl
  when false a o x k = inl refl

does_tie : (room : ℕ) (ws : List ℕ) (now : ℕ) (s : Option Statement) (p : Place) (vs : List ℕ) (y : FlatFlow) → length vs ≡ 64 → (act_of room ws s ≡ Wrong) ⊎ Tells ws y (does_w room ws now s p vs) (deaf now (act_of room ws s) (flow_in ws p vs y))
unfolding act_of does_w deaf fdoes flistens fbroken fails_to way_from phase_in vals
does_tie room ws now None p vs y all = inl refl
does_tie room ws now (Some (Set v next e)) p vs y all = when ws y now vs (ltb v 64) _ _ (flow_in ws p vs y) (λ b. one_tie ws y now vs (flow_in ws p vs y) (trees_at room ws e) (run_e room vs (drop e ws) e []) (λ t end. SetOp v t next) (λ x end. Went (gone_to next p) (set vs v x) []) (agrees room vs all (drop e ws) e []) (λ t end. let low : v < 64 = ltb-true v 64 b in (ap (λ (f : ℕ → ℕ). fstill (fgoes next f (flow_in ws p vs y))) (look_set vs v (value t (look vs)) (omega arith)), simp length-set all)))
does_tie room ws now (Some (Do v next way task)) p vs y all = when ws y now vs (ltb v 64) _ _ (flow_in ws p vs y) (λ b. all_tie ws y now vs (flow_in ws p vs y) (trees_at room ws (task + 12)) (run_e room vs (drop (task + 12) ws) (task + 12) []) (λ ts. DoOp v (get_or ws task 0) ts (get_or ws (task + 1) 0) (get_or ws (task + 2) 0) next (way_from way)) (λ xs. Went (asked_into v p) vs (record { kind = get_or ws task 0; args = xs; tries = get_or ws (task + 1) 0; pause = get_or ws (task + 2) 0 } ∷ [])) (agrees room vs all (drop (task + 12) ws) (task + 12) []) (λ ts. (refl, all)))
does_tie room ws now (Some (Sleep next e)) p vs y all = one_tie ws y now vs (flow_in ws p vs y) (trees_at room ws e) (run_e room vs (drop e ws) e []) (λ t end. SleepOp t next) (λ x end. Went (waits_at (Asleep (now + capped x)) next p) vs []) (agrees room vs all (drop e ws) e []) (λ t end. (refl, all))
does_tie room ws now (Some (Hear v w next name)) p vs y all = when ws y now vs (ltb v 64 && ltb w 64) _ _ (flow_in ws p vs y) (λ b. one_tie ws y now vs (flow_in ws p vs y) (trees_at room ws (name + 64)) (run_e room vs (drop (name + 64) ws) (name + 64) []) (λ t end. HearOp v w (letters 64 (drop name ws)) t next) (λ x end. Went (waits_at (Listens v w name (now + capped x)) next p) vs []) (agrees room vs all (drop (name + 64) ws) (name + 64) []) (λ t end. (refl, all)))
does_tie room ws now (Some (If other e)) p vs y all = one_tie ws y now vs (flow_in ws p vs y) (trees_at room ws e) (run_e room vs (drop e ws) e []) (λ t end. IfOp t end other) (λ x end. Went (gone_to (cond (eqb x 0) other end) p) vs []) (agrees room vs all (drop e ws) e []) (λ t end. (refl, all))
does_tie room ws now (Some (While next e)) p vs y all = one_tie ws y now vs (flow_in ws p vs y) (trees_at room ws e) (run_e room vs (drop e ws) e []) (λ t end. WhileOp t end next) (λ x end. Went (gone_to (cond (eqb x 0) next end) p) vs []) (agrees room vs all (drop e ws) e []) (λ t end. (refl, all))
does_tie room ws now (Some (Guard first)) p vs y all = inr (refl, all)
does_tie room ws now (Some (Go next)) p vs y all = inr (refl, all)
does_tie room ws now (Some (Return e)) p vs y all = one_tie ws y now vs (flow_in ws p vs y) (trees_at room ws e) (run_e room vs (drop e ws) e []) (λ t end. ReturnOp t) (λ x end. Went (ended_as (Ended x) p) vs []) (agrees room vs all (drop e ws) e []) (λ t end. (refl, all))
does_tie room ws now (Some (Fail None)) p vs y all = inr (refl, all)
does_tie room ws now (Some (Fail (Some a))) p vs y all = inr (refl, all)
does_tie room ws now (Some End) p vs y all = inr (refl, all)

busy_same : (ws : List ℕ) (q : Phase) → is_busy (phase_in ws q) && true ≡ busy q
unfolding phase_in is_busy
busy_same ws Busy = refl
busy_same ws (Tasked s) = refl
busy_same ws (Asleep u) = refl
busy_same ws (Listens v w n u) = refl
busy_same ws (Ended v) = refl
busy_same ws Failed = refl

pub steps_alike : StepsAlike
unfolding step_w none phase_in
steps_alike room ws now p vs y all = go (is_busy (phase_in ws p.phase) && true) (busy p.phase) (busy_same ws p.phase)
  where
    x : FlatFlow
    x = flow_in ws p vs y

    act : Act
    act = act_of room ws (statement_at ws p.here)

    last : (s : Bool) → (act ≡ Wrong) ⊎ Tells ws y (cond s (Went (ended_as Failed p) vs []) (does_w room ws now (statement_at ws p.here) p vs)) (cond s (fstill (fends failed_p x)) (deaf now act x))
    last true = inr (refl, all)
    last false = does_tie room ws now (statement_at ws p.here) p vs y all

    go : (a b : Bool) → a ≡ b → (act ≡ Wrong) ⊎ Tells ws y (cond b (cond (spent (deep_at ws p.here) p.steps) (Went (ended_as Failed p) vs []) (does_w room ws now (statement_at ws p.here) p vs)) (Went p vs [])) (cond a (cond (spent (deep_at ws p.here) p.steps) (fstill (fends failed_p x)) (deaf now act x)) (fstill x))
    go true true e = last (spent (deep_at ws p.here) p.steps)
    go false false e = inr (refl, all)
    go true false e = let z : ◌≡◌ {A = ℕ} 0 1 = cc in absurd (omega arith)
    go false true e = let z : ◌≡◌ {A = ℕ} 0 1 = cc in absurd (omega arith)

pub quiet_alike : QuietAlike
unfolding deaf fdoes Quiet
quiet_alike now (SetOp v e next) x q = refl
quiet_alike now (DoOp v k es tries pause next way) x q = refl
quiet_alike now (SleepOp e next) x q = refl
quiet_alike now (HearOp v w n e next) x q = ap (λ (l : List Word). fstill (flistens v w n (now + capped (value e x.vars)) l next x)) (sym q)
quiet_alike now (IfOp e y0 n0) x q = refl
quiet_alike now (WhileOp e body next) x q = refl
quiet_alike now (EnterOp first) x q = refl
quiet_alike now (GoOp next) x q = refl
quiet_alike now (ReturnOp e) x q = refl
quiet_alike now (FailOp way) x q = refl
quiet_alike now EndOp x q = refl
quiet_alike now Wrong x q = refl

pub hears_at_once : HearsAtOnce
unfolding deaf fdoes flistens
hears_at_once now v w n e next x found more h = ap (λ (l : List Word). fstill (flistens v w n (now + capped (value e x.vars)) l next x)) h
