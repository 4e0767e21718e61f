-- Each event keeps the numbers of a flow below 2 to the 64. Assumes nothing.
use Rattle.std.proofs.Common.{◌≡◌, ℕ, zero, suc, ◌+◌, ◌-◌, ◌*◌, ◌%◌, ◌^◌, ◌<◌, ◌≤◌, Bool, true, false, cond, ◌&&◌, eqb, ltb, leb, List, [], ◌∷◌, ◌++◌, length, get_or, take, drop, set, Some, None, Ok, Err, Option, Result, sym, refl, subst, mod-lt, zero-lt-suc, arith, length-drop}
use Rattle.std.proofs.lemmas.Bool.{ltb-true, ltb-false, leb-true, leb-false, and_parts, or_parts}
use Rattle.std.proofs.lemmas.List.{get_or_past}
use Rattle.plans.specs.declared.eval.Damaged.{Damaged}
use Rattle.plans.specs.declared.eval.Join.{Join}
use Rattle.plans.specs.declared.eval.Join.TheVariants.{Sum, Difference, Product, Under, Equal}
use Rattle.plans.specs.declared.eval.Op.{Op}
use Rattle.plans.specs.declared.eval.Op.TheVariants.{Push, Load, Pair, Negate, Halt}
use Rattle.plans.specs.Plan.{Wish as Wished, capped, top}
use Rattle.plans.specs.Eval.{op_of, join_of, Out as Run, Bad, Stop, Stack, none, some, pushed, loaded, paired, negated, onto, acts, or_stop, run_e, One, no_value, one_value, one_of}
use Rattle.runs.specs.declared.unit.Statement.{Statement}
use Rattle.runs.specs.declared.unit.Statement.TheVariants.{Set, Do, Sleep, Hear, If, While, Guard, Go, Return, Fail, End}
use Rattle.runs.specs.declared.step.Phase.{Phase}
use Rattle.runs.specs.declared.step.Phase.TheVariants.{Busy, Tasked, Asleep, Listens, Ended, Failed}
use Rattle.runs.specs.declared.step.Place.{Place}
use Rattle.runs.specs.declared.event.Task.{Task as Goal}
use Rattle.runs.specs.Machine.{spent}
use Rattle.runs.specs.Units.{way_in, statement_of, statement_at, deep_at}
use Rattle.runs.specs.Steps.{at_first, fill, Out as Ways, Lost, Went, gone_to, ended_as, waits_at, fails_to, with_value, worth_at, backs, with_all, does_w, busy, step_w, onward, moves_w}
use Rattle.runs.specs.Events.{task_in, with_task as with_goal}
use Rattle.pages.specs.declared.flow.Task.{Task}
use Rattle.pages.specs.declared.flow.Flow.{Flow}
use Rattle.pages.specs.Page.{damaged, fair, zeros}
use Rattle.pages.specs.Sound.{Small, PhaseFits, TaskFits, FitsTask, Fits}
use Rattle.pages.specs.Events.{task_from, settled, ran_on, first_vars, begun, then_runs, worked_on, failed_on, again, with_task, wrong_task, wrong_on, late_task, wakes_at, then_wakes, ticked_on, out_task, over_in}
use Rattle.pages.specs.Fitting.{Fitting}
use Rattle.pages.proofs.Codes.{small_append, small_zeros}
use Rattle.pages.proofs.Good.{backs_long}
use Rattle.pages.proofs.Pauses.{pauses}

-- words of 64 bits ---------------------------------------------------------------

get_d_small : (xs : List ℕ) (i : ℕ) → Small xs → get_or xs i 0 < top
get_d_small [] i s = omega arith
get_d_small (x ∷ xs) zero s = s.0
get_d_small (x ∷ xs) (suc i) s = get_d_small xs i s.1

set_small : (xs : List ℕ) (i y : ℕ) → Small xs → y < top → Small (set xs i y)
set_small [] i y s h = tt
set_small (x ∷ xs) zero y s h = (h, s.1)
set_small (x ∷ xs) (suc i) y s h = (s.0, set_small xs i y s.1 h)

drop_small : (n : ℕ) (xs : List ℕ) → Small xs → Small (drop n xs)
drop_small zero xs s = s
drop_small (suc n) [] s = tt
drop_small (suc n) (x ∷ xs) s = drop_small n xs s.1

pub take_small : (n : ℕ) (xs : List ℕ) → Small xs → Small (take n xs)
take_small zero xs s = tt
take_small (suc n) [] s = tt
take_small (suc n) (x ∷ xs) s = (s.0, take_small n xs s.1)

backs_small : (st xs : List ℕ) → Small st → Small xs → Small (backs st xs)
unfolding backs
backs_small [] xs s h = h
backs_small (x ∷ st) xs s h = backs_small st (x ∷ xs) s.1 (s.0, h)

-- expressions --------------------------------------------------------------------

cut_small : (n : ℕ) → n % 18446744073709551616 < 18446744073709551616
cut_small n = mod-lt n (zero-lt-suc 18446744073709551615)

bit_small : (b : Bool) → cond b 1 0 < top
bit_small true = omega arith
bit_small false = omega arith

join_small : (j : Join) (a b : ℕ) → join_of j a b < top
join_small Sum a b = cut_small (a + b)
join_small Difference a b = cut_small (a + (2 ^ 64 - b))
join_small Product a b = cut_small (a * b)
join_small Under a b = bit_small (ltb a b)
join_small Equal a b = bit_small (eqb a b)

abbrev StackFits : Stack → Type 0
StackFits none = Unit {0}
StackFits (some st) = Small st

-- values of 64 bits, and an end that is at most n
abbrev RunFits : ℕ → Run → Type 0
RunFits n Bad = Unit {0}
RunFits n (Stop st e) = Small st × (e ≤ n)

abbrev OneFits : ℕ → One → Type 0
OneFits n no_value = Unit {0}
OneFits n (one_value x e) = (x < top) × (e ≤ n)

cond_stack : (b : Bool) (k : Stack) → StackFits k → StackFits (cond b k none)
cond_stack true k h = h
cond_stack false k h = tt

pushed_fits : (room x : ℕ) (st : List ℕ) → x < top → Small st → StackFits (pushed room x st)
unfolding pushed
pushed_fits room x st h s = cond_stack (ltb (length st) room) (some (x ∷ st)) (h, s)

paired_fits : (j : Join) (st : List ℕ) → Small st → StackFits (paired j st)
unfolding paired
paired_fits j [] s = tt
paired_fits j (b ∷ []) s = tt
paired_fits j (b ∷ a ∷ st) s = (join_small j a b, s.1.1)

negated_fits : (st : List ℕ) → Small st → StackFits (negated st)
unfolding negated
negated_fits [] s = tt
negated_fits (a ∷ st) s = (bit_small (eqb a 0), s.1)

acts_fits : (room : ℕ) (vs : List ℕ) (o : Op) (x : ℕ) (st : List ℕ) → Small vs → x < top → Small st → StackFits (acts room vs o x st)
unfolding acts loaded
acts_fits room vs Push x st v h s = pushed_fits room x st h s
acts_fits room vs Load x st v h s = cond_stack (ltb x (length vs)) (pushed room (get_or vs x 0) st) (pushed_fits room (get_or vs x 0) st (get_d_small vs x v) s)
acts_fits room vs (Pair j) x st v h s = paired_fits j st s
acts_fits room vs Negate x st v h s = negated_fits st s
acts_fits room vs Halt x st v h s = tt

or_fits : (n : ℕ) (o : Op) (s g : Run) → RunFits n s → RunFits n g → RunFits n (or_stop o s g)
unfolding or_stop
or_fits n Push s g a b = b
or_fits n Load s g a b = b
or_fits n (Pair j) s g a b = b
or_fits n Negate s g a b = b
or_fits n Halt s g a b = a

onto_fits : (n : ℕ) (k : Stack) (f : List ℕ → Run) → StackFits k → ((st : List ℕ) → Small st → RunFits n (f st)) → RunFits n (onto k f)
unfolding onto
onto_fits n none f k h = tt
onto_fits n (some st) f k h = h st k

run_as : (m n : ℕ) (r : Run) → m ≤ n → RunFits m r → RunFits n r
run_as m n Bad h k = tt
run_as m n (Stop st e) h k = (k.0, omega (arith, k.1))

run_fits : (room : ℕ) (vs : List ℕ) (words : List ℕ) (pc : ℕ) (st : List ℕ) → Small vs → Small words → Small st → RunFits (pc + length words) (run_e room vs words pc st)
unfolding run_e
run_fits room vs [] pc st v h s = tt
run_fits room vs (w ∷ []) pc st v h s = tt
run_fits room vs (w ∷ x ∷ []) pc st v h s = tt
run_fits room vs (w ∷ x ∷ y ∷ []) pc st v h s = tt
run_fits room vs (w ∷ x ∷ y ∷ z ∷ ws) pc st v h s =
    or_fits (pc + length (w ∷ x ∷ y ∷ z ∷ ws)) (op_of w) (Stop st pc) (onto (acts room vs (op_of w) x st) (run_e room vs ws (pc + 4))) (s, omega arith)
    (onto_fits (pc + length (w ∷ x ∷ y ∷ z ∷ ws)) (acts room vs (op_of w) x st) (run_e room vs ws (pc + 4)) (acts_fits room vs (op_of w) x st v h.1.0 s)
    (λ us u. run_as (pc + 4 + length ws) (pc + length (w ∷ x ∷ y ∷ z ∷ ws)) (run_e room vs ws (pc + 4) us) (omega arith) (run_fits room vs ws (pc + 4) us v h.1.1.1.1 u)))

one_fits : (n : ℕ) (r : Run) → RunFits n r → OneFits n (one_of r)
unfolding one_of
one_fits n Bad h = tt
one_fits n (Stop [] e) h = tt
one_fits n (Stop (x ∷ []) e) h = (h.0.0, h.1)
one_fits n (Stop (x ∷ y ∷ st) e) h = tt

-- statements ---------------------------------------------------------------------

-- its words are of 64 bits, and its places are in the plan or next to its end
-- where a failure goes
abbrev WayFits : Option ℕ → Type 0
WayFits None = Unit {0}
WayFits (Some a) = a < top

abbrev StFits : Statement → Type 0
StFits (Set v next e) = (next < top) × (e ≤ 16388)
StFits (Do v next way task) = (next < top) × WayFits way × (task ≤ 16388)
StFits (Sleep next e) = (next < top) × (e ≤ 16388)
StFits (Hear v w next name) = (next < top) × (name ≤ 16388)
StFits (If other e) = (other < top) × (e ≤ 16388)
StFits (While next e) = (next < top) × (e ≤ 16388)
StFits (Guard first) = first ≤ 16388
StFits (Go next) = next < top
StFits (Return e) = e ≤ 16388
StFits (Fail way) = WayFits way
StFits End = Unit {0}

abbrev MayFit : Option Statement → Type 0
MayFit None = Unit {0}
MayFit (Some s) = StFits s

or_else : (b : Bool) (x y : Option Statement) → MayFit x → MayFit y → MayFit (cond b x y)
or_else true x y h k = h
or_else false x y h k = k

way_fits : (d : ℕ) → d < top → WayFits (way_in d)
unfolding way_in
way_fits zero h = tt
way_fits (suc a) h = omega arith

of_fits : (kind at b c d : ℕ) → at ≤ 16384 → b < top → c < top → d < top → MayFit (statement_of kind at b c d)
of_fits kind at b c d l hb hc hd =
    let m : at + 4 ≤ 16388 = omega arith in
    let n : at + 3 ≤ 16388 = omega arith in
    or_else (eqb kind 1) _ _ (hc, m) (or_else (eqb kind 2) _ _ (hc, way_fits d hd, m) (or_else (eqb kind 3) _ _ (hc, m) (or_else (eqb kind 4) _ _ (hc, m) (or_else (eqb kind 5) _ _ (hb, m) (or_else (eqb kind 6) _ _ (hc, m) (or_else (eqb kind 7) _ _ (hb, n) (or_else (eqb kind 8) _ _ m (or_else (eqb kind 9) _ _ hb (or_else (eqb kind 10) _ _ m (or_else (eqb kind 11) _ _ (way_fits d hd) (or_else (eqb kind 12) _ _ hc (or_else (eqb kind 13) _ _ tt tt))))))))))))

at_fits : (ws : List ℕ) (a : ℕ) → Small ws → length ws ≤ 16384 → MayFit (statement_at ws a)
unfolding statement_at
at_fits ws a s l = go (ltb a (length ws)) refl
  where
    go : (b : Bool) → ltb a (length ws) ≡ b → MayFit (statement_of (get_or ws a 0 % 32) a (get_or ws (a + 1) 0) (get_or ws (a + 2) 0) (get_or ws (a + 3) 0))
    go true q = of_fits (get_or ws a 0 % 32) a (get_or ws (a + 1) 0) (get_or ws (a + 2) 0) (get_or ws (a + 3) 0) (omega (arith, ltb-true a (length ws) q)) (get_d_small ws (a + 1) s) (get_d_small ws (a + 2) s) (get_d_small ws (a + 3) s)
    go false q = subst (λ (n : ℕ). MayFit (statement_of (n % 32) a (get_or ws (a + 1) 0) (get_or ws (a + 2) 0) (get_or ws (a + 3) 0))) (sym (get_or_past ws a 0 (ltb-false a (length ws) q))) tt

-- a run --------------------------------------------------------------------------

abbrev WishFits : List Wished → Type 0
WishFits [] = Unit {0}
WishFits (w ∷ ws) = (w.kind < top) × Small w.args × (length w.args ≤ 16) × (w.tries < top) × (w.pause < top)

record Kept (p : Place) (vs : List ℕ) (ws : List Wished) : Type 0 where
  phase : PhaseFits p.phase
  here : p.here < top
  steps : p.steps < top
  into : p.into < top
  vars : Small vs
  wish : WishFits ws

abbrev OutFits : Ways → Type 0
OutFits Lost = Unit {0}
OutFits (Went p vs ws) = Kept p vs ws

cond_fits : (b : Bool) (o : Ways) → (b ≡ true → OutFits o) → OutFits (cond b o Lost)
cond_fits true o h = h refl
cond_fits false o h = tt

value_fits : (n : ℕ) (v : One) (f : ℕ → ℕ → Ways) → OneFits n v → ((x e : ℕ) → x < top → e ≤ n → OutFits (f x e)) → OutFits (with_value v f)
unfolding with_value
value_fits n no_value f k h = tt
value_fits n (one_value x e) f k h = h x e k.0 k.1

all_fits : (n : ℕ) (r : Run) (f : List ℕ → Ways) → RunFits n r → ((xs : List ℕ) → Small xs → length xs ≤ 16 → OutFits (f xs)) → OutFits (with_all r f)
unfolding with_all
all_fits n Bad f k h = tt
all_fits n (Stop st e) f k h = cond_fits (leb (length st) 16) (f (backs st [])) (λ q. h (backs st []) (backs_small st [] k.0 tt) (let l : length st ≤ 16 = leb-true (length st) 16 q in let m = backs_long st [] in omega arith))

capped_small : (x : ℕ) → capped x ≤ 4611686018427387904
capped_small x = go (ltb x 4611686018427387904) refl
  where
    go : (b : Bool) → ltb x 4611686018427387904 ≡ b → cond b x 4611686018427387904 ≤ 4611686018427387904
    go true q = omega (arith, ltb-true x 4611686018427387904 q)
    go false q = omega arith

either_small : (b : Bool) (x y : ℕ) → x < top → y < top → cond b x y < top
either_small true x y h k = h
either_small false x y h k = k

gone_fits : (a : ℕ) (p : Place) (vs us : List ℕ) → a < top → Small us → Kept p vs [] → Kept (gone_to a p) us []
gone_fits a p vs us h s k = record { phase = tt; here = h; steps = k.steps; into = k.into; vars = s; wish = tt }

ended_fits : (q : Phase) (p : Place) (vs : List ℕ) → PhaseFits q → Kept p vs [] → Kept (ended_as q p) vs []
ended_fits q p vs h k = record { phase = h; here = k.here; steps = k.steps; into = k.into; vars = k.vars; wish = tt }

waits_fits : (q : Phase) (a : ℕ) (p : Place) (vs : List ℕ) → PhaseFits q → a < top → p.steps < 4611686018427387904 → Kept p vs [] → Kept (waits_at q a p) vs []
waits_fits q a p vs h l n k = record { phase = h; here = l; steps = omega arith; into = k.into; vars = k.vars; wish = tt }

fails_fits : (way : Option ℕ) (p : Place) (vs : List ℕ) → WayFits way → Kept p vs [] → Kept (fails_to way p) vs []
unfolding fails_to
fails_fits None p vs h k = ended_fits Failed p vs tt k
fails_fits (Some a) p vs h k = gone_fits a p vs vs (omega arith) k.vars k

module _ (room : ℕ) (ws : List ℕ) (t : ℕ) (small : Small ws) (long : length ws ≤ 16384) (early : t ≤ 4611686018427387904) where
  expr_fits : (e : ℕ) (vs : List ℕ) → e ≤ 16500 → Small vs → RunFits 33000 (run_e room vs (drop e ws) e [])
  expr_fits e vs l v = run_as (e + length (drop e ws)) 33000 (run_e room vs (drop e ws) e []) (omega (arith, length-drop e ws)) (run_fits room vs (drop e ws) e [] v (drop_small e ws small) tt)

  worth_fits : (e : ℕ) (vs : List ℕ) → e ≤ 16500 → Small vs → OneFits 33000 (worth_at room ws e vs)
  worth_fits e vs l v = one_fits 33000 (run_e room vs (drop e ws) e []) (expr_fits e vs l v)

  by_value : (e : ℕ) (vs : List ℕ) (f : ℕ → ℕ → Ways) → e ≤ 16500 → Small vs → ((x end : ℕ) → x < top → end ≤ 33000 → OutFits (f x end)) → OutFits (with_value (worth_at room ws e vs) f)
  by_value e vs f l v h = value_fits 33000 (worth_at room ws e vs) f (worth_fits e vs l v) h

  does_fits : (s : Option Statement) (p : Place) (vs : List ℕ) → MayFit s → p.steps < 4611686018427387904 → Kept p vs [] → OutFits (does_w room ws t s p vs)
  unfolding does_w
  does_fits None p vs h n k = tt
  does_fits (Some (Set v next e)) p vs h n k = cond_fits (ltb v 64) _ (λ q. by_value e vs _ (omega (arith, h.1)) k.vars (λ x end b l. gone_fits next p vs (set vs v x) h.0 (set_small vs v x k.vars b) k))
  does_fits (Some (Do v next way task)) p vs h n k =
      cond_fits (ltb v 64) _ (λ q. all_fits 33000 (run_e room vs (drop (task + 12) ws) (task + 12) []) _ (expr_fits (task + 12) vs (omega (arith, h.2)) k.vars)
      (λ xs b l. record { phase = omega arith; here = k.here; steps = omega arith; into = omega (arith, ltb-true v 64 q); vars = k.vars; wish = (get_d_small ws task small, b, l, get_d_small ws (task + 1) small, get_d_small ws (task + 2) small) }))
  does_fits (Some (Sleep next e)) p vs h n k = by_value e vs _ (omega (arith, h.1)) k.vars (λ x end b l. waits_fits (Asleep (t + capped x)) next p vs (omega (arith, capped_small x)) h.0 n k)
  does_fits (Some (Hear v w next name)) p vs h n k =
      cond_fits (ltb v 64 && ltb w 64) _ (λ q. by_value (name + 64) vs _ (omega (arith, h.1)) k.vars (λ x end b l. let g = and_parts (ltb v 64) (ltb w 64) q in
      waits_fits (Listens v w name (t + capped x)) next p vs (omega (arith, ltb-true v 64 g.0), omega (arith, ltb-true w 64 g.1), omega (arith, h.1), omega (arith, capped_small x)) h.0 n k))
  does_fits (Some (If other e)) p vs h n k = by_value e vs _ (omega (arith, h.1)) k.vars (λ x end b l. gone_fits (cond (eqb x 0) other end) p vs vs (either_small (eqb x 0) other end h.0 (omega arith)) k.vars k)
  does_fits (Some (While next e)) p vs h n k = by_value e vs _ (omega (arith, h.1)) k.vars (λ x end b l. gone_fits (cond (eqb x 0) next end) p vs vs (either_small (eqb x 0) next end h.0 (omega arith)) k.vars k)
  does_fits (Some (Guard first)) p vs h n k = gone_fits first p vs vs (omega arith) k.vars k
  does_fits (Some (Go next)) p vs h n k = gone_fits next p vs vs h k.vars k
  does_fits (Some (Return e)) p vs h n k = by_value e vs _ (omega arith) k.vars (λ x end b l. ended_fits (Ended x) p vs b k)
  does_fits (Some (Fail way)) p vs h n k = fails_fits way p vs h k
  does_fits (Some End) p vs h n k = ended_fits (Ended 0) p vs (omega arith) k

  step_fits : (p : Place) (vs : List ℕ) → Kept p vs [] → OutFits (step_w room ws t p vs)
  unfolding step_w
  step_fits p vs k = go (busy p.phase) (spent (deep_at ws p.here) p.steps) refl
    where
      go : (b s : Bool) → spent (deep_at ws p.here) p.steps ≡ s → OutFits (cond b (cond s (Went (ended_as Failed p) vs []) (does_w room ws t (statement_at ws p.here) p vs)) (Went p vs []))
      go true true q = ended_fits Failed p vs tt k
      go true false q = does_fits (statement_at ws p.here) p vs (at_fits ws p.here small long) (leb-false 4611686018427387904 p.steps (or_parts (ltb 64 (deep_at ws p.here)) (leb 4611686018427387904 p.steps) q).1) k
      go false s q = k

  moves_fit : (n : ℕ) (p : Place) (vs : List ℕ) → Kept p vs [] → OutFits (moves_w room ws t n p vs)
  unfolding moves_w onward
  moves_fit zero p vs k = k
  moves_fit (suc n) p vs k = go (λ q us h. moves_fit n q us h) (step_w room ws t p vs) (step_fits p vs k)
    where
      go : ((q : Place) (us : List ℕ) → Kept q us [] → OutFits (moves_w room ws t n q us)) → (o : Ways) → OutFits o → OutFits (onward o (moves_w room ws t n))
      go ih Lost h = tt
      go ih (Went q us []) h = ih q us h
      go ih (Went q us (w ∷ more)) h = h

-- events -------------------------------------------------------------------------

abbrev MadeFits : Result Flow Damaged → Type 0
MadeFits (Ok f) = Fits f
MadeFits (Err d) = Unit {0}

cond_made : (b : Bool) (r s : Result Flow Damaged) → (b ≡ true → MadeFits r) → (b ≡ false → MadeFits s) → MadeFits (cond b r s)
cond_made true r s h k = h refl
cond_made false r s h k = k refl

fill_small : (xs : List ℕ) → Small xs → Small (fill xs)
unfolding fill
fill_small xs s = take_small 16 (xs ++ zeros 16) (small_append xs (zeros 16) s (small_zeros 16))

first_small : (xs : List ℕ) → Small xs → Small (first_vars xs)
unfolding first_vars
first_small xs s = take_small 64 (xs ++ zeros 64) (small_append xs (zeros 64) s (small_zeros 64))

wished_fits : (t : ℕ) (ws : List Wished) → t < top → WishFits ws → FitsTask (task_from t ws)
unfolding task_from
wished_fits t [] h k = tt
wished_fits t (w ∷ ws) h k = record { kind = k.0; args = fill_small w.args k.1; count = omega (arith, k.2); attempt = omega arith; tries = k.3; pause = k.4; standing = h }

settled_fits : (t : ℕ) (o : Ways) → t < top → OutFits o → MadeFits (settled t o)
unfolding settled
settled_fits t Lost h k = tt
settled_fits t (Went p vs ws) h k = record { phase = k.phase; here = k.here; steps = k.steps; into = k.into; vars = k.vars; task = wished_fits t ws h k.wish }

kept_of : (f : Flow) → Fits f → Kept f.place f.vars []
kept_of f k = record { phase = k.phase; here = k.here; steps = k.steps; into = k.into; vars = k.vars; wish = tt }

-- where a task goes on, and where its failure goes
abbrev GoalFits : Option Goal → Type 0
GoalFits None = Unit {0}
GoalFits (Some g) = (g.next < top) × WayFits g.way

goal_fits : (s : Option Statement) → MayFit s → GoalFits (task_in s)
goal_fits None h = tt
goal_fits (Some (Set v next e)) h = tt
goal_fits (Some (Do v next way task)) h = (h.0, h.1)
goal_fits (Some (Sleep next e)) h = tt
goal_fits (Some (Hear v w next name)) h = tt
goal_fits (Some (If other e)) h = tt
goal_fits (Some (While next e)) h = tt
goal_fits (Some (Guard first)) h = tt
goal_fits (Some (Go next)) h = tt
goal_fits (Some (Return e)) h = tt
goal_fits (Some (Fail way)) h = tt
goal_fits (Some End) h = tt

by_goal : (g : Option Goal) (f : ℕ → Option ℕ → Ways) → GoalFits g → ((next : ℕ) (way : Option ℕ) → next < top → WayFits way → OutFits (f next way)) → OutFits (with_goal g f)
unfolding with_goal
by_goal None f k h = tt
by_goal (Some g) f k h = h g.next g.way k.0 k.1

again_fits : (t : ℕ) (u : Task) → t ≤ 4611686018427387904 → fair u ≡ true → u.attempt < u.tries → TaskFits u → TaskFits (again t u)
again_fits t u e q l k =
    let a = and_parts (leb u.count 16) _ q in
    let b = and_parts (leb 1 u.attempt) _ a.1 in
    let c = and_parts (leb u.attempt u.tries) _ b.1 in
    let d = and_parts (leb u.tries 32) _ c.1 in
    let p = and_parts (leb u.pause 86400000) _ d.1 in
    let one : 1 ≤ u.attempt = leb-true 1 u.attempt b.0 in
    let few : u.tries ≤ 32 = leb-true u.tries 32 d.0 in
    let h = pauses u.attempt u.pause one (omega arith) (leb-true u.pause 86400000 p.0) in
    record { kind = k.kind; args = k.args; count = k.count; attempt = omega arith; tries = k.tries; pause = k.pause; standing = omega (arith, h.1) }

with_fits : (f : Flow) (u : Option Task) → Fits f → FitsTask u → Fits (with_task u f)
with_fits f u k h = record { phase = k.phase; here = k.here; steps = k.steps; into = k.into; vars = k.vars; task = h }

module _ (room : ℕ) (ws : List ℕ) (t : ℕ) (small : Small ws) (long : length ws ≤ 16384) (early : t ≤ 4611686018427387904) where
  ran_fits : (p : Place) (vs : List ℕ) → Kept p vs [] → MadeFits (ran_on room ws t p vs)
  ran_fits p vs k = settled_fits t (moves_w room ws t 1000 p vs) (omega arith) (moves_fit room ws t small long early 1000 p vs k)

  then_fits : (o : Ways) → OutFits o → MadeFits (then_runs room ws t o)
  unfolding then_runs
  then_fits Lost k = tt
  then_fits (Went p vs w) k = ran_fits p vs (record { phase = k.phase; here = k.here; steps = k.steps; into = k.into; vars = k.vars; wish = tt })

  worked_fits : (v : ℕ) (f : Flow) → v < top → Fits f → MadeFits (worked_on room ws t v f)
  unfolding worked_on
  worked_fits v f h k = cond_made (ltb f.place.into 64) _ damaged (λ q. then_fits _ (by_goal (task_in (statement_at ws f.place.here)) _ (goal_fits (statement_at ws f.place.here) (at_fits ws f.place.here small long)) (λ next way a b. gone_fits next f.place f.vars (set f.vars f.place.into v) a (set_small f.vars f.place.into v k.vars h) (kept_of f k)))) (λ q. tt)

  failed_fits : (f : Flow) → Fits f → MadeFits (failed_on room ws t f)
  unfolding failed_on
  failed_fits f k = then_fits _ (by_goal (task_in (statement_at ws f.place.here)) _ (goal_fits (statement_at ws f.place.here) (at_fits ws f.place.here small long)) (λ next way a b. fails_fits way f.place f.vars b (kept_of f k)))

  task_fits : (f : Flow) (u : Option Task) → Fits f → FitsTask u → MadeFits (wrong_task room ws t f u)
  unfolding wrong_task
  task_fits f None k h = tt
  task_fits f (Some u) k h = cond_made (fair u) _ damaged (λ q. cond_made (ltb u.attempt u.tries) _ _ (λ r. with_fits f (Some (again t u)) k (again_fits t u early q (ltb-true u.attempt u.tries r) h)) (λ r. failed_fits f k)) (λ q. tt)

  wrong_fits : (f : Flow) → Fits f → MadeFits (wrong_on room ws t f)
  wrong_fits f k = task_fits f f.task k k.task

  wakes_fits : (q : Phase) (f : Flow) → Fits f → MadeFits (wakes_at room ws t q f)
  unfolding wakes_at
  wakes_fits Busy f k = ran_fits f.place f.vars (kept_of f k)
  wakes_fits (Tasked s) f k = k
  wakes_fits (Asleep u) f k = cond_made (leb u t) _ (Ok f) (λ q. ran_fits (gone_to f.place.here f.place) f.vars (gone_fits f.place.here f.place f.vars f.vars k.here k.vars (kept_of f k))) (λ q. k)
  wakes_fits (Listens v w n u) f k = cond_made (leb u t) _ (Ok f) (λ q. cond_made (ltb v 64 && ltb w 64) _ damaged (λ r. ran_fits (gone_to f.place.here f.place) (set (set f.vars v 0) w 0) (gone_fits f.place.here f.place f.vars (set (set f.vars v 0) w 0) k.here (set_small (set f.vars v 0) w 0 (set_small f.vars v 0 k.vars (omega arith)) (omega arith)) (kept_of f k))) (λ r. tt)) (λ q. k)
  wakes_fits (Ended v) f k = k
  wakes_fits Failed f k = k

  then_wakes_lem : (r : Result Flow Damaged) → MadeFits r → MadeFits (then_wakes room ws t r)
  unfolding then_wakes
  then_wakes_lem (Ok f) k = wakes_fits f.place.phase f k
  then_wakes_lem (Err d) k = tt

  ticked_fits : (f : Flow) → Fits f → MadeFits (ticked_on room ws t f)
  unfolding ticked_on
  ticked_fits f k = cond_made (late_task t f.task) _ _ (λ q. then_wakes_lem (wrong_on room ws t f) (wrong_fits f k)) (λ q. wakes_fits f.place.phase f k)

  begun_fits : (xs : List ℕ) → Small xs → MadeFits (begun room ws xs t)
  begun_fits xs s = ran_fits at_first (first_vars xs) (record { phase = tt; here = omega arith; steps = omega arith; into = omega arith; vars = first_small xs s; wish = tt })

out_fits : (until : ℕ) (u : Option Task) → until < top → FitsTask u → FitsTask (out_task until u)
out_fits until None h k = tt
out_fits until (Some u) h k = record { kind = k.kind; args = k.args; count = k.count; attempt = k.attempt; tries = k.tries; pause = k.pause; standing = h }

over_fits : (b : Bool) (f g : Flow) → Fits f → Fits g → Fits (cond b f g)
over_fits true f g h k = h
over_fits false f g h k = k

pub fitting : Fitting
fitting = record {
  handed = λ f until k h. with_fits f (out_task until f.task) k (out_fits until f.task h k.task);
  cancelled = λ f k. over_fits (over_in f.place.phase) f _ k (record { phase = tt; here = k.here; steps = k.steps; into = k.into; vars = k.vars; task = tt });
  worked = λ room ws t v f g s l e h k q. subst MadeFits q (worked_fits room ws t s l e v f h k);
  wrong = λ room ws t f g s l e k q. subst MadeFits q (wrong_fits room ws t s l e f k);
  ticked = λ room ws t f g s l e k q. subst MadeFits q (ticked_fits room ws t s l e f k);
  begun = λ room ws xs t g s l e h q. subst MadeFits q (begun_fits room ws t s l e xs h);
}
