-- What is told to a flow that waits, on a plan's words.
use mir.Val.{bool_byte}
use Rattle.std.specs.Option.{is_some, unwrap_or}
use Rattle.std.proofs.Common.{◌≡◌, ℕ, ◌+◌, ◌<◌, Bool, true, false, cond, ◌&&◌, ltb, leb, List, [], ◌∷◌, length, get_or, drop, set, Some, None, Ok, Err, Option, Result, sym, refl, ap, ◌∙◌, subst, arith, length-set}
use Rattle.std.proofs.lemmas.Bool.{both_ways}
use Rattle.plans.specs.declared.eval.Damaged.{Damaged}
use Rattle.plans.specs.Plan.{Expr, Flow, Busy as busy_p, Tasked as tasked_p, at, goes_on, broken, heard}
use Rattle.plans.specs.Flat.{Way}
use Rattle.plans.specs.Eval.{look}
use Rattle.runs.specs.declared.unit.Statement.{Statement}
use Rattle.runs.specs.declared.unit.Statement.TheVariants.{Set, Do, Sleep, Hear, If, While, Guard, Go, Return, Fail, End}
use Rattle.runs.specs.declared.step.Phase.TheVariants.{Tasked}
use Rattle.runs.specs.declared.step.Place.{Place}
use Rattle.runs.specs.Alike.{is_calm}
use Rattle.runs.specs.Machine.{Act, SetOp, DoOp, SleepOp, HearOp, IfOp, WhileOp, ReturnOp, Wrong, FlatFlow, fgoes, fbroken, fheard, is_do, after_do, way_of, Is}
use Rattle.runs.specs.Units.{statement_at}
use Rattle.runs.specs.Decode.{Grown, withered, grown, trees_at, one_tree, back, all_trees, way_from, letters, act_of, code_in}
use Rattle.runs.specs.Steps.{Out, Lost, Went, gone_to, fails_to, Placed}
use Rattle.runs.specs.Carried.{phase_in, flow_in}
use Rattle.runs.specs.Events.{task_in, with_task, by_task, worth, came, NowIs}
use Rattle.runs.specs.declared.event.Task.{Task as Found}
use Rattle.runs.proofs.Told.{tasked_both, broken_alike, result_alike, wakes_alike, heard_alike}
use Rattle.runs.proofs.Ties.{look_set}

one_no_task : (g : Grown) (f : Expr → ℕ → Act) → ((e : Expr) (n : ℕ) → is_do (f e n) ≡ false) → is_do (one_tree g f) ≡ false
unfolding one_tree is_do
one_no_task withered f h = refl
one_no_task (grown [] end) f h = refl
one_no_task (grown (e ∷ []) end) f h = h e end
one_no_task (grown (e ∷ d ∷ es) end) f h = refl

cond_no_task : (b : Bool) (a : Act) → is_do a ≡ false → is_do (cond b a Wrong) ≡ false
unfolding is_do
cond_no_task true a h = h
cond_no_task false a h = refl

-- the unit of a task that stands there
pub record Task (room : ℕ) (ws : List ℕ) (s : Option Statement) : Type 0 where
  pub v : ℕ
  pub next : ℕ
  pub way : Option ℕ
  pub task : ℕ
  pub is : s ≡ Some (Do v next way task)
  pub goes : after_do (act_of room ws s) ≡ next
  pub fails : way_of (act_of room ws s) ≡ way_from way

no_task_lem : (room : ℕ) (ws : List ℕ) (s : Option Statement) → is_do (act_of room ws s) ≡ false → is_do (act_of room ws s) ≡ true → Task room ws s
no_task_lem room ws s f t = absurd (both_ways (is_do (act_of room ws s)) f t)

do_task : (b : Bool) (g : Grown) (v kind tries pause next : ℕ) (way : Way) → is_do (cond b (all_trees g (λ ts. DoOp v kind ts tries pause next way)) Wrong) ≡ true → (after_do (cond b (all_trees g (λ ts. DoOp v kind ts tries pause next way)) Wrong) ≡ next) × (way_of (cond b (all_trees g (λ ts. DoOp v kind ts tries pause next way)) Wrong) ≡ way)
unfolding all_trees is_do after_do way_of
do_task false g v kind tries pause next way h = let z : ◌≡◌ {A = ℕ} 0 1 = cc in absurd (omega arith)
do_task true withered v kind tries pause next way h = let z : ◌≡◌ {A = ℕ} 0 1 = cc in absurd (omega arith)
do_task true (grown st end) v kind tries pause next way h = go (leb (length st) 16) h
  where
    go : (c : Bool) → is_do (cond c (DoOp v kind (back st []) tries pause next way) Wrong) ≡ true → (after_do (cond c (DoOp v kind (back st []) tries pause next way) Wrong) ≡ next) × (way_of (cond c (DoOp v kind (back st []) tries pause next way) Wrong) ≡ way)
    go true k = (refl, refl)
    go false k = let z : ◌≡◌ {A = ℕ} 0 1 = cc in absurd (omega arith)

task_at_lem : (room : ℕ) (ws : List ℕ) (s : Option Statement) → is_do (act_of room ws s) ≡ true → Task room ws s
unfolding act_of is_do
task_at_lem room ws None h = no_task_lem room ws None refl h
task_at_lem room ws (Some (Set v next e)) h = no_task_lem room ws (Some (Set v next e)) (cond_no_task (ltb v 64) _ (one_no_task (trees_at room ws e) (λ t end. SetOp v t next) (λ t n. refl))) h
task_at_lem room ws (Some (Do v next way task)) h = let q = do_task (ltb v 64) (trees_at room ws (task + 12)) v (get_or ws task 0) (get_or ws (task + 1) 0) (get_or ws (task + 2) 0) next (way_from way) h in record { v = v; next = next; way = way; task = task; is = refl; goes = q.0; fails = q.1 }
task_at_lem room ws (Some (Sleep next e)) h = no_task_lem room ws (Some (Sleep next e)) (one_no_task (trees_at room ws e) (λ t end. SleepOp t next) (λ t n. refl)) h
task_at_lem room ws (Some (Hear v w next name)) h = no_task_lem room ws (Some (Hear v w next name)) (cond_no_task (ltb v 64 && ltb w 64) _ (one_no_task (trees_at room ws (name + 64)) (λ t end. HearOp v w (letters 64 (drop name ws)) t next) (λ t n. refl))) h
task_at_lem room ws (Some (If other e)) h = no_task_lem room ws (Some (If other e)) (one_no_task (trees_at room ws e) (λ t end. IfOp t end other) (λ t n. refl)) h
task_at_lem room ws (Some (While next e)) h = no_task_lem room ws (Some (While next e)) (one_no_task (trees_at room ws e) (λ t end. WhileOp t end next) (λ t n. refl)) h
task_at_lem room ws (Some (Guard first)) h = no_task_lem room ws (Some (Guard first)) refl h
task_at_lem room ws (Some (Go next)) h = no_task_lem room ws (Some (Go next)) refl h
task_at_lem room ws (Some (Return e)) h = no_task_lem room ws (Some (Return e)) (one_no_task (trees_at room ws e) (λ t end. ReturnOp t) (λ t n. refl)) h
task_at_lem room ws (Some (Fail way)) h = no_task_lem room ws (Some (Fail way)) refl h
task_at_lem room ws (Some End) h = no_task_lem room ws (Some End) refl h

-- waking
pub wakes_in : (p r : Place) → r ≡ gone_to p.here p → (room : ℕ) (ws vs : List ℕ) (x : Flow) (y : FlatFlow) → is_calm (phase_in ws p.phase) ≡ true → Is (code_in room ws) (flow_in ws p vs y) x → Is (code_in room ws) (flow_in ws r vs y) (goes_on x.frames x.vars x)
unfolding phase_in
wakes_in p r e room ws vs x y h k = subst (λ (q : Place). Is (code_in room ws) (flow_in ws q vs y) (goes_on x.frames x.vars x)) (sym e) (wakes_alike (code_in room ws) (flow_in ws p vs y) x h k)

tasked_in : (ws : List ℕ) (p : Place) (k : ℕ) → p.phase ≡ Tasked k → phase_in ws p.phase ≡ tasked_p k
unfolding phase_in
tasked_in ws p k e = ap (phase_in ws) e

fails_in_lem : (ws vs : List ℕ) (y : FlatFlow) (p : Place) (way : Option ℕ) → fbroken (way_from way) (flow_in ws p vs y) ≡ flow_in ws (fails_to way p) vs y
unfolding fbroken way_from fails_to phase_in
fails_in_lem ws vs y p None = refl
fails_in_lem ws vs y p (Some a) = refl

-- what came out, as what the flow is
abbrev Comes : (room : ℕ) → List ℕ → FlatFlow → Out → Flow → Type 0
Comes room ws y Lost x = ⊥
Comes room ws y (Went p us w) x = Is (code_in room ws) (flow_in ws p us y) x

pub now_is : (room : ℕ) (ws : List ℕ) (y : FlatFlow) (r : Result Place Damaged) (us : List ℕ) (o : Out) (x : Flow) → Placed r us o → Comes room ws y o x → NowIs room ws y r us x
now_is room ws y (Ok p) us o x h k = subst (λ (q : Out). Comes room ws y q x) h k
now_is room ws y (Err e) us o x h k = subst (λ (q : Out). Comes room ws y q x) h k

pub broken_in : (ws : List ℕ) (p : Place) (r : Result Place Damaged) → Placed r [] (by_task (statement_at ws p.here) (λ next way. Went (fails_to way p) [] [])) → (room k : ℕ) (vs : List ℕ) (x : Flow) (y : FlatFlow) → p.phase ≡ Tasked k → Is (code_in room ws) (flow_in ws p vs y) x → NowIs room ws y r vs (broken x.frames x)
unfolding with_task
broken_in ws p r h room k vs x y e is =
    let t : Task room ws (statement_at ws p.here) = task_at_lem room ws (statement_at ws p.here) (tasked_both (code_in room ws) (flow_in ws p vs y) x k (tasked_in ws p k e) is).0 in
    let b : Is (code_in room ws) (flow_in ws (fails_to t.way p) vs y) (broken x.frames x) = subst (λ (f : FlatFlow). Is (code_in room ws) f (broken x.frames x)) (ap (λ (w : Way). fbroken w (flow_in ws p vs y)) t.fails ∙ fails_in_lem ws vs y p t.way) (broken_alike (code_in room ws) (flow_in ws p vs y) x k (tasked_in ws p k e) is) in
    go r t.way (subst (λ (s : Option Statement). Placed r [] (by_task s (λ next way. Went (fails_to way p) [] []))) t.is h) b
  where
    go : (q : Result Place Damaged) (w : Option ℕ) → Placed q [] (Went (fails_to w p) [] []) → Is (code_in room ws) (flow_in ws (fails_to w p) vs y) (broken x.frames x) → NowIs room ws y q vs (broken x.frames x)
    go (Ok s) w g b = let z : fails_to w p ≡ s = cc in subst (λ (m : Place). Is (code_in room ws) (flow_in ws m vs y) (broken x.frames x)) z b
    go (Err d) w g b = let z : ◌≡◌ {A = ℕ} 0 1 = cc in absurd (omega arith)

pub result_in : (ws : List ℕ) (p : Place) (v : ℕ) (vs us : List ℕ) (r : Result Place Damaged) → length vs ≡ 64 → p.into < 64 → Placed r us (by_task (statement_at ws p.here) (λ next way. Went (gone_to next p) (set vs p.into v) [])) → (room k : ℕ) (x : Flow) (y : FlatFlow) → p.phase ≡ Tasked k → Is (code_in room ws) (flow_in ws p vs y) x → NowIs room ws y r us (goes_on x.frames (at x.into v x.vars) x)
unfolding with_task phase_in
result_in ws p v vs us r all low h room k x y e is =
    let t : Task room ws (statement_at ws p.here) = task_at_lem room ws (statement_at ws p.here) (tasked_both (code_in room ws) (flow_in ws p vs y) x k (tasked_in ws p k e) is).0 in
    let f : fgoes (after_do (code_in room ws p.here).act) (at p.into v (look vs)) (flow_in ws p vs y) ≡ flow_in ws (gone_to t.next p) (set vs p.into v) y = λ i. fgoes (t.goes i) (look_set vs p.into v (omega arith) i) (flow_in ws p vs y) in
    let b : Is (code_in room ws) (flow_in ws (gone_to t.next p) (set vs p.into v) y) (goes_on x.frames (at x.into v x.vars) x) = subst (λ (g : FlatFlow). Is (code_in room ws) g (goes_on x.frames (at x.into v x.vars) x)) f (result_alike (code_in room ws) (flow_in ws p vs y) x k v (tasked_in ws p k e) is) in
    now_is room ws y r us (Went (gone_to t.next p) (set vs p.into v) []) (goes_on x.frames (at x.into v x.vars) x) (subst (λ (s : Option Statement). Placed r us (by_task s (λ next way. Went (gone_to next p) (set vs p.into v) []))) t.is h) b

pub task_went : (s : Option Statement) (f : ℕ → Option ℕ → Out) (t : Found) (o : Out) → Some t ≡ task_in s → f t.next t.way ≡ o → by_task s f ≡ o
unfolding with_task
task_went s f t o h e = ap (λ (q : Option Found). with_task q f) (sym h) ∙ e

pub task_lost : (s : Option Statement) (f : ℕ → Option ℕ → Out) → None ≡ task_in s → by_task s f ≡ Lost
unfolding with_task
task_lost s f h = ap (λ (q : Option Found). with_task q f) (sym h)

pub worth_is : (o : Option ℕ) → unwrap_or o 0 ≡ worth o
unfolding worth
worth_is None = refl
worth_is (Some v) = refl

pub came_is : (o : Option ℕ) → bool_byte (is_some o) ≡ came o
unfolding came
came_is None = refl
came_is (Some v) = refl

pub heard_in : (p r : Place) (v w n came : ℕ) (vs : List ℕ) → length vs ≡ 64 → v < 64 → w < 64 → r ≡ gone_to p.here p → (room : ℕ) (ws : List ℕ) (x : Flow) (y : FlatFlow) → is_calm (phase_in ws p.phase) ≡ true → Is (code_in room ws) (flow_in ws p vs y) x → Is (code_in room ws) (flow_in ws r (set (set vs v n) w came) y) (heard v w n came x.box x.frames x)
unfolding phase_in
heard_in p r v w n came vs all low lower e room ws x y h k =
    let l : length (set vs v n) ≡ 64 = simp length-set all in
    let f : at w came (at v n (look vs)) ≡ look (set (set vs v n) w came) = ap (λ (g : ℕ → ℕ). at w came g) (look_set vs v n (omega arith)) ∙ look_set (set vs v n) w came (omega arith) in
    let g : fheard v w n came y.box p.here (flow_in ws p vs y) ≡ flow_in ws r (set (set vs v n) w came) y = (λ i. record { id = y.id; key = y.key; phase = busy_p; here = p.here; vars = f i; steps = p.steps; into = p.into; box = y.box; size = y.size }) ∙ ap (λ (q : Place). flow_in ws q (set (set vs v n) w came) y) (sym e) in
    subst (λ (z : FlatFlow). Is (code_in room ws) z (heard v w n came x.box x.frames x)) g (heard_alike (code_in room ws) (flow_in ws p vs y) x v w n came h k)
