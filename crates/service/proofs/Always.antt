-- What holds of all that a work may yield; and that no call but a telling of the time changes the time. Assumes nothing.
use Rattle.std.proofs.Common.{◌≡◌, ℕ, ◌+◌, ◌*◌, Bool, true, false, cond, ltb, leb, List, Some, None, Ok, Err, Option, Result, refl}
use Rattle.plans.specs.Plan.{Name}
use Rattle.plans.specs.declared.eval.Damaged.{Damaged}
use Rattle.flows.specs.House.{Reply, No, Full'}
use Rattle.pages.specs.declared.flow.Flow.{Flow}
use Rattle.pages.specs.declared.flow.Untried.TheVariants.{NoTask, NotOut}
use Rattle.pages.specs.Events.{Tried}
use Rattle.pages.specs.declared.flow.Task.{Task}
use Rattle.device.specs.Lines.{Work, yields, load, store, push, fence}
use Rattle.device.specs.Does.{Op, Did, d_end, d_load, d_store, d_push, d_fence, bind}
use Rattle.store.specs.Layout.{next_of, blocks_for, Mind}
use Rattle.store.specs.Finds.{weight_over}
use Rattle.store.specs.Room.{marked, chosen, looked_at}
use Rattle.engine.specs.declared.take.Best.{Best}
use Rattle.engine.specs.Works.{Answer, said, lost, by_slot, by_flow, by_tried, by_task, by_best, by_blocks, Looking, changes, at_flow, at_slot, show_flow, forget_flow, cancel_flow, longer_flow, report_plan, report_flow, hand_flow, take_end, take_work, born_work, start_blocks, start_free, start_work}

pub data Always {A : Type 0} (P : A → Type 0) : Work A → Type 0 where
  a_end : {a : A} → P a → Always P (yields a)
  a_load : {l k : ℕ} {f : ℕ → Work A} → ((v : ℕ) → Always P (f v)) → Always P (load l k f)
  a_store : {l k v : ℕ} {p : Work A} → Always P p → Always P (store l k v p)
  a_push : {l : ℕ} {p : Work A} → Always P p → Always P (push l p)
  a_fence : {p : Work A} → Always P p → Always P (fence p)

pub always_did : {A S : Type 0} {P : A → Type 0} {step : S → Op → S → Type 0} {w : Work A} {s t : S} {a : A} → Always P w → Did step w s a t → P a
always_did (a_end h) d_end = h
always_did (a_load h) (d_load {v = v} x d) = always_did (h v) d
always_did (a_store h) (d_store x d) = always_did h d
always_did (a_push h) (d_push x d) = always_did h d
always_did (a_fence h) (d_fence x d) = always_did h d

always_bind : {A B : Type 0} (P : B → Type 0) (w : Work A) (k : A → Work B) → ((a : A) → Always P (k a)) → Always P (bind w k)
unfolding bind
always_bind P (yields a) k h = h a
always_bind P (load l w f) k h = a_load (λ v. always_bind P (f v) k h)
always_bind P (store l w v p) k h = a_store (always_bind P p k h)
always_bind P (push l p) k h = a_push (always_bind P p k h)
always_bind P (fence p) k h = a_fence (always_bind P p k h)

-- the time stays as it is
abbrev pub Timely : Mind → Work Answer → Type 0
Timely x w = Always (λ (a : Answer). a.mind.now ≡ x.now) w

module _ (x : Mind) where
  either : (t : Bool) (a b : Work Answer) → Timely x a → Timely x b → Timely x (cond t a b)
  either true a b p q = p
  either false a b p q = q

  slot : (o : Option ℕ) (a : Work Answer) (f : ℕ → Work Answer) → Timely x a → ((i : ℕ) → Timely x (f i)) → Timely x (by_slot o a f)
  unfolding by_slot
  slot None a f p q = p
  slot (Some i) a f p q = q i

  flow : (o : Result Flow Damaged) (a : Work Answer) (f : Flow → Work Answer) → Timely x a → ((y : Flow) → Timely x (f y)) → Timely x (by_flow o a f)
  unfolding by_flow
  flow (Err e) a f p q = p
  flow (Ok y) a f p q = q y

  tried : (o : Tried) (a b c : Work Answer) → Timely x a → Timely x b → Timely x c → Timely x (by_tried o a b c)
  unfolding by_tried
  tried (Err NoTask) a b c p q r = p
  tried (Err NotOut) a b c p q r = q
  tried (Ok x) a b c p q r = r

  task : (o : Option Task) (a : Work Answer) (f : Task → Work Answer) → Timely x a → ((i : Task) → Timely x (f i)) → Timely x (by_task o a f)
  unfolding by_task
  task None a f p q = p
  task (Some i) a f p q = q i

  best : (o : Option Best) (a : Work Answer) (f : Best → Work Answer) → Timely x a → ((i : Best) → Timely x (f i)) → Timely x (by_best o a f)
  unfolding by_best
  best None a f p q = p
  best (Some i) a f p q = q i

  blocks : (o : Option (List ℕ)) (a : Work Answer) (f : List ℕ → Work Answer) → Timely x a → ((i : List ℕ) → Timely x (f i)) → Timely x (by_blocks o a f)
  unfolding by_blocks
  blocks None a f p q = p
  blocks (Some i) a f p q = q i

  change : (i : ℕ) (r : Reply) (f : Flow) → Timely x (changes x i r f)
  unfolding changes
  change i r f = always_bind _ _ _ (λ z. (a_end refl))

  pub at_flow_lem : (W : ℕ → Flow → Work Answer) (i : ℕ) → ((f : Flow) → Timely x (W i f)) → Timely x (at_flow x W i)
  unfolding at_flow
  at_flow_lem W i h = always_bind _ _ _ (λ r. flow r _ (W i) (a_end refl) h)

  pub at_slot_lem : (W : ℕ → Flow → Work Answer) (o : Option ℕ) → ((i : ℕ) (f : Flow) → Timely x (W i f)) → Timely x (at_slot x W o)
  unfolding at_slot
  at_slot_lem W o h = slot o _ _ (a_end refl) (λ i. at_flow_lem W i (h i))

  pub show_timely : (i : ℕ) (f : Flow) → Timely x (show_flow x i f)
  unfolding show_flow
  show_timely i f = either _ _ _ (always_bind _ _ _ (λ z. (a_end refl))) (a_end refl)

  pub forget_timely : (i : ℕ) (f : Flow) → Timely x (forget_flow x i f)
  unfolding forget_flow
  forget_timely i f = either _ _ _ (always_bind _ _ _ (λ z. (a_end refl))) (a_end refl)

  pub cancel_timely : (i : ℕ) (f : Flow) → Timely x (cancel_flow x i f)
  unfolding cancel_flow
  cancel_timely i f = either _ _ _ (a_end refl) (change i _ _)

  pub longer_timely : (s a ms i : ℕ) (f : Flow) → Timely x (longer_flow s a ms x i f)
  unfolding longer_flow
  longer_timely s a ms i f = tried _ _ _ _ (a_end refl) (a_end refl) (change i _ _)

  pub report_timely : (s a : ℕ) (w : Bool) (v i : ℕ) (f : Flow) → Timely x (report_flow s a w v x i f)
  unfolding report_flow report_plan
  report_timely s a w v i f = tried _ _ _ _ (a_end refl) (a_end refl) (always_bind _ _ _ (λ ws. flow _ _ _ (a_end refl) (change i _)))

  ended : (ms : ℕ) (o : Looking) → Timely x (take_end ms x o)
  unfolding take_end hand_flow
  ended ms (Err d) = a_end refl
  ended ms (Ok a) = best a _ _ (a_end refl) (λ b. at_flow_lem (hand_flow ms x) b.slot (λ f. task _ _ _ (a_end refl) (λ u. change b.slot _ _)))

  pub take_timely : (ks : List ℕ) (ms : ℕ) → Timely x (take_work ks ms x)
  unfolding take_work
  take_timely ks ms = always_bind _ _ _ (ended ms)

  born_timely : (i : ℕ) (es d q ws : List ℕ) (f : Flow) → Timely x (born_work x i es d q ws f)
  unfolding born_work
  born_timely i es d q ws f = always_bind _ _ _ (λ z. always_bind _ _ _ (λ y. (a_end refl)))

  blocks_timely : (n : Name) (size : ℕ) (ws xs : List ℕ) (i : ℕ) (bs : List ℕ) → Timely x (start_blocks n size ws xs x i bs)
  unfolding start_blocks
  blocks_timely n size ws xs i bs = flow _ _ _ (a_end refl) (born_timely i _ _ _ ws)

  free_timely : (n : Name) (size : ℕ) (ws xs : List ℕ) (i : ℕ) → Timely x (start_free n size ws xs x i)
  unfolding start_free
  free_timely n size ws xs i =
      either (leb 4611686018427387904 (next_of x.page)) (said (No 8) x) (cond (ltb (64 * x.lines) (1048576 + 2 * (weight_over x.page x.dir 0 1024 + (16384 + 16 * size)))) (said Full' x) (by_blocks (chosen (blocks_for size) (marked x.page x.dir (looked_at x.lines))) (lost x) (start_blocks n size ws xs x i))) (a_end refl)
      (either (ltb (64 * x.lines) (1048576 + 2 * (weight_over x.page x.dir 0 1024 + (16384 + 16 * size)))) (said Full' x) (by_blocks (chosen (blocks_for size) (marked x.page x.dir (looked_at x.lines))) (lost x) (start_blocks n size ws xs x i)) (a_end refl)
      (blocks (chosen (blocks_for size) (marked x.page x.dir (looked_at x.lines))) (lost x) (start_blocks n size ws xs x i) (a_end refl) (blocks_timely n size ws xs i)))

  pub start_timely : (n : Name) (size : ℕ) (ws xs : List ℕ) → Timely x (start_work n size ws xs x)
  unfolding start_work
  start_timely n size ws xs = slot _ _ _ (slot _ _ _ (a_end refl) (free_timely n size ws xs)) (λ i. a_end refl)
