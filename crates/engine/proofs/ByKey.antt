-- Show, forget and cancel. Assumes nothing.
use Rattle.std.proofs.Common.{◌≡◌, ℕ, ◌+◌, ◌/◌, ◌<◌, ◌≤◌, Bool, true, false, cond, ◌&&◌, eqb, ◌⊎◌, List, [], ◌∷◌, map, length, Some, None, Option, sym, refl, ap, ◌∙◌, subst, inl, inr, arith, eqb-true}
use borrow.Author.Tests.{eqb-false}
use Rattle.runs.specs.declared.step.Phase.{Phase}
use Rattle.runs.specs.declared.step.Phase.TheVariants as phases
use Rattle.runs.specs.Carried.{phase_in, listening}
use Rattle.flows.specs.One.{One}
use Rattle.pages.specs.declared.flow.Flow.{Flow}
use Rattle.pages.specs.Holds.{Holds}
use Rattle.device.specs.Lines.{Lines, Left, Work}
use Rattle.device.specs.Does.{bind}
use Rattle.device.specs.Safe.{s_end}
use Rattle.device.proofs.Safe.{safe_bind, safe_more}
use Rattle.store.specs.Layout.{slots, dir_words, used_of, pick_of, turn_at, id_at, Mind, flipped_to}
use Rattle.store.specs.Works.{load_plan, flip_to}
use Rattle.store.specs.Shows.{Used}
use Rattle.store.specs.Finds.{first_slot, by_id, by_key}
use Rattle.store.proofs.Turns.{turn_same, turn_other, turn_apart, turn_length, turn_small, turn_first}
use Rattle.store.proofs.Slots.{body_fewer}
use Rattle.store.proofs.Drafts.{Held, Draft, draft_start, draft_flip}
use Rattle.engine.proofs.Stands.{who, Slot, Agrees, Stands, held_fallen, held_stands, stands_fallen, Ever, Carries, carries_said, open_then, plan_then, change_carries}
use Rattle.engine.proofs.Search.{slot_list, search_same, search_found, key_same, id_same}
use Rattle.engine.proofs.Rules.{Rules}
use Rattle.plans.specs.Plan.{Name, Flow as Meant, Failed, ends}
use Rattle.flows.specs.House.{No, Yes, State, is_over}
use Rattle.flows.specs.Summed.{cancels_one}
use Rattle.flows.specs.Seats.{Seats, Seated, nobody, put, answer, refuse, at_seat, shows_flow, forgets_flow, cancels_flow, flow_at, key_seat, id_seat, holds_key, holds_id}
use Rattle.pages.specs.Events.{over_in, cancelled_of}
use Rattle.pages.proofs.Asked.{over_held, cancelled_held}
use Rattle.engine.specs.Works.{room, Answer, said, lost, by_slot, by_flow, at_flow, at_slot, key_slot, id_slot, changes, show_flow, forget_flow, cancel_flow}

and_left : (a b : Bool) → (a && b) ≡ true → a ≡ true
and_left true b e = refl
and_left false b e = e

and_right : (a b : Bool) → (a && b) ≡ true → b ≡ true
and_right true b e = e
and_right false b e = let z : ◌≡◌ {A = ℕ} 0 1 = cc in absurd (omega arith)

quiet : (ws : List ℕ) (p : Phase) → listening p ≡ false → phase_in [] p ≡ phase_in ws p
unfolding phase_in
quiet ws phases.Busy e = refl
quiet ws (phases.Tasked s) e = refl
quiet ws (phases.Asleep u) e = refl
quiet ws (phases.Listens v w n u) e = let z : ◌≡◌ {A = ℕ} 0 1 = cc in absurd (omega arith)
quiet ws (phases.Ended v) e = refl
quiet ws phases.Failed e = refl

-- what is done at a slot that was found by a test that holds of slots in use alone
module _ {N : ℕ} {x : Mind} {k : Seats} {m : Lines} (big : 32768 ≤ N) (st : Stands N x k m) (long : length x.dir ≡ dir_words) where
  pub at_slot_lem : (p : ℕ → Bool) (q : List ℕ) (F : ℕ → Seats → Seated) (W : ℕ → Flow → Work Answer)
      → ((i : ℕ) → p i ≡ true → eqb (used_of x.page i) 1 ≡ true)
      → ((i : ℕ) (u : Used x.page i) → p i ≡ true → F i k ≡ at_seat F q k → Carries N k (F i k) (W i (st.agrees.used i u).flow) m)
      → slot_list (first_slot p 0 1024) ≡ q → Carries N k (at_seat F q k) (at_slot x W (first_slot p 0 1024)) m
  unfolding at_seat at_slot by_slot at_flow slot_list by_flow
  at_slot_lem p q F W used each e = subst (λ l. Carries N k (at_seat F l k) (at_slot x W (first_slot p 0 1024)) m) e (go (first_slot p 0 1024) refl)
    where
      go : (s : Option ℕ) → first_slot p 0 1024 ≡ s → Carries N k (at_seat F (slot_list s) k) (at_slot x W s) m
      go None t = carries_said N x k m (No 2) (refuse 2 k) st long refl refl
      go (Some i) t =
          let f = search_found p 0 1024 i t in
          let u : Used x.page i = (omega (arith, f.0), eqb-true _ _ (used i f.1)) in
          open_then big st i u (λ r. by_flow r (lost x) (W i)) (λ o l. inl (stands_fallen N x k m o st l)) (each i u f.1 (ap (λ l. at_seat F l k) (sym (ap slot_list t) ∙ e)))

  pub at_id : (j : ℕ) (F : ℕ → Seats → Seated) (W : ℕ → Flow → Work Answer)
      → ((i : ℕ) (u : Used x.page i) → id_at x.dir i ≡ j → F i k ≡ at_seat F (id_seat j k) k → Carries N k (F i k) (W i (st.agrees.used i u).flow) m)
      → Carries N k (at_seat F (id_seat j k) k) (at_slot x W (id_slot x j)) m
  at_id j F W each =
      at_slot_lem (by_id x.page x.dir j) (id_seat j k) F W
      (λ i t. and_left _ _ t) (λ i u t z. each i u (eqb-true _ _ (and_right _ _ t)) z)
      (search_same (by_id x.page x.dir j) (holds_id j) k.at 0 1024 (λ i lo hi. id_same st.agrees j i (omega arith)))

  pub at_key : (n : Name) (F : ℕ → List Meant → Seats → Seated) (W : ℕ → Flow → Work Answer)
      → ((i : ℕ) (u : Used x.page i) → Carries N k (F i (k.at i).flow k) (W i (st.agrees.used i u).flow) m)
      → Carries N k (flow_at F n k) (at_slot x W (key_slot x n)) m
  at_key n F W each =
      at_slot_lem (by_key x.page x.dir n) (key_seat n k) (λ (i : ℕ) (l : Seats). F i (l.at i).flow l) W
      (λ i t. and_left _ _ t) (λ i u t z. each i u)
      (search_same (by_key x.page x.dir n) (holds_key n) k.at 0 1024 (λ j lo hi. key_same st.agrees n j (omega arith)))

  -- the house's flow of a slot
  abbrev the : (i : ℕ) (u : Used x.page i) → Meant
  the i u = (st.agrees.used i u).holds.x

  phase_is : (i : ℕ) (u : Used x.page i) → (the i u).phase ≡ phase_in (st.plan i) (st.agrees.used i u).flow.place.phase
  phase_is i u = ap (λ (y : Meant). y.phase) (st.agrees.used i u).holds.is.same

  pub show_carries : (i : ℕ) (u : Used x.page i) → Carries N k (shows_flow i (k.at i).flow k) (show_flow x i (st.agrees.used i u).flow) m
  unfolding shows_flow show_flow
  show_carries i u =
      subst (λ l. Carries N k (shows_flow i l k) (show_flow x i f) m) (sym (st.agrees.used i u).holds.flow) (go (listening f.place.phase) refl)
    where
      f : Flow
      f = (st.agrees.used i u).flow

      y : Meant
      y = (st.agrees.used i u).holds.x

      still : (p : Phase) → listening p ≡ false → phase_in [] p ≡ phase_in (st.plan i) p
      still p e = quiet (st.plan i) p e

      go : (t : Bool) → listening f.place.phase ≡ t
          → Carries N k (answer (State y.phase) k) (cond t (bind (load_plan x.lines x.dir i) (λ ws. said (State (phase_in ws f.place.phase)) x)) (said (State (phase_in [] f.place.phase)) x)) m
      go true t = plan_then big st i u (λ ws. said (State (phase_in ws f.place.phase)) x) (λ o l. inl (stands_fallen N x k m o st l)) (carries_said N x k m _ (answer (State y.phase) k) st long (ap State (sym (phase_is i u))) refl)
      go false t = carries_said N x k m _ (answer (State y.phase) k) st long (ap State (still f.place.phase t ∙ sym (phase_is i u))) refl

  pub cancel_carries : Rules → (i : ℕ) (u : Used x.page i) → Carries N k (cancels_flow i (k.at i).flow k) (cancel_flow x i (st.agrees.used i u).flow) m
  unfolding cancels_flow cancel_flow cancels_one
  cancel_carries rules i u =
      subst (λ l. Carries N k (cancels_flow i l k) (cancel_flow x i f) m) (sym h.flow) (go (over_in f.place.phase) (is_over h.x.phase) (over_held f.place.phase (st.plan i) ∙ ap is_over (sym (phase_is i u))) refl)
    where
      f : Flow
      f = (st.agrees.used i u).flow

      h : Holds room (st.plan i) f (who x.dir i) (k.at i)
      h = (st.agrees.used i u).holds

      done : One
      done = record { flow = ends Failed h.x ∷ []; task = [] }

      is : is_over h.x.phase ≡ false → cancels_one (k.at i).flow (k.at i) ≡ done
      is e =
          ap (λ l. cancels_one l (k.at i)) h.flow
          ∙ ap (λ t. cond t (k.at i) (record { flow = map (ends Failed) (k.at i).flow; task = [] })) e
          ∙ ap (λ l. record { flow = map (ends Failed) l; task = [] }) h.flow

      go : (a b : Bool) → a ≡ b → is_over h.x.phase ≡ b
          → Carries N k (cond b (refuse 3 k) (answer Yes (put i done k))) (cond a (said (No 3) x) (changes x i Yes (cancelled_of f))) m
      go true true e t = carries_said N x k m (No 3) (refuse 3 k) st long refl refl
      go false false e t =
          change_carries big st i u Yes (cancelled_of f) done long
          (subst (Holds room (st.plan i) (cancelled_of f) (who x.dir i)) (is t) (cancelled_held f room (st.plan i) (who x.dir i) (k.at i) h))
          (rules.cancelled f (st.agrees.used i u).fits)
      go true false e t = let w : ◌≡◌ {A = ℕ} 0 1 = cc in absurd (omega arith)
      go false true e t = let w : ◌≡◌ {A = ℕ} 0 1 = cc in absurd (omega arith)

  pub forget_carries : (i : ℕ) (u : Used x.page i) → Carries N k (forgets_flow i (k.at i).flow k) (forget_flow x i (st.agrees.used i u).flow) m
  unfolding forgets_flow forget_flow
  forget_carries i u =
      subst (λ l. Carries N k (forgets_flow i l k) (forget_flow x i f) m) (sym h.flow) (go (over_in f.place.phase) (is_over h.x.phase) (over_held f.place.phase (st.plan i) ∙ ap is_over (sym (phase_is i u))))
    where
      f : Flow
      f = (st.agrees.used i u).flow

      h : Holds room (st.plan i) f (who x.dir i) (k.at i)
      h = (st.agrees.used i u).holds

      q : List ℕ
      q = turn_at 1 i x.page

      y : Mind
      y = flipped_to x q x.dir

      d0 : Draft N x st.image x.page x.dir st.page st.plan m
      d0 = draft_start N x st.image st.page st.plan m st.at st.shows

      inside : 1 + i / 64 < length x.page
      inside = let z = u.0 in omega (arith, d0.long)

      pick : (j : ℕ) → j < slots → pick_of q j ≡ pick_of x.page j
      pick j hj = turn_apart 1 x.page i 17 j (λ e. let z = u.0 in omega arith)

      gone : used_of q i ≡ 0
      gone = let e = turn_same 1 x.page i inside in omega (arith, u.1)

      other : (j : ℕ) → (j ≡ i → ⊥) → used_of q j ≡ used_of x.page j
      other j ne = turn_other 1 x.page i j ne inside

      was : (j : ℕ) → Used q j → Used x.page j × (pick_of q j ≡ pick_of x.page j)
      was j v = at (eqb j i) refl
        where
          at : (t : Bool) → eqb j i ≡ t → Used x.page j × (pick_of q j ≡ pick_of x.page j)
          at true t = let e : used_of q j ≡ used_of q i = ap (used_of q) (eqb-true j i t) in absurd (omega (arith, v.1, gone))
          at false t = ((v.0, sym (other j (eqb-false j i t)) ∙ v.1), pick j v.0)

      d1 : Draft N x st.image q x.dir st.page st.plan m
      d1 = record {
        image = d0.image;
        drafting = d0.drafting;
        long = turn_length 1 x.page i ∙ d0.long;
        small = turn_small 1 x.page i d0.small;
        body = body_fewer N d0.image x.page q x.dir st.page st.plan was d0.body;
      }

      slot : (j : ℕ) → Used q j → (t : Bool) → eqb j i ≡ t → Slot x.dir (cond t nobody (k.at j)) (st.page j) (st.plan j) j
      slot j v true t = let e : used_of q j ≡ used_of q i = ap (used_of q) (eqb-true j i t) in absurd (omega (arith, v.1, gone))
      slot j v false t = st.agrees.used j (was j v).0

      none : (j : ℕ) → j < slots → used_of q j ≡ 0 → (t : Bool) → eqb j i ≡ t → cond t nobody (k.at j) ≡ nobody
      none j hj z true t = refl
      none j hj z false t = st.agrees.free j hj (sym (other j (eqb-false j i t)) ∙ z)

      new : Agrees y st.page st.plan (put i nobody k)
      new = record {
        now = st.agrees.now;
        clock = st.agrees.clock;
        next = st.agrees.next ∙ sym (ap (λ v. v + 1) (turn_first 1 x.page i (omega arith)));
        long = st.agrees.long;
        used = λ j v. slot j v (eqb j i) refl;
        free = λ j hj z. none j hj z (eqb j i) refl;
      }

      ever : (n : Lines) → ((p : Lines) → Left n p → Held N x st.page st.plan p ⊎ Held N y st.page st.plan p) → Ever N k (put i nobody k) n
      ever n e p l = elim (e p l) [ inl c ↦ inl (held_fallen N x st.page st.plan k p st.agrees c) | inr c ↦ inr (held_fallen N y st.page st.plan (put i nobody k) p new c) ]

      go : (a b : Bool) → a ≡ b
          → Carries N k (cond b (answer Yes (put i nobody k)) (refuse 3 k)) (cond a (bind (flip_to x.word q) (λ z. said Yes y)) (said (No 3) x)) m
      go true true e =
          safe_bind (λ z. said Yes y) (safe_more (λ z n e c. s_end (ever n e) (refl, held_stands N y st.page st.plan (put i nobody k) n new c, long)) ever (draft_flip big d1 st.shows))
      go false false e = carries_said N x k m (No 3) (refuse 3 k) st long refl refl
      go true false e = let w : ◌≡◌ {A = ℕ} 0 1 = cc in absurd (omega arith)
      go false true e = let w : ◌≡◌ {A = ℕ} 0 1 = cc in absurd (omega arith)
