-- The work of calls, put together from what was done. Assumes nothing.
use Rattle.std.proofs.Common.{◌≡◌, ℕ, ◌-◌, Bool, true, false, cond, List, [], ◌∷◌, Some, None, Ok, Err, Option, Result, sym, refl, ap, subst}
use Rattle.plans.specs.declared.eval.Damaged.{Damaged}
use Rattle.runs.specs.declared.step.Phase.{Phase}
use Rattle.runs.specs.declared.step.Phase.TheVariants as phases
use Rattle.runs.specs.Carried.{phase_in, listening}
use Rattle.flows.specs.House.{Reply as Meant, No as noM, Yes as yesM, State as stateM}
use Rattle.pages.specs.declared.flow.Untried.{Untried}
use Rattle.pages.specs.declared.flow.Untried.TheVariants as untried
use Rattle.pages.specs.Events.{Tried, over_in, cancelled_of, handed_out, worked_on, wrong_on}
use Rattle.pages.specs.declared.flow.Flow.{Flow}
use Rattle.pages.specs.Page.{damaged, decode_of, encode_of}
use Rattle.calls.specs.declared.types.Response.TheVariants as replies
use Rattle.wire.specs.declared.Refusal.TheVariants as refusals
use Rattle.calls.specs.Replies.{Reply, reply_bytes, phase_bytes, phase_of}
use Rattle.device.specs.Lines.{Work, yields}
use Rattle.device.specs.Does.{Op, Did, d_end, bind}
use Rattle.device.proofs.Did.{did_bind}
use Rattle.store.specs.Layout.{turn_at, pick_of, Mind, flipped_to}
use Rattle.store.specs.Works.{load_page, load_plan, save_page, flip_to}
use Rattle.engine.specs.Works.{Answer, said, lost, by_slot, by_flow, open_work, shut_work, shut_mind, changes, at_flow, at_slot, room, by_tried, show_flow, forget_flow, cancel_flow, report_plan}
use Rattle.engine.specs.Done.{refusal_of, bytes_out, Done}

-- no more goes out of a phase than its number and its value
phase_out : (ws : List ℕ) (p : Phase) → phase_bytes (phase_in ws p) ≡ phase_bytes (phase_of p)
unfolding phase_in
phase_out ws phases.Busy = refl
phase_out ws (phases.Tasked s) = refl
phase_out ws (phases.Asleep u) = refl
phase_out ws (phases.Listens v w n u) = refl
phase_out ws (phases.Ended v) = refl
phase_out ws phases.Failed = refl

module _ {S : Type 0} (step : S → Op → S → Type 0) (x : Mind) where
  pub open_did : (i : ℕ) (ws : List ℕ) (r : Result Flow Damaged) {s t : S} → Did step (load_page x.lines x.page x.dir i) s ws t → r ≡ decode_of ws → Did step (open_work x i) s r t
  unfolding open_work
  open_did i ws r {s} {t} d e = subst (λ v. Did step (bind (load_page x.lines x.page x.dir i) (λ ws. yields (decode_of ws))) s v t) (sym e) (did_bind (λ ws. yields (decode_of ws)) d d_end)

  pub shut_did : (i c : ℕ) (ws q : List ℕ) (f : Flow) {s t u : S} → c ≡ 1 - pick_of x.page i → ws ≡ encode_of f → q ≡ turn_at 17 i x.page
      → Did step (save_page x.lines x.dir i c ws) s tt t → Did step (flip_to x.word q) t tt u → Did step (shut_work x i f) s tt u
  unfolding shut_work
  shut_did i c ws q f {s} {t} {u} ec ew eq d e =
      did_bind (λ z. flip_to x.word (turn_at 17 i x.page))
      (subst (λ v. Did step (save_page x.lines x.dir i (1 - pick_of x.page i) v) s tt t) ew (subst (λ v. Did step (save_page x.lines x.dir i v ws) s tt t) ec d))
      (subst (λ v. Did step (flip_to x.word v) t tt u) eq e)

  -- an answer that does nothing more
  pub says_did : (m : Meant) (r : Result Reply Damaged) {s : S} → reply_bytes m ≡ bytes_out r → Done step (said m x) s r x s
  says_did m r e = record { meant = m; did = d_end; says = e }

  pub change_done : (i : ℕ) (m : Meant) (r : Result Reply Damaged) (f : Flow) {s t : S} → reply_bytes m ≡ bytes_out r → Did step (shut_work x i f) s tt t → Done step (changes x i m f) s r (shut_mind x i) t
  unfolding changes
  change_done i m r f e d = record { meant = m; did = did_bind (λ z. said m (shut_mind x i)) d d_end; says = e }

  -- a slot that was looked for, and its flow
  pub at_none : (W : ℕ → Flow → Work Answer) (o : Option ℕ) {s : S} → None ≡ o → Done step (at_slot x W o) s (Ok (replies.No refusals.NotFound)) x s
  unfolding at_slot by_slot
  at_none W o {s} e = subst (λ o. Done step (by_slot o (said (noM 2) x) (at_flow x W)) s (Ok (replies.No refusals.NotFound)) x s) e (says_did (noM 2) (Ok (replies.No refusals.NotFound)) refl)

  pub flow_lost : (W : ℕ → Flow → Work Answer) (i : ℕ) (d : Damaged) {s t : S} → Did step (open_work x i) s (Err d) t → Done step (at_flow x W i) s damaged x t
  unfolding at_flow by_flow
  flow_lost W i d e = record { meant = noM 0; did = did_bind (λ r. by_flow r (lost x) (W i)) e d_end; says = refl }

  pub flow_done : (W : ℕ → Flow → Work Answer) (i : ℕ) (f : Flow) (r : Result Reply Damaged) (y : Mind) {s t u : S} → Did step (open_work x i) s (Ok f) t → Done step (W i f) t r y u → Done step (at_flow x W i) s r y u
  unfolding at_flow by_flow
  flow_done W i f r y e d = record { meant = d.meant; did = did_bind (λ r. by_flow r (lost x) (W i)) e d.did; says = d.says }

  pub at_some : (W : ℕ → Flow → Work Answer) (i : ℕ) (o : Option ℕ) (r : Result Reply Damaged) (y : Mind) {s t : S} → Some i ≡ o → Done step (at_flow x W i) s r y t → Done step (at_slot x W o) s r y t
  unfolding at_slot by_slot
  at_some W i o r y {s} {t} e d = subst (λ o. Done step (by_slot o (said (noM 2) x) (at_flow x W)) s r y t) e d

  pub show_quiet : (i : ℕ) (f : Flow) {s : S} → listening f.place.phase ≡ false → Done step (show_flow x i f) s (Ok (replies.State f.place.phase)) x s
  unfolding show_flow
  show_quiet i f {s} e =
      subst (λ t. Done step (cond t (bind (load_plan x.lines x.dir i) (λ ws. said (stateM (phase_in ws f.place.phase)) x)) (said (stateM (phase_in [] f.place.phase)) x)) s (Ok (replies.State f.place.phase)) x s) (sym e)
      (says_did (stateM (phase_in [] f.place.phase)) (Ok (replies.State f.place.phase)) (ap (λ bs. 5 ∷ bs) (phase_out [] f.place.phase)))

  pub show_loud : (i : ℕ) (f : Flow) (ws : List ℕ) {s t : S} → listening f.place.phase ≡ true → Did step (load_plan x.lines x.dir i) s ws t → Done step (show_flow x i f) s (Ok (replies.State f.place.phase)) x t
  unfolding show_flow
  show_loud i f ws {s} {t} e d =
      subst (λ v. Done step (cond v (bind (load_plan x.lines x.dir i) (λ ws. said (stateM (phase_in ws f.place.phase)) x)) (said (stateM (phase_in [] f.place.phase)) x)) s (Ok (replies.State f.place.phase)) x t) (sym e)
      (record { meant = stateM (phase_in ws f.place.phase); did = did_bind (λ ws. said (stateM (phase_in ws f.place.phase)) x) d d_end; says = ap (λ bs. 5 ∷ bs) (phase_out ws f.place.phase) })

  pub forget_not : (i : ℕ) (f : Flow) {s : S} → over_in f.place.phase ≡ false → Done step (forget_flow x i f) s (Ok (replies.No refusals.WrongPhase)) x s
  unfolding forget_flow
  forget_not i f {s} e =
      subst (λ v. Done step (cond v (bind (flip_to x.word (turn_at 1 i x.page)) (λ z. said yesM (flipped_to x (turn_at 1 i x.page) x.dir))) (said (noM 3) x)) s (Ok (replies.No refusals.WrongPhase)) x s) (sym e) (says_did (noM 3) (Ok (replies.No refusals.WrongPhase)) refl)

  pub forget_done : (i : ℕ) (f : Flow) (q : List ℕ) {s t : S} → over_in f.place.phase ≡ true → q ≡ turn_at 1 i x.page → Did step (flip_to x.word q) s tt t → Done step (forget_flow x i f) s (Ok replies.Yes) (flipped_to x q x.dir) t
  unfolding forget_flow
  forget_done i f q {s} {t} e eq d =
      subst (λ v. Done step (cond v (bind (flip_to x.word (turn_at 1 i x.page)) (λ z. said yesM (flipped_to x (turn_at 1 i x.page) x.dir))) (said (noM 3) x)) s (Ok replies.Yes) (flipped_to x q x.dir) t) (sym e)
      (subst (λ v. Done step (bind (flip_to x.word v) (λ z. said yesM (flipped_to x v x.dir))) s (Ok replies.Yes) (flipped_to x q x.dir) t) eq
      (record { meant = yesM; did = did_bind (λ z. said yesM (flipped_to x q x.dir)) d d_end; says = refl }))

  pub cancel_not : (i : ℕ) (f : Flow) {s : S} → over_in f.place.phase ≡ true → Done step (cancel_flow x i f) s (Ok (replies.No refusals.WrongPhase)) x s
  unfolding cancel_flow
  cancel_not i f {s} e = subst (λ v. Done step (cond v (said (noM 3) x) (changes x i yesM (cancelled_of f))) s (Ok (replies.No refusals.WrongPhase)) x s) (sym e) (says_did (noM 3) (Ok (replies.No refusals.WrongPhase)) refl)

  pub cancel_done : (i : ℕ) (f g : Flow) {s t : S} → over_in f.place.phase ≡ false → g ≡ cancelled_of f → Did step (shut_work x i g) s tt t → Done step (cancel_flow x i f) s (Ok replies.Yes) (shut_mind x i) t
  unfolding cancel_flow
  cancel_done i f g {s} {t} e eg d =
      subst (λ v. Done step (cond v (said (noM 3) x) (changes x i yesM (cancelled_of f))) s (Ok replies.Yes) (shut_mind x i) t) (sym e)
      (subst (λ v. Done step (changes x i yesM v) s (Ok replies.Yes) (shut_mind x i) t) eg (change_done i yesM (Ok replies.Yes) g refl d))

  -- by a try
  pub try_none : (w z : Work Answer) (r : Tried) {s : S} → Err untried.NoTask ≡ r → Done step (by_tried r (said (noM 2) x) w z) s (Ok (replies.No refusals.NotFound)) x s
  unfolding by_tried
  try_none w z r {s} e = subst (λ r. Done step (by_tried r (said (noM 2) x) w z) s (Ok (replies.No refusals.NotFound)) x s) e (says_did (noM 2) (Ok (replies.No refusals.NotFound)) refl)

  pub try_not : (w z : Work Answer) (r : Tried) {s : S} → Err untried.NotOut ≡ r → Done step (by_tried r w (said (noM 5) x) z) s (Ok (replies.No refusals.NotOut)) x s
  unfolding by_tried
  try_not w z r {s} e = subst (λ r. Done step (by_tried r w (said (noM 5) x) z) s (Ok (replies.No refusals.NotOut)) x s) e (says_did (noM 5) (Ok (replies.No refusals.NotOut)) refl)

  pub try_err : (z : Work Answer) (r : Tried) (why : Untried) {s : S} → Err why ≡ r → Done step (by_tried r (said (noM 2) x) (said (noM 5) x) z) s (Ok (replies.No (refusal_of why))) x s
  try_err z r untried.NoTask e = try_none (said (noM 5) x) z r e
  try_err z r untried.NotOut e = try_not (said (noM 2) x) z r e

  pub try_out : (v w z : Work Answer) (r : Tried) (p : Result Reply Damaged) (y : Mind) {s t : S} → Ok tt ≡ r → Done step z s p y t → Done step (by_tried r v w z) s p y t
  unfolding by_tried
  try_out v w z r p y {s} {t} e d = subst (λ r. Done step (by_tried r v w z) s p y t) e d

  pub longer_did : (i u : ℕ) (f g : Flow) {s t : S} → g ≡ handed_out u f → Did step (shut_work x i g) s tt t → Done step (changes x i yesM (handed_out u f)) s (Ok replies.Yes) (shut_mind x i) t
  longer_did i u f g {s} {t} e d = subst (λ v. Done step (changes x i yesM v) s (Ok replies.Yes) (shut_mind x i) t) e (change_done i yesM (Ok replies.Yes) g refl d)

  -- a report goes by the plan
  pub report_lost : (well : Bool) (v i : ℕ) (f : Flow) (ws : List ℕ) (d : Damaged) {s t : S} → Err d ≡ cond well (worked_on room ws x.now v f) (wrong_on room ws x.now f)
      → Did step (load_plan x.lines x.dir i) s ws t → Done step (bind (load_plan x.lines x.dir i) (report_plan well v x i f)) s damaged x t
  unfolding report_plan by_flow
  report_lost well v i f ws d {s} {t} e l = record {
    meant = noM 0;
    did = did_bind (report_plan well v x i f) l (subst (λ r. Did step (by_flow r (lost x) (changes x i yesM)) t (record { reply = noM 0; mind = x }) t) e d_end);
    says = refl;
  }

  pub report_did : (well : Bool) (v i : ℕ) (f g : Flow) (ws : List ℕ) {s t u : S} → Ok g ≡ cond well (worked_on room ws x.now v f) (wrong_on room ws x.now f)
      → Did step (load_plan x.lines x.dir i) s ws t → Did step (shut_work x i g) t tt u → Done step (bind (load_plan x.lines x.dir i) (report_plan well v x i f)) s (Ok replies.Yes) (shut_mind x i) u
  unfolding report_plan by_flow
  report_did well v i f g ws {s} {t} {u} e l d =
      let c = change_done i yesM (Ok replies.Yes) g refl d in
      record {
        meant = c.meant;
        did = did_bind (report_plan well v x i f) l (subst (λ r. Did step (by_flow r (lost x) (changes x i yesM)) t (record { reply = c.meant; mind = shut_mind x i }) u) e c.did);
        says = c.says;
      }
