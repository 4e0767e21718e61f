-- The work of a telling of the time, put together from what was done. Assumes nothing.
use Rattle.std.proofs.Common.{◌≡◌, ℕ, ◌-◌, true, false, cond, eqb, List, Some, None, Ok, Err, Option, Result, sym, refl, subst}
use Rattle.std.specs.Option.{unwrap_or}
use Rattle.plans.specs.declared.eval.Damaged.{Damaged}
use Rattle.flows.specs.House.{No as noM, Yes as yesM}
use Rattle.pages.specs.declared.flow.Flow.{Flow}
use Rattle.pages.specs.Page.{damaged, encode_of}
use Rattle.pages.specs.Events.{ticked_on, stirring}
use Rattle.calls.specs.declared.types.Response.TheVariants as replies
use Rattle.device.specs.Lines.{yields}
use Rattle.device.specs.Does.{Op, Did, d_end, bind, loop_from}
use Rattle.device.proofs.Did.{did_bind}
use Rattle.store.specs.Layout.{used_of, pick_of, Mind, flipped_to, at_time}
use Rattle.store.specs.Works.{load_plan, save_page, flip_to}
use Rattle.engine.specs.Works.{room, said, by_flow, open_work, Changed, root_of, turned, tick_save, tick_plan, tick_flow, tick_turn, tick_end, tick_work}
use Rattle.engine.specs.Done.{Done}

-- the root page as it is to be, or as it is
pub root_is : (x : Mind) (o : Option (List ℕ)) → unwrap_or o x.page ≡ root_of x o
root_is x None = refl
root_is x (Some q) = refl

module _ {S : Type 0} (step : S → Op → S → Type 0) (x : Mind) where
  pub save_did : (i c : ℕ) (a b : Changed) (f : Flow) (ws : List ℕ) {s t : S} → c ≡ 1 - pick_of x.page i → ws ≡ encode_of f → b ≡ turned x i a → Did step (save_page x.lines x.dir i c ws) s tt t
      → Did step (tick_save x i a f) s b t
  unfolding tick_save
  save_did i c a b f ws {s} {t} ec ew eb d =
      subst (λ v. Did step (bind (save_page x.lines x.dir i (1 - pick_of x.page i) (encode_of f)) (λ z. yields (turned x i a))) s v t) (sym eb)
      (did_bind (λ z. yields (turned x i a))
      (subst (λ v. Did step (save_page x.lines x.dir i (1 - pick_of x.page i) v) s tt t) ew (subst (λ v. Did step (save_page x.lines x.dir i v ws) s tt t) ec d)) d_end)

  pub plan_lost : (now i : ℕ) (a : Changed) (f : Flow) (ws : List ℕ) (d : Damaged) {s t : S} → Err d ≡ ticked_on room ws now f → Did step (load_plan x.lines x.dir i) s ws t
      → Did step (bind (load_plan x.lines x.dir i) (tick_plan now x i a f)) s damaged t
  unfolding tick_plan by_flow
  plan_lost now i a f ws d {s} {t} e l = did_bind (tick_plan now x i a f) l (subst (λ r. Did step (by_flow r (yields damaged) (tick_save x i a)) t damaged t) e d_end)

  pub plan_did : (now i : ℕ) (a b : Changed) (f g : Flow) (ws : List ℕ) {s t u : S} → Ok g ≡ ticked_on room ws now f → Did step (load_plan x.lines x.dir i) s ws t → Did step (tick_save x i a g) t b u
      → Did step (bind (load_plan x.lines x.dir i) (tick_plan now x i a f)) s b u
  unfolding tick_plan by_flow
  plan_did now i a b f g ws {s} {t} {u} e l d = did_bind (tick_plan now x i a f) l (subst (λ r. Did step (by_flow r (yields damaged) (tick_save x i a)) t b u) e d)

  pub flow_still : (now i : ℕ) (a : Changed) (f : Flow) {s : S} → stirring now f ≡ false → Did step (tick_flow now x i a f) s a s
  unfolding tick_flow
  flow_still now i a f {s} e = subst (λ v. Did step (cond v (bind (load_plan x.lines x.dir i) (tick_plan now x i a f)) (yields a)) s a s) (sym e) d_end

  pub flow_stirs : (now i : ℕ) (a b : Changed) (f : Flow) {s t : S} → stirring now f ≡ true → Did step (bind (load_plan x.lines x.dir i) (tick_plan now x i a f)) s b t → Did step (tick_flow now x i a f) s b t
  unfolding tick_flow
  flow_stirs now i a b f {s} {t} e d = subst (λ v. Did step (cond v (bind (load_plan x.lines x.dir i) (tick_plan now x i a f)) (yields a)) s b t) (sym e) d

  pub turn_unused : (now i : ℕ) (a : Changed) {s : S} → eqb (used_of x.page i) 1 ≡ false → Did step (tick_turn now x i a) s a s
  unfolding tick_turn
  turn_unused now i a {s} e = subst (λ v. Did step (cond v (bind (open_work x i) (λ r. by_flow r (yields damaged) (tick_flow now x i a))) (yields a)) s a s) (sym e) d_end

  pub turn_used : (now i : ℕ) (a b : Changed) (r : Result Flow Damaged) {s t u : S} → eqb (used_of x.page i) 1 ≡ true → Did step (open_work x i) s r t → Did step (by_flow r (yields damaged) (tick_flow now x i a)) t b u
      → Did step (tick_turn now x i a) s b u
  unfolding tick_turn
  turn_used now i a b r {s} {t} {u} e d c =
      subst (λ v. Did step (cond v (bind (open_work x i) (λ r. by_flow r (yields damaged) (tick_flow now x i a))) (yields a)) s b u) (sym e) (did_bind (λ r. by_flow r (yields damaged) (tick_flow now x i a)) d c)

  pub tick_lost : (now : ℕ) (d : Damaged) {s t : S} → Did step (loop_from (tick_turn now x) 0 1024 (Ok None)) s (Err d) t → Done step (tick_work now x) s damaged x t
  unfolding tick_work tick_end
  tick_lost now d l = record { meant = noM 0; did = did_bind (tick_end now x) l d_end; says = refl }

  pub tick_none : (now : ℕ) {s t : S} → Did step (loop_from (tick_turn now x) 0 1024 (Ok None)) s (Ok None) t → Done step (tick_work now x) s (Ok replies.Yes) (at_time now x) t
  unfolding tick_work tick_end
  tick_none now l = record { meant = yesM; did = did_bind (tick_end now x) l d_end; says = refl }

  pub tick_some : (now : ℕ) (q : List ℕ) {s t u : S} → Did step (loop_from (tick_turn now x) 0 1024 (Ok None)) s (Ok (Some q)) t
      → Did step (flip_to x.word q) t tt u → Done step (tick_work now x) s (Ok replies.Yes) (at_time now (flipped_to x q x.dir)) u
  unfolding tick_work tick_end
  tick_some now q l c = record { meant = yesM; did = did_bind (tick_end now x) l (did_bind (λ z. said yesM (at_time now (flipped_to x q x.dir))) c d_end); says = refl }
