-- The work of taking, put together from what was done. Assumes nothing.
use Rattle.std.proofs.Common.{◌≡◌, ℕ, ◌+◌, true, false, cond, eqb, List, [], Some, None, Ok, Err, Option, Result, sym, refl, subst}
use Rattle.plans.specs.declared.eval.Damaged.{Damaged}
use Rattle.flows.specs.House.{No as noM, Nothing as nothingM}
use Rattle.pages.specs.declared.flow.Flow.{Flow}
use Rattle.pages.specs.declared.flow.Task.{Task}
use Rattle.pages.specs.Page.{damaged}
use Rattle.pages.specs.Events.{handed_out}
use Rattle.calls.specs.declared.types.Response.TheVariants as replies
use Rattle.calls.specs.Replies.{Reply, reply_bytes}
use Rattle.device.specs.Lines.{yields}
use Rattle.device.specs.Does.{Op, Did, d_end, bind, loop_from}
use Rattle.device.proofs.Did.{did_bind}
use Rattle.store.specs.Layout.{used_of, Mind}
use Rattle.engine.specs.declared.take.Best.{Best}
use Rattle.engine.specs.Works.{lost, by_flow, by_task, by_best, open_work, shut_work, shut_mind, changes, at_flow, Looking, if_good, look_flow, look_turn, job_of, hand_flow, take_end, take_work}
use Rattle.engine.specs.Done.{bytes_out, Done}
use Rattle.engine.proofs.Doing.{says_did, change_done}

-- a look at a flow goes by the time and the directory alone
pub look_same : (ks : List ℕ) (x : Mind) (i : ℕ) (a : Option Best) (f : Flow) → look_flow ks (record { lines = 0; now = x.now; word = 0; page = []; dir = x.dir }) i a f ≡ look_flow ks x i a f
unfolding look_flow
look_same ks x i a f = refl

module _ {S : Type 0} (step : S → Op → S → Type 0) (x : Mind) where
  pub look_unused : (ks : List ℕ) (i : ℕ) (a : Looking) {s : S} → eqb (used_of x.page i) 1 ≡ false → Did step (look_turn ks x i a) s a s
  unfolding look_turn
  look_unused ks i a {s} e = subst (λ t. Did step (cond t (bind (open_work x i) (λ r. yields (by_flow r damaged (λ f. if_good a (λ b. look_flow ks x i b f))))) (yields a)) s a s) (sym e) d_end

  pub look_used : (ks : List ℕ) (i : ℕ) (a b : Looking) (r : Result Flow Damaged) {s t : S} → eqb (used_of x.page i) 1 ≡ true → Did step (open_work x i) s r t
      → b ≡ by_flow r damaged (λ f. if_good a (λ b. look_flow ks x i b f)) → Did step (look_turn ks x i a) s b t
  unfolding look_turn
  look_used ks i a b r {s} {t} e d eb =
      subst (λ v. Did step (cond v (bind (open_work x i) (λ r. yields (by_flow r damaged (λ f. if_good a (λ b. look_flow ks x i b f))))) (yields a)) s b t) (sym e)
      (subst (λ v. Did step (bind (open_work x i) (λ r. yields (by_flow r damaged (λ f. if_good a (λ b. look_flow ks x i b f))))) s v t) (sym eb) (did_bind (λ r. yields (by_flow r damaged (λ f. if_good a (λ b. look_flow ks x i b f)))) d d_end))

  pub hand_none : (ms i : ℕ) (f : Flow) {s : S} → f.task ≡ None → Done step (hand_flow ms x i f) s damaged x s
  unfolding hand_flow by_task
  hand_none ms i f {s} e = subst (λ o. Done step (by_task o (lost x) (λ u. changes x i (job_of x i f u) (handed_out (x.now + ms) f))) s damaged x s) (sym e) (says_did step x (noM 0) damaged refl)

  pub hand_some : (ms i : ℕ) (f g : Flow) (u : Task) (r : Result Reply Damaged) (y : Mind) {s t : S} → f.task ≡ Some u → g ≡ handed_out (x.now + ms) f → reply_bytes (job_of x i f u) ≡ bytes_out r → shut_mind x i ≡ y → Did step (shut_work x i g) s tt t
      → Done step (hand_flow ms x i f) s r y t
  unfolding hand_flow by_task
  hand_some ms i f g u r y {s} {t} e eg er ey d =
      subst (λ y. Done step (by_task f.task (lost x) (λ u. changes x i (job_of x i f u) (handed_out (x.now + ms) f))) s r y t) ey
      (subst (λ o. Done step (by_task o (lost x) (λ u. changes x i (job_of x i f u) (handed_out (x.now + ms) f))) s r (shut_mind x i) t) (sym e)
      (subst (λ v. Done step (changes x i (job_of x i f u) v) s r (shut_mind x i) t) eg (change_done step x i (job_of x i f u) r g er d)))

  pub take_done : (ks : List ℕ) (ms : ℕ) (a : Looking) (r : Result Reply Damaged) (y : Mind) {s t u : S} → Did step (loop_from (look_turn ks x) 0 1024 (Ok None)) s a t
      → Done step (take_end ms x a) t r y u → Done step (take_work ks ms x) s r y u
  unfolding take_work
  take_done ks ms a r y d e = record { meant = e.meant; did = did_bind (take_end ms x) d e.did; says = e.says }

  pub end_lost : (ms : ℕ) (e : Damaged) {s : S} → Done step (take_end ms x (Err e)) s damaged x s
  unfolding take_end
  end_lost ms e = says_did step x (noM 0) damaged refl

  pub end_nothing : (ms : ℕ) {s : S} → Done step (take_end ms x (Ok None)) s (Ok replies.Nothing) x s
  unfolding take_end by_best
  end_nothing ms = says_did step x nothingM (Ok replies.Nothing) refl

  pub end_hand : (ms : ℕ) (b : Best) (r : Result Reply Damaged) (y : Mind) {s t : S} → Done step (at_flow x (hand_flow ms x) b.slot) s r y t → Done step (take_end ms x (Ok (Some b))) s r y t
  unfolding take_end by_best
  end_hand ms b r y d = d
