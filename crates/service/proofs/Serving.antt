-- What a call does, from what its work did. Assumes nothing.
use Rattle.std.proofs.Common.{◌≡◌, ℕ, ◌<◌, ◌≤◌, true, false, cond, not, List, [], ◌∷◌, Ok, Result, sym, refl, subst}
use Rattle.plans.specs.Plan.{Name, name_ok}
use Rattle.flows.specs.House.{Show, No as noM}
use Rattle.calls.specs.Replies.{Reply}
use Rattle.calls.specs.declared.types.Response.TheVariants.{No}
use Rattle.wire.specs.declared.Refusal.TheVariants.{BadCall}
use Rattle.plans.specs.declared.eval.Damaged.{Damaged}
use Rattle.device.specs.Lines.{Work}
use Rattle.device.specs.Does.{Op}
use Rattle.store.specs.Layout.{Mind}
use Rattle.engine.specs.declared.held.Held.{Held}
use Rattle.engine.specs.Works.{Answer, said, acts, at_slot, key_slot, show_flow}
use Rattle.engine.specs.Done.{mind_of, Done}
use Rattle.engine.proofs.Doing.{says_did}
use Rattle.service.specs.Answers.{acts_on, Served}

module _ {S : Type 0} (step : S → Op → S → Type 0) (size : S → ℕ) (s : S) (h : Held) (d : List ℕ) where
  abbrev pub mind : Mind
  mind = mind_of (size s) h d

  -- a memory that keeps its size, and a time held that stays early
  served : (w : Mind → Work Answer) (r : Result Reply Damaged) (t : S) (k : Held) (e : List ℕ) → size t ≡ size s → (h.time < 4611686018427387904 → k.time < 4611686018427387904) → (h.time ≤ 4611686018427387904 → k.time ≤ 4611686018427387904)
      → Done step (w mind) s r (mind_of (size s) k e) t → Served step size w s h d r t k e
  served w r t k e z a b done = record {
    done = done;
    stays = z;
    early = a;
    clock = b;
  }

  pub show_bad : (n : Name) → name_ok n ≡ false → Served step size (acts_on (Show n ∷ [])) s h d (Ok (No BadCall)) s h d
  unfolding acts_on acts
  show_bad n b = served (acts_on (Show n ∷ [])) (Ok (No BadCall)) s h d refl (λ l. l) (λ l. l)
      (subst (λ t. Done step (cond (not t) (said (noM 1) mind) (at_slot mind (show_flow mind) (key_slot mind n))) s (Ok (No BadCall)) mind s) (sym b) (says_did step mind (noM 1) (Ok (No BadCall)) refl))

  pub show_good : (n : Name) (r : Result Reply Damaged) (t : S) → name_ok n ≡ true → size t ≡ size s → Done step (at_slot mind (show_flow mind) (key_slot mind n)) s r mind t → Served step size (acts_on (Show n ∷ [])) s h d r t h d
  unfolding acts_on acts
  show_good n r t b z done = served (acts_on (Show n ∷ [])) r t h d z (λ l. l) (λ l. l)
      (subst (λ t'. Done step (cond (not t') (said (noM 1) mind) (at_slot mind (show_flow mind) (key_slot mind n))) s r mind t) (sym b) done)
