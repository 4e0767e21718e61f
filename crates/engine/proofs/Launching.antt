-- The work of starting, put together from what was done. Assumes nothing.
use Rattle.std.proofs.Common.{◌≡◌, ℕ, ◌+◌, ◌*◌, true, false, cond, ltb, leb, List, Some, None, Ok, Err, Option, Result, sym, refl, subst}
use Rattle.plans.specs.declared.eval.Damaged.{Damaged}
use Rattle.plans.specs.Plan.{Name}
use Rattle.flows.specs.House.{No as noM, Flow' as flowM, Full' as fullM}
use Rattle.pages.specs.declared.flow.Flow.{Flow}
use Rattle.pages.specs.Page.{damaged, encode_of}
use Rattle.pages.specs.Events.{begun}
use Rattle.calls.specs.declared.types.Response.TheVariants as replies
use Rattle.wire.specs.declared.Refusal.TheVariants as refusals
use Rattle.calls.specs.Replies.{Reply, reply_bytes}
use Rattle.device.specs.Does.{Op, Did, d_end, bind}
use Rattle.device.proofs.Did.{did_bind}
use Rattle.store.specs.Layout.{next_of, pick_of, turn_at, id_at, blocks_for, Mind, flipped_to}
use Rattle.store.specs.Works.{save_page, save_entry, save_plan, flip_to}
use Rattle.store.specs.Finds.{first_slot, is_free, weight_over}
use Rattle.store.specs.Room.{marked, chosen, looked_at}
use Rattle.store.specs.Entry.{entry_of, put_entry, bumped}
use Rattle.engine.specs.Works.{said, lost, room, by_slot, by_flow, by_blocks, key_slot, born_work, start_blocks, start_free, start_work}
use Rattle.engine.specs.Done.{bytes_out, Done}
use Rattle.engine.proofs.Doing.{says_did}

module _ {S : Type 0} (step : S → Op → S → Type 0) (x : Mind) where
  pub born_done : (i c : ℕ) (es d q ws pg : List ℕ) (f : Flow) (r : Result Reply Damaged) {s a b u v : S} → c ≡ pick_of x.page i → pg ≡ encode_of f → reply_bytes (flowM (next_of x.page)) ≡ bytes_out r
      → Did step (save_entry i es) s tt a → Did step (save_plan x.lines d i ws) a tt b → Did step (save_page x.lines d i c pg) b tt u → Did step (flip_to x.word q) u tt v
      → Done step (born_work x i es d q ws f) s r (flipped_to x q d) v
  unfolding born_work
  born_done i c es d q ws pg f r {s} {a} {b} {u} {v} ec ep er d1 d2 d3 d4 = record {
    meant = flowM (next_of x.page);
    did = did_bind (λ z. bind (flip_to x.word q) (λ y. said (flowM (next_of x.page)) (flipped_to x q d)))
        (did_bind (λ z. bind (save_plan x.lines d i ws) (λ y. save_page x.lines d i (pick_of x.page i) (encode_of f))) d1
        (did_bind (λ y. save_page x.lines d i (pick_of x.page i) (encode_of f)) d2
        (subst (λ p. Did step (save_page x.lines d i (pick_of x.page i) p) b tt u) ep (subst (λ k. Did step (save_page x.lines d i k pg) b tt u) ec d3))))
        (did_bind (λ y. said (flowM (next_of x.page)) (flipped_to x q d)) d4 d_end);
    says = er;
  }

  pub born_all : (i c : ℕ) (es fs d q ws pg : List ℕ) (f : Flow) (r : Result Reply Damaged) (y : Mind) {s a b u v : S} → c ≡ pick_of x.page i → pg ≡ encode_of f → reply_bytes (flowM (next_of x.page)) ≡ bytes_out r
      → es ≡ fs → d ≡ put_entry i es x.dir → y ≡ flipped_to x q d
      → Did step (save_entry i es) s tt a → Did step (save_plan x.lines d i ws) a tt b → Did step (save_page x.lines d i c pg) b tt u → Did step (flip_to x.word q) u tt v
      → Done step (born_work x i fs (put_entry i fs x.dir) q ws f) s r y v
  born_all i c es fs d q ws pg f r y {s} {a} {b} {u} {v} ec ep er ee ed ey d1 d2 d3 d4 =
      subst (λ e. Done step (born_work x i e (put_entry i e x.dir) q ws f) s r y v) ee
      (subst (λ w. Done step (born_work x i es w q ws f) s r y v) ed
      (subst (λ z. Done step (born_work x i es d q ws f) s r z v) (sym ey) (born_done i c es d q ws pg f r ec ep er d1 d2 d3 d4)))

  module _ (n : Name) (size : ℕ) (ws xs : List ℕ) where
    pub blocks_lost : (i : ℕ) (bs : List ℕ) (e : Damaged) {s : S} → Err e ≡ begun room ws xs x.now → Done step (start_blocks n size ws xs x i bs) s damaged x s
    unfolding start_blocks by_flow
    blocks_lost i bs e {s} h =
        subst (λ r. Done step (by_flow r (lost x) (born_work x i (entry_of (next_of x.page) size n bs) (put_entry i (entry_of (next_of x.page) size n bs) x.dir) (bumped (turn_at 1 i x.page)) ws)) s damaged x s) h
        (says_did step x (noM 0) damaged refl)

    pub blocks_done : (i : ℕ) (bs : List ℕ) (f : Flow) (r : Result Reply Damaged) (y : Mind) {s t : S} → Ok f ≡ begun room ws xs x.now
        → Done step (born_work x i (entry_of (next_of x.page) size n bs) (put_entry i (entry_of (next_of x.page) size n bs) x.dir) (bumped (turn_at 1 i x.page)) ws f) s r y t
        → Done step (start_blocks n size ws xs x i bs) s r y t
    unfolding start_blocks by_flow
    blocks_done i bs f r y {s} {t} h d =
        subst (λ v. Done step (by_flow v (lost x) (born_work x i (entry_of (next_of x.page) size n bs) (put_entry i (entry_of (next_of x.page) size n bs) x.dir) (bumped (turn_at 1 i x.page)) ws)) s r y t) h d

    pub free_spent : (i : ℕ) {s : S} → (leb 4611686018427387904 (next_of x.page)) ≡ true → Done step (start_free n size ws xs x i) s (Ok (replies.No refusals.NoMore)) x s
    unfolding start_free
    free_spent i {s} e = subst (λ v. Done step (cond v (said (noM 8) x) (cond (ltb (64 * x.lines) (1048576 + 2 * (weight_over x.page x.dir 0 1024 + (16384 + 16 * size)))) (said fullM x) (by_blocks (chosen (blocks_for size) (marked x.page x.dir (looked_at x.lines))) (lost x) (start_blocks n size ws xs x i)))) s (Ok (replies.No refusals.NoMore)) x s) (sym e) (says_did step x (noM 8) (Ok (replies.No refusals.NoMore)) refl)

    pub free_tight : (i : ℕ) {s : S} → (leb 4611686018427387904 (next_of x.page)) ≡ false → (ltb (64 * x.lines) (1048576 + 2 * (weight_over x.page x.dir 0 1024 + (16384 + 16 * size)))) ≡ true → Done step (start_free n size ws xs x i) s (Ok replies.Full) x s
    unfolding start_free
    free_tight i {s} e f =
        subst (λ v. Done step (cond v (said (noM 8) x) (cond (ltb (64 * x.lines) (1048576 + 2 * (weight_over x.page x.dir 0 1024 + (16384 + 16 * size)))) (said fullM x) (by_blocks (chosen (blocks_for size) (marked x.page x.dir (looked_at x.lines))) (lost x) (start_blocks n size ws xs x i)))) s (Ok replies.Full) x s) (sym e)
        (subst (λ v. Done step (cond v (said fullM x) (by_blocks (chosen (blocks_for size) (marked x.page x.dir (looked_at x.lines))) (lost x) (start_blocks n size ws xs x i))) s (Ok replies.Full) x s) (sym f) (says_did step x fullM (Ok replies.Full) refl))

    pub free_done : (i : ℕ) (o : Option (List ℕ)) (r : Result Reply Damaged) (y : Mind) {s t : S} → (leb 4611686018427387904 (next_of x.page)) ≡ false → (ltb (64 * x.lines) (1048576 + 2 * (weight_over x.page x.dir 0 1024 + (16384 + 16 * size)))) ≡ false → o ≡ (chosen (blocks_for size) (marked x.page x.dir (looked_at x.lines)))
        → Done step (by_blocks o (lost x) (start_blocks n size ws xs x i)) s r y t → Done step (start_free n size ws xs x i) s r y t
    unfolding start_free
    free_done i o r y {s} {t} e f h d =
        subst (λ v. Done step (cond v (said (noM 8) x) (cond (ltb (64 * x.lines) (1048576 + 2 * (weight_over x.page x.dir 0 1024 + (16384 + 16 * size)))) (said fullM x) (by_blocks (chosen (blocks_for size) (marked x.page x.dir (looked_at x.lines))) (lost x) (start_blocks n size ws xs x i)))) s r y t) (sym e)
        (subst (λ v. Done step (cond v (said fullM x) (by_blocks (chosen (blocks_for size) (marked x.page x.dir (looked_at x.lines))) (lost x) (start_blocks n size ws xs x i))) s r y t) (sym f)
        (subst (λ v. Done step (by_blocks v (lost x) (start_blocks n size ws xs x i)) s r y t) h d))

    pub no_blocks : (i : ℕ) {s : S} → Done step (by_blocks None (lost x) (start_blocks n size ws xs x i)) s damaged x s
    unfolding by_blocks
    no_blocks i = says_did step x (noM 0) damaged refl

    pub some_blocks : (i : ℕ) (bs : List ℕ) (r : Result Reply Damaged) (y : Mind) {s t : S} → Done step (start_blocks n size ws xs x i bs) s r y t → Done step (by_blocks (Some bs) (lost x) (start_blocks n size ws xs x i)) s r y t
    unfolding by_blocks
    some_blocks i bs r y d = d

    pub start_known : (i : ℕ) (r : Result Reply Damaged) {s : S} → Some i ≡ key_slot x n → reply_bytes (flowM (id_at x.dir i)) ≡ bytes_out r → Done step (start_work n size ws xs x) s r x s
    unfolding start_work by_slot
    start_known i r {s} e er =
        subst (λ o. Done step (by_slot o (by_slot (first_slot (is_free x.page) 0 1024) (said (noM 8) x) (start_free n size ws xs x)) (λ i. said (flowM (id_at x.dir i)) x)) s r x s) e
        (says_did step x (flowM (id_at x.dir i)) r er)

    pub start_none : {s : S} → None ≡ key_slot x n → None ≡ first_slot (is_free x.page) 0 1024 → Done step (start_work n size ws xs x) s (Ok (replies.No refusals.NoMore)) x s
    unfolding start_work by_slot
    start_none {s} e f =
        subst (λ o. Done step (by_slot o (by_slot (first_slot (is_free x.page) 0 1024) (said (noM 8) x) (start_free n size ws xs x)) (λ i. said (flowM (id_at x.dir i)) x)) s (Ok (replies.No refusals.NoMore)) x s) e
        (subst (λ o. Done step (by_slot o (said (noM 8) x) (start_free n size ws xs x)) s (Ok (replies.No refusals.NoMore)) x s) f (says_did step x (noM 8) (Ok (replies.No refusals.NoMore)) refl))

    pub start_free_lem : (i : ℕ) (r : Result Reply Damaged) (y : Mind) {s t : S} → None ≡ key_slot x n → Some i ≡ first_slot (is_free x.page) 0 1024 → Done step (start_free n size ws xs x i) s r y t → Done step (start_work n size ws xs x) s r y t
    unfolding start_work by_slot
    start_free_lem i r y {s} {t} e f d =
        subst (λ o. Done step (by_slot o (by_slot (first_slot (is_free x.page) 0 1024) (said (noM 8) x) (start_free n size ws xs x)) (λ i. said (flowM (id_at x.dir i)) x)) s r y t) e
        (subst (λ o. Done step (by_slot o (said (noM 8) x) (start_free n size ws xs x)) s r y t) f d)
