-- Time. Assumes nothing.
use Rattle.std.proofs.Common.{◌≡◌, ℕ, ◌+◌, ◌/◌, ◌<◌, ◌≤◌, Bool, true, false, cond, eqb, ltb, ◌⊎◌, List, length, Some, None, Ok, Err, Option, Result, sym, refl, ap, ◌∙◌, subst, inl, inr, arith, ltb-false, ltb-true, le-ltb, lt-ltb, eq-eqb, ne_eqb, eqb-true}
use borrow.Author.Tests.{eqb-false}
use Rattle.plans.specs.declared.eval.Damaged.{Damaged}
use Rattle.flows.specs.One.{One}
use Rattle.pages.specs.declared.flow.Flow.{Flow}
use Rattle.pages.specs.Page.{damaged, encode_of}
use Rattle.pages.specs.Sound.{Sound, Fits}
use Rattle.pages.specs.Holds.{Holds, HeldBy, TasksOk}
use Rattle.device.specs.Lines.{Lines, Left, Work, yields}
use Rattle.device.specs.Does.{bind}
use Rattle.device.specs.Safe.{Safe, s_end}
use Rattle.device.proofs.Safe.{safe_bind, safe_more}
use Rattle.store.specs.Layout.{slots, dir_words, next_of, used_of, pick_of, turn_at, Mind, flipped_to, at_time}
use Rattle.store.specs.Works.{load_plan, flip_to}
use Rattle.store.specs.Shows.{Used, Counts}
use Rattle.store.proofs.Turns.{turn_other, turn_first}
use Rattle.store.proofs.Drafts.{Held, Draft, draft_start, draft_flip}
use Rattle.engine.proofs.Stands.{who, Slot, Agrees, Stands, Fallen, held_fallen, Ever, Carries}
use Rattle.engine.proofs.Rules.{Rules}
use Rattle.flows.specs.House.{Yes}
use Rattle.flows.specs.One.{ticked_one}
use Rattle.flows.specs.Seats.{Seats, nobody, answer}
use Rattle.pages.specs.Page.{decode_of}
use Rattle.pages.specs.Events.{ticked_on, stirring}
use Rattle.pages.proofs.Codes.{decodes_encoded, encodes_page, encodes_small}
use Rattle.pages.proofs.Ticks.{ticked_held, stays_held}
use Rattle.device.specs.Images.{Image, All, None as Nothing, At}
use Rattle.device.specs.Flips.{Amid}
use Rattle.device.proofs.Loops.{safe_loop}
use Rattle.device.proofs.Commit.{amid_rests}
use Rattle.words.proofs.Drafting.{drafting_amid}
use Rattle.store.specs.Works.{load_page}
use Rattle.store.specs.Layout.{page_at, page_words}
use Rattle.words.specs.Works.{load_via}
use Rattle.store.proofs.Where.{shows_agree}
use Rattle.store.proofs.Drafts.{told, Decodes, draft_load_page, draft_load_plan, draft_page, used_turned}
use Rattle.engine.specs.Works.{room, said, by_flow, open_work, Changed, root_of, turned, tick_save, tick_plan, tick_flow, tick_turn, tick_end, tick_work}
use Rattle.engine.proofs.Stands.{small_same}
use Rattle.engine.proofs.Search.{used_or}

below_same : (j i : ℕ) → (j ≡ i → ⊥) → ltb j (i + 1) ≡ ltb j i
below_same j i ne = go (ltb j i) refl
  where
    go : (t : Bool) → ltb j i ≡ t → ltb j (i + 1) ≡ t
    go true t = lt-ltb j (i + 1) (let h = ltb-true j i t in omega arith)
    go false t = le-ltb j (i + 1) (let h = ltb-false j i t in omega (arith, ne))

-- loading in a draft
module _ {N : ℕ} {x : Mind} {g : Image} {q : List ℕ} {fp pl : ℕ → List ℕ} {n : Lines} (big : 32768 ≤ N) (lines : x.lines ≡ N) (w : Draft N x g q x.dir fp pl n) where
  draft_open : {B : Type 0} {Q : B → Lines → Type 0} {R : Lines → Type 0} (i : ℕ) (f : Flow) (K : Result Flow Damaged → Work B) → Used q i → pick_of q i ≡ pick_of x.page i → fp i ≡ encode_of f → Sound f → R n
      → Safe N Q R (K (Ok f)) n → Safe N Q R (bind (open_work x i) K) n
  unfolding open_work load_page
  draft_open {B} {Q} {R} i f K u same is sound r next =
      safe_bind K
      (safe_bind (λ ws. yields (decode_of ws))
      (subst (λ l. Safe N (λ ws o. Safe N (λ v p. Safe N Q R (K v) p) R (yields (decode_of ws)) o) R (load_page l x.page x.dir i) n) (sym lines)
      (subst (λ c. Safe N (λ ws o. Safe N (λ v p. Safe N Q R (K v) p) R (yields (decode_of ws)) o) R (load_via (page_at N x.dir i c) 0 page_words) n) same
      (draft_load_page big w i u r (s_end r (subst (λ v. Safe N Q R (K v) n) (sym (ap decode_of is ∙ decodes_encoded f sound)) next))))))

  draft_plan : {B : Type 0} {Q : B → Lines → Type 0} {R : Lines → Type 0} (i : ℕ) (K : List ℕ → Work B) → Used q i → R n → Safe N Q R (K (pl i)) n → Safe N Q R (bind (load_plan x.lines x.dir i) K) n
  unfolding load_plan
  draft_plan {B} {Q} {R} i K u r next =
      safe_bind K (subst (λ l. Safe N (λ ws o. Safe N Q R (K ws) o) R (load_plan l x.dir i) n) (sym lines) (draft_load_plan big w i u r next))

module _ {N : ℕ} {x : Mind} {k : Seats} {m : Lines} (big : 32768 ≤ N) (st : Stands N x k m) (long : length x.dir ≡ dir_words) (rules : Rules) (t : ℕ) (clock : t < 4611686018427387904)
    (ok : (i : ℕ) → i < slots → TasksOk (ticked_one t (k.at i)).task) where
  abbrev pub after : Seats
  after = record { now = t; next = k.next; at = λ (i : ℕ). ticked_one t (k.at i) }

  -- what slot j holds while the first i have gone on
  abbrev up_to : (i j : ℕ) → One
  up_to i j = cond (ltb j i) (ticked_one t (k.at j)) (k.at j)

  record Gone (i : ℕ) (a : Changed) (n : Lines) : Type 0 where
    pub changed : Option (List ℕ)
    pub good : a ≡ Ok changed
    pub page : ℕ → List ℕ
    pub draft : Draft N x st.image (root_of x changed) x.dir page st.plan n
    pub slot : (j : ℕ) → Used x.page j → Slot x.dir (up_to i j) (page j) (st.plan j) j
    pub picks : (j : ℕ) → i ≤ j → j < slots → pick_of (root_of x changed) j ≡ pick_of x.page j
    pub used : (j : ℕ) → j < slots → used_of (root_of x changed) j ≡ used_of x.page j
    pub next : next_of (root_of x changed) ≡ next_of x.page
    pub idle : changed ≡ None → At st.image All Nothing n × ((j : ℕ) → Used x.page j → up_to i j ≡ k.at j)

  lines : x.lines ≡ N
  lines = st.shows.lines

  old : (n o : Lines) → Amid (Counts x) st.image n → Left n o → Fallen N k o
  old n o a l =
      held_fallen N x st.page st.plan k o st.agrees
      (amid_rests (Decodes N) (Counts x) st.image (told x st.page st.plan) (λ g e. shows_agree N st.image g x st.page st.plan st.shows e) n o a l)

  amid : (n : Lines) → Amid (Counts x) st.image n → Ever N k after n
  amid n a o l = inl (old n o a l)

  calm : (i : ℕ) (a : Changed) (n : Lines) → Gone i a n → Ever N k after n
  calm i a n w = amid n (drafting_amid w.draft.drafting)

  -- a slot that stays as it is
  stay : (i : ℕ) (a : Changed) (n : Lines) → i < 1024 → (w : Gone i a n) → (Used x.page i → ticked_one t (k.at i) ≡ k.at i) → Gone (i + 1) a n
  stay i a n hi w same = record {
    changed = w.changed;
    good = w.good;
    page = w.page;
    draft = w.draft;
    used = w.used;
    next = w.next;
    slot = λ j u. subst (λ o. Slot x.dir o (w.page j) (st.plan j) j) (sym (is j u (eqb j i) refl)) (w.slot j u);
    picks = λ j h hj. w.picks j (omega arith) hj;
    idle = λ e. ((w.idle e).0, λ j u. is j u (eqb j i) refl ∙ (w.idle e).1 j u);
  }
    where
      is : (j : ℕ) → Used x.page j → (b : Bool) → eqb j i ≡ b → up_to (i + 1) j ≡ up_to i j
      is j u true b =
          let e = eqb-true j i b in
          ap (λ v. cond v (ticked_one t (k.at j)) (k.at j)) (lt-ltb j (i + 1) (omega arith))
          ∙ subst (λ n. ticked_one t (k.at n) ≡ k.at n) (sym e) (same (subst (Used x.page) e u))
          ∙ sym (ap (λ v. cond v (ticked_one t (k.at j)) (k.at j)) (le-ltb j i (omega arith)))
      is j u false b = ap (λ v. cond v (ticked_one t (k.at j)) (k.at j)) (below_same j i (eqb-false j i b))

  -- a slot that goes on
  saved : (i : ℕ) (a : Changed) (n : Lines) (u : Used x.page i) (w : Gone i a n) (f : Flow) → Holds room (st.plan i) f (who x.dir i) (ticked_one t (k.at i)) → Fits f
      → Safe N (λ b o. Gone (i + 1) b o) (λ o. Ever N k after o) (tick_save x i a f) n
  unfolding tick_save
  saved i a n u w f h fits =
      safe_bind (λ z. yields (turned x i a))
      (safe_more (λ z o e d. s_end e (subst (λ c. Gone (i + 1) (turned x i c) o) (sym w.good) (gone o d))) (λ o e. e)
      (draft_page big w.draft i (encode_of f) lines u uq (w.picks i (omega arith) u.0) (encodes_page f h.sound) (small_same (encode_of f) (encodes_small f fits)) (λ o c. amid o c)))
    where
      q : List ℕ
      q = root_of x w.changed

      uq : Used q i
      uq = (u.0, w.used i u.0 ∙ u.1)

      fp : ℕ → List ℕ
      fp j = cond (eqb j i) (encode_of f) (w.page j)

      inside : 17 + i / 64 < length q
      inside = let z = u.0 in omega (arith, w.draft.long)

      slot : (j : ℕ) → Used x.page j → (v : Bool) → eqb j i ≡ v → Slot x.dir (up_to (i + 1) j) (cond v (encode_of f) (w.page j)) (st.plan j) j
      slot j uj true v =
          let e = eqb-true j i v in
          let s = st.agrees.used i u in
          subst (λ o. Slot x.dir o (encode_of f) (st.plan j) j) (sym (ap (λ v. cond v (ticked_one t (k.at j)) (k.at j)) (lt-ltb j (i + 1) (omega arith))))
          (subst (λ n. Slot x.dir (ticked_one t (k.at n)) (encode_of f) (st.plan n) n) (sym e) (record { flow = f; is = refl; holds = h; fits = fits; small = s.small; long = s.long }))
      slot j uj false v = subst (λ o. Slot x.dir o (w.page j) (st.plan j) j) (sym (ap (λ v. cond v (ticked_one t (k.at j)) (k.at j)) (below_same j i (eqb-false j i v)))) (w.slot j uj)

      gone : (o : Lines) → Draft N x st.image (turn_at 17 i q) x.dir fp st.plan o → Gone (i + 1) (Ok (Some (turn_at 17 i q))) o
      gone o d = record {
        changed = Some (turn_at 17 i q);
        good = refl;
        page = fp;
        draft = d;
        slot = λ j uj. slot j uj (eqb j i) refl;
        picks = λ j lo hj. turn_other 17 q i j (λ e. omega arith) inside ∙ w.picks j (omega arith) hj;
        used = λ j hj. used_turned q i j u.0 hj ∙ w.used j hj;
        next = ap (λ v. v + 1) (turn_first 17 q i (omega arith)) ∙ w.next;
        idle = λ e. let z : ◌≡◌ {A = ℕ} 0 1 = cc in absurd (omega arith);
      }

  -- where power fails it was not done
  turn : (i : ℕ) (a : Changed) (n : Lines) → i < 1024 → Gone i a n → Safe N (λ b o. Gone (i + 1) b o) (λ o. Ever N k after o) (tick_turn t x i a) n
  unfolding tick_turn tick_flow tick_plan by_flow
  turn i a n hi w = go (used_or x.page i hi)
    where
      r : Ever N k after n
      r = calm i a n w

      body : Work Changed
      body = bind (open_work x i) (λ v. by_flow v (yields damaged) (tick_flow t x i a))

      go : Used x.page i ⊎ (used_of x.page i ≡ 0) → Safe N (λ b o. Gone (i + 1) b o) (λ o. Ever N k after o) (cond (eqb (used_of x.page i) 1) body (yields a)) n
      go (inr z) =
          subst (λ v. Safe N (λ b o. Gone (i + 1) b o) (λ o. Ever N k after o) (cond v body (yields a)) n) (sym (ne_eqb (used_of x.page i) 1 (λ e. omega arith)))
          (s_end r (stay i a n hi w (λ u. absurd (omega (arith, u.1)))))
      go (inl u) =
          subst (λ v. Safe N (λ b o. Gone (i + 1) b o) (λ o. Ever N k after o) (cond v body (yields a)) n) (sym (eq-eqb _ _ u.1))
          (draft_open big lines w.draft i f (λ v. by_flow v (yields damaged) (tick_flow t x i a)) uq (w.picks i (omega arith) hi) s.is s.holds.sound r
          (by (stirring t f) refl))
        where
          s : Slot x.dir (up_to i i) (w.page i) (st.plan i) i
          s = w.slot i u

          f : Flow
          f = s.flow

          uq : Used (root_of x w.changed) i
          uq = (hi, w.used i hi ∙ u.1)

          here : up_to i i ≡ k.at i
          here = ap (λ v. cond v (ticked_one t (k.at i)) (k.at i)) (le-ltb i i (omega arith))

          h : Holds room (st.plan i) f (who x.dir i) (k.at i)
          h = subst (Holds room (st.plan i) f (who x.dir i)) here s.holds

          few : length (st.plan i) ≤ 16384
          few = let q = s.long in omega arith

          goes : (v : Result Flow Damaged) → ticked_on room (st.plan i) t f ≡ v → HeldBy room (st.plan i) v (who x.dir i) (ticked_one t (k.at i))
              → Safe N (λ b o. Gone (i + 1) b o) (λ o. Ever N k after o) (by_flow v (yields damaged) (tick_save x i a)) n
          goes (Ok g) e hold = saved i a n u w g hold (rules.ticked room (st.plan i) t f g s.small few (omega arith) h.sound s.fits e)
          goes (Err d) e hold = absurd hold

          by : (v : Bool) → stirring t f ≡ v → Safe N (λ b o. Gone (i + 1) b o) (λ o. Ever N k after o) (cond v (bind (load_plan x.lines x.dir i) (tick_plan t x i a f)) (yields a)) n
          by true e =
              draft_plan big lines w.draft i (tick_plan t x i a f) uq r
              (goes (ticked_on room (st.plan i) t f) refl (ticked_held room (st.plan i) t f (who x.dir i) (k.at i) h (ok i hi)))
          by false e = s_end r (stay i a n hi w (λ v. (stays_held t f e room (st.plan i)).1 (who x.dir i) (k.at i) h))

  all_gone : (j : ℕ) → j < slots → up_to 1024 j ≡ ticked_one t (k.at j)
  all_gone j h = ap (λ v. cond v (ticked_one t (k.at j)) (k.at j)) (lt-ltb j 1024 h)

  pub tick_carries : ticked_one t nobody ≡ nobody → Carries N k (answer Yes after) (tick_work t x) m
  unfolding tick_work tick_end
  tick_carries empty =
      safe_bind (tick_end t x)
      (safe_more (λ a n e w. subst (λ a. Carries N k (answer Yes after) (tick_end t x a) n) (sym w.good) (go a n w w.changed refl)) (λ n e. e)
      (safe_loop (tick_turn t x) 1024 Gone (λ o. Ever N k after o) calm turn 0 1024 (Ok None) m (omega arith) first))
    where
      first : Gone 0 (Ok None) m
      first = record {
        changed = None;
        good = refl;
        page = st.page;
        draft = draft_start N x st.image st.page st.plan m st.at st.shows;
        slot = λ j u. subst (λ o. Slot x.dir o (st.page j) (st.plan j) j) (sym (none j)) (st.agrees.used j u);
        picks = λ j lo hj. refl;
        used = λ j hj. refl;
        next = refl;
        idle = λ e. (st.at, λ j u. none j);
      }
        where
          none : (j : ℕ) → up_to 0 j ≡ k.at j
          none j = ap (λ v. cond v (ticked_one t (k.at j)) (k.at j)) (le-ltb j 0 (omega arith))

      free : (j : ℕ) → j < slots → used_of x.page j ≡ 0 → ticked_one t (k.at j) ≡ nobody
      free j hj z = ap (ticked_one t) (st.agrees.free j hj z) ∙ empty

      go : (a : Changed) (n : Lines) (w : Gone 1024 a n) (o : Option (List ℕ)) → w.changed ≡ o → Carries N k (answer Yes after) (tick_end t x (Ok w.changed)) n
      go a n w None ec = subst (λ o. Carries N k (answer Yes after) (tick_end t x (Ok o)) n) (sym ec) (
          s_end (calm 1024 a n w) (
            refl,
            record {
              image = st.image;
              page = st.page;
              plan = st.plan;
              at = (w.idle ec).0;
              shows = record { lines = st.shows.lines; root = st.shows.root; rooted = st.shows.rooted; small = st.shows.small; body = st.shows.body };
              agrees = record {
                now = refl;
                clock = clock;
                next = st.agrees.next;
                long = long;
                used = λ j u. subst (λ o. Slot x.dir o (st.page j) (st.plan j) j) (sym ((w.idle ec).1 j u) ∙ all_gone j u.0) (st.agrees.used j u);
                free = free;
              };
            },
            long,
          ))
      go a n w (Some c) ec = subst (λ o. Carries N k (answer Yes after) (tick_end t x (Ok o)) n) (sym ec)
          (subst (λ v. Carries N k (answer Yes after) (bind (flip_to x.word v) (λ z. said Yes (at_time t (flipped_to x v x.dir)))) n) root
          (safe_bind (λ z. said Yes (at_time t y))
          (safe_more (λ z o e c. s_end (ever o e) (refl, stands o c, long)) ever (draft_flip big w.draft st.shows))))
        where
          q : List ℕ
          q = root_of x w.changed

          root : q ≡ c
          root = ap (root_of x) ec

          y : Mind
          y = flipped_to x q x.dir

          was : (j : ℕ) → Used q j → Used x.page j
          was j v = (v.0, sym (w.used j v.0) ∙ v.1)

          agrees : (t' : ℕ) → t' < 4611686018427387904 → Agrees (at_time t' y) w.page st.plan (record { now = t'; next = k.next; at = λ (i : ℕ). ticked_one t (k.at i) })
          agrees t' ct = record {
            now = refl;
            clock = ct;
            next = st.agrees.next ∙ sym w.next;
            long = long;
            used = λ j v. subst (λ o. Slot x.dir o (w.page j) (st.plan j) j) (all_gone j v.0) (w.slot j (was j v));
            free = λ j hj z. free j hj (sym (w.used j hj) ∙ z);
          }

          stands : (o : Lines) → Held N y w.page st.plan o → Stands N (at_time t y) after o
          stands o (g, at, sh) = record {
            image = g;
            page = w.page;
            plan = st.plan;
            at = at;
            shows = record { lines = sh.lines; root = sh.root; rooted = sh.rooted; small = sh.small; body = sh.body };
            agrees = agrees t clock;
          }

          fallen : (o : Lines) → Held N y w.page st.plan o → Fallen N after o
          fallen o (g, at, sh) = (
            at_time 0 y,
            refl,
            record {
              image = g;
              page = w.page;
              plan = st.plan;
              at = at;
              shows = record { lines = sh.lines; root = sh.root; rooted = sh.rooted; small = sh.small; body = sh.body };
              agrees = agrees 0 (omega arith);
            },
          )

          ever : (o : Lines) → ((p : Lines) → Left o p → Held N x st.page st.plan p ⊎ Held N y w.page st.plan p) → Ever N k after o
          ever o e p l = elim (e p l) [ inl c ↦ inl (held_fallen N x st.page st.plan k p st.agrees c) | inr c ↦ inr (fallen p c) ]
