-- A new flow comes into a slot. Assumes nothing.
use Rattle.std.proofs.Common.{◌≡◌, ℕ, ◌+◌, ◌-◌, ◌*◌, ◌/◌, ◌<◌, ◌≤◌, min, Bool, true, false, cond, eqb, ◌⊎◌, List, [], ◌∷◌, length, get_or, Ok, Err, Result, sym, refl, ap, ◌∙◌, subst, inl, inr, arith, eqb-true}
use borrow.Author.Tests.{eqb-false}
use Rattle.plans.specs.declared.eval.Damaged.{Damaged}
use Rattle.flows.specs.One.{One}
use Rattle.pages.specs.declared.flow.Flow.{Flow}
use Rattle.pages.specs.Page.{encode_of}
use Rattle.pages.specs.Sound.{Fits}
use Rattle.pages.specs.Holds.{Holds, HeldBy, TasksOk}
use Rattle.device.specs.Lines.{Lines, Left}
use Rattle.device.specs.Does.{bind}
use Rattle.device.specs.Safe.{Safe, s_end}
use Rattle.device.proofs.Safe.{safe_bind, safe_more}
use Rattle.store.specs.Layout.{slots, dir_words, next_of, used_of, pick_of, turn_at, id_at, size_at, key_at, Mind, flipped_to}
use Rattle.store.specs.Works.{flip_to}
use Rattle.store.specs.Shows.{Used, Counts}
use Rattle.store.proofs.Turns.{bit_low, turn_same, turn_other, turn_apart, turn_length, turn_small, turn_first}
use Rattle.store.proofs.Drafts.{Held, Draft, draft_start, draft_flip}
use Rattle.engine.proofs.Stands.{who, Slot, Agrees, Stands, held_fallen, held_stands, Ever, Carries}
use Rattle.engine.proofs.Rules.{Rules}
use Rattle.plans.specs.Plan.{Name, Block, Rest, Busy, size_of, block_ok}
use Rattle.plans.specs.Flat.{laid}
use Rattle.flows.specs.House.{Flow', given}
use Rattle.flows.specs.One.{moved_one}
use Rattle.flows.specs.Summed.{new_flow}
use Rattle.flows.specs.Seats.{Seats, Seated, nobody, answer, new_one, born_at}
use Rattle.pages.specs.Events.{begun}
use Rattle.pages.specs.Holds.{new_of, alone}
use Rattle.pages.proofs.Codes.{encodes_page, encodes_small}
use Rattle.pages.proofs.Held.{begun_held}
use Rattle.pages.proofs.Laid.{laid_fits}
use Rattle.device.proofs.Commit.{amid_rests}
use Rattle.words.specs.Runs.{Small}
use Rattle.blocks.specs.Works.{blocks_in}
use Rattle.store.specs.Layout.{field, block_at, blocks_for, entry_words}
use Rattle.store.specs.Works.{save_entry, save_plan, save_page}
use Rattle.store.specs.Room.{Chosen}
use Rattle.store.specs.Entry.{entry_of, put_entry, bumped}
use Rattle.store.specs.Shows.{Free}
use Rattle.store.proofs.Fits.{small_set}
use Rattle.store.proofs.Where.{shows_agree}
use Rattle.store.proofs.Slots.{SameDir}
use Rattle.store.proofs.Starts.{New, draft_new}
use Rattle.store.proofs.Drafts.{told, Decodes}
use Rattle.store.proofs.Entries.{entry_length, entry_at, entry_there, entry_small, key_same as same_key, new_field, new_block, new_length, new_key_lem, bump_bit, bump_next, bump_length}
use Rattle.engine.specs.Works.{room, said, lost, by_flow, born_work, start_blocks}
use Rattle.engine.proofs.Stands.{small_same}

-- what a start that is not refused has
pub record Fair (n : Name) (b : Block) (xs : List ℕ) : Type 0 where
  pub short : length n ≤ 64
  pub bytes : (k : ℕ) → get_or n k 0 < 18446744073709551616
  pub plan : block_ok b ≡ true
  pub size : size_of b ≤ 4096
  pub few : length xs ≤ 16
  pub small : Small xs

-- a slot's entry is the same in another directory
pub slot_dir : (d d' : List ℕ) (o : One) (page plan : List ℕ) (j : ℕ) → length d ≡ dir_words → length d' ≡ dir_words → j < slots → ((k : ℕ) → k < entry_words → field d' j k ≡ field d j k) → Slot d o page plan j → Slot d' o page plan j
slot_dir d d' o page plan j long long' hj e s = record {
  flow = s.flow;
  is = s.is;
  fits = s.fits;
  small = s.small;
  holds = subst (λ y. Holds room plan s.flow y o) (sym same) s.holds;
  long = s.long ∙ ap (λ n. 4 * n) (sym size);
}
  where
    size : size_at d' j ≡ size_at d j
    size = ap (λ n. min n 4096) (e 1 (omega arith))

    id : id_at d' j ≡ id_at d j
    id = e 0 (omega arith)

    key : key_at d' j ≡ key_at d j
    key = same_key d d' j long long' hj e

    same : who d' j ≡ who d j
    same = λ i. record { id = id i; key = key i; phase = Busy; here = 0; vars = λ (v : ℕ). 0; steps = 0; into = 0; box = []; size = size i }

module _ {N : ℕ} {x : Mind} {k : Seats} {m : Lines} (big : 32768 ≤ N) (most : N ≤ 1099511627776) (st : Stands N x k m) (rules : Rules)
    (n : Name) (b : Block) (xs : List ℕ) (fair : Fair n b xs) (i : ℕ) (hi : i < slots) (unused : used_of x.page i ≡ 0) (bs : List ℕ) (ch : Chosen N x.page x.dir (size_of b) bs)
    (low : next_of x.page < 4611686018427387904) where
  id : ℕ
  id = next_of x.page

  abbrev es : List ℕ
  es = entry_of (next_of x.page) (size_of b) n bs

  abbrev d : List ℕ
  d = put_entry i (entry_of (next_of x.page) (size_of b) n bs) x.dir

  abbrev q : List ℕ
  q = bumped (turn_at 1 i x.page)

  abbrev y : Mind
  y = flipped_to x q d

  long : length x.dir ≡ dir_words
  long = st.agrees.long

  draft0 : Draft N x st.image x.page x.dir st.page st.plan m
  draft0 = draft_start N x st.image st.page st.plan m st.at st.shows

  inside : 1 + i / 64 < length x.page
  inside = omega (arith, draft0.long)

  used_here : used_of q i ≡ 1
  used_here = bump_bit 1 i (turn_at 1 i x.page) (omega arith) ∙ turn_same 1 x.page i inside ∙ ap (λ v. 1 - v) unused

  used_there : (j : ℕ) → (j ≡ i → ⊥) → used_of q j ≡ used_of x.page j
  used_there j ne = bump_bit 1 j (turn_at 1 i x.page) (omega arith) ∙ turn_other 1 x.page i j ne inside

  picks : (j : ℕ) → j < slots → pick_of q j ≡ pick_of x.page j
  picks j hj = bump_bit 17 j (turn_at 1 i x.page) (omega arith) ∙ turn_apart 1 x.page i 17 j (λ e. omega arith)

  was : (j : ℕ) → Used q j → eqb j i ≡ false → Used x.page j × (pick_of q j ≡ pick_of x.page j)
  was j v t = ((v.0, sym (used_there j (eqb-false j i t)) ∙ v.1), picks j v.0)

  size_is : size_at d i ≡ size_of b
  size_is = ap (λ v. min v 4096) (new_field (next_of x.page) (size_of b) i n bs x.dir long hi 1 (omega arith)) ∙ omega (arith, fair.size)

  block : (j : ℕ) → j < blocks_for (size_at d i) → block_at d i j ≡ get_or bs j 0
  block j h = new_block (next_of x.page) (size_of b) i n bs x.dir long hi j (omega (arith, size_is, fair.size))

  same_dir : SameDir x.page x.dir d
  same_dir j u c h = entry_there i j es x.dir c (entry_length (next_of x.page) (size_of b) n bs) (λ e. let z = ap (used_of x.page) e in omega (arith, u.1)) h

  less : (j : ℕ) → j < blocks_for (size_at d i) → j < blocks_for (size_of b)
  less j h = subst (λ s. j < blocks_for s) size_is h

  new : New N x i es d
  new = record {
    inside = hi;
    unused = unused;
    long = entry_length (next_of x.page) (size_of b) n bs;
    small = entry_small (next_of x.page) (size_of b) n bs (omega arith) (omega (arith, fair.size)) (omega (arith, fair.short)) ch.low fair.bytes;
    same = same_dir;
    entry = λ c h. new_field (next_of x.page) (size_of b) i n bs x.dir long hi c h ∙ sym (entry_at (next_of x.page) (size_of b) n bs c h);
    size = subst (λ v. v ≤ 4096) (sym (new_field (next_of x.page) (size_of b) i n bs x.dir long hi 1 (omega arith))) fair.size;
    fits = λ c h. subst (λ v. v < blocks_in N) (sym (block c h)) (ch.fits c (less c h));
    each = λ c l hc hl e. ch.each c l (less c hc) (less l hl) (sym (block c hc) ∙ e ∙ block l hl);
    free = λ c h. subst (Free x.page x.dir) (sym (block c h)) (ch.free c (less c h));
  }

  dir_long : length d ≡ dir_words
  dir_long = new_length (next_of x.page) (size_of b) i n bs x.dir long hi

  next_is : next_of q ≡ next_of x.page + 1
  next_is = bump_next (turn_at 1 i x.page) (let l = turn_length 1 x.page i in omega (arith, draft0.long)) ∙ ap (λ v. v + 1 + 1) (turn_first 1 x.page i (omega arith))

  -- the new flow is the one that its entry says
  who_is : new_of b xs (who d i) ≡ new_flow k.next n b xs
  who_is = λ t. record { id = eid t; key = ekey t; phase = Busy; frames = Rest b ∷ []; vars = given 0 xs; steps = 0; into = 0; box = []; size = size_of b }
    where
      eid : id_at d i ≡ k.next
      eid = new_field (next_of x.page) (size_of b) i n bs x.dir long hi 0 (omega arith) ∙ sym st.agrees.next

      ekey : key_at d i ≡ n
      ekey = new_key_lem (next_of x.page) (size_of b) i n bs x.dir long hi fair.short

  pub born : TasksOk (new_one k.now (new_flow k.next n b xs)).task → Carries N k (answer (Flow' k.next) (born_at i (new_flow k.next n b xs) k)) (start_blocks n (size_of b) (laid b) xs x i bs) m
  unfolding start_blocks by_flow born_work
  born ok = go (begun room (laid b) xs x.now) refl held
    where
      o : One
      o = new_one k.now (new_flow k.next n b xs)

      one : moved_one x.now (new_of b xs (who d i)) (alone (new_of b xs (who d i))) ≡ new_one k.now (new_flow k.next n b xs)
      one = ap (λ t. moved_one t (new_of b xs (who d i)) (alone (new_of b xs (who d i)))) (sym st.agrees.now) ∙ ap (λ z. moved_one k.now z (alone z)) who_is

      held : HeldBy room (laid b) (begun room (laid b) xs x.now) (who d i) o
      held = subst (HeldBy room (laid b) (begun room (laid b) xs x.now) (who d i)) one
          (begun_held room (laid b) xs x.now (omega (arith, fair.few)) b (who d i) refl fair.plan fair.size refl size_is (subst (λ (w : One). TasksOk w.task) (sym one) ok))

      target : Seated
      target = answer (Flow' k.next) (born_at i (new_flow k.next n b xs) k)

      go : (r : Result Flow Damaged) → begun room (laid b) xs x.now ≡ r → HeldBy room (laid b) r (who d i) o
          → Carries N k target (by_flow r (lost x) (born_work x i es d q (laid b))) m
      go (Err e) z h = absurd h
      go (Ok f) z h =
          safe_bind (λ w. bind (flip_to x.word q) (λ v. said (Flow' (next_of x.page)) y))
          (safe_more (λ w c e dr.
          safe_bind (λ v. said (Flow' (next_of x.page)) y)
          (safe_more (λ v p e2 hd. s_end (ever p e2) (ap Flow' (sym st.agrees.next), held_stands N y fp pl (born_at i (new_flow k.next n b xs) k) p agrees hd, dir_long)) ever (draft_flip big dr st.shows)))
          (λ c e. ever c e)
          (subst (λ l. Safe N (λ w c. Draft N x st.image q d fp pl c) (λ c. (p : Lines) → Left c p → Held N x st.page st.plan p ⊎ Held N y fp pl p)
          (bind (save_entry i es) (λ w. bind (save_plan l d i (laid b)) (λ v. save_page l d i (pick_of x.page i) (encode_of f)))) m) (sym st.shows.lines)
          (draft_new big draft0 i (pick_of x.page i) es d q (laid b) (encode_of f) new
          (laid_fits.laid_long b ∙ ap (λ s. 4 * s) (sym size_is)) (small_same (laid b) (laid_fits.laid_small b fair.plan fair.size))
          (encodes_page f h.sound) (small_same (encode_of f) (encodes_small f fits)) (bit_low 17 x.page i) was (picks i hi)
          (bump_length (turn_at 1 i x.page) ∙ turn_length 1 x.page i ∙ draft0.long)
          (small_set (turn_at 1 i x.page) 0 (next_of (turn_at 1 i x.page)) (let l = turn_first 1 x.page i (omega arith) in omega arith) (turn_small 1 x.page i draft0.small))
          (λ c a p l. inl (amid_rests (Decodes N) (Counts x) st.image (told x st.page st.plan) (λ g e. shows_agree N st.image g x st.page st.plan st.shows e) c p a l)))))
        where
          clock : x.now ≤ 4611686018427387904
          clock = let c = st.agrees.clock in omega arith

          few : length (laid b) ≤ 16384
          few = omega (arith, laid_fits.laid_long b, fair.size)

          fits : Fits f
          fits = rules.begun room (laid b) xs x.now f (small_same (laid b) (laid_fits.laid_small b fair.plan fair.size)) few clock fair.small (omega (arith, fair.few)) z

          fp : ℕ → List ℕ
          fp j = cond (eqb j i) (encode_of f) (st.page j)

          pl : ℕ → List ℕ
          pl j = cond (eqb j i) (laid b) (st.plan j)

          slot : (j : ℕ) → Used q j → (t : Bool) → eqb j i ≡ t → Slot d (cond t o (k.at j)) (cond t (encode_of f) (st.page j)) (cond t (laid b) (st.plan j)) j
          slot j v true t =
              subst (λ c. Slot d o (encode_of f) (laid b) c) (sym (eqb-true j i t))
              (record { flow = f; is = refl; holds = h; fits = fits; small = small_same (laid b) (laid_fits.laid_small b fair.plan fair.size); long = laid_fits.laid_long b ∙ ap (λ s. 4 * s) (sym size_is) })
          slot j v false t =
              let u = (was j v t).0 in
              slot_dir x.dir d (k.at j) (st.page j) (st.plan j) j long dir_long v.0 (λ c hc. same_dir j u c hc) (st.agrees.used j u)

          none : (j : ℕ) → j < slots → used_of q j ≡ 0 → (t : Bool) → eqb j i ≡ t → cond t o (k.at j) ≡ nobody
          none j hj w true t = let e = ap (used_of q) (eqb-true j i t) in absurd (omega (arith, used_here))
          none j hj w false t = st.agrees.free j hj (sym (used_there j (eqb-false j i t)) ∙ w)

          agrees : Agrees y fp pl (born_at i (new_flow k.next n b xs) k)
          agrees = record {
            now = st.agrees.now;
            clock = st.agrees.clock;
            next = ap (λ v. v + 1) st.agrees.next ∙ sym next_is;
            long = dir_long;
            used = λ j v. slot j v (eqb j i) refl;
            free = λ j hj w. none j hj w (eqb j i) refl;
          }

          ever : (c : Lines) → ((p : Lines) → Left c p → Held N x st.page st.plan p ⊎ Held N y fp pl p) → Ever N k target.seats c
          ever c e p l = elim (e p l) [ inl w ↦ inl (held_fallen N x st.page st.plan k p st.agrees w) | inr w ↦ inr (held_fallen N y fp pl target.seats p agrees w) ]
