-- What the engine keeps true, and the steps that calls are made of. Assumes nothing.
use Rattle.std.proofs.Common.{◌≡◌, ℕ, ◌+◌, ◌*◌, ◌<◌, ◌≤◌, Bool, true, false, cond, eqb, ◌⊎◌, List, [], ◌∷◌, length, Ok, Result, sym, refl, ap, ◌∙◌, subst, inl, inr, arith, eqb-true}
use Rattle.plans.specs.declared.eval.Damaged.{Damaged}
use Rattle.plans.specs.Plan.{Busy}
use Rattle.runs.specs.Machine.{FlatFlow}
use Rattle.flows.specs.House.{Reply}
use Rattle.flows.specs.One.{One}
use Rattle.flows.specs.Seats.{Seats, Seated, nobody, put, answer, down_seats}
use Rattle.pages.specs.declared.flow.Flow.{Flow}
use Rattle.pages.specs.Page.{decode_of, encode_of}
use Rattle.pages.specs.Sound.{Fits, Small as Words}
use Rattle.pages.specs.Holds.{Holds}
use Rattle.pages.proofs.Codes.{decodes_encoded, encodes_page, encodes_small}
use Rattle.device.specs.Lines.{Lines, Left, Work, yields}
use Rattle.device.specs.Does.{bind}
use Rattle.device.specs.Safe.{Safe, s_end}
use Rattle.device.specs.Images.{Image, All, None, At}
use Rattle.device.proofs.Safe.{safe_bind, safe_more}
use Rattle.device.proofs.Commit.{amid_rests}
use Rattle.words.specs.Runs.{Small}
use Rattle.store.specs.Layout.{slots, dir_words, next_of, used_of, turn_at, id_at, size_at, key_at, Mind, at_time}
use Rattle.store.specs.Works.{load_page, load_plan, flip_to}
use Rattle.store.specs.Shows.{Used, Shows, Counts}
use Rattle.store.proofs.Turns.{turn_first}
use Rattle.store.proofs.Where.{shows_agree}
use Rattle.store.proofs.Drafts.{told, Decodes, Held, held_left, Draft, draft_start, draft_load_page, draft_load_plan, draft_page, draft_flip, used_turned}
use Rattle.engine.specs.Works.{room, Answer, said, open_work, shut_work, shut_mind, changes}

-- which flow a slot has, by its entry
abbrev pub who : (dir : List ℕ) → ℕ → FlatFlow
who d i = record { id = id_at d i; key = key_at d i; phase = Busy; here = 0; vars = λ (v : ℕ). 0; steps = 0; into = 0; box = []; size = size_at d i }

-- a slot in use: its page is that of a flow which is the house's
pub record Slot (d : List ℕ) (o : One) (page plan : List ℕ) (i : ℕ) : Type 0 where
  pub flow : Flow
  pub is : page ≡ encode_of flow
  pub holds : Holds room plan flow (who d i) o
  pub fits : Fits flow
  pub small : Small plan
  pub long : length plan ≡ 4 * size_at d i

-- pages and plans are what the slots hold
pub record Agrees (x : Mind) (page plan : ℕ → List ℕ) (k : Seats) : Type 0 where
  pub now : k.now ≡ x.now
  pub clock : x.now < 4611686018427387904
  pub next : k.next ≡ next_of x.page
  pub long : length x.dir ≡ dir_words
  pub used : (i : ℕ) → Used x.page i → Slot x.dir (k.at i) (page i) (plan i) i
  pub free : (i : ℕ) → i < slots → used_of x.page i ≡ 0 → k.at i ≡ nobody

-- the lines stand for the slots, with this mind
pub record Stands (N : ℕ) (x : Mind) (k : Seats) (m : Lines) : Type 0 where
  pub image : Image
  pub page : ℕ → List ℕ
  pub plan : ℕ → List ℕ
  pub at : At image All None m
  pub shows : Shows N image x page plan
  pub agrees : Agrees x page plan k

-- and after a failure, with no mind and no time
abbrev pub Fallen : ℕ → Seats → Lines → Type 0
Fallen N k m = (x : Mind) × (x.now ≡ 0) × Stands N x (down_seats k) m

shows_time : (N t : ℕ) (g : Image) (x : Mind) (fp pl : ℕ → List ℕ) → Shows N g x fp pl → Shows N g (at_time t x) fp pl
shows_time N t g x fp pl s = record { lines = s.lines; root = s.root; rooted = s.rooted; small = s.small; body = s.body }

pub small_same : (ws : List ℕ) → Words ws → Small ws
small_same [] h = tt
small_same (w ∷ ws) h = (h.0, small_same ws h.1)

-- what was held when power failed stands for the slots
pub held_fallen : (N : ℕ) (x : Mind) (fp pl : ℕ → List ℕ) (k : Seats) (o : Lines) → Agrees x fp pl k → Held N x fp pl o → Fallen N k o
held_fallen N x fp pl k o a (g, at, w) = (
  at_time 0 x,
  refl,
  record {
    image = g;
    page = fp;
    plan = pl;
    at = at;
    shows = shows_time N 0 g x fp pl w;
    agrees = record { now = refl; clock = omega arith; next = a.next; long = a.long; used = a.used; free = a.free };
  },
)

pub held_stands : (N : ℕ) (x : Mind) (fp pl : ℕ → List ℕ) (k : Seats) (o : Lines) → Agrees x fp pl k → Held N x fp pl o → Stands N x k o
held_stands N x fp pl k o a (g, at, w) = record { image = g; page = fp; plan = pl; at = at; shows = w; agrees = a }

pub stands_fallen : (N : ℕ) (x : Mind) (k : Seats) (m o : Lines) → Stands N x k m → Left m o → Fallen N k o
stands_fallen N x k m o s l = held_fallen N x s.page s.plan k o s.agrees (held_left N x s.page s.plan m o (s.image, s.at, s.shows) l)

-- a call carries out what the slots say: at its end, and wherever power fails in it
abbrev pub Ends : ℕ → Seated → Answer → Lines → Type 0
Ends N s y n = (y.reply ≡ s.reply) × Stands N y.mind s.seats n × (length y.mind.dir ≡ dir_words)

abbrev pub Ever : ℕ → Seats → Seats → Lines → Type 0
Ever N k l n = (o : Lines) → Left n o → Fallen N k o ⊎ Fallen N l o

abbrev pub Carries : ℕ → Seats → Seated → Work Answer → Lines → Type 0
Carries N k s w m = Safe N (λ y n. Ends N s y n) (λ n. Ever N k s.seats n) w m

-- an answer that changes nothing
pub carries_said : (N : ℕ) (x : Mind) (k : Seats) (m : Lines) (r : Reply) (s : Seated) → Stands N x k m → length x.dir ≡ dir_words → r ≡ s.reply → k ≡ s.seats → Carries N k s (said r x) m
carries_said N x k m r s st long er ek = s_end (λ o l. inl (stands_fallen N x k m o st l)) (er, subst (λ l. Stands N x l m) ek st, long)

module _ {N : ℕ} {x : Mind} {k : Seats} {m : Lines} (big : 32768 ≤ N) (st : Stands N x k m) where
  draft : Draft N x st.image x.page x.dir st.page st.plan m
  draft = draft_start N x st.image st.page st.plan m st.at st.shows

  -- a slot's flow is there
  pub open_then : {B : Type 0} {Q : B → Lines → Type 0} {R : Lines → Type 0} (i : ℕ) (u : Used x.page i) (K : Result Flow Damaged → Work B) → R m
      → Safe N Q R (K (Ok (st.agrees.used i u).flow)) m → Safe N Q R (bind (open_work x i) K) m
  unfolding open_work load_page
  open_then {B} {Q} {R} i u K r next =
      safe_bind K
      (safe_bind (λ ws. yields (decode_of ws))
      (subst (λ n. Safe N (λ ws o. Safe N (λ v p. Safe N Q R (K v) p) R (yields (decode_of ws)) o) R (load_page n x.page x.dir i) m) (sym st.shows.lines)
      (draft_load_page big draft i u r (s_end r (subst (λ v. Safe N Q R (K v) m) (sym is) next)))))
    where
      s : Slot x.dir (k.at i) (st.page i) (st.plan i) i
      s = st.agrees.used i u

      is : decode_of (st.page i) ≡ Ok s.flow
      is = ap decode_of s.is ∙ decodes_encoded s.flow s.holds.sound

  -- and its plan
  pub plan_then : {B : Type 0} {Q : B → Lines → Type 0} {R : Lines → Type 0} (i : ℕ) (u : Used x.page i) (K : List ℕ → Work B) → R m
      → Safe N Q R (K (st.plan i)) m → Safe N Q R (bind (load_plan x.lines x.dir i) K) m
  unfolding load_plan
  plan_then {B} {Q} {R} i u K r next =
      safe_bind K
      (subst (λ n. Safe N (λ ws o. Safe N Q R (K ws) o) R (load_plan n x.dir i) m) (sym st.shows.lines) (draft_load_plan big draft i u r next))

  -- a changed page that counts: the slot holds what the new flow is
  pub change_carries : (i : ℕ) (u : Used x.page i) (r : Reply) (f : Flow) (o : One) → length x.dir ≡ dir_words
      → Holds room (st.plan i) f (who x.dir i) o → Fits f → Carries N k (answer r (put i o k)) (changes x i r f) m
  unfolding changes shut_work
  change_carries i u r f o long h fits =
      safe_bind (λ z. said r y)
      (safe_more
      (λ z n e q. s_end (ever n e) (refl, held_stands N y fp st.plan (put i o k) n new q, long))
      ever
      (safe_bind (λ z. flip_to x.word q0)
      (safe_more (λ z n e w. draft_flip big w st.shows) (λ n e. e)
      (draft_page big draft i (encode_of f) st.shows.lines u u refl (encodes_page f h.sound) (small_same (encode_of f) (encodes_small f fits))
      (λ n a p l. inl (amid_rests (Decodes N) (Counts x) st.image (told x st.page st.plan) (λ g e. shows_agree N st.image g x st.page st.plan st.shows e) n p a l))))))
    where
      q0 : List ℕ
      q0 = turn_at 17 i x.page

      y : Mind
      y = shut_mind x i

      fp : ℕ → List ℕ
      fp j = cond (eqb j i) (encode_of f) (st.page j)

      was : (j : ℕ) → Used q0 j → Used x.page j
      was j v = (v.0, sym (used_turned x.page i j u.0 v.0) ∙ v.1)

      slot : (j : ℕ) → Used q0 j → (t : Bool) → eqb j i ≡ t → Slot x.dir (cond t o (k.at j)) (cond t (encode_of f) (st.page j)) (st.plan j) j
      slot j v true t =
          let s = st.agrees.used i u in
          subst (λ n. Slot x.dir o (encode_of f) (st.plan n) n) (sym (eqb-true j i t)) (record { flow = f; is = refl; holds = h; fits = fits; small = s.small; long = s.long })
      slot j v false t = st.agrees.used j (was j v)

      none : (j : ℕ) → j < slots → used_of q0 j ≡ 0 → (t : Bool) → eqb j i ≡ t → cond t o (k.at j) ≡ nobody
      none j hj z true t = let e = eqb-true j i t in let w = used_turned x.page i j u.0 hj in let v = ap (used_of x.page) e in absurd (omega (arith, u.1))
      none j hj z false t = st.agrees.free j hj (sym (used_turned x.page i j u.0 hj) ∙ z)

      next0 : next_of q0 ≡ next_of x.page
      next0 = ap (λ v. v + 1) (turn_first 17 x.page i (omega arith))

      new : Agrees y fp st.plan (put i o k)
      new = record {
        now = st.agrees.now;
        clock = st.agrees.clock;
        next = st.agrees.next ∙ sym next0;
        long = st.agrees.long;
        used = λ j v. slot j v (eqb j i) refl;
        free = λ j hj z. none j hj z (eqb j i) refl;
      }

      ever : (n : Lines) → ((p : Lines) → Left n p → Held N x st.page st.plan p ⊎ Held N y fp st.plan p) → Ever N k (put i o k) n
      ever n e p l = elim (e p l) [ inl q ↦ inl (held_fallen N x st.page st.plan k p st.agrees q) | inr q ↦ inr (held_fallen N y fp st.plan (put i o k) p new q) ]
