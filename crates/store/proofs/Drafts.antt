-- Drafts: pages saved where they do not count, and the flip that makes them count. Assumes nothing.
use Rattle.std.proofs.Common.{◌≡◌, ℕ, ◌+◌, ◌-◌, ◌*◌, ◌/◌, ◌%◌, ◌<◌, ◌≤◌, Bool, true, false, cond, eqb, ◌⊎◌, List, length, sym, refl, ap, ◌∙◌, subst, inl, arith, ne_eqb, eqb-true}
use borrow.Author.Tests.{eqb-false}
use Rattle.device.specs.Lines.{Lines, Left}
use Rattle.device.specs.Safe.{Safe}
use Rattle.device.specs.Images.{Image, upd, All, None, At, Agree}
use Rattle.device.specs.Flips.{commit_work, Rests, Amid}
use Rattle.device.proofs.Safe.{safe_bind, safe_more}
use Rattle.device.proofs.Image.{upd_line, upd_same, at_left}
use Rattle.device.proofs.Commit.{amid_rests}
use Rattle.words.specs.Works.{load_via, save_via, from_line}
use Rattle.words.specs.Runs.{read_via, put_via, read_from, puts, Each, Small, Drafting}
use Rattle.words.proofs.Runs.{reads_length, reads_ext, reads_puts, puts_line}
use Rattle.words.proofs.Drafting.{drafting_start, drafting_load_via, drafting_save_via, drafting_flip, reads_here, reads_flipped}
use Rattle.blocks.specs.Works.{block_line}
use Rattle.store.specs.Layout.{slots, root_words, root_lines, root_line, entry_line, page_words, page_lines, turn_at, used_of, pick_of, size_at, block_at, blocks_for, page_at, plan_at, Mind, flipped_to}
use Rattle.store.specs.Works.{save_page, flip_to}
use Rattle.store.specs.Shows.{Used, Sane, Body, Shows, Counts}
use Rattle.store.proofs.Turns.{bit_low, turn_same, turn_other, turn_apart, turn_length, turn_small}
use Rattle.store.proofs.Where.{page_line, plan_line, line_in_lem, on_low, same_block, body_ext, shows_agree}

-- what is told of memory at rest
pub record Told : Type 0 where
  pub mind : Mind
  pub page : ℕ → List ℕ
  pub plan : ℕ → List ℕ

abbrev pub told : Mind → (ℕ → List ℕ) → (ℕ → List ℕ) → Told
told x fp pl = record { mind = x; page = fp; plan = pl }

abbrev pub Decodes : ℕ → Image → Told → Type 0
Decodes N g y = Shows N g y.mind y.page y.plan

abbrev pub Held : ℕ → Mind → (ℕ → List ℕ) → (ℕ → List ℕ) → Lines → Type 0
Held N x fp pl m = Rests (Decodes N) (told x fp pl) m

pub held_left : (N : ℕ) (x : Mind) (fp pl : ℕ → List ℕ) (m o : Lines) → Held N x fp pl m → Left m o → Held N x fp pl o
held_left N x fp pl m o (g, a, w) l = let b = at_left a l in (b.0, b.1, shows_agree N g b.0 x fp pl w (λ j k c. b.2 j k tt))

-- between the start of a call and its flip: by the root page q and the directory d the image would stand for these pages and plans
pub record Draft (N : ℕ) (x : Mind) (g : Image) (q d : List ℕ) (fp pl : ℕ → List ℕ) (m : Lines) : Type 0 where
  pub image : Image
  pub drafting : Drafting (Counts x) g image m
  pub long : length q ≡ root_words
  pub small : Small q
  pub body : Body N image q d fp pl

pub draft_start : (N : ℕ) (x : Mind) (g : Image) (fp pl : ℕ → List ℕ) (m : Lines) → At g All None m → Shows N g x fp pl → Draft N x g x.page x.dir fp pl m
draft_start N x g fp pl m a w = record {
  image = g;
  drafting = drafting_start (Counts x) g m a;
  long = ap length (sym w.rooted) ∙ reads_length g (from_line (root_line (x.word % 2))) 0 root_words;
  small = w.small;
  body = w.body;
}

-- the used slots are the same after a pick was turned
pub used_turned : (q : List ℕ) (i j : ℕ) → i < slots → j < slots → used_of (turn_at 17 i q) j ≡ used_of q j
used_turned q i j hi hj = turn_apart 17 q i 1 j (λ e. omega arith)

module _ {N : ℕ} {x : Mind} {g : Image} {q d : List ℕ} {fp pl : ℕ → List ℕ} {m : Lines} (room : 32768 ≤ N) (w : Draft N x g q d fp pl m) where
  -- a page, and a plan, as the draft has them
  pub draft_load_page : {R : Lines → Type 0} {Q : List ℕ → Lines → Type 0} (i : ℕ) → Used q i → R m → Q (fp i) m → Safe N Q R (load_via (page_at N d i (pick_of q i)) 0 page_words) m
  draft_load_page {R} {Q} i u r k = drafting_load_via w.drafting (page_at N d i (pick_of q i)) page_words (λ l z. line_in_lem N l _ room) r (subst (λ ws. Q ws m) (sym (w.body.pages i u)) k)

  pub draft_load_plan : {R : Lines → Type 0} {Q : List ℕ → Lines → Type 0} (i : ℕ) → Used q i → R m → Q (pl i) m → Safe N Q R (load_via (plan_at N d i) 0 (4 * size_at d i)) m
  draft_load_plan {R} {Q} i u r k = drafting_load_via w.drafting (plan_at N d i) (4 * size_at d i) (λ l z. line_in_lem N l _ room) r (subst (λ ws. Q ws m) (sym (w.body.plans i u)) k)

-- the copy of a page that does not count is saved, and is to count
module _ {N : ℕ} {x : Mind} {g : Image} {q : List ℕ} {fp pl : ℕ → List ℕ} {m : Lines} (room : 32768 ≤ N) (w : Draft N x g q x.dir fp pl m) where
  pub draft_page : {R : Lines → Type 0} (i : ℕ) (ws : List ℕ) → x.lines ≡ N → Used x.page i → Used q i → pick_of q i ≡ pick_of x.page i → length ws ≡ page_words → Small ws
      → ((n : Lines) → Amid (Counts x) g n → R n)
      → Safe N (λ y n. Draft N x g (turn_at 17 i q) x.dir (λ j. cond (eqb j i) ws (fp j)) pl n) R (save_page x.lines x.dir i (1 - pick_of x.page i) ws) m
  unfolding save_page
  draft_page {R} i ws lines ux uq same long small calm =
      subst (λ n. Safe N (λ y n. Draft N x g (turn_at 17 i q) d (λ j. cond (eqb j i) ws (fp j)) pl n) R (save_via (page_at n d i c) page_lines ws) m) (sym lines)
      (safe_more (λ y o r a. record {
        image = h2;
        drafting = a;
        long = turn_length 17 q i ∙ w.long;
        small = turn_small 17 q i w.small;
        body = record {
          sane = record {
            sizes = λ j u. s.sizes j (was j u);
            fits = λ j k u. s.fits j k (was j u);
            each = λ j k j' k' u u'. s.each j k j' k' (was j u) (was j' u');
          };
          entries = λ j u k z. away (entry_line j + k / 8) (k % 8) (λ l hl e. omega arith) ∙ w.body.entries j (was j u) k z;
          pages = λ j u. page j u (eqb j i) refl;
          plans = λ j u.
              reads_ext h2 h (plan_at N d j) 0 (4 * size_at d j)
              (λ k z. away _ _ (λ l hl e.
              let v = was j u in
              let b : 2 + (k / 8) / 128 < blocks_for (size_at d j) = omega arith in
              let p = plan_line N j (k / 8) d (omega arith) (s.fits j (2 + (k / 8) / 128) v b) in
              let eb = same_block (block_at d j (2 + (k / 8) / 128)) (block_at d i c) ((k / 8) % 128) l (omega arith) (omega arith) (sym p ∙ e) in
              omega (arith, (s.each j (2 + (k / 8) / 128) i c v uq b (omega arith) eb).1)))
              ∙ w.body.plans j (was j u);
        };
      })
      (λ o r. r)
      (drafting_save_via w.drafting at page_lines ws
      (λ j k a hk. subst (λ l. eqb j l ≡ false) (sym (line k (omega arith))) (a.1 i k ux (omega arith)))
      (omega arith) (λ l z. line_in_lem N l _ room) small calm))
    where
      d : List ℕ
      d = x.dir

      c : ℕ
      c = 1 - pick_of x.page i

      at : ℕ → ℕ
      at = page_at N d i c

      h : Image
      h = w.image

      h2 : Image
      h2 = put_via at 0 ws h

      s : Sane N q d
      s = w.body.sane

      low : c < 2
      low = omega arith

      line : (k : ℕ) → k < 128 → at k ≡ block_line (block_at d i c) + k
      line k hk = page_line N i c k d (s.fits i c uq (omega arith)) hk

      each : Each at page_lines
      each a b ha hb e = let p = line a (omega arith) in let p' = line b (omega arith) in omega arith

      was : (j : ℕ) → Used (turn_at 17 i q) j → Used q j
      was j u = (u.0, sym (used_turned q i j ux.0 u.0) ∙ u.1)

      away : (j v : ℕ) → ((l : ℕ) → l < page_lines → j ≡ block_line (block_at d i c) + l → ⊥) → h2 j v ≡ h j v
      away j v ne = puts_line at 0 ws h j v (λ k hk. subst (λ l. eqb j l ≡ false) (sym (line (k / 8) (omega arith))) (ne_eqb _ _ (ne (k / 8) (omega arith))))

      inside : 17 + i / 64 < length q
      inside = let z = ux.0 in omega (arith, w.long)

      page : (j : ℕ) → Used (turn_at 17 i q) j → (b : Bool) → eqb j i ≡ b → read_via h2 (page_at N d j (pick_of (turn_at 17 i q) j)) 0 page_words ≡ cond b ws (fp j)
      page j u true t =
          ap (λ k. read_via h2 (page_at N d k (pick_of (turn_at 17 i q) k)) 0 page_words) (eqb-true j i t)
          ∙ ap (λ v. read_via h2 (page_at N d i v) 0 page_words) (turn_same 17 q i inside ∙ ap (λ v. 1 - v) same)
          ∙ ap (λ n. read_via h2 at 0 n) (sym long)
          ∙ reads_puts at page_lines each 0 ws h (omega arith)
      page j u false t =
          let v = was j u in
          let ne : j ≡ i → ⊥ = eqb-false j i t in
          let b = bit_low 17 q j in
          ap (λ v. read_via h2 (page_at N d j v) 0 page_words) (turn_other 17 q i j ne inside)
          ∙ reads_ext h2 h (page_at N d j (pick_of q j)) 0 page_words
          (λ k z. away _ _ (λ l hl e.
          let p = page_line N j (pick_of q j) (k / 8) d (s.fits j (pick_of q j) v (omega arith)) (omega arith) in
          let eb = same_block (block_at d j (pick_of q j)) (block_at d i c) (k / 8) l (omega arith) (omega arith) (sym p ∙ e) in
          ne (s.each j (pick_of q j) i c v uq (omega arith) (omega arith) eb).0))
          ∙ w.body.pages j v

-- the flip
module _ {N : ℕ} {x : Mind} {g : Image} {q d : List ℕ} {fp pl gp hl : ℕ → List ℕ} {m : Lines} (room : 32768 ≤ N) (w : Draft N x g q d fp pl m) where
  pub draft_flip : Shows N g x gp hl
      → Safe N (λ y o. Held N (flipped_to x q d) fp pl o) (λ o. (p : Lines) → Left o p → Held N x gp hl p ⊎ Held N (flipped_to x q d) fp pl p) (flip_to x.word q) m
  unfolding flip_to
  draft_flip z =
      safe_bind (λ y. commit_work 0 0 v)
      (safe_more
      (λ y o r a. drafting_flip a (Decodes N) 0 0 v (told x gp hl) (told (flipped_to x q d) fp pl) old (omega arith) (omega arith) (omega arith) new)
      (λ o r. r)
      (drafting_save_via w.drafting (from_line line) root_lines q (λ j k c h. c.0 k h) (omega (arith, w.long)) (λ l h. omega arith) w.small
      (λ o a p l. inl (amid_rests (Decodes N) (Counts x) g (told x gp hl) old o p a l))))
    where
      v : ℕ
      v = 1 - x.word % 2

      line : ℕ
      line = root_line v

      h2 : Image
      h2 = puts line 0 q w.image

      old : (h : Image) → Agree (Counts x) g h → Decodes N h (told x gp hl)
      old h e = shows_agree N g h x gp hl z e

      new : (h : Image) → Agree All (upd 0 0 v h2) h → Decodes N h (told (flipped_to x q d) fp pl)
      new h e = record {
        lines = z.lines;
        root = e 0 0 tt ∙ upd_same 0 0 v h2;
        rooted = reads_flipped 0 0 v (root_line (v % 2)) root_words h2 h e (omega arith)
            ∙ ap (λ c. read_from h2 (root_line c) 0 root_words) {x = v % 2} {y = v} (omega arith)
            ∙ reads_here line root_words q w.image w.long;
        small = w.small;
        body = body_ext N w.image h q d fp pl w.body (λ j k o.
            let lo = on_low q d j o in
            e j k tt ∙ upd_line 0 0 v h2 j k (ne_eqb _ _ (λ t. omega arith)) ∙ puts_line (from_line line) 0 q w.image j k (λ n hn. ne_eqb _ _ (λ t. omega (arith, w.long))));
      }
