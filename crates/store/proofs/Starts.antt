-- A new flow is written: its entry, its plan and its first page, where nothing counts. Assumes nothing.
use Rattle.std.proofs.Common.{◌≡◌, ℕ, ◌+◌, ◌*◌, ◌/◌, ◌%◌, ◌<◌, ◌≤◌, min, false, cond, eqb, List, length, get_or, sym, ap, ◌∙◌, subst, arith, ne_eqb}
use Rattle.device.specs.Lines.{Lines}
use Rattle.device.specs.Does.{bind}
use Rattle.device.specs.Safe.{Safe}
use Rattle.device.specs.Images.{Image}
use Rattle.device.specs.Flips.{Amid}
use Rattle.device.proofs.Safe.{safe_bind, safe_more}
use Rattle.words.specs.Works.{from_line}
use Rattle.words.specs.Runs.{read_via, puts, put_via, Each, Small}
use Rattle.words.proofs.Runs.{reads_ext, reads_puts, puts_line}
use Rattle.words.proofs.Drafting.{drafting_save_via, reads_here}
use Rattle.blocks.specs.Works.{block_line, blocks_in, line_in}
use Rattle.store.specs.Layout.{slots, root_words, entry_words, entry_lines, entry_line, page_words, page_lines, used_of, pick_of, field, size_at, block_at, page_blocks, plan_blocks, blocks_for, page_at, plan_at, Mind}
use Rattle.store.specs.Works.{save_entry, save_plan, save_page}
use Rattle.store.specs.Shows.{Used, Free, Counts}
use Rattle.store.proofs.Where.{page_line, plan_line, line_in_lem, same_block, body_ext, counts_on}
use Rattle.store.proofs.Drafts.{Draft}
use Rattle.store.proofs.Slots.{SameDir, body_dir, Comes, body_more}
use Rattle.store.proofs.Rising.{reads_word0}

line_high : (N l : ℕ) (bs : List ℕ) → 16384 ≤ line_in (blocks_in N) bs l
unfolding line_in
line_high N l bs = omega arith

-- what a new flow needs: a slot that is not in use, an entry for it, blocks that are free
pub record New (N : ℕ) (x : Mind) (i : ℕ) (es d : List ℕ) : Type 0 where
  pub inside : i < slots
  pub unused : used_of x.page i ≡ 0
  pub long : length es ≡ entry_words
  pub small : Small es
  pub same : SameDir x.page x.dir d
  pub entry : (k : ℕ) → k < entry_words → field d i k ≡ get_or es k 0
  pub size : field d i 1 ≤ 4096
  pub fits : (k : ℕ) → k < blocks_for (size_at d i) → block_at d i k < blocks_in N
  pub each : (k l : ℕ) → k < blocks_for (size_at d i) → l < blocks_for (size_at d i) → block_at d i k ≡ block_at d i l → k ≡ l
  pub free : (k : ℕ) → k < blocks_for (size_at d i) → Free x.page x.dir (block_at d i k)

module _ {N : ℕ} {x : Mind} {g : Image} {fp pl : ℕ → List ℕ} {m : Lines} (room : 32768 ≤ N) (w : Draft N x g x.page x.dir fp pl m) where
  pub draft_new : {R : Lines → Type 0} (i c : ℕ) (es d q plan ws : List ℕ) → New N x i es d
      → length plan ≡ 4 * size_at d i → Small plan → length ws ≡ page_words → Small ws → c < 2
      → ((j : ℕ) → Used q j → eqb j i ≡ false → Used x.page j × (pick_of q j ≡ pick_of x.page j)) → pick_of q i ≡ c → length q ≡ root_words → Small q
      → ((n : Lines) → Amid (Counts x) g n → R n)
      → Safe N (λ z n. Draft N x g q d (λ j. cond (eqb j i) ws (fp j)) (λ j. cond (eqb j i) plan (pl j)) n) R
      (bind (save_entry i es) (λ z. bind (save_plan N d i plan) (λ y. save_page N d i c ws))) m
  unfolding save_entry save_plan save_page
  draft_new {R} i c es d q plan ws new lp sp lw sw lc was pick lq sq calm =
      safe_bind (λ z. bind (save_plan N d i plan) (λ y. save_page N d i c ws))
      (safe_more (λ z o r d1.
      safe_bind (λ y. save_page N d i c ws)
      (safe_more (λ y o2 r2 d2.
      safe_more (λ u o3 r3 d3. record {
        image = h3;
        drafting = d3;
        long = lq;
        small = sq;
        body = body_more N h3 x.page q d fp pl i c ws plan was pick
            (body_dir N h3 x.page x.dir d fp pl new.same
            (body_ext N w.image h3 x.page x.dir fp pl w.body
            (λ j k o. let k0 = counts_on N x j w.body.sane o in d3.agree j k k0 ∙ sym (w.drafting.agree j k k0))))
            comes;
      })
      (λ o3 r3. r3)
      (drafting_save_via d2 page_l page_lines ws
      (λ j k cj hk. subst (λ l. eqb j l ≡ false) (sym (page_is k (omega arith))) (cj.3 (block_at d i c) k (new.free c (omega arith)) (omega arith)))
      (omega arith) (λ l z. line_in_lem N l _ room) sw calm))
      (λ o2 r2. r2)
      (drafting_save_via d1 plan_l plan_n plan
      (λ j k cj hk. subst (λ l. eqb j l ≡ false) (sym (plan_is k hk)) (cj.3 (block_at d i (2 + k / 128)) (k % 128) (new.free (2 + k / 128) (plan_block k hk)) (omega arith)))
      (omega arith) (λ l z. line_in_lem N l _ room) sp calm)))
      (λ o r. r)
      (drafting_save_via w.drafting (from_line (entry_line i)) entry_lines es
      (λ j k cj hk. cj.2 i k new.inside new.unused hk) (omega (arith, new.long)) (let z = new.inside in omega arith) new.small calm))
    where
      s : ℕ
      s = size_at d i

      plan_n : ℕ
      plan_n = (length plan + 7) / 8

      plan_l : ℕ → ℕ
      plan_l = plan_at N d i

      page_l : ℕ → ℕ
      page_l = page_at N d i c

      h1 : Image
      h1 = puts (entry_line i) 0 es w.image

      h2 : Image
      h2 = put_via plan_l 0 plan h1

      h3 : Image
      h3 = put_via page_l 0 ws h2

      plan_block : (k : ℕ) → k < plan_n → 2 + k / 128 < blocks_for s
      plan_block k h = omega (arith, lp)

      plan_low : (k : ℕ) → k < plan_n → k < 2048
      plan_low k h = omega (arith, lp)

      plan_is : (k : ℕ) → k < plan_n → plan_l k ≡ block_line (block_at d i (2 + k / 128)) + k % 128
      plan_is k h = plan_line N i k d (plan_low k h) (new.fits (2 + k / 128) (plan_block k h))

      page_is : (k : ℕ) → k < 128 → page_l k ≡ block_line (block_at d i c) + k
      page_is k h = page_line N i c k d (new.fits c (omega arith)) h

      page_each : Each page_l page_lines
      page_each a b ha hb e = let p = page_is a (omega arith) in let p' = page_is b (omega arith) in omega arith

      plan_each : Each plan_l plan_n
      plan_each a b ha hb e =
          let p = plan_is a ha in
          let p' = plan_is b hb in
          let z = sym p ∙ e ∙ p' in
          let eb = same_block (block_at d i (2 + a / 128)) (block_at d i (2 + b / 128)) (a % 128) (b % 128) (omega arith) (omega arith) z in
          let k = new.each (2 + a / 128) (2 + b / 128) (plan_block a ha) (plan_block b hb) eb in
          let y : block_line (block_at d i (2 + b / 128)) + a % 128 ≡ block_line (block_at d i (2 + b / 128)) + b % 128 = ap (λ t. block_line t + a % 128) (sym eb) ∙ z in
          omega arith

      comes : Comes N h3 x.page d i c ws plan
      comes = record {
        sizes = new.size;
        fits = new.fits;
        each = new.each;
        free = λ k h j l u hl.
            let e1 : size_at d j ≡ size_at x.dir j = ap (λ n. min n 4096) (new.same j u 1 (omega arith)) in
            let hl' : l < blocks_for (size_at x.dir j) = subst (λ n. l < blocks_for n) e1 hl in
            subst (λ b. eqb b (block_at d i k) ≡ false) (sym (new.same j u (8 + l) (omega arith))) (new.free k h j l u hl');
        entries = λ k h.
            let low : entry_line i + k / 8 < 16384 = let z = new.inside in omega arith in
            puts_line page_l 0 ws h2 _ _ (λ n hn. ne_eqb _ _ (λ t. let z = line_high N (n / 8) (page_blocks d i c) in omega arith))
            ∙ puts_line plan_l 0 plan h1 _ _ (λ n hn. ne_eqb _ _ (λ t. let z = line_high N (n / 8) (plan_blocks d i) in omega arith))
            ∙ sym (reads_word0 h1 (entry_line i) entry_words k h)
            ∙ ap (λ v. get_or v k 0) (reads_here (entry_line i) entry_words es w.image new.long)
            ∙ sym (new.entry k h);
        pages = ap (λ n. read_via h3 page_l 0 n) (sym lw) ∙ reads_puts page_l page_lines page_each 0 ws h2 (omega arith);
        plans =
            reads_ext h3 h2 plan_l 0 (4 * s)
            (λ k z. puts_line page_l 0 ws h2 _ _ (λ n hn. ne_eqb _ _ (λ t.
            let hk : k / 8 < plan_n = omega arith in
            let p = plan_is (k / 8) hk in
            let p' = page_is (n / 8) (omega arith) in
            let eb = same_block (block_at d i (2 + (k / 8) / 128)) (block_at d i c) ((k / 8) % 128) (n / 8) (omega arith) (omega arith) (sym p ∙ t ∙ p') in
            let e2 = new.each (2 + (k / 8) / 128) c (plan_block (k / 8) hk) (omega arith) eb in
            omega arith)))
            ∙ ap (λ n. read_via h2 plan_l 0 n) (sym lp)
            ∙ reads_puts plan_l plan_n plan_each 0 plan h1 (omega arith);
      }
