-- Where pages and plans stand, and that what counts is apart from what does not. Assumes nothing.
use Rattle.std.proofs.Common.{◌≡◌, ℕ, ◌+◌, ◌-◌, ◌*◌, ◌/◌, ◌%◌, ◌<◌, ◌≤◌, cond, List, get_or, take, drop, sym, refl, ap, ◌∙◌, arith, get_or-drop, get_or-take, lt-ltb, eq-eqb, ne_eqb}
use borrow.Author.Tests.{both_ways}
use Rattle.device.specs.Images.{Image, Agree}
use Rattle.words.specs.Works.{from_line}
use Rattle.words.proofs.Runs.{reads_ext}
use Rattle.blocks.specs.Works.{block_line, blocks_in, inside, line_in}
use Rattle.blocks.specs.Below.{line_in_below}
use Rattle.store.specs.Layout.{root_words, root_line, entry_lines, entry_line, page_words, bit_of, used_of, pick_of, field, size_at, block_at, page_blocks, plan_blocks, blocks_for, page_at, plan_at, Mind}
use Rattle.store.specs.Shows.{Used, Sane, Body, Shows, Counts}
use Rattle.store.proofs.Turns.{bit_low}

inside_in : (total b : ℕ) → b < total → inside total b ≡ b
inside_in total b h = ap (λ t. cond t b 0) (lt-ltb b total h)

pub page_line : (N i c l : ℕ) (d : List ℕ) → block_at d i c < blocks_in N → l < 128 → page_at N d i c l ≡ block_line (block_at d i c) + l
unfolding line_in page_blocks field
page_line N i c l d h low =
    let z : l / 128 ≡ 0 = omega arith in
    let r : l % 128 ≡ l = omega arith in
    let e : get_or (take 1 (drop (i * 96 + 8 + c) d)) (l / 128) 0 ≡ get_or d (i * 96 + (8 + c)) 0 =
    ap (λ k. get_or (take 1 (drop (i * 96 + 8 + c) d)) k 0) z ∙ get_or-take 1 (drop (i * 96 + 8 + c) d) 0 0 (omega arith) ∙ get_or-drop (i * 96 + 8 + c) d 0 0
    ∙ ap (λ k. get_or d k 0) {x = i * 96 + 8 + c + 0} {y = i * 96 + (8 + c)} (omega arith) in
    ap (λ b. block_line (inside (blocks_in N) b) + l % 128) e
    ∙ ap (λ b. block_line b + l % 128) (inside_in (blocks_in N) (get_or d (i * 96 + (8 + c)) 0) h)
    ∙ ap (λ k. block_line (get_or d (i * 96 + (8 + c)) 0) + k) r

pub plan_line : (N i l : ℕ) (d : List ℕ) → l < 2048 → block_at d i (2 + l / 128) < blocks_in N → plan_at N d i l ≡ block_line (block_at d i (2 + l / 128)) + l % 128
unfolding line_in plan_blocks field
plan_line N i l d low h =
    let e : get_or (take 16 (drop (i * 96 + 10) d)) (l / 128) 0 ≡ get_or d (i * 96 + (8 + (2 + l / 128))) 0 =
    get_or-take 16 (drop (i * 96 + 10) d) (l / 128) 0 (omega arith) ∙ get_or-drop (i * 96 + 10) d (l / 128) 0
    ∙ ap (λ k. get_or d k 0) {x = i * 96 + 10 + l / 128} {y = i * 96 + (8 + (2 + l / 128))} (omega arith) in
    ap (λ b. block_line (inside (blocks_in N) b) + l % 128) e
    ∙ ap (λ b. block_line b + l % 128) (inside_in (blocks_in N) (get_or d (i * 96 + (8 + (2 + l / 128))) 0) h)

-- whatever the words are, such lines are inside the memory
pub line_in_lem : (N l : ℕ) (bs : List ℕ) → 32768 ≤ N → line_in (blocks_in N) bs l < N
line_in_lem N l bs h = let low = line_in_below (blocks_in N) bs l (omega arith) in omega arith

-- a line that the state rests on, behind the root
pub data On (q d : List ℕ) (j : ℕ) : Type 0 where
  on_entry : (i k : ℕ) → Used q i → k < entry_lines → j ≡ entry_line i + k → On q d j
  on_page : (i k : ℕ) → Used q i → k < 128 → j ≡ block_line (block_at d i (pick_of q i)) + k → On q d j
  on_plan : (i b k : ℕ) → Used q i → 2 ≤ b → b < blocks_for (size_at d i) → k < 128 → j ≡ block_line (block_at d i b) + k → On q d j

pub on_low : (q d : List ℕ) (j : ℕ) → On q d j → 16 ≤ j
on_low q d j (on_entry i k u h e) = omega arith
on_low q d j (on_page i k u h e) = omega arith
on_low q d j (on_plan i b k u lo hi h e) = omega arith

pub same_block : (a b k l : ℕ) → k < 128 → l < 128 → block_line a + k ≡ block_line b + l → a ≡ b
same_block a b k l hk hl e = omega arith

-- the image elsewhere does not matter
pub body_ext : (N : ℕ) (g h : Image) (q d : List ℕ) (fp pl : ℕ → List ℕ) → Body N g q d fp pl → ((j w : ℕ) → On q d j → h j w ≡ g j w) → Body N h q d fp pl
body_ext N g h q d fp pl b e = record {
  sane = b.sane;
  entries = λ i u k z. e _ _ (on_entry i (k / 8) u (omega arith) refl) ∙ b.entries i u k z;
  pages = λ i u.
      let c = bit_low 17 q i in
      reads_ext h g (page_at N d i (pick_of q i)) 0 page_words
      (λ k z. e _ _ (on_page i (k / 8) u (omega arith) (page_line N i (pick_of q i) (k / 8) d (b.sane.fits i (pick_of q i) u (omega arith)) (omega arith))))
      ∙ b.pages i u;
  plans = λ i u.
      reads_ext h g (plan_at N d i) 0 (4 * size_at d i)
      (λ k z.
      e _ _ (on_plan i (2 + (k / 8) / 128) ((k / 8) % 128) u (omega arith) (omega arith) (omega arith)
      (plan_line N i (k / 8) d (omega arith) (b.sane.fits i (2 + (k / 8) / 128) u (omega arith)))))
      ∙ b.plans i u;
}

-- what the state rests on counts
pub counts_on : (N : ℕ) (x : Mind) (j : ℕ) → Sane N x.page x.dir → On x.page x.dir j → Counts x j
counts_on N x j s (on_entry i k u h e) = (
  λ k' h'. ne_eqb _ _ (λ z. omega arith),
  (λ i' k' u' h'. ne_eqb _ _ (λ z. omega arith)),
  (λ i' k' l o h'. ne_eqb _ _ (λ z.
      let q : i ≡ i' = omega arith in
      let r : used_of x.page i ≡ used_of x.page i' = ap (bit_of 1 x.page) q in
      omega arith)),
  λ b k' f h'. ne_eqb _ _ (λ z. omega arith),
)
counts_on N x j s (on_page i k u h e) =
    let c = bit_low 17 x.page i in (
      λ k' h'. ne_eqb _ _ (λ z. omega arith),
      (λ i' k' u' h'. ne_eqb _ _ (λ z.
          let c' = bit_low 17 x.page i' in
          let m : block_at x.dir i (pick_of x.page i) ≡ block_at x.dir i' (1 - pick_of x.page i') = same_block _ _ k k' h h' (sym e ∙ z) in
          let p = s.each i (pick_of x.page i) i' (1 - pick_of x.page i') u u' (omega arith) (omega arith) m in
          let r : pick_of x.page i ≡ pick_of x.page i' = ap (bit_of 17 x.page) p.0 in
          omega (arith, p.1))),
      (λ i' k' l o h'. ne_eqb _ _ (λ z. omega arith)),
      λ b k' f h'. ne_eqb _ _ (λ z.
          let m : block_at x.dir i (pick_of x.page i) ≡ b = same_block _ _ k k' h h' (sym e ∙ z) in
          both_ways _ (f i (pick_of x.page i) u (omega arith)) (eq-eqb _ _ m)),
    )
counts_on N x j s (on_plan i b k u lo hi h e) = (
  λ k' h'. ne_eqb _ _ (λ z. omega arith),
  (λ i' k' u' h'. ne_eqb _ _ (λ z.
      let c' = bit_low 17 x.page i' in
      let m : block_at x.dir i b ≡ block_at x.dir i' (1 - pick_of x.page i') = same_block _ _ k k' h h' (sym e ∙ z) in
      let p = s.each i b i' (1 - pick_of x.page i') u u' hi (omega arith) m in
      omega (arith, p.1))),
  (λ i' k' l o h'. ne_eqb _ _ (λ z. omega arith)),
  λ b' k' f h'. ne_eqb _ _ (λ z.
      let m : block_at x.dir i b ≡ b' = same_block _ _ k k' h h' (sym e ∙ z) in
      both_ways _ (f i b u hi) (eq-eqb _ _ m)),
)

pub counts_word : (x : Mind) → Counts x 0
counts_word x = (λ k h. ne_eqb _ _ (λ e. omega arith), (λ i k u h. ne_eqb _ _ (λ e. omega arith)), (λ i k l o h. ne_eqb _ _ (λ e. omega arith)), λ b k f h. ne_eqb _ _ (λ e. omega arith))

pub counts_root : (x : Mind) (k : ℕ) → k < 0 + root_words → Counts x (root_line (x.word % 2) + k / 8)
counts_root x k h =
    (λ k' h'. ne_eqb _ _ (λ e. omega arith), (λ i k' u h'. ne_eqb _ _ (λ e. omega arith)), (λ i k' l o h'. ne_eqb _ _ (λ e. omega arith)), λ b k' f h'. ne_eqb _ _ (λ e. omega arith))

pub shows_agree : (N : ℕ) (g h : Image) (x : Mind) (fp pl : ℕ → List ℕ) → Shows N g x fp pl → Agree (Counts x) g h → Shows N h x fp pl
shows_agree N g h x fp pl s e = record {
  lines = s.lines;
  root = e 0 0 (counts_word x) ∙ s.root;
  rooted = reads_ext h g (from_line (root_line (x.word % 2))) 0 root_words (λ k z. e _ _ (counts_root x k z)) ∙ s.rooted;
  small = s.small;
  body = body_ext N g h x.page x.dir fp pl s.body (λ j w o. e j w (counts_on N x j s.body.sane o));
}
