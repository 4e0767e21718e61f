-- Any number of runs of words, saved where nothing counts, then one flip. It knows of no layout.
-- Assumes nothing.
use mathlib.Core.Path.{◌≡◌, refl, sym, ap, subst, ◌∙◌}
use mathlib.Core.Logic.{◌⊎◌, inl, inr}
use mathlib.Core.Bool.{false}
use mathlib.Core.List.{List}
use Prim.Native.Nat.{ℕ, ◌*◌, ◌/◌, ◌<◌, ◌≤◌}
use native.Mathlib.Omega.{arith}
use lib.Dec.{eqb}
use lib.ListN.{length}
use borrow.Author.Tests.{ne_eqb}
use Rattle.device.specs.Lines.{Lines, seen, Left}
use Rattle.device.specs.Safe.{Safe}
use Rattle.device.specs.Images.{Image, upd, All, None, At, Agree}
use Rattle.device.specs.Flips.{commit_work, Rests, Amid}
use Rattle.device.proofs.Image.{upd_line, at_less, at_settled}
use Rattle.device.proofs.Commit.{commit_end}
use Rattle.words.specs.Works.{load_via, save_via, from_line}
use Rattle.words.specs.Runs.{read_via, put_via, read_from, puts, Each, Small, Drafting, Apart, RunsVia, ReadsVia, Runs, Reads}
use Rattle.words.proofs.Runs.{reads_ext, reads_puts, puts_line, safe_load_via, safe_save_via}

pub drafting_start : (C : ℕ → Type 0) (g : Image) (m : Lines) → At g All None m → Drafting C g g m
drafting_start C g m a = record { at = at_less (at_settled a) C All (λ j c. tt) (λ j p. inr tt); agree = λ j k c. refl }

module _ {C : ℕ → Type 0} {g h : Image} {m : Lines} (d : Drafting C g h m) where
  pub drafting_amid : Amid C g m
  drafting_amid = (h, at_less d.at C None (λ j c. c) (λ j p. absurd p), d.agree)

  pub drafting_load_via : {N : ℕ} {R : Lines → Type 0} (at : ℕ → ℕ) (n : ℕ) → ((l : ℕ) → 8 * l < n → at l < N) → R m → {Q : List ℕ → Lines → Type 0} → Q (read_via h at 0 n) m → Safe N Q R (load_via at 0 n) m
  drafting_load_via at n room r {Q} q =
      safe_load_via m at 0 n r (λ l z. room l (omega arith)) (subst (λ ws. Q ws m) (sym (reads_ext (seen m) h at 0 n (λ k z. d.at.shows _ _))) q)

  pub drafting_save_via : {N : ℕ} {R : Lines → Type 0} (at : ℕ → ℕ) (n : ℕ) (ws : List ℕ) → ((j k : ℕ) → C j → k < n → eqb j (at k) ≡ false)
      → length ws ≤ 8 * n → ((l : ℕ) → l < n → at l < N) → Small ws → ((o : Lines) → Amid C g o → R o)
      → Safe N (λ x o. Drafting C g (put_via at 0 ws h) o) R (save_via at n ws) m
  drafting_save_via at n ws off fits room small calm =
      safe_save_via C ws at n h m d.at off fits room small
      (λ o i a e. calm o (i, a, λ j w c. e j w c ∙ d.agree j w c))
      (λ o a. record { at = a; agree = λ j w c. puts_line at 0 ws h j w (λ k z. off j (k / 8) c (omega arith)) ∙ d.agree j w c })

  pub drafting_flip : {State : Type 0} (Decodes : Image → State → Type 0) {N : ℕ} (root k v : ℕ) (s t : State)
      → ((i : Image) → Agree C g i → Decodes i s) → root < N → k < 8 → v < 18446744073709551616
      → ((i : Image) → Agree All (upd root k v h) i → Decodes i t)
      → Safe N (λ x o. Rests Decodes t o) (λ o. (p : Lines) → Left o p → Rests Decodes s p ⊎ Rests Decodes t p) (commit_work root k v) m
  drafting_flip Decodes root k v s t old room word small new =
      commit_end Decodes C All g root k s old room word v t m small (h, d.at, (λ l. inl tt), d.agree, new)

-- no two neighbours are one line
pub each_from_line : (line n : ℕ) → Each (from_line line) n
each_from_line line n a b ha hb e = omega arith

pub reads_here : (line n : ℕ) (ws : List ℕ) (h : Image) → length ws ≡ n → read_from (puts line 0 ws h) line 0 n ≡ ws
reads_here line n ws h e = ap (λ k. read_from (puts line 0 ws h) line 0 k) (sym e) ∙ reads_puts (from_line line) (length ws) (each_from_line line (length ws)) 0 ws h (omega arith)

pub reads_away : (line n line' n' c : ℕ) (ws : List ℕ) (h : Image) → length ws ≤ 8 * n → c ≤ 8 * n' → Apart line n line' n'
    → read_from (puts line 0 ws h) line' 0 c ≡ read_from h line' 0 c
reads_away line n line' n' c ws h fits fits' apart =
    reads_ext (puts line 0 ws h) h (from_line line') 0 c
    (λ k z. puts_line (from_line line) 0 ws h _ _ (λ k' z'. ne_eqb _ _ (λ e. elim apart [ inl p ↦ omega arith | inr p ↦ omega arith ])))

-- the flip of a word of another line
pub reads_flipped : (root k v line c : ℕ) (h i : Image) → Agree All (upd root k v h) i → root < line → read_from i line 0 c ≡ read_from h line 0 c
reads_flipped root k v line c h i e below =
    reads_ext i h (from_line line) 0 c (λ n z. e _ _ tt ∙ upd_line root k v h _ _ (ne_eqb _ root (λ q. omega arith)))

pub runs_via : (C : ℕ → Type 0) → RunsVia C
runs_via C = record {
  loading = λ N g h m at n d room. drafting_load_via d at n room (drafting_amid d) (refl, d);
  saving = λ N g h m at n ws d off fits room small. drafting_save_via d at n ws off fits room small (λ o a. a);
}

pub reads_via : ReadsVia
reads_via = record {
  here = λ at n ws h each fits. reads_puts at n each 0 ws h (omega arith);
  away = λ at n ws h j w fits off. puts_line at 0 ws h j w (λ k z. off (k / 8) (omega arith));
}

pub runs : (C : ℕ → Type 0) → Runs C
runs C = record {
  starting = λ g m a. drafting_start C g m a;
  loading = λ N g h m line n d room. (runs_via C).loading N g h m (from_line line) n d (λ l z. omega arith);
  saving = λ N g h m line n ws d off fits room small. (runs_via C).saving N g h m (from_line line) n ws d off fits (λ l z. omega arith) small;
}

pub reads : Reads
reads = record {
  here = λ line ws h. reads_here line (length ws) ws h refl;
  away = λ line n line' n' c ws h fits fits' apart. reads_away line n line' n' c ws h fits fits' apart;
  flipped = λ root k v line c h i e below. reads_flipped root k v line c h i e below;
}
