-- Rising. Assumes nothing.
use Rattle.std.proofs.Common.{◌≡◌, ℕ, zero, suc, ◌+◌, ◌*◌, ◌/◌, ◌%◌, ◌^◌, ◌<◌, ◌≤◌, List, [], length, get_or, sym, refl, ap, ◌∙◌, subst, arith}
use native.Mathlib.Nat.{zero-div}
use Rattle.device.specs.Lines.{Lines, seen, fresh_lines, Work, yields}
use Rattle.device.specs.Does.{bind}
use Rattle.device.specs.Safe.{Safe, s_end, s_load}
use Rattle.device.specs.Images.{Image, All, None, At}
use Rattle.device.proofs.Safe.{safe_bind}
use Rattle.device.proofs.Image.{at_fresh}
use Rattle.words.specs.Works.{load_words, from_line}
use Rattle.words.specs.Runs.{read_via, read_from, Small}
use Rattle.words.proofs.Runs.{reads_ext, reads_length, safe_load_via}
use Rattle.store.specs.Layout.{slots, root_words, root_line, entry_words, entry_line, dir_words, bit_of, next_of, field, Mind}
use Rattle.store.specs.Works.{rise_work}
use Rattle.store.specs.Shows.{Used, Shows}
use Rattle.store.proofs.Slots.{body_dir}
use Rattle.store.proofs.Drafts.{Held}

reads_word : (g : Image) (line i n p : ℕ) → p < n → get_or (read_from g line i n) p 0 ≡ g (line + (i + p) / 8) ((i + p) % 8)
unfolding read_via
reads_word g line i zero p h = absurd (omega arith)
reads_word g line i (suc n) zero h = ap (λ k. g (line + k / 8) (k % 8)) {x = i} {y = i + 0} (omega arith)
reads_word g line i (suc n) (suc p) h = reads_word g line (i + 1) n p (omega arith) ∙ ap (λ k. g (line + k / 8) (k % 8)) {x = i + 1 + p} {y = i + suc p} (omega arith)

pub reads_word0 : (g : Image) (line n p : ℕ) → p < n → get_or (read_from g line 0 n) p 0 ≡ g (line + p / 8) (p % 8)
reads_word0 g line n p h = reads_word g line 0 n p h ∙ ap (λ k. g (line + k / 8) (k % 8)) {x = 0 + p} {y = p} (omega arith)

-- the directory as it is in the image
pub dir_read : (g : Image) (i k : ℕ) → i < slots → k < entry_words → field (read_from g 16 0 dir_words) i k ≡ g (entry_line i + k / 8) (k % 8)
unfolding field
dir_read g i k hi hk =
    reads_word g 16 0 dir_words (i * 96 + k) (omega arith)
    ∙ ap (λ l. g l ((0 + (i * 96 + k)) % 8)) {x = 16 + (0 + (i * 96 + k)) / 8} {y = entry_line i + k / 8} (omega arith)
    ∙ ap (λ w. g (entry_line i + k / 8) w) {x = (0 + (i * 96 + k)) % 8} {y = k % 8} (omega arith)

-- the mind that rises on such lines
abbrev pub risen : (N : ℕ) → Mind → Image → Mind
risen N x g = record { lines = N; now = 0; word = x.word; page = x.page; dir = read_from g 16 0 dir_words }

pub rising : {R : Lines → Type 0} {Q : Mind → Lines → Type 0} (N : ℕ) (x : Mind) (g : Image) (fp pl : ℕ → List ℕ) (m : Lines) → 32768 ≤ N → At g All None m → Shows N g x fp pl → R m
    → (Shows N g (risen N x g) fp pl → length (risen N x g).dir ≡ dir_words → Q (risen N x g) m) → Safe N Q R (rise_work N) m
unfolding rise_work
rising {R} {Q} N x g fp pl m room a w r q =
    s_load r (omega arith) (omega arith)
    (safe_bind (rest v)
    (safe_load_via m (from_line (root_line (v % 2))) 0 root_words r (λ l h. omega arith)
    (safe_bind (last v p)
    (safe_load_via m (from_line 16) 0 dir_words r (λ l h. omega arith)
    (s_end r (subst (λ y. Q y m) same (q shows long)))))))
  where
    v : ℕ
    v = seen m 0 0

    p : List ℕ
    p = read_from (seen m) (root_line (v % 2)) 0 root_words

    d : List ℕ
    d = read_from (seen m) 16 0 dir_words

    last : ℕ → List ℕ → List ℕ → Work Mind
    last r' p' d' = yields (record { lines = N; now = 0; word = r'; page = p'; dir = d' })

    rest : ℕ → List ℕ → Work Mind
    rest r' p' = bind (load_words 16 0 dir_words) (last r' p')

    ev : x.word ≡ v
    ev = sym w.root ∙ sym (a.shows 0 0)

    ep : x.page ≡ p
    ep = sym w.rooted ∙ sym (reads_ext (seen m) g (from_line (root_line (x.word % 2))) 0 root_words (λ k z. a.shows _ _)) ∙ ap (λ u. read_from (seen m) (root_line (u % 2)) 0 root_words) ev

    ed : read_from g 16 0 dir_words ≡ d
    ed = sym (reads_ext (seen m) g (from_line 16) 0 dir_words (λ k z. a.shows _ _))

    same : risen N x g ≡ record { lines = N; now = 0; word = v; page = p; dir = d }
    same = λ i. record { lines = N; now = 0; word = ev i; page = ep i; dir = ed i }

    long : length (read_from g 16 0 dir_words) ≡ dir_words
    long = reads_length g (from_line 16) 0 dir_words

    shows : Shows N g (risen N x g) fp pl
    shows = record {
      lines = refl;
      root = w.root;
      rooted = w.rooted;
      small = w.small;
      body = body_dir N g x.page x.dir (read_from g 16 0 dir_words) fp pl (λ i u k h. dir_read g i k u.0 h ∙ w.body.entries i u k h) w.body;
    }

-- new memory: no slot is in use
abbrev pub new_mind : ℕ → Mind
new_mind N = record { lines = N; now = 0; word = 0; page = read_from (λ l w. 0) 1 0 root_words; dir = read_from (λ l w. 0) 16 0 dir_words }

reads_zero : (line i n k : ℕ) → get_or (read_from (λ l w. 0) line i n) k 0 ≡ 0
unfolding read_via
reads_zero line i zero k = refl
reads_zero line i (suc n) zero = refl
reads_zero line i (suc n) (suc k) = reads_zero line (i + 1) n k

zeros_small : (line i n : ℕ) → Small (read_from (λ l w. 0) line i n)
unfolding read_via
zeros_small line i zero = tt
zeros_small line i (suc n) = (omega arith, zeros_small line (i + 1) n)

bits_none : (off i : ℕ) → bit_of off (read_from (λ l w. 0) 1 0 root_words) i ≡ 0
unfolding bit_of
bits_none off i = ap (λ v. v / 2 ^ (i % 64) % 2) (reads_zero 1 0 root_words (off + i / 64)) ∙ ap (λ v. v % 2) (zero-div (2 ^ (i % 64)))

pub fresh_none : (i : ℕ) → Used (read_from (λ l w. 0) 1 0 root_words) i → ⊥
fresh_none i u = let z = bits_none 1 i in omega (arith, u.1)

pub fresh_held : (N : ℕ) → Held N (new_mind N) (λ i. []) (λ i. []) fresh_lines
fresh_held N = (
  λ l w. 0,
  at_fresh,
  record {
    lines = refl;
    root = refl;
    rooted = refl;
    small = zeros_small 1 0 root_words;
    body = record {
      sane = record { sizes = λ i u. absurd (fresh_none i u); fits = λ i k u h. absurd (fresh_none i u); each = λ i k j l u. absurd (fresh_none i u) };
      entries = λ i u. absurd (fresh_none i u);
      pages = λ i u. absurd (fresh_none i u);
      plans = λ i u. absurd (fresh_none i u);
    };
  },
)

pub fresh_next : 1 ≡ next_of (read_from (λ l w. 0) 1 0 root_words)
fresh_next = ap (λ v. v + 1) (sym (reads_zero 1 0 root_words 0))

pub fresh_long : length (read_from (λ l w. 0) 16 0 dir_words) ≡ dir_words
fresh_long = reads_length (λ l w. 0) (from_line 16) 0 dir_words
