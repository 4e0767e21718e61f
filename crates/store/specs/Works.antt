-- The work on the layout. Assumes nothing.
use Rattle.std.specs.Prelude.{ℕ, ◌+◌, ◌-◌, ◌*◌, ◌/◌, ◌%◌, List, length}
use Rattle.device.specs.Lines.{Work, yields, load}
use Rattle.device.specs.Does.{bind}
use Rattle.device.specs.Flips.{commit_work}
use Rattle.words.specs.Works.{load_via, save_via, load_words, save_words}
use Rattle.store.specs.Layout.{root_words, root_lines, root_line, entry_lines, entry_line, dir_words, page_words, page_lines, pick_of, size_at, page_at, plan_at, Mind}

-- rising only loads: the root word, the root page that it picks, the directory
unfoldable pub rise_work : (lines : ℕ) → Work Mind
rise_work lines = load 0 0 (λ r. bind (load_words (root_line (r % 2)) 0 root_words) (λ p. bind (load_words 16 0 dir_words) (λ d. yields (record { lines = lines; now = 0; word = r; page = p; dir = d }))))

-- a slot's page as it counts, and its plan
unfoldable pub load_page : (lines : ℕ) → (root dir : List ℕ) → (slot : ℕ) → Work (List ℕ)
load_page lines q d i = load_via (page_at lines d i (pick_of q i)) 0 page_words

unfoldable pub load_plan : (lines : ℕ) → (dir : List ℕ) → (slot : ℕ) → Work (List ℕ)
load_plan lines d i = load_via (plan_at lines d i) 0 (4 * size_at d i)

-- a copy of a slot's page
unfoldable pub save_page : (lines : ℕ) → (dir : List ℕ) → (slot copy : ℕ) → List ℕ → Work (Unit {0})
save_page lines d i c ws = save_via (page_at lines d i c) page_lines ws

-- the entry of a slot that is not in use
unfoldable pub save_entry : (slot : ℕ) → List ℕ → Work (Unit {0})
save_entry i es = save_words (entry_line i) entry_lines es

-- a new plan, into the blocks of the entry that a directory has for its slot
unfoldable pub save_plan : (lines : ℕ) → (dir : List ℕ) → (slot : ℕ) → List ℕ → Work (Unit {0})
save_plan lines d i ws = save_via (plan_at lines d i) ((length ws + 7) / 8) ws

-- the other root page, and then it counts
unfoldable pub flip_to : (word : ℕ) → List ℕ → Work (Unit {0})
flip_to r q = bind (save_words (root_line (1 - r % 2)) root_lines q) (λ z. commit_work 0 0 (1 - r % 2))
