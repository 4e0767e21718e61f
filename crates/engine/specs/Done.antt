-- What the code of a call does. Assumes nothing.
use Rattle.std.specs.Prelude.{◌≡◌, ℕ, ◌-◌, ◌%◌, List, [], ◌∷◌, Ok, Err, Result}
use Rattle.flows.specs.House.{Reply as Meant}
use Rattle.plans.specs.declared.eval.Damaged.{Damaged}
use Rattle.wire.specs.declared.Refusal.{Refusal}
use Rattle.wire.specs.declared.Refusal.TheVariants.{NotFound, NotOut as NotTriedOut}
use Rattle.pages.specs.declared.flow.Untried.{Untried}
use Rattle.pages.specs.declared.flow.Untried.TheVariants.{NoTask, NotOut}
use Rattle.calls.specs.Replies.{Reply, reply_bytes, bytes_of}
use Rattle.device.specs.Lines.{Work}
use Rattle.device.specs.Does.{Op, Did}
use Rattle.store.specs.Layout.{Mind}
use Rattle.engine.specs.declared.held.Held.{Held}
use Rattle.engine.specs.Works.{Answer}

-- the mind that the code has: how many lines there are, what it holds, the directory
abbrev pub mind_of : (lines : ℕ) → Held → (dir : List ℕ) → Mind
mind_of n h d = record { lines = n; now = h.time; word = h.word; page = h.root; dir = d }

-- after a flip to another root page
abbrev pub held_as : List ℕ → Held → Held
held_as q h = record { time = h.time; word = 1 - h.word % 2; root = q }

-- why what a worker speaks of is turned away
abbrev pub refusal_of : Untried → Refusal
refusal_of NoTask = NotFound
refusal_of NotOut = NotTriedOut

-- an answer's bytes; memory that holds the words of no house has a number that no refusal has, and it never goes out
abbrev pub bytes_out : Result Reply Damaged → List ℕ
bytes_out (Ok r) = bytes_of r
bytes_out (Err d) = 0 ∷ 0 ∷ []

-- the work was done, it left this mind, and its reply goes out as what was returned
pub record Done {S : Type 0} (step : S → Op → S → Type 0) (w : Work Answer) (s : S) (r : Result Reply Damaged) (x : Mind) (t : S) : Type 0 where
  pub meant : Meant
  pub did : Did step w s (record { reply = meant; mind = x }) t
  pub says : reply_bytes meant ≡ bytes_out r
