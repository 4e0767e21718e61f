-- The answer to a call. Assumes nothing.
use Rattle.std.specs.Prelude.{ℕ, ◌≡◌, ◌<◌, ◌≤◌, cond, List, [], ◌∷◌, ◌==◌, Result}
use Rattle.flows.specs.House.{Call, No}
use Rattle.plans.specs.declared.eval.Damaged.{Damaged}
use Rattle.device.specs.Lines.{Work}
use Rattle.device.specs.Does.{Op}
use Rattle.store.specs.Layout.{Mind}
use Rattle.calls.specs.Raw.{Raw}
use Rattle.calls.specs.Called.{call_of}
use Rattle.calls.specs.Stands.{InRange}
use Rattle.calls.specs.Replies.{Reply}
use Rattle.engine.specs.declared.held.Held.{Held}
use Rattle.engine.specs.Works.{Answer, said, acts, does}
use Rattle.engine.specs.Done.{mind_of, Done}

-- what was read as no call of the meaning is no plan's text: it is refused, like all before a time was told
unfoldable pub answers : List Call → Mind → Work Answer
answers [] x = cond (x.now == 0) (said (No 10) x) (said (No 1) x)
answers (c ∷ cs) x = does c x

-- the same, once a time was told
unfoldable pub acts_on : List Call → Mind → Work Answer
acts_on [] x = said (No 1) x
acts_on (c ∷ cs) x = acts c x

-- a call on a house, from one state of its memory, of what it holds and of its directory to others; the memory keeps its size, and so its limits;
-- a time that one may be told (`early`), or that a run may be told (`clock`), is followed by such a time
pub record Served {S : Type 0} (step : S → Op → S → Type 0) (size : S → ℕ) (w : Mind → Work Answer) (s : S) (h : Held) (d : List ℕ) (r : Result Reply Damaged) (t : S) (k : Held) (e : List ℕ) : Type 0 where
  pub done : Done step (w (mind_of (size s) h d)) s r (mind_of (size s) k e) t
  pub stays : size t ≡ size s
  pub early : h.time < 4611686018427387904 → k.time < 4611686018427387904
  pub clock : h.time ≤ 4611686018427387904 → k.time ≤ 4611686018427387904

-- a call such as bytes can hold is answered as it is meant
abbrev pub Serves : {S : Type 0} (step : S → Op → S → Type 0) (size : S → ℕ) → Raw → S → Held → (dir : List ℕ) → Result Reply Damaged → S → Held → (dir : List ℕ) → Type 0
Serves step size c s h d r t k e = InRange c → Served step size (answers (call_of c)) s h d r t k e
