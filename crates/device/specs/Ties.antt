-- Memory that gives what was stored last: what is done on it is done on lines.
-- Assumes nothing.
use Rattle.std.specs.Prelude.{◌≡◌, Bool, true, false}
use Rattle.device.specs.Lines.{Lines, seen, stored, pushed_back, fenced, Work, Worked, Partly}
use Rattle.device.specs.Does.{Op, Loaded, Stored, Pushed, Fenced, Did}

-- the lines after an operation
abbrev pub After : Op → Lines → Lines
After (Loaded l k v) m = m
After (Stored l k v) m = stored l k v m
After (Pushed l) m = pushed_back l m
After Fenced m = fenced m

-- a load gives what is seen
abbrev pub Gives : Op → Lines → Type 0
Gives (Loaded l k v) m = v ≡ seen m l k
Gives (Stored l k v) m = Unit {0}
Gives (Pushed l) m = Unit {0}
Gives Fenced m = Unit {0}

-- stands s m: the memory s holds the lines m. An operation is the given one on lines, unless the memory stops in it: then it was not done,
-- and nothing is done from then on, as if the power had failed.
pub record Follows {S : Type 0} (stopped : S → Bool) (stands : S → Lines → Type 0) (s : S) (o : Op) (t : S) : Type 0 where
  pub goes : stopped t ≡ false → (m : Lines) → stands s m → Gives o m × stands t (After o m)
  pub stops : stopped t ≡ true → (m : Lines) → stands s m → stands t m
  pub still : stopped s ≡ true → stopped t ≡ true

-- each operation of the memory does so
abbrev pub Coheres : {S : Type 0} (step : S → Op → S → Type 0) (stopped : S → Bool) (stands : S → Lines → Type 0) → Type 0
Coheres {S} step stopped stands = (s : S) (o : Op) (t : S) → step s o t → Follows stopped stands s o t

-- Work that was done on such memory was done on its lines: in part in any case, and to the end where the memory has not stopped.
abbrev pub Ties : {S : Type 0} (step : S → Op → S → Type 0) (stopped : S → Bool) (stands : S → Lines → Type 0) (A : Type 0) → Type 0
Ties {S} step stopped stands A =
    (w : Work A) (s t : S) (a : A) (m : Lines) → Did step w s a t → stands s m
    → (n : Lines) × Partly w m n × stands t n × (stopped t ≡ false → Worked w m a n)
