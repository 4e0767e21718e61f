-- The calls of a script, and their bytes. Assumes nothing.
use Rattle.std.specs.Prelude.{◌≡◌, ℕ, Bool, true, cond, ◌&&◌, List, Some, None, vec_items, vec_len, Option, nat_lt}
use Rattle.calls.specs.Raw.{Raw, Start', Tell', Cancel', Take', Longer', Report', Show', Forget', Time', raw_bytes}
use Rattle.scripts.specs.declared.lines.Asked.{Asked}
use Rattle.scripts.specs.declared.lines.Asked.TheVariants.{Start, Tell, Cancel, Take, Longer, Report, Show, Forget, Time}
use Rattle.scripts.specs.declared.lines.Line.{Line}
use Rattle.scripts.specs.declared.lines.Line.TheVariants.{Lines, Call, In, Fail, Table, Work, Flows}

-- the call that it stands for
abbrev pub raw_of : Asked → Raw
raw_of (Start key words plan) = Start' (vec_items key) (vec_items plan) (vec_items words)
raw_of (Tell key name value) = Tell' (vec_items key) (vec_items name) value
raw_of (Cancel key) = Cancel' (vec_items key)
raw_of (Take kinds ms) = Take' (vec_items kinds) ms
raw_of (Longer flow step attempt ms) = Longer' flow.0 step.0 attempt.0 ms
raw_of (Report flow step attempt well value) = Report' flow.0 step.0 attempt.0 well value
raw_of (Show key) = Show' (vec_items key)
raw_of (Forget key) = Forget' (vec_items key)
raw_of (Time ms) = Time' ms

-- its parts are no longer than their lengths can tell
abbrev pub fits : Asked → Bool
fits (Start key words plan) = nat_lt (vec_len key) 256 && (nat_lt (vec_len plan) 4294967296 && nat_lt (vec_len words) 256)
fits (Tell key name value) = nat_lt (vec_len key) 256 && nat_lt (vec_len name) 256
fits (Cancel key) = nat_lt (vec_len key) 256
fits (Take kinds ms) = nat_lt (vec_len kinds) 256
fits (Longer flow step attempt ms) = true
fits (Report flow step attempt well value) = true
fits (Show key) = nat_lt (vec_len key) 256
fits (Forget key) = nat_lt (vec_len key) 256
fits (Time ms) = true

abbrev pub bytes_of : Asked → Option (List ℕ)
bytes_of a = cond (fits a) (Some (raw_bytes (raw_of a))) None

-- the bytes of a line that is a call
abbrev pub line_bytes : Line → Option (List ℕ)
line_bytes (Lines n) = None
line_bytes (Call a) = bytes_of a
line_bytes (In bytes) = None
line_bytes (Fail stores seed) = None
line_bytes (Table kind expression) = None
line_bytes (Work kinds ms seed bad) = None
line_bytes Flows = None

-- a call that has its bytes, if it is a call at all
abbrev pub Sayable : Line → Type 0
Sayable (Lines n) = Unit {0}
Sayable (Call a) = fits a ≡ true
Sayable (In bytes) = Unit {0}
Sayable (Fail stores seed) = Unit {0}
Sayable (Table kind expression) = Unit {0}
Sayable (Work kinds ms seed bad) = Unit {0}
Sayable Flows = Unit {0}
