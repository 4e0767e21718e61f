-- What the code's values are in the meaning. Assumes nothing.
use Rattle.std.specs.Prelude.{ℕ, List, Some, None, Option}
use Rattle.calls.specs.Bytes.{eight_at, four_at}
use Rattle.calls.specs.Held.{numbers_held}
use Rattle.calls.specs.Parts.{Front}
use Rattle.calls.specs.Raw.{Raw, Start', Tell', Cancel', Take', Longer', Report', Show', Forget', Time'}
use Rattle.calls.specs.declared.lines.Frame.{Frame}
use Rattle.calls.specs.declared.read.Cut.{Cut}
use Rattle.calls.specs.declared.types.Numbers.{Numbers}
use Rattle.calls.specs.declared.types.Call.{Call}
use Rattle.calls.specs.declared.types.Call.TheVariants.{Start, Tell, Cancel, Take, Longer, Report, Show, Forget, Time}

abbrev pub cut_seen : Option Cut → Option Front
cut_seen None = None
cut_seen (Some c) = Some (record { part = c.part.now; rest = c.rest.now })

abbrev pub words_held : Numbers ℕ → List ℕ
words_held w = numbers_held 8 eight_at w

abbrev pub kinds_held : Numbers ℕ → List ℕ
kinds_held k = numbers_held 4 four_at k

-- a call with the bytes that its parts are
abbrev pub raw_of : Call → Raw
raw_of (Start key plan words) = Start' key.now plan.now (words_held words)
raw_of (Tell key name value) = Tell' key.now name.now value
raw_of (Cancel key) = Cancel' key.now
raw_of (Take kinds ms) = Take' (kinds_held kinds) ms
raw_of (Longer flow step attempt ms) = Longer' flow.0 step.0 attempt.0 ms
raw_of (Report flow step attempt well value) = Report' flow.0 step.0 attempt.0 well value
raw_of (Show key) = Show' key.now
raw_of (Forget key) = Forget' key.now
raw_of (Time ms) = Time' ms

abbrev pub call_seen : Option Call → Option Raw
call_seen None = None
call_seen (Some c) = Some (raw_of c)

abbrev pub body_seen : Frame → Option (List ℕ)
body_seen f = elim f.call [ None ↦ None | Some b ↦ Some b.now ]
