-- The meaning of a call: its plan is read. Assumes nothing.
use Rattle.std.specs.Prelude.{ℕ, List, [], ◌∷◌}
use Rattle.text.specs.Text.{Reading, nothing, plan, read_text}
use Rattle.flows.specs.House.{Call, Start, Tell, Cancel, Take, Longer, Report, Show, Forget, Tick}
use Rattle.calls.specs.Raw.{Raw, Start', Tell', Cancel', Take', Longer', Report', Show', Forget', Time'}

-- a text that is no plan starts nothing
abbrev pub started : List ℕ → List ℕ → Reading → List Call
started k ws nothing = []
started k ws (plan b) = Start k b ws ∷ []

-- at most one call
abbrev pub call_of : Raw → List Call
call_of (Start' k t ws) = started k ws (read_text 65536 t)
call_of (Tell' k n v) = Tell k n v ∷ []
call_of (Cancel' k) = Cancel k ∷ []
call_of (Take' ks ms) = Take ks ms ∷ []
call_of (Longer' f s a ms) = Longer f s a ms ∷ []
call_of (Report' f s a w v) = Report f s a w v ∷ []
call_of (Show' k) = Show k ∷ []
call_of (Forget' k) = Forget k ∷ []
call_of (Time' t) = Tick t ∷ []
