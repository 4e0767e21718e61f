-- The bytes of a call are read as that call. Assumes nothing.
use Rattle.std.specs.Prelude.{◌≡◌, ℕ, ◌<◌, true, List, [], ◌∷◌, length, Some, None, Option}
use Rattle.flows.specs.House.{Call, carried}
use Rattle.calls.specs.Called.{call_of}
use Rattle.calls.specs.Raw.{Raw, Start', Tell', Cancel', Take', Longer', Report', Show', Forget', Time', raw_bytes, raw_in}

-- each is below m
unfoldable pub Below : ℕ → List ℕ → Type 0
Below m [] = Unit {0}
Below m (x ∷ xs) = (x < m) × Below m xs

pub record Short (bs : List ℕ) : Type 0 where
  pub few : length bs < 256
  pub bytes : Below 256 bs

pub record StartIn (k t ws : List ℕ) : Type 0 where
  pub key : Short k
  pub few : length t < 4294967296
  pub bytes : Below 256 t
  pub count : length ws < 256
  pub words : Below 18446744073709551616 ws

pub record TellIn (k n : List ℕ) (v : ℕ) : Type 0 where
  pub key : Short k
  pub name : Short n
  pub value : v < 18446744073709551616

pub record TakeIn (ks : List ℕ) (m : ℕ) : Type 0 where
  pub count : length ks < 256
  pub kinds : Below 4294967296 ks
  pub ms : m < 4294967296

pub record TryIn (f s a : ℕ) : Type 0 where
  pub flow : f < 18446744073709551616
  pub step : s < 18446744073709551616
  pub attempt : a < 65536

-- what the bytes can hold
abbrev pub InRange : Raw → Type 0
InRange (Start' k t ws) = StartIn k t ws
InRange (Tell' k n v) = TellIn k n v
InRange (Cancel' k) = Short k
InRange (Take' ks ms) = TakeIn ks ms
InRange (Longer' f s a ms) = TryIn f s a × (ms < 4294967296)
InRange (Report' f s a w v) = TryIn f s a × (v < 18446744073709551616)
InRange (Show' k) = Short k
InRange (Forget' k) = Short k
InRange (Time' t) = t < 18446744073709551616

abbrev pub ReadsBack : Type 0
ReadsBack = (c : Raw) → InRange c → raw_in (raw_bytes c) ≡ Some c

-- and no other bytes are
abbrev pub ReadsOnly : Type 0
ReadsOnly = (f : List ℕ) (c : Raw) → Below 256 f → raw_in f ≡ Some c → raw_bytes c ≡ f

-- of what is read
abbrev pub InRangeOf : Option Raw → Type 0
InRangeOf None = Unit {0}
InRangeOf (Some c) = InRange c

-- and the meaning's calls are such as a line carries
abbrev pub AllCarried : List Call → Type 0
AllCarried [] = Unit {0}
AllCarried (m ∷ ms) = (carried m ≡ true) × AllCarried ms

abbrev pub CallsCarried : Type 0
CallsCarried = (c : Raw) → InRange c → AllCarried (call_of c)
