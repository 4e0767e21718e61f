-- The calls as bytes. Assumes nothing.
use Rattle.std.specs.Prelude.{ℕ, Bool, cond, ◌&&◌, List, ◌∷◌, ◌++◌, length, drop, Some, None, Option, ◌==◌, nat_le, slice_index}
use Rattle.calls.specs.Bytes.{two_at, four_at, eight_at, words_in, kinds_in, two_bytes, four_bytes, eight_bytes, all_eight, all_four}
use Rattle.calls.specs.Parts.{Front, short_in, long_in, many_in}

-- a call whose plan is still a text
pub data Raw : Type 0 where
  Start' : (key text words : List ℕ) → Raw
  Tell' : (key name : List ℕ) → (value : ℕ) → Raw
  Cancel' : (key : List ℕ) → Raw
  Take' : (kinds : List ℕ) → (ms : ℕ) → Raw
  Longer' : (flow step attempt ms : ℕ) → Raw
  Report' : (flow step attempt : ℕ) → (well : Bool) → (value : ℕ) → Raw
  Show' : (key : List ℕ) → Raw
  Forget' : (key : List ℕ) → Raw
  Time' : (ms : ℕ) → Raw

-- THE BYTES OF A CALL: its kind, and then its parts -------------------------------

abbrev pub short_bytes : List ℕ → List ℕ
short_bytes bs = length bs ∷ bs

abbrev pub long_bytes : List ℕ → List ℕ
long_bytes bs = four_bytes (length bs) ++ bs

abbrev pub bit : Bool → ℕ
bit b = cond b 1 0

unfoldable pub raw_bytes : Raw → List ℕ
raw_bytes (Start' k t ws) = 1 ∷ short_bytes k ++ (long_bytes t ++ (length ws ∷ all_eight ws))
raw_bytes (Tell' k n v) = 2 ∷ short_bytes k ++ (short_bytes n ++ eight_bytes v)
raw_bytes (Cancel' k) = 3 ∷ short_bytes k
raw_bytes (Take' ks ms) = 4 ∷ length ks ∷ all_four ks ++ four_bytes ms
raw_bytes (Longer' f s a ms) = 5 ∷ eight_bytes f ++ (eight_bytes s ++ (two_bytes a ++ four_bytes ms))
raw_bytes (Report' f s a w v) = 6 ∷ eight_bytes f ++ (eight_bytes s ++ (two_bytes a ++ (bit w ∷ eight_bytes v)))
raw_bytes (Show' k) = 7 ∷ short_bytes k
raw_bytes (Forget' k) = 8 ∷ short_bytes k
raw_bytes (Time' t) = 9 ∷ eight_bytes t

-- WHICH BYTES ARE WHICH CALL: each from behind its kind; nothing may follow ---------

-- one key and no more
abbrev pub only_key : Option Front → Option (List ℕ)
only_key None = None
only_key (Some k) = cond (length k.rest == 0) (Some k.part) None

abbrev pub keyed : (List ℕ → Raw) → Option (List ℕ) → Option Raw
keyed c None = None
keyed c (Some k) = Some (c k)

abbrev pub start_words : List ℕ → List ℕ → Option Front → Option Raw
start_words k t None = None
start_words k t (Some ws) = cond (length ws.rest == 0) (Some (Start' k t (words_in ws.part))) None

abbrev pub start_plan : List ℕ → Option Front → Option Raw
start_plan k None = None
start_plan k (Some t) = start_words k t.part (many_in 8 t.rest)

abbrev pub start_key : Option Front → Option Raw
start_key None = None
start_key (Some k) = start_plan k.part (long_in k.rest)

abbrev pub tell_name : List ℕ → Option Front → Option Raw
tell_name k None = None
tell_name k (Some n) = cond (length n.rest == 8) (Some (Tell' k n.part (eight_at n.rest 0))) None

abbrev pub tell_key : Option Front → Option Raw
tell_key None = None
tell_key (Some k) = tell_name k.part (short_in k.rest)

abbrev pub take_kinds : Option Front → Option Raw
take_kinds None = None
take_kinds (Some ks) = cond (length ks.rest == 4) (Some (Take' (kinds_in ks.part) (four_at ks.rest 0))) None

abbrev pub longer_in : List ℕ → Option Raw
longer_in f = cond (length f == 22) (Some (Longer' (eight_at f 0) (eight_at f 8) (two_at f 16) (four_at f 18))) None

abbrev pub report_in : List ℕ → Option Raw
report_in f = cond (length f == 27 && nat_le (slice_index f 18) 1) (Some (Report' (eight_at f 0) (eight_at f 8) (two_at f 16) (slice_index f 18 == 1) (eight_at f 19))) None

abbrev pub time_in : List ℕ → Option Raw
time_in f = cond (length f == 8) (Some (Time' (eight_at f 0))) None

-- the call of a kind
unfoldable pub kind_in : ℕ → List ℕ → Option Raw
kind_in n f =
    cond (n == 1) (start_key (short_in f))
    (cond (n == 2) (tell_key (short_in f))
    (cond (n == 3) (keyed Cancel' (only_key (short_in f)))
    (cond (n == 4) (take_kinds (many_in 4 f))
    (cond (n == 5) (longer_in f)
    (cond (n == 6) (report_in f)
    (cond (n == 7) (keyed Show' (only_key (short_in f)))
    (cond (n == 8) (keyed Forget' (only_key (short_in f)))
    (cond (n == 9) (time_in f) None))))))))

abbrev pub raw_in : List ℕ → Option Raw
raw_in f = cond (nat_le 1 (length f)) (kind_in (slice_index f 0) (drop 1 f)) None
