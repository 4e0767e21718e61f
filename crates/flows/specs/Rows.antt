-- Worked cases: calls with the replies that are expected of them, and failures of power between them.
use Rattle.std.specs.Prelude.{◌≡◌, ℕ, true, false, List, [], ◌∷◌, map}
use Rattle.plans.specs.Plan.{Name, Lit, Var, Plus, Do, Hear, While, Guard, Return, FailNow, Block, done, then, Busy, Tasked, Listens, Ended, Failed}
use Rattle.flows.specs.House.{House, blank, down, Call, Start, Tell, Cancel, Take, Report, Show, Forget, Tick, Reply, No, Yes, Flow', Job, Nothing, State, does}

pub data Row : Type 0 where
  row : Call → Reply → Row
  falls : Row

-- what is answered, row by row
unfoldable pub replies : House → List Row → List Reply
replies h [] = []
replies h (row c r ∷ rs) = (does c h).reply ∷ replies (does c h).house rs
replies h (falls ∷ rs) = replies (down h) rs

-- what is expected
unfoldable pub expected : List Row → List Reply
expected [] = []
expected (row c r ∷ rs) = r ∷ expected rs
expected (falls ∷ rs) = expected rs

-- v1 = do 7 (v0) tries 2 pause 10  return v1 + 1
abbrev pub plan_a : Block
plan_a = then (Do 1 7 (Var 0 ∷ []) 2 10) (then (Return (Plus (Var 1) (Lit 1))) done)

-- while 1 { }
abbrev pub plan_d : Block
plan_d = then (While (Lit 1) done) done

-- guard { v1 = do 7 () tries 1 pause 0  fail } else { return 3 }
abbrev pub plan_e : Block
plan_e = then (Guard (then (Do 1 7 [] 1 0) (then FailNow done)) (then (Return (Lit 3)) done)) done

abbrev pub word_n : Name
word_n = 110 ∷ []

-- v1, v2 = hear n for 100  return v1 + v2
abbrev pub plan_g : Block
plan_g = then (Hear 1 2 word_n (Lit 100)) (then (Return (Plus (Var 1) (Var 2))) done)

-- v1 = do 7 () tries 1 pause 0, and then as plan_g
abbrev pub plan_f : Block
plan_f = then (Do 1 7 [] 1 0) plan_g

abbrev pub key : ℕ → Name
key n = n ∷ []

-- A: a task is taken, its result goes on
abbrev pub case_a : List Row
case_a =
    row (Show (key 97)) (No 10) ∷
    row (Tick 1) Yes ∷
    row (Start (key 97) plan_a (5 ∷ [])) (Flow' 1) ∷
    row (Show (key 97)) (State (Tasked 0)) ∷
    row (Take (7 ∷ []) 100) (Job 1 0 1 7 (5 ∷ [])) ∷
    row (Report 1 0 1 true 8) Yes ∷
    row (Show (key 97)) (State (Ended 9)) ∷ []

-- B: a bad report, a pause, a second try that is not heard of
abbrev pub case_b : List Row
case_b =
    row (Tick 1) Yes ∷
    row (Start (key 98) plan_a (5 ∷ [])) (Flow' 1) ∷
    row (Take (7 ∷ []) 100) (Job 1 0 1 7 (5 ∷ [])) ∷
    row (Report 1 0 1 false 0) Yes ∷
    row (Take (7 ∷ []) 100) Nothing ∷
    row (Tick 10) Yes ∷
    row (Take (7 ∷ []) 100) Nothing ∷
    row (Tick 11) Yes ∷
    row (Take (7 ∷ []) 100) (Job 1 0 2 7 (5 ∷ [])) ∷
    row (Tick 111) Yes ∷
    row (Show (key 98)) (State (Tasked 0)) ∷
    row (Tick 112) Yes ∷
    row (Show (key 98)) (State Failed) ∷ []

-- C: power fails while a try is out; its report counts, once
abbrev pub case_c : List Row
case_c =
    row (Tick 1) Yes ∷
    row (Start (key 99) plan_a (5 ∷ [])) (Flow' 1) ∷
    row (Take (7 ∷ []) 100) (Job 1 0 1 7 (5 ∷ [])) ∷
    falls ∷
    row (Report 1 0 1 true 8) (No 10) ∷
    row (Tick 2) Yes ∷
    row (Take (7 ∷ []) 100) Nothing ∷
    row (Report 1 0 1 true 8) Yes ∷
    row (Show (key 99)) (State (Ended 9)) ∷
    row (Report 1 0 1 true 8) (No 2) ∷ []

-- D: one that never rests is busy, and holds up no other
abbrev pub case_d : List Row
case_d =
    row (Tick 1) Yes ∷
    row (Start (key 100) plan_d []) (Flow' 1) ∷
    row (Show (key 100)) (State Busy) ∷
    row (Start (key 97) plan_a (5 ∷ [])) (Flow' 2) ∷
    row (Take (7 ∷ []) 100) (Job 2 0 1 7 (5 ∷ [])) ∷
    row (Tick 2) Yes ∷
    row (Report 2 0 1 true 8) Yes ∷
    row (Show (key 97)) (State (Ended 9)) ∷
    row (Show (key 100)) (State Busy) ∷
    row (Cancel (key 100)) Yes ∷
    row (Show (key 100)) (State Failed) ∷
    row (Cancel (key 100)) (No 3) ∷ []

-- E: whatever the report, the guard's other part is done
abbrev pub case_e : List Row
case_e =
    row (Tick 1) Yes ∷
    row (Start (key 101) plan_e []) (Flow' 1) ∷
    row (Take (7 ∷ []) 100) (Job 1 0 1 7 []) ∷
    row (Report 1 0 1 true 8) Yes ∷
    row (Show (key 101)) (State (Ended 3)) ∷
    row (Start (key 102) plan_e []) (Flow' 2) ∷
    row (Take (7 ∷ []) 100) (Job 2 0 1 7 []) ∷
    row (Report 2 0 1 false 0) Yes ∷
    row (Show (key 102)) (State (Ended 3)) ∷ []

-- F: a word that comes early waits in the box
abbrev pub case_f : List Row
case_f =
    row (Tick 1) Yes ∷
    row (Start (key 99) plan_f []) (Flow' 1) ∷
    row (Tell (key 99) word_n 4) Yes ∷
    row (Show (key 99)) (State (Tasked 0)) ∷
    row (Take (7 ∷ []) 100) (Job 1 0 1 7 []) ∷
    row (Report 1 0 1 true 8) Yes ∷
    row (Show (key 99)) (State (Ended 5)) ∷ []

-- G: a word that doesn't come
abbrev pub case_g : List Row
case_g =
    row (Tick 50) Yes ∷
    row (Start (key 103) plan_g []) (Flow' 1) ∷
    row (Tick 149) Yes ∷
    row (Show (key 103)) (State (Listens 1 2 word_n 150)) ∷
    row (Tick 150) Yes ∷
    row (Show (key 103)) (State (Ended 0)) ∷ []

-- H: the same key is the same flow, until it is forgotten
abbrev pub case_h : List Row
case_h =
    row (Tick 1) Yes ∷
    row (Start (key 97) plan_a (5 ∷ [])) (Flow' 1) ∷
    row (Start (key 97) plan_g []) (Flow' 1) ∷
    row (Show (key 97)) (State (Tasked 0)) ∷
    row (Forget (key 97)) (No 3) ∷
    row (Take (7 ∷ []) 100) (Job 1 0 1 7 (5 ∷ [])) ∷
    row (Report 1 0 1 true 8) Yes ∷
    row (Show (key 97)) (State (Ended 9)) ∷
    row (Forget (key 97)) Yes ∷
    row (Show (key 97)) (No 2) ∷
    row (Start (key 97) plan_g []) (Flow' 2) ∷
    row (Show (key 97)) (State (Listens 1 2 word_n 101)) ∷ []

-- each from a house that is blank
abbrev pub cases : List (List Row)
cases = case_a ∷ case_b ∷ case_c ∷ case_d ∷ case_e ∷ case_f ∷ case_g ∷ case_h ∷ []

abbrev pub CasesStand : Type 0
CasesStand = map (replies blank) cases ≡ map expected cases
