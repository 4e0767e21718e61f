-- The tokens of a plan's text. Assumes nothing.
use Rattle.std.specs.Prelude.{ℕ, List}
use Rattle.plans.specs.Plan.{Name}

pub data Key : Type 0 where
  SET DO TRIES PAUSE SLEEP HEAR FOR IF ELSE WHILE GUARD RETURN FAIL NOT OPEN CLOSE BEGIN END COMMA : Key

pub data Op : Type 0 where
  PLUS MINUS TIMES LESS SAME : Op

pub data Token : Type 0 where
  number : ℕ → Token
  variable : ℕ → Token
  name : Name → Token
  op : Op → Token
  key : Key → Token

-- what was read, and what follows it
pub data Got (A : Type 0) : Type 0 where
  fails : Got A
  got : A → List Token → Got A
