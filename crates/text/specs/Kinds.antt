-- Operations in the flat form, by the kind of their unit. Assumes nothing.
use Rattle.std.specs.Prelude.{◌≡◌, ℕ, Ok, Err, Result, ◌≢◌}
use Rattle.text.specs.Token.{Op, PLUS, MINUS, TIMES, LESS, SAME}
use Rattle.text.specs.Ahead.{operator_meant}
use Rattle.text.specs.declared.Operator.{Operator}
use Rattle.text.specs.declared.NoOperation.{NoOperation}

abbrev pub op_kind : Op → ℕ
op_kind PLUS = 18
op_kind MINUS = 19
op_kind TIMES = 20
op_kind LESS = 21
op_kind SAME = 22

abbrev pub kind_of : Operator → ℕ
kind_of o = op_kind (operator_meant o)

-- a unit of this kind is this operation, or none
abbrev pub Operates : ℕ → Result Operator NoOperation → Type 0
Operates k (Ok o) = k ≡ kind_of o
Operates k (Err e) = (o : Op) → k ≢ op_kind o
