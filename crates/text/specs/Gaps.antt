-- Between the tokens. Assumes nothing.
use Rattle.std.specs.Prelude.{ℕ, Bool, true, false, cond, not, ◌||◌, [], ◌==◌}
use Rattle.text.specs.Lexer.{Mode, word, remark}

abbrev pub goes_on : Bool → ℕ → Bool
goes_on r b = r || b == 32 || b == 9 || b == 13 || b == 10 || b == 35

abbrev pub in_remark : Bool → ℕ → Bool
in_remark r b = cond r (not (b == 10)) (b == 35)

abbrev pub mode_of : Bool → Mode
mode_of true = remark
mode_of false = word []
