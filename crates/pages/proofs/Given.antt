-- What holds of a value holds of what equals it. Assumes nothing.
use Rattle.std.proofs.Common.{◌≡◌, sym, subst}

pub given_as : {A : Type 0} (P : A → Type 0) (a r : A) → P a → r ≡ a → P r
given_as P a r p e = subst P (sym e) p
