-- Levels are ordered as the grammar ranks them. Assumes nothing.
use Rattle.std.proofs.Common.{◌≡◌, refl}
use Rattle.std.specs.Ordering.{partial_le}
use Rattle.text.specs.Printer.{fits}
use Rattle.printing.specs.Levels.{level_meant}
use Rattle.printing.specs.declared.Level.{Level}
use Rattle.printing.specs.declared.Level.TheVariants.{Unary, Product, Sum, Compare}
use Rattle.printing.specs.contracts.LevelPartialOrd.TheImpl.{partial_cmp-value as order}

pub level_le : (a b : Level) → partial_le order.it a b ≡ fits (level_meant a) (level_meant b)
level_le Unary Unary = refl
level_le Unary Product = refl
level_le Unary Sum = refl
level_le Unary Compare = refl
level_le Product Unary = refl
level_le Product Product = refl
level_le Product Sum = refl
level_le Product Compare = refl
level_le Sum Unary = refl
level_le Sum Product = refl
level_le Sum Sum = refl
level_le Sum Compare = refl
level_le Compare Unary = refl
level_le Compare Product = refl
level_le Compare Sum = refl
level_le Compare Compare = refl
