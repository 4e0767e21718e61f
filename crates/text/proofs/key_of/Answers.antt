use Rattle.std.proofs.Common.{◌≡◌, length, arith}
use Rattle.std.proofs.lemmas.Bool.Decides.{nat_tests}
use Rattle.text.proofs.Letters.{key_letters}
use Rattle.text.proofs.key_of.Goals as goal

pub returns-in_default : goal.returns-in_default
returns-in_default c = rw key_letters (grind (arith, nat_tests))

pub returns-in_default-4 : goal.returns-in_default-4
returns-in_default-4 c = rw key_letters (grind (arith, nat_tests))

pub returns-in_default-6 : goal.returns-in_default-6
returns-in_default-6 c = rw key_letters (grind (arith, nat_tests))

pub returns-in_default-7 : goal.returns-in_default-7
returns-in_default-7 c = rw key_letters (grind (arith, nat_tests))

pub returns-in_default-10 : goal.returns-in_default-10
returns-in_default-10 c = rw key_letters (grind (arith, nat_tests))

pub returns-in_default-11 : goal.returns-in_default-11
returns-in_default-11 c = rw key_letters (grind (arith, nat_tests))

pub returns-in_default-14 : goal.returns-in_default-14
returns-in_default-14 c = rw key_letters (grind (arith, nat_tests))

pub returns-in_default-16 : goal.returns-in_default-16
returns-in_default-16 c = rw key_letters (grind (arith, nat_tests))

pub returns-in_default-17 : goal.returns-in_default-17
returns-in_default-17 c = rw key_letters (grind (arith, nat_tests))

pub returns-in_default-20 : goal.returns-in_default-20
returns-in_default-20 c = rw key_letters (grind (arith, nat_tests))

pub returns-in_default-21 : goal.returns-in_default-21
returns-in_default-21 c = rw key_letters (grind (arith, nat_tests))

pub returns-in_default-25 : goal.returns-in_default-25
returns-in_default-25 c = rw key_letters (grind (arith, nat_tests))

pub returns-in_default-27 : goal.returns-in_default-27
returns-in_default-27 c = rw key_letters (grind (arith, nat_tests))

pub returns-in_default-28 : goal.returns-in_default-28
returns-in_default-28 c = rw key_letters (grind (arith, nat_tests))

pub returns-in_default-29 : goal.returns-in_default-29
returns-in_default-29 c = rw key_letters (grind (arith, nat_tests))

pub returns-in_default-32 : goal.returns-in_default-32
returns-in_default-32 c = rw key_letters (grind (arith, nat_tests))

pub returns-in_default-33 : goal.returns-in_default-33
returns-in_default-33 c = rw key_letters (grind (arith, nat_tests))

pub returns-in_default-35 : goal.returns-in_default-35
returns-in_default-35 c = let five : length c.args.w.now ≡ 5 = omega arith in rw (key_letters, five) (grind (arith, nat_tests))

pub returns-in_default-37 : goal.returns-in_default-37
returns-in_default-37 c = rw key_letters (grind (arith, nat_tests))

pub returns-in_default-41 : goal.returns-in_default-41
returns-in_default-41 c = rw key_letters (grind (arith, nat_tests))

pub returns-in_default-42 : goal.returns-in_default-42
returns-in_default-42 c = rw key_letters (grind (arith, nat_tests))

pub returns-in_default-45 : goal.returns-in_default-45
returns-in_default-45 c = let six : length c.args.w.now ≡ 6 = omega arith in rw (key_letters, six) (grind (arith, nat_tests))

pub returns-in_default-47 : goal.returns-in_default-47
returns-in_default-47 c = rw key_letters (grind (arith, nat_tests))

pub returns-in_default-48 : goal.returns-in_default-48
returns-in_default-48 c = rw key_letters (grind (arith, nat_tests))

pub returns-in_default-49 : goal.returns-in_default-49
returns-in_default-49 c = rw key_letters (grind (arith, nat_tests))
