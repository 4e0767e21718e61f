use Rattle.std.proofs.Common.{refl}
use Rattle.text.specs.Ahead.{key_meant}
use Rattle.text.proofs.Words.{word_number, word_key, word_name, word_other}
use Rattle.text.proofs.word_of.Goals as goal

pub returns-in-Some : goal.returns-in-Some
returns-in-Some c = record { means = word_number c.args.w.now c.in-Some.n c.in-Some.ensures; plain = record { here = refl; small = tt } }

pub returns-in-Some-key_of : goal.returns-in-Some-key_of
returns-in-Some-key_of c =
    record { means = word_key c.args.w.now (key_meant c.in-Some-key_of.key) c.in_default.ensures c.in-Some-key_of.ensures; plain = record { here = refl; small = tt } }

pub returns-then-is_name : goal.returns-then-is_name
returns-then-is_name c = record { means = word_name c.args.w.now c.in_default.ensures c.in_default-key_of.ensures c.if-is_name.ensures; plain = record { here = refl; small = tt } }

pub returns-in-Some-variable_of : goal.returns-in-Some-variable_of
returns-in-Some-variable_of c =
    record {
      means = word_other c.args.w.now _ c.in_default.ensures c.in_default-key_of.ensures c.if-is_name.ensures c.in-Some-variable_of.ensures.same;
      plain = record { here = refl; small = c.in-Some-variable_of.ensures.small };
    }

pub returns-in-None : goal.returns-in-None
returns-in-None c =
    record { means = word_other c.args.w.now _ c.in_default.ensures c.in_default-key_of.ensures c.if-is_name.ensures c.in-None.ensures.same; plain = record { here = refl; small = tt } }
