use Rattle.std.proofs.Common.{sym, refl, ◌∙◌, arith}
use Rattle.text.proofs.Lexed.{both_nil}
use Rattle.text.proofs.Found.{sign_found, word_found, never_stops}
use Rattle.text.proofs.token_at.Goals as goal

pub returns-then-text-from : goal.returns-then-text-from
returns-then-text-from c =
    record { ahead = sym (both_nil _); start = refl; forth = record { after = omega arith; order = omega arith; within = λ h. h; moves = λ h. absurd (never_stops (sym h)); ends = λ h. c.if-text-from.true; small = tt } }

pub returns-then-text-start : goal.returns-then-text-start
returns-then-text-start c =
    record {
      ahead = sym c.past_blanks-start.ensures.same ∙ sym (both_nil _);
      start = c.past_blanks-start.ensures.same;
      forth = record { after = c.past_blanks-start.ensures.forth; order = omega arith; within = λ h. c.past_blanks-start.ensures.within; moves = λ h. absurd (never_stops (sym h)); ends = λ h. c.if-text-start.true; small = tt };
    }

pub returns-then-not-word_byte : goal.returns-then-not-word_byte
returns-then-not-word_byte c =
    record {
      ahead = sign_found c.args.text.now c.args.from c.past_blanks-start.result _ c.if-text-start.false c.past_blanks-start.ensures.same (sym c.if-not-word_byte.ensures)
          (c.past_blanks-start.ensures.past c.if-text-start.false) (c.sign_of.ensures.means _);
      start = c.past_blanks-start.ensures.same;
      forth = record {
        after = c.past_blanks-start.ensures.forth;
        order = omega arith;
        within = λ h. omega arith;
        moves = λ h. omega arith;
        ends = λ h. absurd (never_stops (sym c.sign_of.ensures.plain.here ∙ h));
        small = c.sign_of.ensures.plain.small;
      };
    }

pub returns : goal.returns
returns c =
    record {
      ahead = word_found c.args.text.now c.args.from c.past_blanks-start.result c.past_word-next.result _ c.past_word-next.ensures.forth c.past_word-next.ensures.within c.past_blanks-start.ensures.same
          c.past_word-next.ensures.same c.word_of.ensures.means;
      start = c.past_blanks-start.ensures.same;
      forth = record {
        after = c.past_blanks-start.ensures.forth;
        order = omega arith;
        within = λ h. c.past_word-next.ensures.within;
        moves = λ h. c.past_word-next.ensures.forth;
        ends = λ h. absurd (never_stops (sym c.word_of.ensures.plain.here ∙ h));
        small = c.word_of.ensures.plain.small;
      };
    }
