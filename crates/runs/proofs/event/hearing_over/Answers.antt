use mir.Val.{bool_byte}
use Rattle.std.proofs.Common.{sym, ◌∙◌}
use Rattle.runs.proofs.Tidings.{worth_is, came_is}
use Rattle.runs.proofs.event.hearing_over.Goals as goal

pub returns : goal.returns
returns c =
    rw (sym (c.unwrap_or.ensures ∙ worth_is c.args.word), sym (c.from-came.ensures ∙ (λ i. bool_byte (c.is_some.ensures i)) ∙ came_is c.args.word))
    (record { flat = c.heard.ensures.flat; meant = c.heard.ensures.meant })
