use Rattle.std.proofs.Common.{◌+◌, set, refl, ap, ◌∙◌}
use lib.Seq.{sets}
use Rattle.calls.specs.Replies.{job_bytes}
use Rattle.calls.proofs.Puts.{eight_is, job_put}
use Rattle.calls.proofs.write.put_job.Goals as goal

pub returns : goal.returns
returns c =
    let j = c.args.job.now in
    let at = c.args.at in
    job_put c.args.out.now _ c.put.new.out c.put-2.new.out c.put-3.new.out c.put-4.new.out _ _ c.words-words.result.now at _ _ _ _ refl
    (c.put.ensures ∙ ap (sets (set c.args.out.now at 3) (at + 1)) (c.to_be_bytes.ensures ∙ eight_is j.flow.0))
    (c.put-2.ensures ∙ ap (sets c.put.new.out (at + 9)) (c.to_be_bytes-2.ensures ∙ eight_is j.step.0))
    (c.put-3.ensures ∙ ap (sets c.put-2.new.out (at + 17)) c.to_be_bytes-3.ensures)
    (c.put-4.ensures ∙ ap (sets c.put-3.new.out (at + 19)) c.to_be_bytes-4.ensures)
    refl c.put_words.ensures
    ∙ ap (λ xs. sets c.args.out.now at (job_bytes j.flow.0 j.step.0 j.attempt.0 j.kind xs)) c.words-words.ensures.is
