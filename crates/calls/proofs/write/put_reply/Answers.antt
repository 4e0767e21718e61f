use Rattle.std.proofs.Common.{sym, ap, ◌∙◌, arith}
use lib.Seq.{sets}
use Rattle.calls.specs.Replies.{bytes_by}
use Rattle.calls.proofs.Puts.{job_size}
use Rattle.calls.proofs.write.put_reply.Goals as goal

pub put_job-requires : goal.put_job-requires
put_job-requires g c = omega (arith, job_size g.N.Numbered.number c.args.reply.now c.in-Job.job c.in-Job.is)

pub returns-in-Job : goal.returns-in-Job
returns-in-Job g c = c.put_job.ensures ∙ ap (λ r. sets c.args.out.now c.args.at (bytes_by g.N.Numbered.number r)) (sym c.in-Job.is)
