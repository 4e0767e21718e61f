use Rattle.std.proofs.Common.{◌+◌, ◌*◌, length, sym, ap, ◌∙◌, arith}
use Rattle.calls.proofs.Puts.{job_size}
use Rattle.calls.proofs.types.Response.size.Goals as goal

pub returns-in-Job : goal.returns-in-Job
returns-in-Job g c =
    record { is = ap (λ ws. 24 + 8 * length ws) c.words.ensures.is ∙ sym (job_size g.N.Numbered.number c.args.self.now c.in-Job.job c.in-Job.is); few = omega (arith, c.words.ensures.few) }
