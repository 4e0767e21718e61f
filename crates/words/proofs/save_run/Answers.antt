use Rattle.device.proofs.Did.{did_bind}
use Rattle.words.specs.Works.{save_via, push_via}
use Rattle.words.proofs.save_run.Goals as goal

pub returns-clause-did : goal.returns-clause-did
unfolding save_via
returns-clause-did g c = did_bind (λ x. push_via (g.P.Place.at c.args.place.now) c.args.count) c.store_run.ensures.did c.push_run.ensures.did
