use Rattle.std.proofs.Common.{◌-◌, ◌%◌}
use Rattle.device.specs.Does.{Did}
use Rattle.device.specs.Flips.{commit_work}
use Rattle.device.proofs.Did.{did_bind, did_size}
use Rattle.store.specs.Works.{flip_to}
use Rattle.store.proofs.keep.commit.Goals as goal

pub returns : goal.returns
unfolding flip_to
returns g c =
    let d : Did g.D.Device.step (flip_to c.args.word c.args.root.now) c.args.dev.now tt c.flip.new.dev =
    did_bind (λ x. commit_work 0 0 (1 - c.args.word % 2)) c.save_words.ensures.did c.flip.ensures.did in
    record { did = d; stays = did_size g.met.D.Device.stays d }
