use Rattle.std.proofs.Common.{subst}
use Rattle.device.specs.Does.{Did}
use Rattle.store.specs.Works.{save_entry}
use Rattle.store.proofs.keep.save_entry.Goals as goal

pub returns : goal.returns
unfolding save_entry
returns g c = record { did = subst (λ i. Did g.D.Device.step (save_entry i c.args.entry.now) c.args.dev.now tt c.save_words.new.dev) c.number.ensures.is c.save_words.ensures.did; stays = c.save_words.ensures.stays }
