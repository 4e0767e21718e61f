use Rattle.engine.specs.Done.{mind_of}
use Rattle.engine.proofs.Doing.{open_did}
use Rattle.engine.proofs.held.open.Goals as goal

pub returns : goal.returns
returns g c =
    let x = mind_of (g.D.Device.size c.args.memory.now.dev) c.args.held.now c.args.dir.now in
    record {
      did = open_did g.D.Device.step x c.args.slot c.load_page.new.out c.decode.result c.load_page.ensures.did c.decode.ensures;
      stays = c.load_page.ensures.stays;
    }
