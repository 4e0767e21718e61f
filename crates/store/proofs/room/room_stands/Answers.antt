use Rattle.store.proofs.Marks.{room_stands}
use Rattle.store.proofs.room.room_stands.Goals as goal

pub returns : goal.returns
returns c = room_stands
