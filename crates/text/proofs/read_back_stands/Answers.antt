use Rattle.text.proofs.read_back_stands.Goals as goal
use Rattle.text.proofs.Texts.{read_sound, reprinted}

pub returns : goal.returns
returns c = λ limit bs b h l. reprinted limit bs b (read_sound limit bs b h) l
