use Rattle.text.proofs.reads_exactly_stands.Goals as goal
use Rattle.text.proofs.Texts.{read_sound, read_complete}

pub returns : goal.returns
returns c = λ limit bs b. (read_sound limit bs b, read_complete limit bs b)
