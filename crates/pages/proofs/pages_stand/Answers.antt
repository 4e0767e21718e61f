use Rattle.pages.proofs.Codes.{decodes_encoded, encodes_page, encodes_small}
use Rattle.pages.proofs.Checked.{decodes_sound}
use Rattle.pages.proofs.pages_stand.Goals as goal

pub returns : goal.returns
returns c = record { decodes = decodes_encoded; sound = decodes_sound; long = encodes_page; small = encodes_small }
