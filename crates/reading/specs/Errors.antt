-- What a linker's error is to a reader. Assumes nothing.
use Rattle.plans.specs.declared.link.LinkError.{LinkError}
use Rattle.plans.specs.declared.link.LinkError.TheVariants as link
use Rattle.reading.specs.declared.error.ReadError.{ReadError}
use Rattle.reading.specs.declared.error.ReadError.TheVariants.{NoRoom, ShortDraft}

abbrev pub unlinked : LinkError → ReadError
unlinked link.NoRoom = NoRoom
unlinked link.Damaged = ShortDraft
