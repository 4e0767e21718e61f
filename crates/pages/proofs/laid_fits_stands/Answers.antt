use Rattle.pages.proofs.Laid.{laid_fits}
use Rattle.pages.proofs.laid_fits_stands.Goals as goal

pub returns : goal.returns
returns c = laid_fits
