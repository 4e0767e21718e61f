use Rattle.pages.proofs.Fitting.{fitting}
use Rattle.pages.proofs.fitting_stands.Goals as goal

pub returns : goal.returns
returns c = fitting
