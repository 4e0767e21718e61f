use Rattle.pages.proofs.Reports.{tries_stand}
use Rattle.pages.proofs.tries_stand.Goals as goal

pub returns : goal.returns
returns c = tries_stand
