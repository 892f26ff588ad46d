-- The witnesses are witnesses.
use Rattle.run.proofs.Witnesses.{witnessed}
use Rattle.run.proofs.claims.witnessed.Goals as goal

pub returns : goal.returns
returns c = witnessed
