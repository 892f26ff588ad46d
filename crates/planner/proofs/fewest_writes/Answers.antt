-- `fewest_writes` meets its contract.
use Rattle.planner.proofs.Fewest.{fewest}
use Rattle.planner.proofs.fewest_writes.Goals as goal

pub returns : goal.returns
returns c = fewest
