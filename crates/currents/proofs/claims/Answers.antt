-- The claims.
use Rattle.currents.proofs.Nearness.{nearness}
use Rattle.currents.proofs.Checks.{checks}
use Rattle.currents.proofs.claims.Goals as goal

pub returns-clause-nearness : goal.returns-clause-nearness
returns-clause-nearness c = nearness

pub returns-clause-checks : goal.returns-clause-checks
returns-clause-checks c = checks
