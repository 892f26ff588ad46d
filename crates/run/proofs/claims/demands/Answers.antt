-- The demands hold.
use Rattle.run.proofs.Demand1.{demand1}
use Rattle.run.proofs.Demand2.{demand2}
use Rattle.run.proofs.Demand3.{demand3}
use Rattle.run.proofs.claims.demands.Goals as goal

pub returns-clause-demand_1 : goal.returns-clause-demand_1
returns-clause-demand_1 c = demand1

pub returns-clause-demand_2 : goal.returns-clause-demand_2
returns-clause-demand_2 c = demand2

pub returns-clause-demand_3 : goal.returns-clause-demand_3
returns-clause-demand_3 c = demand3
