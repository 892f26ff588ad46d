-- The third demand holds of either chip by itself.
use Rattle.run.proofs.Chips2And3.{demand3-chips-2-and-3}
use Rattle.run.proofs.Chip2.{demand3-chip-2}
use Rattle.run.proofs.claims.second_and_third_chip.Goals as goal

pub returns-clause-chips_2_and_3 : goal.returns-clause-chips_2_and_3
returns-clause-chips_2_and_3 c = demand3-chips-2-and-3

pub returns-clause-chip_2 : goal.returns-clause-chip_2
returns-clause-chip_2 c = demand3-chip-2
