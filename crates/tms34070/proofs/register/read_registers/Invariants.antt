use Rattle.tms34070.proofs.Registers.{Front}
use Rattle.tms34070.proofs.register.read_registers.Given as goal

abbrev pub invariant-loop-i : goal.invariant-loop-i
invariant-loop-i l = Front l.registers l.places l.i
