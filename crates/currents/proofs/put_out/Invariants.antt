-- `put_out` meets its contract: what is left to store from current i on gives the whole.
use Rattle.std.proofs.Common.{◌≡◌}
use Rattle.currents.proofs.Stores.{left_from}
use Rattle.currents.proofs.put_out.Given as goal

abbrev pub invariant-loop-i : goal.invariant-loop-i
invariant-loop-i l = left_from l.current-items l.behind l.i ≡ left_from l.current-items l.initial.behind 0
