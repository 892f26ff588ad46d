-- What a read puts into the rest of the buffer stays inside it.
use Rattle.std.proofs.Common.{arith, rules}
use Rattle.console.proofs.read_full.Goals as goal

pub loop-done-preserved : goal.loop-done-preserved
loop-done-preserved g c = (omega (arith, c.in_ok-n.ensures.bound.0), search rules)
