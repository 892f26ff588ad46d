-- `beside` meets its contract: the currents so far are those of an answer that shows so many pixels.
use Rattle.std.proofs.Common.{◌≡◌, drop}
use Rattle.currents.specs.Currents.{pixels}
use Rattle.currents.proofs.beside.Given as goal

abbrev pub invariant-loop-i : goal.invariant-loop-i
invariant-loop-i l = l.currents ≡ pixels l.i l.levels (drop 3 l.answer)
