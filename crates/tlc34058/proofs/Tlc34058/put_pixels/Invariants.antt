-- `put_pixels`: after i turns stands what i shown pixels give.
use Rattle.std.proofs.Common.{◌≡◌}
use Rattle.tlc34058.specs.Struct.{registers_of}
use Rattle.tlc34058.specs.Tick.{code_at, codes_up_to}
use Rattle.tlc34058.proofs.Tlc34058.put_pixels.Given as goal

abbrev pub invariant-loop-i : goal.invariant-loop-i
invariant-loop-i l = l.part ≡ codes_up_to (code_at l.self.colours (registers_of l.self.registers) l.on l.i l.operand) 5
