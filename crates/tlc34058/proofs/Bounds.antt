-- What a valid state's counters are at most.
use Prim.Native.Nat.{◌≤◌}
use Rattle.palette_chip.specs.Rules.{IsValid}
use Rattle.tlc34058.specs.Machine.{rules}
use Rattle.tlc34058.specs.Struct.{state_of}
use Rattle.tlc34058.specs.Saved.{sound}
use Rattle.tlc34058.specs.declared.Tlc34058.{Tlc34058}

module _ (s : Tlc34058) (v : IsValid rules (state_of s)) where
  pub position_small : s.cursor.position.0 ≤ 2
  position_small = (sound (state_of s) v).port.cursor.position

  pub blink_small : s.blink ≤ 127
  blink_small = (sound (state_of s) v).display.blink
