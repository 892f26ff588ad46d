-- What a valid state's counters are at most.
use Prim.Native.Nat.{◌≤◌}
use Rattle.palette_chip.specs.Rules.{IsValid}
use Rattle.hd153129.specs.Machine.{rules}
use Rattle.hd153129.specs.Struct.{state_of}
use Rattle.hd153129.specs.Saved.{sound}
use Rattle.hd153129.specs.declared.Hd153129.{Hd153129}

pub position_small : (s : Hd153129) → IsValid rules (state_of s) → s.cursor.position.0 ≤ 2
position_small s v = (sound (state_of s) v).cursor.position
