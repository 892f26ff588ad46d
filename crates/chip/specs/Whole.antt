-- What a program has that keeps a state of every chip beside the byte that names one. The calls of the crate are on the named chip's state alone; what the program does with the other chips' is said here.
use Rattle.std.specs.Prelude.{ℕ, cond, List, eqb}
use Rattle.tlc34058.specs.Facts as facts₁
use Rattle.tlc34058.specs.State as state₁
use Rattle.hd153129.specs.Facts as facts₂
use Rattle.hd153129.specs.State as state₂
use Rattle.tms34070.specs.Facts as facts₃
use Rattle.tms34070.specs.State as state₃
use Rattle.chip.specs.Chip.{State, tlc34058, hd153129, tms34070, unbuilt, first_number, restore}

-- a chip byte and a part for each chip
pub record Whole : Type 0 where
  pub number : ℕ
  pub tlc34058 : state₁.State
  pub hd153129 : state₂.State
  pub tms34070 : state₃.State

-- the part that the chip byte names
abbrev pub named : Whole → State
named w =
    cond (eqb w.number facts₁.number) (tlc34058 w.tlc34058)
    (cond (eqb w.number facts₂.number) (hd153129 w.hd153129)
    (cond (eqb w.number facts₃.number) (tms34070 w.tms34070)
    (unbuilt w.number)))

-- the named part put in its place; the others are as they were, byte for byte
abbrev pub put : Whole → State → Whole
put w (tlc34058 s) = record { number = facts₁.number; tlc34058 = s; hd153129 = w.hd153129; tms34070 = w.tms34070 }
put w (hd153129 s) = record { number = facts₂.number; tlc34058 = w.tlc34058; hd153129 = s; tms34070 = w.tms34070 }
put w (tms34070 s) = record { number = facts₃.number; tlc34058 = w.tlc34058; hd153129 = w.hd153129; tms34070 = s }
put w (unbuilt n) = w

-- every part fresh
abbrev pub fresh_whole : ℕ → Whole
fresh_whole number = record { number = number; tlc34058 = state₁.fresh; hd153129 = state₂.fresh; tms34070 = state₃.fresh }

-- the chip that a snapshot gives: the part that it names is restored, and the others are fresh; a fresh chip 1 where the snapshot is refused
abbrev pub restored_whole : List ℕ → Whole
restored_whole b = put (fresh_whole first_number) (restore b)

-- the same chip with the other parts fresh; a fresh chip 1 where it names no built chip
abbrev pub other_fresh : Whole → Whole
other_fresh w = put (fresh_whole first_number) (named w)
