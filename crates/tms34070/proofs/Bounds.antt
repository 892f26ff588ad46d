-- A tick that isn't refused.
use Rattle.std.proofs.Common.{◌≡◌, ℕ, ◌+◌, ◌*◌, ◌≤◌, ◌<◌, false, ltb, List, length, get_or, arith}
use Rattle.snapshot.specs.Snapshot.{Valid}
use Rattle.tms34070.specs.Facts as facts
use Rattle.tms34070.specs.Load.{over_nibble}
use Rattle.tms34070.specs.Tick.{refused_tick}
use Rattle.tms34070.specs.Places.{places_of}
use Rattle.tms34070.specs.Struct.{state_of}
use Rattle.tms34070.specs.Sound.{neither, narrow, largest-value}
use Rattle.tms34070.specs.Saved.{sound}
use Rattle.tms34070.specs.declared.Tms34070 as code
use Rattle.tms34070.specs.declared.register.Register.{Register}
use Rattle.tms34070.proofs.Registers.{ext_at, rep_at}

-- it has two pixels of four bits
both-narrow : (o : List ℕ) → refused_tick o ≡ false → (get_or o 0 0 ≤ facts.largest_nibble) × (get_or o 1 0 ≤ facts.largest_nibble)
unfolding refused_tick
both-narrow o h = narrow _ _ (neither (over_nibble (get_or o 0 0) (get_or o 1 0)) (ltb 1 (get_or o 7 0)) h).0

pub first_narrow : (o : List ℕ) → refused_tick o ≡ false → get_or o 0 0 ≤ facts.largest_nibble
first_narrow o h = (both-narrow o h).0

pub second_narrow : (o : List ℕ) → refused_tick o ≡ false → get_or o 1 0 ≤ facts.largest_nibble
second_narrow o h = (both-narrow o h).1

-- EXT has one bit
pub ext_small : (s : code.Tms34070) (i : ℕ) (d : Register) → Valid facts.largest (places_of (state_of s)) → i < length s.registers → i < facts.register_count → (get_or s.registers i d).ext ≤ 1
ext_small s i d v h j = omega (arith, ext_at s.registers i d h, (sound (state_of s) v).port.small (facts.register_long * i + 3), largest-value i 3 j (omega arith))

-- and so has REP
pub rep_small : (s : code.Tms34070) (i : ℕ) (d : Register) → Valid facts.largest (places_of (state_of s)) → i < length s.registers → i < facts.register_count → (get_or s.registers i d).rep ≤ 1
rep_small s i d v h j = omega (arith, rep_at s.registers i d h, (sound (state_of s) v).port.small (facts.register_long * i + 4), largest-value i 4 j (omega arith))

-- and the load position stands at a register
pub position_small : (s : code.Tms34070) → Valid facts.largest (places_of (state_of s)) → s.position < facts.loads
position_small s v = omega (arith, (sound (state_of s) v).port.position)
