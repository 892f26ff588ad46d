-- A chip byte and a state of each chip.
use Rattle.tlc34058.specs.Struct as struct₁
use Rattle.hd153129.specs.Struct as struct₂
use Rattle.tms34070.specs.Struct as struct₃
use Rattle.chip.specs.Whole.{Whole}
use Rattle.calls.specs.declared.Record as code

abbrev pub whole_of : code.Record → Whole
whole_of r = record {
  number = r.number;
  tlc34058 = struct₁.state_of r.tlc34058;
  hd153129 = struct₂.state_of r.hd153129;
  tms34070 = struct₃.state_of r.tms34070;
}
