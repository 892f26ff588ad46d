-- The refusal table: the number of each refusal, and of a result.
use Rattle.std.specs.Prelude.{ℕ, Result, Ok, Err}
use Rattle.refusal.specs.declared.Refusal.{Refusal}
use Rattle.refusal.specs.declared.Refusal.TheVariants as refusal

abbrev pub number_of : Refusal → ℕ
number_of refusal.Selector = 1
number_of refusal.Address = 2
number_of refusal.Direction = 3
number_of refusal.UndefinedBit = 4
number_of refusal.MissingKind = 5
number_of refusal.ShortLog = 10
number_of refusal.LogChip = 11
number_of refusal.EventCount = 12
number_of refusal.Length = 13
number_of refusal.UnknownKind = 14
number_of refusal.UnusedByte = 15
number_of refusal.ShortSnapshot = 20
number_of refusal.Chip = 21
number_of refusal.PlaceCount = 22
number_of refusal.SnapshotLength = 23
number_of refusal.Place = 24
number_of refusal.Value = 25
number_of refusal.OtherChip = 26
number_of refusal.AnswerRoom = 30
number_of refusal.EndRoom = 31
number_of refusal.NotTlc34058 = 40
number_of refusal.NotHd153129 = 41
number_of refusal.WantedBytes = 42
number_of refusal.PlanRoom = 43

-- the number of a call's outcome: 0, or its refusal's
abbrev pub refusal_of : {A : Type 0} → Result A Refusal → ℕ
refusal_of (Ok x) = 0
refusal_of (Err r) = number_of r
