-- No refusal has the number 0, which says that there is none.
use Rattle.std.proofs.Common.{◌≡◌, ◌<◌, arith, Result, Ok, Err, ap}
use Rattle.refusal.specs.Refusal.{number_of, refusal_of}
use Rattle.refusal.specs.declared.Refusal.{Refusal}
use Rattle.refusal.specs.declared.Refusal.TheVariants as refusal

pub number-positive : (r : Refusal) → 0 < number_of r
number-positive refusal.Selector = omega arith
number-positive refusal.Address = omega arith
number-positive refusal.Direction = omega arith
number-positive refusal.UndefinedBit = omega arith
number-positive refusal.MissingKind = omega arith
number-positive refusal.ShortLog = omega arith
number-positive refusal.LogChip = omega arith
number-positive refusal.EventCount = omega arith
number-positive refusal.Length = omega arith
number-positive refusal.UnknownKind = omega arith
number-positive refusal.UnusedByte = omega arith
number-positive refusal.ShortSnapshot = omega arith
number-positive refusal.Chip = omega arith
number-positive refusal.PlaceCount = omega arith
number-positive refusal.SnapshotLength = omega arith
number-positive refusal.Place = omega arith
number-positive refusal.Value = omega arith
number-positive refusal.OtherChip = omega arith
number-positive refusal.AnswerRoom = omega arith
number-positive refusal.EndRoom = omega arith
number-positive refusal.NotTlc34058 = omega arith
number-positive refusal.NotHd153129 = omega arith
number-positive refusal.WantedBytes = omega arith
number-positive refusal.PlanRoom = omega arith

-- a result with a refusal has its number, and it isn't 0
pub err-number : {A : Type 0} {r : Result A Refusal} {e : Refusal} → r ≡ Err e → refusal_of r ≡ number_of e
err-number q = ap refusal_of q

pub ok-number : {A : Type 0} {r : Result A Refusal} {x : A} → r ≡ Ok x → refusal_of r ≡ 0
ok-number q = ap refusal_of q

pub is_refused : (e : Refusal) → number_of e ≡ 0 → ⊥
is_refused e z = let p = number-positive e in omega arith
