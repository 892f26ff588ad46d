-- What a call returns to a C program.
use Rattle.std.specs.Prelude.{ℕ, ◌*◌, Result, Ok, Err}
use Rattle.refusal.specs.Refusal.{number_of}
use Rattle.refusal.specs.declared.Refusal.{Refusal}

-- the length, or 65,536 x the refusal's number
abbrev pub returned_of : Result ℕ Refusal → ℕ
returned_of (Ok length) = length
returned_of (Err r) = 65536 * number_of r
