-- `none_above` meets its contract.
use Rattle.std.proofs.Common.{◌≡◌, ℕ, ◌<◌, ◌≤◌, true, false, length, get_or}
use Rattle.snapshot.proofs.none_above.Given as goal

abbrev pub invariant-loop-value : goal.invariant-loop-value
invariant-loop-value l = record {
  none : l.above ≡ false → (k : ℕ) → k < l.value-index → get_or l.values k 0 ≤ l.largest;
  some : l.above ≡ true → (k : ℕ) × ((k < length l.values) × (l.largest < get_or l.values k 0));
}
