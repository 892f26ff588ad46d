-- `check_pairs` meets its contract: the pairs that are left from j on decide the whole.
use Rattle.std.proofs.Common.{◌≡◌, ◌*◌, drop}
use Rattle.snapshot.specs.Snapshot.{words_of, pairs_refusal}
use Rattle.snapshot.specs.Table.{table_of}
use Rattle.snapshot.proofs.Layout.check_pairs.Given as goal

abbrev pub invariant-loop-j : goal.invariant-loop-j
invariant-loop-j l =
    pairs_refusal (table_of l.self) l.least (words_of (drop (2 * l.j) l.numbers)) (drop l.j l.values) ≡ pairs_refusal (table_of l.self) 0 (words_of l.numbers) l.values
