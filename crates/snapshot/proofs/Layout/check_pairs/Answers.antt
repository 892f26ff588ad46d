-- `check_pairs` meets its contract: the pairs that are left from j on decide the whole.
use Rattle.std.proofs.Common.{arith}
use Rattle.snapshot.specs.Table.{table_of}
use Rattle.snapshot.proofs.Pairs.{pairs-next}
use Rattle.snapshot.proofs.Layout.check_pairs.Goals as goal

pub loop-j-preserved : goal.loop-j-preserved
loop-j-preserved c =
    pairs-next c.args.numbers.now c.args.values.now c.loop-j.j c.word-place.result c.loop-j-test.true (omega arith) c.word-place.ensures.value (table_of c.args.self.now) c.loop-j.least
    c.if-place-least.false (omega arith) c.if-value-eq0.false (omega arith) c.loop-j.invariant
