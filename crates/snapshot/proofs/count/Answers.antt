-- `count` meets its contract: what is left to count makes up the whole.
use Rattle.std.proofs.Common.{arith}
use Rattle.snapshot.proofs.Stores.{count-more, values-short}
use Rattle.snapshot.proofs.count.Goals as goal

pub overflow_add-n : goal.overflow_add-n
overflow_add-n c = let l = c.args.places.now in omega (arith, values-short l, count-more l c.loop-place.place-index c.loop-place-test.true)

pub loop-place-preserved : goal.loop-place-preserved
loop-place-preserved c = omega (arith, count-more c.args.places.now c.loop-place.place-index c.loop-place-test.true)
