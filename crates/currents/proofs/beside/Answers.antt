-- `beside` meets its contract.
use Rattle.std.proofs.Common.{◌∙◌, arith}
use Rattle.currents.proofs.Pixels.{pixel-more}
use Rattle.currents.proofs.beside.Goals as goal

pub loop-i-preserved : goal.loop-i-preserved
loop-i-preserved c =
    let loop = c.loop-i in
    pixel-more _ c.args.answer loop.currents _ loop.i (omega (arith, c.loop-i-test.true, c.min-i-end.ensures)) loop.invariant (c.copy_from_slice.ensures.after ∙ c.pixel-pixel.ensures)
