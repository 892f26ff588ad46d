-- `put_registers` meets its contract.
use Rattle.std.proofs.Common.{◌∙◌, sym, arith}
use Rattle.tms34070.proofs.Registers.{put-more, all-front}
use Rattle.tms34070.proofs.register.put_registers.Goals as goal

pub loop-i-preserved : goal.loop-i-preserved
loop-i-preserved c =
    put-more c.args.registers.now c.loop-i.places c.copy_from_slice.new.self c.loop-i.i _ (omega arith) (omega arith)
    (c.copy_from_slice.ensures.after ∙ c.values.ensures) c.loop-i.invariant

pub returns : goal.returns
returns c = sym (all-front c.args.registers.now c.loop-i.places c.loop-i.i (omega arith) c.loop-i-test.false c.loop-i.invariant)
