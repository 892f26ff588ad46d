-- `read_registers` meets its contract.
use Rattle.std.proofs.Common.{◌∙◌, ap, arith, get_or, []}
use Rattle.tms34070.proofs.Registers.{read-more, all-front}
use Rattle.tms34070.proofs.register.read_registers.Goals as goal

pub loop-i-preserved : goal.loop-i-preserved
loop-i-preserved c =
    read-more c.loop-i.registers c.from_values.result _ c.loop-i.i c.args.places.now (omega arith) (omega arith)
    (c.from_values.ensures ∙ ap (λ l. get_or l c.loop-i.i []) c.as_chunks.ensures.front) c.loop-i.invariant

pub returns : goal.returns
returns c =
    all-front c.loop-i.registers c.args.places.now c.loop-i.i c.requires c.loop-i-test.false c.loop-i.invariant
