-- `put_pixels` meets its contract.
use Rattle.std.proofs.Common.{◌+◌, ◌*◌, ◌∙◌, ap, arith, set, get_or}
use Rattle.tlc34058.specs.Struct.{registers_of}
use Rattle.tlc34058.specs.Tick.{codes_at, entry_of}
use Rattle.tlc34058.proofs.Pixels.{none-shown, one-more}
use Rattle.tlc34058.proofs.Tlc34058.put_pixels.Goals as goal

pub loop-i-init : goal.loop-i-init
loop-i-init c = c.requires.black ∙ none-shown c.args.self.now.colours (registers_of c.args.self.now.registers) c.args.on c.args.operand

pub loop-i-preserved : goal.loop-i-preserved
loop-i-preserved c =
    let l = c.args.self.now.colours in
    let r = registers_of c.args.self.now.registers in
    let o = c.args.operand in
    let i = c.loop-i.i in
    let entry = c.entry.ensures.entry ∙ (λ j. entry_of r c.args.on (get_or o i 0) (c.bit.ensures j) (c.bit-in-loop-i.ensures j)) in
    let codes = c.codes_at-codes.ensures ∙ ap (codes_at l) entry in
    (λ j. set (set (set (c.loop-i.invariant j) (3 * i) (codes j).red) (3 * i + 1) (codes j).green) (3 * i + 2) (codes j).blue) ∙ one-more l r c.args.on o i (omega (arith, c.loop-i-test.true, c.requires.few))
