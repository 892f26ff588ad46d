-- `show_pixels` meets its contract.
use Rattle.std.proofs.Common.{refl, sym, ◌∙◌}
use Rattle.tlc34058.specs.Struct.{port_of, display_of}
use Rattle.tlc34058.proofs.Pixels.{written, answered, last-kept}
use Rattle.tlc34058.proofs.Tlc34058.show_pixels.Goals as goal

pub returns : goal.returns
returns c =
    let p = port_of c.args.self.now in
    let d = display_of c.args.self.now in
    let o = c.args.operand in
    let kept = sym c.undefined_bits.ensures ∙ c.if-undefined_bits.false in
    let count = c.pixel_count-count.ensures.count in
    let bytes = written p d o c.copy_from_slice.ensures.after count c.blink_on-on.ensures c.shown_pixels-n.ensures.shown c.put_pixels.ensures in
    record {
      port = refl;
      display = last-kept p d o kept bytes (c.from.ensures ∙ count) c.codes_at-self.ensures;
      answer = answered p d o kept bytes;
    }
