-- `entry` meets its contract: the five steps in order are the entry rule.
use Rattle.std.proofs.Common.{◌∙◌, ap}
use Rattle.tlc34058.specs.Selection.{after_blink_mask, after_overlay_enables, after_overlay_blink, entry_by_ram_enable, selected}
use Rattle.tlc34058.specs.Struct.{registers_of}
use Rattle.tlc34058.proofs.Selection.{in_order}
use Rattle.tlc34058.proofs.pixel.Pixel.entry.Goals as goal

pub returns-clause-entry : goal.returns-clause-entry
unfolding selected
returns-clause-entry c =
    let r = registers_of c.args.registers in
    let on = c.args.on in
    let lit = c.after_blink_mask-lit.ensures ∙ ap (after_blink_mask r on) c.after_read_mask-masked.ensures in
    let enabled = c.after_overlay_enables-enabled.ensures ∙ ap (after_overlay_enables r) lit in
    let shown = c.after_overlay_blink-shown.ensures ∙ ap (after_overlay_blink r on) enabled in
    c.entry_by_ram_enable.ensures.entry ∙ ap (entry_by_ram_enable r) shown ∙ in_order r on c.args.self.bits c.args.self.ol0 c.args.self.ol1
