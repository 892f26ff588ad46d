-- How long a layout's table is.
use Rattle.std.proofs.Common.{◌≡◌, ◌+◌, arith, length, replicate, length-append}
use Rattle.std.proofs.lemmas.List.{length-replicate}
use Rattle.snapshot.specs.declared.Layout.{Layout}
use Rattle.snapshot.specs.Table.{table_of}

pub table-long : (layout : Layout) → length (table_of layout) ≡ layout.colours + length layout.rest.now
table-long layout = omega (arith, length-append (replicate layout.colours layout.largest_colour) layout.rest.now, length-replicate layout.colours layout.largest_colour)
