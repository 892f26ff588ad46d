-- A layout's table: the largest value of each place.
use Rattle.std.specs.Prelude.{ℕ, List, ◌++◌, replicate}
use Rattle.snapshot.specs.declared.Layout.{Layout}

-- the colours' largest value, once for each, then the others'
abbrev pub table_of : Layout → List ℕ
table_of layout = replicate layout.colours layout.largest_colour ++ layout.rest.now
