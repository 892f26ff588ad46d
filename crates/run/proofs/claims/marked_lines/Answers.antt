-- The marked lines hold.
use Rattle.run.specs.Marks.{marked}
use Rattle.run.proofs.claims.marked_lines.Goals as goal

pub returns : goal.returns
returns c = marked
