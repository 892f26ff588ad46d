-- `fits` meets its contract: the two parts of the places decide the whole.
use Rattle.std.proofs.Common.{arith, sym}
use Rattle.snapshot.proofs.Tables.{table-long}
use Rattle.snapshot.specs.Table.{table_of}
use Rattle.snapshot.proofs.Valid.{within-short}
use Rattle.snapshot.proofs.Parts.{colour-above, rest-decides}
use Rattle.snapshot.proofs.Layout.fits.Goals as goal

pub returns-then-places : goal.returns-then-places
returns-then-places c = sym (within-short (table_of c.args.self.now) c.args.places.now (λ e. c.if-places.true (omega (arith, e, c.places.ensures))))

pub returns-then-none_above : goal.returns-then-none_above
returns-then-none_above c =
    let self = c.args.self.now in
    let split = c.split_at in
    rest-decides self.colours self.largest_colour self.rest.now c.args.places.now split.result.0.now split.result.1.now split.ensures.by_index.0 split.ensures.front_len
    (omega (arith, c.if-places.false, c.places.ensures, split.ensures.back_len, table-long self))
    c.none_above_its_own.result (c.none_above.ensures.0 c.if-none_above.true) c.none_above_its_own.ensures.0 c.none_above_its_own.ensures.1

pub returns-else-none_above : goal.returns-else-none_above
returns-else-none_above c =
    let self = c.args.self.now in
    let split = c.split_at in
    colour-above self.colours self.largest_colour self.rest.now c.args.places.now split.result.0.now split.result.1.now split.ensures.by_index.0 split.ensures.front_len
    (omega (arith, c.if-places.false, c.places.ensures, split.ensures.back_len, table-long self))
    c.none_above.result c.if-none_above.false c.none_above.ensures.1
