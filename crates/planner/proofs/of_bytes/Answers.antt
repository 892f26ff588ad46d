-- `of_bytes` meets its contract, by what was found of the snapshot and of its state.
use Rattle.std.proofs.Common.{rules}
use Rattle.planner.proofs.of_bytes.Goals as goal
use Rattle.planner.proofs.Call.{snapshot-refused, planned}

pub returns-in_err-chip : goal.returns-in_err-chip
returns-in_err-chip c =
    let args = c.args in
    snapshot-refused args.snapshot.now args.wanted.now args.writes.now c.from_residual.result c.in_err-chip.field-0.0 (search rules) c.in_err-chip.ensures.refusal

pub returns : goal.returns
returns c =
    let args = c.args in
    let is = c.of_state.ensures in
    planned args.snapshot.now args.wanted.now args.writes.now _ c.of_state.new.writes c.of_state.result c.in_ok-chip.ensures.state c.in_ok-chip.ensures.refusal is.refusal is.accesses is.writes is.untouched
