-- `restored` meets its contract: each refusal where those before it are none, and what an accepted call leaves.
use Rattle.std.proofs.Common.{◌∙◌, refl, ap}
use Rattle.std.proofs.lemmas.Result.{err_from_is_err_and}
use borrow.Author.Tests.{eqb-false}
use Rattle.refusal.proofs.Laws.{is_refused}
use Rattle.chip.specs.Chip.{state_refusal}
use Rattle.chip.specs.Struct.{state_of}
use Rattle.currents.specs.Currents.{other_chip}
use Rattle.currents.proofs.Call.{ticked-valid, by_snapshot, by_chip, by_operand, by_out, by_end, accepted, call-refused, call-done}
use Rattle.currents.proofs.restored.Goals as goal

pub returns-in_err-chip : goal.returns-in_err-chip
returns-in_err-chip c =
    let p = err_from_is_err_and c.from_residual.result c.from_residual.ensures.1 in
    let refusal = c.in_err-chip.field-0.0 in
    rw (p.1, p.2) (call-refused _ _ _ _ _ (by_snapshot _ _ _ _ _ refusal c.in_err-chip.ensures.refusal) (is_refused refusal))

pub returns-in_err-check_chip : goal.returns-in_err-check_chip
returns-in_err-check_chip c =
    let p = err_from_is_err_and c.from_residual-in_err-check_chip.result c.from_residual-in_err-check_chip.ensures.1 in
    let refusal = c.in_err-check_chip.field-0.0 in
    let snapshot = c.in_ok-chip.ensures in
    rw (p.1, p.2) (call-refused _ _ _ _ _ (by_chip _ _ _ _ _ snapshot.refusal refusal (c.in_err-check_chip.ensures ∙ ap other_chip snapshot.state)) (is_refused refusal))

pub returns-in_default : goal.returns-in_default
returns-in_default c =
    let snapshot = c.in_ok-chip.ensures in
    let chip = c.in_ok-check_chip.ensures ∙ ap other_chip snapshot.state in
    call-refused _ _ _ _ 13 (by_operand _ _ _ _ _ snapshot.refusal chip c.in_default.ensures.1) (eqb-false 13 0 refl)

pub returns-then-out-lt-OUT_BYTES : goal.returns-then-out-lt-OUT_BYTES
returns-then-out-lt-OUT_BYTES c =
    let snapshot = c.in_ok-chip.ensures in
    let chip = c.in_ok-check_chip.ensures ∙ ap other_chip snapshot.state in
    call-refused _ _ _ _ 30 (by_out _ _ _ _ _ snapshot.refusal chip c.in-Ok.ensures.1.long c.if-out-lt-OUT_BYTES.true) (eqb-false 30 0 refl)

pub returns-then-end-lt-END_ROOM : goal.returns-then-end-lt-END_ROOM
returns-then-end-lt-END_ROOM c =
    let snapshot = c.in_ok-chip.ensures in
    let chip = c.in_ok-check_chip.ensures ∙ ap other_chip snapshot.state in
    call-refused _ _ _ _ 31 (by_end _ _ _ _ _ snapshot.refusal chip c.in-Ok.ensures.1.long c.if-out-lt-OUT_BYTES.false c.if-end-lt-END_ROOM.true) (eqb-false 31 0 refl)

pub encode-requires-clause-valid : goal.encode-requires-clause-valid
encode-requires-clause-valid c =
    ap state_refusal c.of_state-ticked.ensures.state ∙ ticked-valid (state_of c.in_ok-chip.chip) c.in-Ok.operand c.in_ok-chip.ensures.valid

pub returns : goal.returns
returns c =
    let snapshot = c.in_ok-chip.ensures in
    let chip = c.in_ok-check_chip.ensures ∙ ap other_chip snapshot.state in
    let operand = c.in-Ok.ensures.1 in
    let ok = accepted _ _ _ _ _ snapshot.refusal chip operand.long c.if-out-lt-OUT_BYTES.false c.if-end-lt-END_ROOM.false in
    call-done _ _ _ _ _ _ _ _ _ _ ok snapshot.state operand.same c.of_state-ticked.ensures c.put_out.ensures c.encode.ensures.length c.encode.ensures.written
