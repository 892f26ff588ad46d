-- `accept` meets its contract: the test of a chip's places is the definition's.
use Rattle.std.proofs.Common.{ap, ◌∙◌}
use Rattle.snapshot.specs.Snapshot.{value_refusal}
use Rattle.planner.proofs.accept.Goals as goal
use Rattle.planner.proofs.Refusals.{wanted-many, wanted-right, wanted-wrong}

pub returns-in_default-clause-refusal : goal.returns-in_default-clause-refusal
returns-in_default-clause-refusal c = wanted-many c.args.wanted.now c.in_default.ensures.1

pub returns-in-Ok-check_values-clause-refusal : goal.returns-in-Ok-check_values-clause-refusal
returns-in-Ok-check_values-clause-refusal c = wanted-right c.args.wanted.now (c.in-Ok-check_values.ensures ∙ ap (value_refusal _) c.in-Ok.ensures.1.same)

pub returns-in-Err-clause-refusal : goal.returns-in-Err-clause-refusal
returns-in-Err-clause-refusal c = wanted-wrong c.args.wanted.now c.in-Err.field-0 (c.in-Err.ensures ∙ ap (value_refusal _) c.in-Ok.ensures.1.same)
