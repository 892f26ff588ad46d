-- `pairs` meets its contract: where the header has nothing to refuse, the pairs decide.
use Rattle.std.proofs.Common.{◌≡◌, ◌∙◌, arith, rules}
use Rattle.refusal.specs.Refusal.{number_of}
use Rattle.snapshot.specs.Snapshot.{refusal_for}
use Rattle.snapshot.specs.Table.{table_of}
use Rattle.snapshot.proofs.Pairs.{pairs-decide, values-cut}
use Rattle.snapshot.proofs.Layout.pairs.Goals as goal

pub returns-in_err-check_pairs-clause-refusal : goal.returns-in_err-check_pairs-clause-refusal
returns-in_err-check_pairs-clause-refusal c =
    let self = c.args.self.now in
    let decided = pairs-decide c.args.bytes.now c.split_at.result.1.now c.split_at-2.result.0.now c.split_at-2.result.1.now c.word-count.result c.word-count.ensures.value c.split_at.ensures.back self.chip (table_of self)
    c.split_at-2.ensures.front c.split_at-2.ensures.back c.if-bytes-lt-HEADER_BYTES.false c.if-bytes-self.false (omega arith) c.if-bytes-count.false in
    let refused : number_of c.in_err-check_pairs.field-0.0 ≡ refusal_for self.chip (table_of self) c.args.bytes.now = c.in_err-check_pairs.ensures ∙ decided in
    search (rules, refused)

pub returns-clause-refusal : goal.returns-clause-refusal
returns-clause-refusal c =
    let self = c.args.self.now in
    c.in_ok-check_pairs.ensures
    ∙ pairs-decide c.args.bytes.now c.split_at.result.1.now c.split_at-2.result.0.now c.split_at-2.result.1.now c.word-count.result c.word-count.ensures.value c.split_at.ensures.back self.chip (table_of self)
    c.split_at-2.ensures.front c.split_at-2.ensures.back c.if-bytes-lt-HEADER_BYTES.false c.if-bytes-self.false (omega arith) c.if-bytes-count.false

pub returns-clause-values : goal.returns-clause-values
returns-clause-values c = values-cut c.args.bytes.now c.split_at.result.1.now c.split_at-2.result.0.now c.split_at-2.result.1.now c.word-count.result c.word-count.ensures.value c.split_at.ensures.back c.split_at-2.ensures.back
