-- `decode` meets its contract: what is stored is what the snapshot says, which has been checked.
use Rattle.std.proofs.Common.{◌≡◌, ◌∙◌, sym, eq-eqb, length}
use Rattle.snapshot.specs.Snapshot.{restored, numbers_in, values_in, placed}
use Rattle.snapshot.specs.Table.{table_of}
use Rattle.snapshot.proofs.Pairs.{pairs_below, accepted}
use Rattle.snapshot.proofs.Layout.decode.Goals as goal

pub put_places-requires-clause-inside : goal.put_places-requires-clause-inside
put_places-requires-clause-inside c =
    let self = c.args.self.now in
    let bytes = c.args.bytes.now in
    let ok = c.in_ok-numbers.ensures in
    let long : length c.fill.new.self ≡ length (table_of self) = c.fill.ensures.len ∙ c.requires in
    rw (long, ok.numbers, ok.values) (pairs_below (table_of self) 0 (numbers_in bytes) (values_in bytes) (accepted self.chip (table_of self) bytes (sym ok.refusal)).pairs)

pub returns : goal.returns
unfolding restored
returns c =
    let ok = c.in_ok-numbers.ensures in
    let cleared = c.fill.ensures.after (λ y e. e) in
    record {
      refusal = ok.refusal;
      left = c.put_places.ensures ∙ rw (eq-eqb _ _ (sym ok.refusal)) (λ i. placed (ok.numbers i) (ok.values i) (cleared i));
    }
