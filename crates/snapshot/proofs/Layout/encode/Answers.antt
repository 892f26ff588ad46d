-- `encode` meets its contract: the parts that are written make up the snapshot.
use Rattle.std.proofs.Common.{ℕ, ◌*◌, List, [], ◌∷◌, ◌++◌, get_or, drop, ap, ◌∙◌, arith}
use Rattle.snapshot.proofs.Stores.{values-short, snapshot-long, three_stores, joined}
use Rattle.snapshot.proofs.Layout.encode.Goals as goal

pub split_at_mut-numbers-requires : goal.split_at_mut-numbers-requires
split_at_mut-numbers-requires c = omega (arith, values-short c.args.places.now, c.count-count.ensures, c.split_at_mut-header.ensures.back_len)

pub split_at_mut-values-requires : goal.split_at_mut-values-requires
split_at_mut-values-requires c = omega (arith, values-short c.args.places.now, c.count-count.ensures, c.split_at_mut-header.ensures.back_len, c.split_at_mut-numbers.ensures.back_len)

pub returns-clause-length : goal.returns-clause-length
returns-clause-length c = omega (arith, snapshot-long c.args.self.now.chip c.args.places.now, c.count-count.ensures, c.from-count.ensures)

pub returns-clause-written : goal.returns-clause-written
returns-clause-written c =
    let chip = c.args.self.now.chip in
    let rest = c.put_pairs.new.numbers ++ (c.put_pairs.new.values ++ c.split_at_mut-values.result.1.now) in
    ap (λ (header : List ℕ). header ++ rest) (three_stores c.split_at_mut-header.result.0.now chip _ _ c.split_at_mut-header.ensures.front_len ∙ (λ i. chip ∷ get_or (c.to_le_bytes.ensures i) 0 0 ∷ get_or (c.to_le_bytes.ensures i) 1 0 ∷ []))
    ∙ joined chip c.count-count.result c.args.places.now c.args.out.now c.split_at_mut-header.result.1.now c.split_at_mut-numbers.result.1.now c.split_at_mut-values.result.1.now c.put_pairs.new.numbers c.put_pairs.new.values
    c.count-count.ensures c.split_at_mut-header.ensures.back (c.split_at_mut-numbers.ensures.back ∙ (λ i. drop (2 * c.from-count.ensures i) c.split_at_mut-header.result.1.now)) (c.split_at_mut-values.ensures.back ∙ (λ i. drop (c.from-count.ensures i) c.split_at_mut-numbers.result.1.now))
    c.put_pairs.ensures.numbers c.put_pairs.ensures.values
