-- `resave` meets its contract: the snapshot of valid places is accepted, and gives them back.
use Rattle.std.proofs.Common.{length, ◌≤◌, ◌≡◌, ◌∙◌, sym, true, refl, Result, Ok, Err, arith}
use Rattle.std.specs.Result.{is_ok}
use Rattle.refusal.specs.Refusal.{refusal_of, number_of}
use Rattle.refusal.specs.declared.Refusal.{Refusal}
use Rattle.snapshot.specs.Table.{table_of}
use Rattle.snapshot.proofs.RoundTrip.{resaved-from, accepted-from}
use Rattle.snapshot.proofs.Layout.resave.Goals as goal

-- no refusal has the number 0
refused : (r : Refusal) → number_of r ≡ 0 → ⊥
refused r e = grind arith

ok : {A : Type 0} (r : Result A Refusal) → refusal_of r ≡ 0 → is_ok r ≡ true
ok (Ok x) e = refl
ok (Err r) e = absurd (refused r e)

pub prove-unreachable-requires : goal.prove-unreachable-requires
prove-unreachable-requires c =
    let self = c.args.self.now in
    let encode = c.encode-length in
    let short : length (table_of self) ≤ 65535 = omega (arith, c.requires.valid.long, c.requires.few) in
    let accepted = accepted-from self.chip encode.result (table_of self) c.args.places.now c.args.bytes.now encode.new.out c.requires.valid short encode.ensures.length encode.ensures.written in
    let yes = ok c.decode-restored.result (c.decode-restored.ensures.refusal ∙ accepted) in
    let no = sym c.is_ok.ensures.value ∙ c.if-prove.true in
    cc

pub returns-clause-places : goal.returns-clause-places
returns-clause-places c =
    let self = c.args.self.now in
    let encode = c.encode-length in
    let short : length (table_of self) ≤ 65535 = omega (arith, c.requires.valid.long, c.requires.few) in
    c.decode-restored.ensures.left ∙ resaved-from self.chip encode.result (table_of self) c.args.places.now c.args.bytes.now encode.new.out c.requires.valid short encode.ensures.length encode.ensures.written
