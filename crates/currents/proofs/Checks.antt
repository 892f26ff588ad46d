-- The claims of the call on a state.
use Prim.Native.Nat.{ℕ}
use mathlib.Core.Path.{◌≡◌, refl, sym, ap}
use mathlib.Core.Bool.{Bool, true, false, cond}
use mathlib.Core.List.{List, []}
use borrow.Author.Tests.{eqb-false}
use lib.Dec.{eqb}
use lib.ListN.{take, drop, replicate, length-take, drop_of_length-le}
use native.Mathlib.Omega.{arith}
use Rattle.laws.specs.Refusals.{or_else}
use Rattle.laws.proofs.Tests.{cond-all}
use Rattle.event.specs.Answer.{Answer, refused, gave, done, painted, showed, refusal_in}
use Rattle.event.specs.Event.{Outcome, form_refusal, played_unless}
use Rattle.event.proofs.Laws.{played-stays}
use Rattle.tlc34058.specs.Facts as facts
use Rattle.tlc34058.specs.State as state
use Rattle.tlc34058.specs.Tick.{undefined_bits, tick}
use Rattle.chip.specs.Chip.{State, tlc34058, hd153129, tms34070, unbuilt, value_refusal, state_refusal, chip, call_refusal, played}
use Rattle.chip.proofs.Shuffled.{refused-stays}
use Rattle.currents.specs.Currents.{current_count, currents_of, tick_of, other_chip, ticked}
use Rattle.currents.specs.Claims.{Checks}
use Rattle.currents.proofs.Ticks.{other, own}

-- a tick uses every operand byte, so its form isn't refused
no-unused : (o : List ℕ) → drop 7 (take 7 o) ≡ []
no-unused o = drop_of_length-le (take 7 o) {i = 7} (omega (arith, length-take 7 o))

tick-form : (o : List ℕ) → form_refusal facts.tick_bytes (tick_of o) ≡ 0
unfolding form_refusal
tick-form o = simp (no-unused o)

-- ---- refusals in their order

refused-or : (b : Bool) (a : Answer) → refusal_in a ≡ 0 → refusal_in (cond b (refused 4) a) ≡ cond b 4 0
refused-or true a e = refl
refused-or false a e = e

tick-refusal : (s : state.State) (o : List ℕ) → refusal_in (tick s.port s.display o) ≡ cond (undefined_bits o) 4 0
unfolding tick
tick-refusal s o = refused-or (undefined_bits o) _ refl

-- of a TLC34058 25, then 4
own-checks : (s : state.State) (o : List ℕ) → refusal_in (played (tlc34058 s) (tick_of o)).answer ≡ or_else (value_refusal (tlc34058 s)) (cond (undefined_bits o) 4 0)
unfolding played_unless state_refusal
own-checks s o = rw (tick-form o) (go (eqb v 0) refl)
  where
    v : ℕ
    v = value_refusal (tlc34058 s)

    go : (b : Bool) → eqb v 0 ≡ b → refusal_in (played_unless chip (cond b 0 v) (tlc34058 s) (tick_of o)).answer ≡ cond b (cond (undefined_bits o) 4 0) v
    go true e = tick-refusal s o
    go false e = simp e

-- of any other state 40
other-checks : (s : State) (o : List ℕ) → other_chip s ≡ 40 → refusal_in (ticked s o).answer ≡ 40
other-checks s o e = ap (λ p. refusal_in p.answer) (other s o 40 (sym e) (eqb-false 40 0 refl))

in_order : (s : State) (o : List ℕ) → refusal_in (ticked s o).answer ≡ or_else (other_chip s) (or_else (value_refusal s) (cond (undefined_bits o) 4 0))
in_order (tlc34058 s) o = rw (own (tlc34058 s) o refl) (own-checks s o)
in_order (hd153129 s) o = other-checks (hd153129 s) o refl
in_order (tms34070 s) o = other-checks (tms34070 s) o refl
in_order (unbuilt n) o = other-checks (unbuilt n) o refl

-- ---- what a refusal leaves

no-current : (a : Answer) → (refusal_in a ≡ 0 → ⊥) → currents_of a ≡ replicate current_count 0
no-current (refused n) h = refl
no-current (gave b) h = absurd (h refl)
no-current done h = absurd (h refl)
no-current (painted n) h = absurd (h refl)
no-current (showed count levels codes) h = absurd (h refl)

ticked-stays : (s : State) (o : List ℕ) → (refusal_in (ticked s o).answer ≡ 0 → ⊥) → (ticked s o).state ≡ s
unfolding ticked
ticked-stays s o = cond-all {A = Outcome State} (λ p. (refusal_in p.answer ≡ 0 → ⊥) → p.state ≡ s) (eqb (other_chip s) 0) _ _ (played-stays chip refused-stays (call_refusal s (tick_of o)) s (tick_of o)) (λ h. refl)

pub checks : Checks
checks s o = record { order = in_order s o; unchanged = λ h. (ticked-stays s o h, no-current (ticked s o).answer h) }
