-- What a TMS34070 shows of its rules.
use Prim.Native.Nat.{◌<◌}
use mathlib.Core.Path.{◌≡◌, refl}
use native.Mathlib.Omega.{arith}
use borrow.Author.Tests.{ne_eqb}
use Rattle.interleaving.specs.Log.{step, answer}
use Rattle.event.specs.Kinds as kinds
use Rattle.event.specs.Answer.{done}
use Rattle.event.specs.Event.{Raw, tagged}
use Rattle.event.proofs.Laws.{unknown-stays}
use Rattle.palette_chip.specs.Rules as palette
use Rattle.tms34070.specs.State.{State}
use Rattle.tms34070.specs.Tick.{before_next}
use Rattle.tms34070.specs.Machine.{chip, rules}
use Rattle.tms34070.specs.Saved.{valid, sound, largest-long, places-back, state-back, fresh-from, sound-step}

-- what isn't a known kind changes nothing and answers zeros
pub unknown-kind : (s : State) (e : Raw) → kinds.highest < e.kind → (step chip s (tagged e) ≡ s) × (answer chip s (tagged e) ≡ done)
unknown-kind s e k =
    unknown-stays chip s e k
    (λ i. record { port = s.port; before = stays i })
    (simp (ne_eqb e.kind 2 (λ z. omega arith), ne_eqb e.kind 3 (λ z. omega arith)))
  where
    stays : before_next s.port s.before e ≡ s.before
    stays = simp (ne_eqb e.kind 2 (λ z. omega arith))

pub laws : palette.Laws rules
laws = record {
  few-places = omega (arith, largest-long);
  few-tick-bytes = omega arith;
  places-from = places-back;
  state-back = λ s v. state-back s (sound s v);
  fresh-from = fresh-from;
  kept-state = λ s. refl;
  kept-answer = λ s. refl;
  valid-step = λ s e v f. valid _ (sound-step s e (sound s v) f);
  unknown-kind = unknown-kind;
}
