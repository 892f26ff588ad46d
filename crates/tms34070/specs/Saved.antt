-- Places of a sound state are valid and the other way round; every restored state is sound; a save leaves a sound state as it was; every event keeps it sound.
use Prim.Native.Nat.{ℕ, ◌+◌, ◌≤◌}
use mathlib.Core.Path.{◌≡◌, refl, sym, ◌∙◌, ap}
use mathlib.Core.List.{List, [], ◌∷◌, ◌++◌}
use native.Mathlib.Omega.{arith}
use lib.ListN.{length, get_or, take, replicate, take-append-drop}
use lib.Seq.{take_at, get_or-append-add, get_or-drop}
use Rattle.laws.specs.Bytes.{AllBytes}
use Rattle.laws.proofs.Lists.{zeros-small, drop-list}
use Rattle.snapshot.specs.Snapshot.{Valid, refusal_for}
use Rattle.snapshot.proofs.Parts.{each, two-parts-valid, valid-two-parts, places-two-parts}
use Rattle.snapshot.proofs.Layouts as layout
use Rattle.interleaving.specs.Log.{Event, access, display, save, accesses, Every, step}
use Rattle.event.specs.Event.{Raw}
use Rattle.event.proofs.Laws.{Fit}
use Rattle.tms34070.specs.Facts.{number, values, largest_rest, places, largest_values, largest}
use Rattle.tms34070.specs.State.{State, fresh}
use Rattle.tms34070.specs.Places.{tail_of, places_of, state_from, saved, decoded_or_fresh}
use Rattle.tms34070.specs.Machine.{chip}
use Rattle.tms34070.specs.Sound.{Sound, sound-black, values-long, sound-move, sound-advance}

pub valid : (s : State) → Sound s → Valid largest (places_of s)
unfolding largest places_of
valid s v =
    let p = v.port in
    let c = v.before in
    let rest = each largest_rest (tail_of s) (p.position, (p.held_red, (p.held_attributes, (c.red, (c.green, (c.blue, tt)))))) in
    two-parts-valid largest_values largest_rest s.port.values (tail_of s) refl (record { long = p.long ∙ sym values-long; small = p.small; rest-small = rest })

pub sound : (s : State) → Valid largest (places_of s) → Sound s
unfolding largest places_of
sound s v =
    let p = valid-two-parts largest_values largest_rest s.port.values (tail_of s) refl v in
    let r = p.rest-small in
    record { port = record { long = p.long ∙ values-long; small = p.small; position = r 0; held_red = r 1; held_attributes = r 2 }; before = record { red = r 3; green = r 4; blue = r 5 } }

pub sound-from : (l : List ℕ) → Valid largest l → Sound (state_from l)
unfolding largest state_from
sound-from l v =
    let p = places-two-parts largest_values largest_rest l values values-long v in
    let at : (k : ℕ) → get_or l (values + k) 0 ≤ get_or largest_rest k 0 = λ k. rw (get_or-drop values l k 0) at (p.rest-small k) in
    record { port = record { long = p.long ∙ values-long; small = p.small; position = at 0; held_red = at 1; held_attributes = at 2 }; before = record { red = at 3; green = at 4; blue = at 5 } }

pub sound-fresh : Sound fresh
sound-fresh = record {
  port = record { long = refl; small = λ i. zeros-small (get_or largest_values i 0) values i; position = omega arith; held_red = omega arith; held_attributes = omega arith };
  before = sound-black;
}

pub largest-long : length largest ≡ places
unfolding largest largest_values
largest-long = refl

-- the state of a sound state's places is that state
pub state-back : (s : State) → Sound s → state_from (places_of s) ≡ s
unfolding state_from places_of
state-back s v =
    let long = v.port.long in
    let rest : List ℕ = tail_of s in
    let at : (k : ℕ) → get_or (s.port.values ++ rest) (values + k) 0 ≡ get_or rest k 0 = λ k. rw long at (get_or-append-add s.port.values rest k 0) in
    simp (take_at s.port.values rest values long, at 0, at 1, at 2, at 3, at 4, at 5)

-- the places of the state of a list of places are those places
pub places-back : (l : List ℕ) → length l ≡ length largest → places_of (state_from l) ≡ l
unfolding places_of state_from
places-back l h = ap (λ r. take values l ++ r) (sym (drop-list l values (length largest_rest) (h ∙ largest-long))) ∙ take-append-drop values l

pub fresh-from : state_from (replicate (length largest) 0) ≡ fresh
unfolding state_from largest largest_values
fresh-from = refl

abbrev chip_layout : layout.Layout State
chip_layout = record {
  chip = number;
  table = largest;
  places = places_of;
  from = state_from;
  fresh = fresh;
  few = omega (arith, largest-long);
  fresh-from = fresh-from;
  places-from = places-back;
}

-- every restored state is sound
pub sound-restore : (b : List ℕ) → Sound (decoded_or_fresh b)
sound-restore = layout.restore-all chip_layout Sound sound-from sound-fresh

-- a save leaves a sound state as it was
pub saved-same : (s : State) → Sound s → decoded_or_fresh (saved s) ≡ s
saved-same s v = layout.saved-same chip_layout s (valid s v) (state-back s v)

-- for every accepted snapshot, restoring and then saving gives the same bytes
pub bytes_back : (b : List ℕ) → AllBytes b → refusal_for number largest b ≡ 0 → saved (decoded_or_fresh b) ≡ b
bytes_back = layout.bytes_back chip_layout

-- the snapshot of a sound state is accepted
pub saved-accepted : (s : State) → Sound s → refusal_for number largest (saved s) ≡ 0
saved-accepted s v = layout.saved-accepted chip_layout s (valid s v)

-- every event keeps a sound state sound
pub sound-step : (s : State) (e : Event Raw Raw) → Sound s → Every Fit (accesses (e ∷ [])) → Sound (step chip s e)
sound-step s (access e) v f = record { port = sound-move s.port e v.port; before = v.before }
sound-step s (display e) v f = record { port = v.port; before = sound-advance s.port v.port s.before e v.before }
sound-step s save v f = sound-restore (saved s)
