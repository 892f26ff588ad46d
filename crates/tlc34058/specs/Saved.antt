-- Places of a sound state are valid and the other way round; every restored state is sound, and every event keeps a sound state sound; a save leaves it as it was.
use Prim.Native.Nat.{ℕ, ◌+◌, ◌≤◌}
use mathlib.Core.Path.{◌≡◌, refl, sym, ◌∙◌, ap}
use mathlib.Core.List.{List, [], ◌∷◌, ◌++◌}
use native.Mathlib.Omega.{arith}
use lib.ListN.{length, get_or, take, replicate, take-append-drop}
use lib.Seq.{take_at, get_or-append-add, get_or-drop}
use Rattle.laws.specs.Bytes.{AllBytes}
use Rattle.laws.proofs.Lists.{zeros-small, drop-list}
use Rattle.snapshot.specs.Snapshot.{Valid, refusal_for}
use Rattle.snapshot.proofs.Parts.{Parts, each, parts-valid, valid-parts, places-parts}
use Rattle.snapshot.proofs.Layouts as layout
use Rattle.interleaving.specs.Log.{Event, access, display, save, accesses, Every, step}
use Rattle.event.specs.Event.{Raw}
use Rattle.event.proofs.Laws.{Fit}
use Rattle.tlc34058.specs.Facts.{number, colours, largest_colour, largest_rest, places, largest}
use Rattle.tlc34058.specs.State.{State, fresh}
use Rattle.tlc34058.specs.Places.{behind, tail_of, places_of, state_from, saved, decoded_or_fresh}
use Rattle.tlc34058.specs.Port.{request}
use Rattle.tlc34058.specs.Machine.{chip}
use Rattle.tlc34058.specs.Sound.{Sound, sound-black, request-byte, sound-next, sound-after}

-- the colours and the rest within their bounds are a sound state
sound-parts : (s : State) → Parts colours largest_colour largest_rest s.port.colours (tail_of s) → Sound s
sound-parts s p =
    let r = p.rest-small in
    record {
      port = record {
        long = p.long;
        small = p.small;
        cursor = record { address = r 0; position = r 1; held_red = r 2; held_green = r 3 };
        registers = record { read_mask = r 4; blink_mask = r 5; command = r 6; test = r 7 };
      };
      display = record { blink = r 8; last = record { red = r 9; green = r 10; blue = r 11 } };
    }

parts-sound : (s : State) → Sound s → Parts colours largest_colour largest_rest s.port.colours (tail_of s)
parts-sound s v =
    let c = v.port.cursor in
    let r = v.port.registers in
    let d = v.display in
    record {
      long = v.port.long;
      small = v.port.small;
      rest-small = each largest_rest (tail_of s)
          (c.address, (c.position, (c.held_red, (c.held_green, (r.read_mask, (r.blink_mask, (r.command, (r.test, (d.blink, (d.last.red, (d.last.green, (d.last.blue, tt))))))))))));
    }

pub valid : (s : State) → Sound s → Valid largest (places_of s)
unfolding largest places_of
valid s v = parts-valid colours largest_colour largest_rest s.port.colours (tail_of s) refl (parts-sound s v)

pub sound : (s : State) → Valid largest (places_of s) → Sound s
unfolding largest places_of
sound s v = sound-parts s (valid-parts colours largest_colour largest_rest s.port.colours (tail_of s) refl v)

sound-from : (l : List ℕ) → Valid largest l → Sound (state_from l)
unfolding largest state_from
sound-from l v =
    let p = places-parts colours largest_colour largest_rest l v in
    let at : (k : ℕ) → behind l k ≤ get_or largest_rest k 0 = λ k. rw (get_or-drop colours l k 0) at (p.rest-small k) in
    record {
      port = record {
        long = p.long;
        small = p.small;
        cursor = record { address = at 0; position = at 1; held_red = at 2; held_green = at 3 };
        registers = record { read_mask = at 4; blink_mask = at 5; command = at 6; test = at 7 };
      };
      display = record { blink = at 8; last = record { red = at 9; green = at 10; blue = at 11 } };
    }

pub sound-fresh : Sound fresh
sound-fresh = record {
  port = record {
    long = refl;
    small = zeros-small largest_colour colours;
    cursor = record { address = omega arith; position = omega arith; held_red = omega arith; held_green = omega arith };
    registers = record { read_mask = omega arith; blink_mask = omega arith; command = omega arith; test = omega arith };
  };
  display = record { blink = omega arith; last = sound-black };
}

pub largest-long : length largest ≡ places
unfolding largest
largest-long = refl

-- the state of a sound state's places is that state
pub state-back : (s : State) → Sound s → state_from (places_of s) ≡ s
unfolding state_from places_of
state-back s v =
    let long = v.port.long in
    let rest : List ℕ = tail_of s in
    let at : (k : ℕ) → get_or (s.port.colours ++ rest) (colours + k) 0 ≡ get_or rest k 0 = λ k. rw long at (get_or-append-add s.port.colours rest k 0) in
    simp (take_at s.port.colours rest colours long, at 0, at 1, at 2, at 3, at 4, at 5, at 6, at 7, at 8, at 9, at 10, at 11)

-- the places of the state of a list of places are those places
pub places-back : (l : List ℕ) → length l ≡ length largest → places_of (state_from l) ≡ l
unfolding places_of state_from
places-back l h = ap (λ r. take colours l ++ r) (sym (drop-list l colours (length largest_rest) (h ∙ largest-long))) ∙ take-append-drop colours l

pub fresh-from : state_from (replicate (length largest) 0) ≡ fresh
unfolding state_from largest
fresh-from = refl

abbrev chip_layout : layout.Layout State
chip_layout = record {
  chip = number;
  table = largest;
  places = places_of;
  from = state_from;
  fresh = fresh;
  few = omega (arith, largest-long);
  fresh-from = fresh-from;
  places-from = places-back;
}

-- every restored state is sound
pub sound-restore : (b : List ℕ) → Sound (decoded_or_fresh b)
sound-restore = layout.restore-all chip_layout Sound sound-from sound-fresh

-- a save leaves a sound state as it was
pub saved-same : (s : State) → Sound s → decoded_or_fresh (saved s) ≡ s
saved-same s v = layout.saved-same chip_layout s (valid s v) (state-back s v)

-- for every accepted snapshot, restoring and then saving gives the same bytes
pub bytes_back : (b : List ℕ) → AllBytes b → refusal_for number largest b ≡ 0 → saved (decoded_or_fresh b) ≡ b
bytes_back = layout.bytes_back chip_layout

-- the snapshot of a sound state is accepted
pub saved-accepted : (s : State) → Sound s → refusal_for number largest (saved s) ≡ 0
saved-accepted s v = layout.saved-accepted chip_layout s (valid s v)

-- every event keeps a sound state sound
pub sound-step : (s : State) (e : Event Raw Raw) → Sound s → Every Fit (accesses (e ∷ [])) → Sound (step chip s e)
sound-step s (access e) v f = record { port = sound-next s.port (request s.port e) (request-byte s.port e f.0) v.port; display = v.display }
sound-step s (display e) v f = record { port = v.port; display = sound-after s.port s.display e v.port v.display }
sound-step s save v f = sound-restore (saved s)
