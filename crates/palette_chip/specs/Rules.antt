-- A palette chip, any one: its numbers, its places, and the machine that it is; and the calls that go by these alone.
use Rattle.std.specs.Prelude.{ℕ, ◌<◌, ◌≤◌, ◌≡◌, List, [], ◌∷◌, length, replicate}
use Rattle.laws.specs.Refusals.{or_else}
use Rattle.snapshot.specs.Snapshot as snapshot
use Rattle.snapshot.specs.Table.{table_of}
use Rattle.snapshot.specs.declared.Layout as layout
use Rattle.interleaving.specs.Log.{Event, accesses, Every, Machine, step, answer}
use Rattle.event.specs.Kinds as kinds
use Rattle.event.specs.Answer.{Answer, done}
use Rattle.event.specs.Event.{Raw, operand_at, tagged, form_refusal, Outcome, played_unless}

-- the chip byte; how many first operand bytes a tick uses beside the last; the places' largest values; a fresh chip; a state's places, and the state of a list of places; what each event answers and leaves
pub record Rules (S : Type 0) : Type 0 where
  pub number : ℕ
  pub tick_bytes : ℕ
  pub largest : List ℕ
  pub fresh : S
  pub places_of : S → List ℕ
  pub state_from : List ℕ → S
  pub machine : Machine S Raw Raw Answer

module _ {S : Type 0} (r : Rules S) where
  -- no value is above its place's largest
  abbrev pub IsValid : S → Type 0
  IsValid s = snapshot.Valid r.largest (r.places_of s)

  -- so many places are enough for the chip's and no more than any chip has, and so many bytes are those of the longest snapshot of so many
  pub record IsEnough (places bytes : ℕ) : Type 0 where
    pub enough : length r.largest ≤ places
    pub few : places ≤ 792
    pub snapshot : bytes ≡ snapshot.room_for places

  abbrev pub saved : S → List ℕ
  saved s = snapshot.snapshot_of r.number (r.places_of s)

  -- the state that bytes give as a snapshot of this chip; its fresh state where they are refused
  abbrev pub decoded_or_fresh : List ℕ → S
  decoded_or_fresh b = snapshot.restored_by r.number r.largest r.state_from r.fresh b

  abbrev pub value_refusal : S → ℕ
  value_refusal s = snapshot.value_refusal r.largest (r.places_of s)

  -- before an event's own refusals: 25, then 14, then 15
  abbrev pub call_refusal : S → Raw → ℕ
  call_refusal s e = or_else (value_refusal s) (form_refusal r.tick_bytes e)

  -- an event called by itself
  abbrev pub played : S → Raw → Outcome S
  played s e = played_unless r.machine (call_refusal s e) s e

  -- a layout of the code is the chip's: its byte, and its places' largest values
  pub record IsLayout (l : layout.Layout) : Type 0 where
    pub number : l.chip ≡ r.number
    pub largest : table_of l ≡ r.largest

  -- what every chip shows of its rules
  pub record Laws : Type 0 where
    pub few-places : length r.largest ≤ 792
    pub few-tick-bytes : r.tick_bytes ≤ 7
    -- a state and its places give each other
    pub places-from : (l : List ℕ) → length l ≡ length r.largest → r.places_of (r.state_from l) ≡ l
    pub state-back : (s : S) → IsValid s → r.state_from (r.places_of s) ≡ s
    pub fresh-from : r.state_from (replicate (length r.largest) 0) ≡ r.fresh
    -- a save is its two steps, and answers all zeros
    pub kept-state : (s : S) → r.machine.keep s ≡ decoded_or_fresh (saved s)
    pub kept-answer : (s : S) → r.machine.kept s ≡ done
    -- every event keeps a valid state valid, if its byte is a byte
    pub valid-step : (s : S) (e : Event Raw Raw) → IsValid s → Every (λ x. operand_at x 1 ≤ 255) (accesses (e ∷ [])) → IsValid (step r.machine s e)
    -- what isn't a known kind changes nothing and answers zeros
    pub unknown-kind : (s : S) (e : Raw) → kinds.highest < e.kind → (step r.machine s (tagged e) ≡ s) × (answer r.machine s (tagged e) ≡ done)
