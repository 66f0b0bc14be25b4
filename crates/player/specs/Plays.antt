-- What holds of the playing of a tape on a heap over a store.
use Rattle.std.specs.Prelude.{◌≡◌, ℕ, List, ◌++◌, map, length, Some, None, Ok, Err, Option, Result}
use Rattle.std.specs.List.{flat_map, AllByRecursion}
use Rattle.heap.specs.Runs.{Ran}
use Rattle.model.specs.declared.calls.Call.{Call}
use Rattle.model.specs.declared.calls.Event.{Event}
use Rattle.tape.specs.Format.{Entry, entry_of}
use Rattle.tape.specs.Reading.{fault_of}
use Rattle.tape.specs.Whole.{placed, read_whole}
use Rattle.values.specs.declared.cells.Cell.{Cell}
use Rattle.player.specs.declared.faults.PlayFault.{PlayFault}
use Rattle.player.specs.declared.faults.PlayFault.TheVariants as F
use Rattle.player.specs.declared.outcomes.Played.{Played}
use Rattle.player.specs.Calls.{call_of}
use Rattle.player.specs.Outcomes.{Suits, logged}

-- ---- what was played

-- The records, each with its place.
abbrev pub records_of : List Played → List (ℕ × Entry)
records_of played = map (λ (x : Played). placed x.placed) played

-- The call that a played record asked for.
abbrev pub asked : Played → Option Call
asked x = call_of (entry_of x.placed.«record»)

-- The calls with their results, in order; notes are left out.
abbrev pub events_of : List Played → List Event
events_of played = flat_map (λ (x : Played). logged (asked x) x.outcome) played

-- The store held the cells before and holds the cells after.
pub record Plays (before after : List Cell) (played : List Played) : Type 0 where
  -- Every call was granted or refused, and every note passed on.
  pub suits : AllByRecursion (λ (x : Played). Suits (asked x) x.outcome) played
  -- Exactly these calls were made of a heap opened over the store, with these results; they obey the law, and the cells in use number what they say.
  pub ran : Ran before after (events_of played) (events_of played)

-- ---- how far it came, by the result

abbrev pub Ends : List ℕ → List Played → Result ℕ PlayFault → Type 0
-- All records of the tape were played, and n is their number.
Ends t played (Ok n) = (read_whole t ≡ record { records = records_of played; fault = None }) × (n ≡ length played)
-- The reader's fault stopped the playing, after all records before it.
Ends t played (Err (F.Tape f)) = read_whole t ≡ record { records = records_of played; fault = Some (fault_of f) }
-- A refused call stops nothing.
Ends t played (Err (F.Heap c)) = ⊥
-- Memory wanted: the first of the tape's records were played.
Ends t played (Err F.NoMemory) = (left : List (ℕ × Entry)) × (records_of played ++ left ≡ (read_whole t).records)
