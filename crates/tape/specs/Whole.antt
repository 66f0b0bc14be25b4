-- What is read off a whole tape.
use Rattle.std.specs.Prelude.{ℕ, zero, suc, List, [], ◌∷◌, map, length, Some, None, vec_items, Option}
use Rattle.std.specs.Option.{option_map}
use Rattle.tape.specs.declared.whole.Placed.{Placed}
use Rattle.tape.specs.declared.whole.Reading.{Reading}
use Rattle.tape.specs.Format.{Entry, entry_of}
use Rattle.tape.specs.Reading.{Fault, fault_of, Read, ended, got, bad, read}

-- A tape, read: its whole records in order, each with its place, and the fault at which the reading stopped, if any.
pub record Whole : Type 0 where
  pub records : List (ℕ × Entry)
  pub fault : Option Fault

-- One record before the others.
abbrev pub more : ℕ → Entry → Whole → Whole
more p e w = record { records = (p, e) ∷ w.records; fault = w.fault }

-- What one reading at the place p leads to, where `onward` reads the rest.
abbrev pub turn : (List ℕ → ℕ → Whole) → ℕ → Read → Whole
turn onward p ended = record { records = []; fault = None }
turn onward p (got e u q) = more p e (onward u q)
turn onward p (bad f) = record { records = []; fault = Some f }

-- The same, by at most n readings one after the other.
unfoldable pub turns : ℕ → List ℕ → ℕ → Whole
turns zero t p = record { records = []; fault = None }
turns (suc n) t p = turn (turns n) p (read t p)

-- A tape that begins at the place p: every record takes a byte at least, so there are no more than the tape has bytes.
abbrev pub read_from : List ℕ → ℕ → Whole
read_from t p = turns (length t) t p

abbrev pub read_whole : List ℕ → Whole
read_whole t = read_from t 0

-- What the code's types mean.
abbrev pub placed : Placed → ℕ × Entry
placed x = (x.place, entry_of x.record)

abbrev pub whole_of : Reading → Whole
whole_of r = record { records = map placed (vec_items r.records); fault = option_map fault_of r.fault }
