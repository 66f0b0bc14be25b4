-- The law of reading a whole tape.
use Rattle.std.specs.Prelude.{◌≡◌, ℕ, ◌+◌, ◌<◌, ◌⊎◌, List, [], ◌∷◌, ◌++◌, length, Some, None, Option}
use Rattle.std.specs.List.{flat_map}
use Rattle.tape.specs.declared.faults.FaultKind.{FaultKind}
use Rattle.tape.specs.declared.faults.FaultKind.TheVariants as F
use Rattle.tape.specs.Format.{Entry, kind, span, written, first}
use Rattle.tape.specs.Reading.{Fault}
use Rattle.tape.specs.Whole.{Whole}

-- What was not read: nothing, unless a fault stopped the reading.
abbrev pub unread : Option Fault → List ℕ
unread None = []
unread (Some f) = f.unread

-- Where the reading of a tape that begins at the place p stopped.
abbrev pub stop : ℕ → List ℕ → Option Fault → ℕ
stop p t None = p + length t
stop p t (Some f) = f.place

-- Records stand one right after the other, from the place p up to the place q.
abbrev pub Adjoin : ℕ → List (ℕ × Entry) → ℕ → Type 0
Adjoin p [] q = p ≡ q
Adjoin p ((at, e) ∷ rs) q = (at ≡ p) × Adjoin (p + length (written e)) rs q

-- A tape begins with a record that is faulty in this way: its number is that of no kind, or the tape is shorter than a record of its kind.
abbrev pub Faulty : FaultKind → List ℕ → Type 0
Faulty F.UnknownKind t = (0 < length t) × ((first t ≡ 0) ⊎ (16 < first t))
Faulty F.CutShort t = (e : Entry) × ((kind e).number ≡ first t) × (length t < span e)

abbrev pub Stops : Option Fault → Type 0
Stops None = Unit {0}
Stops (Some f) = Faulty f.what f.unread

-- Of a tape that begins at the place p: its records, written out again and followed by the unread part, are the tape;
-- each stands where the one before it ends; and the unread part, if there is one, begins with a faulty record.
pub record Law (p : ℕ) (t : List ℕ) (w : Whole) : Type 0 where
  pub again : flat_map (λ (x : ℕ × Entry). written x.1) w.records ++ unread w.fault ≡ t
  pub places : Adjoin p w.records (stop p t w.fault)
  pub stops : Stops w.fault
