-- What becomes of a record when it is played on a heap.
use Rattle.std.specs.Prelude.{List, [], ◌∷◌, Some, None, Ok, Err, Option, Result}
use Rattle.model.specs.Every.{call}
use Rattle.model.specs.Heap.{Heap}
use Rattle.model.specs.declared.answers.Answer.{Answer}
use Rattle.model.specs.declared.calls.Call.{Call}
use Rattle.model.specs.declared.calls.Event.{Event}
use Rattle.model.specs.declared.answers.Refusal.{Refusal}
use Rattle.tape.specs.declared.whole.Placed.{Placed}
use Rattle.player.specs.declared.faults.PlayFault.{PlayFault}
use Rattle.player.specs.declared.faults.PlayFault.TheVariants as F
use Rattle.player.specs.declared.outcomes.Played.{Played}

-- ---- one turn

-- The result of a record's call; a note has none.
abbrev pub Outcome : Type 0
Outcome = Option (Result Answer Refusal)

-- What became of a record, and the heap that it left.
pub record Turn : Type 0 where
  pub outcome : Outcome
  pub heap : Heap

-- A record's call, if it asks for one, is made; a note leaves the heap as it is.
abbrev pub turn_of : Option Call → Heap → Turn
turn_of None h = record { outcome = None; heap = h }
turn_of (Some c) h = record { outcome = Some (call c h).says; heap = (call c h).heap }

-- The outcome of a call belongs to a record that asks for one, the other to a note.
abbrev pub Suits : Option Call → Outcome → Type 0
Suits None None = Unit {0}
Suits None (Some r) = ⊥
Suits (Some c) None = ⊥
Suits (Some c) (Some r) = Unit {0}

-- What a log of calls has of a record: the call and its result, and nothing of a note.
abbrev pub logged : Option Call → Outcome → List Event
logged None o = []
logged (Some c) None = []
logged (Some c) (Some r) = record { call = c; answer = r } ∷ []

-- ---- the answer of a played record

abbrev answered : Placed → Outcome → Result (Option Answer) PlayFault
answered x None = Ok None
answered x (Some (Ok a)) = Ok (Some a)
answered x (Some (Err e)) = Err (F.Heap (record { placed = x; refusal = e }))

-- What its call was answered, nothing for a note; a refusal is a fault of the heap's, at the record's place.
abbrev pub answer_of : Played → Result (Option Answer) PlayFault
answer_of x = answered x.placed x.outcome
