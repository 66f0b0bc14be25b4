-- What is read off the front of a tape.
use Rattle.std.specs.Prelude.{ℕ, ◌+◌, ◌-◌, ◌^◌, min, cond, List, [], ◌∷◌, length, drop, Some, None, Ok, Err, Option, Result, nat_le}
use Rattle.std.specs.Borrow.{Bor}
use Rattle.tape.specs.declared.faults.FaultKind.{FaultKind}
use Rattle.tape.specs.declared.faults.FaultKind.TheVariants as F
use Rattle.tape.specs.declared.faults.TapeFault.{TapeFault}
use Rattle.tape.specs.declared.reader.Taken.{Taken}
use Rattle.tape.specs.declared.records.Record.{Record}
use Rattle.tape.specs.Format.{Entry, entry_of, span, readings, of_kind}

-- What stands at the front of a tape: nothing; or a whole record, and what follows it; or a faulty one.
pub data Front : Type 0 where
  empty : Front
  whole : Entry → List ℕ → Front
  faulty : FaultKind → Front

-- The front of a tape, where its first byte tells that this entry stands there, or tells none.
abbrev pub front_as : Option Entry → List ℕ → Front
front_as None t = faulty F.UnknownKind
front_as (Some e) t = cond (nat_le (span e) (length t)) (whole e (drop (span e) t)) (faulty F.CutShort)

abbrev pub front : List ℕ → Front
front [] = empty
front (k ∷ b) = front_as (of_kind k (readings (k ∷ b))) (k ∷ b)

-- What the code answers, as a front.
abbrev pub split_off : Result (Option (Record × Bor (List ℕ))) FaultKind → Front
split_off (Ok None) = empty
split_off (Ok (Some (given, left))) = whole (entry_of given) left.now
split_off (Err what) = faulty what

-- A fault: what is wrong, the unread part, which begins with the faulty record, and its place.
pub record Fault : Type 0 where
  pub what : FaultKind
  pub unread : List ℕ
  pub place : ℕ

-- One reading: the end of the tape; or a record, what is left, and its place; or a fault.
pub data Read : Type 0 where
  ended : Read
  got : Entry → List ℕ → ℕ → Read
  bad : Fault → Read

-- The place n bytes after the place p; places end at 2 ^ 64 - 1, which no tape that is read from its start comes to.
abbrev pub after : ℕ → ℕ → ℕ
after p n = min (p + n) (2 ^ 64 - 1)

-- What a front of the tape t, which begins at the place p, is read as.
abbrev pub read_front : Front → List ℕ → ℕ → Read
read_front empty t p = ended
read_front (whole e u) t p = got e u (after p (length t - length u))
read_front (faulty f) t p = bad (record { what = f; unread = t; place = p })

-- What is read off a tape that begins at the place p.
abbrev pub read : List ℕ → ℕ → Read
read t p = read_front (front t) t p

-- What the code answers, as a reading.
abbrev pub fault_of : TapeFault → Fault
fault_of f = record { what = f.what; unread = f.rest.tape.now; place = f.rest.place }

abbrev pub seen : Result (Option Taken) TapeFault → Read
seen (Ok None) = ended
seen (Ok (Some t)) = got (entry_of t.record) t.rest.tape.now t.rest.place
seen (Err f) = bad (fault_of f)
