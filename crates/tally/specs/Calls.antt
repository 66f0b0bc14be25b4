-- The calls of a tape as a log, and how many calls of a log were granted.
use Rattle.std.specs.Prelude.{ℕ, List, [], ◌∷◌, Some, None, Option}
use Rattle.std.specs.List.{flat_map, count_by}
use Rattle.std.specs.Result.{is_ok}
use Rattle.model.specs.Answers.{asked}
use Rattle.model.specs.declared.calls.Call.{Call}
use Rattle.model.specs.declared.calls.Event.{Event}
use Rattle.player.specs.Calls.{call_of}
use Rattle.tape.specs.Format.{Entry}
use Rattle.tape.specs.Whole.{read_whole}

-- A call, yet to be answered; a note is none.
abbrev pub unanswered : Option Call → List Event
unanswered None = []
unanswered (Some c) = asked c ∷ []

-- The calls of these records, in order.
abbrev pub calls_in : List (ℕ × Entry) → List Event
calls_in records = flat_map (λ (x : ℕ × Entry). unanswered (call_of x.1)) records

-- The calls of a tape's whole records.
abbrev pub calls_on : List ℕ → List Event
calls_on t = calls_in (read_whole t).records

abbrev pub granted_in : List Event → ℕ
granted_in log = count_by (λ (e : Event). is_ok e.answer) log
