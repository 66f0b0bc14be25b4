-- The lines of a played tape.
use Rattle.std.specs.Prelude.{ℕ, List, [], ◌++◌, Some, None, Ok, Err, Option, Result, codes, decimal}
use Rattle.std.specs.List.{flat_map}
use Rattle.model.specs.Answers.{answer_text}
use Rattle.model.specs.declared.answers.Answer.{Answer}
use Rattle.model.specs.declared.answers.Answer.TheVariants as A
use Rattle.player.specs.Faults.{report_of}
use Rattle.player.specs.Outcomes.{answer_of}
use Rattle.player.specs.declared.faults.PlayFault.{PlayFault}
use Rattle.player.specs.declared.faults.Report.{Report}
use Rattle.player.specs.declared.outcomes.Played.{Played}
use Rattle.tape.specs.Faults.{fault_number}
use Rattle.tape.specs.Format.{Entry, note, entry_of, first, kind}
use Rattle.tape.specs.Printed.{ended, hexadecimal}
use Rattle.tape.specs.Reading.{Fault}
use Rattle.tape.specs.declared.faults.Layer.{Layer}
use Rattle.tape.specs.declared.faults.Layer.TheVariants as L
use Rattle.lines.specs.declared.faults.ProgramFault.{ProgramFault}
use Rattle.lines.specs.declared.granted.Line.{Line}

-- What a program makes of a fault of the player's.
abbrev pub in_program : PlayFault → ProgramFault
in_program f = record { report = report_of f; cause = f }

-- The word that stands before a fault's number in a line.
abbrev pub layer_word : Layer → List ℕ
layer_word L.Tape = codes "bad"
layer_word L.Heap = codes "no"

abbrev lined : Played → Result (Option Answer) PlayFault → Result Line ProgramFault
lined x (Ok a) = Ok (record { placed = x.placed; answer = a })
lined x (Err f) = Err (in_program f)

-- A line for what was answered, and a fault for what was refused.
abbrev pub line_of : Played → Result Line ProgramFault
line_of x = lined x (answer_of x)

-- ---- what is printed

-- A note's text after a space, two hexadecimal digits for each byte; nothing of a call's record.
abbrev note_text : Entry → List ℕ
note_text (note text) = codes " " ++ hexadecimal text
note_text e = []

-- An answer after a space; nothing for a call that only does something.
abbrev answered : Option Answer → List ℕ
answered None = []
answered (Some A.Done) = []
answered (Some a) = codes " " ++ answer_text a

-- The line of a note or of a granted call: its place, the number of its kind, the word ok, the note's text, and the answer.
abbrev pub line_text : Line → List ℕ
line_text l =
    let e = entry_of l.placed.«record» in
    decimal l.placed.place ++ (codes " " ++ (decimal (kind e).number ++ (codes " ok" ++ (note_text e ++ answered l.answer))))

-- The line of a fault: the place of its record, the record's first byte, the layer's word, and the number of the fault.
abbrev pub report_text : Report → List ℕ
report_text r = decimal r.place ++ (codes " " ++ (decimal r.kind ++ (codes " " ++ (layer_word r.layer ++ (codes " " ++ decimal r.number)))))

-- How a fault is reported that stopped the reading of a tape.
abbrev pub reading_report : Fault → Report
reading_report f = record { number = fault_number f.what; place = f.place; kind = first f.unread; layer = L.Tape }

-- A fault that is not reported has no line.
abbrev pub fault_lines : Option Report → List ℕ
fault_lines None = []
fault_lines (Some r) = ended (report_text r)

abbrev line_lines : Result Line ProgramFault → List ℕ
line_lines (Ok l) = ended (line_text l)
line_lines (Err f) = fault_lines f.report

-- A line for each played record: what was answered, or the fault.
abbrev pub played_lines : List Played → List ℕ
played_lines played = flat_map (λ (x : Played). line_lines (line_of x)) played
