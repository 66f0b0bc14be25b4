-- What holds of a tape that was played and listed.
use Rattle.std.specs.Io.KnownBytes.{Appends}
use Rattle.std.specs.Option.{option_map}
use Rattle.std.specs.Prelude.{◌≡◌, ℕ, ◌≤◌, List, ◌++◌, length, true, is_some, None, Ok, Err, Option, Result, codes, decimal}
use Rattle.player.specs.Faults.{report_of}
use Rattle.player.specs.Plays.{records_of, Plays, Ends}
use Rattle.player.specs.declared.outcomes.Played.{Played}
use Rattle.tape.specs.Whole.{read_whole}
use Rattle.values.specs.declared.cells.Cell.{Cell}
use Rattle.lines.specs.Lines.{fault_lines, played_lines, reading_report}
use Rattle.tape.specs.Printed.{ended}
use Rattle.lines.specs.declared.faults.ProgramFault.{ProgramFault}

-- How the playing of a tape ended, as the program has it: by the player's fault, with its report.
abbrev pub EndsInProgram : List ℕ → List Played → Result ℕ ProgramFault → Type 0
EndsInProgram t played (Ok n) = Ends t played (Ok n)
EndsInProgram t played (Err f) = Ends t played (Err f.cause) × (f.report ≡ report_of f.cause)

-- A fault that is reported is the one at which the reading of the tape stopped; where the playing came to the end, there was none.
abbrev pub StopsAsRead : List ℕ → Result ℕ ProgramFault → Type 0
StopsAsRead t (Ok n) = None ≡ option_map reading_report (read_whole t).fault
StopsAsRead t (Err f) = is_some f.report ≡ true → f.report ≡ option_map reading_report (read_whole t).fault

-- Some records were played on a heap over the cells before, and left the cells after.
abbrev pub PlayedSome : List Cell → List Cell → Type 0
PlayedSome before after = (played : List Played) × Plays before after played

-- They were the whole records of the tape t, and n is their number.
pub record Listed (t : List ℕ) (before after : List Cell) (n : ℕ) : Type 0 where
  pub played : List Played
  pub records : records_of played ≡ (read_whole t).records
  pub plays : Plays before after played
  pub count : n ≡ length played

-- What is listed of the tape t: a line for each record that was played, one for the fault at which the reading stopped, if it did, and one
-- with the number of whole records.
abbrev pub listing : List ℕ → List Played → List ℕ
listing t played = played_lines played ++ (fault_lines (option_map reading_report (read_whole t).fault) ++ ended (codes "end " ++ decimal (length played)))

-- The same, and what the writer held grew by what is listed of the tape.
pub record Prints (t : List ℕ) (before after : List Cell) (held holds : Option (List ℕ)) (n : ℕ) : Type 0 where
  pub played : List Played
  pub records : records_of played ≡ (read_whole t).records
  pub plays : Plays before after played
  pub count : n ≡ length played
  pub text : Appends held holds (listing t played)

-- They were those of some tape: nothing is known of what is read.
abbrev pub ListedSome : List Cell → List Cell → ℕ → Type 0
ListedSome before after n = (t : List ℕ) × Listed t before after n

-- They were those of some tape within the limit: nothing else is known of what is read.
abbrev pub ListedWithin : List Cell → List Cell → ℕ → Type 0
ListedWithin before after n = (t : List ℕ) × (length t ≤ 65536) × Listed t before after n

-- On a heap over these cells, whatever they are afterwards.
abbrev pub ListedOver : List Cell → ℕ → Type 0
ListedOver before n = (after : List Cell) × ListedWithin before after n
