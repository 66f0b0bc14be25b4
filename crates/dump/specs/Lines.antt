-- The lines of a listed tape.
use Rattle.std.specs.Prelude.{ℕ, List, [], ◌++◌, length, Some, None, vec_items, Option, codes, decimal}
use Rattle.std.specs.List.{flat_map}
use Rattle.tape.specs.Faults.{fault_number}
use Rattle.tape.specs.Format.{entry_of, first, kind}
use Rattle.tape.specs.Printed.{ended, printed}
use Rattle.tape.specs.declared.faults.TapeFault.{TapeFault}
use Rattle.tape.specs.declared.whole.Placed.{Placed}
use Rattle.tape.specs.declared.whole.Reading.{Reading}

-- A record's line: its place, the number and the name of its kind, and its argument.
abbrev pub record_line : Placed → List ℕ
record_line x = decimal x.place ++ (codes " " ++ (decimal (kind (entry_of x.record)).number ++ (codes " " ++ printed (entry_of x.record))))

-- A faulty record's line: its place, its first byte, the word bad, and the number of the fault.
abbrev pub fault_line : TapeFault → List ℕ
fault_line f = decimal f.rest.place ++ (codes " " ++ (decimal (first f.rest.tape.now) ++ (codes " bad " ++ decimal (fault_number f.what))))

abbrev pub record_lines : List Placed → List ℕ
record_lines xs = flat_map (λ (x : Placed). ended (record_line x)) xs

abbrev pub fault_lines : Option TapeFault → List ℕ
fault_lines None = []
fault_lines (Some f) = ended (fault_line f)

-- What is listed of a tape: a line for each whole record, one for the fault at which the reading stopped, if it did, and one with the
-- number of whole records.
abbrev pub listing : Reading → List ℕ
listing r = record_lines (vec_items r.records) ++ (fault_lines r.fault ++ ended (codes "end " ++ decimal (length (vec_items r.records))))
