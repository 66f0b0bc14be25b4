-- The player's faults.
use Rattle.std.specs.Prelude.{Some, None, Option}
use Rattle.model.specs.Answers.{number_of}
use Rattle.tape.specs.Faults.{fault_number}
use Rattle.tape.specs.Format.{entry_of, first, kind}
use Rattle.tape.specs.declared.faults.Layer.TheVariants as L
use Rattle.tape.specs.declared.faults.TapeFault.{TapeFault}
use Rattle.player.specs.declared.faults.PlayFault.{PlayFault}
use Rattle.player.specs.declared.faults.PlayFault.TheVariants as F
use Rattle.player.specs.declared.faults.RefusedCall.{RefusedCall}
use Rattle.player.specs.declared.faults.Report.{Report}

-- What the player makes of a fault of its reader, of a refused call, and of want of memory.
abbrev pub of_reader : TapeFault → PlayFault
of_reader f = F.Tape f

abbrev pub of_heap : RefusedCall → PlayFault
of_heap c = F.Heap c

abbrev pub of_memory : PlayFault
of_memory = F.NoMemory

-- A fault is reported with its number, the place and the first byte of the record, and the layer that raised it; want of memory is not reported.
abbrev pub report_of : PlayFault → Option Report
report_of (F.Tape f) = Some (record { number = fault_number f.what; place = f.rest.place; kind = first f.rest.tape.now; layer = L.Tape })
report_of (F.Heap c) = Some (record { number = number_of c.refusal; place = c.placed.place; kind = (kind (entry_of c.placed.«record»)).number; layer = L.Heap })
report_of F.NoMemory = None
