-- The faults of a tape.
use Rattle.std.specs.Prelude.{ℕ}
use Rattle.tape.specs.declared.faults.FaultKind.{FaultKind}
use Rattle.tape.specs.declared.faults.FaultKind.TheVariants as F

-- The number by which a fault is reported.
abbrev pub fault_number : FaultKind → ℕ
fault_number F.UnknownKind = 8
fault_number F.CutShort = 9
