use Rattle.std.proofs.Common.{take}
use Rattle.std.specs.Io.KnownBytes.{Appends}
use Rattle.dump.specs.Lines.{record_lines}
use Rattle.dump.proofs.list.Given as goal

abbrev pub invariant-loop-placed : goal.invariant-loop-placed
invariant-loop-placed g l =
    let held = g.W.Write.contents in
    Appends (held l.initial.out) (held l.out) (record_lines (take l.placed-index l.placed-items))
