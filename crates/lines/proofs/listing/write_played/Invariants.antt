use Rattle.std.proofs.Common.{take}
use Rattle.std.specs.Io.KnownBytes.{Appends}
use Rattle.lines.specs.Lines.{played_lines}
use Rattle.lines.proofs.listing.write_played.Given as goal

abbrev pub invariant-loop-one : goal.invariant-loop-one
invariant-loop-one g l =
    let held = g.W.Write.contents in
    Appends (held l.initial.out) (held l.out) (played_lines (take l.one-index l.played))
