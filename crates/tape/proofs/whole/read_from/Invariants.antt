use Rattle.std.proofs.Common.{◌≡◌, map, length, vec_items}
use Rattle.tape.specs.Whole.{placed, read_from}
use Rattle.tape.proofs.Turns.{onto}
use Rattle.tape.proofs.whole.read_from.Given as goal

abbrev pub invariant-reading : goal.invariant-reading
invariant-reading l = onto (map placed (vec_items l.records)) (read_from l.rest.tape.now l.rest.place) ≡ read_from l.tape l.place

abbrev pub decreases-reading : goal.decreases-reading
decreases-reading l = length l.rest.tape.now
