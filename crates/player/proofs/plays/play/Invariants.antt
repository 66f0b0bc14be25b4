use Rattle.std.proofs.Common.{◌≡◌, length, vec_items}
use Rattle.model.specs.Heap.{view}
use Rattle.tape.proofs.Turns.{onto}
use Rattle.tape.specs.Whole.{read_from, read_whole}
use Rattle.player.specs.Plays.{records_of}
use Rattle.player.proofs.Turns.{Came}
use Rattle.player.proofs.plays.play.Given as goal

abbrev pub invariant-loop-taken : goal.invariant-loop-taken
invariant-loop-taken g l =
    let cells = g.S.CellStore.meaning in
    let played = vec_items l.played in
    (onto (records_of played) (read_from l.rest.tape.now l.rest.place) ≡ read_whole l.tape)
    × Came (view l.initial.top l.initial.regs (cells l.initial.s)) (view l.top l.regs (cells l.s)) played

abbrev pub decreases-loop-taken : goal.decreases-loop-taken
decreases-loop-taken g l = length l.rest.tape.now
