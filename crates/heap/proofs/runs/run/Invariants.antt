use Rattle.std.proofs.Common.{◌≡◌, take}
use Rattle.law.specs.Law.{Follows}
use Rattle.model.specs.Heap.{view}
use Rattle.heap.specs.Runs.{calls_of}
use Rattle.heap.proofs.runs.run.Given as goal

abbrev pub invariant-loop-event : goal.invariant-loop-event
invariant-loop-event g l =
    let m = g.S.CellStore.meaning in
    (calls_of l.log ≡ calls_of l.initial.log)
    × Follows (view l.initial.top l.initial.regs (m l.initial.s)) (take l.event-index l.log) (view l.top l.regs (m l.s))
