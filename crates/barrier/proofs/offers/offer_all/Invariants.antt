use Rattle.std.proofs.Common.{◌≡◌, ◌-◌}
use Rattle.model.specs.Heap.{view}
use Rattle.model.specs.Words.{offered_from, offered_all}
use Rattle.barrier.proofs.offers.offer_all.Given as goal

-- The components from the index on, still to be offered, make of the heap what all of them make of the heap at first.
abbrev pub invariant-loop-part : goal.invariant-loop-part
invariant-loop-part g l =
    let m = g.S.CellStore.meaning in
    offered_from (2 - l.part-index) l.part-index l.part-items (view l.top l.regs (m l.s)) ≡ offered_all l.part-items (view l.initial.top l.initial.regs (m l.initial.s))
