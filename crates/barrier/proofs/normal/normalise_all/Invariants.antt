use Rattle.std.proofs.Common.{◌≡◌, ◌-◌}
use Rattle.model.specs.Heap.{memory}
use Rattle.model.specs.Words.{normal_from, normal_all}
use Rattle.barrier.proofs.normal.normalise_all.Given as goal

-- The components from the index on, still to be normalised, make of the components what all of them make of the components at first.
abbrev pub invariant-loop-part : goal.invariant-loop-part
invariant-loop-part g l =
    let m = g.S.CellStore.meaning in
    (normal_from (2 - l.part-index) l.part-index (memory (m l.initial.s)) l.part-items ≡ normal_all (memory (m l.initial.s)) l.initial.part-items)
    × (m l.s ≡ m l.initial.s)
