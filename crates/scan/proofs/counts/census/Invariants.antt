use Rattle.std.proofs.Common.{◌≡◌, ◌+◌, ◌≤◌, take, drop}
use Rattle.model.specs.Steps.{used_in}
use Rattle.scan.proofs.counts.census.Given as goal

abbrev pub invariant-loop-place : goal.invariant-loop-place
invariant-loop-place g l =
    let m = g.S.CellStore.meaning in
    (l.count ≤ l.place)
    × (l.count + used_in (drop l.place (take 4096 (m l.initial.s))) ≡ used_in (take 4096 (m l.initial.s)))
    × (m l.s ≡ m l.initial.s)
