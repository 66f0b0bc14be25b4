use Rattle.std.proofs.Common.{◌≡◌, ◌++◌, map, drop}
use Rattle.std.specs.List.{range_with_len}
use Rattle.model.specs.Steps.{free_cell}
use Rattle.scan.proofs.opening.open.Given as goal

abbrev pub invariant-loop-place : goal.invariant-loop-place
invariant-loop-place g l = let m = g.S.CellStore.meaning in m l.s ≡ map (free_cell l.n) (range_with_len 0 l.place) ++ drop l.place (m l.initial.s)
