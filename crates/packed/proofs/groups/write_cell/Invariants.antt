use Rattle.std.proofs.Common.{◌≡◌, ℕ, ◌<◌, ◌-◌, List, get_or}
use Rattle.values.specs.declared.cells.Value.TheVariants as V
use Rattle.packed.specs.Words.{value_bytes, value_in}
use Rattle.packed.specs.Groups.{each, width, with_part_at}
use Rattle.packed.proofs.groups.write_cell.Given as goal

-- The components from i on, still to be written, make of the bytes what all of them make of the bytes at first.
abbrev pub invariant-loop-i : goal.invariant-loop-i
invariant-loop-i l =
    let write : ℕ → List ℕ → List ℕ = λ i ys. with_part_at ys l.place i (get_or l.fn.cell.parts i V.Nil) in
    (each write (width - l.i) l.i l.bytes ≡ each write width 0 l.initial.bytes)
    × ((k : ℕ) → k < l.i → value_in (value_bytes (get_or l.fn.cell.parts k V.Nil)) ≡ get_or l.fn.cell.parts k V.Nil)
