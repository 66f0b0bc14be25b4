use Rattle.std.proofs.Common.{◌∙◌, ap, map}
use Rattle.packed.specs.Groups.{cells_in}
use Rattle.values.specs.Records.{meant_cell}
use Rattle.fresh.proofs.Blank.{blank_bytes, blank_records, ran_fresh}
use Rattle.fresh.proofs.StoreKind.run.Goals as goal

pub returns-in_ok-cells-in-Table : goal.returns-in_ok-cells-in-Table
returns-in_ok-cells-in-Table c =
    let new = c.in_ok-cells-in-Table.ensures.items_if_clones_equal (λ _ same. same) in
    rw (← c.from-groups.ensures) (ran_fresh _ (ap (map meant_cell) (c.as_mut_slice.ensures.value ∙ new) ∙ blank_records _ _ (c.from.ensures.1 ∙ c.blank.ensures)) c.run.ensures)

pub returns-in_ok-bytes-in-Packed : goal.returns-in_ok-bytes-in-Packed
returns-in_ok-bytes-in-Packed c =
    let new = c.in_ok-bytes-in-Packed.ensures.items_if_clones_equal (λ _ same. same) in
    rw (← c.from-groups.ensures) (ran_fresh _ (ap cells_in (c.as_mut_slice-in-Packed.ensures.value ∙ new) ∙ blank_bytes _) c.run-in-Packed.ensures)
