-- The cells of a table in which one record is replaced.
use Rattle.std.proofs.Common.{◌≡◌, ℕ, List, map, set, ap, ◌∙◌}
use Rattle.std.proofs.lemmas.List.{map-set}
use Rattle.values.specs.Records.{meant_cell}
use Rattle.values.specs.declared.cells.Cell.{Cell}
use Rattle.values.specs.declared.records.CellRecord.{CellRecord}

pub cells_written : (rs : List CellRecord) (p : ℕ) (r : CellRecord) (c : Cell) → meant_cell r ≡ c → map meant_cell (set rs p r) ≡ set (map meant_cell rs) p c
cells_written rs p r c e = map-set meant_cell rs p r ∙ ap (set (map meant_cell rs) p) e
