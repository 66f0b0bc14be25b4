-- What holds of a run of calls over a new store.
use Rattle.std.specs.Prelude.{ℕ, List, replicate}
use Rattle.heap.specs.Runs.{Ran}
use Rattle.model.specs.declared.calls.Event.{Event}
use Rattle.values.specs.Cells.{blank}
use Rattle.values.specs.declared.cells.Cell.{Cell}

-- The store had n cells, all blank, whatever they are afterwards; the log held the calls asked and holds them answered.
abbrev pub RanFresh : ℕ → List Event → List Event → Type 0
RanFresh n asked answered = (after : List Cell) × Ran (replicate n blank) after asked answered
