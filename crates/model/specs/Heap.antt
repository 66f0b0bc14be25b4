-- The heap as one record of lists, and what the registers and a store's cells mean as such a record.
use Rattle.std.specs.Prelude.{ℕ, min, cond, List, length, Ok, Err, Option, Result, nat_lt, slice_index_or, slice_set}
use Rattle.stack.specs.Entries.{stacked}
use Rattle.values.specs.Cells.{blank}
use Rattle.values.specs.declared.cells.Cell.{Cell}
use Rattle.values.specs.declared.cells.Value.{Value}
use Rattle.values.specs.declared.cells.Value.TheVariants as V
use Rattle.model.specs.declared.answers.Refusal.{Refusal}
use Rattle.model.specs.declared.registers.FreeList.{FreeList}
use Rattle.model.specs.declared.registers.Phase.{Phase}
use Rattle.model.specs.declared.registers.Registers.{Registers}
use Rattle.model.specs.declared.registers.Top.{Top}

-- ---- the memory

-- The cells of a store, each with as many components as the width.
pub record Mem : Type 0 where
  pub width : ℕ
  pub cells : List Cell

-- The memory that a store's cells are.
abbrev pub memory : List Cell → Mem
memory cs = record { width = 2; cells = cs }

-- N, the number of places: the store's, and 4,096 at most.
abbrev pub limit : Mem → ℕ
limit m = min 4096 (length m.cells)

-- A place from N up reads as blank ..
unfoldable pub cell_in : List Cell → ℕ → Cell
cell_in cs p = cond (nat_lt p 4096) (slice_index_or cs p blank) blank

-- .. and is never written.
unfoldable pub cells_with : List Cell → ℕ → Cell → List Cell
cells_with cs p c = cond (nat_lt p 4096) (slice_set cs p c) cs

-- The cell at the place p.
abbrev pub at : Mem → ℕ → Cell
at m p = cell_in m.cells p

-- The memory with the cell c at the place p.
abbrev pub put : Mem → ℕ → Cell → Mem
put m p c = record { width = m.width; cells = cells_with m.cells p c }

-- The component i of a cell, counted from 0.
abbrev pub part : Cell → ℕ → Value
part c i = slice_index_or c.parts i V.Nil

-- ---- the heap

-- Both stacks are lists with the top first. The free list has its ends, or none where it is empty.
pub record Heap : Type 0 where
  pub phase : Phase
  pub roots : List Value
  pub list : List Value
  pub pending : List ℕ
  pub free : Option FreeList
  pub mem : Mem

-- What a call answers, and the heap that it leaves.
pub record Done (A : Type 0) : Type 0 where
  pub says : Result A Refusal
  pub heap : Heap

abbrev pub granted : {A : Type 0} → A → Heap → Done A
granted a h = record { says = Ok a; heap = h }

-- A refused call leaves the heap as it was.
abbrev pub refused : {A : Type 0} → Refusal → Heap → Done A
refused r h = record { says = Err r; heap = h }

-- The heap that the registers and a store's cells are. Stack memory above a height is no part of it.
abbrev pub view : Top → Registers → List Cell → Heap
view t r cs = record {
  phase = r.phase;
  roots = r.roots;
  list = stacked t.height r.list;
  pending = stacked r.pending_height r.pending;
  free = r.free;
  mem = memory cs;
}

-- ---- one part of the heap replaced

abbrev pub with_phase : Phase → Heap → Heap
with_phase x h = record { phase = x; roots = h.roots; list = h.list; pending = h.pending; free = h.free; mem = h.mem }

abbrev pub with_roots : List Value → Heap → Heap
with_roots x h = record { phase = h.phase; roots = x; list = h.list; pending = h.pending; free = h.free; mem = h.mem }

abbrev pub with_list : List Value → Heap → Heap
with_list x h = record { phase = h.phase; roots = h.roots; list = x; pending = h.pending; free = h.free; mem = h.mem }

abbrev pub with_pending : List ℕ → Heap → Heap
with_pending x h = record { phase = h.phase; roots = h.roots; list = h.list; pending = x; free = h.free; mem = h.mem }

abbrev pub with_free : Option FreeList → Heap → Heap
with_free x h = record { phase = h.phase; roots = h.roots; list = h.list; pending = h.pending; free = x; mem = h.mem }

abbrev pub with_mem : Mem → Heap → Heap
with_mem x h = record { phase = h.phase; roots = h.roots; list = h.list; pending = h.pending; free = h.free; mem = x }
