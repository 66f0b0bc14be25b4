-- The collector: begin, the step of each phase, census and the opening.
use Rattle.std.specs.Prelude.{ℕ, zero, suc, ◌+◌, ◌-◌, min, Bool, true, false, cond, List, [], ◌∷◌, ◌++◌, map, reverse, length, take, drop, replicate, Some, None, Option, ◌==◌, nat_lt, slice_set}
use Rattle.std.specs.List.{slice_get, range_with_len}
use Rattle.stack.specs.Entries.{tail}
use Rattle.values.specs.Cells.{kind}
use Rattle.values.specs.declared.cells.Cell.{Cell}
use Rattle.values.specs.declared.cells.Kind.{Kind}
use Rattle.values.specs.declared.cells.Kind.TheVariants as K
use Rattle.values.specs.declared.cells.Value.{Value}
use Rattle.values.specs.declared.cells.Value.TheVariants as V
use Rattle.model.specs.declared.answers.Refusal.TheVariants as R
use Rattle.model.specs.declared.answers.Stepped.{Stepped}
use Rattle.model.specs.declared.registers.FreeList.{FreeList}
use Rattle.model.specs.declared.registers.Phase.{Phase}
use Rattle.model.specs.declared.registers.Phase.TheVariants as P
use Rattle.model.specs.Answers.{name_of}
use Rattle.model.specs.Heap.{Heap, Mem, Done, granted, refused, limit, at, put, with_phase, with_roots, with_list, with_pending, with_free, with_mem}
use Rattle.model.specs.Words.{normal, normal_all, offered, offered_all, marked, unmarked, with_part, with_parts, moved_to, last_free}

-- ---- begin

abbrev pub begin_in : Phase → Bool → Heap → Done (Unit {0})
begin_in P.Rest moving h = granted tt (with_phase (P.Mark 0 0 moving) h)
begin_in (P.Mark root slot m) moving h = refused R.CycleRuns h
begin_in (P.Relocate low high) moving h = refused R.CycleRuns h
begin_in (P.Update root place slot) moving h = refused R.CycleRuns h
begin_in (P.Reclaim sweep) moving h = refused R.CycleRuns h

-- cells move in the cycle if p is 1
abbrev pub begin : ℕ → Heap → Done (Unit {0})
begin p h = cond (nat_lt 1 p) (refused R.OutOfRange h) (begin_in h.phase (p == 1) h)

-- ---- the mark phase

abbrev pub mark_ended : Bool → Heap → Heap
mark_ended true h = with_phase (P.Relocate 0 (limit h.mem)) h
mark_ended false h = with_phase (P.Reclaim 0) h

abbrev pub mark_slot : Option Value → ℕ → ℕ → Bool → Heap → Heap
mark_slot None root slot moving h = mark_ended moving h
mark_slot (Some v) root slot moving h = offered v (with_phase (P.Mark root (slot + 1) moving) h)

abbrev pub mark_root : Option Value → ℕ → ℕ → Bool → Heap → Heap
mark_root None root slot moving h = mark_slot (slice_get (reverse h.list) slot) root slot moving h
mark_root (Some v) root slot moving h = offered v (with_phase (P.Mark (root + 1) slot moving) h)

-- the place p leaves the collector stack, is accessible, and its components are offered
abbrev pub mark_place : Option ℕ → ℕ → ℕ → Bool → Heap → Heap
mark_place None root slot moving h = mark_root (slice_get h.roots root) root slot moving h
mark_place (Some p) root slot moving h = offered_all (at h.mem p).parts (with_mem (put h.mem p (marked (at h.mem p))) (with_pending (tail h.pending) h))

abbrev pub mark_step : ℕ → ℕ → Bool → Heap → Heap
mark_step root slot moving h = mark_place (slice_get h.pending 0) root slot moving h

-- ---- the relocate phase

-- the cell at the place from is copied to the place to, and left there as moved
abbrev pub moved : ℕ → ℕ → Mem → Mem
moved from to m = put (put m to (at m from)) from (moved_to to (at m from))

abbrev pub relocate_from : Kind → ℕ → ℕ → Heap → Heap
relocate_from K.Plain low high h = with_phase (P.Relocate low (high - 1)) h
relocate_from K.Accessible low high h = with_mem (moved (high - 1) low h.mem) (with_phase (P.Relocate (low + 1) (high - 1)) h)
relocate_from K.Moved low high h = with_phase (P.Relocate low (high - 1)) h
relocate_from K.Free low high h = with_phase (P.Relocate low (high - 1)) h

abbrev pub relocate_to : Kind → ℕ → ℕ → Heap → Heap
relocate_to K.Plain low high h = relocate_from (kind (at h.mem (high - 1))) low high h
relocate_to K.Accessible low high h = with_phase (P.Relocate (low + 1) high) h
relocate_to K.Moved low high h = with_phase (P.Relocate (low + 1) high) h
relocate_to K.Free low high h = with_phase (P.Relocate (low + 1) high) h

abbrev pub relocate_step : ℕ → ℕ → Heap → Heap
relocate_step low high h = cond (nat_lt low high) (relocate_to (kind (at h.mem low)) low high h) (with_phase (P.Update 0 0 0) h)

-- ---- the update phase

abbrev pub update_slot : Option Value → ℕ → ℕ → ℕ → Heap → Heap
update_slot None root place slot h = with_phase (P.Reclaim 0) h
update_slot (Some v) root place slot h = with_list (reverse (slice_set (reverse h.list) slot (normal h.mem v))) (with_phase (P.Update root place (slot + 1)) h)

-- the components of the accessible place p no longer name moved places
abbrev pub updated : Kind → ℕ → Mem → Mem
updated K.Plain p m = m
updated K.Accessible p m = put m p (with_parts (normal_all m (at m p).parts) (at m p))
updated K.Moved p m = m
updated K.Free p m = m

abbrev pub update_place : Bool → ℕ → ℕ → ℕ → Heap → Heap
update_place true root place slot h = with_mem (updated (kind (at h.mem place)) place h.mem) (with_phase (P.Update root (place + 1) slot) h)
update_place false root place slot h = update_slot (slice_get (reverse h.list) slot) root place slot h

abbrev pub update_root : Option Value → ℕ → ℕ → ℕ → Heap → Heap
update_root None root place slot h = update_place (nat_lt place (limit h.mem)) root place slot h
update_root (Some v) root place slot h = with_roots (slice_set h.roots root (normal h.mem v)) (with_phase (P.Update (root + 1) place slot) h)

abbrev pub update_step : ℕ → ℕ → ℕ → Heap → Heap
update_step root place slot h = update_root (slice_get h.roots root) root place slot h

-- ---- the reclaim phase

-- the free list with the place p at its end
abbrev pub longer : Option FreeList → ℕ → FreeList
longer None p = record { first = p; last = p }
longer (Some f) p = record { first = f.first; last = p }

-- the cell that was last names the place p
abbrev pub linked : Option FreeList → ℕ → Mem → Mem
linked None p m = m
linked (Some f) p m = put m f.last (with_part 0 (V.Cell p) (at m f.last))

-- the place p goes to the end of the free list
abbrev pub returned : ℕ → Heap → Heap
returned p h = with_free (Some (longer h.free p)) (with_mem (linked h.free p (put h.mem p last_free)) h)

abbrev pub swept : Kind → ℕ → Heap → Heap
swept K.Plain p h = returned p h
swept K.Accessible p h = with_mem (put h.mem p (unmarked (at h.mem p))) h
swept K.Moved p h = returned p h
swept K.Free p h = h

-- whether sweeping a place of this kind returns it
abbrev pub returns : Kind → Bool
returns K.Plain = true
returns K.Accessible = false
returns K.Moved = true
returns K.Free = false

abbrev pub reclaim_step : ℕ → Heap → Heap
reclaim_step sweep h = cond (nat_lt sweep (limit h.mem)) (swept (kind (at h.mem sweep)) sweep (with_phase (P.Reclaim (sweep + 1)) h)) (with_phase P.Rest h)

-- ---- the step

-- the phase after the step, and whether it returned a place
abbrev pub stepped : Bool → Heap → Done Stepped
stepped back h = granted (record { phase = name_of h.phase; returned = back }) h

abbrev pub step_in : Phase → Heap → Done Stepped
step_in P.Rest h = refused R.AtRest h
step_in (P.Mark root slot moving) h = stepped false (mark_step root slot moving h)
step_in (P.Relocate low high) h = stepped false (relocate_step low high h)
step_in (P.Update root place slot) h = stepped false (update_step root place slot h)
step_in (P.Reclaim sweep) h = stepped (cond (nat_lt sweep (limit h.mem)) (returns (kind (at h.mem sweep))) false) (reclaim_step sweep h)

abbrev pub step : Heap → Done Stepped
step h = step_in h.phase h

-- ---- census

abbrev pub in_use : Kind → ℕ
in_use K.Plain = 1
in_use K.Accessible = 1
in_use K.Moved = 1
in_use K.Free = 0

abbrev pub used_in : List Cell → ℕ
used_in [] = 0
used_in (c ∷ cs) = in_use (kind c) + used_in cs

-- the cells in use: the places below N that are not free
abbrev pub used : Mem → ℕ
used m = used_in (take 4096 m.cells)

abbrev pub census : Heap → Done ℕ
census h = granted (used h.mem) h

-- ---- the opening

-- the free cell at the place p of n
abbrev pub free_cell : ℕ → ℕ → Cell
free_cell n p = cond (nat_lt (p + 1) n) (with_part 0 (V.Cell (p + 1)) last_free) last_free

-- the places 0 to n - 1, free in rising order
abbrev pub free_cells : ℕ → List Cell
free_cells n = map (free_cell n) (range_with_len 0 n)

abbrev pub all_free : ℕ → Option FreeList
all_free zero = None
all_free (suc n) = Some (record { first = 0; last = n })

-- a heap over cells of any former contents, of width w
abbrev pub opened : ℕ → List Cell → Heap
opened w cs = record {
  phase = P.Rest;
  roots = replicate 16 V.Nil;
  list = [];
  pending = [];
  free = all_free (min 4096 (length cs));
  mem = record { width = w; cells = free_cells (min 4096 (length cs)) ++ drop (min 4096 (length cs)) cs };
}
