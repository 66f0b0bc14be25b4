-- The two words of the rules, normalise and offer, and the changes of a cell.
use Rattle.std.specs.Prelude.{ℕ, zero, suc, ◌+◌, Bool, true, false, cond, not, ◌&&◌, List, ◌∷◌, length, replicate, nat_lt, slice_index_or, slice_set}
use Rattle.values.specs.Cells.{kind}
use Rattle.values.specs.declared.cells.Cell.{Cell}
use Rattle.values.specs.declared.cells.Kind.{Kind}
use Rattle.values.specs.declared.cells.Kind.TheVariants as K
use Rattle.values.specs.declared.cells.Value.{Value}
use Rattle.values.specs.declared.cells.Value.TheVariants as V
use Rattle.model.specs.declared.registers.Phase.{Phase}
use Rattle.model.specs.declared.registers.Phase.TheVariants as P
use Rattle.model.specs.Heap.{Heap, Mem, limit, at, put, part, with_mem, with_pending}

-- ---- the changes of a cell

-- It waits on the collector stack.
abbrev pub waiting : Cell → Cell
waiting c = record { mark = c.mark; flag = c.flag; waiting = true; parts = c.parts }

-- It no longer waits, and is marked.
abbrev pub marked : Cell → Cell
marked c = record { mark = true; flag = c.flag; waiting = false; parts = c.parts }

-- Its mark is clear.
abbrev pub unmarked : Cell → Cell
unmarked c = record { mark = false; flag = c.flag; waiting = c.waiting; parts = c.parts }

-- Its component i is v.
abbrev pub with_part : ℕ → Value → Cell → Cell
with_part i v c = record { mark = c.mark; flag = c.flag; waiting = c.waiting; parts = slice_set c.parts i v }

abbrev pub with_parts : List Value → Cell → Cell
with_parts vs c = record { mark = c.mark; flag = c.flag; waiting = c.waiting; parts = vs }

-- It has moved to the place p, which its first component names; the others are kept.
abbrev pub moved_to : ℕ → Cell → Cell
moved_to p c = record { mark = false; flag = true; waiting = c.waiting; parts = slice_set c.parts 0 (V.Cell p) }

-- The last cell of the free list.
abbrev pub last_free : Cell
last_free = record { mark = true; flag = true; waiting = false; parts = replicate 2 V.Nil }

-- ---- normalise

-- The value that names the place p, whose cell is c: what has moved is named by its new place.
abbrev pub forwarded : Kind → ℕ → Cell → Value
forwarded K.Plain p c = V.Cell p
forwarded K.Accessible p c = V.Cell p
forwarded K.Moved p c = part c 0
forwarded K.Free p c = V.Cell p

abbrev pub normal : Mem → Value → Value
normal m V.Nil = V.Nil
normal m (V.Number x) = V.Number x
normal m (V.Cell p) = forwarded (kind (at m p)) p (at m p)

-- n of the values, from the index i on
abbrev pub normal_from : ℕ → ℕ → Mem → List Value → List Value
normal_from zero i m vs = vs
normal_from (suc n) i m vs = normal_from n (i + 1) m (slice_set vs i (normal m (slice_index_or vs i V.Nil)))

-- all components of a cell
abbrev pub normal_all : Mem → List Value → List Value
normal_all m vs = normal_from m.width 0 m vs

-- ---- offer

abbrev pub marking : Phase → Bool
marking P.Rest = false
marking (P.Mark root slot moving) = true
marking (P.Relocate low high) = false
marking (P.Update root place slot) = false
marking (P.Reclaim sweep) = false

-- a plain place that does not wait yet
abbrev pub unseen : Kind → Bool → Bool
unseen K.Plain waits = not waits
unseen K.Accessible waits = false
unseen K.Moved waits = false
unseen K.Free waits = false

-- An offer of the place p has an effect only in the mark phase, for an unseen place below N, while the collector stack is not full.
abbrev pub takes : ℕ → Heap → Bool
takes p h = marking h.phase && nat_lt p (limit h.mem) && unseen (kind (at h.mem p)) (at h.mem p).waiting && nat_lt (length h.pending) 4096

-- The place p waits on the collector stack.
abbrev pub queued : ℕ → Heap → Heap
queued p h = with_pending (p ∷ h.pending) (with_mem (put h.mem p (waiting (at h.mem p))) h)

abbrev pub offered : Value → Heap → Heap
offered V.Nil h = h
offered (V.Number x) h = h
offered (V.Cell p) h = cond (takes p h) (queued p h) h

-- n of the values, from the index i on, in rising order
abbrev pub offered_from : ℕ → ℕ → List Value → Heap → Heap
offered_from zero i vs h = h
offered_from (suc n) i vs h = offered_from n (i + 1) vs (offered (slice_index_or vs i V.Nil) h)

-- all components of a cell, the first one first
abbrev pub offered_all : List Value → Heap → Heap
offered_all vs h = offered_from h.mem.width 0 vs h
