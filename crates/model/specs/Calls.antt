-- The twelve list calls.
use Rattle.std.specs.Prelude.{ℕ, ◌-◌, Bool, true, false, cond, ◌&&◌, List, ◌∷◌, length, drop, Some, None, Option, ◌==◌, nat_le, nat_lt, slice_index_or, slice_set, to_bits, Float}
use Rattle.std.specs.Float.{binary32}
use Rattle.std.specs.List.{slice_get}
use Rattle.stack.specs.Entries.{last_of}
use Rattle.values.specs.declared.cells.Cell.{Cell}
use Rattle.values.specs.declared.cells.Value.{Value}
use Rattle.values.specs.declared.cells.Value.TheVariants as V
use Rattle.model.specs.declared.answers.Looked.{Looked}
use Rattle.model.specs.declared.answers.Looked.TheVariants as L
use Rattle.model.specs.declared.answers.Refusal.TheVariants as R
use Rattle.model.specs.declared.registers.FreeList.{FreeList}
use Rattle.model.specs.declared.registers.Phase.{Phase}
use Rattle.model.specs.declared.registers.Phase.TheVariants as P
use Rattle.model.specs.Heap.{Heap, Done, granted, refused, at, put, part, with_mem, with_list, with_roots, with_free}
use Rattle.model.specs.Words.{normal, normal_all, offered, offered_all, with_part}

-- ---- nil, number, load, pdlget: a value is pushed

abbrev pub pushed : Bool → Value → Heap → Done (Unit {0})
pushed true w h = granted tt (offered w (with_list (w ∷ h.list) h))
pushed false w h = refused R.ListFull h

abbrev pub push : Value → Heap → Done (Unit {0})
push v h = pushed (nat_lt (length h.list) 256) (normal h.mem v) h

abbrev pub nil : Heap → Done (Unit {0})
nil h = push V.Nil h

abbrev pub number : Float → Heap → Done (Unit {0})
number x h = push (V.Number x) h

-- root r
abbrev pub load : ℕ → Heap → Done (Unit {0})
load r h = cond (nat_lt r 16) (push (slice_index_or h.roots r V.Nil) h) (refused R.OutOfRange h)

abbrev pub pdlget_from : Option Value → Heap → Done (Unit {0})
pdlget_from None h = refused R.TooFew h
pdlget_from (Some v) h = push v h

-- a copy of the value d below the top
abbrev pub pdlget : ℕ → Heap → Done (Unit {0})
pdlget d h = pdlget_from (slice_get h.list d) h

-- ---- store, pdlput, popitem: a value is popped

abbrev pub stored : ℕ → Value → Heap → Heap
stored r w h = offered w (with_roots (slice_set h.roots r w) (with_list (drop 1 h.list) h))

abbrev pub store_from : Option Value → ℕ → Heap → Done (Unit {0})
store_from None r h = refused R.TooFew h
store_from (Some v) r h = granted tt (stored r (normal h.mem v) h)

-- into root r
abbrev pub store : ℕ → Heap → Done (Unit {0})
store r h = cond (nat_lt r 16) (store_from (slice_get h.list 0) r h) (refused R.OutOfRange h)

abbrev pub pdlput_into : Bool → ℕ → Value → Heap → Done (Unit {0})
pdlput_into true d w h = granted tt (offered w (with_list (drop 1 (slice_set h.list d w)) h))
pdlput_into false d w h = refused R.TooFew h

abbrev pub pdlput_from : Option Value → ℕ → Heap → Done (Unit {0})
pdlput_from None d h = refused R.TooFew h
pdlput_from (Some v) d h = pdlput_into (nat_lt d (length h.list)) d (normal h.mem v) h

-- into the slot that was d below the top before
abbrev pub pdlput : ℕ → Heap → Done (Unit {0})
pdlput d h = cond (d == 0) (refused R.OutOfRange h) (pdlput_from (slice_get h.list 0) d h)

abbrev pub popitem_from : Option Value → Heap → Done (Unit {0})
popitem_from None h = refused R.TooFew h
popitem_from (Some v) h = granted tt (with_list (drop 1 h.list) h)

abbrev pub popitem : Heap → Done (Unit {0})
popitem h = popitem_from (slice_get h.list 0) h

-- ---- look, identical: a question

abbrev pub looked : Value → Looked
looked V.Nil = L.Nil
looked (V.Number x) = L.Number x
looked (V.Cell p) = L.Cell

abbrev pub look_from : Option Value → Heap → Done Looked
look_from None h = refused R.TooFew h
look_from (Some v) h = granted (looked v) h

-- the top's kind, and the number if it is one
abbrev pub look : Heap → Done Looked
look h = look_from (slice_get h.list 0) h

-- nil matches nil, numbers match by equal patterns, cells by equal places
abbrev pub same : Value → Value → Bool
same V.Nil V.Nil = true
same V.Nil (V.Number y) = false
same V.Nil (V.Cell q) = false
same (V.Number x) V.Nil = false
same (V.Number x) (V.Number y) = to_bits binary32 x == to_bits binary32 y
same (V.Number x) (V.Cell q) = false
same (V.Cell p) V.Nil = false
same (V.Cell p) (V.Number y) = false
same (V.Cell p) (V.Cell q) = p == q

abbrev pub identical_from : Option (List Value) → Heap → Done Bool
identical_from None h = refused R.TooFew h
identical_from (Some vs) h = granted (same (normal h.mem (slice_index_or vs 0 V.Nil)) (normal h.mem (slice_index_or vs 1 V.Nil))) (with_list (drop 2 h.list) h)

abbrev pub identical : Heap → Done Bool
identical h = identical_from (last_of 2 h.list) h

-- ---- select, clobber: a component of a cell

-- components count from 1 to the width
abbrev pub is_part : ℕ → Heap → Bool
is_part j h = nat_le 1 j && nat_le j h.mem.width

abbrev pub selected : Value → ℕ → Heap → Done (Unit {0})
selected V.Nil j h = refused R.NotACell h
selected (V.Number x) j h = refused R.NotACell h
selected (V.Cell p) j h = let w = normal h.mem (part (at h.mem p) (j - 1)) in granted tt (offered w (with_list (slice_set h.list 0 w) h))

abbrev pub select_from : Option Value → ℕ → Heap → Done (Unit {0})
select_from None j h = refused R.TooFew h
select_from (Some v) j h = selected (normal h.mem v) j h

-- the cell on top gives way to its component j
abbrev pub select : ℕ → Heap → Done (Unit {0})
select j h = cond (is_part j h) (select_from (slice_get h.list 0) j h) (refused R.OutOfRange h)

-- component i of the cell at p becomes w
abbrev pub written : ℕ → ℕ → Value → Heap → Heap
written p i w h = with_mem (put h.mem p (with_part i w (at h.mem p))) h

-- the value is offered before it is written, since the offer may reach the very cell
abbrev pub clobbered : Value → ℕ → Value → Heap → Done (Unit {0})
clobbered V.Nil j w h = refused R.NotACell h
clobbered (V.Number x) j w h = refused R.NotACell h
clobbered (V.Cell p) j w h = granted tt (written p (j - 1) w (offered w (with_list (drop 2 h.list) h)))

abbrev pub clobber_from : Option (List Value) → ℕ → Heap → Done (Unit {0})
clobber_from None j h = refused R.TooFew h
clobber_from (Some vs) j h = clobbered (normal h.mem (slice_index_or vs 0 V.Nil)) j (normal h.mem (slice_index_or vs 1 V.Nil)) h

-- the value on top is written as component j of the cell below it
abbrev pub clobber : ℕ → Heap → Done (Unit {0})
clobber j h = cond (is_part j h) (clobber_from (last_of 2 h.list) j h) (refused R.OutOfRange h)

-- ---- create

-- the mark of a new cell in the place p: in reclaim it is set only where the sweep has yet to come
abbrev pub new_mark : Phase → ℕ → Bool
new_mark P.Rest p = false
new_mark (P.Mark root slot moving) p = true
new_mark (P.Relocate low high) p = true
new_mark (P.Update root place slot) p = true
new_mark (P.Reclaim sweep) p = nat_le sweep p

abbrev pub new_cell : Phase → ℕ → List Value → Cell
new_cell f p vs = record { mark = new_mark f p; flag = false; waiting = false; parts = vs }

-- the free list without its first place, which names the next one or none
abbrev pub shorter : Value → FreeList → Option FreeList
shorter V.Nil f = None
shorter (V.Number x) f = None
shorter (V.Cell q) f = Some (record { first = q; last = f.last })

-- the first place of the free list becomes a cell of vs
abbrev pub laid : FreeList → List Value → Heap → Heap
laid f vs h = with_mem (put h.mem f.first (new_cell h.phase f.first vs)) (with_free (shorter (part (at h.mem f.first) 0) f) h)

-- v takes the place of the top n values of the list
abbrev pub topped : ℕ → Value → Heap → Heap
topped n v h = with_list (slice_set (drop (n - 1) h.list) 0 v) h

abbrev pub created_in : Option FreeList → List Value → Heap → Done (Unit {0})
created_in None vs h = refused R.NoSpace h
created_in (Some f) vs h = granted tt (laid f vs (offered_all vs (topped h.mem.width (V.Cell f.first) h)))

abbrev pub create_from : Option (List Value) → Heap → Done (Unit {0})
create_from None h = refused R.TooFew h
create_from (Some vs) h = created_in h.free (normal_all h.mem vs) h

-- the top values, as many as the width, become the components of a new cell, the lowest the first
abbrev pub create : Heap → Done (Unit {0})
create h = create_from (last_of h.mem.width h.list) h
