-- Worked sessions, and what each is to show.
use Rattle.std.specs.Prelude.{◌≡◌, ℕ, zero, suc, ◌+◌, Bool, true, false, cond, List, [], ◌∷◌, ◌++◌, length, replicate, Ok, Err, Result, ◌==◌, from_bits, slice_index_or}
use Rattle.std.specs.Float.{binary32}
use Rattle.values.specs.Cells.{blank}
use Rattle.values.specs.declared.cells.Value.{Value}
use Rattle.values.specs.declared.cells.Value.TheVariants as V
use Rattle.model.specs.Answers.{name_of}
use Rattle.model.specs.Every.{call}
use Rattle.model.specs.Heap.{Heap, Done}
use Rattle.model.specs.Steps.{opened, step}
use Rattle.model.specs.declared.answers.Answer.{Answer}
use Rattle.model.specs.declared.answers.Answer.TheVariants as A
use Rattle.model.specs.declared.answers.Looked.{Looked}
use Rattle.model.specs.declared.answers.Looked.TheVariants as K
use Rattle.model.specs.declared.answers.PhaseName.{PhaseName}
use Rattle.model.specs.declared.answers.PhaseName.TheVariants as N
use Rattle.model.specs.declared.answers.Refusal.{Refusal}
use Rattle.model.specs.declared.answers.Refusal.TheVariants as R
use Rattle.model.specs.declared.answers.Stepped.{Stepped}
use Rattle.model.specs.declared.calls.Call.{Call}
use Rattle.model.specs.declared.calls.Call.TheVariants as C
use Rattle.model.specs.declared.calls.ListCall.TheVariants as L

-- A line of a session: a call with its answer; the steps until the phase is another, with how many they were, the next phase and the places returned; the value in a root; the height of the list.
pub data Line : Type 0 where
  says : Call → Result Answer Refusal → Line
  passes : ℕ → PhaseName → ℕ → Line
  root : ℕ → Value → Line
  height : ℕ → Line

pub record Session : Type 0 where
  pub places : ℕ
  pub lines : List Line

-- ---- what a heap shows of a line

pub record Shown : Type 0 where
  pub line : Line
  pub heap : Heap

abbrev pub phase_number : PhaseName → ℕ
phase_number N.Rest = 0
phase_number N.Mark = 1
phase_number N.Relocate = 2
phase_number N.Update = 3
phase_number N.Reclaim = 4

abbrev pub passed : (ℕ → ℕ → Heap → Shown) → PhaseName → ℕ → ℕ → Done Stepped → Shown
passed goes_on f n k d = answered d.says d.heap
  where
    answered : Result Stepped Refusal → Heap → Shown
    answered (Err r) h = record { line = passes n f k; heap = h }
    answered (Ok s) h = cond (phase_number s.phase == phase_number f) (goes_on (n + 1) (k + cond s.returned 1 0) h) (record { line = passes (n + 1) s.phase (k + cond s.returned 1 0); heap = h })

-- at most so many steps, until one answers another phase than f; n steps and k places returned so far
abbrev pub pass : ℕ → PhaseName → ℕ → ℕ → Heap → Shown
pass zero f n k h = record { line = passes n f k; heap = h }
pass (suc fuel) f n k h = passed (pass fuel f) f n k (step h)

abbrev pub shown : Line → Heap → Shown
shown (says c r) h = record { line = says c (call c h).says; heap = (call c h).heap }
shown (passes n f k) h = pass 100 (name_of h.phase) 0 0 h
shown (root r v) h = record { line = root r (slice_index_or h.roots r V.Nil); heap = h }
shown (height n) h = record { line = height (length h.list); heap = h }

abbrev pub show_all : List Line → Heap → List Line
show_all [] h = []
show_all (l ∷ lines) h = (shown l h).line ∷ show_all lines (shown l h).heap

-- a session played from an opening over so many cells
abbrev pub played : Session → Session
played s = record { places = s.places; lines = show_all s.lines (opened 2 (replicate s.places blank)) }

-- ---- the lines

abbrev pub grants : Call → Line
grants c = says c (Ok A.Done)

abbrev pub refuses : Call → Refusal → Line
refuses c r = says c (Err r)

abbrev pub nil : Line
nil = grants (C.List L.Nil)

abbrev pub number : ℕ → Line
number pattern = grants (C.List (L.Number (from_bits binary32 pattern)))

abbrev pub load : ℕ → Line
load r = grants (C.List (L.Load r))

abbrev pub store : ℕ → Line
store r = grants (C.List (L.Store r))

abbrev pub create : Line
create = grants (C.List L.Create)

abbrev pub create_refused : Line
create_refused = refuses (C.List L.Create) R.NoSpace

abbrev pub select : ℕ → Line
select j = grants (C.List (L.Select j))

abbrev pub clobber : ℕ → Line
clobber j = grants (C.List (L.Clobber j))

abbrev pub identical : Bool → Line
identical b = says (C.List L.Identical) (Ok (A.Same b))

abbrev pub looks : Looked → Line
looks k = says (C.List L.Look) (Ok (A.Look k))

abbrev pub looks_number : ℕ → Line
looks_number pattern = looks (K.Number (from_bits binary32 pattern))

abbrev pub popitem : Line
popitem = grants (C.List L.Popitem)

abbrev pub pdlput : ℕ → Line
pdlput d = grants (C.List (L.Pdlput d))

abbrev pub begin : ℕ → Line
begin p = grants (C.Begin p)

abbrev pub begin_refused : ℕ → Refusal → Line
begin_refused p r = refuses (C.Begin p) r

abbrev pub step_in : PhaseName → Bool → Line
step_in f back = says C.Step (Ok (A.Step (record { phase = f; returned = back })))

-- so many steps that stay in the phase f and return nothing
abbrev pub stays : ℕ → PhaseName → List Line
stays n f = replicate n (step_in f false)

abbrev pub census : ℕ → Line
census n = says C.Census (Ok (A.Census n))

-- ---- sessions of the free list and of whole cycles

-- nothing can be made where there is no cell
abbrev pub no_cell : Session
no_cell = record {
  places = 0;
  lines =
      nil ∷ nil ∷ create_refused ∷ height 2 ∷ [];
}

-- four cells are filled, and a cycle of 22 steps empties them
abbrev pub filled : Session
filled = record {
  places = 4;
  lines =
      nil ∷ nil ∷ create ∷ nil ∷ nil ∷ create ∷ nil ∷ nil ∷ create ∷ nil ∷ nil ∷ create ∷ nil ∷ nil ∷ create_refused
      ∷ census 4 ∷ popitem ∷ popitem ∷ popitem ∷ popitem ∷ popitem ∷ popitem
      ∷ begin 0 ∷ passes 17 N.Reclaim 0 ∷ passes 5 N.Rest 4 ∷ census 0 ∷ [];
}

-- a place goes back to the end of the free list, and is taken again after those before it
abbrev pub queued : Session
queued = record {
  places = 3;
  lines =
      nil ∷ nil ∷ create ∷ popitem ∷ begin 0 ∷ passes 17 N.Reclaim 0 ∷ passes 4 N.Rest 1
      ∷ nil ∷ nil ∷ create ∷ store 0 ∷ nil ∷ nil ∷ create ∷ store 1 ∷ nil ∷ nil ∷ create ∷ store 2
      ∷ root 0 (V.Cell 1) ∷ root 1 (V.Cell 2) ∷ root 2 (V.Cell 0) ∷ nil ∷ nil ∷ create_refused
      ∷ store 0 ∷ store 2 ∷ begin 0 ∷ passes 18 N.Reclaim 0 ∷ passes 4 N.Rest 2
      ∷ nil ∷ nil ∷ create ∷ store 0 ∷ nil ∷ nil ∷ create ∷ store 2 ∷ root 0 (V.Cell 0) ∷ root 2 (V.Cell 1) ∷ nil ∷ nil ∷ create_refused ∷ [];
}

-- ---- sessions of the mark phase

-- a cell is taken from its parent after one step, and both are kept
abbrev pub taken : Session
taken = record {
  places = 4;
  lines =
      nil ∷ nil ∷ create ∷ nil ∷ create ∷ store 1
      ∷ begin 0 ∷ step_in N.Mark false ∷ load 1 ∷ select 1 ∷ store 0 ∷ load 1 ∷ nil ∷ clobber 1
      ∷ passes 18 N.Reclaim 0 ∷ passes 5 N.Rest 0 ∷ census 2 ∷ [];
}

-- a cell that only the list holds is stored into a root that was already offered, and is kept
abbrev pub stored_late : Session
stored_late = record {
  places = 2;
  lines =
      nil ∷ nil ∷ create ∷ begin 0 ∷ step_in N.Mark false ∷ store 0
      ∷ passes 17 N.Reclaim 0 ∷ passes 3 N.Rest 0 ∷ census 1 ∷ load 0 ∷ select 1 ∷ looks K.Nil ∷ [];
}

-- a cell is put from a slot that was not yet offered into one that was, and is kept
abbrev pub put_late : Session
put_late = record {
  places = 2;
  lines =
      nil ∷ nil ∷ nil ∷ create ∷ begin 0 ∷ (stays 17 N.Mark ++ (pdlput 1
      ∷ passes 2 N.Reclaim 0 ∷ passes 3 N.Rest 0 ∷ census 1 ∷ select 1 ∷ looks K.Nil ∷ []));
}

-- a cell that only the list holds is written into a cell that the collector has passed, and is kept
abbrev pub clobbered_late : Session
clobbered_late = record {
  places = 2;
  lines =
      nil ∷ nil ∷ create ∷ store 0 ∷ load 0 ∷ nil ∷ nil ∷ create ∷ begin 0 ∷ (stays 2 N.Mark ++ (clobber 1
      ∷ passes 17 N.Reclaim 0 ∷ passes 3 N.Rest 0 ∷ census 2 ∷ load 0 ∷ select 1 ∷ looks K.Cell ∷ []));
}

-- a component is pushed into a slot that the scan has passed and then taken from its parent, and is kept
abbrev pub pushed_late : Session
pushed_late = record {
  places = 2;
  lines =
      nil ∷ number 0x4000_0000 ∷ nil ∷ create ∷ nil ∷ create ∷ begin 0 ∷ (stays 18 N.Mark ++ (store 0
      ∷ load 0 ∷ select 1 ∷ load 0 ∷ nil ∷ clobber 1
      ∷ passes 3 N.Reclaim 0 ∷ passes 3 N.Rest 0 ∷ census 2 ∷ select 1 ∷ looks_number 0x4000_0000 ∷ []));
}

-- a cell that is loaded and then dropped everywhere is kept in this cycle, and returned in the next
abbrev pub loaded_late : Session
loaded_late = record {
  places = 1;
  lines =
      nil ∷ nil ∷ create ∷ store 0 ∷ begin 0 ∷ load 0 ∷ popitem ∷ nil ∷ store 0
      ∷ passes 18 N.Reclaim 0 ∷ passes 2 N.Rest 0 ∷ census 1
      ∷ begin 0 ∷ passes 17 N.Reclaim 0 ∷ passes 2 N.Rest 1 ∷ census 0 ∷ [];
}

-- a new cell's components are kept in this cycle, though the new cell is dropped
abbrev pub made_late : Session
made_late = record {
  places = 2;
  lines =
      nil ∷ nil ∷ create ∷ begin 0 ∷ nil ∷ create ∷ popitem
      ∷ passes 18 N.Reclaim 0 ∷ passes 3 N.Rest 0 ∷ census 2
      ∷ begin 0 ∷ passes 17 N.Reclaim 0 ∷ passes 3 N.Rest 2 ∷ census 0 ∷ [];
}

-- a component is taken from a cell that the collector has passed, and is kept: the collector stack goes before the roots
abbrev pub stack_first : Session
stack_first = record {
  places = 2;
  lines =
      nil ∷ nil ∷ create ∷ nil ∷ create ∷ store 0 ∷ begin 0 ∷ (stays 2 N.Mark ++ (load 0 ∷ nil ∷ clobber 1
      ∷ passes 17 N.Reclaim 0 ∷ passes 3 N.Rest 0 ∷ census 2 ∷ []));
}

-- of two components the second is passed first, so that what the first one drops is then returned
abbrev pub second_first : Session
second_first = record {
  places = 4;
  lines =
      nil ∷ nil ∷ create ∷ nil ∷ create ∷ nil ∷ nil ∷ create ∷ create ∷ store 0
      ∷ begin 0 ∷ (stays 3 N.Mark ++ (load 0 ∷ select 1 ∷ nil ∷ clobber 1
      ∷ passes 17 N.Reclaim 0 ∷ passes 5 N.Rest 1 ∷ census 3 ∷ []));
}

-- the slots are offered from the bottom: the lower of two is kept, though the upper goes after one slot
abbrev pub bottom_first : Session
bottom_first = record {
  places = 2;
  lines =
      number 0x4000_0000 ∷ nil ∷ create ∷ nil ∷ nil ∷ create ∷ begin 0 ∷ (stays 17 N.Mark ++ (popitem
      ∷ passes 2 N.Reclaim 0 ∷ passes 3 N.Rest 1 ∷ select 1 ∷ looks_number 0x4000_0000 ∷ []));
}

-- a cell that is clobbered with itself and then loaded waits once
abbrev pub itself : Session
itself = record {
  places = 1;
  lines =
      nil ∷ nil ∷ create ∷ store 0 ∷ load 0 ∷ load 0 ∷ begin 0 ∷ clobber 1 ∷ load 0
      ∷ passes 19 N.Reclaim 0 ∷ passes 2 N.Rest 0 ∷ census 1 ∷ [];
}

-- ---- sessions of moving cycles

-- two cells in roots 0 and 1, and then nil in root 0
abbrev pub two_roots : List Line
two_roots = nil ∷ nil ∷ create ∷ store 0 ∷ nil ∷ nil ∷ create ∷ store 1 ∷ nil ∷ store 0 ∷ []

-- a cycle that moves the cell of root 1 to place 0
abbrev pub moving : Session
moving = record {
  places = 4;
  lines =
      two_roots ++ (begin 1 ∷ passes 18 N.Relocate 0 ∷ passes 4 N.Update 0 ∷ passes 21 N.Reclaim 0 ∷ passes 5 N.Rest 1 ∷ root 1 (V.Cell 0) ∷ census 1 ∷ []);
}

-- the same with an edit of the cell after it was moved
abbrev pub edited : Session
edited = record {
  places = 4;
  lines =
      two_roots ++ (begin 1 ∷ passes 18 N.Relocate 0 ∷ passes 4 N.Update 0
      ∷ load 1 ∷ number 0x4000_0000 ∷ clobber 1
      ∷ passes 21 N.Reclaim 0 ∷ passes 5 N.Rest 1
      ∷ load 1 ∷ select 1 ∷ looks_number 0x4000_0000 ∷ []);
}

-- the highest cell moves to the lowest discarded place, and discarded cells do not move
abbrev pub compacted : Session
compacted = record {
  places = 4;
  lines =
      nil ∷ nil ∷ create ∷ popitem ∷ nil ∷ nil ∷ create ∷ store 0 ∷ nil ∷ nil ∷ create ∷ store 1 ∷ nil ∷ nil ∷ create ∷ popitem
      ∷ begin 1 ∷ passes 19 N.Relocate 0 ∷ passes 4 N.Update 0 ∷ passes 21 N.Reclaim 0 ∷ passes 5 N.Rest 2
      ∷ root 0 (V.Cell 1) ∷ root 1 (V.Cell 0) ∷ census 2 ∷ [];
}

-- no cell moves to a free place, and this one is taken afterwards
abbrev pub kept_free : Session
kept_free = record {
  places = 3;
  lines =
      nil ∷ nil ∷ create ∷ popitem ∷ nil ∷ nil ∷ create ∷ store 0 ∷ nil ∷ nil ∷ create ∷ store 1
      ∷ begin 0 ∷ passes 19 N.Reclaim 0 ∷ passes 4 N.Rest 1
      ∷ begin 1 ∷ passes 19 N.Relocate 0 ∷ passes 4 N.Update 0 ∷ passes 20 N.Reclaim 0 ∷ passes 4 N.Rest 0
      ∷ nil ∷ nil ∷ create ∷ store 2 ∷ root 1 (V.Cell 2) ∷ root 2 (V.Cell 0) ∷ [];
}

-- a cell at place 1 that holds a number, and a discarded one at place 0
abbrev pub one_dropped : List Line
one_dropped = nil ∷ nil ∷ create ∷ popitem ∷ number 0x4000_0000 ∷ nil ∷ create ∷ []

-- a cell that only root 15 holds moves, and root 15 follows
abbrev pub last_root : Session
last_root = record {
  places = 2;
  lines =
      one_dropped ++ (store 15 ∷ begin 1 ∷ passes 18 N.Relocate 0 ∷ passes 2 N.Update 0 ∷ passes 19 N.Reclaim 0 ∷ passes 3 N.Rest 1
      ∷ root 15 (V.Cell 0) ∷ load 15 ∷ select 1 ∷ looks_number 0x4000_0000 ∷ []);
}

-- a cell that only the bottom slot holds moves, and the slot follows, though the slot above it goes after one slot
abbrev pub bottom_slot : Session
bottom_slot = record {
  places = 2;
  lines =
      one_dropped ++ (nil ∷ begin 1 ∷ passes 20 N.Relocate 0 ∷ passes 2 N.Update 0 ∷ (stays 19 N.Update ++ (popitem
      ∷ passes 1 N.Reclaim 0 ∷ passes 3 N.Rest 1 ∷ census 1 ∷ select 1 ∷ looks_number 0x4000_0000 ∷ [])));
}

-- a cell that only the component j of another holds moves, and the component follows
abbrev pub moved_part : ℕ → Session
moved_part j = record {
  places = 3;
  lines =
      nil ∷ nil ∷ create ∷ popitem ∷ nil ∷ nil ∷ create ∷ store 0
      ∷ load 0 ∷ number 0x4000_0000 ∷ nil ∷ create ∷ clobber j
      ∷ begin 1 ∷ passes 19 N.Relocate 0 ∷ passes 3 N.Update 0 ∷ passes 20 N.Reclaim 0 ∷ passes 4 N.Rest 1
      ∷ load 0 ∷ select j ∷ select 1 ∷ looks_number 0x4000_0000 ∷ [];
}

-- values from before a move name the same cell as one from after it, and lead to its components
abbrev pub renamed : Session
renamed = record {
  places = 2;
  lines =
      one_dropped ++ (store 0 ∷ load 0 ∷ load 0 ∷ load 0 ∷ load 0
      ∷ begin 1 ∷ passes 22 N.Relocate 0 ∷ passes 2 N.Update 0
      ∷ identical true ∷ load 0 ∷ identical true ∷ select 1 ∷ looks_number 0x4000_0000
      ∷ passes 20 N.Reclaim 0 ∷ passes 3 N.Rest 1 ∷ []);
}

-- values from before a move are written where the update has passed, and lead to the cell afterwards
abbrev pub stale : Session
stale = record {
  places = 4;
  lines =
      one_dropped ++ (store 0 ∷ nil ∷ load 0 ∷ load 0 ∷ load 0 ∷ load 0 ∷ load 0
      ∷ begin 1 ∷ passes 24 N.Relocate 0 ∷ passes 4 N.Update 0 ∷ (stays 21 N.Update
      ++ (clobber 2 ∷ pdlput 3 ∷ store 1 ∷ nil ∷ create ∷ store 2
      ∷ passes 1 N.Reclaim 0 ∷ passes 5 N.Rest 1
      ∷ root 1 (V.Cell 0) ∷ select 1 ∷ looks_number 0x4000_0000
      ∷ load 0 ∷ select 2 ∷ select 1 ∷ looks_number 0x4000_0000
      ∷ load 2 ∷ select 1 ∷ select 1 ∷ looks_number 0x4000_0000 ∷ [])));
}

-- ---- sessions of new cells

-- cells that are made in the mark, relocate and update phases are kept in this cycle, though all are dropped
abbrev pub made_in_each : Session
made_in_each = record {
  places = 4;
  lines =
      begin 1 ∷ nil ∷ nil ∷ create ∷ popitem ∷ passes 17 N.Relocate 0 ∷ nil ∷ nil ∷ create ∷ popitem ∷ passes 5 N.Update 0 ∷ nil ∷ nil ∷ create ∷ popitem
      ∷ passes 21 N.Reclaim 0 ∷ passes 5 N.Rest 0 ∷ census 3
      ∷ begin 0 ∷ passes 17 N.Reclaim 0 ∷ passes 5 N.Rest 3 ∷ census 0 ∷ [];
}

-- cells that are made at the sweep cursor and above it are kept in this cycle, though both are dropped
abbrev pub at_the_sweep : Session
at_the_sweep = record {
  places = 3;
  lines =
      begin 0 ∷ passes 17 N.Reclaim 0 ∷ nil ∷ nil ∷ create ∷ popitem ∷ nil ∷ nil ∷ create ∷ popitem
      ∷ passes 4 N.Rest 0 ∷ census 2
      ∷ begin 0 ∷ passes 17 N.Reclaim 0 ∷ passes 4 N.Rest 2 ∷ census 0 ∷ [];
}

-- a cell made below the sweep cursor outlives this cycle and the next
abbrev pub below_the_sweep : Session
below_the_sweep = record {
  places = 2;
  lines =
      nil ∷ nil ∷ create ∷ popitem ∷ nil ∷ nil ∷ create ∷ store 0
      ∷ begin 0 ∷ passes 18 N.Reclaim 0 ∷ step_in N.Reclaim true
      ∷ load 0 ∷ nil ∷ create ∷ store 1 ∷ nil ∷ store 0 ∷ passes 2 N.Rest 0
      ∷ begin 0 ∷ passes 19 N.Reclaim 0 ∷ passes 3 N.Rest 0
      ∷ load 1 ∷ select 1 ∷ looks K.Cell ∷ [];
}

-- a swept cell that is loaded in the reclaim phase does not wait for the next cycle
abbrev pub loaded_after : Session
loaded_after = record {
  places = 1;
  lines =
      nil ∷ nil ∷ create ∷ store 0 ∷ begin 0 ∷ passes 18 N.Reclaim 0 ∷ step_in N.Reclaim false ∷ load 0 ∷ popitem ∷ passes 1 N.Rest 0
      ∷ nil ∷ store 0 ∷ begin 0 ∷ passes 17 N.Reclaim 0 ∷ passes 2 N.Rest 1 ∷ [];
}

-- ---- sessions of answers

-- numbers are identical by their patterns, and what is not a number is one value
abbrev pub patterns : Session
patterns = record {
  places = 0;
  lines =
      number 0 ∷ number 0x8000_0000 ∷ identical false
      ∷ number 0x7fc0_0000 ∷ number 0xffc0_0001 ∷ identical true ∷ [];
}

-- refusals with an empty list and with two nils
abbrev pub refusals : Session
refusals = record {
  places = 4;
  lines =
      refuses (C.List (L.Select 3)) R.OutOfRange ∷ refuses (C.List (L.Pdlget 0)) R.TooFew ∷ nil ∷ nil ∷ refuses (C.List (L.Clobber 1)) R.NotACell ∷ height 2 ∷ [];
}

-- refusals of begin and step in every phase
abbrev pub cycle_refusals : Session
cycle_refusals = record {
  places = 0;
  lines =
      refuses C.Step R.AtRest ∷ begin_refused 2 R.OutOfRange ∷ begin 1 ∷ begin_refused 2 R.OutOfRange
      ∷ begin_refused 0 R.CycleRuns ∷ passes 17 N.Relocate 0 ∷ begin_refused 0 R.CycleRuns ∷ passes 1 N.Update 0
      ∷ begin_refused 0 R.CycleRuns ∷ passes 17 N.Reclaim 0 ∷ begin_refused 0 R.CycleRuns ∷ passes 1 N.Rest 0 ∷ refuses C.Step R.AtRest ∷ [];
}

abbrev pub sessions : List Session
sessions =
    no_cell ∷ filled ∷ queued
    ∷ taken ∷ stored_late ∷ put_late ∷ clobbered_late ∷ pushed_late ∷ loaded_late ∷ made_late ∷ stack_first ∷ second_first ∷ bottom_first ∷ itself
    ∷ moving ∷ edited ∷ compacted ∷ kept_free ∷ last_root ∷ bottom_slot ∷ moved_part 1 ∷ moved_part 2 ∷ renamed ∷ stale
    ∷ made_in_each ∷ at_the_sweep ∷ below_the_sweep ∷ loaded_after
    ∷ patterns ∷ refusals ∷ cycle_refusals ∷ []

abbrev pub all_played : List Session → List Session
all_played [] = []
all_played (s ∷ rest) = played s ∷ all_played rest

-- Every session shows what it is to show.
abbrev pub SessionsHold : Type 0
SessionsHold = all_played sessions ≡ sessions
