-- The reference heap: the list calls on cells that are never let go, moved or marked.
use Rattle.std.specs.Prelude.{ℕ, ◌-◌, cond, ◌&&◌, List, [], ◌∷◌, ◌++◌, length, drop, replicate, Some, None, Ok, Err, Option, Result, ◌==◌, nat_le, nat_lt, slice_index_or, slice_set}
use Rattle.std.specs.List.{slice_get}
use Rattle.stack.specs.Entries.{last_of}
use Rattle.values.specs.declared.cells.Value.{Value}
use Rattle.values.specs.declared.cells.Value.TheVariants as V
use Rattle.model.specs.Calls.{looked, same}
use Rattle.model.specs.declared.answers.Answer.{Answer}
use Rattle.model.specs.declared.answers.Answer.TheVariants as A
use Rattle.model.specs.declared.answers.Refusal.{Refusal}
use Rattle.model.specs.declared.answers.Refusal.TheVariants as R
use Rattle.model.specs.declared.calls.ListCall.{ListCall}
use Rattle.model.specs.declared.calls.ListCall.TheVariants as L

-- Cells are numbered in the order made, and a cell value is that number; a cell is the list of its components.
pub record Reference : Type 0 where
  pub roots : List Value
  pub list : List Value
  pub cells : List (List Value)

-- ---- the cells

-- The components of the cell b.
unfoldable pub entry : List (List Value) → ℕ → List Value
entry cells b = slice_index_or cells b []

unfoldable pub replaced : List (List Value) → ℕ → List Value → List (List Value)
replaced cells b vs = slice_set cells b vs

-- How many cells were made, which is the number of the next one.
unfoldable pub made : List (List Value) → ℕ
made cells = length cells

-- ---- answers

pub record Told : Type 0 where
  pub says : Result Answer Refusal
  pub after : Reference

abbrev pub refuses : Refusal → Reference → Told
refuses r k = record { says = Err r; after = k }

abbrev pub answers : Answer → Reference → Told
answers a k = record { says = Ok a; after = k }

abbrev pub with_list : List Value → Reference → Reference
with_list vs k = record { roots = k.roots; list = vs; cells = k.cells }

-- ---- the calls

abbrev pub push : Value → Reference → Told
push v k = cond (nat_lt (length k.list) 256) (answers A.Done (with_list (v ∷ k.list) k)) (refuses R.ListFull k)

abbrev pub load : ℕ → Reference → Told
load r k = cond (nat_lt r 16) (push (slice_index_or k.roots r V.Nil) k) (refuses R.OutOfRange k)

abbrev pub store_in : ℕ → List Value → Reference → Told
store_in r [] k = refuses R.TooFew k
store_in r (v ∷ vs) k = answers A.Done (record { roots = slice_set k.roots r v; list = vs; cells = k.cells })

abbrev pub store : ℕ → Reference → Told
store r k = cond (nat_lt r 16) (store_in r k.list k) (refuses R.OutOfRange k)

-- the top values, as many as the width, are the components of the next cell, the lowest the first
abbrev pub create_of : Option (List Value) → ℕ → Reference → Told
create_of None w k = refuses R.TooFew k
create_of (Some vs) w k = answers A.Done (record { roots = k.roots; list = V.Cell (made k.cells) ∷ drop w k.list; cells = k.cells ++ vs ∷ [] })

abbrev pub create : ℕ → Reference → Told
create w k = create_of (last_of w k.list) w k

abbrev pub select_at : Value → ℕ → List Value → Reference → Told
select_at V.Nil i vs k = refuses R.NotACell k
select_at (V.Number x) i vs k = refuses R.NotACell k
select_at (V.Cell b) i vs k = answers A.Done (with_list (slice_index_or (entry k.cells b) i V.Nil ∷ vs) k)

abbrev pub select_in : ℕ → List Value → Reference → Told
select_in i [] k = refuses R.TooFew k
select_in i (v ∷ vs) k = select_at v i vs k

-- components count from 1 to the width w
abbrev pub select : ℕ → ℕ → Reference → Told
select w j k = cond (nat_le 1 j && nat_le j w) (select_in (j - 1) k.list k) (refuses R.OutOfRange k)

abbrev pub clobber_at : Value → Value → ℕ → List Value → Reference → Told
clobber_at V.Nil v i vs k = refuses R.NotACell k
clobber_at (V.Number x) v i vs k = refuses R.NotACell k
clobber_at (V.Cell b) v i vs k = answers A.Done (record { roots = k.roots; list = vs; cells = replaced k.cells b (slice_set (entry k.cells b) i v) })

abbrev pub clobber_in : ℕ → List Value → Reference → Told
clobber_in i [] k = refuses R.TooFew k
clobber_in i (v ∷ []) k = refuses R.TooFew k
clobber_in i (v ∷ (c ∷ vs)) k = clobber_at c v i vs k

abbrev pub clobber : ℕ → ℕ → Reference → Told
clobber w j k = cond (nat_le 1 j && nat_le j w) (clobber_in (j - 1) k.list k) (refuses R.OutOfRange k)

abbrev pub identical_in : List Value → Reference → Told
identical_in [] k = refuses R.TooFew k
identical_in (y ∷ []) k = refuses R.TooFew k
identical_in (y ∷ (x ∷ vs)) k = answers (A.Same (same x y)) (with_list vs k)

abbrev pub look_in : List Value → Reference → Told
look_in [] k = refuses R.TooFew k
look_in (v ∷ vs) k = answers (A.Look (looked v)) k

abbrev pub popitem_in : List Value → Reference → Told
popitem_in [] k = refuses R.TooFew k
popitem_in (v ∷ vs) k = answers A.Done (with_list vs k)

abbrev pub pdlget_of : Option Value → Reference → Told
pdlget_of None k = refuses R.TooFew k
pdlget_of (Some v) k = push v k

abbrev pub pdlput_in : ℕ → List Value → Reference → Told
pdlput_in d [] k = refuses R.TooFew k
pdlput_in d (v ∷ vs) k = cond (nat_lt d (length (v ∷ vs))) (answers A.Done (with_list (slice_set vs (d - 1) v) k)) (refuses R.TooFew k)

abbrev pub pdlput : ℕ → Reference → Told
pdlput d k = cond (d == 0) (refuses R.OutOfRange k) (pdlput_in d k.list k)

-- a list call on cells of width w
abbrev pub calls : ℕ → ListCall → Reference → Told
calls w L.Nil k = push V.Nil k
calls w (L.Number x) k = push (V.Number x) k
calls w (L.Load r) k = load r k
calls w (L.Store r) k = store r k
calls w L.Create k = create w k
calls w (L.Select j) k = select w j k
calls w (L.Clobber j) k = clobber w j k
calls w L.Identical k = identical_in k.list k
calls w L.Look k = look_in k.list k
calls w L.Popitem k = popitem_in k.list k
calls w (L.Pdlget d) k = pdlget_of (slice_get k.list d) k
calls w (L.Pdlput d) k = pdlput d k

-- nil roots, no value, no cell
abbrev pub unused : Reference
unused = record { roots = replicate 16 V.Nil; list = []; cells = [] }
