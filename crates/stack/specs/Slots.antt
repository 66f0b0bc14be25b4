-- How the slots of a slice hold the entries of a pushdown list.
use Rattle.std.specs.Prelude.{◌≡◌, ℕ, ◌+◌, ◌-◌, ◌<◌, ◌≤◌, min, List, ◌∷◌, reverse, length, drop, Some, None, slice_index_or, slice_set}
use Rattle.std.specs.List.{slice_get}
use Rattle.stack.specs.Entries.{stacked}

-- The entries at height h are held in the n lowest slots: the one at depth i in slot n - 1 - i.
-- To read or write an entry is to read or write its slot, and past the entries nothing is read or changed.
pub record Held {X : Type 0} (h : ℕ) (slots : List X) (n : ℕ) : Type 0 where
  pub number : n ≡ min h (length slots)
  pub count : length (stacked h slots) ≡ n
  -- by the depth
  pub read : (i : ℕ) (x : X) → i < n → x ≡ slice_index_or slots (n - 1 - i) x → slice_get (stacked h slots) i ≡ Some x
  pub read_past : (i : ℕ) → n ≤ i → slice_get (stacked h slots) i ≡ None
  pub written : (i : ℕ) (x : X) → i < n → stacked h (slice_set slots (n - 1 - i) x) ≡ slice_set (stacked h slots) i x
  pub written_past : (i : ℕ) (x : X) → n ≤ i → slice_set (stacked h slots) i x ≡ stacked h slots
  -- by the slot
  pub slot_read : (j : ℕ) (x : X) → j < n → x ≡ slice_index_or slots j x → slice_get (reverse (stacked h slots)) j ≡ Some x
  pub slot_read_past : (j : ℕ) → n ≤ j → slice_get (reverse (stacked h slots)) j ≡ None
  pub slot_written : (j : ℕ) (x : X) → j < n → stacked h (slice_set slots j x) ≡ reverse (slice_set (reverse (stacked h slots)) j x)
  pub slot_written_past : (j : ℕ) (x : X) → n ≤ j → reverse (slice_set (reverse (stacked h slots)) j x) ≡ stacked h slots
  -- one entry more, and m fewer
  pub pushed : (x : X) → n < length slots → stacked (h + 1) (slice_set slots h x) ≡ x ∷ stacked h slots
  pub dropped : (m : ℕ) → stacked (n - m) slots ≡ drop m (stacked h slots)
