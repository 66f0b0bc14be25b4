-- Cells in bytes, eight to a group: a byte of marks, one of flags, one of waiting bits, then eight cells of `width` values.
use Rattle.std.specs.Prelude.{ℕ, zero, suc, ◌+◌, ◌*◌, ◌/◌, ◌%◌, Bool, false, cond, List, [], ◌∷◌, map, length, take, drop, nat_lt, slice_index, slice_index_or, slice_set}
use Rattle.std.proofs.lemmas.List.Edits.{sets}
use Rattle.std.specs.List.{range_with_len}
use Rattle.values.specs.declared.cells.Cell.{Cell}
use Rattle.values.specs.declared.cells.Value.{Value}
use Rattle.values.specs.declared.cells.Value.TheVariants as V
use Rattle.packed.specs.declared.groups.Row.{Row}
use Rattle.packed.specs.declared.groups.Row.TheVariants as R
use Rattle.packed.specs.Bits.{bit_of, with_bit}
use Rattle.packed.specs.Words.{value_bytes, value_in}

-- ---- Where things lie

-- The number of components of a cell.
abbrev pub width : ℕ
width = 2

-- The bytes of a cell's components: 10.
abbrev pub cell_size : ℕ
cell_size = 5 * width

-- The bytes of a group: 83.
abbrev pub group_size : ℕ
group_size = 3 + 8 * cell_size

-- The number of cells in so many bytes: eight for each whole group.
abbrev pub cell_count : ℕ → ℕ
cell_count len = 8 * (len / group_size)

-- The rows of bits by number.
abbrev pub row_number : Row → ℕ
row_number R.Marks = 0
row_number R.Flags = 1
row_number R.Waiting = 2

-- The byte that has a place's bit: row 0 has the marks, 1 the flags, 2 the waiting bits.
abbrev pub bit_place : ℕ → ℕ → ℕ
bit_place p row = group_size * (p / 8) + row

-- The first of the five bytes of component i.
abbrev pub part_place : ℕ → ℕ → ℕ
part_place p i = group_size * (p / 8) + 3 + cell_size * (p % 8) + 5 * i

-- ---- What the bytes mean

-- A place's bit in a row.
abbrev pub bit_at : List ℕ → ℕ → ℕ → Bool
bit_at bs p row = bit_of (slice_index bs (bit_place p row)) (p % 8)

-- Component i of a place.
abbrev pub part_at : List ℕ → ℕ → ℕ → Value
part_at bs p i = value_in (take 5 (drop (part_place p i) bs))

-- The cell at a place.
abbrev pub cell_at : List ℕ → ℕ → Cell
cell_at bs p = record { mark = bit_at bs p 0; flag = bit_at bs p 1; waiting = bit_at bs p 2; parts = map (part_at bs p) (range_with_len 0 width) }

-- All cells, which is what the store means.
abbrev pub cells_in : List ℕ → List Cell
cells_in bs = map (cell_at bs) (range_with_len 0 (cell_count (length bs)))

-- The bytes after the last whole group.
abbrev pub spare : List ℕ → List ℕ
spare bs = drop (group_size * (length bs / group_size)) bs

-- ---- What a write leaves

-- The bytes with a place's bit in a row set or cleared.
abbrev pub with_bit_at : List ℕ → ℕ → ℕ → Bool → List ℕ
with_bit_at bs p row on = slice_set bs (bit_place p row) (with_bit (slice_index bs (bit_place p row)) (p % 8) on)

-- The bytes with value v at component i: its five bytes, one after another from the first on.
abbrev pub with_part_at : List ℕ → ℕ → ℕ → Value → List ℕ
with_part_at bs p i v = sets bs (part_place p i) (value_bytes v)

-- The bytes after n writes, at index i and those that follow it.
abbrev pub each : (ℕ → List ℕ → List ℕ) → ℕ → ℕ → List ℕ → List ℕ
each write zero i bs = bs
each write (suc n) i bs = each write n (i + 1) (write i bs)

-- The bits of a cell by row.
abbrev pub bits_of : Cell → List Bool
bits_of c = c.mark ∷ c.flag ∷ c.waiting ∷ []

-- The bytes with the bits of a place.
abbrev pub with_bits : List ℕ → ℕ → List Bool → List ℕ
with_bits bs p on = each (λ row ys. with_bit_at ys p row (slice_index_or on row false)) 3 0 bs

-- The bytes with the components of a place.
abbrev pub with_parts : List ℕ → ℕ → List Value → List ℕ
with_parts bs p vs = each (λ i ys. with_part_at ys p i (slice_index_or vs i V.Nil)) width 0 bs

-- Every byte after cell c is written at place p. The bits and bytes of that place depend on c alone, whatever stood there.
abbrev pub bytes_with : List ℕ → ℕ → Cell → List ℕ
bytes_with bs p c = with_parts (with_bits bs p (bits_of c)) p c.parts

-- The same for any place; one that is not below the count changes nothing.
abbrev pub written : List ℕ → ℕ → Cell → List ℕ
written bs p c = cond (nat_lt p (cell_count (length bs))) (bytes_with bs p c) bs
