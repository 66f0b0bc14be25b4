-- Values as five bytes: a kind, and a word of four bytes, most significant first.
use Rattle.std.specs.Prelude.{ℕ, ◌+◌, ◌*◌, ◌/◌, ◌%◌, cond, List, [], ◌∷◌, ◌==◌, from_bits, slice_index, to_bits}
use Rattle.std.specs.Float.{binary32}
use Rattle.values.specs.declared.cells.Value.{Value}
use Rattle.values.specs.declared.cells.Value.TheVariants as V

-- 0 for nil, 1 for a number, 2 for a cell.
abbrev pub kind_of : Value → ℕ
kind_of V.Nil = 0
kind_of (V.Number x) = 1
kind_of (V.Cell place) = 2

-- Nil has zero, a number its pattern (7fc00000 for what is not a number), a cell its place.
abbrev pub word_of : Value → ℕ
word_of V.Nil = 0
word_of (V.Number x) = to_bits binary32 x
word_of (V.Cell place) = place

-- A kind and the four bytes of a word.
abbrev pub five_of : ℕ → ℕ → List ℕ
five_of kind word = kind ∷ word / 16777216 % 256 ∷ word / 65536 % 256 ∷ word / 256 % 256 ∷ word % 256 ∷ []

-- The five bytes as which a value is written.
abbrev pub value_bytes : Value → List ℕ
value_bytes v = five_of (kind_of v) (word_of v)

-- The value of a kind and a word; a kind that is never written is nil.
abbrev pub value_of : ℕ → ℕ → Value
value_of kind word = cond (kind == 1) (V.Number (from_bits binary32 word)) (cond (kind == 2) (V.Cell word) V.Nil)

-- The value as which five bytes are read.
abbrev pub value_in : List ℕ → Value
value_in five = value_of (slice_index five 0) (slice_index five 1 * 16777216 + slice_index five 2 * 65536 + slice_index five 3 * 256 + slice_index five 4)
