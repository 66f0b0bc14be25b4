-- What a cell's bits say, and the blank cell.
use Rattle.std.specs.Prelude.{Bool, true, false, replicate, slice_set}
use Rattle.values.specs.declared.cells.Cell.{Cell}
use Rattle.values.specs.declared.cells.Kind.{Kind}
use Rattle.values.specs.declared.cells.Kind.TheVariants as K
use Rattle.values.specs.declared.cells.Value.{Value}
use Rattle.values.specs.declared.cells.Value.TheVariants as V

-- The kind of a place whose cell has this mark and this flag.
abbrev pub kind_of_bits : Bool → Bool → Kind
kind_of_bits false false = K.Plain
kind_of_bits true false = K.Accessible
kind_of_bits false true = K.Moved
kind_of_bits true true = K.Free

abbrev pub kind : Cell → Kind
kind c = kind_of_bits c.mark c.flag

-- The cell with no bit set and every component nil.
abbrev pub blank : Cell
blank = record { mark = false; flag = false; waiting = false; parts = replicate 2 V.Nil }

-- The cell of a free place: mark and flag set, its first component names the next free place or is nil, the others are nil.
abbrev pub free_naming : Value → Cell
free_naming next = record { mark = true; flag = true; waiting = false; parts = slice_set (replicate 2 V.Nil) 0 next }
