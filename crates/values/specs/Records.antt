-- Values and cells with each number as its pattern, and what such a form means.
use Rattle.std.specs.Prelude.{map, from_bits, to_bits}
use Rattle.std.specs.Float.{binary32}
use Rattle.values.specs.declared.cells.Cell.{Cell}
use Rattle.values.specs.declared.cells.Value.{Value}
use Rattle.values.specs.declared.cells.Value.TheVariants as V
use Rattle.values.specs.declared.records.CellRecord.{CellRecord}
use Rattle.values.specs.declared.records.PlainValue.{PlainValue}
use Rattle.values.specs.declared.records.PlainValue.TheVariants as P

-- The form in which a value is kept.
abbrev pub plain_value : Value → PlainValue
plain_value V.Nil = P.Nil
plain_value (V.Number x) = P.Number (to_bits binary32 x)
plain_value (V.Cell place) = P.Cell place

-- The value that a form means; any pattern may stand in a caller's memory.
abbrev pub meant_value : PlainValue → Value
meant_value P.Nil = V.Nil
meant_value (P.Number pattern) = V.Number (from_bits binary32 pattern)
meant_value (P.Cell place) = V.Cell place

abbrev pub plain_cell : Cell → CellRecord
plain_cell c = record { mark = c.mark; flag = c.flag; waiting = c.waiting; parts = map plain_value c.parts }

abbrev pub meant_cell : CellRecord → Cell
meant_cell r = record { mark = r.mark; flag = r.flag; waiting = r.waiting; parts = map meant_value r.parts }
