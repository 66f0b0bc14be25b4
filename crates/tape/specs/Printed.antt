-- What is printed of a record.
use Rattle.std.specs.Prelude.{ℕ, ◌/◌, ◌%◌, false, List, [], ◌∷◌, ◌++◌, codes, decimal}
use Rattle.std.specs.Fmt.{digit_glyph}
use Rattle.std.specs.List.{flat_map}
use Rattle.tape.specs.Format.{Entry, nil, number, load, store, create, select, clobber, identical, look, popitem, pdlget, pdlput, begin, step, census, note, kind, big_endian}

-- A byte as two hexadecimal digits, 0 to 9 and a to f.
abbrev pub two_digits : ℕ → List ℕ
two_digits b = digit_glyph false (b / 16) ∷ digit_glyph false (b % 16) ∷ []

-- Bytes, each as two hexadecimal digits.
abbrev pub hexadecimal : List ℕ → List ℕ
hexadecimal bytes = flat_map two_digits bytes

-- The argument of a record, after a space: a number's pattern as eight hexadecimal digits, a note's text as two for each byte, any other
-- argument in decimal.
abbrev argument : Entry → List ℕ
argument nil = []
argument (number n) = codes " " ++ hexadecimal (big_endian n)
argument (load n) = codes " " ++ decimal n
argument (store n) = codes " " ++ decimal n
argument create = []
argument (select n) = codes " " ++ decimal n
argument (clobber n) = codes " " ++ decimal n
argument identical = []
argument look = []
argument popitem = []
argument (pdlget n) = codes " " ++ decimal n
argument (pdlput n) = codes " " ++ decimal n
argument (begin n) = codes " " ++ decimal n
argument step = []
argument census = []
argument (note text) = codes " " ++ hexadecimal text

-- The name of a record's kind, and its argument.
abbrev pub printed : Entry → List ℕ
printed e = (kind e).name ++ argument e

-- A line with its end.
abbrev pub ended : List ℕ → List ℕ
ended bs = bs ++ codes "\n"
