-- The format of a tape: its records, and the bytes in which they are written.
use Rattle.std.specs.Prelude.{ℕ, ◌+◌, ◌*◌, ◌/◌, ◌%◌, cond, List, [], ◌∷◌, take, drop, Some, None, codes, Option, ◌==◌, slice_index}
use Prim.Native.String.{String}
use Rattle.tape.specs.declared.records.Record.{Record}
use Rattle.tape.specs.declared.records.Record.TheVariants as R

-- A record by what it says: a note by its text, wherever that lies.
pub data Entry : Type 0 where
  nil : Entry
  number : ℕ → Entry
  load : ℕ → Entry
  store : ℕ → Entry
  create : Entry
  select : ℕ → Entry
  clobber : ℕ → Entry
  identical : Entry
  look : Entry
  popitem : Entry
  pdlget : ℕ → Entry
  pdlput : ℕ → Entry
  begin : ℕ → Entry
  step : Entry
  census : Entry
  note : List ℕ → Entry

-- What a record of the code says.
abbrev pub entry_of : Record → Entry
entry_of R.Nil = nil
entry_of (R.Number n) = number n
entry_of (R.Load n) = load n
entry_of (R.Store n) = store n
entry_of R.Create = create
entry_of (R.Select n) = select n
entry_of (R.Clobber n) = clobber n
entry_of R.Identical = identical
entry_of R.Look = look
entry_of R.Popitem = popitem
entry_of (R.Pdlget n) = pdlget n
entry_of (R.Pdlput n) = pdlput n
entry_of (R.Begin n) = begin n
entry_of R.Step = step
entry_of R.Census = census
entry_of (R.Note text) = note text.now

-- A kind of record: its number, its name, and how many bytes follow the number on a tape.
pub record Kind : Type 0 where
  pub number : ℕ
  pub name : List ℕ
  pub size : ℕ

abbrev row : ℕ → String → ℕ → Kind
row k name n = record { number = k; name = codes name; size = n }

-- The kinds: each number and each name stands here alone.
abbrev pub kind : Entry → Kind
kind nil = row 1 "nil" 0
kind (number n) = row 2 "number" 4
kind (load n) = row 3 "load" 1
kind (store n) = row 4 "store" 1
kind create = row 5 "create" 0
kind (select n) = row 6 "select" 1
kind (clobber n) = row 7 "clobber" 1
kind identical = row 8 "identical" 0
kind look = row 9 "look" 0
kind popitem = row 10 "popitem" 0
kind (pdlget n) = row 11 "pdlget" 1
kind (pdlput n) = row 12 "pdlput" 1
kind (begin n) = row 13 "begin" 1
kind step = row 14 "step" 0
kind census = row 15 "census" 0
kind (note text) = row 16 "note" 12

-- How many bytes a record takes.
abbrev pub span : Entry → ℕ
span e = 1 + (kind e).size

-- A number below 2 ^ 32 as four bytes, the most significant first.
abbrev pub big_endian : ℕ → List ℕ
big_endian n = n / 16777216 % 256 ∷ n / 65536 % 256 ∷ n / 256 % 256 ∷ n % 256 ∷ []

-- The bytes of a record after the number of its kind.
abbrev pub body : Entry → List ℕ
body nil = []
body (number n) = big_endian n
body (load n) = n ∷ []
body (store n) = n ∷ []
body create = []
body (select n) = n ∷ []
body (clobber n) = n ∷ []
body identical = []
body look = []
body popitem = []
body (pdlget n) = n ∷ []
body (pdlput n) = n ∷ []
body (begin n) = n ∷ []
body step = []
body census = []
body (note text) = text

-- A record as it is written on a tape.
abbrev pub written : Entry → List ℕ
written e = (kind e).number ∷ body e

-- The number with which a tape begins; 0 where it is empty.
abbrev pub first : List ℕ → ℕ
first [] = 0
first (k ∷ b) = k

-- The byte after that number.
abbrev pub byte : List ℕ → ℕ
byte t = slice_index t 1

-- The four bytes after it as a number, the most significant first.
abbrev pub word : List ℕ → ℕ
word t = slice_index t 1 * 16777216 + slice_index t 2 * 65536 + slice_index t 3 * 256 + slice_index t 4

-- What a tape would begin with, were its first byte the number of one kind or another.
abbrev pub readings : List ℕ → List Entry
readings t =
    nil ∷ number (word t) ∷ load (byte t) ∷ store (byte t) ∷ create ∷ select (byte t) ∷ clobber (byte t) ∷ identical ∷ look
    ∷ popitem ∷ pdlget (byte t) ∷ pdlput (byte t) ∷ begin (byte t) ∷ step ∷ census ∷ note (take 12 (drop 1 t)) ∷ []

-- The first of some entries whose kind has the number k.
abbrev pub of_kind : ℕ → List Entry → Option Entry
of_kind k [] = None
of_kind k (e ∷ es) = cond (k == (kind e).number) (Some e) (of_kind k es)
