-- Answers and refusals: their numbers and printed words.
use Rattle.std.specs.Prelude.{ℕ, ◌-◌, ◌^◌, Bool, true, false, ◌==◌, List, [], ◌++◌, Err, codes, decimal, to_bits, cond}
use Rattle.std.specs.Float.{binary32}
use Rattle.std.specs.Fmt.{digits, format_spec, padded_integral}
use Rattle.model.specs.declared.answers.Answer.{Answer}
use Rattle.model.specs.declared.answers.Answer.TheVariants as A
use Rattle.model.specs.declared.answers.Stepped.{Stepped}
use Rattle.model.specs.declared.calls.Call.{Call}
use Rattle.model.specs.declared.calls.Event.{Event}
use Rattle.model.specs.declared.answers.Looked.{Looked}
use Rattle.model.specs.declared.answers.Looked.TheVariants as L
use Rattle.model.specs.declared.answers.PhaseName.{PhaseName}
use Rattle.model.specs.declared.answers.PhaseName.TheVariants as N
use Rattle.model.specs.declared.answers.Refusal.{Refusal}
use Rattle.model.specs.declared.answers.Refusal.TheVariants as R
use Rattle.model.specs.declared.registers.Phase.{Phase}
use Rattle.model.specs.declared.registers.Phase.TheVariants as P

-- The number under which a refusal is reported. Where several reasons fit, a call gives the lowest.
abbrev pub number_of : Refusal → ℕ
number_of R.OutOfRange = 1
number_of R.TooFew = 2
number_of R.ListFull = 3
number_of R.NotACell = 4
number_of R.NoSpace = 5
number_of R.CycleRuns = 6
number_of R.AtRest = 7

-- A phase without its cursors.
abbrev pub name_of : Phase → PhaseName
name_of P.Rest = N.Rest
name_of (P.Mark root slot moving) = N.Mark
name_of (P.Relocate low high) = N.Relocate
name_of (P.Update root place slot) = N.Update
name_of (P.Reclaim sweep) = N.Reclaim

-- Two looks tell the same: of numbers, the same pattern.
abbrev pub same_look : Looked → Looked → Bool
same_look L.Nil L.Nil = true
same_look L.Nil (L.Number y) = false
same_look L.Nil L.Cell = false
same_look (L.Number x) L.Nil = false
same_look (L.Number x) (L.Number y) = to_bits binary32 x == to_bits binary32 y
same_look (L.Number x) L.Cell = false
same_look L.Cell L.Nil = false
same_look L.Cell (L.Number y) = false
same_look L.Cell L.Cell = true

-- A call that is yet to be answered; in the answer's place stands the refusal of a step at rest.
abbrev pub asked : Call → Event
asked c = record { call = c; answer = Err R.AtRest }

-- The word by which a phase is printed.
abbrev pub phase_word : PhaseName → List ℕ
phase_word N.Rest = codes "rest"
phase_word N.Mark = codes "mark"
phase_word N.Relocate = codes "relocate"
phase_word N.Update = codes "update"
phase_word N.Reclaim = codes "reclaim"

abbrev pub looked_word : Looked → List ℕ
looked_word L.Nil = codes "nil"
looked_word (L.Number x) = codes "number"
looked_word L.Cell = codes "cell"

abbrev pub same_word : Bool → List ℕ
same_word true = codes "yes"
same_word false = codes "no"

-- Eight hexadecimal digits, the first ones 0 where fewer would do.
abbrev pub eight_digits : ℕ → List ℕ
eight_digits n = padded_integral (format_spec 32 0 4 8 (2 ^ 64 - 1)) false [] (digits 16 false n)

-- What is printed of a look: its word, and of a number the pattern too.
abbrev pub looked_text : Looked → List ℕ
looked_text L.Nil = looked_word L.Nil
looked_text (L.Number x) = looked_word (L.Number x) ++ codes " " ++ eight_digits (to_bits binary32 x)
looked_text L.Cell = looked_word L.Cell

-- What is printed of a step: the phase after it, and 1 if it returned a place.
abbrev pub stepped_text : Stepped → List ℕ
stepped_text s = phase_word s.phase ++ codes " " ++ decimal (cond s.returned 1 0)

-- What is printed of an answer: nothing, where the call only did something.
abbrev pub answer_text : Answer → List ℕ
answer_text A.Done = []
answer_text (A.Same same) = same_word same
answer_text (A.Look looked) = looked_text looked
answer_text (A.Step stepped) = stepped_text stepped
answer_text (A.Census count) = decimal count
