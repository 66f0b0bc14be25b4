-- The kinds of places, as tests, and how a mark that is set or cleared changes them.
use Rattle.std.proofs.Common.{◌≡◌, Bool, true, false, ◌⊎◌, refl, ap, inl, inr, arith}
use Rattle.values.specs.Cells.{kind, kind_of_bits}
use Rattle.values.specs.declared.cells.Cell.{Cell}
use Rattle.values.specs.declared.cells.Kind.{Kind}
use Rattle.values.specs.declared.cells.Kind.TheVariants as K
use Rattle.model.specs.Words.{marked, unmarked}

abbrev pub is_plain : Kind → Bool
is_plain K.Plain = true
is_plain K.Accessible = false
is_plain K.Moved = false
is_plain K.Free = false

abbrev pub is_accessible : Kind → Bool
is_accessible K.Plain = false
is_accessible K.Accessible = true
is_accessible K.Moved = false
is_accessible K.Free = false

abbrev pub is_moved : Kind → Bool
is_moved K.Plain = false
is_moved K.Accessible = false
is_moved K.Moved = true
is_moved K.Free = false

unflagged : (mark flag : Bool) → (kind_of_bits mark flag ≡ K.Plain) ⊎ (kind_of_bits mark flag ≡ K.Accessible) → flag ≡ false
unflagged mark false k = refl
unflagged true true k = absurd (grind arith)
unflagged false true k = absurd (grind arith)

pub marked_kind : (c : Cell) → kind c ≡ K.Plain → kind (marked c) ≡ K.Accessible
marked_kind c e = ap (kind_of_bits true) (unflagged c.mark c.flag (inl e))

pub unmarked_kind : (c : Cell) → kind c ≡ K.Accessible → kind (unmarked c) ≡ K.Plain
unmarked_kind c e = ap (kind_of_bits false) (unflagged c.mark c.flag (inr e))
