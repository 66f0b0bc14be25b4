-- What every write of the collector keeps of a cell: the shape of its components.
use Rattle.std.proofs.Common.{◌≡◌, ℕ, ◌<◌, ◌≤◌, List, length, get_or, set, Option, ◌∙◌, arith, length-set, get_or-set_other, get_or-set_same}
use Rattle.values.specs.declared.cells.Kind.{Kind}
use Rattle.values.specs.declared.cells.Value.{Value}
use Rattle.values.specs.declared.cells.Value.TheVariants as V
use Rattle.model.specs.declared.registers.FreeList.{FreeList}
use Rattle.model.specs.declared.registers.Phase.{Phase}
use Rattle.model.specs.Heap.{Mem, at}
use Rattle.law.specs.Reference.{Reference}
use Rattle.law.proofs.Memory.{size}
use Rattle.law.proofs.Values.{Ghost}
use Rattle.law.proofs.Inv.{Inv}

-- the components of a cell: as many as the width at least, and nil past it
pub record Shaped (w : ℕ) (vs : List Value) : Type 0 where
  pub even : w ≤ length vs
  pub spare : (i : ℕ) → w ≤ i → get_or vs i V.Nil ≡ V.Nil

-- the first component is written
pub shaped_set : {w : ℕ} {vs : List Value} (v : Value) → 1 ≤ w → Shaped w vs → Shaped w (set vs 0 v)
shaped_set {w} {vs} v l S = record {
  even = rw (length-set vs 0 v) S.even;
  spare = λ i a. get_or-set_other vs 0 i v V.Nil (λ e. omega arith) ∙ S.spare i a;
}

pub set_first : {w : ℕ} {vs : List Value} (v : Value) → 1 ≤ w → Shaped w vs → get_or (set vs 0 v) 0 V.Nil ≡ v
set_first {vs = vs} v l S = get_or-set_same vs 0 v V.Nil (omega (arith, S.even))

pub shaped : {ph : Phase} {D : ℕ → Kind → Type 0} {m : Mem} {g : List ℕ} {f : Option FreeList} {rs st : List Value} {own : Ghost} {k : Reference} → Inv ph D m g f rs st own k → (q : ℕ) → q < size m → Shaped m.width (at m q).parts
shaped I q l = record { even = I.even q l; spare = I.spare q l }
