-- New memory holds blank cells.
use Rattle.std.proofs.Common.{◌≡◌, subst, refl, ℕ, zero, suc, ◌+◌, ◌-◌, ◌*◌, lit<, false, List, map, take, replicate, slice_index}
use Rattle.std.proofs.Math.Nat.{mul-div_cancel_left}
use Rattle.std.proofs.lemmas.List.{drop-replicate, length-replicate}
use Rattle.std.specs.List.{range_with_len}
use Rattle.heap.specs.Runs.{Ran}
use Rattle.model.specs.declared.calls.Event.{Event}
use Rattle.packed.specs.Groups.{bit_at, cell_at, cells_in, part_at, part_place}
use Rattle.packed.specs.Words.{value_in}
use Rattle.values.specs.Cells.{blank}
use Rattle.values.specs.Records.{meant_cell}
use Rattle.values.specs.declared.cells.Cell.{Cell}
use Rattle.values.specs.declared.cells.Value.TheVariants as V
use Rattle.values.specs.declared.records.CellRecord.{CellRecord}
use Rattle.fresh.specs.Runs.{RanFresh}

-- ---- zero bytes

zero_at : (n k : ℕ) → slice_index (replicate n 0) k ≡ 0
zero_at zero k = refl
zero_at (suc n) zero = refl
zero_at (suc n) (suc k) = zero_at n k

no_bit : (n p row : ℕ) → bit_at (replicate n 0) p row ≡ false
no_bit n p row = rw (zero_at n) (refl)

zeros_as_nil : (n : ℕ) → value_in (take 5 (replicate n 0)) ≡ V.Nil
zeros_as_nil zero = refl
zeros_as_nil (suc n) = refl

no_part : (n p i : ℕ) → part_at (replicate n 0) p i ≡ V.Nil
no_part n p i = rw drop-replicate (zeros_as_nil (n - part_place p i))

blank_at : (n p : ℕ) → cell_at (replicate n 0) p ≡ blank
blank_at n p = rw (no_bit n p 0, no_bit n p 1, no_bit n p 2, no_part n p 0, no_part n p 1) refl

same_for_all : {X : Type 0} (f : ℕ → X) (x : X) → ((k : ℕ) → f k ≡ x) → (from n : ℕ) → map f (range_with_len from n) ≡ replicate n x
same_for_all f x same from zero = refl
same_for_all f x same from (suc n) = rw (same from, same_for_all f x same (from + 1) n) refl

pub blank_bytes : (groups : ℕ) → cells_in (replicate (83 * groups) 0) ≡ replicate (8 * groups) blank
blank_bytes groups = rw (length-replicate, mul-div_cancel_left groups (lit< tt)) (same_for_all _ blank (blank_at (83 * groups)) 0 (8 * groups))

-- ---- records of the blank cell

pub blank_records : (n : ℕ) (r : CellRecord) → meant_cell r ≡ blank → map meant_cell (replicate n r) ≡ replicate n blank
blank_records zero r e = refl
blank_records (suc n) r e = rw (e, blank_records n r e) refl

-- ---- a run over either

pub ran_fresh : (n : ℕ) {before after : List Cell} {asked answered : List Event} → before ≡ replicate n blank → Ran before after asked answered → RanFresh n asked answered
ran_fresh n {after = after} {asked = asked} {answered = answered} e ran = (after, subst (λ (cells : List Cell). Ran cells after asked answered) e ran)
