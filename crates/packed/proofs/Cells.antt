-- What is left after a cell is written: the cell there, every other cell, and the spare bytes.
use Rattle.std.proofs.Common.{◌≡◌, ℕ, ◌*◌, ◌/◌, ◌<◌, ◌≤◌, Bool, false, ◌≢◌, List, map, length, get_or, drop, set, sym, refl, ap, ◌∙◌, inl, inr, ⊎_elim, arith}
use lib.Seq.{length-sets}
use Rattle.std.specs.List.{range_with_len}
use Rattle.std.proofs.lemmas.List.FromFn.{length-map-range_with_len, get_or-map-range_with_len, fill_by_all}
use Rattle.std.proofs.lemmas.List.{get_or-set_same, get_or-set_other, length-set, drop-set-lt, get_or_past, set_past}
use Rattle.std.proofs.lemmas.Bool.{cases_eq}
use Rattle.values.specs.Cells.{blank}
use Rattle.values.specs.declared.cells.Cell.{Cell}
use Rattle.values.specs.declared.cells.Value.{Value}
use Rattle.values.specs.declared.cells.Value.TheVariants as V
use Rattle.packed.specs.Words.{value_bytes, value_in}
use Rattle.packed.specs.Groups.{width, group_size, cell_count, bit_place, part_place, bit_at, part_at, cell_at, cells_in, spare, with_bit_at, with_part_at, bits_of, with_bits, bytes_with}
use Rattle.packed.proofs.Runs.{sets_keep, each_keep, each_read}
use Rattle.packed.proofs.Slots.{bit_there, bit_apart, bit_past_part, part_there, part_apart, part_past_bit, cells_apart, parts_apart}

pub length_cells : (bs : List ℕ) → length (cells_in bs) ≡ cell_count (length bs)
length_cells bs = length-map-range_with_len (cell_at bs) 0 (cell_count (length bs))

pub cell_in : (bs : List ℕ) (p : ℕ) → p < cell_count (length bs) → get_or (cells_in bs) p blank ≡ cell_at bs p
cell_in bs p h = get_or-map-range_with_len (cell_at bs) 0 (cell_count (length bs)) p p blank h (omega arith)

-- A place past the last cell reads blank, and a write there changes no cell.
pub cell_past : (bs : List ℕ) (p : ℕ) → cell_count (length bs) ≤ p → get_or (cells_in bs) p blank ≡ blank
cell_past bs p h = let n = length_cells bs in get_or_past (cells_in bs) p _ (omega arith)

pub cells_kept : (bs : List ℕ) (p : ℕ) (c : Cell) → cell_count (length bs) ≤ p → set (cells_in bs) p c ≡ cells_in bs
cells_kept bs p c h = let n = length_cells bs in set_past (cells_in bs) p c (omega arith)

module _ (bs : List ℕ) (p : ℕ) (c : Cell) where
  abbrev bit_write : ℕ → List ℕ → List ℕ
  bit_write row ys = with_bit_at ys p row (get_or (bits_of c) row false)

  abbrev part_write : ℕ → List ℕ → List ℕ
  part_write i ys = with_part_at ys p i (get_or c.parts i V.Nil)

  abbrev mid : List ℕ
  mid = with_bits bs p (bits_of c)

  abbrev end : List ℕ
  end = bytes_with bs p c

  -- What no single bit changes, the bits do not change; and so with the components.
  bits_keep : {X : Type 0} (f : List ℕ → X) → ((ys : List ℕ) (row : ℕ) (on : Bool) → row < 3 → f (with_bit_at ys p row on) ≡ f ys) → f mid ≡ f bs
  bits_keep f h = each_keep f bit_write 3 0 bs (λ ys row a b. h ys row _ (omega arith))

  parts_keep : {X : Type 0} (f : List ℕ → X) → ((ys : List ℕ) (i : ℕ) (v : Value) → i < width → f (with_part_at ys p i v) ≡ f ys) → f end ≡ f mid
  parts_keep f h = each_keep f part_write width 0 mid (λ ys i a b. h ys i _ (omega arith))

  length_mid : length mid ≡ length bs
  length_mid = bits_keep length (λ ys row on h. length-set _ _ _)

  length_end : length end ≡ length bs
  length_end = parts_keep length (λ ys i v h. length-sets _ _ (value_bytes v)) ∙ length_mid

  beside : (q : ℕ) → q ≢ p → cell_at end q ≡ cell_at bs q
  beside q n =
      let bit : (r : ℕ) → r < 3 → bit_at end q r ≡ bit_at bs q r =
      λ r k. parts_keep (λ l. bit_at l q r) (λ ys i v h. bit_past_part ys p i q r v h k) ∙ bits_keep (λ l. bit_at l q r) (λ ys row on h. bit_apart ys p row q r on h k (inl n)) in
      let part : (j : ℕ) → j < width → part_at end q j ≡ part_at bs q j =
      λ j k. parts_keep (λ l. part_at l q j) (λ ys i v h. part_apart ys p i q j v (cells_apart p i q j h k n)) ∙ bits_keep (λ l. part_at l q j) (λ ys row on h. part_past_bit ys p row q j on h k) in
      let parts = fill_by_all (part_at bs q) (map (part_at end q) (range_with_len 0 width)) width V.Nil refl (λ j k. get_or-map-range_with_len (part_at end q) 0 width j j V.Nil k (omega arith) ∙ part j k) in
      λ i. record { mark = bit 0 (omega arith) i; flag = bit 1 (omega arith) i; waiting = bit 2 (omega arith) i; parts = parts i }

  module _ (room : p < cell_count (length bs)) where
    pub spare_with : spare end ≡ spare bs
    spare_with =
        let n = group_size * (length bs / group_size) in
        ap (λ k. drop (group_size * (k / group_size)) end) length_end
        ∙ parts_keep (drop n) (λ ys i v h. sets_keep (drop n) (value_bytes v) ys (part_place p i) (λ zs k w a b. drop-set-lt n zs k w (omega arith)))
        ∙ bits_keep (drop n) (λ ys row on h. drop-set-lt n ys (bit_place p row) _ (omega arith))

    module _ (full : length c.parts ≡ width) (back : (i : ℕ) → i < width → value_in (value_bytes (get_or c.parts i V.Nil)) ≡ get_or c.parts i V.Nil) where
      there : cell_at end p ≡ c
      there =
          let bit : (r : ℕ) → r < 3 → bit_at end p r ≡ get_or (bits_of c) r false =
          λ r k. parts_keep (λ l. bit_at l p r) (λ ys i v h. bit_past_part ys p i p r v h k)
          ∙ each_read (λ r l. bit_at l p r) (λ r. get_or (bits_of c) r false) bit_write 3 (length bs) (λ ys row. length-set _ _ _)
          (λ ys row h l. bit_there ys p row _ (omega arith) h) (λ ys row r h k n. bit_apart ys p row p r _ h k (inr n)) 3 0 bs r refl (omega arith) (omega arith) (omega arith) in
          let part : (j : ℕ) → j < width → part_at end p j ≡ get_or c.parts j V.Nil =
          λ j k. each_read (λ j l. part_at l p j) (λ j. get_or c.parts j V.Nil) part_write width (length bs) (λ ys i. length-sets _ _ (value_bytes _))
          (λ ys i h l. part_there ys p i _ (omega arith) h (back i h)) (λ ys i j h k n. part_apart ys p i p j _ (parts_apart p i j n)) width 0 mid j length_mid (omega arith) (omega arith) (omega arith) in
          let parts = sym (fill_by_all (part_at end p) c.parts width V.Nil full (λ j k. sym (part j k))) in
          λ i. record { mark = bit 0 (omega arith) i; flag = bit 1 (omega arith) i; waiting = bit 2 (omega arith) i; parts = parts i }

      pub cells_with : cells_in end ≡ set (cells_in bs) p c
      cells_with =
          let l = length_cells bs in
          ap (λ k. map (cell_at end) (range_with_len 0 (cell_count k))) length_end
          ∙ sym (fill_by_all (cell_at end) (set (cells_in bs) p c) (cell_count (length bs)) blank (length-set (cells_in bs) p c ∙ l) (λ q h.
          ⊎_elim
          (λ (e : q ≡ p). ap (λ k. get_or (set (cells_in bs) p c) k blank) e ∙ get_or-set_same (cells_in bs) p c blank (omega arith) ∙ sym (ap (cell_at end) e ∙ there))
          (λ (e : q ≢ p). get_or-set_other (cells_in bs) p q c blank e ∙ cell_in bs q h ∙ sym (beside q e))
          (cases_eq q p)))
