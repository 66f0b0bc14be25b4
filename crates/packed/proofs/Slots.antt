-- What is read after one bit or one component is written: that one as it was written, any other as it was.
use Rattle.std.proofs.Common.{◌≡◌, ℕ, ◌+◌, ◌%◌, ◌<◌, ◌≤◌, Bool, ◌≢◌, ◌⊎◌, List, length, get_or, set, sym, refl, ap, ◌∙◌, ⊎_elim, arith}
use Rattle.std.proofs.lemmas.List.{get_or-set_same, get_or-set_other, set_past}
use Rattle.std.proofs.lemmas.Bool.{cases_eq, cases_lt, eq-eqb, ne_eqb, cond-true, cond-false}
use Rattle.values.specs.declared.cells.Value.{Value}
use Rattle.packed.specs.Bits.{bit_of, with_bit}
use Rattle.packed.specs.Words.{value_bytes, value_in}
use Rattle.packed.specs.Groups.{width, cell_count, bit_place, part_place, bit_at, part_at, with_bit_at, with_part_at}
use Rattle.packed.proofs.Masks.{bits}
use Rattle.packed.proofs.Runs.{sets_keep, sets_there, window_set}

-- ---- One bit

byte_apart : (ys : List ℕ) (k r q : ℕ) (on : Bool) → r < 8 → q < 8 → q ≢ r → bit_of (get_or (set ys k (with_bit (get_or ys k 0) r on)) k 0) q ≡ bit_of (get_or ys k 0) q
byte_apart ys k r q on hr hq n =
    ⊎_elim
    (λ l. ap (λ b. bit_of b q) (get_or-set_same ys k _ 0 l) ∙ bits (get_or ys k 0) r q on hr hq ∙ cond-false _ _ _ (ne_eqb q r n))
    (λ l. ap (λ zs. bit_of (get_or zs k 0) q) (set_past ys k _ l))
    (cases_lt k (length ys))

pub bit_there : (ys : List ℕ) (p row : ℕ) (on : Bool) → p < cell_count (length ys) → row < 3 → bit_at (with_bit_at ys p row on) p row ≡ on
bit_there ys p row on h r =
    ap (λ b. bit_of b (p % 8)) (get_or-set_same ys (bit_place p row) _ 0 (omega arith))
    ∙ bits (get_or ys (bit_place p row) 0) (p % 8) (p % 8) on (omega arith) (omega arith) ∙ cond-true _ _ _ (eq-eqb (p % 8) (p % 8) refl)

pub bit_apart : (ys : List ℕ) (p row q r : ℕ) (on : Bool) → row < 3 → r < 3 → (q ≢ p) ⊎ (r ≢ row) → bit_at (with_bit_at ys p row on) q r ≡ bit_at ys q r
bit_apart ys p row q r on h k o =
    ⊎_elim
    (λ (e : bit_place q r ≡ bit_place p row).
    let n : q % 8 ≢ p % 8 = grind arith in
    ap (λ x. bit_of (get_or (with_bit_at ys p row on) x 0) (q % 8)) e
    ∙ byte_apart ys (bit_place p row) (p % 8) (q % 8) on (omega arith) (omega arith) n
    ∙ sym (ap (λ x. bit_of (get_or ys x 0) (q % 8)) e))
    (λ e. ap (λ b. bit_of b (q % 8)) (get_or-set_other ys (bit_place p row) (bit_place q r) _ 0 e))
    (cases_eq (bit_place q r) (bit_place p row))

pub bit_past_part : (ys : List ℕ) (p i q r : ℕ) (v : Value) → i < width → r < 3 → bit_at (with_part_at ys p i v) q r ≡ bit_at ys q r
bit_past_part ys p i q r v h k =
    sets_keep (λ l. bit_at l q r) (value_bytes v) ys (part_place p i) (λ zs t w a b.
    ap (λ x. bit_of x (q % 8)) (get_or-set_other zs t (bit_place q r) w 0 (grind arith)))

-- ---- One component

pub part_there : (ys : List ℕ) (p i : ℕ) (v : Value) → p < cell_count (length ys) → i < width → value_in (value_bytes v) ≡ v → part_at (with_part_at ys p i v) p i ≡ v
part_there ys p i v h k e = ap value_in (sets_there (value_bytes v) ys (part_place p i) (omega arith)) ∙ e

-- Five bytes from a and five from b do not overlap.
abbrev Apart : ℕ → ℕ → Type 0
Apart a b = (a + 5 ≤ b) ⊎ (b + 5 ≤ a)

-- Two components lie apart: of two cells, or of one.
pub cells_apart : (p i q j : ℕ) → i < width → j < width → q ≢ p → Apart (part_place p i) (part_place q j)
cells_apart p i q j h k n = grind arith

pub parts_apart : (p i j : ℕ) → j ≢ i → Apart (part_place p i) (part_place p j)
parts_apart p i j n = grind arith

pub part_apart : (ys : List ℕ) (p i q j : ℕ) (v : Value) → Apart (part_place p i) (part_place q j) → part_at (with_part_at ys p i v) q j ≡ part_at ys q j
part_apart ys p i q j v d =
    sets_keep (λ l. part_at l q j) (value_bytes v) ys (part_place p i) (λ zs k w a b.
    ap value_in (window_set zs k w (part_place q j) 5 (grind arith)))

pub part_past_bit : (ys : List ℕ) (p row q j : ℕ) (on : Bool) → row < 3 → j < width → part_at (with_bit_at ys p row on) q j ≡ part_at ys q j
part_past_bit ys p row q j on h k = ap value_in (window_set ys (bit_place p row) _ (part_place q j) 5 (grind arith))
