-- A bit that is set or cleared is read back, and the others stay.
use Rattle.std.proofs.Common.{◌≡◌, ℕ, ◌-◌, ◌%◌, ◌<◌, Bool, true, false, cond, not, eqb, sym, refl, ap, ◌∙◌, mod-eq_of_lt, arith}
use lib.Bits.{bit_and, bit_or, and_mod, or_mod, and_le_r}
use Rattle.std.proofs.lemmas.Bool.{eqb-true, agree_below, agree_below_at}
use Rattle.packed.specs.Bits.{mask, bit_of, with_bit}

-- ---- For bytes it is one test, computed at each byte, place and bit.

abbrev all : ℕ → (ℕ → Bool) → Bool
all n f = agree_below f (λ _. true) n

all_at : (n : ℕ) (f : ℕ → Bool) (k : ℕ) → all n f ≡ true → k < n → f k ≡ true
all_at n f k = agree_below_at f (λ _. true) n k

abbrev read_back : Bool → ℕ → ℕ → Bool
read_back on b r = agree_below (bit_of (with_bit b r on)) (λ q. cond (eqb q r) on (bit_of b q)) 8

all_read_back : (on : Bool) → all 256 (λ b. all 8 (read_back on b)) ≡ true
all_read_back true = refl
all_read_back false = refl

byte_bits : (b r q : ℕ) (on : Bool) → b < 256 → r < 8 → q < 8 → bit_of (with_bit b r on) q ≡ cond (eqb q r) on (bit_of b q)
byte_bits b r q on hb hr hq =
    agree_below_at (bit_of (with_bit b r on)) (λ q. cond (eqb q r) on (bit_of b q)) 8 q
    (all_at 8 (read_back on b) r (all_at 256 (λ b. all 8 (read_back on b)) b (all_read_back on) hb) hr) hq

-- ---- Of a larger number the masks see the lowest byte.

low_mask : (r : ℕ) → r < 8 → mask r % 256 ≡ mask r
low_mask r h = eqb-true _ _ (all_at 8 (λ r. eqb (mask r % 256) (mask r)) r refl h)

low_bit : (b q : ℕ) → q < 8 → bit_of b q ≡ bit_of (b % 256) q
low_bit b q h =
    let m = low_mask q h in
    let l = and_le_r b (mask q) in
    ap (λ n. not (eqb n 0)) (sym (mod-eq_of_lt (omega arith)) ∙ and_mod b (mask q) 8 ∙ ap (bit_and (b % 256)) m)

low_with : (b r : ℕ) (on : Bool) → r < 8 → with_bit b r on % 256 ≡ with_bit (b % 256) r on
low_with b r true h = or_mod b (mask r) 8 ∙ ap (bit_or (b % 256)) (low_mask r h)
low_with b r false h = and_mod b (255 - mask r) 8 ∙ ap (bit_and (b % 256)) (mod-eq_of_lt (omega arith))

pub bits : (b r q : ℕ) (on : Bool) → r < 8 → q < 8 → bit_of (with_bit b r on) q ≡ cond (eqb q r) on (bit_of b q)
bits b r q on hr hq =
    low_bit (with_bit b r on) q hq ∙ ap (λ n. bit_of n q) (low_with b r on hr)
    ∙ byte_bits (b % 256) r q on (omega arith) hr hq ∙ ap (cond (eqb q r) on) (sym (low_bit b q hq))
