-- The bits of a byte, one for each of eight places.
use Rattle.std.specs.Prelude.{ℕ, ◌-◌, Bool, cond, not, [], ◌∷◌, ◌==◌, bit_and, bit_or, slice_index}

-- The mask of a place whose remainder by 8 is r.
abbrev pub mask : ℕ → ℕ
mask r = slice_index (128 ∷ 64 ∷ 32 ∷ 16 ∷ 8 ∷ 4 ∷ 2 ∷ 1 ∷ []) r

-- Whether a byte has that bit.
abbrev pub bit_of : ℕ → ℕ → Bool
bit_of b r = not (bit_and b (mask r) == 0)

-- The byte with that bit set or cleared.
abbrev pub with_bit : ℕ → ℕ → Bool → ℕ
with_bit b r on = cond on (bit_or b (mask r)) (bit_and b (255 - mask r))
