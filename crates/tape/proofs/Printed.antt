-- What is printed in hexadecimal digits.
use Rattle.std.proofs.Common.{◌≡◌, ℕ, zero, suc, ◌+◌, ◌-◌, ◌*◌, ◌/◌, ◌%◌, ◌^◌, ◌<◌, Bool, true, false, cond, eqb, List, [], ◌∷◌, ◌++◌, length, get_or, take, replicate, sym, refl, ap, ◌∙◌, arith}
use Rattle.std.proofs.lemmas.Bool.{eqb-true, eqb-false}
use Rattle.std.proofs.lemmas.Fmt.{hex_byte}
use Rattle.std.proofs.lemmas.List.{append_assoc, append-nil, flat_map_more, take_more, replicate_more}
use Rattle.std.specs.Fmt.{char_count, digit_glyph, digits, digits_onto, format_spec, padded_integral}
use Rattle.tape.specs.Format.{big_endian}
use Rattle.tape.specs.Printed.{two_digits, hexadecimal}

-- One byte more.
pub byte_more : (bytes : List ℕ) (i : ℕ) → i < length bytes → get_or bytes i 0 < 256 → hexadecimal (take i bytes) ++ padded_integral (format_spec 32 0 4 2 (2 ^ 64 - 1)) false [] (digits 16 false (get_or bytes i 0)) ≡ hexadecimal (take (i + 1) bytes)
byte_more bytes i inside small = rw (hex_byte false _ small, take_more bytes i 0 inside) (flat_map_more two_digits [] (take i bytes) (get_or bytes i 0))

-- The last k digits of n, before some others.
abbrev last : ℕ → ℕ → List ℕ → List ℕ
last zero n ds = ds
last (suc k) n ds = last k (n / 16) (digit_glyph false (n % 16) ∷ ds)

last-zero : (k n : ℕ) (ds : List ℕ) → n ≡ 0 → last k n ds ≡ replicate k 48 ++ ds
last-zero zero n ds none = refl
last-zero (suc k) n ds none =
    let high : n / 16 ≡ 0 = omega arith in
    let all : k + 1 ≡ suc k = omega arith in
    last-zero k (n / 16) _ high
    ∙ ap (λ m. replicate k 48 ++ (digit_glyph false (m % 16) ∷ ds)) none
    ∙ sym (append_assoc (replicate k 48) (48 ∷ []) ds)
    ∙ ap (λ zeros. zeros ++ ds) (replicate_more k 48 ∙ ap (λ m. replicate m 48) all)

-- 16 ^ (k + 1)
abbrev bound : ℕ → ℕ
bound zero = 16
bound (suc k) = 16 * bound k

-- Digits with zeros before them, w in all.
abbrev wide : ℕ → List ℕ → List ℕ
wide w ds = replicate (w - length ds) 48 ++ ds

wide-digits : (j k n : ℕ) (ds : List ℕ) → k < j → n < bound k → wide (suc k + length ds) (digits_onto j 16 false n ds) ≡ last (suc k) n ds
wide-digits zero k n ds room small = absurd (omega arith)
wide-digits (suc j) k n ds room small = go k room small (eqb (n / 16) 0) refl (λ i lower. wide-digits j i (n / 16) more lower)
  where
    more : List ℕ
    more = digit_glyph false (n % 16) ∷ ds

    on : List ℕ
    on = digits_onto j 16 false (n / 16) more

    go : (k : ℕ) → k < suc j → n < bound k → (b : Bool) → eqb (n / 16) 0 ≡ b → ((i : ℕ) → i < j → n / 16 < bound i → wide (suc i + length more) on ≡ last (suc i) (n / 16) more) → wide (suc k + length ds) (cond b more on) ≡ last (suc k) n ds
    go k room small true none onward =
        let zeros : suc k + length ds - length more ≡ k = omega arith in
        ap (λ m. replicate m 48 ++ more) zeros ∙ sym (last-zero k (n / 16) more (eqb-true _ _ none))
    go zero room small false some onward = absurd (eqb-false _ _ some (omega arith))
    go (suc k) room small false some onward =
        let width : suc (suc k) + length ds ≡ suc k + length more = omega arith in
        ap (λ m. wide m on) width ∙ onward k (omega arith) (omega arith)

padded_wide : (ds : List ℕ) → padded_integral (format_spec 32 0 4 8 (2 ^ 64 - 1)) false [] ds ≡ wide 8 ds
unfolding padded_integral char_count
padded_wide ds =
    let zeros : 8 - length ds - 0 - 0 ≡ 8 - length ds = omega arith in
    ap (λ k. replicate k 48 ++ (ds ++ [])) zeros ∙ ap (λ xs. replicate (8 - length ds) 48 ++ xs) (append-nil ds)

all_digits : (n : ℕ) → digits 16 false n ≡ digits_onto 64 16 false n []
unfolding digits
all_digits n = refl

last_eight : (n : ℕ) → n < 2 ^ 32 → last 8 n [] ≡ hexadecimal (big_endian n)
last_eight n small =
    let a : n / 16777216 % 256 / 16 ≡ n / 16 / 16 / 16 / 16 / 16 / 16 / 16 % 16 = omega arith in
    let b : n / 16777216 % 256 % 16 ≡ n / 16 / 16 / 16 / 16 / 16 / 16 % 16 = omega arith in
    let c : n / 65536 % 256 / 16 ≡ n / 16 / 16 / 16 / 16 / 16 % 16 = omega arith in
    let d : n / 65536 % 256 % 16 ≡ n / 16 / 16 / 16 / 16 % 16 = omega arith in
    let e : n / 256 % 256 / 16 ≡ n / 16 / 16 / 16 % 16 = omega arith in
    let f : n / 256 % 256 % 16 ≡ n / 16 / 16 % 16 = omega arith in
    let g : n % 256 / 16 ≡ n / 16 % 16 = omega arith in
    let h : n % 256 % 16 ≡ n % 16 = omega arith in
    rw (a, b, c, d, e, f, g, h) refl

-- A number as eight digits is its bytes, the most significant first, as two digits each.
pub hex_word : (n : ℕ) → n < 2 ^ 32 → padded_integral (format_spec 32 0 4 8 (2 ^ 64 - 1)) false [] (digits 16 false n) ≡ hexadecimal (big_endian n)
hex_word n small =
    padded_wide (digits 16 false n) ∙ ap (wide 8) (all_digits n) ∙ wide-digits 64 7 n [] (omega arith) (omega arith) ∙ last_eight n small
