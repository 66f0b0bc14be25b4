-- A number's pattern reads as that number, and a pattern that is read is written as its canonical one.
use Rattle.std.proofs.Common.{◌≡◌, ℕ, ◌^◌, ◌<◌, true, not, T, sym, refl, ◌∙◌, subst, ⊎_elim}
use lib.Ieee.{Float, nan, inf, fin, binary32, fits, is_nan, to_bits, of_bits, nan_bits}
use lib.Ieee.Bits.{of_bits-to_bits, to_bits-of_bits, nan_bits_is}
use denote.Floats.{passes}
use Rattle.std.proofs.lemmas.Bool.{cases_Bool, cond-true, cond-false, false≢true}
use Rattle.values.specs.Numbers.{canonical}

to_bits_nan : (x : Float) → is_nan x ≡ true → to_bits binary32 x ≡ 0x7fc0_0000
unfolding is_nan to_bits
to_bits_nan nan e = refl
to_bits_nan (inf s) e = absurd (false≢true e)
to_bits_nan (fin s m x) e = absurd (false≢true e)

pub written_back : (p : ℕ) → p < 2 ^ 32 → to_bits binary32 (of_bits binary32 p) ≡ canonical p
written_back p h =
    ⊎_elim
    (λ e. to_bits_nan (of_bits binary32 p) (sym (nan_bits_is binary32 p) ∙ e) ∙ sym (cond-true _ _ _ e))
    (λ e. to_bits-of_bits binary32 p h (subst (λ b. T (not b)) (sym (sym (nan_bits_is binary32 p) ∙ e)) tt) ∙ sym (cond-false _ _ _ e))
    (cases_Bool (nan_bits binary32 p))

pub read_back : (x : Float) → fits binary32 x ≡ true → of_bits binary32 (to_bits binary32 x) ≡ x
read_back x h = of_bits-to_bits binary32 x (passes _ h)
