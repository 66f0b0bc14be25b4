-- Numbers and their patterns.
use Rattle.std.specs.Prelude.{ℕ, cond}
use Rattle.std.specs.Float.{binary32}
use Rattle.std.specs.Float.Ieee.{nan_bits}

-- The pattern as which a pattern is kept: every one that is not a number is 7fc00000, any other stays as it is.
abbrev pub canonical : ℕ → ℕ
canonical pattern = cond (nan_bits binary32 pattern) 0x7fc0_0000 pattern
