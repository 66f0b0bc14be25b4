-- Components and the index at which they lie.
use Rattle.std.specs.Prelude.{ℕ, ◌-◌, cond, ◌&&◌, Ok, Err, Result, nat_le}
use Rattle.model.specs.declared.answers.Refusal.{Refusal}
use Rattle.model.specs.declared.answers.Refusal.TheVariants as R

-- The index of component j, which counts from 1; a cell has two.
abbrev pub index : ℕ → Result ℕ Refusal
index j = cond (nat_le 1 j && nat_le j 2) (Ok (j - 1)) (Err R.OutOfRange)
