use Rattle.std.proofs.Common.{refl}
use lib.Ieee.{to_bits, of_bits}
use Rattle.model.specs.Heap.{cell_in, cells_with}
use Rattle.law.proofs.worked_sessions.Goals as goal

pub returns : goal.returns
unfolding cell_in cells_with to_bits of_bits
returns c = refl
