-- What is shown of a list call: it answers as the reference heap, and the invariant holds after it.
use Rattle.std.proofs.Common.{◌≡◌, ℕ, ◌≤◌, Bool, true, false, length, Ok, Err, Result, refl}
use Rattle.values.specs.Cells.{kind}
use Rattle.model.specs.declared.answers.Answer.{Answer}
use Rattle.model.specs.declared.answers.Refusal.{Refusal}
use Rattle.model.specs.declared.answers.Refusal.TheVariants as R
use Rattle.model.specs.Every.{as_answer}
use Rattle.model.specs.Heap.{Heap, Done, refused, at}
use Rattle.law.specs.Reference.{Reference, Told, made, refuses}
use Rattle.law.proofs.Inv.{InvOf}
use Rattle.law.proofs.Memory.{size}
use Rattle.law.proofs.Values.{Ghost}

-- the phase, the places and their kinds stay, and the list stays within its limit
pub record Still (h h' : Heap) : Type 0 where
  pub phase : h'.phase ≡ h.phase
  pub sizes : size h'.mem ≡ size h.mem
  pub widths : h'.mem.width ≡ h.mem.width
  pub kinds : (p : ℕ) → kind (at h'.mem p) ≡ kind (at h.mem p)
  pub short : length h.list ≤ 256 → length h'.list ≤ 256

pub still_refl : {h : Heap} → Still h h
still_refl = record { phase = refl; sizes = refl; widths = refl; kinds = λ p. refl; short = λ l. l }

-- whether an answer is the refusal for want of space
abbrev pub for_space : Result Answer Refusal → Bool
for_space (Ok a) = false
for_space (Err R.OutOfRange) = false
for_space (Err R.TooFew) = false
for_space (Err R.ListFull) = false
for_space (Err R.NotACell) = false
for_space (Err R.NoSpace) = true
for_space (Err R.CycleRuns) = false
for_space (Err R.AtRest) = false

-- A call that makes no cell, against the reference heap's. Its answer is f of what the call says.
pub record Sim {X : Type 0} (f : X → Answer) (h : Heap) (k : Reference) (d : Done X) (t : Told) (own : Ghost) : Type 0 where
  pub says : as_answer f d.says ≡ t.says
  pub inv : InvOf d.heap own t.after
  pub still : Still h d.heap
  pub same : made t.after.cells ≡ made k.cells
  pub never : for_space t.says ≡ false

-- a refusal changes nothing on either side
pub sim_refused : {X : Type 0} (f : X → Answer) (h : Heap) (k : Reference) (own : Ghost) (r : Refusal) → for_space (Err r) ≡ false → InvOf h own k → Sim f h k (refused r h) (refuses r k) own
sim_refused f h k own r n I = record { says = refl; inv = I; still = still_refl; same = refl; never = n }
