-- The steps of the relocate phase keep the invariant.
use Rattle.std.proofs.Common.{◌≡◌, ℕ, ◌+◌, ◌-◌, ◌≤◌, List, Option, arith}
use Rattle.values.specs.declared.cells.Value.{Value}
use Rattle.model.specs.declared.registers.FreeList.{FreeList}
use Rattle.model.specs.declared.registers.Phase.TheVariants as P
use Rattle.model.specs.Heap.{Heap, Mem}
use Rattle.law.specs.Reference.{Reference}
use Rattle.law.proofs.Inv.{CellDone, Inv, InvOf}
use Rattle.law.proofs.Give.{InvAt}
use Rattle.law.proofs.Moving.{passed, move_inv}
use Rattle.law.proofs.StepViews.{Relocate, r_low, r_high, r_move, r_end}
use Rattle.law.proofs.Turning.{in_phase, turn}
use Rattle.law.proofs.Values.{Ghost}

-- the invariant holds with some owner of each place, where the cells A of the reference heap count
pub record Kept (h : Heap) (k : Reference) (A : ℕ → Type 0) : Type 0 where
  pub to : ℕ → ℕ
  pub inv : InvOf h (record { to = to; ok = A }) k

module _ {l u : ℕ} {m : Mem} {g : List ℕ} {f : Option FreeList} {rs st : List Value} {own : Ghost} {k : Reference} (I : Inv (P.Relocate l u) (CellDone (P.Relocate l u)) m g f rs st own k) where
  -- a cursor passes a place
  closer : (l' u' : ℕ) → l ≤ l' → u' ≤ u → Inv (P.Relocate l' u') (CellDone (P.Relocate l' u')) m g f rs st own k
  closer l' u' a b = turn I (record {
    forth = λ q x G. record { is = G.is; allowed = G.allowed };
    back = λ q x G. record { is = G.is; allowed = G.allowed };
    quiet = I.quiet;
    kinds = (λ p c. let F = I.kinds.0 p c in record { to = F.to; first = F.first; below = omega (arith, F.below); black = F.black }, omega (arith, I.kinds.1));
    fair = I.fair;
    root_new = λ i d. absurd d;
    slot_new = λ i d. absurd d;
    part_new = λ q x d. absurd d;
  })

  to_update : Inv (P.Update 0 0 0) (CellDone (P.Update 0 0 0)) m g f rs st own k
  to_update = turn I (record {
    forth = λ q x G. record { is = G.is; allowed = G.allowed };
    back = λ q x G. record { is = G.is; allowed = G.allowed };
    quiet = I.quiet;
    kinds = tt;
    fair = I.fair;
    root_new = λ i d. absurd (omega arith);
    slot_new = λ i d. absurd (omega arith);
    part_new = λ q x d. absurd (omega (arith, d.1));
  })

-- A move gives the lower place another owner; no other step changes one. The first component of a moved cell names its new place, so the width is not 0.
pub kept_relocate : (h : Heap) (own : Ghost) (k : Reference) (l u : ℕ) → 1 ≤ h.mem.width → h.phase ≡ P.Relocate l u → InvOf h own k → {h' : Heap} → Relocate h l u h' → Kept h' k own.ok
kept_relocate h own k l u w e J = go (in_phase h e J)
  where
    go : InvAt (P.Relocate l u) (CellDone (P.Relocate l u)) h own k → {h' : Heap} → Relocate h l u h' → Kept h' k own.ok
    go I (r_low a n) = record { to = own.to; inv = closer I (l + 1) u (omega arith) (omega arith) }
    go I (r_high a c n) = record { to = own.to; inv = closer I l (u - 1) (omega arith) (omega arith) }
    go I (r_move a c d) = record { to = (passed own (u - 1) l).to; inv = move_inv w I a c d }
    go I (r_end a) = record { to = own.to; inv = to_update I }
