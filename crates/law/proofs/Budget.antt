-- The measure of a cycle: at least as many steps as are left of it.
use Rattle.std.proofs.Common.{◌≡◌, ℕ, ◌+◌, ◌-◌, ◌*◌, ◌<◌, ◌≤◌, Bool, true, false, refl, ap, arith}
use Rattle.values.specs.Cells.{kind}
use Rattle.values.specs.declared.cells.Kind.{Kind}
use Rattle.values.specs.declared.cells.Kind.TheVariants as K
use Rattle.model.specs.declared.registers.Phase.{Phase}
use Rattle.model.specs.declared.registers.Phase.TheVariants as P
use Rattle.model.specs.Heap.{Heap, at, with_phase}
use Rattle.model.specs.Words.{marking}
use Rattle.law.proofs.Memory.{size}
use Rattle.law.proofs.PlaceKinds.{is_plain}
use Rattle.law.proofs.Sim.{Still}
use Rattle.law.proofs.Counting.{tally, tally_most, tally_same, tally_change}

-- with n places, of which w are plain
abbrev pub left : Phase → ℕ → ℕ → ℕ
left P.Rest n w = 0
left (P.Mark r s b) n w = w + (16 - r) + (256 - s) + 3 * n + 276
left (P.Relocate l u) n w = (u - l) + 2 * n + 275
left (P.Update r p s) n w = (16 - r) + (n - p) + (256 - s) + n + 2
left (P.Reclaim p) n w = (n - p) + 1

abbrev pub budget : Heap → ℕ
budget h = left h.phase (size h.mem) (tally is_plain h.mem)

pub budget_begin : (h : Heap) (b : Bool) → budget (with_phase (P.Mark 0 0 b) h) ≤ 4 * size h.mem + 548
budget_begin h b = omega (arith, tally_most is_plain h.mem)

pub budget_positive : (h : Heap) → (h.phase ≡ P.Rest → ⊥) → 1 ≤ budget h
budget_positive h = go h.phase
  where
    go : (f : Phase) → (f ≡ P.Rest → ⊥) → 1 ≤ left f (size h.mem) (tally is_plain h.mem)
    go P.Rest n = absurd (n refl)
    go (P.Mark r s b) n = omega arith
    go (P.Relocate l u) n = omega arith
    go (P.Update r p s) n = omega arith
    go (P.Reclaim p) n = omega arith

-- plain places count in the mark phase alone
left_least : (f : Phase) {f' : Phase} {n n' : ℕ} (w w' : ℕ) → f' ≡ f → n' ≡ n → (marking f ≡ true → w' ≡ w) → left f' n' w' ≤ left f n w
left_least f {n = n} w w' i j h = rw (i, j) (go f h)
  where
    go : (f : Phase) → (marking f ≡ true → w' ≡ w) → left f n w' ≤ left f n w
    go P.Rest e = omega arith
    go (P.Mark r s b) e = omega (arith, e refl)
    go (P.Relocate l u) e = omega arith
    go (P.Update r p s) e = omega arith
    go (P.Reclaim p) e = omega arith

pub budget_still : {h h' : Heap} → Still h h' → budget h' ≡ budget h
budget_still {h} {h'} S = same S.phase S.sizes (tally_same is_plain h.mem h'.mem S.sizes S.kinds)
  where
    same : {f f' : Phase} {n n' w w' : ℕ} → f' ≡ f → n' ≡ n → w' ≡ w → left f' n' w' ≡ left f n w
    same e a b = rw (e, a, b)

not_plain : (k : Kind) → (k ≡ K.Plain → ⊥) → is_plain k ≡ false
not_plain K.Plain n = absurd (n refl)
not_plain K.Accessible n = refl
not_plain K.Moved n = refl
not_plain K.Free n = refl

-- a free place becomes one of another kind, which in the mark phase is not plain, and no other place changes its kind
pub budget_taken : (h h' : Heap) (p : ℕ) → h'.phase ≡ h.phase → size h'.mem ≡ size h.mem → p < size h.mem → kind (at h.mem p) ≡ K.Free
    → (marking h.phase ≡ true → kind (at h'.mem p) ≡ K.Plain → ⊥) → ((q : ℕ) → (q ≡ p → ⊥) → kind (at h'.mem q) ≡ kind (at h.mem q)) → budget h' ≤ budget h
budget_taken h h' p f s l e n o = left_least h.phase (tally is_plain h.mem) (tally is_plain h'.mem) f s white
  where
    white : marking h.phase ≡ true → tally is_plain h'.mem ≡ tally is_plain h.mem
    white i =
        let a : is_plain (kind (at h.mem p)) ≡ false = ap is_plain e in
        let b : is_plain (kind (at h'.mem p)) ≡ false = not_plain (kind (at h'.mem p)) (n i) in
        let c : tally is_plain h'.mem + 0 ≡ tally is_plain h.mem + 0 = rw (a, b) at (tally_change is_plain h.mem h'.mem p s l o) in
        omega arith
