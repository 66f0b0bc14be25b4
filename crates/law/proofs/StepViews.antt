-- One view of each phase's step: a constructor for each line of the rule, with the heap that it leaves.
use Rattle.std.proofs.Common.{◌≡◌, ℕ, ◌+◌, ◌-◌, ◌<◌, ◌≤◌, Bool, true, false, cond, ltb, List, [], ◌∷◌, length, get_or, drop, set, Option, sym, refl, subst, arith}
use Rattle.std.specs.List.{slice_get}
use Rattle.std.proofs.lemmas.Bool.{ltb-true, ltb-false}
use Rattle.values.specs.Cells.{kind}
use Rattle.values.specs.declared.cells.Kind.{Kind}
use Rattle.values.specs.declared.cells.Kind.TheVariants as K
use Rattle.values.specs.declared.cells.Value.{Value}
use Rattle.values.specs.declared.cells.Value.TheVariants as V
use Rattle.model.specs.declared.registers.Phase.TheVariants as P
use Rattle.model.specs.Heap.{Heap, limit, at, put, with_phase, with_roots, with_list, with_pending, with_mem}
use Rattle.model.specs.Steps.{mark_step, mark_place, mark_root, mark_slot, mark_ended, moved, relocate_step, relocate_to, relocate_from, update_step, update_root, update_place, update_slot, updated, reclaim_step, swept, returned, returns}
use Rattle.model.specs.Words.{marked, unmarked, with_parts, normal, normal_all, offered, offered_all}
use Rattle.law.proofs.Memory.{size}
use Rattle.law.proofs.Slots.{slot, set_slot, set_slot_is, Entry, e_some, e_none, entry_at, Slot, l_some, l_none, slot_at}

-- ---- mark
pub data Mark (h : Heap) (r s : ℕ) (b : Bool) : Heap → Type 0 where
  m_place : {p : ℕ} {g : List ℕ} → h.pending ≡ p ∷ g → Mark h r s b (offered_all (at h.mem p).parts (with_mem (put h.mem p (marked (at h.mem p))) (with_pending g h)))
  m_root : h.pending ≡ [] → r < length h.roots → Mark h r s b (offered (get_or h.roots r V.Nil) (with_phase (P.Mark (r + 1) s b) h))
  m_slot : h.pending ≡ [] → length h.roots ≤ r → s < length h.list → Mark h r s b (offered (slot h.list s) (with_phase (P.Mark r (s + 1) b) h))
  m_end : h.pending ≡ [] → length h.roots ≤ r → length h.list ≤ s → Mark h r s b (mark_ended b h)

pub marking_way : (h : Heap) (r s : ℕ) (b : Bool) → Mark h r s b (mark_step r s b h)
marking_way h r s b = place h.pending refl
  where
    slots : h.pending ≡ [] → length h.roots ≤ r → {o : Option Value} → Slot h.list s o → Mark h r s b (mark_slot o r s b h)
    slots e d (l_some l) = m_slot e d l
    slots e d (l_none l) = m_end e d l

    roots : h.pending ≡ [] → {o : Option Value} → Entry h.roots r o → Mark h r s b (mark_root o r s b h)
    roots e (e_some l) = m_root e l
    roots e (e_none l) = slots e l (slot_at h.list s)

    place : (xs : List ℕ) → h.pending ≡ xs → Mark h r s b (mark_place (slice_get xs 0) r s b h)
    place [] e = roots e (entry_at h.roots r)
    place (p ∷ g) e = subst (λ (xs : List ℕ). Mark h r s b (offered_all (at h.mem p).parts (with_mem (put h.mem p (marked (at h.mem p))) (with_pending (drop 1 xs) h)))) (sym e) (m_place e)

-- ---- relocate
pub data Relocate (h : Heap) (l u : ℕ) : Heap → Type 0 where
  r_low : l < u → (kind (at h.mem l) ≡ K.Plain → ⊥) → Relocate h l u (with_phase (P.Relocate (l + 1) u) h)
  r_high : l < u → kind (at h.mem l) ≡ K.Plain → (kind (at h.mem (u - 1)) ≡ K.Accessible → ⊥) → Relocate h l u (with_phase (P.Relocate l (u - 1)) h)
  r_move : l < u → kind (at h.mem l) ≡ K.Plain → kind (at h.mem (u - 1)) ≡ K.Accessible → Relocate h l u (with_mem (moved (u - 1) l h.mem) (with_phase (P.Relocate (l + 1) (u - 1)) h))
  r_end : u ≤ l → Relocate h l u (with_phase (P.Update 0 0 0) h)

pub relocating_way : (h : Heap) (l u : ℕ) → Relocate h l u (relocate_step l u h)
relocating_way h l u = go (ltb l u) refl
  where
    high : l < u → kind (at h.mem l) ≡ K.Plain → (k : Kind) → kind (at h.mem (u - 1)) ≡ k → Relocate h l u (relocate_from k l u h)
    high a d K.Plain e = r_high a d (λ (i : kind (at h.mem (u - 1)) ≡ K.Accessible). let z : ◌≡◌ {A = ℕ} 0 1 = cc in omega arith)
    high a d K.Accessible e = r_move a d e
    high a d K.Moved e = r_high a d (λ (i : kind (at h.mem (u - 1)) ≡ K.Accessible). let z : ◌≡◌ {A = ℕ} 0 1 = cc in omega arith)
    high a d K.Free e = r_high a d (λ (i : kind (at h.mem (u - 1)) ≡ K.Accessible). let z : ◌≡◌ {A = ℕ} 0 1 = cc in omega arith)

    low : l < u → (k : Kind) → kind (at h.mem l) ≡ k → Relocate h l u (relocate_to k l u h)
    low a K.Plain e = high a e (kind (at h.mem (u - 1))) refl
    low a K.Accessible e = r_low a (λ (i : kind (at h.mem l) ≡ K.Plain). let z : ◌≡◌ {A = ℕ} 0 1 = cc in omega arith)
    low a K.Moved e = r_low a (λ (i : kind (at h.mem l) ≡ K.Plain). let z : ◌≡◌ {A = ℕ} 0 1 = cc in omega arith)
    low a K.Free e = r_low a (λ (i : kind (at h.mem l) ≡ K.Plain). let z : ◌≡◌ {A = ℕ} 0 1 = cc in omega arith)

    go : (b : Bool) → ltb l u ≡ b → Relocate h l u (cond b (relocate_to (kind (at h.mem l)) l u h) (with_phase (P.Update 0 0 0) h))
    go true e = low (ltb-true l u e) (kind (at h.mem l)) refl
    go false e = r_end (ltb-false l u e)

-- ---- update
pub data Update (h : Heap) (r p s : ℕ) : Heap → Type 0 where
  u_root : r < length h.roots → Update h r p s (with_roots (set h.roots r (normal h.mem (get_or h.roots r V.Nil))) (with_phase (P.Update (r + 1) p s) h))
  u_place : length h.roots ≤ r → p < size h.mem → kind (at h.mem p) ≡ K.Accessible → Update h r p s (with_mem (put h.mem p (with_parts (normal_all h.mem (at h.mem p).parts) (at h.mem p))) (with_phase (P.Update r (p + 1) s) h))
  u_pass : length h.roots ≤ r → p < size h.mem → (kind (at h.mem p) ≡ K.Accessible → ⊥) → Update h r p s (with_phase (P.Update r (p + 1) s) h)
  u_slot : length h.roots ≤ r → size h.mem ≤ p → s < length h.list → Update h r p s (with_list (set_slot h.list s (normal h.mem (slot h.list s))) (with_phase (P.Update r p (s + 1)) h))
  u_end : length h.roots ≤ r → size h.mem ≤ p → length h.list ≤ s → Update h r p s (with_phase (P.Reclaim 0) h)

pub updating_way : (h : Heap) (r p s : ℕ) → Update h r p s (update_step r p s h)
unfolding size
updating_way h r p s = roots (entry_at h.roots r)
  where
    slots : length h.roots ≤ r → limit h.mem ≤ p → {o : Option Value} → Slot h.list s o → Update h r p s (update_slot o r p s h)
    slots a d (l_some l) = rw (set_slot_is h.list s (normal h.mem (slot h.list s))) (u_slot a d l)
    slots a d (l_none l) = u_end a d l

    cell : length h.roots ≤ r → p < limit h.mem → (k : Kind) → kind (at h.mem p) ≡ k → Update h r p s (with_mem (updated k p h.mem) (with_phase (P.Update r (p + 1) s) h))
    cell a l K.Plain e = u_pass a l (λ (i : kind (at h.mem p) ≡ K.Accessible). let z : ◌≡◌ {A = ℕ} 0 1 = cc in omega arith)
    cell a l K.Accessible e = u_place a l e
    cell a l K.Moved e = u_pass a l (λ (i : kind (at h.mem p) ≡ K.Accessible). let z : ◌≡◌ {A = ℕ} 0 1 = cc in omega arith)
    cell a l K.Free e = u_pass a l (λ (i : kind (at h.mem p) ≡ K.Accessible). let z : ◌≡◌ {A = ℕ} 0 1 = cc in omega arith)

    place : length h.roots ≤ r → (b : Bool) → ltb p (limit h.mem) ≡ b → Update h r p s (update_place b r p s h)
    place a true e = cell a (ltb-true p (limit h.mem) e) (kind (at h.mem p)) refl
    place a false e = slots a (ltb-false p (limit h.mem) e) (slot_at h.list s)

    roots : {o : Option Value} → Entry h.roots r o → Update h r p s (update_root o r p s h)
    roots (e_some l) = u_root l
    roots (e_none l) = place l (ltb p (limit h.mem)) refl

-- ---- reclaim, with whether a place is returned
pub data Reclaim (h : Heap) (p : ℕ) : Bool → Heap → Type 0 where
  s_return : p < size h.mem → (kind (at h.mem p) ≡ K.Accessible → ⊥) → (kind (at h.mem p) ≡ K.Free → ⊥) → Reclaim h p true (returned p (with_phase (P.Reclaim (p + 1)) h))
  s_clear : p < size h.mem → kind (at h.mem p) ≡ K.Accessible → Reclaim h p false (with_mem (put h.mem p (unmarked (at h.mem p))) (with_phase (P.Reclaim (p + 1)) h))
  s_pass : p < size h.mem → kind (at h.mem p) ≡ K.Free → Reclaim h p false (with_phase (P.Reclaim (p + 1)) h)
  s_end : size h.mem ≤ p → Reclaim h p false (with_phase P.Rest h)

pub reclaiming_way : (h : Heap) (p : ℕ) → Reclaim h p (cond (ltb p (limit h.mem)) (returns (kind (at h.mem p))) false) (reclaim_step p h)
unfolding size
reclaiming_way h p = go (ltb p (limit h.mem)) refl
  where
    cell : p < limit h.mem → (k : Kind) → kind (at h.mem p) ≡ k → Reclaim h p (returns k) (swept k p (with_phase (P.Reclaim (p + 1)) h))
    cell l K.Plain e = s_return l (λ (i : kind (at h.mem p) ≡ K.Accessible). let z : ◌≡◌ {A = ℕ} 0 1 = cc in omega arith) (λ (i : kind (at h.mem p) ≡ K.Free). let z : ◌≡◌ {A = ℕ} 0 1 = cc in omega arith)
    cell l K.Accessible e = s_clear l e
    cell l K.Moved e = s_return l (λ (i : kind (at h.mem p) ≡ K.Accessible). let z : ◌≡◌ {A = ℕ} 0 1 = cc in omega arith) (λ (i : kind (at h.mem p) ≡ K.Free). let z : ◌≡◌ {A = ℕ} 0 1 = cc in omega arith)
    cell l K.Free e = s_pass l e

    go : (b : Bool) → ltb p (limit h.mem) ≡ b → Reclaim h p (cond b (returns (kind (at h.mem p))) false) (cond b (swept (kind (at h.mem p)) p (with_phase (P.Reclaim (p + 1)) h)) (with_phase P.Rest h))
    go true e = cell (ltb-true p (limit h.mem) e) (kind (at h.mem p)) refl
    go false e = s_end (ltb-false p (limit h.mem) e)
