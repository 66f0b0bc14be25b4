-- A step of the mark phase keeps the invariant.
use Rattle.std.proofs.Common.{◌≡◌, ℕ, ◌+◌, ◌<◌, ◌≤◌, Bool, true, false, ◌⊎◌, List, [], length, get_or, Option, sym, refl, ap, ◌∙◌, subst, inl, inr, arith}
use Rattle.std.proofs.lemmas.Bool.{true≢false}
use Rattle.values.specs.Cells.{kind}
use Rattle.values.specs.declared.cells.Kind.{Kind}
use Rattle.values.specs.declared.cells.Kind.TheVariants as K
use Rattle.values.specs.declared.cells.Value.{Value}
use Rattle.values.specs.declared.cells.Value.TheVariants as V
use Rattle.model.specs.declared.registers.FreeList.{FreeList}
use Rattle.model.specs.declared.registers.Phase.{Phase}
use Rattle.model.specs.declared.registers.Phase.TheVariants as P
use Rattle.model.specs.Heap.{Heap, Mem, limit, at, part, with_phase}
use Rattle.model.specs.Steps.{mark_ended}
use Rattle.model.specs.Words.{marking}
use Rattle.law.specs.Reference.{Reference}
use Rattle.law.proofs.Give.{InvAt, give}
use Rattle.law.proofs.Inv.{Seen, Settled, settled_nil, settled_num, settled_cell, CellDone, Kinds, Dark, Quiet, Inv, InvOf}
use Rattle.law.proofs.Memory.{size, size_is}
use Rattle.law.specs.Live.{In}
use Rattle.law.proofs.PlaceKinds.{is_accessible, is_moved}
use Rattle.law.proofs.Popping.{mark_stands, kept_place}
use Rattle.law.proofs.Rows.{rows_map, rows_at}
use Rattle.law.proofs.Slots.{slot, rows_slot}
use Rattle.law.proofs.StepViews.{Mark, m_place, m_root, m_slot, m_end}
use Rattle.law.proofs.Turning.{in_phase, turn, renew, settled_as, pass_one, rows_with, slots_with, accessible_true, good_first, unmoved}
use Rattle.law.proofs.Values.{goodb, Ghost, Good, Means, v_nil, v_num, v_cell, v_moved}
use Rattle.law.proofs.Words.{Offered, o_nil, o_num, o_off, o_kept, o_queued, Shade, shaded, shade}

-- of the phase an offer reads no more than whether it is mark
offered_as : {ph ph' : Phase} {m m' : Mem} {g g' : List ℕ} {v : Value} → marking ph' ≡ marking ph → Offered ph m g v m' g' → Offered ph' m g v m' g'
offered_as a o_nil = o_nil
offered_as a o_num = o_num
offered_as a (o_off e) = o_off (a ∙ e)
offered_as a (o_kept e n) = o_kept (a ∙ e) n
offered_as a (o_queued e w) = o_queued (a ∙ e) w

module _ {r s : ℕ} {b : Bool} {m : Mem} {g : List ℕ} {f : Option FreeList} {rs st : List Value} {own : Ghost} {k : Reference} (I : Inv (P.Mark r s b) (CellDone (P.Mark r s b)) m g f rs st own k) where
  abbrev ph : Phase
  ph = P.Mark r s b

  -- a value is offered, and the cursors pass it
  passed : (r' s' : ℕ) {v w : Value} {m' : Mem} {g' : List ℕ} → Means ph m own v w → Offered (P.Mark r' s' b) m g v m' g'
      → ((i : ℕ) → i < r' → (i < r) ⊎ (get_or rs i V.Nil ≡ v)) → ((i : ℕ) → i < s' → (i < s) ⊎ (slot st i ≡ v))
      → Inv (P.Mark r' s' b) (CellDone (P.Mark r' s' b)) m' g' f rs st own k
  passed r' s' {v} {m' = m'} M O roots slots =
      let G = give ph I (mark_stands I.kinds M) (offered_as refl O) in
      turn G.inv (record {
        forth = λ q l x. record { is = x.is; allowed = x.allowed };
        back = λ q l x. record { is = x.is; allowed = x.allowed };
        quiet = tt;
        kinds = G.inv.kinds;
        fair = G.inv.fair;
        root_new = λ i d. settled_as (λ c x. x) (new G.new (get_or rs i V.Nil) (G.inv.root_new i) (roots i d));
        slot_new = λ i d. settled_as (λ c x. x) (new G.new (slot st i) (G.inv.slot_new i) (slots i d));
        part_new = λ q l d i. settled_as (λ c x. x) (G.inv.part_new q l d i);
      })
    where
      new : {A : Type 0} → Settled ph m' v → (x : Value) → (A → Settled ph m' x) → A ⊎ (x ≡ v) → Settled ph m' x
      new n x h (inl a) = h a
      new n x h (inr e) = rw e n

  -- ---- the end: what is seen and does not wait is accessible
  module _ (empty : g ≡ []) (hr : length rs ≤ r) (hs : length st ≤ s) where
    accessible : {p : ℕ} → p < size m → (kind (at m p) ≡ K.Accessible) ⊎ ((at m p).waiting ≡ true) → kind (at m p) ≡ K.Accessible
    accessible l (inl e) = e
    accessible {p} l (inr e) = absurd (subst (λ (xs : List ℕ). In p xs) empty (I.grey.all p l e))

    -- the next phase, in which the accessible places count
    module _ (next : Phase) (good : (p : ℕ) (c : Kind) → goodb next p c ≡ is_accessible c) (seen : (p : ℕ) → Seen next (at m p)) where
      means : {v w : Value} → Means ph m own v w × Settled ph m v → Means next m own v w
      means t = go t.0 t.1
        where
          go : {v w : Value} → Means ph m own v w → Settled ph m v → Means next m own v w
          go v_nil n = v_nil
          go v_num n = v_num
          go (v_cell {p} l G e) (settled_cell n) = let a = accessible l n in v_cell l (record { is = rw (good p (kind (at m p)), a); allowed = G.allowed }) e
          go (v_moved {p} c d l G e) n = absurd (true≢false (sym (ap is_moved c) ∙ unmoved m I.kinds p))

      counts : (p : ℕ) → Good next m own p → kind (at m p) ≡ K.Accessible
      counts p G = accessible_true (kind (at m p)) (sym (good p (kind (at m p))) ∙ G.is)

      counted : (p : ℕ) → Good next m own p → Good ph m own p
      counted p G = record { is = rw (counts p G); allowed = G.allowed }

      settled : (v : Value) → Settled next m v
      settled V.Nil = settled_nil
      settled (V.Number x) = settled_num
      settled (V.Cell p) = settled_cell (seen p)

      ended : Quiet next g → Kinds next m → ((p : ℕ) → Dark next p (at m p) → is_accessible (kind (at m p)) ≡ true) → Inv next (CellDone next) m g f rs st own k
      ended quiet kinds dark = renew I (record {
        back = λ p l G. counted p G;
        parts = λ p l G i. means (I.cells.parts p l (counted p G) i, I.part_new p l (counts p G) i);
        roots = rows_map (λ _ _ t. means t) (rows_with (Settled ph m) I.roots (λ i l. I.root_new i (omega arith)));
        list = rows_map (λ _ _ t. means t) (slots_with (Settled ph m) I.list (λ i l. I.slot_new i (omega arith)));
        wide = I.wide;
        quiet = quiet;
        kinds = kinds;
        fair = λ p l d. I.fair p l (inl (accessible_true (kind (at m p)) (dark p d)));
        later = I.later;
        root_new = λ i d. settled (get_or rs i V.Nil);
        slot_new = λ i d. settled (slot st i);
        part_new = λ p l d i. settled (part (at m p) i);
      })

-- ---- the step, by its view
module _ (h : Heap) (own : Ghost) (k : Reference) (r s : ℕ) (b : Bool) (e : h.phase ≡ P.Mark r s b) (I : InvOf h own k) where
  J : InvAt (P.Mark r s b) (CellDone (P.Mark r s b)) h own k
  J = in_phase h e I

  offering : (r' s' : ℕ) {v w : Value} → Means (P.Mark r s b) h.mem own v w → ((i : ℕ) → i < r' → (i < r) ⊎ (get_or h.roots i V.Nil ≡ v)) → ((i : ℕ) → i < s' → (i < s) ⊎ (slot h.list i ≡ v)) → {h' : Heap} → Shade (with_phase (P.Mark r' s' b) h) v h' → InvOf h' own k
  offering r' s' M roots slots (shaded O) = passed J r' s' M O roots slots

  ending : (t : Bool) → h.pending ≡ [] → length h.roots ≤ r → length h.list ≤ s → InvOf (mark_ended t h) own k
  ending true a hr hs = ended J a hr hs (P.Relocate 0 (limit h.mem)) (λ p c. refl) (λ p. tt) a (λ p c. absurd (true≢false (sym (ap is_moved c) ∙ unmoved h.mem J.kinds p)), omega (arith, size_is h.mem)) (λ p d. d)
  ending false a hr hs = ended J a hr hs (P.Reclaim 0) good_first (unmoved h.mem J.kinds) a (λ p l n. absurd (omega arith)) (λ p d. sym (good_first p (kind (at h.mem p))) ∙ d)

pub kept_mark : (h : Heap) (own : Ghost) (k : Reference) (r s : ℕ) (b : Bool) → h.phase ≡ P.Mark r s b → InvOf h own k → {h' : Heap} → Mark h r s b h' → InvOf h' own k
kept_mark h own k r s b e I (m_place a) = kept_place h own k r s b e a I
kept_mark h own k r s b e I (m_root a l) = offering h own k r s b e I (r + 1) s (rows_at r v_nil (in_phase h e I).roots) (λ i d. pass_one (λ j. (j < r) ⊎ (get_or h.roots j V.Nil ≡ get_or h.roots r V.Nil)) r i d (inr refl) inl) (λ i d. inl d) (shade (get_or h.roots r V.Nil) (with_phase (P.Mark (r + 1) s b) h))
kept_mark h own k r s b e I (m_slot a l n) = offering h own k r s b e I r (s + 1) (rows_slot s v_nil (in_phase h e I).list) (λ i d. inl d) (λ i d. pass_one (λ j. (j < s) ⊎ (slot h.list j ≡ slot h.list s)) s i d (inr refl) inl) (shade (slot h.list s) (with_phase (P.Mark r (s + 1) b) h))
kept_mark h own k r s b e I (m_end a l n) = ending h own k r s b e I b a l n
