-- Begin keeps the invariant: from then on what is live counts, and what is made later.
use Rattle.std.proofs.Common.{◌≡◌, ℕ, ◌<◌, ◌≤◌, Bool, true, false, ◌||◌, ◌⊎◌, List, [], get_or, Option, refl, subst, inl, inr, arith}
use Rattle.std.proofs.lemmas.List.{get_or_past}
use Rattle.values.specs.Cells.{kind}
use Rattle.values.specs.declared.cells.Kind.{Kind}
use Rattle.values.specs.declared.cells.Kind.TheVariants as K
use Rattle.values.specs.declared.cells.Value.{Value}
use Rattle.values.specs.declared.cells.Value.TheVariants as V
use Rattle.model.specs.declared.registers.FreeList.{FreeList}
use Rattle.model.specs.declared.registers.Phase.{Phase}
use Rattle.model.specs.declared.registers.Phase.TheVariants as P
use Rattle.model.specs.Heap.{Heap, Mem, at, with_phase}
use Rattle.law.specs.Live.{Leads, by_root, by_slot, by_part, In}
use Rattle.law.specs.Reference.{Reference, entry, made}
use Rattle.law.proofs.Inv.{CellDone, Inv, InvOf}
use Rattle.law.proofs.Memory.{size}
use Rattle.law.proofs.PlaceKinds.{is_plain, is_accessible, is_moved}
use Rattle.law.proofs.Rows.{rows_map}
use Rattle.law.proofs.Turning.{counting, in_phase, renew, rows_both}
use Rattle.law.proofs.Values.{Ghost, Good, Means, v_nil, v_num, v_cell, v_moved}

-- the cells that count in the cycle: those that are live as it begins, and those made later
abbrev pub Allowed : Reference → ℕ → Type 0
Allowed k d = Leads k d ⊎ (made k.cells ≤ d)

-- the value w names no cell but an allowed one
abbrev Fits : Reference → Value → Type 0
Fits k w = (d : ℕ) → w ≡ V.Cell d → Allowed k d

entry_past : (cells : List (List Value)) (a : ℕ) → made cells ≤ a → entry cells a ≡ []
unfolding entry made
entry_past cells a l = get_or_past cells a [] l

-- what is allowed names only what is
closed : (k : Reference) (a i : ℕ) → Allowed k a → Fits k (get_or (entry k.cells a) i V.Nil)
closed k a i (inl c) d e = inl (by_part i c e)
closed k a i (inr l) d e =
    let n : V.Nil ≡ V.Cell d = rw (entry_past k.cells a l) at e in
    let z : ◌≡◌ {A = ℕ} 0 1 = cc in absurd (omega arith)

-- at rest a place is plain or free
resting : (Q : Kind → Type 0) (c : Kind) → Q K.Plain → Q K.Free → (c ≡ K.Plain) ⊎ (c ≡ K.Free) → Q c
resting Q c a b (inl e) = rw e a
resting Q c a b (inr e) = rw e b

module _ {m : Mem} {g : List ℕ} {f : Option FreeList} {rs st : List Value} {own : Ghost} {k : Reference} (b : Bool) (I : Inv P.Rest (CellDone P.Rest) m g f rs st own k) where
  abbrev ph : Phase
  ph = P.Mark 0 0 b

  abbrev own' : Ghost
  own' = counting (Allowed k) own

  good : (p : ℕ) → Good P.Rest m own p → Allowed k (own.to p) → Good ph m own' p
  good p G a = record { is = let e : is_plain (kind (at m p)) ≡ true = G.is in rw e; allowed = a }

  back : (p : ℕ) → p < size m → Good ph m own' p → Good P.Rest m own p
  back p l G = record { is = plain; allowed = I.fair p l plain }
    where
      plain : is_plain (kind (at m p)) ≡ true
      plain = resting (λ c. (is_plain c || is_accessible c) ≡ true → is_plain c ≡ true) (kind (at m p)) (λ e. refl) (λ e. e) (I.kinds p l) G.is

  means : {v w : Value} → Means P.Rest m own v w → Fits k w → Means ph m own' v w
  means v_nil h = v_nil
  means v_num h = v_num
  means (v_cell {p} {b} l G e) h = v_cell l (good p G (rw e (h b refl))) e
  means (v_moved {t = t} {b} c d l G e) h = v_moved c d l (good t G (rw e (h b refl))) e

  -- no place is accessible, and none waits
  no_dark : (p : ℕ) → p < size m → (kind (at m p) ≡ K.Accessible) ⊎ ((at m p).waiting ≡ true) → ⊥
  no_dark p l (inl e) = absurd (resting (λ c. c ≡ K.Accessible → ⊥) (kind (at m p)) (λ d. grind arith) (λ d. grind arith) (I.kinds p l) e)
  no_dark p l (inr e) = subst (λ (xs : List ℕ). In p xs) I.quiet (I.grey.all p l e)

  begun : Inv ph (CellDone ph) m g f rs st own' k
  begun = renew I (record {
    back = back;
    parts = λ p l G i. means (I.cells.parts p l (back p l G) i) (closed k (own.to p) i G.allowed);
    roots = rows_map (λ _ _ t. means t.0 t.1) (rows_both (λ v w. Fits k w) I.roots (λ i _ d e. inl (by_root i e)));
    list = rows_map (λ _ _ t. means t.0 t.1) (rows_both (λ v w. Fits k w) I.list (λ i _ d e. inl (by_slot i e)));
    wide = I.wide;
    quiet = tt;
    kinds = λ p l. resting (λ c. is_moved c ≡ false) (kind (at m p)) refl refl (I.kinds p l);
    fair = λ p l d. absurd (no_dark p l d);
    later = λ d l. inr l;
    root_new = λ i d. absurd (omega arith);
    slot_new = λ i d. absurd (omega arith);
    part_new = λ p l d. absurd (no_dark p l (inl d));
  })

pub kept_begin : (h : Heap) (own : Ghost) (k : Reference) (b : Bool) → h.phase ≡ P.Rest → InvOf h own k → InvOf (with_phase (P.Mark 0 0 b) h) (record { to = own.to; ok = Allowed k }) k
kept_begin h own k b e I = begun b (in_phase h e I)
