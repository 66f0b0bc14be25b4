-- A place is taken from the collector stack: the invariant holds again once all its components are offered.
use Rattle.std.proofs.Common.{◌≡◌, ℕ, ◌+◌, ◌<◌, ◌≤◌, Bool, true, false, ◌⊎◌, List, ◌∷◌, get_or, Option, sym, refl, ap, ◌∙◌, subst, inl, inr, arith}
use Rattle.std.proofs.lemmas.Bool.{cases_eq, cases_lt, true≢false}
use Rattle.values.specs.Cells.{kind}
use Rattle.values.specs.declared.cells.Cell.{Cell}
use Rattle.values.specs.declared.cells.Kind.{Kind}
use Rattle.values.specs.declared.cells.Kind.TheVariants as K
use Rattle.values.specs.declared.cells.Value.{Value}
use Rattle.values.specs.declared.cells.Value.TheVariants as V
use Rattle.model.specs.declared.registers.FreeList.{FreeList}
use Rattle.model.specs.declared.registers.Phase.{Phase}
use Rattle.model.specs.declared.registers.Phase.TheVariants as P
use Rattle.model.specs.Heap.{Heap, Mem, at, put, part, with_mem, with_pending}
use Rattle.model.specs.Words.{marked, offered_all}
use Rattle.law.specs.Reference.{Reference, entry}
use Rattle.law.proofs.Free.{vacancy_put, except}
use Rattle.law.proofs.Give.{Stood, GivenFrom, given_from, give_from}
use Rattle.law.proofs.Grey.{Grey}
use Rattle.law.proofs.Inv.{Settled, settled_nil, settled_num, settled_cell, CellDone, Inv, InvOf}
use Rattle.law.proofs.Memory.{size, size_put, at_other, Written, here, there, written}
use Rattle.law.specs.Live.{In}
use Rattle.law.proofs.PlaceKinds.{is_moved, marked_kind}
use Rattle.law.proofs.Rows.{rows_map}
use Rattle.law.proofs.Turning.{in_phase, turn, unmoved}
use Rattle.law.proofs.Values.{Ghost, Good, Means, v_nil, v_num, v_cell, v_moved, Stands, s_nil, s_num, s_cell}

-- in the mark phase no place has moved, so a value stands for the reference heap's at once
pub mark_stands : {m : Mem} {own : Ghost} {r s : ℕ} {b : Bool} {v w : Value} → ((p : ℕ) → p < size m → is_moved (kind (at m p)) ≡ false) → Means (P.Mark r s b) m own v w → Stands (P.Mark r s b) m own v w
mark_stands N v_nil = s_nil
mark_stands N v_num = s_num
mark_stands N (v_cell l g e) = s_cell l g e
mark_stands {m} N (v_moved {p} k d l g e) = absurd (true≢false (sym (ap is_moved k) ∙ unmoved m N p))

module _ {r s : ℕ} {b : Bool} {m : Mem} {p : ℕ} {g : List ℕ} {f : Option FreeList} {rs st : List Value} {own : Ghost} {k : Reference} (I : Inv (P.Mark r s b) (CellDone (P.Mark r s b)) m (p ∷ g) f rs st own k) where
  abbrev ph : Phase
  ph = P.Mark r s b

  abbrev c₁ : Cell
  c₁ = marked (at m p)

  abbrev m₁ : Mem
  m₁ = put m p c₁

  lp : p < size m
  lp = (I.grey.each p (inl refl)).0

  white : kind (at m p) ≡ K.Plain
  white = (I.grey.each p (inl refl)).1

  waits : (at m p).waiting ≡ true
  waits = (I.grey.each p (inl refl)).2

  dark : kind c₁ ≡ K.Accessible
  dark = marked_kind (at m p) white

  at₁ : (q : ℕ) → Written m p c₁ q
  at₁ q = written m p c₁ q lp

  inside : {q : ℕ} → q < size m₁ → q < size m
  inside l = rw (size_put m p c₁) at l

  good₁ : (q : ℕ) → Good ph m own q → Good ph m₁ own q
  good₁ q G = go (at₁ q)
    where
      go : Written m p c₁ q → Good ph m₁ own q
      go (here e a) = record { is = rw (a, dark); allowed = G.allowed }
      go (there n a) = record { is = rw a G.is; allowed = G.allowed }

  back₁ : (q : ℕ) → Good ph m₁ own q → Good ph m own q
  back₁ q G = go (at₁ q)
    where
      go : Written m p c₁ q → Good ph m own q
      go (here e a) = record { is = rw (e, white); allowed = G.allowed }
      go (there n a) = record { is = rw a at G.is; allowed = G.allowed }

  same₁ : (q : ℕ) → (at m₁ q).parts ≡ (at m q).parts
  same₁ q = go (at₁ q)
    where
      go : Written m p c₁ q → (at m₁ q).parts ≡ (at m q).parts
      go (here e a) = rw (a, e)
      go (there n a) = rw a

  means₁ : {v w : Value} → Means ph m own v w → Means ph m₁ own v w
  means₁ v_nil = v_nil
  means₁ v_num = v_num
  means₁ (v_cell {p = q} l G e) = v_cell (rw (size_put m p c₁) l) (good₁ q G) e
  means₁ (v_moved {p = q} c d l G e) = absurd (true≢false (sym (ap is_moved c) ∙ unmoved m I.kinds q))

  settled₁ : {v : Value} → Settled ph m v → Settled ph m₁ v
  settled₁ settled_nil = settled_nil
  settled₁ settled_num = settled_num
  settled₁ (settled_cell {p = q} t) = settled_cell (go (at₁ q))
    where
      go : Written m p c₁ q → (kind (at m₁ q) ≡ K.Accessible) ⊎ ((at m₁ q).waiting ≡ true)
      go (here e a) = inl (rw a dark)
      go (there n a) = rw a t

  grey₁ : Grey m₁ g
  grey₁ = record { distinct = I.grey.distinct.1; each = λ q i. each q i (at₁ q); all = λ q l e. all q (inside l) e (at₁ q) }
    where
      each : (q : ℕ) → In q g → Written m p c₁ q → (q < size m₁) × (kind (at m₁ q) ≡ K.Plain) × ((at m₁ q).waiting ≡ true)
      each q i (here e a) = absurd (I.grey.distinct.0 (subst (λ (j : ℕ). In j g) e i))
      each q i (there n a) = (rw (size_put m p c₁) (I.grey.each q (inr i)).0, rw a (I.grey.each q (inr i)).1, rw a (I.grey.each q (inr i)).2)

      all : (q : ℕ) → q < size m → (at m₁ q).waiting ≡ true → Written m p c₁ q → In q g
      all q l e (here i a) = absurd (true≢false (sym (rw a at e)))
      all q l e (there n a) = except q p g n (I.grey.all q l (rw a at e))

  -- the components of p are not settled yet
  abbrev Others : ℕ → Kind → Type 0
  Others q c = (c ≡ K.Accessible) × (q ≡ p → ⊥)

  fair₁ : (q : ℕ) → q < size m → (kind (at m₁ q) ≡ K.Accessible) ⊎ ((at m₁ q).waiting ≡ true) → Written m p c₁ q → own.ok (own.to q)
  fair₁ q l d (here e a) = rw e (I.fair p lp (inr waits))
  fair₁ q l d (there n a) = I.fair q l (rw a at d)

  kinds₁ : (q : ℕ) → q < size m → Written m p c₁ q → is_moved (kind (at m₁ q)) ≡ false
  kinds₁ q l (here e a) = rw (a, dark)
  kinds₁ q l (there n a) = rw a (I.kinds q l)

  popped : Inv ph Others m₁ g f rs st own k
  popped = record {
    cells = record {
      parts = λ q l G i. rw (same₁ q) (means₁ (I.cells.parts q (inside l) (back₁ q G) i));
      full = λ q l G. I.cells.full q (inside l) (back₁ q G);
      owned = λ q l G. I.cells.owned q (inside l) (back₁ q G);
      apart = λ q t l₁ l₂ G₁ G₂ e. I.cells.apart q t (inside l₁) (inside l₂) (back₁ q G₁) (back₁ t G₂) e;
    };
    roots = rows_map (λ _ _ x. means₁ x) I.roots;
    list = rows_map (λ _ _ x. means₁ x) I.list;
    even = λ q l. rw (same₁ q) (I.even q (inside l));
    spare = λ q l i a. ap (λ (vs : List Value). get_or vs i V.Nil) (same₁ q) ∙ I.spare q (inside l) i a;
    wide = I.wide;
    grey = grey₁;
    quiet = tt;
    kinds = λ q l. kinds₁ q (inside l) (at₁ q);
    vacancy = vacancy_put p c₁ lp (λ e. grind (arith, white)) (λ e. grind (arith, dark)) I.vacancy;
    fair = λ q l d. fair₁ q (inside l) d (at₁ q);
    later = I.later;
    root_new = λ i d. settled₁ (I.root_new i d);
    slot_new = λ i d. settled₁ (I.slot_new i d);
    part_new = λ q l d i. rw (same₁ q) (settled₁ (I.part_new q (inside l) (rw (at_other m p q c₁ d.1) at d.0) i));
  }

  -- every component of p stands for one of the reference heap
  stood : (i : ℕ) → Stood ph m₁ own (part (at m p) i)
  stood i = record { for = get_or (entry k.cells (own.to p)) i V.Nil; it = mark_stands popped.kinds (means₁ (I.cells.parts p lp (record { is = rw white; allowed = I.fair p lp (inr waits) }) i)) }

  -- once those below the width are settled, all are
  scanned : {m₂ : Mem} {g₂ : List ℕ} → Inv ph Others m₂ g₂ f rs st own k → ((i : ℕ) → 0 ≤ i → i < 0 + m.width → Settled ph m₂ (part (at m p) i)) → ((q : ℕ) → (at m₂ q).parts ≡ (at m₁ q).parts) → Inv ph (CellDone ph) m₂ g₂ f rs st own k
  scanned {m₂} J N S = turn J (record {
    forth = λ q l G. G;
    back = λ q l G. G;
    quiet = tt;
    kinds = J.kinds;
    fair = J.fair;
    root_new = J.root_new;
    slot_new = J.slot_new;
    part_new = λ q l d i. go q l d i (cases_eq q p);
  })
    where
      here_new : (i : ℕ) → (i < m.width) ⊎ (m.width ≤ i) → Settled ph m₂ (part (at m p) i)
      here_new i (inl a) = N i (omega arith) (omega arith)
      here_new i (inr a) = rw (I.spare p lp i a) settled_nil

      go : (q : ℕ) → q < size m₂ → kind (at m₂ q) ≡ K.Accessible → (i : ℕ) → (q ≡ p) ⊎ (q ≡ p → ⊥) → Settled ph m₂ (part (at m₂ q) i)
      go q l d i (inl e) = rw (e, S p, same₁ p) (here_new i (cases_lt i m.width))
      go q l d i (inr n) = J.part_new q l (d, n) i

-- the step
pub kept_place : (h : Heap) (own : Ghost) (k : Reference) (r s : ℕ) (b : Bool) {p : ℕ} {g : List ℕ} → h.phase ≡ P.Mark r s b → h.pending ≡ p ∷ g → InvOf h own k → InvOf (offered_all (at h.mem p).parts (with_mem (put h.mem p (marked (at h.mem p))) (with_pending g h))) own k
kept_place h own k r s b {p} {g} e a I = go (give_from (P.Mark r s b) (Others J) own k (at h.mem p).parts h.mem.width 0 h₁ e (popped J) (λ i _ _. stood J i))
  where
    h₁ : Heap
    h₁ = with_mem (put h.mem p (marked (at h.mem p))) (with_pending g h)

    J : Inv (P.Mark r s b) (CellDone (P.Mark r s b)) h.mem (p ∷ g) h.free h.roots h.list own k
    J = subst (λ (xs : List ℕ). Inv (P.Mark r s b) (CellDone (P.Mark r s b)) h.mem xs h.free h.roots h.list own k) a
        (in_phase h e I)

    go : {h₂ : Heap} → GivenFrom (P.Mark r s b) (Others J) own k (at h.mem p).parts h.mem.width 0 h₁ h₂ → InvOf h₂ own k
    go (given_from {m} {g = g₂} L N G S) = subst (λ (x : Phase). Inv x (CellDone x) m g₂ h.free h.roots h.list own k) (sym e) (scanned J L N S)
