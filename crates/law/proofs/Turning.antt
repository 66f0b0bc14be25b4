-- What is kept when no cell changes, but the phase with its cursors does.
use Rattle.std.proofs.Common.{◌≡◌, ℕ, suc, ◌+◌, ◌<◌, ◌≤◌, true, false, ◌⊎◌, List, length, get_or, Option, sym, refl, ap, subst, inl, inr, arith}
use Rattle.std.proofs.lemmas.Bool.{cases_eq, cases_lt, true≢false, eq-eqb, ne_eqb, le-ltb}
use Rattle.values.specs.Cells.{kind}
use Rattle.values.specs.declared.cells.Cell.{Cell}
use Rattle.values.specs.declared.cells.Kind.{Kind}
use Rattle.values.specs.declared.cells.Kind.TheVariants as K
use Rattle.values.specs.declared.cells.Value.{Value}
use Rattle.values.specs.declared.cells.Value.TheVariants as V
use Rattle.model.specs.declared.registers.FreeList.{FreeList}
use Rattle.model.specs.declared.registers.Phase.{Phase}
use Rattle.model.specs.declared.registers.Phase.TheVariants as P
use Rattle.model.specs.Heap.{Heap, Mem, at, part}
use Rattle.law.specs.Reference.{Reference, entry, made}
use Rattle.law.proofs.Give.{InvAt}
use Rattle.law.proofs.Inv.{Seen, Settled, settled_nil, settled_num, settled_cell, RootDone, SlotDone, CellDone, Kinds, Dark, Quiet, Inv, InvOf}
use Rattle.law.proofs.Memory.{size, at_past}
use Rattle.law.proofs.PlaceKinds.{is_accessible, is_moved}
use Rattle.law.proofs.Rows.{Rows, r_none, r_more, rows_map}
use Rattle.law.proofs.Slots.{slot}
use Rattle.law.proofs.Values.{goodb, Ghost, Good, Means, v_nil, v_num, v_cell, v_moved}

-- the invariant of a heap whose phase is known
pub in_phase : (h : Heap) {own : Ghost} {k : Reference} {ph : Phase} → h.phase ≡ ph → InvOf h own k → InvAt ph (CellDone ph) h own k
in_phase h {own} {k} e I = subst (λ (x : Phase). InvAt x (CellDone x) h own k) e I

-- the ghost with other cells that count
abbrev pub counting : (ℕ → Type 0) → Ghost → Ghost
counting A own = record { to = own.to; ok = A }

-- ---- what is to be shown anew when no cell changes: fewer places may count, and roots and list may be others
pub record Anew (ph ph' : Phase) (m : Mem) (g : List ℕ) (rs st : List Value) (own : Ghost) (A : ℕ → Type 0) (k : Reference) : Type 0 where
  pub back : (q : ℕ) → q < size m → Good ph' m (counting A own) q → Good ph m own q
  pub parts : (q : ℕ) → q < size m → Good ph' m (counting A own) q → (i : ℕ) → Means ph' m (counting A own) (part (at m q) i) (get_or (entry k.cells (own.to q)) i V.Nil)
  pub roots : Rows (Means ph' m (counting A own)) rs k.roots
  pub list : Rows (Means ph' m (counting A own)) st k.list
  pub wide : length rs ≡ 16
  pub quiet : Quiet ph' g
  pub kinds : Kinds ph' m
  pub fair : (q : ℕ) → q < size m → Dark ph' q (at m q) → A (own.to q)
  pub later : (b : ℕ) → made k.cells ≤ b → A b
  pub root_new : (i : ℕ) → RootDone ph' i → Settled ph' m (get_or rs i V.Nil)
  pub slot_new : (i : ℕ) → SlotDone ph' i → Settled ph' m (slot st i)
  pub part_new : (q : ℕ) → q < size m → CellDone ph' q (kind (at m q)) → (i : ℕ) → Settled ph' m (part (at m q) i)

pub renew : {ph ph' : Phase} {D : ℕ → Kind → Type 0} {m : Mem} {g : List ℕ} {f : Option FreeList} {rs rs' st st' : List Value} {own : Ghost} {A : ℕ → Type 0} {k : Reference} → Inv ph D m g f rs st own k → Anew ph ph' m g rs' st' own A k → Inv ph' (CellDone ph') m g f rs' st' (counting A own) k
renew I N = record {
  cells = record {
    parts = N.parts;
    full = λ q l G. I.cells.full q l (N.back q l G);
    owned = λ q l G. I.cells.owned q l (N.back q l G);
    apart = λ p q a b G H e. I.cells.apart p q a b (N.back p a G) (N.back q b H) e;
  };
  roots = N.roots;
  list = N.list;
  even = I.even;
  spare = I.spare;
  wide = N.wide;
  grey = I.grey;
  quiet = N.quiet;
  kinds = N.kinds;
  vacancy = I.vacancy;
  fair = N.fair;
  later = N.later;
  root_new = N.root_new;
  slot_new = N.slot_new;
  part_new = N.part_new;
}

-- ---- the same places count in both phases
pub phase_V : {ph ph' : Phase} {m : Mem} {own : Ghost} {v w : Value} → ((q : ℕ) → q < size m → Good ph m own q → Good ph' m own q) → Means ph m own v w → Means ph' m own v w
phase_V f v_nil = v_nil
phase_V f v_num = v_num
phase_V f (v_cell {p} l g e) = v_cell l (f p l g) e
phase_V f (v_moved {t = t} k d l g e) = v_moved k d l (f t l g) e

pub record Turns (ph ph' : Phase) (m : Mem) (g : List ℕ) (rs st : List Value) (own : Ghost) : Type 0 where
  pub forth : (q : ℕ) → q < size m → Good ph m own q → Good ph' m own q
  pub back : (q : ℕ) → q < size m → Good ph' m own q → Good ph m own q
  pub quiet : Quiet ph' g
  pub kinds : Kinds ph' m
  pub fair : (q : ℕ) → q < size m → Dark ph' q (at m q) → own.ok (own.to q)
  pub root_new : (i : ℕ) → RootDone ph' i → Settled ph' m (get_or rs i V.Nil)
  pub slot_new : (i : ℕ) → SlotDone ph' i → Settled ph' m (slot st i)
  pub part_new : (q : ℕ) → q < size m → CellDone ph' q (kind (at m q)) → (i : ℕ) → Settled ph' m (part (at m q) i)

pub turn : {ph ph' : Phase} {D : ℕ → Kind → Type 0} {m : Mem} {g : List ℕ} {f : Option FreeList} {rs st : List Value} {own : Ghost} {k : Reference} → Inv ph D m g f rs st own k → Turns ph ph' m g rs st own → Inv ph' (CellDone ph') m g f rs st own k
turn I T = renew I (record {
  back = T.back;
  parts = λ q l G i. phase_V T.forth (I.cells.parts q l (T.back q l G) i);
  roots = rows_map (λ _ _ x. phase_V T.forth x) I.roots;
  list = rows_map (λ _ _ x. phase_V T.forth x) I.list;
  wide = I.wide;
  quiet = T.quiet;
  kinds = T.kinds;
  fair = T.fair;
  later = I.later;
  root_new = T.root_new;
  slot_new = T.slot_new;
  part_new = T.part_new;
})

-- ---- settled values
pub settled_as : {ph ph' : Phase} {m : Mem} {v : Value} → ((c : Cell) → Seen ph c → Seen ph' c) → Settled ph m v → Settled ph' m v
settled_as f settled_nil = settled_nil
settled_as f settled_num = settled_num
settled_as {m = m} f (settled_cell {p} s) = settled_cell (f (at m p) s)

-- one more of what the cursor has passed
pub pass_one : (Q : ℕ → Type 0) (c i : ℕ) → i < c + 1 → Q c → (i < c → Q i) → Q i
pass_one Q c i d n h = go (cases_eq i c)
  where
    go : (i ≡ c) ⊎ (i ≡ c → ⊥) → Q i
    go (inl e) = rw e n
    go (inr e) = h (omega arith)

-- ---- related lists, with what is known of each entry
pub rows_both : {R : Value → Value → Type 0} (S : Value → Value → Type 0) {vs ws : List Value} → Rows R vs ws → ((i : ℕ) → i < length vs → S (get_or vs i V.Nil) (get_or ws i V.Nil)) → Rows (λ v w. R v w × S v w) vs ws
rows_both S r_none h = r_none
rows_both S (r_more r rs) h = r_more (r, h 0 (omega arith)) (rows_both S rs (λ i l. h (suc i) (omega arith)))

pub rows_with : {R : Value → Value → Type 0} (Q : Value → Type 0) {vs ws : List Value} → Rows R vs ws → ((i : ℕ) → i < length vs → Q (get_or vs i V.Nil)) → Rows (λ v w. R v w × Q v) vs ws
rows_with Q rs h = rows_both (λ v w. Q v) rs h

pub slots_with : {R : Value → Value → Type 0} (Q : Value → Type 0) {vs ws : List Value} → Rows R vs ws → ((i : ℕ) → i < length vs → Q (slot vs i)) → Rows (λ v w. R v w × Q v) vs ws
slots_with Q r_none h = r_none
slots_with Q (r_more {v} {w} {vs} r rs) h =
    let top : Q v = rw (eq-eqb (length vs) (length vs) refl) at (h (length vs) (omega arith)) in
    r_more (r, top) (slots_with Q rs (λ i l. rw (ne_eqb (length vs) i (λ e. omega arith)) at (h i (omega arith))))

-- ---- kinds
pub accessible_true : (k : Kind) → is_accessible k ≡ true → k ≡ K.Accessible
accessible_true K.Plain e = absurd (true≢false (sym e))
accessible_true K.Accessible e = refl
accessible_true K.Moved e = absurd (true≢false (sym e))
accessible_true K.Free e = absurd (true≢false (sym e))

-- when reclaim begins the accessible places count
pub good_first : (p : ℕ) (c : Kind) → goodb (P.Reclaim 0) p c ≡ is_accessible c
good_first p c = rw (le-ltb p 0 (omega arith))

-- no place past those that there are has moved
pub unmoved : (m : Mem) → ((p : ℕ) → p < size m → is_moved (kind (at m p)) ≡ false) → (p : ℕ) → is_moved (kind (at m p)) ≡ false
unmoved m h p = go (cases_lt p (size m))
  where
    go : (p < size m) ⊎ (size m ≤ p) → is_moved (kind (at m p)) ≡ false
    go (inl l) = h p l
    go (inr l) = ap (λ (c : Cell). is_moved (kind c)) (at_past m p l)
