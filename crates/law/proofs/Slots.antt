-- The slots of the list, counted from the bottom.
use Rattle.std.proofs.Common.{◌≡◌, ℕ, zero, suc, ◌-◌, ◌<◌, ◌≤◌, Bool, true, false, cond, eqb, ◌⊎◌, List, [], ◌∷◌, ◌++◌, reverse, length, get_or, set, Some, None, Option, sym, refl, ap, ◌∙◌, inl, inr, arith, length-set}
use Rattle.std.specs.List.{slice_get}
use Rattle.std.proofs.lemmas.List.{reverse-append, reverse-reverse, length-reverse, get_or_append_left, get_or-append_right, get_or_past, set-append_left, set-append_right}
use Rattle.std.proofs.lemmas.Option.{slice_get-get_or, slice_get_past}
use Rattle.std.proofs.lemmas.Bool.{cases_eq, cases_lt, cond_both, eq-eqb, eqb-true, ne_eqb}
use Rattle.values.specs.declared.cells.Value.{Value}
use Rattle.values.specs.declared.cells.Value.TheVariants as V
use Rattle.law.proofs.Rows.{Rows, r_none, r_more, rows_length}

-- the value in the slot i: the list has its top first, so the index of an entry is the length of what is below it
abbrev pub slot : List Value → ℕ → Value
slot [] i = V.Nil
slot (v ∷ vs) i = cond (eqb (length vs) i) v (slot vs i)

-- the list with w in the slot i
unfoldable pub set_slot : List Value → ℕ → Value → List Value
set_slot [] i w = []
set_slot (v ∷ vs) i w = cond (eqb (length vs) i) (w ∷ vs) (v ∷ set_slot vs i w)

-- ---- reading an entry

-- how an entry reads: it is there, or the index is past the end
pub data Entry (vs : List Value) (i : ℕ) : Option Value → Type 0 where
  e_some : i < length vs → Entry vs i (Some (get_or vs i V.Nil))
  e_none : length vs ≤ i → Entry vs i None

pub entry_at : (vs : List Value) (i : ℕ) → Entry vs i (slice_get vs i)
entry_at vs i = go (cases_lt i (length vs))
  where
    go : (i < length vs) ⊎ (length vs ≤ i) → Entry vs i (slice_get vs i)
    go (inl l) = rw (slice_get-get_or vs i V.Nil l) (e_some l)
    go (inr l) = rw (slice_get_past vs i l) (e_none l)

reverse_cons : (v : Value) (vs : List Value) → reverse (v ∷ vs) ≡ reverse vs ++ v ∷ []
reverse_cons v vs = reverse-append (v ∷ []) vs

slot_reverse : (vs : List Value) (i : ℕ) → get_or (reverse vs) i V.Nil ≡ slot vs i
slot_reverse [] i = refl
slot_reverse (v ∷ vs) i = ap (λ (xs : List Value). get_or xs i V.Nil) (reverse_cons v vs) ∙ go (cases_eq (length vs) i) (cases_lt i (length vs)) (slot_reverse vs i)
  where
    n : length (reverse vs) ≡ length vs
    n = length-reverse vs

    go : (length vs ≡ i) ⊎ (length vs ≡ i → ⊥) → (i < length vs) ⊎ (length vs ≤ i) → get_or (reverse vs) i V.Nil ≡ slot vs i → get_or (reverse vs ++ v ∷ []) i V.Nil ≡ cond (eqb (length vs) i) v (slot vs i)
    go (inl e) _ ih =
        let z : i - length vs ≡ 0 = omega arith in
        rw (eq-eqb (length vs) i e) (get_or-append_right (reverse vs) (v ∷ []) (length vs) i V.Nil n (omega arith) ∙ ap (λ (k : ℕ). get_or (v ∷ []) k V.Nil) z)
    go (inr d) (inl l) ih = rw (ne_eqb (length vs) i d) (get_or_append_left (reverse vs) (v ∷ []) V.Nil i (omega (arith, n)) ∙ ih)
    go (inr d) (inr l) ih = rw (ne_eqb (length vs) i d) (get_or-append_right (reverse vs) (v ∷ []) (length vs) i V.Nil n l ∙ get_or_past (v ∷ []) (i - length vs) V.Nil (omega arith) ∙ sym (get_or_past (reverse vs) i V.Nil (omega (arith, n))) ∙ ih)

-- how a slot reads
pub data Slot (vs : List Value) (i : ℕ) : Option Value → Type 0 where
  l_some : i < length vs → Slot vs i (Some (slot vs i))
  l_none : length vs ≤ i → Slot vs i None

pub slot_at : (vs : List Value) (i : ℕ) → Slot vs i (slice_get (reverse vs) i)
slot_at vs i = go (entry_at (reverse vs) i)
  where
    go : {o : Option Value} → Entry (reverse vs) i o → Slot vs i o
    go (e_some l) = rw (slot_reverse vs i) (l_some (rw (length-reverse vs) at l))
    go (e_none l) = l_none (rw (length-reverse vs) at l)

pub slot_beyond : (vs : List Value) (i : ℕ) → length vs ≤ i → slot vs i ≡ V.Nil
slot_beyond [] i h = refl
slot_beyond (v ∷ vs) i h = rw (ne_eqb (length vs) i (λ e. omega arith)) (slot_beyond vs i (omega arith))

-- ---- what holds of slots when the list changes

-- a pop takes the highest slot
pub slot_pop : (P : Value → Type 0) (v : Value) (vs : List Value) (i : ℕ) → P V.Nil → P (slot (v ∷ vs) i) → P (slot vs i)
slot_pop P v vs i z h = go (eqb (length vs) i) refl
  where
    go : (b : Bool) → eqb (length vs) i ≡ b → P (slot vs i)
    go true e = rw (slot_beyond vs i (omega (arith, eqb-true (length vs) i e))) z
    go false e = rw e at h

-- a push adds one
pub slot_push : (P : Value → Type 0) (v : Value) (vs : List Value) (i : ℕ) → P v → P (slot vs i) → P (slot (v ∷ vs) i)
slot_push P v vs i a b = cond_both (eqb (length vs) i) v (slot vs i) P (λ _. a) (λ _. b)

-- an entry is replaced, counted from the top
pub slot_replace : (P : Value → Type 0) (w : Value) (vs : List Value) (d i : ℕ) → P V.Nil → P w → P (slot vs i) → P (slot (set vs d w) i)
slot_replace P w [] d i z a b = b
slot_replace P w (v ∷ vs) zero i z a b = slot_push P w vs i a (slot_pop P v vs i z b)
slot_replace P w (v ∷ vs) (suc d) i z a b = rw (length-set vs d w) (go (eqb (length vs) i) refl (slot_replace P w vs d i z a))
  where
    go : (t : Bool) → eqb (length vs) i ≡ t → (P (slot vs i) → P (slot (set vs d w) i)) → P (cond t v (slot (set vs d w) i))
    go true e f = rw e at b
    go false e f = f (rw e at b)

-- ---- a slot is written

pub length_set_slot : (vs : List Value) (s : ℕ) (w : Value) → length (set_slot vs s w) ≡ length vs
unfolding set_slot
length_set_slot [] s w = refl
length_set_slot (v ∷ vs) s w = go (eqb (length vs) s) (length_set_slot vs s w)
  where
    go : (b : Bool) → length (set_slot vs s w) ≡ length vs → length (cond b (w ∷ vs) (v ∷ set_slot vs s w)) ≡ suc (length vs)
    go true e = refl
    go false e = ap suc e

pub slot_set_slot : (P : Value → Type 0) (vs : List Value) (s : ℕ) (w : Value) (i : ℕ) → P V.Nil → P w → ((i ≡ s → ⊥) → P (slot vs i)) → P (slot (set_slot vs s w) i)
unfolding set_slot
slot_set_slot P [] s w i z a h = z
slot_set_slot P (v ∷ vs) s w i z a h = go (cases_eq (length vs) s) (cases_eq (length vs) i) (slot_set_slot P vs s w i z a)
  where
    go : (length vs ≡ s) ⊎ (length vs ≡ s → ⊥) → (length vs ≡ i) ⊎ (length vs ≡ i → ⊥) → (((i ≡ s → ⊥) → P (slot vs i)) → P (slot (set_slot vs s w) i)) → P (slot (cond (eqb (length vs) s) (w ∷ vs) (v ∷ set_slot vs s w)) i)
    go (inl e) (inl d) f = rw (eq-eqb (length vs) s e) (rw (eq-eqb (length vs) i d) a)
    go (inl e) (inr d) f = rw (eq-eqb (length vs) s e) (rw (ne_eqb (length vs) i d) (rw (ne_eqb (length vs) i d) at (h (λ c. d (e ∙ sym c)))))
    go (inr e) (inl d) f = rw (ne_eqb (length vs) s e) (rw (length_set_slot vs s w) (rw (eq-eqb (length vs) i d) (rw (eq-eqb (length vs) i d) at (h (λ c. e (d ∙ c))))))
    go (inr e) (inr d) f = rw (ne_eqb (length vs) s e) (rw (length_set_slot vs s w) (rw (ne_eqb (length vs) i d) (f (λ c. rw (ne_eqb (length vs) i d) at (h c)))))

set_slot_flat : (vs : List Value) (s : ℕ) (w : Value) → set (reverse vs) s w ≡ reverse (set_slot vs s w)
unfolding set_slot
set_slot_flat [] s w = refl
set_slot_flat (v ∷ vs) s w = ap (λ (xs : List Value). set xs s w) (reverse_cons v vs) ∙ go (cases_eq (length vs) s) (cases_lt s (length vs)) (set_slot_flat vs s w)
  where
    n : length (reverse vs) ≡ length vs
    n = length-reverse vs

    past : length vs < s → set_slot vs s w ≡ vs → set (reverse vs ++ v ∷ []) s w ≡ reverse vs ++ v ∷ []
    past l e = set-append_right (reverse vs) (v ∷ []) (length vs) s w n (omega arith) ∙ ap (λ (xs : List Value). reverse vs ++ xs) (beyond (s - length vs) (omega arith))
      where
        beyond : (k : ℕ) → 1 ≤ k → set (v ∷ []) k w ≡ v ∷ []
        beyond zero h = absurd (omega arith)
        beyond (suc k) h = refl

    still : (xs : List Value) → length xs ≤ s → set_slot xs s w ≡ xs
    still [] l = refl
    still (x ∷ xs) l = rw (ne_eqb (length xs) s (λ e. omega arith)) (ap (λ (ys : List Value). x ∷ ys) (still xs (omega arith)))

    go : (length vs ≡ s) ⊎ (length vs ≡ s → ⊥) → (s < length vs) ⊎ (length vs ≤ s) → set (reverse vs) s w ≡ reverse (set_slot vs s w) → set (reverse vs ++ v ∷ []) s w ≡ reverse (cond (eqb (length vs) s) (w ∷ vs) (v ∷ set_slot vs s w))
    go (inl e) _ ih =
        let z : s - length vs ≡ 0 = omega arith in
        rw (eq-eqb (length vs) s e) (set-append_right (reverse vs) (v ∷ []) (length vs) s w n (omega arith) ∙ ap (λ (k : ℕ). reverse vs ++ set (v ∷ []) k w) z ∙ sym (reverse_cons w vs))
    go (inr d) (inl l) ih = rw (ne_eqb (length vs) s d) (set-append_left (reverse vs) (v ∷ []) s w (omega (arith, n)) ∙ ap (λ (xs : List Value). xs ++ v ∷ []) ih ∙ sym (reverse_cons v (set_slot vs s w)))
    go (inr d) (inr l) ih = rw (ne_eqb (length vs) s d) (past (omega arith) (still vs l) ∙ sym (reverse_cons v vs) ∙ ap (λ (xs : List Value). reverse (v ∷ xs)) (sym (still vs l)))

-- the model writes a slot by way of the reversed list
pub set_slot_is : (vs : List Value) (s : ℕ) (w : Value) → reverse (set (reverse vs) s w) ≡ set_slot vs s w
set_slot_is vs s w = ap reverse (set_slot_flat vs s w) ∙ reverse-reverse (set_slot vs s w)

-- ---- related lists, by slot

pub rows_slot : {R : Value → Value → Type 0} {vs ws : List Value} (i : ℕ) → R V.Nil V.Nil → Rows R vs ws → R (slot vs i) (slot ws i)
rows_slot i z r_none = z
rows_slot {R} i z (r_more {v} {w} {vs} {ws} r rs) = rw (rows_length rs) (go (eqb (length ws) i) (rows_slot i z rs))
  where
    go : (b : Bool) → R (slot vs i) (slot ws i) → R (cond b v (slot vs i)) (cond b w (slot ws i))
    go true x = r
    go false x = x

-- the written value stands for what stood there
pub rows_set_slot : {R : Value → Value → Type 0} {vs ws : List Value} (s : ℕ) (v : Value) → ((x w : Value) → x ≡ slot vs s → R x w → R v w) → Rows R vs ws → Rows R (set_slot vs s v) ws
unfolding set_slot
rows_set_slot s v f r_none = r_none
rows_set_slot {R} s v f (r_more {v = x} {w} {vs} {ws} r rs) = go (eqb (length vs) s) refl (λ g. rows_set_slot s v g rs)
  where
    go : (b : Bool) → eqb (length vs) s ≡ b → (((y z : Value) → y ≡ slot vs s → R y z → R v z) → Rows R (set_slot vs s v) ws) → Rows R (cond b (v ∷ vs) (x ∷ set_slot vs s v)) (w ∷ ws)
    go true e ih = r_more (f x w (rw e) r) rs
    go false e ih = r_more r (ih (λ y z i q. f y z (rw e i) q))
