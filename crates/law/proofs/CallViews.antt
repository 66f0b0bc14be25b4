-- One view of each list call: a constructor for each way that it can go, with its answer and the heap that it leaves.
use Rattle.std.proofs.Common.{◌≡◌, ℕ, zero, suc, ◌+◌, ◌-◌, ◌<◌, ◌≤◌, Bool, true, false, cond, ltb, ◌⊎◌, List, [], ◌∷◌, reverse, length, get_or, take, drop, set, Some, None, Option, sym, refl, ap, ◌∙◌, subst, inl, inr, arith}
use Rattle.std.specs.List.{slice_get}
use Rattle.std.proofs.lemmas.List.{drop_more}
use Rattle.std.proofs.lemmas.Bool.{ne_eqb, le-ltb, lt-ltb, ltb-true, ltb-false, cases_lt}
use Rattle.stack.specs.Entries.{last_of}
use Rattle.values.specs.declared.cells.Value.{Value}
use Rattle.values.specs.declared.cells.Value.TheVariants as V
use Rattle.model.specs.declared.answers.Looked.{Looked}
use Rattle.model.specs.declared.answers.Refusal.TheVariants as R
use Rattle.model.specs.declared.registers.FreeList.{FreeList}
use Rattle.model.specs.Calls.{pushed, push, load, pdlget_from, pdlget, store_from, store, pdlput_into, pdlput_from, pdlput, popitem_from, popitem, looked, look_from, look, same, identical_from, identical, is_part, selected, select_from, select, written, clobbered, clobber_from, clobber, laid, created_in, create_from, create}
use Rattle.model.specs.Heap.{Heap, Done, granted, refused, at, part, with_list, with_roots}
use Rattle.model.specs.Words.{normal, normal_all, offered, offered_from, offered_all, takes, queued}
use Rattle.law.proofs.Slots.{Entry, e_some, e_none, entry_at}

-- ---- a value is pushed
pub data Push (v : Value) (h : Heap) : Done (Unit {0}) → Type 0 where
  push_full : ltb (length h.list) 256 ≡ false → Push v h (refused R.ListFull h)
  push_done : ltb (length h.list) 256 ≡ true → Push v h (granted tt (offered (normal h.mem v) (with_list (normal h.mem v ∷ h.list) h)))

pub push_way : (v : Value) (h : Heap) → Push v h (push v h)
push_way v h = go (ltb (length h.list) 256) refl
  where
    go : (b : Bool) → ltb (length h.list) 256 ≡ b → Push v h (pushed b (normal h.mem v) h)
    go true e = push_done e
    go false e = push_full e

pub data Load (r : ℕ) (h : Heap) : Done (Unit {0}) → Type 0 where
  load_range : ltb r 16 ≡ false → Load r h (refused R.OutOfRange h)
  load_push : {d : Done (Unit {0})} → ltb r 16 ≡ true → Push (get_or h.roots r V.Nil) h d → Load r h d

pub load_way : (r : ℕ) (h : Heap) → Load r h (load r h)
load_way r h = go (ltb r 16) refl
  where
    go : (b : Bool) → ltb r 16 ≡ b → Load r h (cond b (push (get_or h.roots r V.Nil) h) (refused R.OutOfRange h))
    go true e = load_push e (push_way (get_or h.roots r V.Nil) h)
    go false e = load_range e

pub data Pdlget (i : ℕ) (h : Heap) : Done (Unit {0}) → Type 0 where
  pdlget_few : length h.list ≤ i → Pdlget i h (refused R.TooFew h)
  pdlget_push : {d : Done (Unit {0})} → i < length h.list → Push (get_or h.list i V.Nil) h d → Pdlget i h d

pub pdlget_way : (i : ℕ) (h : Heap) → Pdlget i h (pdlget i h)
pdlget_way i h = go (entry_at h.list i)
  where
    go : {o : Option Value} → Entry h.list i o → Pdlget i h (pdlget_from o h)
    go (e_some l) = pdlget_push l (push_way (get_or h.list i V.Nil) h)
    go (e_none l) = pdlget_few l

-- ---- a value is popped
pub data Store (r : ℕ) (h : Heap) : Done (Unit {0}) → Type 0 where
  store_range : ltb r 16 ≡ false → Store r h (refused R.OutOfRange h)
  store_few : ltb r 16 ≡ true → h.list ≡ [] → Store r h (refused R.TooFew h)
  store_done : {v : Value} {st : List Value} → ltb r 16 ≡ true → h.list ≡ v ∷ st → Store r h (granted tt (offered (normal h.mem v) (with_roots (set h.roots r (normal h.mem v)) (with_list st h))))

pub store_way : (r : ℕ) (h : Heap) → Store r h (store r h)
store_way r h = go (ltb r 16) refl h.list refl
  where
    go : (b : Bool) → ltb r 16 ≡ b → (xs : List Value) → h.list ≡ xs → Store r h (cond b (store_from (slice_get xs 0) r h) (refused R.OutOfRange h))
    go false d xs e = store_range d
    go true d [] e = store_few d e
    go true d (v ∷ st) e = subst (λ (xs : List Value). Store r h (granted tt (offered (normal h.mem v) (with_roots (set h.roots r (normal h.mem v)) (with_list (drop 1 xs) h))))) (sym e) (store_done d e)

-- into the slot that was so far below the top
pub data Pdlput (h : Heap) : ℕ → Done (Unit {0}) → Type 0 where
  pdlput_range : Pdlput h 0 (refused R.OutOfRange h)
  pdlput_few : {i : ℕ} → length h.list ≤ suc i → Pdlput h (suc i) (refused R.TooFew h)
  pdlput_done : {i : ℕ} {v : Value} {st : List Value} → suc i < length h.list → h.list ≡ v ∷ st → Pdlput h (suc i) (granted tt (offered (normal h.mem v) (with_list (set st i (normal h.mem v)) h)))

pub pdlput_way : (i : ℕ) (h : Heap) → Pdlput h i (pdlput i h)
pdlput_way zero h = pdlput_range
pdlput_way (suc i) h = rw (ne_eqb (suc i) 0 (λ e. omega arith)) (go h.list refl)
  where
    into : {v : Value} {st : List Value} → h.list ≡ v ∷ st → (b : Bool) → ltb (suc i) (length h.list) ≡ b → Pdlput h (suc i) (pdlput_into b (suc i) (normal h.mem v) h)
    into e false d = pdlput_few (ltb-false (suc i) (length h.list) d)
    into {v} e true d = subst (λ (xs : List Value). Pdlput h (suc i) (granted tt (offered (normal h.mem v) (with_list (drop 1 (set xs (suc i) (normal h.mem v))) h)))) (sym e) (pdlput_done (ltb-true (suc i) (length h.list) d) e)

    go : (xs : List Value) → h.list ≡ xs → Pdlput h (suc i) (pdlput_from (slice_get xs 0) (suc i) h)
    go [] e = pdlput_few (rw e (omega arith))
    go (v ∷ st) e = into e (ltb (suc i) (length h.list)) refl

pub data Popitem (h : Heap) : Done (Unit {0}) → Type 0 where
  popitem_few : h.list ≡ [] → Popitem h (refused R.TooFew h)
  popitem_done : {v : Value} {st : List Value} → h.list ≡ v ∷ st → Popitem h (granted tt (with_list st h))

pub popitem_way : (h : Heap) → Popitem h (popitem h)
popitem_way h = go h.list refl
  where
    go : (xs : List Value) → h.list ≡ xs → Popitem h (popitem_from (slice_get xs 0) h)
    go [] e = popitem_few e
    go (v ∷ st) e = subst (λ (xs : List Value). Popitem h (granted tt (with_list (drop 1 xs) h))) (sym e) (popitem_done e)

-- ---- a question
pub data Look (h : Heap) : Done Looked → Type 0 where
  look_few : h.list ≡ [] → Look h (refused R.TooFew h)
  look_done : {v : Value} {st : List Value} → h.list ≡ v ∷ st → Look h (granted (looked v) h)

pub look_way : (h : Heap) → Look h (look h)
look_way h = go h.list refl
  where
    go : (xs : List Value) → h.list ≡ xs → Look h (look_from (slice_get xs 0) h)
    go [] e = look_few e
    go (v ∷ st) e = look_done e

pub data Identical (h : Heap) : Done Bool → Type 0 where
  identical_few : length h.list < 2 → Identical h (refused R.TooFew h)
  identical_done : {x y : Value} {st : List Value} → h.list ≡ y ∷ (x ∷ st) → Identical h (granted (same (normal h.mem x) (normal h.mem y)) (with_list st h))

pub identical_way : (h : Heap) → Identical h (identical h)
identical_way h = go h.list refl
  where
    go : (xs : List Value) → h.list ≡ xs → Identical h (identical_from (last_of 2 xs) h)
    go [] e = identical_few (rw e (omega arith))
    go (y ∷ []) e = identical_few (rw e (omega arith))
    go (y ∷ (x ∷ st)) e = rw (le-ltb (length (y ∷ (x ∷ st))) 2 (omega arith)) (subst (λ (xs : List Value). Identical h (granted (same (normal h.mem x) (normal h.mem y)) (with_list (drop 2 xs) h))) (sym e) (identical_done e))

-- ---- a component of a cell
pub data Select (j : ℕ) (h : Heap) : Done (Unit {0}) → Type 0 where
  select_range : is_part j h ≡ false → Select j h (refused R.OutOfRange h)
  select_few : is_part j h ≡ true → h.list ≡ [] → Select j h (refused R.TooFew h)
  select_other : {v : Value} {st : List Value} → is_part j h ≡ true → h.list ≡ v ∷ st → ((p : ℕ) → normal h.mem v ≡ V.Cell p → ⊥) → Select j h (refused R.NotACell h)
  select_done : {v : Value} {st : List Value} {p : ℕ} → is_part j h ≡ true → h.list ≡ v ∷ st → normal h.mem v ≡ V.Cell p
      → Select j h (granted tt (offered (normal h.mem (part (at h.mem p) (j - 1))) (with_list (normal h.mem (part (at h.mem p) (j - 1)) ∷ st) h)))

pub select_way : (j : ℕ) (h : Heap) → Select j h (select j h)
select_way j h = go (is_part j h) refl h.list refl
  where
    cell : {v : Value} {st : List Value} → is_part j h ≡ true → h.list ≡ v ∷ st → (x : Value) → normal h.mem v ≡ x → Select j h (selected x j h)
    cell b e V.Nil d = select_other b e (λ p l. let z : ◌≡◌ {A = ℕ} 0 1 = cc in omega arith)
    cell b e (V.Number x) d = select_other b e (λ p l. let z : ◌≡◌ {A = ℕ} 0 1 = cc in omega arith)
    cell {v} b e (V.Cell p) d =
        let w = normal h.mem (part (at h.mem p) (j - 1)) in
        subst (λ (xs : List Value). Select j h (granted tt (offered w (with_list (set xs 0 w) h)))) (sym e) (select_done b e d)

    go : (b : Bool) → is_part j h ≡ b → (xs : List Value) → h.list ≡ xs → Select j h (cond b (select_from (slice_get xs 0) j h) (refused R.OutOfRange h))
    go false d xs e = select_range d
    go true d [] e = select_few d e
    go true d (v ∷ st) e = cell d e (normal h.mem v) refl

pub data Clobber (j : ℕ) (h : Heap) : Done (Unit {0}) → Type 0 where
  clobber_range : is_part j h ≡ false → Clobber j h (refused R.OutOfRange h)
  clobber_few : is_part j h ≡ true → length h.list < 2 → Clobber j h (refused R.TooFew h)
  clobber_other : {v c : Value} {st : List Value} → is_part j h ≡ true → h.list ≡ v ∷ (c ∷ st) → ((p : ℕ) → normal h.mem c ≡ V.Cell p → ⊥) → Clobber j h (refused R.NotACell h)
  clobber_done : {v c : Value} {st : List Value} {p : ℕ} → is_part j h ≡ true → h.list ≡ v ∷ (c ∷ st) → normal h.mem c ≡ V.Cell p
      → Clobber j h (granted tt (written p (j - 1) (normal h.mem v) (offered (normal h.mem v) (with_list st h))))

pub clobber_way : (j : ℕ) (h : Heap) → Clobber j h (clobber j h)
clobber_way j h = go (is_part j h) refl h.list refl
  where
    cell : {v c : Value} {st : List Value} → is_part j h ≡ true → h.list ≡ v ∷ (c ∷ st) → (x : Value) → normal h.mem c ≡ x → Clobber j h (clobbered x j (normal h.mem v) h)
    cell b e V.Nil d = clobber_other b e (λ p l. let z : ◌≡◌ {A = ℕ} 0 1 = cc in omega arith)
    cell b e (V.Number x) d = clobber_other b e (λ p l. let z : ◌≡◌ {A = ℕ} 0 1 = cc in omega arith)
    cell {v} b e (V.Cell p) d = subst (λ (xs : List Value). Clobber j h (granted tt (written p (j - 1) (normal h.mem v) (offered (normal h.mem v) (with_list (drop 2 xs) h))))) (sym e) (clobber_done b e d)

    go : (b : Bool) → is_part j h ≡ b → (xs : List Value) → h.list ≡ xs → Clobber j h (cond b (clobber_from (last_of 2 xs) j h) (refused R.OutOfRange h))
    go false d xs e = clobber_range d
    go true d [] e = clobber_few d (rw e (omega arith))
    go true d (v ∷ []) e = clobber_few d (rw e (omega arith))
    go true d (v ∷ (c ∷ st)) e = rw (le-ltb (length (v ∷ (c ∷ st))) 2 (omega arith)) (cell d e (normal h.mem c) refl)

-- ---- create
-- an offer does not look at the list
offered_beside : (v : Value) (st : List Value) (h : Heap) → offered v (with_list st h) ≡ with_list st (offered v h)
offered_beside V.Nil st h = refl
offered_beside (V.Number x) st h = refl
offered_beside (V.Cell p) st h = go (takes p h)
  where
    go : (b : Bool) → cond b (queued p (with_list st h)) (with_list st h) ≡ with_list st (cond b (queued p h) h)
    go true = refl
    go false = refl

offered_from_beside : (n i : ℕ) (vs st : List Value) (h : Heap) → offered_from n i vs (with_list st h) ≡ with_list st (offered_from n i vs h)
offered_from_beside zero i vs st h = refl
offered_from_beside (suc n) i vs st h = ap (offered_from n (i + 1) vs) (offered_beside (get_or vs i V.Nil) st h) ∙ offered_from_beside n (i + 1) vs st (offered (get_or vs i V.Nil) h)

-- the top n give way to v
topped_list : (n : ℕ) (v : Value) (xs : List Value) → 1 ≤ n → n ≤ length xs → set (drop (n - 1) xs) 0 v ≡ v ∷ drop n xs
topped_list n v xs a b =
    let e : n - 1 + 1 ≡ n = omega arith in
    ap (λ (ys : List Value). set ys 0 v) (drop_more xs (n - 1) V.Nil (omega arith)) ∙ rw e

-- the components are offered over the list as it was, and then the new cell takes their place
pub data Create (h : Heap) : Done (Unit {0}) → Type 0 where
  create_few : length h.list < h.mem.width → Create h (refused R.TooFew h)
  create_full : h.mem.width ≤ length h.list → h.free ≡ None → Create h (refused R.NoSpace h)
  create_done : {f : FreeList} {vs : List Value} → h.mem.width ≤ length h.list → h.free ≡ Some f → vs ≡ normal_all h.mem (reverse (take h.mem.width h.list))
      → Create h (granted tt (laid f vs (with_list (V.Cell f.first ∷ drop h.mem.width h.list) (offered_from h.mem.width 0 vs h))))

pub create_way : (h : Heap) → 1 ≤ h.mem.width → Create h (create h)
create_way h one = go (cases_lt (length h.list) h.mem.width)
  where
    vs : List Value
    vs = normal_all h.mem (reverse (take h.mem.width h.list))

    room : h.mem.width ≤ length h.list → (o : Option FreeList) → h.free ≡ o → Create h (created_in o vs h)
    room l None e = create_full l e
    room l (Some f) e =
        let t = topped_list h.mem.width (V.Cell f.first) h.list one l in
        subst (λ (xs : List Value). Create h (granted tt (laid f vs (offered_all vs (with_list xs h))))) (sym t)
        (subst (λ (x : Heap). Create h (granted tt (laid f vs x))) (sym (offered_from_beside h.mem.width 0 vs (V.Cell f.first ∷ drop h.mem.width h.list) h)) (create_done l e refl))

    go : (length h.list < h.mem.width) ⊎ (h.mem.width ≤ length h.list) → Create h (create_from (last_of h.mem.width h.list) h)
    go (inl l) = rw (lt-ltb (length h.list) h.mem.width l) (create_few l)
    go (inr l) = rw (le-ltb (length h.list) h.mem.width l) (room l h.free refl)
