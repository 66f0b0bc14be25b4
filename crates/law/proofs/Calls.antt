-- Each list call other than create keeps the invariant and answers as the reference heap does.
use Rattle.std.proofs.Common.{◌≡◌, ℕ, suc, ◌-◌, ◌<◌, ◌≤◌, Bool, eqb, leb, ◌⊎◌, List, [], ◌∷◌, length, get_or, set, Ok, Option, sym, refl, ap, ◌∙◌, subst, inl, inr, arith, length-set, get_or-set_other}
use lib.Ieee.{Float}
use Rattle.std.specs.List.{slice_get}
use Rattle.std.proofs.lemmas.Option.{slice_get-get_or, slice_get_past}
use Rattle.std.proofs.lemmas.Bool.{cases_eq, true≢false, eq-eqb, ne_eqb, and_parts, ltb-true, leb-true, lt-ltb, le-ltb}
use Rattle.values.specs.Cells.{kind}
use Rattle.values.specs.declared.cells.Cell.{Cell}
use Rattle.values.specs.declared.cells.Kind.{Kind}
use Rattle.values.specs.declared.cells.Kind.TheVariants as K
use Rattle.values.specs.declared.cells.Value.{Value}
use Rattle.values.specs.declared.cells.Value.TheVariants as V
use Rattle.model.specs.declared.answers.Answer.{Answer}
use Rattle.model.specs.declared.answers.Answer.TheVariants as A
use Rattle.model.specs.declared.answers.Looked.{Looked}
use Rattle.model.specs.declared.answers.Refusal.TheVariants as R
use Rattle.model.specs.declared.registers.FreeList.{FreeList}
use Rattle.model.specs.declared.registers.Phase.{Phase}
use Rattle.model.specs.Calls.{looked, same, written as write}
use Rattle.model.specs.Every.{done}
use Rattle.model.specs.Heap.{Heap, Mem, Done, granted, refused, at, put, part, with_list, with_roots}
use Rattle.model.specs.Words.{with_part, normal, offered}
use Rattle.law.specs.Reference.{Reference, Told, entry, replaced, answers, refuses, push, load, store_in, store, select_at, select_in, select, clobber_at, clobber_in, clobber, identical_in, look_in, popitem_in, pdlget_of, pdlput_in, pdlput}
use Rattle.law.proofs.CallViews.{Push, push_full, push_done, Load, load_range, load_push, Pdlget, pdlget_few, pdlget_push, Store, store_range, store_few, store_done, Pdlput, pdlput_range, pdlput_few, pdlput_done, Popitem, popitem_few, popitem_done, Look, look_few, look_done, Identical, identical_few, identical_done, Select, select_range, select_few, select_other, select_done, Clobber, clobber_range, clobber_few, clobber_other, clobber_done}
use Rattle.law.proofs.Free.{vacancy_put}
use Rattle.law.proofs.Give.{Given, give}
use Rattle.law.proofs.Grey.{Grey}
use Rattle.law.proofs.Inv.{Settled, settled_nil, Grows, grows_new, grows_refl, grows_trans, RootDone, SlotDone, Inv, InvOf, kinds_alike, dark_alike}
use Rattle.law.proofs.Memory.{size, Written, here, there, written}
use Rattle.law.proofs.Rows.{Rows, r_none, r_more, rows_map, rows_at, rows_set, rows_length, get_or_set_P}
use Rattle.law.proofs.Sim.{Still, still_refl, Sim, sim_refused}
use Rattle.law.proofs.Slots.{slot, slot_pop, slot_push, slot_replace}
use Rattle.law.proofs.Values.{goodb, Ghost, Good, Means, v_nil, v_num, v_cell, v_moved, Stands, s_nil, s_num, s_cell, stands_V, V_normal, not_moved, good_free, Alike, alike_V, alike_good, clobber_alike, clobber_cells, made_replaced}
use Rattle.law.proofs.Words.{Shade, shaded, shade}

-- ---- what a call may put in place of the roots and the list

-- settled once v is offered
data Settles (ph : Phase) (m : Mem) (v : Value) : Value → Type 0 where
  before : {x : Value} → Settled ph m x → Settles ph m v x
  now : Settles ph m v v

settles : {ph : Phase} {m m' : Mem} {v x : Value} → Grows m m' → Settled ph m' v → Settles ph m v x → Settled ph m' x
settles G n (before s) = grows_new G s
settles G n now = n

-- roots rs and a list st that stand for kr and ks, and are settled once v is offered
record Changed (ph : Phase) (m : Mem) (own : Ghost) (v : Value) (rs st kr ks : List Value) : Type 0 where
  wide : length rs ≡ 16
  roots : Rows (Means ph m own) rs kr
  list : Rows (Means ph m own) st ks
  root_new : (i : ℕ) → RootDone ph i → Settles ph m v (get_or rs i V.Nil)
  slot_new : (i : ℕ) → SlotDone ph i → Settles ph m v (slot st i)

-- a list that stands for one of the reference heap, settled where the collector has been
pub record Over (ph : Phase) (m : Mem) (own : Ghost) (st ks : List Value) : Type 0 where
  pub rows : Rows (Means ph m own) st ks
  pub new : (i : ℕ) → SlotDone ph i → Settled ph m (slot st i)

-- such a list, with its top apart
pub data Top (ph : Phase) (m : Mem) (own : Ghost) : List Value → List Value → Type 0 where
  empty : Top ph m own [] []
  top : {v w : Value} {st ks : List Value} → Means ph m own v w → Over ph m own st ks → Top ph m own (v ∷ st) (w ∷ ks)

pub tops : {ph : Phase} {m : Mem} {own : Ghost} {st ks : List Value} → Over ph m own st ks → Top ph m own st ks
tops {ph} {m} {own} O = go O.rows O.new
  where
    go : {st ks : List Value} → Rows (Means ph m own) st ks → ((i : ℕ) → SlotDone ph i → Settled ph m (slot st i)) → Top ph m own st ks
    go r_none N = empty
    go (r_more {v} {vs = st} s R) N = top s (record { rows = R; new = λ i d. slot_pop (Settled ph m) v st i settled_nil (N i d) })

-- the roots and the list replaced, on both sides
module _ {ph : Phase} {D : ℕ → Kind → Type 0} {m : Mem} {g : List ℕ} {f : Option FreeList} {rs st : List Value} {own : Ghost} {k : Reference} where
  placed : {rs' st' kr ks : List Value} → Inv ph D m g f rs st own k → length rs' ≡ 16 → Rows (Means ph m own) rs' kr → ((i : ℕ) → RootDone ph i → Settled ph m (get_or rs' i V.Nil)) → Over ph m own st' ks
      → Inv ph D m g f rs' st' own (record { roots = kr; list = ks; cells = k.cells })
  placed I wide roots new O = record {
    cells = I.cells;
    roots = roots;
    list = O.rows;
    even = I.even;
    spare = I.spare;
    wide = wide;
    grey = I.grey;
    quiet = I.quiet;
    kinds = I.kinds;
    vacancy = I.vacancy;
    fair = I.fair;
    later = I.later;
    root_new = new;
    slot_new = O.new;
    part_new = I.part_new;
  }

  pub list_inv : {st' ks : List Value} → Inv ph D m g f rs st own k → Over ph m own st' ks → Inv ph D m g f rs st' own (record { roots = k.roots; list = ks; cells = k.cells })
  list_inv I O = placed I I.wide I.roots I.root_new O

-- .. after an offer
changed : {ph : Phase} {D : ℕ → Kind → Type 0} {m : Mem} {f : Option FreeList} {rs st : List Value} {own : Ghost} {k : Reference} {v : Value} {rs' st' kr ks : List Value} {m' : Mem} {g' : List ℕ}
    → Given ph D m f rs st own k v m' g' → Changed ph m own v rs' st' kr ks → Given ph D m f rs' st' own (record { roots = kr; list = ks; cells = k.cells }) v m' g'
changed {ph} {m = m} {own = own} {v = v} {m' = m'} G C = record {
  inv = placed G.inv C.wide (later C.roots) (λ i d. new (C.root_new i d)) (record { rows = later C.list; new = λ i d. new (C.slot_new i d) });
  new = G.new;
  grows = G.grows;
  same = G.same;
}
  where
    later : {xs ys : List Value} → Rows (Means ph m own) xs ys → Rows (Means ph m' own) xs ys
    later R = rows_map (λ _ _ x. alike_V G.grows.alike x) R

    new : {x : Value} → Settles ph m v x → Settled ph m' x
    new s = settles G.grows G.new s

-- the kinds and the sizes stay where memories are alike
still_alike : {h h' : Heap} → h'.phase ≡ h.phase → Alike h.mem h'.mem → (length h.list ≤ 256 → length h'.list ≤ 256) → Still h h'
still_alike e A short = record { phase = e; sizes = A.sizes; widths = A.widths; kinds = A.kinds; short = short }

-- ---- calls that push, store or pop
module _ (h : Heap) (own : Ghost) (k : Reference) (I : InvOf h own k) where
  abbrev Rel : Value → Value → Type 0
  Rel v w = Means h.phase h.mem own v w

  abbrev On : List Value → List Value → Type 0
  On st ks = Over h.phase h.mem own st ks

  -- the list, in the form that a view gives it
  over : {xs : List Value} → h.list ≡ xs → On xs k.list
  over e = subst (λ (xs : List Value). On xs k.list) e (record { rows = I.list; new = I.slot_new })

  -- v was offered over the roots rs and the list st
  sim_offered : {v w : Value} {rs st kr ks : List Value} {h₁ : Heap} → Stands h.phase h.mem own v w → Changed h.phase h.mem own v rs st kr ks → (length h.list ≤ 256 → length st ≤ 256)
      → Shade (with_roots rs (with_list st h)) v h₁ → Sim done h k (granted tt h₁) (answers A.Done (record { roots = kr; list = ks; cells = k.cells })) own
  sim_offered S C short (shaded O) =
      let G = changed (give h.phase I S O) C in
      record { says = refl; inv = G.inv; still = still_alike refl G.grows.alike short; same = refl; never = refl }

  -- .. and the roots are as they were
  sim_listed : {v w : Value} {st ks : List Value} → Stands h.phase h.mem own v w → Rows Rel st ks → ((i : ℕ) → SlotDone h.phase i → Settles h.phase h.mem v (slot st i)) → (length h.list ≤ 256 → length st ≤ 256)
      → Sim done h k (granted tt (offered v (with_list st h))) (answers A.Done (record { roots = k.roots; list = ks; cells = k.cells })) own
  sim_listed {v} {st = st} S R N short = sim_offered S (record { wide = I.wide; roots = I.roots; list = R; root_new = λ i d. before (I.root_new i d); slot_new = N }) short (shade v (with_list st h))

  -- the value v, normalised, goes on the list st
  sim_onto : {v w : Value} {st ks : List Value} → Rel v w → On st ks → (length h.list ≤ 256 → suc (length st) ≤ 256)
      → Sim done h k (granted tt (offered (normal h.mem v) (with_list (normal h.mem v ∷ st) h))) (answers A.Done (record { roots = k.roots; list = w ∷ ks; cells = k.cells })) own
  sim_onto {v} {st = st} s O short =
      let S = V_normal s in
      sim_listed S (r_more (stands_V S) O.rows) (λ i d. slot_push (Settles h.phase h.mem (normal h.mem v)) (normal h.mem v) st i now (before (O.new i d))) short

  pub sim_push : {v w : Value} {d : Done (Unit {0})} → Rel v w → Push v h d → Sim done h k d (push w k) own
  sim_push s (push_full e) = rw (← rows_length I.list, e) (sim_refused done h k own R.ListFull refl I)
  sim_push s (push_done e) = rw (← rows_length I.list, e) (sim_onto s (over refl) (λ _. omega (arith, ltb-true (length h.list) 256 e)))

  pub sim_load : (r : ℕ) {d : Done (Unit {0})} → Load r h d → Sim done h k d (load r k) own
  sim_load r (load_range e) = rw e (sim_refused done h k own R.OutOfRange refl I)
  sim_load r (load_push e P) = rw e (sim_push (rows_at r v_nil I.roots) P)

  pub sim_pdlget : (i : ℕ) {d : Done (Unit {0})} → Pdlget i h d → Sim done h k d (pdlget_of (slice_get k.list i) k) own
  sim_pdlget i (pdlget_few l) = rw (slice_get_past k.list i (rw (rows_length I.list) at l)) (sim_refused done h k own R.TooFew refl I)
  sim_pdlget i (pdlget_push l P) = rw (slice_get-get_or k.list i V.Nil (rw (rows_length I.list) at l)) (sim_push (rows_at i v_nil I.list) P)

  -- an empty list is so on both sides
  sim_few : {X : Type 0} (f : X → Answer) (t : List Value → Told) → t [] ≡ refuses R.TooFew k → h.list ≡ [] → Sim f h k (refused R.TooFew h) (t k.list) own
  sim_few f t e z = go (tops (over z))
    where
      go : {ks : List Value} → Top h.phase h.mem own [] ks → Sim f h k (refused R.TooFew h) (t ks) own
      go empty = rw e (sim_refused f h k own R.TooFew refl I)

  pub sim_store : (r : ℕ) {d : Done (Unit {0})} → Store r h d → Sim done h k d (store r k) own
  sim_store r (store_range e) = rw e (sim_refused done h k own R.OutOfRange refl I)
  sim_store r (store_few e z) = rw e (sim_few done (λ ks. store_in r ks k) refl z)
  sim_store r (store_done {v} {st} e z) = rw e (go (tops (over z)))
    where
      x : Value
      x = normal h.mem v

      go : {ks : List Value} → Top h.phase h.mem own (v ∷ st) ks → Sim done h k (granted tt (offered x (with_roots (set h.roots r x) (with_list st h)))) (store_in r ks k) own
      go (top {w} s O) =
          let S = V_normal s in
          let C : Changed h.phase h.mem own x (set h.roots r x) st (set k.roots r w) _ = record {
            wide = length-set h.roots r x ∙ I.wide;
            roots = rows_set r x w (stands_V S) I.roots;
            list = O.rows;
            root_new = λ i d. get_or_set_P (Settles h.phase h.mem x) x h.roots r i now (before (I.root_new i d));
            slot_new = λ i d. before (O.new i d);
          } in
          sim_offered S C (λ l. omega (arith, ap length z)) (shade x (with_roots (set h.roots r x) (with_list st h)))

  pub sim_pdlput : {i : ℕ} {d : Done (Unit {0})} → Pdlput h i d → Sim done h k d (pdlput i k) own
  sim_pdlput pdlput_range = sim_refused done h k own R.OutOfRange refl I
  sim_pdlput (pdlput_few {i} l) = rw (ne_eqb (suc i) 0 (λ e. omega arith)) (go k.list (rw (rows_length I.list) at l))
    where
      go : (ks : List Value) → length ks ≤ suc i → Sim done h k (refused R.TooFew h) (pdlput_in (suc i) ks k) own
      go [] a = sim_refused done h k own R.TooFew refl I
      go (w ∷ ks) a = rw (le-ltb (suc i) (length (w ∷ ks)) a) (sim_refused done h k own R.TooFew refl I)
  sim_pdlput (pdlput_done {i} {v} {st} l z) = rw (ne_eqb (suc i) 0 (λ e. omega arith)) (go (tops (over z)) (rw (rows_length I.list) at l))
    where
      x : Value
      x = normal h.mem v

      go : {ks : List Value} → Top h.phase h.mem own (v ∷ st) ks → suc i < length ks → Sim done h k (granted tt (offered x (with_list (set st i x) h))) (pdlput_in (suc i) ks k) own
      go (top {w} {ks = ks} s O) a =
          let S = V_normal s in
          let e : suc i - 1 ≡ i = omega arith in
          rw (lt-ltb (suc i) (length (w ∷ ks)) a, e)
          (sim_listed S (rows_set i x w (stands_V S) O.rows) (λ j d. slot_replace (Settles h.phase h.mem x) x st i j (before settled_nil) now (before (O.new j d))) (λ b. omega (arith, ap length z, length-set st i x)))

  -- ---- calls that offer nothing
  sim_plain : {X : Type 0} (f : X → Answer) (a : X) {b : Answer} {st ks : List Value} → f a ≡ b → On st ks → (length h.list ≤ 256 → length st ≤ 256) → Sim f h k (granted a (with_list st h)) (answers b (record { roots = k.roots; list = ks; cells = k.cells })) own
  sim_plain f a e O short = record { says = ap Ok e; inv = list_inv I O; still = still_alike refl grows_refl.alike short; same = refl; never = refl }

  pub sim_popitem : {d : Done (Unit {0})} → Popitem h d → Sim done h k d (popitem_in k.list k) own
  sim_popitem (popitem_few z) = sim_few done (λ ks. popitem_in ks k) refl z
  sim_popitem (popitem_done {v} {st} z) = go (tops (over z))
    where
      go : {ks : List Value} → Top h.phase h.mem own (v ∷ st) ks → Sim done h k (granted tt (with_list st h)) (popitem_in ks k) own
      go (top s O) = sim_plain done tt refl O (λ l. omega (arith, ap length z))

  looked_as : {v w : Value} → Rel v w → looked v ≡ looked w
  looked_as v_nil = refl
  looked_as v_num = refl
  looked_as (v_cell l g e) = refl
  looked_as (v_moved a f l g e) = refl

  pub sim_look : {d : Done Looked} → Look h d → Sim A.Look h k d (look_in k.list k) own
  sim_look (look_few z) = sim_few A.Look (λ ks. look_in ks k) refl z
  sim_look (look_done {v} {st} z) = go (tops (over z))
    where
      go : {ks : List Value} → Top h.phase h.mem own (v ∷ st) ks → Sim A.Look h k (granted (looked v) h) (look_in ks k) own
      go (top s O) = record { says = ap (λ (l : Looked). Ok (A.Look l)) (looked_as s); inv = I; still = still_refl; same = refl; never = refl }

  same_as : {x y x' y' : Value} → Stands h.phase h.mem own x x' → Stands h.phase h.mem own y y' → same x y ≡ same x' y'
  same_as s_nil s_nil = refl
  same_as s_nil s_num = refl
  same_as s_nil (s_cell l g e) = refl
  same_as s_num s_nil = refl
  same_as s_num s_num = refl
  same_as s_num (s_cell l g e) = refl
  same_as (s_cell l g e) s_nil = refl
  same_as (s_cell l g e) s_num = refl
  same_as (s_cell {p} {b} l g e) (s_cell {p = q} {b = c} l' g' e') = go (cases_eq p q)
    where
      go : (p ≡ q) ⊎ (p ≡ q → ⊥) → eqb p q ≡ eqb b c
      go (inl i) = eq-eqb p q i ∙ sym (eq-eqb b c (sym e ∙ ap own.to i ∙ e'))
      go (inr n) = ne_eqb p q n ∙ sym (ne_eqb b c (λ i. n (I.cells.apart p q l l' g g' (e ∙ i ∙ sym e'))))

  -- a list of fewer than two is so on both sides
  sim_few_two : {X : Type 0} (f : X → Answer) (t : List Value → Told) → t [] ≡ refuses R.TooFew k → ((w : Value) → t (w ∷ []) ≡ refuses R.TooFew k) → length h.list < 2 → Sim f h k (refused R.TooFew h) (t k.list) own
  sim_few_two f t e₀ e₁ l = go k.list (rw (rows_length I.list) at l)
    where
      go : (ks : List Value) → length ks < 2 → Sim f h k (refused R.TooFew h) (t ks) own
      go [] a = rw e₀ (sim_refused f h k own R.TooFew refl I)
      go (w ∷ []) a = rw (e₁ w) (sim_refused f h k own R.TooFew refl I)
      go (w ∷ (x ∷ ks)) a = absurd (omega arith)

  pub sim_identical : {d : Done Bool} → Identical h d → Sim A.Same h k d (identical_in k.list k) own
  sim_identical (identical_few l) = sim_few_two A.Same (λ ks. identical_in ks k) refl (λ w. refl) l
  sim_identical (identical_done {x} {y} {st} z) = go (tops (over z))
    where
      answer : Bool
      answer = same (normal h.mem x) (normal h.mem y)

      next : {w : Value} {ks : List Value} → Rel y w → Top h.phase h.mem own (x ∷ st) ks → Sim A.Same h k (granted answer (with_list st h)) (identical_in (w ∷ ks) k) own
      next s (top s' O) = sim_plain A.Same answer (ap A.Same (same_as (V_normal s') (V_normal s))) O (λ l. omega (arith, ap length z))

      go : {ks : List Value} → Top h.phase h.mem own (y ∷ (x ∷ st)) ks → Sim A.Same h k (granted answer (with_list st h)) (identical_in ks k) own
      go (top s O) = next s (tops O)

  -- ---- calls on a component of a cell

  -- what is no cell is none on either side
  sim_other : {v w : Value} (t : Value → Told) → t V.Nil ≡ refuses R.NotACell k → ((x : Float) → t (V.Number x) ≡ refuses R.NotACell k) → ((p : ℕ) → normal h.mem v ≡ V.Cell p → ⊥) → Rel v w → Sim done h k (refused R.NotACell h) (t w) own
  sim_other {v} t e₀ e₁ n s = go (normal h.mem v) refl (V_normal s)
    where
      go : (x : Value) → normal h.mem v ≡ x → {w : Value} → Stands h.phase h.mem own x w → Sim done h k (refused R.NotACell h) (t w) own
      go x d s_nil = rw e₀ (sim_refused done h k own R.NotACell refl I)
      go x d (s_num {x = a}) = rw (e₁ a) (sim_refused done h k own R.NotACell refl I)
      go x d (s_cell {p} l g i) = absurd (n p d)

  pub sim_select : (j : ℕ) {d : Done (Unit {0})} → Select j h d → Sim done h k d (select h.mem.width j k) own
  sim_select j (select_range e) = rw e (sim_refused done h k own R.OutOfRange refl I)
  sim_select j (select_few e z) = rw e (sim_few done (λ ks. select_in (j - 1) ks k) refl z)
  sim_select j (select_other {v} {st} e z n) = rw e (go (tops (over z)))
    where
      go : {ks : List Value} → Top h.phase h.mem own (v ∷ st) ks → Sim done h k (refused R.NotACell h) (select_in (j - 1) ks k) own
      go (top {ks = ks} s O) = sim_other (λ w. select_at w (j - 1) ks k) refl (λ x. refl) n s
  sim_select j (select_done {v} {st} {p} e z d) = rw e (go (tops (over z)))
    where
      x : Value
      x = part (at h.mem p) (j - 1)

      at_cell : {w : Value} {ks : List Value} → Stands h.phase h.mem own (V.Cell p) w → On st ks → Sim done h k (granted tt (offered (normal h.mem x) (with_list (normal h.mem x ∷ st) h))) (select_at w (j - 1) ks k) own
      at_cell (s_cell l g i) O = rw (← i) (sim_onto (I.cells.parts p l g (j - 1)) O (λ l. omega (arith, ap length z)))

      go : {ks : List Value} → Top h.phase h.mem own (v ∷ st) ks → Sim done h k (granted tt (offered (normal h.mem x) (with_list (normal h.mem x ∷ st) h))) (select_in (j - 1) ks k) own
      go (top s O) = at_cell (rw d at (V_normal s)) O

-- ---- a component is written on both sides
grey_alike : {m m' : Mem} {g : List ℕ} → Alike m m' → ((q : ℕ) → (at m' q).waiting ≡ (at m q).waiting) → Grey m g → Grey m' g
grey_alike A W G = record {
  distinct = G.distinct;
  each = λ p i. (rw A.sizes (G.each p i).0, A.kinds p ∙ (G.each p i).1, W p ∙ (G.each p i).2);
  all = λ p l e. G.all p (rw A.sizes at l) (sym (W p) ∙ e);
}

module _ {ph : Phase} {D : ℕ → Kind → Type 0} {m : Mem} {g : List ℕ} {f : Option FreeList} {rs st : List Value} {own : Ghost} {k : Reference} (I : Inv ph D m g f rs st own k) (p i : ℕ) {v w : Value} (wi : i < m.width) (l : p < size m) (G : Good ph m own p) (s : Means ph m own v w) (n : Settled ph m v) where
  abbrev c' : Cell
  c' = with_part i v (at m p)

  abbrev m' : Mem
  m' = put m p c'

  like : Alike m m'
  like = clobber_alike m p i v l (not_moved ph m p G)

  view : (q : ℕ) → Written m p c' q
  view q = written m p c' q l

  waits : (q : ℕ) → (at m' q).waiting ≡ (at m q).waiting
  waits q = go (view q)
    where
      go : Written m p c' q → (at m' q).waiting ≡ (at m q).waiting
      go (here e a) = rw (a, e)
      go (there d a) = rw a

  clobber_grows : Grows m m'
  clobber_grows = record { alike = like; waits = λ q e. waits q ∙ e }

  not_free : kind (at m p) ≡ K.Free → ⊥
  not_free e = true≢false (sym G.is ∙ ap (goodb ph p) e ∙ good_free ph p)

  part_new' : (q : ℕ) → q < size m → D q (kind (at m q)) → (j : ℕ) → Written m p c' q → Settled ph m' (part (at m' q) j)
  part_new' q b d j (here e a) = rw a (get_or_set_P (Settled ph m') v (at m p).parts i j (grows_new clobber_grows n) (grows_new clobber_grows (I.part_new p l (rw e at d) j)))
  part_new' q b d j (there _ a) = rw a (grows_new clobber_grows (I.part_new q b d j))

  spare' : (q : ℕ) → q < size m → (j : ℕ) → m.width ≤ j → Written m p c' q → part (at m' q) j ≡ V.Nil
  spare' q b j x (here e a) = rw (a, get_or-set_other (at m p).parts i j v V.Nil (λ y. omega arith)) (I.spare p l j x)
  spare' q b j x (there _ a) = rw a (I.spare q b j x)

  clobber_inv : Inv ph D m' g f rs st own (record { roots = k.roots; list = k.list; cells = replaced k.cells (own.to p) (set (entry k.cells (own.to p)) i w) })
  clobber_inv = record {
    cells = clobber_cells I.cells p i wi (I.even p l) l G s;
    roots = rows_map (λ _ _ x. alike_V like x) I.roots;
    list = rows_map (λ _ _ x. alike_V like x) I.list;
    even = λ q b. rw (like.lengths q) (I.even q (rw like.sizes at b));
    spare = λ q b j a. spare' q (rw like.sizes at b) j a (view q);
    wide = I.wide;
    grey = grey_alike like waits I.grey;
    quiet = I.quiet;
    kinds = kinds_alike ph like I.kinds;
    vacancy = vacancy_put p c' l not_free not_free I.vacancy;
    fair = λ q a d. I.fair q (rw like.sizes at a) (dark_alike ph like waits q d);
    later = λ b a. I.later b (rw made_replaced at a);
    root_new = λ j d. grows_new clobber_grows (I.root_new j d);
    slot_new = λ j d. grows_new clobber_grows (I.slot_new j d);
    part_new = λ q b d j. part_new' q (rw like.sizes at b) (rw (like.kinds q) at d) j (view q);
  }

module _ (h : Heap) (own : Ghost) (k : Reference) (I : InvOf h own k) (j : ℕ) where
  -- the value v, normalised, is offered over what is left of the list, and written
  sim_written : {v w : Value} {st ks : List Value} (p b : ℕ) → j - 1 < h.mem.width → Means h.phase h.mem own v w → Over h.phase h.mem own st ks → (length h.list ≤ 256 → length st ≤ 256)
      → p < size h.mem → Good h.phase h.mem own p → own.to p ≡ b → {h₁ : Heap} → Shade (with_list st h) (normal h.mem v) h₁
      → Sim done h k (granted tt (write p (j - 1) (normal h.mem v) h₁)) (clobber_at (V.Cell b) w (j - 1) ks k) own
  sim_written p b wi s L short l g e (shaded {m} O) =
      let S = V_normal s in
      let G = give h.phase I S O in
      let A = G.grows.alike in
      let J = list_inv G.inv (record { rows = rows_map (λ _ _ x. alike_V A x) L.rows; new = λ i d. grows_new G.grows (L.new i d) }) in
      let wi' : j - 1 < m.width = rw A.widths wi in
      let l' : p < size m = rw A.sizes l in
      let g' = alike_good A g in
      let s' = alike_V A (stands_V S) in
      record {
        says = refl;
        inv = rw (← e) (clobber_inv J p (j - 1) wi' l' g' s' G.new);
        still = still_alike refl (grows_trans G.grows (clobber_grows J p (j - 1) wi' l' g' s' G.new)).alike short;
        same = made_replaced k.cells b (set (entry k.cells b) (j - 1) _);
        never = refl;
      }

  pub sim_clobber : {d : Done (Unit {0})} → Clobber j h d → Sim done h k d (clobber h.mem.width j k) own
  sim_clobber (clobber_range e) = rw e (sim_refused done h k own R.OutOfRange refl I)
  sim_clobber (clobber_few e l) = rw e (sim_few_two h own k I done (λ ks. clobber_in (j - 1) ks k) refl (λ w. refl) l)
  sim_clobber (clobber_other {v} {c} {st} e z n) = rw e (go (tops (over h own k I z)))
    where
      next : (w : Value) {ks : List Value} → Top h.phase h.mem own (c ∷ st) ks → Sim done h k (refused R.NotACell h) (clobber_in (j - 1) (w ∷ ks) k) own
      next w (top {ks = ks} s O) = sim_other h own k I (λ x. clobber_at x w (j - 1) ks k) refl (λ x. refl) n s

      go : {ks : List Value} → Top h.phase h.mem own (v ∷ (c ∷ st)) ks → Sim done h k (refused R.NotACell h) (clobber_in (j - 1) ks k) own
      go (top {w} s O) = next w (tops O)
  sim_clobber (clobber_done {v} {c} {st} {p} e z d) = rw e (go (tops (over h own k I z)))
    where
      wi : j - 1 < h.mem.width
      wi = let a = and_parts (leb 1 j) (leb j h.mem.width) e in omega (arith, leb-true 1 j a.0, leb-true j h.mem.width a.1)

      x : Value
      x = normal h.mem v

      at_cell : {y w : Value} {ks : List Value} → Means h.phase h.mem own v w → Over h.phase h.mem own st ks → Stands h.phase h.mem own (V.Cell p) y → Sim done h k (granted tt (write p (j - 1) x (offered x (with_list st h)))) (clobber_at y w (j - 1) ks k) own
      at_cell s O (s_cell {b = b} l g i) = sim_written p b wi s O (λ a. omega (arith, ap length z)) l g i (shade x (with_list st h))

      next : {w : Value} {ks : List Value} → Means h.phase h.mem own v w → Top h.phase h.mem own (c ∷ st) ks → Sim done h k (granted tt (write p (j - 1) x (offered x (with_list st h)))) (clobber_in (j - 1) (w ∷ ks) k) own
      next s (top s' O) = at_cell s O (rw d at (V_normal s'))

      go : {ks : List Value} → Top h.phase h.mem own (v ∷ (c ∷ st)) ks → Sim done h k (granted tt (write p (j - 1) x (offered x (with_list st h)))) (clobber_in (j - 1) ks k) own
      go (top s O) = next s (tops O)
