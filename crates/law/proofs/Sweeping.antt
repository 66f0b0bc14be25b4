-- The steps of the reclaim phase keep the invariant.
use Rattle.std.proofs.Common.{◌≡◌, ℕ, zero, suc, ◌+◌, ◌<◌, ◌≤◌, Bool, true, false, cond, ltb, ◌⊎◌, List, Some, Option, sym, refl, ap, ◌∙◌, inl, inr, arith}
use Rattle.std.proofs.lemmas.Bool.{cases_eq, cases_lt, true≢false, lt-ltb, le-ltb}
use Rattle.values.specs.Cells.{kind}
use Rattle.values.specs.declared.cells.Cell.{Cell}
use Rattle.values.specs.declared.cells.Kind.{Kind}
use Rattle.values.specs.declared.cells.Kind.TheVariants as K
use Rattle.values.specs.declared.cells.Value.{Value}
use Rattle.values.specs.declared.cells.Value.TheVariants as V
use Rattle.model.specs.declared.registers.FreeList.{FreeList}
use Rattle.model.specs.declared.registers.Phase.TheVariants as P
use Rattle.model.specs.Heap.{Heap, Mem, at, put, part}
use Rattle.model.specs.Steps.{longer, linked}
use Rattle.model.specs.Words.{unmarked, last_free}
use Rattle.law.specs.Reference.{Reference}
use Rattle.law.proofs.Memory.{size, size_put, Written, here, there, written}
use Rattle.law.proofs.PlaceKinds.{is_plain, is_accessible, is_moved, unmarked_kind}
use Rattle.law.proofs.Rows.{rows_map}
use Rattle.law.proofs.Free.{Vacancy, vacancy_put}
use Rattle.law.proofs.Values.{goodb, Ghost, Good, good_free, Means, v_nil, v_num, v_cell, v_moved}
use Rattle.law.proofs.Inv.{Settled, settled_nil, settled_num, settled_cell, CellDone, Inv, InvOf}
use Rattle.law.proofs.Give.{InvAt}
use Rattle.law.proofs.Shapes.{Shaped, shaped, shaped_set}
use Rattle.law.proofs.Grey.{idle, idle_grey}
use Rattle.law.proofs.Returning.{Returned, this, last, other, returning, return_vacancy}
use Rattle.law.proofs.StepViews.{Reclaim, s_return, s_clear, s_pass, s_end}
use Rattle.law.proofs.Turning.{in_phase, turn, rows_with, slots_with}

-- ---- which places count as the cursor passes one
next_cursor : (q p : ℕ) (c : Kind) → (q ≡ p → ⊥) → goodb (P.Reclaim (p + 1)) q c ≡ goodb (P.Reclaim p) q c
next_cursor q p c n = go (cases_lt q p)
  where
    go : (q < p) ⊎ (p ≤ q) → cond (ltb q (p + 1)) (is_plain c) (is_accessible c) ≡ cond (ltb q p) (is_plain c) (is_accessible c)
    go (inl l) = rw (lt-ltb q p l, lt-ltb q (p + 1) (omega arith))
    go (inr l) = rw (le-ltb q p l, le-ltb q (p + 1) (omega arith))

at_cursor : (p : ℕ) (c : Kind) → goodb (P.Reclaim p) p c ≡ is_accessible c
at_cursor p c = rw (le-ltb p p (omega arith))

past_cursor : (p : ℕ) (c : Kind) → goodb (P.Reclaim (p + 1)) p c ≡ is_plain c
past_cursor p c = rw (lt-ltb p (p + 1) (omega arith))

not_accessible : (k : Kind) → (k ≡ K.Accessible → ⊥) → is_accessible k ≡ false
not_accessible K.Plain n = refl
not_accessible K.Accessible n = absurd (n refl)
not_accessible K.Moved n = refl
not_accessible K.Free n = refl

-- ---- a place is swept

-- a place that is free afterwards
record Vacated (m m' : Mem) (q : ℕ) : Type 0 where
  free : kind (at m' q) ≡ K.Free
  waits : (at m' q).waiting ≡ true → (at m q).waiting ≡ true
  shape : Shaped m.width (at m' q).parts

-- how a place reads when the place p was swept: a place that was free, or that is swept and was not accessible, is free
data Swept (m m' : Mem) (p q : ℕ) : Type 0 where
  w_other : (q ≡ p → ⊥) → at m' q ≡ at m q → Swept m m' p q
  w_clear : q ≡ p → kind (at m q) ≡ K.Accessible → at m' q ≡ unmarked (at m q) → Swept m m' p q
  w_free : (kind (at m q) ≡ K.Free) ⊎ ((q ≡ p) × (kind (at m q) ≡ K.Accessible → ⊥)) → Vacated m m' q → Swept m m' p q

-- the place p was swept, in one of three ways
record Sweeps (p : ℕ) (m m' : Mem) : Type 0 where
  sizes : size m' ≡ size m
  widths : m'.width ≡ m.width
  view : (q : ℕ) → Swept m m' p q

module _ {p : ℕ} {m m' : Mem} {g : List ℕ} {f f' : Option FreeList} {rs st : List Value} {own : Ghost} {k : Reference} (S : Sweeps p m m') (W : Vacancy m' f') (I : Inv (P.Reclaim p) (CellDone (P.Reclaim p)) m g f rs st own k) where
  inside : {q : ℕ} → q < size m' → q < size m
  inside x = rw S.sizes at x

  -- what is free afterwards did not count
  uncounted : (q : ℕ) → (kind (at m q) ≡ K.Free) ⊎ ((q ≡ p) × (kind (at m q) ≡ K.Accessible → ⊥)) → goodb (P.Reclaim p) q (kind (at m q)) ≡ false
  uncounted q (inl e) = rw e (good_free (P.Reclaim p) q)
  uncounted q (inr e) = ap (λ (j : ℕ). goodb (P.Reclaim p) j (kind (at m q))) e.0 ∙ at_cursor p (kind (at m q)) ∙ not_accessible (kind (at m q)) e.1

  forth : (q : ℕ) → goodb (P.Reclaim p) q (kind (at m q)) ≡ true → goodb (P.Reclaim (p + 1)) q (kind (at m' q)) ≡ true
  forth q c = go (S.view q)
    where
      go : Swept m m' p q → goodb (P.Reclaim (p + 1)) q (kind (at m' q)) ≡ true
      go (w_other n a) = rw a (next_cursor q p (kind (at m q)) n ∙ c)
      go (w_clear e b a) = rw (a, unmarked_kind (at m q) b, e) (past_cursor p K.Plain)
      go (w_free u V) = absurd (true≢false (sym c ∙ uncounted q u))

  -- what counts afterwards did so before, and has its components
  back : (q : ℕ) → goodb (P.Reclaim (p + 1)) q (kind (at m' q)) ≡ true → (goodb (P.Reclaim p) q (kind (at m q)) ≡ true) × ((at m' q).parts ≡ (at m q).parts)
  back q c = go (S.view q)
    where
      go : Swept m m' p q → (goodb (P.Reclaim p) q (kind (at m q)) ≡ true) × ((at m' q).parts ≡ (at m q).parts)
      go (w_other n a) = (sym (next_cursor q p (kind (at m q)) n) ∙ (rw a at c), rw a)
      go (w_clear e b a) = (rw (b, e) (at_cursor p K.Accessible), rw a)
      go (w_free u V) = absurd (true≢false (sym (rw V.free at c) ∙ good_free (P.Reclaim (p + 1)) q))

  still : (q : ℕ) → is_moved (kind (at m q)) ≡ false → is_moved (kind (at m' q)) ≡ false
  still q c = go (S.view q)
    where
      go : Swept m m' p q → is_moved (kind (at m' q)) ≡ false
      go (w_other n a) = rw a c
      go (w_clear e b a) = rw (a, unmarked_kind (at m q) b)
      go (w_free u V) = rw V.free

  waits : (q : ℕ) → (at m' q).waiting ≡ true → (at m q).waiting ≡ true
  waits q c = go (S.view q)
    where
      go : Swept m m' p q → (at m q).waiting ≡ true
      go (w_other n a) = rw a at c
      go (w_clear e b a) = rw a at c
      go (w_free u V) = V.waits c

  kinds : (q : ℕ) → q < size m → q < p + 1 → (kind (at m' q) ≡ K.Plain) ⊎ (kind (at m' q) ≡ K.Free)
  kinds q x c = go (S.view q)
    where
      go : Swept m m' p q → (kind (at m' q) ≡ K.Plain) ⊎ (kind (at m' q) ≡ K.Free)
      go (w_other n a) = rw a (I.kinds q x (omega arith))
      go (w_clear e b a) = inl (rw a (unmarked_kind (at m q) b))
      go (w_free u V) = inr V.free

  shape : (q : ℕ) → q < size m → Shaped m'.width (at m' q).parts
  shape q x = rw S.widths (go (S.view q))
    where
      go : Swept m m' p q → Shaped m.width (at m' q).parts
      go (w_other n a) = rw a (shaped I q x)
      go (w_clear e b a) = rw a (shaped I q x)
      go (w_free u V) = V.shape

  good : {q : ℕ} → Good (P.Reclaim (p + 1)) m' own q → Good (P.Reclaim p) m own q
  good {q} G = record { is = (back q G.is).0; allowed = G.allowed }

  sweep_means : {v x : Value} → Means (P.Reclaim p) m own v x → Settled (P.Reclaim p) m v → Means (P.Reclaim (p + 1)) m' own v x
  sweep_means v_nil n = v_nil
  sweep_means v_num n = v_num
  sweep_means (v_cell {p = q} l G e) n = v_cell (rw S.sizes l) (record { is = forth q G.is; allowed = G.allowed }) e
  sweep_means (v_moved c d l G e) (settled_cell s) = absurd (true≢false (sym (ap is_moved c) ∙ s))

  sweep_settled : {v : Value} → Settled (P.Reclaim p) m v → Settled (P.Reclaim (p + 1)) m' v
  sweep_settled settled_nil = settled_nil
  sweep_settled settled_num = settled_num
  sweep_settled (settled_cell {p = q} e) = settled_cell (still q e)

  sweep_inv : Inv (P.Reclaim (p + 1)) (CellDone (P.Reclaim (p + 1))) m' g f' rs st own k
  sweep_inv = record {
    cells = record {
      parts = λ q x G i. let H = good G in rw (back q G.is).1 (sweep_means (I.cells.parts q (inside x) H i) (I.part_new q (inside x) H.is i));
      full = λ q x G. rw S.widths (I.cells.full q (inside x) (good G));
      owned = λ q x G. I.cells.owned q (inside x) (good G);
      apart = λ q r x y G H e. I.cells.apart q r (inside x) (inside y) (good G) (good H) e;
    };
    roots = rows_map (λ _ _ t. sweep_means t.0 t.1) (rows_with (Settled (P.Reclaim p) m) I.roots (λ i l. I.root_new i tt));
    list = rows_map (λ _ _ t. sweep_means t.0 t.1) (slots_with (Settled (P.Reclaim p) m) I.list (λ i l. I.slot_new i tt));
    even = λ q x. (shape q (inside x)).even;
    spare = λ q x. (shape q (inside x)).spare;
    wide = I.wide;
    grey = idle_grey I.quiet (λ q x e. idle I.grey I.quiet q (inside x) (waits q e));
    quiet = I.quiet;
    kinds = λ q x c. kinds q (inside x) c;
    vacancy = W;
    fair = λ q x d. I.fair q (inside x) (back q d).0;
    later = I.later;
    root_new = λ i d. sweep_settled (I.root_new i tt);
    slot_new = λ i d. sweep_settled (I.slot_new i tt);
    part_new = λ q x d i. rw (back q d).1 (sweep_settled (I.part_new q (inside x) (back q d).0 i));
  }

-- ---- the three ways to sweep a place, and the end
last_shape : {w : ℕ} → w ≤ 2 → Shaped w last_free.parts
last_shape l = record { even = l; spare = λ i a. nil i }
  where
    nil : (i : ℕ) → part last_free i ≡ V.Nil
    nil zero = refl
    nil (suc zero) = refl
    nil (suc (suc i)) = refl

module _ {p : ℕ} {m : Mem} {g : List ℕ} {f : Option FreeList} {rs st : List Value} {own : Ghost} {k : Reference} (I : Inv (P.Reclaim p) (CellDone (P.Reclaim p)) m g f rs st own k) where
  sweep_clear : p < size m → kind (at m p) ≡ K.Accessible → Inv (P.Reclaim (p + 1)) (CellDone (P.Reclaim (p + 1))) (put m p (unmarked (at m p))) g f rs st own k
  sweep_clear l b = sweep_inv (record { sizes = size_put m p c; widths = refl; view = λ q. view q (written m p c q l) }) (vacancy_put p c l (λ e. grind arith) (λ e. grind (arith, unmarked_kind (at m p) b)) I.vacancy) I
    where
      c : Cell
      c = unmarked (at m p)

      view : (q : ℕ) → Written m p c q → Swept m (put m p c) p q
      view q (here e a) = w_clear e (rw e b) (rw (a, e))
      view q (there n a) = w_other n a

  sweep_pass : p < size m → kind (at m p) ≡ K.Free → Inv (P.Reclaim (p + 1)) (CellDone (P.Reclaim (p + 1))) m g f rs st own k
  sweep_pass l b = sweep_inv (record { sizes = refl; widths = refl; view = λ q. view q (cases_eq q p) }) I.vacancy I
    where
      view : (q : ℕ) → (q ≡ p) ⊎ (q ≡ p → ⊥) → Swept m m p q
      view q (inl e) = w_free (inl (rw e b)) (record { free = rw e b; waits = λ t. t; shape = rw e (shaped I p l) })
      view q (inr n) = w_other n refl

  sweep_return : 1 ≤ m.width → m.width ≤ 2 → p < size m → (kind (at m p) ≡ K.Accessible → ⊥) → (kind (at m p) ≡ K.Free → ⊥)
      → Inv (P.Reclaim (p + 1)) (CellDone (P.Reclaim (p + 1))) (linked f p (put m p last_free)) g (Some (longer f p)) rs st own k
  sweep_return w v l na nf =
      let R = returning m p l nf w (shaped I) I.vacancy in
      sweep_inv (record { sizes = R.sizes; widths = R.widths; view = λ q. view q (R.view q) }) (return_vacancy m p l nf w (shaped I) I.vacancy) I
    where
      view : (q : ℕ) {m' : Mem} → Returned m m' p q → Swept m m' p q
      view q (this e a) = w_free (inr (e, rw e na)) (record { free = rw a; waits = λ t. absurd (true≢false (sym (rw a at t))); shape = rw a (last_shape v) })
      view q (last n x b a) = w_free (inl b) (record { free = rw a b; waits = λ t. rw a at t; shape = rw a (shaped_set (V.Cell p) w (shaped I q x)) })
      view q (other n a) = w_other n a

  to_rest : size m ≤ p → Inv P.Rest (CellDone P.Rest) m g f rs st own k
  to_rest l = turn I (record {
    forth = λ q x G. record { is = rw (lt-ltb q p (omega arith)) at G.is; allowed = G.allowed };
    back = λ q x G. record { is = rw (lt-ltb q p (omega arith)) G.is; allowed = G.allowed };
    quiet = I.quiet;
    kinds = λ q x. I.kinds q x (omega arith);
    fair = λ q x d. I.fair q x (rw (lt-ltb q p (omega arith)) d);
    root_new = λ i d. absurd d;
    slot_new = λ i d. absurd d;
    part_new = λ q x d. absurd d;
  })

-- a returned place has two components, and the first names the next free place: so the width is 1 or 2
pub kept_reclaim : (h : Heap) (own : Ghost) (k : Reference) (p : ℕ) → 1 ≤ h.mem.width → h.mem.width ≤ 2 → h.phase ≡ P.Reclaim p → InvOf h own k → {b : Bool} {h' : Heap} → Reclaim h p b h' → InvOf h' own k
kept_reclaim h own k p w v e J = go (in_phase h e J)
  where
    go : InvAt (P.Reclaim p) (CellDone (P.Reclaim p)) h own k → {b : Bool} {h' : Heap} → Reclaim h p b h' → InvOf h' own k
    go I (s_return l na nf) = sweep_return I w v l na nf
    go I (s_clear l b) = sweep_clear I l b
    go I (s_pass l b) = sweep_pass I l b
    go I (s_end l) = to_rest I l
