-- A cell is copied to a lower place: what stood for a cell of the reference heap still does, and the invariant holds.
use Rattle.std.proofs.Common.{◌≡◌, ℕ, ◌+◌, ◌-◌, ◌<◌, ◌≤◌, true, cond, eqb, List, Option, sym, refl, ap, ◌∙◌, arith}
use Rattle.std.proofs.lemmas.Bool.{true≢false, eq-eqb, ne_eqb}
use Rattle.values.specs.Cells.{kind}
use Rattle.values.specs.declared.cells.Kind.TheVariants as K
use Rattle.values.specs.declared.cells.Value.{Value}
use Rattle.values.specs.declared.cells.Value.TheVariants as V
use Rattle.model.specs.declared.registers.FreeList.{FreeList}
use Rattle.model.specs.declared.registers.Phase.{Phase}
use Rattle.model.specs.declared.registers.Phase.TheVariants as P
use Rattle.model.specs.Heap.{Mem, at, put}
use Rattle.model.specs.Steps.{moved}
use Rattle.model.specs.Words.{moved_to}
use Rattle.law.specs.Reference.{Reference}
use Rattle.law.proofs.Memory.{size, size_put, at_same, at_other, Written, here, there, written}
use Rattle.law.proofs.PlaceKinds.{is_accessible}
use Rattle.law.proofs.Rows.{rows_map}
use Rattle.law.proofs.Shapes.{Shaped, shaped, shaped_set, set_first}
use Rattle.law.proofs.Grey.{idle, idle_grey}
use Rattle.law.proofs.Free.{vacancy_put}
use Rattle.law.proofs.Values.{Ghost, Good, Means, v_nil, v_num, v_cell, v_moved, Cells}
use Rattle.law.proofs.Inv.{CellDone, Forward, Inv}
use Rattle.law.proofs.Turning.{accessible_true}

-- the place l takes over the cell of the reference heap that the place u held
abbrev pub passed : Ghost → ℕ → ℕ → Ghost
passed own u l = record { to = λ q. cond (eqb q l) (own.to u) (own.to q); ok = own.ok }

-- how a place reads after the move
data Placed (m : Mem) (u l q : ℕ) : Type 0 where
  low : q ≡ l → at (moved u l m) q ≡ at m u → Placed m u l q
  high : q ≡ u → at (moved u l m) q ≡ moved_to l (at m u) → Placed m u l q
  apart : (q ≡ l → ⊥) → (q ≡ u → ⊥) → at (moved u l m) q ≡ at m q → Placed m u l q

-- the place that held the cell which the place q holds after the move; where that cell goes tells q
record Origin (m : Mem) (own : Ghost) (u l q : ℕ) : Type 0 where
  place : ℕ
  inside : place < size m
  same : at (moved u l m) q ≡ at m place
  owner : (passed own u l).to q ≡ own.to place
  goes : cond (eqb place u) l place ≡ q

module _ {l u : ℕ} {m : Mem} {g : List ℕ} {f : Option FreeList} {rs st : List Value} {own : Ghost} {k : Reference} (w : 1 ≤ m.width) (I : Inv (P.Relocate l u) (CellDone (P.Relocate l u)) m g f rs st own k) (lt : l < u) (pl : kind (at m l) ≡ K.Plain) (bl : kind (at m (u - 1)) ≡ K.Accessible) where
  abbrev m' : Mem
  m' = moved (u - 1) l m

  abbrev own' : Ghost
  own' = passed own (u - 1) l

  abbrev ph' : Phase
  ph' = P.Relocate (l + 1) (u - 1)

  high_in : u - 1 < size m
  high_in = omega (arith, I.kinds.1)

  low_in : l < size m
  low_in = omega (arith, I.kinds.1)

  sizes : size m' ≡ size m
  sizes = simp size_put

  inside : {q : ℕ} → q < size m' → q < size m
  inside x = rw sizes at x

  owner_low : own'.to l ≡ own.to (u - 1)
  owner_low = rw (eq-eqb l l refl)

  owner_other : (q : ℕ) → (q ≡ l → ⊥) → own'.to q ≡ own.to q
  owner_other q d = rw (ne_eqb q l d)

  not_low : (q : ℕ) → kind (at m q) ≡ K.Accessible → q ≡ l → ⊥
  not_low q c e = let z : ◌≡◌ {A = ℕ} 0 1 = cc in omega arith

  view : (q : ℕ) → Placed m (u - 1) l q
  view q = go (written (put m l (at m (u - 1))) (u - 1) (moved_to l (at m (u - 1))) q (rw size_put high_in)) (written m l (at m (u - 1)) q low_in)
    where
      go : Written (put m l (at m (u - 1))) (u - 1) (moved_to l (at m (u - 1))) q → Written m l (at m (u - 1)) q → Placed m (u - 1) l q
      go (here e a) x = high e a
      go (there n a) (here e b) = low e (a ∙ b)
      go (there n a) (there d b) = apart d n (a ∙ b)

  at_low : at m' l ≡ at m (u - 1)
  at_low = at_other (put m l (at m (u - 1))) (u - 1) l (moved_to l (at m (u - 1))) (λ e. not_low (u - 1) bl (sym e)) ∙ at_same m l (at m (u - 1)) low_in

  -- an accessible place other than the one moved from stays as it was
  stays : (q : ℕ) → (q ≡ u - 1 → ⊥) → kind (at m q) ≡ K.Accessible → at m' q ≡ at m q
  stays q n c = go (view q)
    where
      go : Placed m (u - 1) l q → at m' q ≡ at m q
      go (low e a) = absurd (not_low q c e)
      go (high e a) = absurd (n e)
      go (apart d n a) = a

  origin : (q : ℕ) → q < size m' → is_accessible (kind (at m' q)) ≡ true → Origin m own (u - 1) l q
  origin q x c = go (view q)
    where
      go : Placed m (u - 1) l q → Origin m own (u - 1) l q
      go (low e a) = record { place = u - 1; inside = high_in; same = a; owner = rw e owner_low; goes = rw (eq-eqb (u - 1) (u - 1) refl) (sym e) }
      go (high e a) = absurd (true≢false (sym (rw a at c)))
      go (apart d n a) = record { place = q; inside = inside x; same = a; owner = owner_other q d; goes = rw (ne_eqb q (u - 1) n) }

  -- ---- the values

  good_low : Good ph' m' own' l
  good_low = record { is = rw (at_low, bl); allowed = rw owner_low (I.fair (u - 1) high_in (rw bl)) }

  good_other : (q : ℕ) → (q ≡ u - 1 → ⊥) → Good (P.Relocate l u) m own q → (Good ph' m' own' q) × (own'.to q ≡ own.to q)
  good_other q n G =
      let c = accessible_true (kind (at m q)) G.is in
      let e = owner_other q (not_low q c) in
      (record { is = rw (stays q n c) G.is; allowed = rw e G.allowed }, e)

  move_means : {v x : Value} → Means (P.Relocate l u) m own v x → Means ph' m' own' v x
  move_means v_nil = v_nil
  move_means v_num = v_num
  move_means (v_cell {p} {b} a G e) = go (view p)
    where
      go : Placed m (u - 1) l p → Means ph' m' own' (V.Cell p) (V.Cell b)
      go (low i c) = absurd (not_low p (accessible_true (kind (at m p)) G.is) i)
      go (high i c) = v_moved (rw c) (rw c (set_first (V.Cell l) w (shaped I (u - 1) high_in))) (rw sizes low_in) good_low (owner_low ∙ cc)
      go (apart d n c) = let H = good_other p n G in v_cell (rw sizes a) H.0 (H.1 ∙ e)
  move_means (v_moved {p} {t} {b} c i a G e) = go (view p)
    where
      F : Forward m l p
      F = I.kinds.0 p c

      t_below : t < l
      t_below = let z : F.to ≡ t = cc F.first in omega (arith, F.below)

      go : Placed m (u - 1) l p → Means ph' m' own' (V.Cell p) (V.Cell b)
      go (low j d) = let z : ◌≡◌ {A = ℕ} 0 1 = cc in absurd (omega arith)
      go (high j d) = let z : ◌≡◌ {A = ℕ} 0 1 = cc in absurd (omega arith)
      go (apart j n d) = let H = good_other t (λ z. omega (arith, t_below)) G in v_moved (rw d c) (rw d i) (rw sizes a) H.0 (H.1 ∙ e)

  -- ---- the cells that count

  was_good : {q : ℕ} (o : Origin m own (u - 1) l q) → Good ph' m' own' q → Good (P.Relocate l u) m own o.place
  was_good o G = record { is = rw o.same at G.is; allowed = rw o.owner at G.allowed }

  move_cells : Cells ph' m' own' k.cells
  move_cells = record {
    parts = λ q x G i. let o = origin q x G.is in rw (o.same, o.owner) (move_means (I.cells.parts o.place o.inside (was_good o G) i));
    full = λ q x G. let o = origin q x G.is in rw o.owner (I.cells.full o.place o.inside (was_good o G));
    owned = λ q x G. let o = origin q x G.is in rw o.owner (I.cells.owned o.place o.inside (was_good o G));
    apart = λ q r x y G H e.
        (let o = origin q x G.is in
        let s = origin r y H.is in
        let z : o.place ≡ s.place = I.cells.apart o.place s.place o.inside s.inside (was_good o G) (was_good s H) (sym o.owner ∙ e ∙ s.owner) in
        sym o.goes ∙ ap (λ (p : ℕ). cond (eqb p (u - 1)) l p) z ∙ s.goes);
  }

  move_shape : (q : ℕ) → q < size m → Shaped m.width (at m' q).parts
  move_shape q x = go (view q)
    where
      go : Placed m (u - 1) l q → Shaped m.width (at m' q).parts
      go (low e a) = rw a (shaped I (u - 1) high_in)
      go (high e a) = rw a (shaped_set (V.Cell l) w (shaped I (u - 1) high_in))
      go (apart d n a) = rw a (shaped I q x)

  -- a moved place names an accessible place below the cursor
  move_forwards : (p : ℕ) → kind (at m' p) ≡ K.Moved → Forward m' (l + 1) p
  move_forwards p c = go (view p)
    where
      go : Placed m (u - 1) l p → Forward m' (l + 1) p
      go (low e a) = let z : ◌≡◌ {A = ℕ} 0 1 = cc in absurd (omega arith)
      go (high e a) = record { to = l; first = rw a (set_first (V.Cell l) w (shaped I (u - 1) high_in)); below = omega arith; black = rw at_low bl }
      go (apart d n a) =
          let F = I.kinds.0 p (rw a at c) in
          record { to = F.to; first = rw a F.first; below = omega (arith, F.below); black = rw (stays F.to (λ z. omega (arith, F.below)) F.black) F.black }

  move_idle : (q : ℕ) → q < size m → (at m' q).waiting ≡ true → ⊥
  move_idle q x e = go (view q)
    where
      go : Placed m (u - 1) l q → ⊥
      go (low i a) = idle I.grey I.quiet (u - 1) high_in (rw a at e)
      go (high i a) = idle I.grey I.quiet (u - 1) high_in (rw a at e)
      go (apart d n a) = idle I.grey I.quiet q x (rw a at e)

  pub move_inv : Inv ph' (CellDone ph') m' g f rs st own' k
  move_inv = record {
    cells = move_cells;
    roots = rows_map (λ _ _ x. move_means x) I.roots;
    list = rows_map (λ _ _ x. move_means x) I.list;
    even = λ q x. (move_shape q (inside x)).even;
    spare = λ q x. (move_shape q (inside x)).spare;
    wide = I.wide;
    grey = idle_grey I.quiet (λ q x e. move_idle q (inside x) e);
    quiet = I.quiet;
    kinds = (move_forwards, rw sizes (omega (arith, I.kinds.1)));
    vacancy = vacancy_put (u - 1) (moved_to l (at m (u - 1))) (rw size_put high_in) (λ e. grind (arith, bl, at_other m l (u - 1) (at m (u - 1)) (not_low (u - 1) bl))) (λ e. grind arith) (vacancy_put l (at m (u - 1)) low_in (λ e. grind arith) (λ e. grind arith) I.vacancy);
    fair = λ q x d. let o = origin q x d in rw o.owner (I.fair o.place o.inside (rw o.same at d));
    later = I.later;
    root_new = λ i d. absurd d;
    slot_new = λ i d. absurd d;
    part_new = λ q x d. absurd d;
  }
