-- A new cell in the first free place keeps the invariant.
use Rattle.std.proofs.Common.{◌≡◌, ℕ, ◌+◌, ◌<◌, ◌≤◌, Bool, true, false, cond, eqb, leb, ◌⊎◌, List, [], ◌∷◌, ◌++◌, length, get_or, Some, sym, refl, ap, ◌∙◌, inl, inr, arith, length-append}
use lib.ListN.{get_or-append}
use lib.Seq.{get_or-append_seam}
use Rattle.std.proofs.lemmas.List.{get_or_past}
use Rattle.std.proofs.lemmas.Bool.{cases_lt, true≢false, eq-eqb, ne_eqb, lt-ltb, le-ltb, le-leb, lt-leb}
use Rattle.values.specs.Cells.{kind, kind_of_bits}
use Rattle.values.specs.declared.cells.Cell.{Cell}
use Rattle.values.specs.declared.cells.Kind.{Kind}
use Rattle.values.specs.declared.cells.Kind.TheVariants as K
use Rattle.values.specs.declared.cells.Value.{Value}
use Rattle.values.specs.declared.cells.Value.TheVariants as V
use Rattle.model.specs.declared.registers.FreeList.{FreeList}
use Rattle.model.specs.declared.registers.Phase.{Phase}
use Rattle.model.specs.declared.registers.Phase.TheVariants as P
use Rattle.model.specs.Calls.{new_cell, shorter}
use Rattle.model.specs.Heap.{Mem, at, put, part}
use Rattle.model.specs.Words.{marking}
use Rattle.law.specs.Reference.{Reference, entry, made}
use Rattle.law.proofs.FreeTake.{vacancy_head, vacancy_take}
use Rattle.law.proofs.Grey.{Grey}
use Rattle.law.proofs.Inv.{Seen, Settled, settled_nil, settled_num, settled_cell, Forward, Kinds, Dark, Inv}
use Rattle.law.proofs.Memory.{size, size_put, at_same, at_other, Written, here, there, written}
use Rattle.law.specs.Live.{In}
use Rattle.law.proofs.PlaceKinds.{is_accessible, is_moved}
use Rattle.law.proofs.Rows.{r_more, rows_map}
use Rattle.law.proofs.Slots.{slot_push}
use Rattle.law.proofs.Values.{goodb, Ghost, Good, good_free, Means, v_nil, v_num, v_cell, v_moved, Cells}

-- ---- the new cell, by the phase
new_good : (ph : Phase) (p : ℕ) (vs : List Value) → goodb ph p (kind (new_cell ph p vs)) ≡ true
new_good P.Rest p vs = refl
new_good (P.Mark r s b) p vs = refl
new_good (P.Relocate l u) p vs = refl
new_good (P.Update r q s) p vs = refl
new_good (P.Reclaim s) p vs = go (cases_lt p s)
  where
    go : (p < s) ⊎ (s ≤ p) → goodb (P.Reclaim s) p (kind (new_cell (P.Reclaim s) p vs)) ≡ true
    go (inl a) = rw (lt-ltb p s a, lt-leb s p a)
    go (inr a) = rw (le-ltb p s a, le-leb s p a)

pub new_used : (ph : Phase) (p : ℕ) (vs : List Value) → kind (new_cell ph p vs) ≡ K.Free → ⊥
new_used ph p vs e = true≢false (sym (new_good ph p vs) ∙ ap (goodb ph p) e ∙ good_free ph p)

pub new_dark : (ph : Phase) (p : ℕ) (vs : List Value) → marking ph ≡ true → kind (new_cell ph p vs) ≡ K.Plain → ⊥
new_dark P.Rest p vs i e = true≢false (sym i)
new_dark (P.Mark r s b) p vs i e = true≢false (ap is_accessible e)
new_dark (P.Relocate l u) p vs i e = true≢false (sym i)
new_dark (P.Update r q s) p vs i e = true≢false (sym i)
new_dark (P.Reclaim s) p vs i e = true≢false (sym i)

new_seen : (ph : Phase) (p : ℕ) (vs : List Value) → Seen ph (new_cell ph p vs)
new_seen P.Rest p vs = tt
new_seen (P.Mark r s b) p vs = inl refl
new_seen (P.Relocate l u) p vs = tt
new_seen (P.Update r q s) p vs = refl
new_seen (P.Reclaim s) p vs = go (leb s p)
  where
    go : (t : Bool) → is_moved (kind_of_bits t false) ≡ false
    go true = refl
    go false = refl

-- what holds of the cell that is put and of every other, holds of every cell
put_each : (m : Mem) (p : ℕ) (c : Cell) (T : ℕ → Cell → Type 0) → p < size m → T p c → ((q : ℕ) → q < size m → (q ≡ p → ⊥) → T q (at m q)) → (q : ℕ) → q < size (put m p c) → T q (at (put m p c) q)
put_each m p c T l this h q a = go (written m p c q l)
  where
    go : Written m p c q → T q (at (put m p c) q)
    go (here e i) = rw (i, e) this
    go (there n i) = rw i (h q (rw size_put at a) n)

new_kinds : (ph : Phase) (m : Mem) (p : ℕ) (vs : List Value) → p < size m → kind (at m p) ≡ K.Free → Kinds ph m → Kinds ph (put m p (new_cell ph p vs))
new_kinds P.Rest m p vs l v Ks = put_each m p (new_cell P.Rest p vs) (λ q x. (kind x ≡ K.Plain) ⊎ (kind x ≡ K.Free)) l (inl refl) (λ q a n. Ks q a)
new_kinds (P.Mark r s b) m p vs l v Ks = put_each m p (new_cell (P.Mark r s b) p vs) (λ q x. is_moved (kind x) ≡ false) l refl (λ q a n. Ks q a)
new_kinds (P.Relocate lo u) m p vs l v Ks = (λ q k. go q k (written m p c q l), rw size_put Ks.1)
  where
    c : Cell
    c = new_cell (P.Relocate lo u) p vs

    go : (q : ℕ) → kind (at (put m p c) q) ≡ K.Moved → Written m p c q → Forward (put m p c) lo q
    go q k (here e i) = absurd (true≢false (ap is_accessible (sym (ap kind i) ∙ k)))
    go q k (there n i) =
        let w = Ks.0 q (rw i at k) in
        record { to = w.to; first = rw i w.first; below = w.below; black = rw (at_other m p w.to c (λ e. grind (arith, w.black))) w.black }
new_kinds (P.Update r q s) m p vs l v Ks = tt
new_kinds (P.Reclaim s) m p vs l v Ks = put_each m p (new_cell (P.Reclaim s) p vs) (λ q x. q < s → (kind x ≡ K.Plain) ⊎ (kind x ≡ K.Free)) l (λ h. inl (rw (lt-leb s p h))) (λ q a n. Ks q a)

-- ---- the new cell is laid

-- the place p holds the cell b of the reference heap
abbrev pub owner : Ghost → ℕ → ℕ → Ghost
owner own p b = record { to = λ q. cond (eqb q p) b (own.to q); ok = own.ok }

owner_here : (own : Ghost) (p b : ℕ) → (owner own p b).to p ≡ b
owner_here own p b = rw (eq-eqb p p refl)

owner_there : (own : Ghost) (p b q : ℕ) → (q ≡ p → ⊥) → (owner own p b).to q ≡ own.to q
owner_there own p b q n = rw (ne_eqb q p n)

-- the components of the new cell, offered
pub record Parts (ph : Phase) (m : Mem) (own : Ghost) (vs ws : List Value) : Type 0 where
  pub filled : length vs ≡ m.width
  pub full : length ws ≡ m.width
  pub means : (i : ℕ) → Means ph m own (get_or vs i V.Nil) (get_or ws i V.Nil)
  pub new : (i : ℕ) → Settled ph m (get_or vs i V.Nil)

module _ {ph : Phase} {D : ℕ → Kind → Type 0} {m : Mem} {g : List ℕ} {f : FreeList} {rs st : List Value} {own : Ghost} {k : Reference} (I : Inv ph D m g (Some f) rs st own k) {vs ws : List Value} (S : Parts ph m own vs ws) where
  abbrev p : ℕ
  p = f.first

  abbrev b : ℕ
  b = made k.cells

  abbrev c : Cell
  c = new_cell ph p vs

  abbrev m' : Mem
  m' = put m p c

  abbrev own' : Ghost
  own' = owner own p b

  abbrev cells' : List (List Value)
  cells' = k.cells ++ ws ∷ []

  below : p < size m
  below = (vacancy_head I.vacancy).0

  free : kind (at m p) ≡ K.Free
  free = (vacancy_head I.vacancy).1

  view : (q : ℕ) → Written m p c q
  view q = written m p c q below

  sizes : size m' ≡ size m
  sizes = size_put m p c

  good_apart : (q : ℕ) → Good ph m own q → q ≡ p → ⊥
  good_apart q G e = true≢false (sym G.is ∙ ap (λ (i : ℕ). goodb ph q (kind (at m i))) e ∙ ap (goodb ph q) free ∙ good_free ph q)

  at_there : (q : ℕ) → (q ≡ p → ⊥) → at m' q ≡ at m q
  at_there q n = at_other m p q c n

  keeps_good : (q : ℕ) → Good ph m own q → Good ph m' own' q
  keeps_good q G = record { is = rw (at_there q (good_apart q G)) G.is; allowed = rw (owner_there own p b q (good_apart q G)) G.allowed }

  keeps : {v w : Value} → Means ph m own v w → Means ph m' own' v w
  keeps v_nil = v_nil
  keeps v_num = v_num
  keeps (v_cell {p = q} a G e) = v_cell (rw sizes a) (keeps_good q G) (owner_there own p b q (good_apart q G) ∙ e)
  keeps (v_moved {p = q} {t} d f a G e) =
      let n : q ≡ p → ⊥ = λ z. grind (arith, free) in
      v_moved (rw (at_there q n) d) (rw (at_there q n) f) (rw sizes a) (keeps_good t G) (owner_there own p b t (good_apart t G) ∙ e)

  news : {v : Value} → Settled ph m v → Settled ph m' v
  news settled_nil = settled_nil
  news settled_num = settled_num
  news (settled_cell {p = q} s) = settled_cell (go (view q))
    where
      go : Written m p c q → Seen ph (at m' q)
      go (here e a) = rw a (new_seen ph p vs)
      go (there n a) = rw a s

  -- a place that counts now is the new one, or counted before
  data Was (q : ℕ) : Type 0 where
    is_new : q ≡ p → Was q
    is_old : (q ≡ p → ⊥) → Good ph m own q → Was q

  was : (q : ℕ) → Good ph m' own' q → Was q
  was q G = go (view q)
    where
      go : Written m p c q → Was q
      go (here e a) = is_new e
      go (there n a) = is_old n (record { is = rw a at G.is; allowed = rw (owner_there own p b q n) at G.allowed })

  entry_new : entry cells' b ≡ ws
  unfolding entry made
  entry_new = get_or-append_seam k.cells ws [] []

  entry_old : (d : ℕ) → d < b → entry cells' d ≡ entry k.cells d
  unfolding entry made
  entry_old d h = get_or-append k.cells (ws ∷ []) [] d h

  pub made_more : made cells' ≡ b + 1
  unfolding made
  made_more = length-append k.cells (ws ∷ [])

  each : (T : Cell → List Value → Type 0) → T c ws → ((q : ℕ) → q < size m → Good ph m own q → T (at m q) (entry k.cells (own.to q))) → (q : ℕ) → q < size m' → Good ph m' own' q → T (at m' q) (entry cells' (own'.to q))
  each T this h q a G = go (was q G)
    where
      go : Was q → T (at m' q) (entry cells' (own'.to q))
      go (is_new e) = rw (e, at_same m p c below, owner_here own p b, entry_new) this
      go (is_old n G') = rw (at_there q n, owner_there own p b q n, entry_old (own.to q) (I.cells.owned q (rw sizes at a) G')) (h q (rw sizes at a) G')

  clash : (q : ℕ) → q < size m → (q ≡ p → ⊥) → Good ph m own q → own'.to q ≡ b → ⊥
  clash q a n G e = let z : own.to q ≡ b = sym (owner_there own p b q n) ∙ e in omega (arith, I.cells.owned q a G)

  create_cells : Cells ph m' own' cells'
  create_cells = record {
    parts = λ q a G i. each (λ x e. Means ph m' own' (part x i) (get_or e i V.Nil)) (keeps (S.means i)) (λ q a G. keeps (I.cells.parts q a G i)) q a G;
    full = each (λ x e. m.width ≤ length e) (omega (arith, S.full)) I.cells.full;
    owned = λ q a G. owned q (rw sizes at a) (was q G);
    apart = λ q r a₁ a₂ G₁ G₂ e. apart q r (rw sizes at a₁) (rw sizes at a₂) e (was q G₁) (was r G₂);
  }
    where
      owned : (q : ℕ) → q < size m → Was q → own'.to q < made cells'
      owned q a (is_new e) = rw (e, owner_here own p b, made_more) (omega arith)
      owned q a (is_old n G) = rw (owner_there own p b q n, made_more) (omega (arith, I.cells.owned q a G))

      apart : (q r : ℕ) → q < size m → r < size m → own'.to q ≡ own'.to r → Was q → Was r → q ≡ r
      apart q r a₁ a₂ e (is_new i) (is_new j) = i ∙ sym j
      apart q r a₁ a₂ e (is_new i) (is_old n G) = absurd (clash r a₂ n G (sym e ∙ ap own'.to i ∙ owner_here own p b))
      apart q r a₁ a₂ e (is_old n G) (is_new j) = absurd (clash q a₁ n G (e ∙ ap own'.to j ∙ owner_here own p b))
      apart q r a₁ a₂ e (is_old n G) (is_old n' G') = I.cells.apart q r a₁ a₂ G G' (sym (owner_there own p b q n) ∙ e ∙ owner_there own p b r n')

  create_grey : Grey m' g
  create_grey = record {
    distinct = I.grey.distinct;
    each = λ q i. waits q (I.grey.each q i) (view q);
    all = put_each m p c (λ q x. x.waiting ≡ true → In q g) below (λ e. absurd (true≢false (sym e))) (λ q a n e. I.grey.all q a e);
  }
    where
      waits : (q : ℕ) → (q < size m) × (kind (at m q) ≡ K.Plain) × ((at m q).waiting ≡ true) → Written m p c q → (q < size m') × (kind (at m' q) ≡ K.Plain) × ((at m' q).waiting ≡ true)
      waits q t (here e a) = absurd (grind (arith, t.1, free))
      waits q t (there n a) = (rw sizes t.0, rw a t.1, rw a t.2)

  pub create_inv : Inv ph D m' g (shorter (part (at m p) 0) f) rs (V.Cell p ∷ st) own' (record { roots = k.roots; list = V.Cell b ∷ k.list; cells = cells' })
  create_inv = record {
    cells = create_cells;
    roots = rows_map (λ _ _ s. keeps s) I.roots;
    list = r_more (v_cell (rw sizes below) this (owner_here own p b)) (rows_map (λ _ _ s. keeps s) I.list);
    even = put_each m p c (λ q x. m.width ≤ length x.parts) below (omega (arith, S.filled)) (λ q a n. I.even q a);
    spare = λ q a i x. put_each m p c (λ q y. part y i ≡ V.Nil) below (get_or_past vs i V.Nil (omega (arith, S.filled))) (λ q a n. I.spare q a i x) q a;
    wide = I.wide;
    grey = create_grey;
    quiet = I.quiet;
    kinds = new_kinds ph m p vs below free I.kinds;
    vacancy = vacancy_take c (new_used ph p vs) I.vacancy;
    fair = put_each m p c (λ q x. Dark ph q x → own.ok (own'.to q)) below (λ d. rw (owner_here own p b) (I.later b (omega arith))) (λ q a n d. rw (owner_there own p b q n) (I.fair q a d));
    later = λ d a. I.later d (omega (arith, made_more));
    root_new = λ i d. news (I.root_new i d);
    slot_new = λ i d. slot_push (Settled ph m') (V.Cell p) st i (settled_cell (rw (at_same m p c below) (new_seen ph p vs))) (news (I.slot_new i d));
    part_new = put_each m p c (λ q x. D q (kind x) → (i : ℕ) → Settled ph m' (part x i)) below (λ d i. news (S.new i)) (λ q a n d i. news (I.part_new q a d i));
  }
    where
      this : Good ph m' own' p
      this = record { is = rw (at_same m p c below) (new_good ph p vs); allowed = rw (owner_here own p b) (I.later b (omega arith)) }
