-- A step of the update phase keeps the invariant.
use Rattle.std.proofs.Common.{◌≡◌, ℕ, ◌+◌, ◌<◌, ◌≤◌, ◌⊎◌, List, length, get_or, set, Option, sym, refl, ap, ◌∙◌, subst, inl, inr, arith, length-set, get_or-set_same}
use lib.Seq.{set-get_or}
use Rattle.std.proofs.lemmas.List.{get_or_past}
use Rattle.std.proofs.lemmas.Bool.{cases_eq, cases_lt, true≢false}
use Rattle.values.specs.Cells.{kind}
use Rattle.values.specs.declared.cells.Cell.{Cell}
use Rattle.values.specs.declared.cells.Kind.{Kind}
use Rattle.values.specs.declared.cells.Kind.TheVariants as K
use Rattle.values.specs.declared.cells.Value.{Value}
use Rattle.values.specs.declared.cells.Value.TheVariants as V
use Rattle.model.specs.declared.registers.FreeList.{FreeList}
use Rattle.model.specs.declared.registers.Phase.{Phase}
use Rattle.model.specs.declared.registers.Phase.TheVariants as P
use Rattle.model.specs.Heap.{Heap, Mem, at, put, part}
use Rattle.model.specs.Words.{with_parts, normal, normal_all}
use Rattle.law.specs.Reference.{Reference, entry}
use Rattle.law.proofs.Free.{vacancy_put}
use Rattle.law.proofs.Inv.{Settled, settled_nil, settled_num, settled_cell, Grows, grows_new, CellDone, Inv, InvOf, dark_alike}
use Rattle.law.proofs.Memory.{size, size_put, Written, here, there, written}
use Rattle.law.proofs.Normals.{length_normal_all, normal_all_each}
use Rattle.law.proofs.PlaceKinds.{is_accessible}
use Rattle.law.proofs.Rows.{Rows, rows_map, rows_at, rows_set, get_or_set_P}
use Rattle.law.proofs.Slots.{slot, set_slot, slot_beyond, slot_set_slot, rows_slot, rows_set_slot}
use Rattle.law.proofs.StepViews.{Update, u_root, u_place, u_pass, u_slot, u_end}
use Rattle.law.proofs.Turning.{in_phase, renew, turn, phase_V, settled_as, pass_one, accessible_true, good_first}
use Rattle.law.proofs.Values.{Ghost, Good, Means, v_nil, Stands, s_nil, s_num, s_cell, stands_V, V_normal, not_moved, Alike, alike_V}

-- a normalised value is settled
stands_settled : {m : Mem} {own : Ghost} {r p s : ℕ} {v w : Value} → Stands (P.Update r p s) m own v w → Settled (P.Update r p s) m v
stands_settled s_nil = settled_nil
stands_settled s_num = settled_num
stands_settled {m} {r = r} {p} {s} (s_cell {p = q} l g e) = settled_cell (not_moved (P.Update r p s) m q g)

module _ {r p s : ℕ} {m : Mem} {g : List ℕ} {f : Option FreeList} {rs st : List Value} {own : Ghost} {k : Reference} {D : ℕ → Kind → Type 0} (I : Inv (P.Update r p s) D m g f rs st own k) where
  abbrev ph : Phase
  ph = P.Update r p s

  -- the cursors go on, and roots or list may be others
  onward : (r' p' s' : ℕ) {rs' st' : List Value} → length rs' ≡ 16 → Rows (Means ph m own) rs' k.roots → Rows (Means ph m own) st' k.list
      → ((i : ℕ) → i < r' → Settled ph m (get_or rs' i V.Nil)) → ((i : ℕ) → i < s' → Settled ph m (slot st' i)) → ((q : ℕ) → q < size m → (kind (at m q) ≡ K.Accessible) × (q < p') → (i : ℕ) → Settled ph m (part (at m q) i))
      → Inv (P.Update r' p' s') (CellDone (P.Update r' p' s')) m g f rs' st' own k
  onward r' p' s' wide roots list root_new slot_new part_new = renew I (record {
    back = λ q l G. record { is = G.is; allowed = G.allowed };
    parts = λ q l G i. phase_V same (I.cells.parts q l (record { is = G.is; allowed = G.allowed }) i);
    roots = rows_map (λ _ _ x. phase_V same x) roots;
    list = rows_map (λ _ _ x. phase_V same x) list;
    wide = wide;
    quiet = I.quiet;
    kinds = tt;
    fair = I.fair;
    later = I.later;
    root_new = λ i d. settled_as (λ c x. x) (root_new i d);
    slot_new = λ i d. settled_as (λ c x. x) (slot_new i d);
    part_new = λ q l d i. settled_as (λ c x. x) (part_new q l d i);
  })
    where
      same : (q : ℕ) → q < size m → Good ph m own q → Good (P.Update r' p' s') m own q
      same q l G = record { is = G.is; allowed = G.allowed }

module _ {r p s : ℕ} {m : Mem} {g : List ℕ} {f : Option FreeList} {rs st : List Value} {own : Ghost} {k : Reference} (I : Inv (P.Update r p s) (CellDone (P.Update r p s)) m g f rs st own k) where
  abbrev ph₀ : Phase
  ph₀ = P.Update r p s

  root_kept : r < length rs → Inv (P.Update (r + 1) p s) (CellDone (P.Update (r + 1) p s)) m g f (set rs r (normal m (get_or rs r V.Nil))) st own k
  root_kept l =
      let R : Rows (Means ph₀ m own) (set rs r w) (set k.roots r (get_or k.roots r V.Nil)) = rows_set r w (get_or k.roots r V.Nil) (stands_V S) I.roots in
      onward I (r + 1) p s (length-set rs r w ∙ I.wide) (rw (set-get_or k.roots r V.Nil) at R) I.list new I.slot_new I.part_new
    where
      w : Value
      w = normal m (get_or rs r V.Nil)

      S : Stands ph₀ m own (normal m (get_or rs r V.Nil)) (get_or k.roots r V.Nil)
      S = V_normal (rows_at r v_nil I.roots)

      new : (i : ℕ) → i < r + 1 → Settled ph₀ m (get_or (set rs r w) i V.Nil)
      new i d = pass_one (λ j. Settled ph₀ m (get_or (set rs r w) j V.Nil)) r i d (rw (get_or-set_same rs r w V.Nil l) (stands_settled S)) (λ e. get_or_set_P (Settled ph₀ m) w rs r i (stands_settled S) (I.root_new i e))

  slot_kept : Inv (P.Update r p (s + 1)) (CellDone (P.Update r p (s + 1))) m g f rs (set_slot st s (normal m (slot st s))) own k
  slot_kept = onward I r p (s + 1) I.wide I.roots (rows_set_slot s w (λ x y e M. rw e at (stands_V (V_normal M))) I.list) I.root_new new I.part_new
    where
      w : Value
      w = normal m (slot st s)

      new : (i : ℕ) → i < s + 1 → Settled ph₀ m (slot (set_slot st s w) i)
      new i d = slot_set_slot (Settled ph₀ m) st s w i settled_nil (stands_settled (V_normal (rows_slot s v_nil I.list))) (λ n. I.slot_new i (omega arith))

  pass_kept : (kind (at m p) ≡ K.Accessible → ⊥) → Inv (P.Update r (p + 1) s) (CellDone (P.Update r (p + 1) s)) m g f rs st own k
  pass_kept n = onward I r (p + 1) s I.wide I.roots I.list I.root_new I.slot_new (λ q l d i. I.part_new q l (d.0, below q d (cases_eq q p)) i)
    where
      below : (q : ℕ) → (kind (at m q) ≡ K.Accessible) × (q < p + 1) → (q ≡ p) ⊎ (q ≡ p → ⊥) → q < p
      below q d (inl e) = absurd (n (subst (λ (j : ℕ). kind (at m j) ≡ K.Accessible) e d.0))
      below q d (inr e) = omega (arith, d.1)

  end_kept : length rs ≤ r → size m ≤ p → length st ≤ s → Inv (P.Reclaim 0) (CellDone (P.Reclaim 0)) m g f rs st own k
  end_kept hr hp hs = turn I (record {
    forth = λ q l G. record { is = good_first q (kind (at m q)) ∙ G.is; allowed = G.allowed };
    back = λ q l G. record { is = sym (good_first q (kind (at m q))) ∙ G.is; allowed = G.allowed };
    quiet = I.quiet;
    kinds = λ q l n. absurd (omega arith);
    fair = λ q l d. I.fair q l (sym (good_first q (kind (at m q))) ∙ d);
    root_new = λ i d. roots i (cases_lt i r);
    slot_new = λ i d. slots i (cases_lt i s);
    part_new = λ q l d i. late (I.part_new q l (accessible_true (kind (at m q)) (sym (good_first q (kind (at m q))) ∙ d), omega arith) i);
  })
    where
      late : {v : Value} → Settled ph₀ m v → Settled (P.Reclaim 0) m v
      late x = settled_as (λ c y. y) x

      roots : (i : ℕ) → (i < r) ⊎ (r ≤ i) → Settled (P.Reclaim 0) m (get_or rs i V.Nil)
      roots i (inl d) = late (I.root_new i d)
      roots i (inr d) = rw (get_or_past rs i V.Nil (omega arith)) settled_nil

      slots : (i : ℕ) → (i < s) ⊎ (s ≤ i) → Settled (P.Reclaim 0) m (slot st i)
      slots i (inl d) = late (I.slot_new i d)
      slots i (inr d) = rw (slot_beyond st i (omega arith)) settled_nil

  -- ---- the components of an accessible place are normalised
  module _ (l : p < size m) (black : kind (at m p) ≡ K.Accessible) where
    abbrev c' : Cell
    c' = with_parts (normal_all m (at m p).parts) (at m p)

    abbrev m' : Mem
    m' = put m p c'

    at' : (q : ℕ) → Written m p c' q
    at' q = written m p c' q l

    inside : {q : ℕ} → q < size m' → q < size m
    inside a = rw (size_put m p c') at a

    like : Alike m m'
    like = record { sizes = size_put m p c'; widths = refl; kinds = λ q. kinds q (at' q); targets = λ q e. targets q e (at' q); lengths = λ q. lengths q (at' q) }
      where
        kinds : (q : ℕ) → Written m p c' q → kind (at m' q) ≡ kind (at m q)
        kinds q (here e a) = rw (a, e)
        kinds q (there n a) = rw a

        targets : (q : ℕ) → kind (at m q) ≡ K.Moved → Written m p c' q → part (at m' q) 0 ≡ part (at m q) 0
        targets q e (here i a) = let z : K.Accessible ≡ K.Moved = cc in absurd (true≢false (ap is_accessible z))
        targets q e (there n a) = rw a

        lengths : (q : ℕ) → Written m p c' q → length (at m' q).parts ≡ length (at m q).parts
        lengths q (here e a) = rw (a, e) (length_normal_all m (at m p).parts)
        lengths q (there n a) = rw a

    waits : (q : ℕ) → (at m' q).waiting ≡ (at m q).waiting
    waits q = go (at' q)
      where
        go : Written m p c' q → (at m' q).waiting ≡ (at m q).waiting
        go (here e a) = rw (a, e)
        go (there n a) = rw a

    grown : Grows m m'
    grown = record { alike = like; waits = λ q e. waits q ∙ e }

    back : (q : ℕ) → Good ph₀ m' own q → Good ph₀ m own q
    back q G = record { is = rw (like.kinds q) at G.is; allowed = G.allowed }

    -- each component is normalised, and stands for what it stood for
    each : (i : ℕ) → part c' i ≡ normal m (part (at m p) i)
    each i = normal_all_each m (at m p).parts i (I.even p l) (I.spare p l i)

    stands : (i : ℕ) → Stands ph₀ m own (part c' i) (get_or (entry k.cells (own.to p)) i V.Nil)
    stands i = rw (each i) (V_normal (I.cells.parts p l (record { is = rw black; allowed = I.fair p l (rw black) }) i))

    renewed : Inv ph₀ (CellDone (P.Update r (p + 1) s)) m' g f rs st own k
    renewed = record {
      cells = record {
        parts = λ q a G i. parts q (inside a) (back q G) i (at' q);
        full = λ q a G. I.cells.full q (inside a) (back q G);
        owned = λ q a G. I.cells.owned q (inside a) (back q G);
        apart = λ q t a b G H e. I.cells.apart q t (inside a) (inside b) (back q G) (back t H) e;
      };
      roots = rows_map (λ _ _ x. alike_V like x) I.roots;
      list = rows_map (λ _ _ x. alike_V like x) I.list;
      even = λ q a. rw (like.lengths q) (I.even q (inside a));
      spare = λ q a i n. spare q (inside a) i n (at' q);
      wide = I.wide;
      grey = record { distinct = I.grey.distinct; each = λ q i. (rw (size_put m p c') (I.grey.each q i).0, like.kinds q ∙ (I.grey.each q i).1, waits q ∙ (I.grey.each q i).2); all = λ q a e. I.grey.all q (inside a) (sym (waits q) ∙ e) };
      quiet = I.quiet;
      kinds = tt;
      vacancy = vacancy_put p c' l (λ e. grind (arith, black)) (λ e. grind (arith, black)) I.vacancy;
      fair = λ q a d. I.fair q (inside a) (dark_alike ph₀ like waits q d);
      later = I.later;
      root_new = λ i d. grows_new grown (I.root_new i d);
      slot_new = λ i d. grows_new grown (I.slot_new i d);
      part_new = λ q a d i. new q (inside a) (rw (like.kinds q) at d.0) d.1 i (at' q);
    }
      where
        parts : (q : ℕ) → q < size m → Good ph₀ m own q → (i : ℕ) → Written m p c' q → Means ph₀ m' own (part (at m' q) i) (get_or (entry k.cells (own.to q)) i V.Nil)
        parts q a G i (here e b) = rw (b, e) (alike_V like (stands_V (stands i)))
        parts q a G i (there n b) = rw b (alike_V like (I.cells.parts q a G i))

        spare : (q : ℕ) → q < size m → (i : ℕ) → m.width ≤ i → Written m p c' q → part (at m' q) i ≡ V.Nil
        spare q a i n (here e b) = rw b (each i ∙ ap (normal m) (I.spare p l i n))
        spare q a i n (there d b) = rw b (I.spare q a i n)

        new : (q : ℕ) → q < size m → kind (at m q) ≡ K.Accessible → q < p + 1 → (i : ℕ) → Written m p c' q → Settled ph₀ m' (part (at m' q) i)
        new q a b d i (here e x) = rw x (grows_new grown (stands_settled (stands i)))
        new q a b d i (there n x) = rw x (grows_new grown (I.part_new q a (b, omega arith) i))

    place_kept : Inv (P.Update r (p + 1) s) (CellDone (P.Update r (p + 1) s)) m' g f rs st own k
    place_kept = onward renewed r (p + 1) s I.wide renewed.roots renewed.list renewed.root_new renewed.slot_new renewed.part_new

pub kept_update : (h : Heap) (own : Ghost) (k : Reference) (r p s : ℕ) → h.phase ≡ P.Update r p s → InvOf h own k → {h' : Heap} → Update h r p s h' → InvOf h' own k
kept_update h own k r p s e I (u_root l) = root_kept (in_phase h e I) l
kept_update h own k r p s e I (u_place a l b) = place_kept (in_phase h e I) l b
kept_update h own k r p s e I (u_pass a l n) = pass_kept (in_phase h e I) n
kept_update h own k r p s e I (u_slot a b l) = slot_kept (in_phase h e I)
kept_update h own k r p s e I (u_end a b l) = end_kept (in_phase h e I) a b l
