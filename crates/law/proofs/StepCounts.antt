-- A step counts: the cells in use are fewer by the place that it returns, and less is left of the cycle.
use Rattle.std.proofs.Common.{◌≡◌, ℕ, zero, suc, ◌+◌, ◌-◌, ◌<◌, ◌≤◌, Bool, true, false, cond, ◌⊎◌, List, length, get_or, Some, None, Ok, Option, sym, refl, ap, ◌∙◌, subst, inl, inr, arith}
use Rattle.std.proofs.lemmas.Bool.{cases_eq, cases_lt}
use Rattle.values.specs.Cells.{kind}
use Rattle.values.specs.declared.cells.Cell.{Cell}
use Rattle.values.specs.declared.cells.Kind.TheVariants as K
use Rattle.values.specs.declared.cells.Value.{Value}
use Rattle.values.specs.declared.cells.Value.TheVariants as V
use Rattle.model.specs.declared.answers.Stepped.{Stepped}
use Rattle.model.specs.declared.registers.FreeList.{FreeList}
use Rattle.model.specs.declared.registers.Phase.{Phase}
use Rattle.model.specs.declared.registers.Phase.TheVariants as P
use Rattle.model.specs.Answers.{name_of}
use Rattle.model.specs.Heap.{Heap, Mem, Done, at, put, with_phase, with_pending, with_mem}
use Rattle.model.specs.Steps.{used, mark_ended, moved, linked, stepped, step, step_in}
use Rattle.model.specs.Words.{marked, unmarked, moved_to, last_free, with_part, offered_from}
use Rattle.law.specs.Reference.{Reference}
use Rattle.law.proofs.Memory.{size, size_is, size_put, at_same, at_other, at_past}
use Rattle.law.proofs.PlaceKinds.{is_plain, marked_kind, unmarked_kind}
use Rattle.law.proofs.Slots.{slot, length_set_slot}
use Rattle.law.proofs.Words.{Shade, shaded, shade}
use Rattle.law.specs.Live.{In}
use Rattle.law.proofs.Grey.{Grey}
use Rattle.law.proofs.Values.{Ghost}
use Rattle.law.proofs.Inv.{Grows, grows_refl, grows_trans, offered_grows, Inv, InvOf, CellDone}
use Rattle.law.proofs.StepViews.{Mark, m_place, m_root, m_slot, m_end, marking_way, Relocate, r_low, r_high, r_move, r_end, relocating_way, Update, u_root, u_place, u_pass, u_slot, u_end, updating_way, Reclaim, s_return, s_clear, s_pass, s_end, reclaiming_way}
use Rattle.law.proofs.Counting.{tally, tally_same, tally_put, one_in_use, used_same, used_put}
use Rattle.law.proofs.Budget.{left, budget}

-- of a step in the phase f
pub record Counts (f : Phase) (h : Heap) (d : Done Stepped) : Type 0 where
  pub back : Bool
  pub says : d.says ≡ Ok (record { phase = name_of d.heap.phase; returned = back })
  pub sizes : size d.heap.mem ≡ size h.mem
  pub widths : d.heap.mem.width ≡ h.mem.width
  pub lengths : length d.heap.list ≡ length h.list
  pub count : used d.heap.mem + cond back 1 0 ≡ used h.mem
  pub falls : budget d.heap < left f (size h.mem) (tally is_plain h.mem)

-- ---- what leaves the kinds of all places

-- offers change the memory and the collector stack, and no kind
data Offers (h : Heap) : Heap → Type 0 where
  offers : {m : Mem} {g : List ℕ} → Grows h.mem m → Offers h (with_pending g (with_mem m h))

offers_one : {h h' : Heap} {v : Value} → Shade h v h' → Offers h h'
offers_one (shaded O) = offers (offered_grows O)

offers_all : (n i : ℕ) (vs : List Value) (h : Heap) → Offers h (offered_from n i vs h)
offers_all zero i vs h = offers grows_refl
offers_all (suc n) i vs h = go (offers_one (shade (get_or vs i V.Nil) h)) (offers_all n (i + 1) vs)
  where
    go : {h₁ : Heap} → Offers h h₁ → ((x : Heap) → Offers x (offered_from n (i + 1) vs x)) → Offers h (offered_from n (i + 1) vs h₁)
    go (offers {m} {g} G) f = more (f (with_pending g (with_mem m h)))
      where
        more : {h₂ : Heap} → Offers (with_pending g (with_mem m h)) h₂ → Offers h h₂
        more (offers H) = offers (grows_trans G H)

-- a write of the kind that stood there
kinds_put : (m : Mem) (p : ℕ) (c : Cell) → kind c ≡ kind (at m p) → (q : ℕ) → kind (at (put m p c) q) ≡ kind (at m q)
kinds_put m p c e q = go (cases_eq q p) (cases_lt p (size m))
  where
    go : (q ≡ p) ⊎ (q ≡ p → ⊥) → (p < size m) ⊎ (size m ≤ p) → kind (at (put m p c) q) ≡ kind (at m q)
    go (inl i) (inl l) = rw (i, at_same m p c l) e
    go (inl i) (inr l) = let l' : size (put m p c) ≤ p = rw (size_put m p c) l in rw (i, at_past (put m p c) p l', at_past m p l)
    go (inr n) _ = ap kind (at_other m p q c n)

-- ---- the phases

-- no kind changes
steady : {f : Phase} {h h' : Heap} → size h'.mem ≡ size h.mem → h'.mem.width ≡ h.mem.width → ((q : ℕ) → kind (at h'.mem q) ≡ kind (at h.mem q)) → length h'.list ≡ length h.list
    → left h'.phase (size h.mem) (tally is_plain h.mem) < left f (size h.mem) (tally is_plain h.mem) → Counts f h (stepped false h')
steady {f} {h} {h'} s w k l b = record {
  back = false;
  says = refl;
  sizes = s;
  widths = w;
  lengths = l;
  count = omega (arith, used_same h.mem h'.mem s k);
  falls = rw (s, tally_same is_plain h.mem h'.mem s k) b;
}

-- the phase changes, and offers are made
given : {f f' : Phase} {h h' : Heap} → Offers (with_phase f' h) h' → left f' (size h.mem) (tally is_plain h.mem) < left f (size h.mem) (tally is_plain h.mem) → Counts f h (stepped false h')
given (offers G) b = steady G.alike.sizes G.alike.widths G.alike.kinds refl b

-- only the phase changes
turned : {f f' : Phase} {h : Heap} → left f' (size h.mem) (tally is_plain h.mem) < left f (size h.mem) (tally is_plain h.mem) → Counts f h (stepped false (with_phase f' h))
turned b = given (offers grows_refl) b

-- the place before a returned one names it, which changes no kind
linked_size : (f : Option FreeList) (p : ℕ) (m : Mem) → size (linked f p m) ≡ size m
linked_size None p m = refl
linked_size (Some f) p m = size_put m f.last (with_part 0 (V.Cell p) (at m f.last))

linked_width : (f : Option FreeList) (p : ℕ) (m : Mem) → (linked f p m).width ≡ m.width
linked_width None p m = refl
linked_width (Some f) p m = refl

linked_kinds : (f : Option FreeList) (p : ℕ) (m : Mem) (q : ℕ) → kind (at (linked f p m) q) ≡ kind (at m q)
linked_kinds None p m q = refl
linked_kinds (Some f) p m q = kinds_put m f.last (with_part 0 (V.Cell p) (at m f.last)) refl q

-- of the invariant a step needs that there are 16 roots, and of the list that it has at most 256 values
module _ (h : Heap) (wide : length h.roots ≡ 16) (short : length h.list ≤ 256) where
  -- a place of the collector stack is plain, so one plain place fewer is left
  popped : {r s : ℕ} {b : Bool} (p : ℕ) {g : List ℕ} → h.phase ≡ P.Mark r s b → p < size h.mem → kind (at h.mem p) ≡ K.Plain
      → {h' : Heap} → Offers (with_mem (put h.mem p (marked (at h.mem p))) (with_pending g h)) h' → Counts (P.Mark r s b) h (stepped false h')
  popped {r} {s} {b} p e l k (offers {m} G) =
      let m₁ = put h.mem p (marked (at h.mem p)) in
      let a = marked_kind (at h.mem p) k in
      let z : size m ≡ size h.mem = G.alike.sizes ∙ size_put h.mem p (marked (at h.mem p)) in
      let w = tally_put is_plain h.mem p (marked (at h.mem p)) l k a in
      record {
        back = false;
        says = refl;
        sizes = z;
        widths = G.alike.widths;
        lengths = refl;
        count = omega (arith, used_same m₁ m G.alike.sizes G.alike.kinds, used_put h.mem p (marked (at h.mem p)) l k a);
        falls = subst (λ (f : Phase). left f (size m) (tally is_plain m) < left (P.Mark r s b) (size h.mem) (tally is_plain h.mem)) (sym e) (omega (arith, z, w, tally_same is_plain m₁ m G.alike.sizes G.alike.kinds));
      }

  mark_counts : {r s : ℕ} {b : Bool} {h' : Heap} → h.phase ≡ P.Mark r s b → Grey h.mem h.pending → Mark h r s b h' → Counts (P.Mark r s b) h (stepped false h')
  mark_counts e G (m_place {p} {g} d) =
      let i : In p h.pending = subst (λ (xs : List ℕ). In p xs) (sym d) (inl refl) in
      popped p e (G.each p i).0 (G.each p i).1 (offers_all h.mem.width 0 (at h.mem p).parts (with_mem (put h.mem p (marked (at h.mem p))) (with_pending g h)))
  mark_counts {r} {s} {b} e G (m_root d l) = given (offers_one (shade (get_or h.roots r V.Nil) (with_phase (P.Mark (r + 1) s b) h))) (omega (arith, l, wide))
  mark_counts {r} {s} {b} e G (m_slot d a l) = given (offers_one (shade (slot h.list s) (with_phase (P.Mark r (s + 1) b) h))) (omega (arith, l, short))
  mark_counts {r} {s} {b} e G (m_end d a l) = over b
    where
      over : (b : Bool) → Counts (P.Mark r s b) h (stepped false (mark_ended b h))
      over true = turned (omega (arith, size_is h.mem))
      over false = turned (omega arith)

  relocate_counts : {l u : ℕ} {h' : Heap} → u ≤ size h.mem → Relocate h l u h' → Counts (P.Relocate l u) h (stepped false h')
  relocate_counts b (r_low a k) = turned (omega arith)
  relocate_counts b (r_high a k e) = turned (omega arith)
  relocate_counts {l} {u} b (r_move a k e) =
      let m = h.mem in
      let m₁ = put m l (at m (u - 1)) in
      let d : u - 1 ≡ l → ⊥ = λ i. grind arith in
      let o = used_put m l (at m (u - 1)) (omega arith) k e in
      let i = used_put m₁ (u - 1) (moved_to l (at m (u - 1))) (rw (size_put m l (at m (u - 1))) (omega arith)) (ap kind (at_other m l (u - 1) (at m (u - 1)) d) ∙ e) refl in
      let z : size (moved (u - 1) l m) ≡ size m = simp size_put in
      record {
        back = false;
        says = refl;
        sizes = z;
        widths = refl;
        lengths = refl;
        count = omega (arith, o, i);
        falls = rw z (omega arith);
      }
  relocate_counts b (r_end a) = turned (omega arith)

  update_counts : {r p s : ℕ} {h' : Heap} → Update h r p s h' → Counts (P.Update r p s) h (stepped false h')
  update_counts (u_root l) = steady refl refl (λ q. refl) refl (omega (arith, l, wide))
  update_counts {p = p} (u_place a l e) = steady (size_put h.mem p _) refl (kinds_put h.mem p _ refl) refl (omega arith)
  update_counts (u_pass a l e) = turned (omega arith)
  update_counts {s = s} (u_slot a b l) = steady refl refl (λ q. refl) (length_set_slot h.list s _) (omega (arith, l, short))
  update_counts (u_end a b l) = turned (omega arith)

  reclaim_counts : {p : ℕ} {b : Bool} {h' : Heap} → Reclaim h p b h' → Counts (P.Reclaim p) h (stepped b h')
  reclaim_counts {p} (s_return l a e) =
      let m = put h.mem p last_free in
      let z : size (linked h.free p m) ≡ size h.mem = linked_size h.free p m ∙ size_put h.mem p last_free in
      let u : used (linked h.free p m) ≡ used m = used_same m (linked h.free p m) (linked_size h.free p m) (linked_kinds h.free p m) in
      record {
        back = true;
        says = refl;
        sizes = z;
        widths = linked_width h.free p m;
        lengths = refl;
        count = omega (arith, u, used_put h.mem p last_free l refl refl, one_in_use (kind (at h.mem p)) e);
        falls = rw z (omega arith);
      }
  reclaim_counts {p} (s_clear l e) =
      let c = unmarked (at h.mem p) in
      let z : size (put h.mem p c) ≡ size h.mem = size_put h.mem p c in
      record {
        back = false;
        says = refl;
        sizes = z;
        widths = refl;
        lengths = refl;
        count = omega (arith, used_put h.mem p c l e (unmarked_kind (at h.mem p) e));
        falls = rw z (omega arith);
      }
  reclaim_counts (s_pass l e) = turned (omega arith)
  reclaim_counts (s_end l) = turned (omega arith)

pub step_counts : (h : Heap) {own : Ghost} {k : Reference} → (h.phase ≡ P.Rest → ⊥) → length h.list ≤ 256 → InvOf h own k → Counts h.phase h (step h)
step_counts h {own} {k} n short I₀ = go h.phase refl n I₀
  where
    go : (f : Phase) → h.phase ≡ f → (f ≡ P.Rest → ⊥) → Inv f (CellDone f) h.mem h.pending h.free h.roots h.list own k → Counts f h (step_in f h)
    go P.Rest e n I = absurd (n refl)
    go (P.Mark r s b) e n I = mark_counts h I.wide short e I.grey (marking_way h r s b)
    go (P.Relocate l u) e n I = relocate_counts h I.wide short I.kinds.1 (relocating_way h l u)
    go (P.Update r p s) e n I = update_counts h I.wide short (updating_way h r p s)
    go (P.Reclaim p) e n I = reclaim_counts h I.wide short (reclaiming_way h p)
