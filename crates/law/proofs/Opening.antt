-- The heap as it is opened: the invariant holds, and no cell is in use.
use Rattle.std.proofs.Common.{◌≡◌, ℕ, zero, suc, ◌+◌, ◌<◌, ◌≤◌, min, false, ltb, ◌⊎◌, List, [], ◌++◌, length, drop, replicate, sym, refl, ap, ◌∙◌, inl, inr, arith, length-append, length-drop}
use Rattle.std.specs.List.{range_with_len}
use Rattle.std.proofs.lemmas.List.FromFn.{length-map-range_with_len, get_or-map-range_with_len}
use Rattle.std.proofs.lemmas.List.{get_or_append_left}
use Rattle.std.proofs.lemmas.Bool.{cases_eq, true≢false, cond_both, lt-ltb, le-ltb}
use Rattle.values.specs.Cells.{kind, blank}
use Rattle.values.specs.declared.cells.Cell.{Cell}
use Rattle.values.specs.declared.cells.Kind.TheVariants as K
use Rattle.values.specs.declared.cells.Value.{Value}
use Rattle.values.specs.declared.cells.Value.TheVariants as V
use Rattle.model.specs.declared.registers.Phase.{Phase}
use Rattle.model.specs.declared.registers.Phase.TheVariants as P
use Rattle.model.specs.Heap.{Mem, at, part, cell_in}
use Rattle.model.specs.Steps.{used, free_cell, free_cells, all_free, opened}
use Rattle.model.specs.Words.{with_part, last_free}
use Rattle.law.specs.Reference.{unused}
use Rattle.law.proofs.Memory.{size}
use Rattle.law.proofs.PlaceKinds.{is_plain}
use Rattle.law.proofs.Rows.{Rows, r_none, r_more}
use Rattle.law.specs.Live.{In, Distinct}
use Rattle.law.proofs.Free.{Linked, c_last, c_more, c_none, c_some, Vacancy}
use Rattle.law.proofs.Values.{Ghost, Good, Means, v_nil}
use Rattle.law.proofs.Inv.{InvOf}
use Rattle.law.proofs.Counting.{used_none}

-- ---- the n numbers from a on

pub in_counting : (p a n : ℕ) → a ≤ p → p < a + n → In p (range_with_len a n)
in_counting p a zero l h = absurd (omega arith)
in_counting p a (suc n) l h = go (cases_eq p a) (in_counting p (a + 1) n)
  where
    go : (p ≡ a) ⊎ (p ≡ a → ⊥) → (a + 1 ≤ p → p < a + 1 + n → In p (range_with_len (a + 1) n)) → (p ≡ a) ⊎ In p (range_with_len (a + 1) n)
    go (inl e) f = inl e
    go (inr e) f = inr (f (omega arith) (omega arith))

counting_in : (p a n : ℕ) → In p (range_with_len a n) → (a ≤ p) × (p < a + n)
counting_in p a zero i = absurd i
counting_in p a (suc n) (inl e) = (omega arith, omega arith)
counting_in p a (suc n) (inr i) = let h = counting_in p (a + 1) n i in (omega (arith, h.0), omega (arith, h.1))

counting_distinct : (a n : ℕ) → Distinct (range_with_len a n)
counting_distinct a zero = tt
counting_distinct a (suc n) = (λ i. absurd (omega (arith, (counting_in a (a + 1) n i).0)), counting_distinct (a + 1) n)

-- ---- a free list through all places, in rising order

chained : (m : Mem) (z k a : ℕ) → a + k ≡ z → ((p : ℕ) → p < z → part (at m p) 0 ≡ V.Cell (p + 1)) → part (at m z) 0 ≡ V.Nil → Linked m z a (range_with_len a (suc k))
chained m z zero a e h f = let i : a ≡ z = omega arith in rw i (c_last f)
chained m z (suc k) a e h f = c_more (h a (omega arith)) (chained m z k (a + 1) (omega arith) h f)

all_vacant : (m : Mem) (n : ℕ) → size m ≡ n → ((p : ℕ) → p < n → at m p ≡ free_cell n p) → ((p : ℕ) → p < size m → kind (at m p) ≡ K.Free) → Vacancy m (all_free n)
all_vacant m zero s c k = record { list = []; chain = c_none; distinct = tt; each = λ p i. absurd i; all = λ p l e. absurd (omega arith) }
all_vacant m (suc n) s c k = record {
  list = range_with_len 0 (suc n);
  chain = c_some (chained m n n 0 (omega arith) next (rw (c n (omega arith), le-ltb (n + 1) (suc n) (omega arith))));
  distinct = counting_distinct 0 (suc n);
  each = λ p i. let l : p < size m = omega (arith, (counting_in p 0 (suc n) i).1) in (l, k p l);
  all = λ p l e. in_counting p 0 (suc n) (omega arith) (omega arith);
}
  where
    next : (p : ℕ) → p < n → part (at m p) 0 ≡ V.Cell (p + 1)
    next p l = rw (c p (omega arith), lt-ltb (p + 1) (suc n) (omega arith))

nils : {ph : Phase} {m : Mem} {own : Ghost} (n : ℕ) → Rows (Means ph m own) (replicate n V.Nil) (replicate n V.Nil)
nils zero = r_none
nils (suc n) = r_more v_nil (nils n)

module _ (w : ℕ) (cs : List Cell) where
  abbrev n : ℕ
  n = min 4096 (length cs)

  abbrev m : Mem
  m = (opened w cs).mem

  pub open_size : size m ≡ n
  unfolding size
  open_size =
      let l : length (free_cells n ++ drop n cs) ≡ length cs = length-append (free_cells n) (drop n cs) ∙ omega (arith, length-map-range_with_len (free_cell n) 0 n, length-drop n cs) in
      ap (min 4096) l

  reads : (p : ℕ) → p < n → at m p ≡ free_cell n p
  unfolding cell_in
  reads p l =
      let a : p < 4096 = omega arith in
      rw (lt-ltb p 4096 a) (get_or_append_left (free_cells n) (drop n cs) blank p (omega (arith, length-map-range_with_len (free_cell n) 0 n)) ∙ get_or-map-range_with_len (free_cell n) 0 n p p blank l (omega arith))

  -- what holds of a free cell that names another, and of the last one, holds of every place
  each : (Q : Cell → Type 0) → ((v : Value) → Q (with_part 0 v last_free)) → (p : ℕ) → p < size m → Q (at m p)
  each Q h p l = rw (reads p (rw open_size at l)) (cond_both (ltb (p + 1) n) (with_part 0 (V.Cell (p + 1)) last_free) last_free Q (λ _. h (V.Cell (p + 1))) (λ _. h V.Nil))

  vacant : (p : ℕ) → p < size m → kind (at m p) ≡ K.Free
  vacant = each (λ c. kind c ≡ K.Free) (λ v. refl)

  pub open_used : used m ≡ 0
  open_used = used_none m vacant

  none_good : {own : Ghost} (p : ℕ) → p < size m → Good P.Rest m own p → ⊥
  none_good p l G = true≢false (sym G.is ∙ ap is_plain (vacant p l))

  pub open_inv : 1 ≤ w → w ≤ 2 → InvOf (opened w cs) (record { to = λ _. 0; ok = λ _. Unit {0} }) unused
  open_inv low high = record {
    cells = record { parts = λ p l G. absurd (none_good p l G); full = λ p l G. absurd (none_good p l G); owned = λ p l G. absurd (none_good p l G); apart = λ p q l _ G. absurd (none_good p l G) };
    roots = nils 16;
    list = r_none;
    even = each (λ c. w ≤ length c.parts) (λ v. high);
    spare = λ p l i a. each (λ c. part c i ≡ V.Nil) (λ v. beyond v i (omega arith)) p l;
    wide = refl;
    grey = record { distinct = tt; each = λ p i. absurd i; all = λ p l e. absurd (true≢false (sym e ∙ each (λ c. c.waiting ≡ false) (λ v. refl) p l)) };
    quiet = refl;
    kinds = λ p l. inr (vacant p l);
    vacancy = all_vacant m n open_size reads vacant;
    fair = λ p l d. tt;
    later = λ b l. tt;
    root_new = λ i d. absurd d;
    slot_new = λ i d. absurd d;
    part_new = λ p l d. absurd d;
  }
    where
      beyond : (v : Value) (i : ℕ) → 1 ≤ i → part (with_part 0 v last_free) i ≡ V.Nil
      beyond v zero l = absurd (omega arith)
      beyond v (suc zero) l = refl
      beyond v (suc (suc i)) l = refl
