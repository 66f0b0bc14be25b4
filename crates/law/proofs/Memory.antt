-- What a memory says after a write.
use Rattle.std.proofs.Common.{◌≡◌, ℕ, ◌<◌, ◌≤◌, min, true, cond, ltb, ◌⊎◌, length, get_or, set, refl, inl, inr, arith, length-set, get_or-set_other, get_or-set_same}
use Rattle.std.proofs.lemmas.Bool.{cases_eq, cases_lt, lt-ltb, le-ltb, cond_both}
use Rattle.std.proofs.lemmas.List.{get_or_past}
use Rattle.values.specs.Cells.{blank}
use Rattle.values.specs.declared.cells.Cell.{Cell}
use Rattle.model.specs.Heap.{Mem, limit, at, put, cell_in, cells_with}

-- the number of places, shut so that goals stay small
unfoldable pub size : Mem → ℕ
size m = limit m

pub size_is : (m : Mem) → limit m ≡ size m
unfolding size
size_is m = refl

pub size_small : (m : Mem) → size m ≤ 4096
unfolding size
size_small m = omega arith

pub size_put : (m : Mem) (p : ℕ) (c : Cell) → size (put m p c) ≡ size m
unfolding size cells_with
size_put m p c = cond_both (ltb p 4096) (set m.cells p c) m.cells (λ xs. min 4096 (length xs) ≡ min 4096 (length m.cells)) (λ _. rw (length-set m.cells p c)) (λ _. refl)

pub at_same : (m : Mem) (p : ℕ) (c : Cell) → p < size m → at (put m p c) p ≡ c
unfolding size cells_with cell_in
at_same m p c l = let a : ltb p 4096 ≡ true = lt-ltb p 4096 (omega arith) in rw a (get_or-set_same m.cells p c blank (omega arith))

pub at_other : (m : Mem) (p q : ℕ) (c : Cell) → (q ≡ p → ⊥) → at (put m p c) q ≡ at m q
unfolding cells_with cell_in
at_other m p q c n =
    let same : get_or (set m.cells p c) q blank ≡ get_or m.cells q blank = get_or-set_other m.cells p q c blank n in
    cond_both (ltb p 4096) (set m.cells p c) m.cells (λ xs. cond (ltb q 4096) (get_or xs q blank) blank ≡ cond (ltb q 4096) (get_or m.cells q blank) blank) (λ _. rw same) (λ _. refl)

-- a place that there is not is blank
pub at_past : (m : Mem) (p : ℕ) → size m ≤ p → at m p ≡ blank
unfolding size cell_in
at_past m p l = go (cases_lt p 4096)
  where
    go : (p < 4096) ⊎ (4096 ≤ p) → cond (ltb p 4096) (get_or m.cells p blank) blank ≡ blank
    go (inl a) = rw (lt-ltb p 4096 a) (get_or_past m.cells p blank (omega arith))
    go (inr a) = rw (le-ltb p 4096 a)

-- how a place reads after a write
pub data Written (m : Mem) (p : ℕ) (c : Cell) (q : ℕ) : Type 0 where
  here : q ≡ p → at (put m p c) q ≡ c → Written m p c q
  there : (q ≡ p → ⊥) → at (put m p c) q ≡ at m q → Written m p c q

pub written : (m : Mem) (p : ℕ) (c : Cell) (q : ℕ) → p < size m → Written m p c q
written m p c q h = go (cases_eq q p)
  where
    go : (q ≡ p) ⊎ (q ≡ p → ⊥) → Written m p c q
    go (inl e) = here e (rw e (at_same m p c h))
    go (inr n) = there n (at_other m p q c n)
