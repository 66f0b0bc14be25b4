-- How many places are of some kinds, and how many cells are in use.
use Rattle.std.proofs.Common.{◌≡◌, ℕ, zero, suc, ◌+◌, ◌<◌, ◌≤◌, Bool, true, false, cond, ◌⊎◌, List, [], ◌∷◌, length, get_or, take, Some, None, sym, refl, ap, ◌∙◌, inl, inr, arith, length-take, get_or-take}
use Rattle.std.proofs.lemmas.Bool.{cases_eq, cond_both, lt-ltb}
use Rattle.values.specs.Cells.{kind, blank}
use Rattle.values.specs.declared.cells.Cell.{Cell}
use Rattle.values.specs.declared.cells.Kind.{Kind}
use Rattle.values.specs.declared.cells.Kind.TheVariants as K
use Rattle.model.specs.declared.registers.FreeList.{FreeList}
use Rattle.model.specs.Heap.{Heap, Mem, at, put, cell_in}
use Rattle.model.specs.Steps.{used, used_in, in_use}
use Rattle.law.proofs.Memory.{size, size_small, size_put, at_same, at_other}
use Rattle.law.specs.Live.{In}
use Rattle.law.proofs.Free.{Linked, c_last, c_more, Chain, c_none, c_some, Vacancy}
use Rattle.law.proofs.Sim.{Still}

-- ---- numbers that pass a test

-- how many of the numbers below n do
unfoldable pub counted : (ℕ → Bool) → ℕ → ℕ
counted f zero = 0
counted f (suc n) = cond (f n) 1 0 + counted f n

counted_same : (f g : ℕ → Bool) (n : ℕ) → ((p : ℕ) → p < n → g p ≡ f p) → counted g n ≡ counted f n
unfolding counted
counted_same f g zero h = refl
counted_same f g (suc n) h = rw (h n (omega arith)) (ap (λ (x : ℕ). cond (f n) 1 0 + x) (counted_same f g n (λ p l. h p (omega arith))))

-- the test changes at p alone
counted_change : (f g : ℕ → Bool) (p n : ℕ) → p < n → ((q : ℕ) → (q ≡ p → ⊥) → g q ≡ f q) → counted g n + cond (f p) 1 0 ≡ counted f n + cond (g p) 1 0
unfolding counted
counted_change f g p zero l h = absurd (omega arith)
counted_change f g p (suc n) l h = go (cases_eq p n) (λ m. counted_change f g p n m h)
  where
    go : (p ≡ n) ⊎ (p ≡ n → ⊥) → (p < n → counted g n + cond (f p) 1 0 ≡ counted f n + cond (g p) 1 0)
        → cond (g n) 1 0 + counted g n + cond (f p) 1 0 ≡ cond (f n) 1 0 + counted f n + cond (g p) 1 0
    go (inl e) ih = let s : counted g n ≡ counted f n = counted_same f g n (λ q m. h q (λ d. omega arith)) in rw e (omega arith)
    go (inr d) ih = rw (h n (λ e. d (sym e))) (omega (arith, ih (omega arith)))

counted_const : (b : Bool) (f : ℕ → Bool) (n : ℕ) → ((p : ℕ) → p < n → f p ≡ b) → counted f n ≡ cond b n 0
unfolding counted
counted_const true f zero h = refl
counted_const false f zero h = refl
counted_const true f (suc n) h = let i : counted f n ≡ n = counted_const true f n (λ p l. h p (omega arith)) in rw (h n (omega arith)) (omega arith)
counted_const false f (suc n) h = let i : counted f n ≡ 0 = counted_const false f n (λ p l. h p (omega arith)) in rw (h n (omega arith)) (omega arith)

counted_most : (f : ℕ → Bool) (n : ℕ) → counted f n ≤ n
unfolding counted
counted_most f zero = omega arith
counted_most f (suc n) = cond_both (f n) 1 0 (λ x. x + counted f n ≤ suc n) (λ _. omega (arith, counted_most f n)) (λ _. omega (arith, counted_most f n))

counted_less : (f : ℕ → Bool) (p n : ℕ) → p < n → f p ≡ false → counted f n < n
unfolding counted
counted_less f p zero l e = absurd (omega arith)
counted_less f p (suc n) l e = go (cases_eq p n) (λ m. counted_less f p n m e)
  where
    go : (p ≡ n) ⊎ (p ≡ n → ⊥) → (p < n → counted f n < n) → cond (f n) 1 0 + counted f n < suc n
    go (inl d) ih = let z : f n ≡ false = rw d at e in rw z (omega (arith, counted_most f n))
    go (inr d) ih = cond_both (f n) 1 0 (λ x. x + counted f n < suc n) (λ _. omega (arith, ih (omega arith))) (λ _. omega (arith, counted_most f n))

counted_front : (f : ℕ → Bool) (n : ℕ) → counted f (suc n) ≡ cond (f 0) 1 0 + counted (λ i. f (suc i)) n
unfolding counted
counted_front f zero = refl
counted_front f (suc n) = let e : cond (f n) 1 0 + counted f n ≡ cond (f 0) 1 0 + counted (λ i. f (suc i)) n = counted_front f n in omega arith

-- ---- places whose kind passes a test
unfoldable pub tally : (Kind → Bool) → Mem → ℕ
tally t m = counted (λ p. t (kind (at m p))) (size m)

pub tally_most : (t : Kind → Bool) (m : Mem) → tally t m ≤ size m
unfolding tally
tally_most t m = counted_most (λ p. t (kind (at m p))) (size m)

pub tally_same : (t : Kind → Bool) (m m' : Mem) → size m' ≡ size m → ((p : ℕ) → kind (at m' p) ≡ kind (at m p)) → tally t m' ≡ tally t m
unfolding tally
tally_same t m m' s h = rw s (counted_same (λ p. t (kind (at m p))) (λ p. t (kind (at m' p))) (size m) (λ p _. ap t (h p)))

-- the place p alone changes its kind
pub tally_change : (t : Kind → Bool) (m m' : Mem) (p : ℕ) → size m' ≡ size m → p < size m → ((q : ℕ) → (q ≡ p → ⊥) → kind (at m' q) ≡ kind (at m q)) → tally t m' + cond (t (kind (at m p))) 1 0 ≡ tally t m + cond (t (kind (at m' p))) 1 0
unfolding tally
tally_change t m m' p s l h = rw s (counted_change (λ q. t (kind (at m q))) (λ q. t (kind (at m' q))) p (size m) l (λ q n. ap t (h q n)))

-- a place of kind a is written with a cell of kind b
pub tally_put : (t : Kind → Bool) (m : Mem) (p : ℕ) (c : Cell) {a b : Kind} → p < size m → kind (at m p) ≡ a → kind c ≡ b → tally t (put m p c) + cond (t a) 1 0 ≡ tally t m + cond (t b) 1 0
tally_put t m p c l d e = rw (at_same m p c l, d, e) at (tally_change t m (put m p c) p (size_put m p c) l (λ q n. ap kind (at_other m p q c n)))

-- ---- cells in use
abbrev pub is_used : Kind → Bool
is_used K.Plain = true
is_used K.Accessible = true
is_used K.Moved = true
is_used K.Free = false

used_kind : (k : Kind) → (k ≡ K.Free → ⊥) → is_used k ≡ true
used_kind K.Plain n = refl
used_kind K.Accessible n = refl
used_kind K.Moved n = refl
used_kind K.Free n = absurd (n refl)

one_used : (k : Kind) → in_use k ≡ cond (is_used k) 1 0
one_used K.Plain = refl
one_used K.Accessible = refl
one_used K.Moved = refl
one_used K.Free = refl

pub one_in_use : (k : Kind) → (k ≡ K.Free → ⊥) → in_use k ≡ 1
one_in_use k n = one_used k ∙ ap (λ (b : Bool). cond b 1 0) (used_kind k n)

used_counted : (cs : List Cell) → used_in cs ≡ counted (λ p. is_used (kind (get_or cs p blank))) (length cs)
unfolding counted
used_counted [] = refl
used_counted (c ∷ cs) = sum (one_used (kind c)) (used_counted cs) ∙ sym (counted_front (λ p. is_used (kind (get_or (c ∷ cs) p blank))) (length cs))
  where
    sum : {a b c d : ℕ} → a ≡ b → c ≡ d → a + c ≡ b + d
    sum e i = omega arith

pub used_is : (m : Mem) → used m ≡ tally is_used m
unfolding tally size cell_in
used_is m = used_counted (take 4096 m.cells) ∙ rw (length-take 4096 m.cells) (counted_same (λ p. is_used (kind (at m p))) (λ p. is_used (kind (get_or (take 4096 m.cells) p blank))) (size m) (λ p l. ap (λ (c : Cell). is_used (kind c)) (read p l)))
  where
    read : (p : ℕ) → p < size m → get_or (take 4096 m.cells) p blank ≡ at m p
    read p l = let a : p < 4096 = omega (arith, size_small m) in rw (lt-ltb p 4096 a) (get_or-take 4096 m.cells p blank a)

pub used_most : (m : Mem) → used m ≤ size m
used_most m = rw (used_is m) (tally_most is_used m)

pub used_same : (m m' : Mem) → size m' ≡ size m → ((p : ℕ) → kind (at m' p) ≡ kind (at m p)) → used m' ≡ used m
used_same m m' s h = used_is m' ∙ tally_same is_used m m' s h ∙ sym (used_is m)

pub used_still : {h h' : Heap} → Still h h' → used h'.mem ≡ used h.mem
used_still {h} {h'} S = used_same h.mem h'.mem S.sizes S.kinds

pub used_put : (m : Mem) (p : ℕ) (c : Cell) {a b : Kind} → p < size m → kind (at m p) ≡ a → kind c ≡ b → used (put m p c) + in_use a ≡ used m + in_use b
used_put m p c {a} {b} l d e = rw (used_is m, used_is (put m p c), one_used a, one_used b) (tally_put is_used m p c l d e)

-- a free place becomes one of another kind, and no other place changes its kind
pub used_taken : (m m' : Mem) (p : ℕ) → size m' ≡ size m → p < size m → kind (at m p) ≡ K.Free → (kind (at m' p) ≡ K.Free → ⊥) → ((q : ℕ) → (q ≡ p → ⊥) → kind (at m' q) ≡ kind (at m q)) → used m' ≡ used m + 1
used_taken m m' p s l e n h =
    let c = tally_change is_used m m' p s l h in
    let a : is_used (kind (at m p)) ≡ false = ap is_used e in
    let b : is_used (kind (at m' p)) ≡ true = used_kind (kind (at m' p)) n in
    rw (used_is m, used_is m') (go (rw (a, b) at c))
  where
    go : tally is_used m' + 0 ≡ tally is_used m + 1 → tally is_used m' ≡ tally is_used m + 1
    go c = omega arith

-- where every place is free none is in use
pub used_none : (m : Mem) → ((p : ℕ) → p < size m → kind (at m p) ≡ K.Free) → used m ≡ 0
unfolding tally
used_none m h = used_is m ∙ counted_const false (λ p. is_used (kind (at m p))) (size m) (λ p l. ap is_used (h p l))

-- with no free list every place is in use
pub full_used : {m : Mem} → Vacancy m None → used m ≡ size m
unfolding tally
full_used {m} W = used_is m ∙ counted_const true (λ p. is_used (kind (at m p))) (size m) (λ p l. used_kind (kind (at m p)) (λ e. empty W.chain p (W.all p l e)))
  where
    empty : {ps : List ℕ} → Chain m None ps → (p : ℕ) → In p ps → ⊥
    empty c_none p i = i

-- else some place is free
pub free_used : {m : Mem} {f : FreeList} → Vacancy m (Some f) → used m < size m
unfolding tally
free_used {m} W = rw (used_is m) (go W.chain W.each)
  where
    first : {z p : ℕ} {ps : List ℕ} → Linked m z p ps → In p ps
    first (c_last e) = inl refl
    first (c_more e c) = inl refl

    go : {f : FreeList} {ps : List ℕ} → Chain m (Some f) ps → ((p : ℕ) → In p ps → (p < size m) × (kind (at m p) ≡ K.Free)) → counted (λ p. is_used (kind (at m p))) (size m) < size m
    go (c_some {p} c) h = counted_less (λ p. is_used (kind (at m p))) p (size m) (h p (first c)).0 (ap is_used (h p (first c)).1)
