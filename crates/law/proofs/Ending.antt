-- At the end of a cycle no more cells are in use than were live at its begin or made since.
use Rattle.std.proofs.Common.{◌≡◌, ℕ, zero, suc, ◌+◌, ◌<◌, ◌≤◌, Bool, true, false, cond, ◌⊎◌, List, [], ◌∷◌, ◌++◌, length, sym, refl, ap, ◌∙◌, inl, inr, arith, length-append}
use Rattle.std.specs.List.{range_with_len}
use Rattle.std.proofs.lemmas.List.FromFn.{length-range_with_len}
use Rattle.std.proofs.lemmas.Bool.{true≢false}
use Rattle.values.specs.Cells.{kind}
use Rattle.values.specs.declared.cells.Kind.{Kind}
use Rattle.values.specs.declared.cells.Kind.TheVariants as K
use Rattle.model.specs.declared.registers.Phase.TheVariants as P
use Rattle.model.specs.Heap.{Heap, at}
use Rattle.model.specs.Steps.{used}
use Rattle.law.specs.Live.{live, In, Distinct}
use Rattle.law.specs.Reference.{Reference, made}
use Rattle.law.proofs.Memory.{size}
use Rattle.law.proofs.PlaceKinds.{is_plain}
use Rattle.law.proofs.Places.{at_most}
use Rattle.law.proofs.Values.{Ghost, Good}
use Rattle.law.proofs.Inv.{InvOf, CellDone}
use Rattle.law.proofs.Give.{InvAt}
use Rattle.law.proofs.Turning.{in_phase}
use Rattle.law.proofs.Beginning.{Allowed}
use Rattle.law.proofs.Counting.{counted, tally, is_used, used_is}
use Rattle.law.proofs.Opening.{in_counting}
use Rattle.law.proofs.Visit.{live_all}

-- ---- what the numbers below n that pass a test hold
gathered : (ℕ → Bool) → (ℕ → ℕ) → ℕ → List ℕ
gathered f to zero = []
gathered f to (suc n) = cond (f n) (to n ∷ gathered f to n) (gathered f to n)

record Held (f : ℕ → Bool) (to : ℕ → ℕ) (n b : ℕ) : Type 0 where
  place : ℕ
  below : place < n
  passes : f place ≡ true
  holds : to place ≡ b

module _ (f : ℕ → Bool) (to : ℕ → ℕ) where
  gathered_length : (n : ℕ) → length (gathered f to n) ≡ counted f n
  unfolding gathered counted
  gathered_length zero = refl
  gathered_length (suc n) = go (f n) (gathered_length n)
    where
      go : (t : Bool) → length (gathered f to n) ≡ counted f n → length (cond t (to n ∷ gathered f to n) (gathered f to n)) ≡ cond t 1 0 + counted f n
      go true e = omega arith
      go false e = omega arith

  held : (n b : ℕ) → In b (gathered f to n) → Held f to n b
  unfolding gathered
  held zero b i = absurd i
  held (suc n) b i = go (f n) refl i (held n b)
    where
      more : Held f to n b → Held f to (suc n) b
      more H = record { place = H.place; below = omega (arith, H.below); passes = H.passes; holds = H.holds }

      go : (t : Bool) → f n ≡ t → In b (cond t (to n ∷ gathered f to n) (gathered f to n)) → (In b (gathered f to n) → Held f to n b) → Held f to (suc n) b
      go true e (inl d) h = record { place = n; below = omega arith; passes = e; holds = sym d }
      go true e (inr j) h = more (h j)
      go false e j h = more (h j)

  gathered_distinct : (n : ℕ) → ((p q : ℕ) → p < n → q < n → f p ≡ true → f q ≡ true → to p ≡ to q → p ≡ q) → Distinct (gathered f to n)
  unfolding gathered
  gathered_distinct zero h = tt
  gathered_distinct (suc n) h = go (f n) refl (gathered_distinct n (λ p q a b. h p q (omega arith) (omega arith)))
    where
      go : (t : Bool) → f n ≡ t → Distinct (gathered f to n) → Distinct (cond t (to n ∷ gathered f to n) (gathered f to n))
      go true e d = (λ i. let H = held n (to n) i in let z : H.place ≡ n = h H.place n (omega (arith, H.below)) (omega arith) H.passes e H.holds in absurd (omega (arith, H.below)), d)
      go false e d = d

in_append : (b : ℕ) (xs ys : List ℕ) → In b xs ⊎ In b ys → In b (xs ++ ys)
in_append b [] ys (inl i) = absurd i
in_append b [] ys (inr i) = i
in_append b (x ∷ xs) ys (inl (inl e)) = inl e
in_append b (x ∷ xs) ys (inl (inr i)) = inr (in_append b xs ys (inl i))
in_append b (x ∷ xs) ys (inr i) = inr (in_append b xs ys (inr i))

-- at rest a place in use is plain
plain_of : (c : Kind) → (c ≡ K.Plain) ⊎ (c ≡ K.Free) → is_used c ≡ true → is_plain c ≡ true
plain_of c (inl e) u = ap is_plain e
plain_of c (inr e) u = absurd (true≢false (sym u ∙ ap is_used e))

-- the cells that places in use hold are distinct, and each was live at the begin or is one of those made since
pub cycle_bound : (h : Heap) (to : ℕ → ℕ) (k₀ k : Reference) → h.phase ≡ P.Rest → InvOf h (record { to = to; ok = Allowed k₀ }) k → (since : ℕ) → made k.cells ≤ made k₀.cells + since → used h.mem ≤ length (live k₀) + since
unfolding tally
cycle_bound h to k₀ k e I₀ since more = go (in_phase h e I₀)
  where
    own : Ghost
    own = record { to = to; ok = Allowed k₀ }

    test : ℕ → Bool
    test p = is_used (kind (at h.mem p))

    go : InvAt P.Rest (CellDone P.Rest) h own k → used h.mem ≤ length (live k₀) + since
    go I =
        let n = made k₀.cells in
        let D = gathered_distinct test to (size h.mem) (λ p q a b u v i. I.cells.apart p q a b (good p a u) (good q b v) i) in
        let M = at_most (gathered test to (size h.mem)) (live k₀ ++ range_with_len n since) D (λ b i. in_append b (live k₀) (range_with_len n since) (sort b (held test to (size h.mem) b i))) in
        omega (arith, M, used_is h.mem, gathered_length test to (size h.mem), length-append (live k₀) (range_with_len n since), length-range_with_len n since)
      where
        good : (p : ℕ) → p < size h.mem → test p ≡ true → Good P.Rest h.mem own p
        good p l u = let w = plain_of (kind (at h.mem p)) (I.kinds p l) u in record { is = w; allowed = I.fair p l w }

        sort : (b : ℕ) → Held test to (size h.mem) b → In b (live k₀) ⊎ In b (range_with_len (made k₀.cells) since)
        sort b H = by G.allowed
          where
            G : Good P.Rest h.mem own H.place
            G = good H.place H.below H.passes

            by : Allowed k₀ (to H.place) → In b (live k₀) ⊎ In b (range_with_len (made k₀.cells) since)
            by (inl d) = inl (live_all k₀ b (rw H.holds at d))
            by (inr l) = inr (in_counting b (made k₀.cells) since (rw H.holds at l) (omega (arith, more, H.holds, I.cells.owned H.place H.below G)))
