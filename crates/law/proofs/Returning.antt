-- A place goes to the end of the free list.
use Rattle.std.proofs.Common.{◌≡◌, ℕ, ◌<◌, ◌≤◌, ◌⊎◌, List, [], ◌∷◌, ◌++◌, Some, Option, sym, refl, ap, ◌∙◌, subst, inl, inr}
use Rattle.values.specs.Cells.{kind}
use Rattle.values.specs.declared.cells.Cell.{Cell}
use Rattle.values.specs.declared.cells.Kind.TheVariants as K
use Rattle.values.specs.declared.cells.Value.TheVariants as V
use Rattle.model.specs.declared.registers.FreeList.{FreeList}
use Rattle.model.specs.Heap.{Mem, at, put, part}
use Rattle.model.specs.Steps.{longer, linked}
use Rattle.model.specs.Words.{with_part, last_free}
use Rattle.law.proofs.Memory.{size, size_put, at_same, at_other, Written, here, there, written}
use Rattle.law.specs.Live.{In, Distinct}
use Rattle.law.proofs.Free.{Linked, c_last, c_more, Chain, c_none, c_some, Vacancy}
use Rattle.law.proofs.Shapes.{Shaped, set_first}

-- ---- a list of places with one more at its end
in_end : (q p : ℕ) (ps : List ℕ) → In q (ps ++ p ∷ []) → In q ps ⊎ (q ≡ p)
in_end q p [] (inl e) = inr e
in_end q p [] (inr i) = absurd i
in_end q p (x ∷ ps) (inl e) = inl (inl e)
in_end q p (x ∷ ps) (inr i) = go (in_end q p ps i)
  where
    go : In q ps ⊎ (q ≡ p) → ((q ≡ x) ⊎ In q ps) ⊎ (q ≡ p)
    go (inl j) = inl (inr j)
    go (inr e) = inr e

end_in : (q p : ℕ) (ps : List ℕ) → In q ps ⊎ (q ≡ p) → In q (ps ++ p ∷ [])
end_in q p [] (inl i) = absurd i
end_in q p [] (inr e) = inl e
end_in q p (x ∷ ps) (inl (inl e)) = inl e
end_in q p (x ∷ ps) (inl (inr i)) = inr (end_in q p ps (inl i))
end_in q p (x ∷ ps) (inr e) = inr (end_in q p ps (inr e))

distinct_end : (p : ℕ) (ps : List ℕ) → Distinct ps → (In p ps → ⊥) → Distinct (ps ++ p ∷ [])
distinct_end p [] d n = (λ i. i, tt)
distinct_end p (x ∷ ps) d n = (λ i. go (in_end x p ps i), distinct_end p ps d.1 (λ i. n (inr i)))
  where
    go : In x ps ⊎ (x ≡ p) → ⊥
    go (inl i) = d.0 i
    go (inr e) = n (inl (sym e))

-- ---- the chain with one more link
last_in : {m : Mem} {z a : ℕ} {ps : List ℕ} → Linked m z a ps → In z ps
last_in (c_last e) = inl refl
last_in (c_more e L) = inr (last_in L)

linked_end : {m m' : Mem} {z a : ℕ} {ps : List ℕ} (p : ℕ) → Linked m z a ps → Distinct ps → part (at m' z) 0 ≡ V.Cell p → part (at m' p) 0 ≡ V.Nil → ((q : ℕ) → In q ps → (q ≡ z → ⊥) → part (at m' q) 0 ≡ part (at m q) 0) → Linked m' p a (ps ++ p ∷ [])
linked_end p (c_last e) d hz hp h = c_more hz (c_last hp)
linked_end p (c_more {p = a} {q} {ps = qs} e L) d hz hp h =
    c_more (h a (inl refl) (λ i. d.0 (subst (λ (j : ℕ). In j (q ∷ qs)) (sym i) (last_in L))) ∙ e) (linked_end p L d.1 hz hp (λ j i n. h j (inr i) n))

-- ---- the memory with the place p at the end of its free list

-- how a place reads then
pub data Returned (m m' : Mem) (p q : ℕ) : Type 0 where
  this : q ≡ p → at m' q ≡ last_free → Returned m m' p q
  last : (q ≡ p → ⊥) → q < size m → kind (at m q) ≡ K.Free → at m' q ≡ with_part 0 (V.Cell p) (at m q) → Returned m m' p q
  other : (q ≡ p → ⊥) → at m' q ≡ at m q → Returned m m' p q

-- ps are the free places before, and f is the list's ends afterwards
pub record Appended (m : Mem) (p : ℕ) (ps : List ℕ) (f : Option FreeList) (m' : Mem) : Type 0 where
  pub sizes : size m' ≡ size m
  pub widths : m'.width ≡ m.width
  pub view : (q : ℕ) → Returned m m' p q
  pub chain : Chain m' f (ps ++ p ∷ [])

module _ (m : Mem) (p : ℕ) (l : p < size m) (n : kind (at m p) ≡ K.Free → ⊥) (w : 1 ≤ m.width) (shape : (q : ℕ) → q < size m → Shaped m.width (at m q).parts) where
  -- no free place is the one that is returned
  other_than : (q : ℕ) → kind (at m q) ≡ K.Free → q ≡ p → ⊥
  other_than q k e = n (subst (λ (j : ℕ). kind (at m j) ≡ K.Free) e k)

  appended : {f : Option FreeList} {ps : List ℕ} → Chain m f ps → Distinct ps → ((q : ℕ) → In q ps → (q < size m) × (kind (at m q) ≡ K.Free)) → Appended m p ps (Some (longer f p)) (linked f p (put m p last_free))
  appended c_none d each = record {
    sizes = size_put m p last_free;
    widths = refl;
    view = λ q. view q (written m p last_free q l);
    chain = c_some (c_last (ap (λ (x : Cell). part x 0) (at_same m p last_free l)));
  }
    where
      view : (q : ℕ) → Written m p last_free q → Returned m (put m p last_free) p q
      view q (here e a) = this e a
      view q (there e a) = other e a
  appended (c_some {z = z} {ps} L) d each = record {
    sizes = simp size_put;
    widths = refl;
    view = λ q. view q (written m₁ z c q z_in) (written m p last_free q l);
    chain = c_some (linked_end p L d (rw (at_same m₁ z c z_in, at_other m p z last_free z_not) (set_first (V.Cell p) w (shape z z_free.0)))
        (rw (at_other m₁ z p c (λ e. z_not (sym e)), at_same m p last_free l)) (λ q i e. rw (at_other m₁ z q c e, at_other m p q last_free (other_than q (each q i).1))));
  }
    where
      m₁ : Mem
      m₁ = put m p last_free

      c : Cell
      c = with_part 0 (V.Cell p) (at m₁ z)

      z_free : (z < size m) × (kind (at m z) ≡ K.Free)
      z_free = each z (last_in L)

      z_in : z < size m₁
      z_in = rw size_put z_free.0

      z_not : z ≡ p → ⊥
      z_not = other_than z z_free.1

      view : (q : ℕ) → Written m₁ z c q → Written m p last_free q → Returned m (put m₁ z c) p q
      view q (here i b) (here j a) = absurd (z_not (sym i ∙ j))
      view q (here i b) (there e a) = last e (rw i z_free.0) (rw i z_free.1) (rw (b, i, at_other m p z last_free z_not))
      view q (there e b) (here j a) = this j (b ∙ a)
      view q (there e b) (there e' a) = other e' (b ∙ a)

  module _ {f : Option FreeList} (W : Vacancy m f) where
    abbrev m' : Mem
    m' = linked f p (put m p last_free)

    pub returning : Appended m p W.list (Some (longer f p)) m'
    returning = appended W.chain W.distinct W.each

    pub return_vacancy : Vacancy m' (Some (longer f p))
    return_vacancy = record {
      list = W.list ++ p ∷ [];
      chain = returning.chain;
      distinct = distinct_end p W.list W.distinct (λ i. n (W.each p i).1);
      each = λ q i. each q (in_end q p W.list i) (returning.view q);
      all = λ q a k. end_in q p W.list (all q (rw returning.sizes at a) k (returning.view q));
    }
      where
        each : (q : ℕ) → In q W.list ⊎ (q ≡ p) → Returned m m' p q → (q < size m') × (kind (at m' q) ≡ K.Free)
        each q i (this e a) = (rw (returning.sizes, e) l, rw a)
        each q i (last e x k a) = (rw returning.sizes x, rw a k)
        each q (inl i) (other e a) = (rw returning.sizes (W.each q i).0, rw a (W.each q i).1)
        each q (inr i) (other e a) = absurd (e i)

        all : (q : ℕ) → q < size m → kind (at m' q) ≡ K.Free → Returned m m' p q → In q W.list ⊎ (q ≡ p)
        all q x k (this e a) = inr e
        all q x k (last e y k' a) = inl (W.all q x k')
        all q x k (other e a) = inl (W.all q x (rw a at k))
