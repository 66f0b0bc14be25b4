-- The free list is a chain through exactly the free places.
use Rattle.std.proofs.Common.{◌≡◌, ℕ, ◌<◌, List, [], ◌∷◌, Some, None, Option, refl, ◌∙◌, inl, inr}
use Rattle.values.specs.Cells.{kind}
use Rattle.values.specs.declared.cells.Cell.{Cell}
use Rattle.values.specs.declared.cells.Kind.TheVariants as K
use Rattle.values.specs.declared.cells.Value.TheVariants as V
use Rattle.model.specs.declared.registers.FreeList.{FreeList}
use Rattle.model.specs.Heap.{Mem, at, put, part}
use Rattle.law.proofs.Memory.{size, size_put, Written, here, there, written}
use Rattle.law.specs.Live.{In, Distinct}

-- from the first place through first components to the last
pub data Linked (m : Mem) (z : ℕ) : ℕ → List ℕ → Type 0 where
  c_last : part (at m z) 0 ≡ V.Nil → Linked m z z (z ∷ [])
  c_more : {p q : ℕ} {ps : List ℕ} → part (at m p) 0 ≡ V.Cell q → Linked m z q (q ∷ ps) → Linked m z p (p ∷ (q ∷ ps))

pub data Chain (m : Mem) : Option FreeList → List ℕ → Type 0 where
  c_none : Chain m None []
  c_some : {p z : ℕ} {ps : List ℕ} → Linked m z p ps → Chain m (Some (record { first = p; last = z })) ps

pub record Vacancy (m : Mem) (f : Option FreeList) : Type 0 where
  pub list : List ℕ
  pub chain : Chain m f list
  pub distinct : Distinct list
  pub each : (p : ℕ) → In p list → (p < size m) × (kind (at m p) ≡ K.Free)
  pub all : (p : ℕ) → p < size m → kind (at m p) ≡ K.Free → In p list

linked_keep : {m m' : Mem} {z p : ℕ} {ps : List ℕ} → ((q : ℕ) → In q ps → part (at m' q) 0 ≡ part (at m q) 0) → Linked m z p ps → Linked m' z p ps
linked_keep {z = z} h (c_last f) = c_last (h z (inl refl) ∙ f)
linked_keep h (c_more {p} f c) = c_more (h p (inl refl) ∙ f) (linked_keep (λ q i. h q (inr i)) c)

pub chain_keep : {m m' : Mem} {f : Option FreeList} {ps : List ℕ} → ((p : ℕ) → In p ps → part (at m' p) 0 ≡ part (at m p) 0) → Chain m f ps → Chain m' f ps
chain_keep h c_none = c_none
chain_keep h (c_some c) = c_some (linked_keep h c)

pub vacancy_keep : {m m' : Mem} {e : Option FreeList} → size m' ≡ size m → ((q : ℕ) → kind (at m q) ≡ K.Free → (kind (at m' q) ≡ K.Free) × (part (at m' q) 0 ≡ part (at m q) 0))
    → ((q : ℕ) → kind (at m' q) ≡ K.Free → kind (at m q) ≡ K.Free) → Vacancy m e → Vacancy m' e
vacancy_keep s f b W = record {
  list = W.list;
  chain = chain_keep (λ p i. (f p (W.each p i).1).1) W.chain;
  distinct = W.distinct;
  each = λ p i. (rw s (W.each p i).0, (f p (W.each p i).1).0);
  all = λ p l k. W.all p (rw s at l) (b p k);
}

-- one place changes, and is not vacant before or after
pub vacancy_put : {m : Mem} {e : Option FreeList} (p : ℕ) (c : Cell) → p < size m → (kind (at m p) ≡ K.Free → ⊥) → (kind c ≡ K.Free → ⊥) → Vacancy m e → Vacancy (put m p c) e
vacancy_put {m} p c l n n' W = vacancy_keep (size_put m p c) (λ q k. f q k (written m p c q l)) (λ q k. b q k (written m p c q l)) W
  where
    f : (q : ℕ) → kind (at m q) ≡ K.Free → Written m p c q → (kind (at (put m p c) q) ≡ K.Free) × (part (at (put m p c) q) 0 ≡ part (at m q) 0)
    f q k (here e a) = absurd (n (rw e at k))
    f q k (there d a) = (rw a k, rw a)

    b : (q : ℕ) → kind (at (put m p c) q) ≡ K.Free → Written m p c q → kind (at m q) ≡ K.Free
    b q k (here e a) = absurd (n' (rw a at k))
    b q k (there d a) = rw a at k

pub except : (q p : ℕ) (ps : List ℕ) → (q ≡ p → ⊥) → In q (p ∷ ps) → In q ps
except q p ps n (inl e) = absurd (n e)
except q p ps n (inr i) = i
