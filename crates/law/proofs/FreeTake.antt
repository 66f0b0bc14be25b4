-- The first place of the free list is free, and the rest of the list is one when that place is taken.
use Rattle.std.proofs.Common.{◌≡◌, ℕ, ◌<◌, List, ◌∷◌, Some, Option, refl, ap, subst, inl, inr}
use Rattle.values.specs.Cells.{kind}
use Rattle.values.specs.declared.cells.Cell.{Cell}
use Rattle.values.specs.declared.cells.Kind.TheVariants as K
use Rattle.model.specs.declared.registers.FreeList.{FreeList}
use Rattle.model.specs.Calls.{shorter}
use Rattle.model.specs.Heap.{Mem, at, put, part}
use Rattle.law.proofs.Free.{Linked, c_last, c_more, Chain, c_none, c_some, Vacancy, chain_keep, except}
use Rattle.law.proofs.Memory.{size, size_put, at_other, Written, here, there, written}
use Rattle.law.specs.Live.{In, Distinct}

linked_head : {m : Mem} {z p : ℕ} {ps : List ℕ} → Linked m z p ps → In p ps
linked_head (c_last f) = inl refl
linked_head (c_more f L) = inl refl

chain_head : {m : Mem} {f : FreeList} {ps : List ℕ} → Chain m (Some f) ps → In f.first ps
chain_head (c_some L) = linked_head L

pub vacancy_head : {m : Mem} {f : FreeList} → Vacancy m (Some f) → (f.first < size m) × (kind (at m f.first) ≡ K.Free)
vacancy_head {f = f} W = W.each f.first (chain_head W.chain)

-- without the first place p, which holds c now
module _ {m : Mem} (c : Cell) (n : kind c ≡ K.Free → ⊥) where
  left : {p : ℕ} {ps : List ℕ} {f : Option FreeList} → Chain m f ps → Distinct (p ∷ ps) → ((q : ℕ) → In q (p ∷ ps) → (q < size m) × (kind (at m q) ≡ K.Free)) → ((q : ℕ) → q < size m → kind (at m q) ≡ K.Free → In q (p ∷ ps)) → Vacancy (put m p c) f
  left {p} {ps} C d each all = record {
    list = ps;
    chain = chain_keep (λ q i. ap (λ (x : Cell). part x 0) (apart q i)) C;
    distinct = d.1;
    each = λ q i. (rw size_put (each q (inr i)).0, rw (apart q i) (each q (inr i)).1);
    all = λ q l k. go q (rw size_put at l) k (written m p c q (each p (inl refl)).0);
  }
    where
      apart : (q : ℕ) → In q ps → at (put m p c) q ≡ at m q
      apart q i = at_other m p q c (λ e. d.0 (subst (λ (j : ℕ). In j ps) e i))

      go : (q : ℕ) → q < size m → kind (at (put m p c) q) ≡ K.Free → Written m p c q → In q ps
      go q l k (here e a) = absurd (n (rw a at k))
      go q l k (there d a) = except q p ps d (all q l (rw a at k))

  take_linked : {z p : ℕ} {ps : List ℕ} → Linked m z p ps → Distinct ps → ((q : ℕ) → In q ps → (q < size m) × (kind (at m q) ≡ K.Free)) → ((q : ℕ) → q < size m → kind (at m q) ≡ K.Free → In q ps)
      → Vacancy (put m p c) (shorter (part (at m p) 0) (record { first = p; last = z }))
  take_linked (c_last f) d each all = rw f (left c_none d each all)
  take_linked (c_more f L) d each all = rw f (left (c_some L) d each all)

  take_chain : {f : FreeList} {ps : List ℕ} → Chain m (Some f) ps → Distinct ps → ((q : ℕ) → In q ps → (q < size m) × (kind (at m q) ≡ K.Free)) → ((q : ℕ) → q < size m → kind (at m q) ≡ K.Free → In q ps)
      → Vacancy (put m f.first c) (shorter (part (at m f.first) 0) f)
  take_chain (c_some L) d each all = take_linked L d each all

  pub vacancy_take : {f : FreeList} → Vacancy m (Some f) → Vacancy (put m f.first c) (shorter (part (at m f.first) 0) f)
  vacancy_take W = take_chain W.chain W.distinct W.each W.all
