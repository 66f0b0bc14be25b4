-- The collector stack holds exactly the waiting places, each once, and each is plain.
use Rattle.std.proofs.Common.{◌≡◌, ℕ, ◌<◌, true, List, [], ◌∷◌, sym, ◌∙◌, subst, inl, inr, arith}
use Rattle.std.proofs.lemmas.Bool.{true≢false}
use Rattle.values.specs.Cells.{kind}
use Rattle.values.specs.declared.cells.Kind.TheVariants as K
use Rattle.model.specs.Heap.{Mem, at, put}
use Rattle.model.specs.Words.{waiting}
use Rattle.law.proofs.Memory.{size, size_put, Written, here, there, written}
use Rattle.law.proofs.Words.{Wanted}
use Rattle.law.specs.Live.{In, Distinct}

pub record Grey (m : Mem) (g : List ℕ) : Type 0 where
  pub distinct : Distinct g
  pub each : (p : ℕ) → In p g → (p < size m) × (kind (at m p) ≡ K.Plain) × ((at m p).waiting ≡ true)
  pub all : (p : ℕ) → p < size m → (at m p).waiting ≡ true → In p g

-- no place waits while the collector stack is empty
pub idle : {m : Mem} {g : List ℕ} → Grey m g → g ≡ [] → (q : ℕ) → q < size m → (at m q).waiting ≡ true → ⊥
idle G e q l w = subst (λ (x : List ℕ). In q x) e (G.all q l w)

pub idle_grey : {m : Mem} {g : List ℕ} → g ≡ [] → ((q : ℕ) → q < size m → (at m q).waiting ≡ true → ⊥) → Grey m g
idle_grey {m} e n = subst (λ (x : List ℕ). Grey m x) (sym e) (record { distinct = tt; each = λ q i. absurd i; all = λ q l w. n q l w })

pub queue_grey : (m : Mem) (g : List ℕ) (p : ℕ) → p < size m → Grey m g → Wanted m g p → Grey (put m p (waiting (at m p))) (p ∷ g)
queue_grey m g p l G w = record {
  distinct = (λ i. true≢false (sym (G.each p i).2 ∙ w.idle), G.distinct);
  each = each;
  all = all;
}
  where
    m' : Mem
    m' = put m p (waiting (at m p))

    each : (q : ℕ) → In q (p ∷ g) → (q < size m') × (kind (at m' q) ≡ K.Plain) × ((at m' q).waiting ≡ true)
    each q i = go (written m p (waiting (at m p)) q l) i
      where
        go : Written m p (waiting (at m p)) q → In q (p ∷ g) → (q < size m') × (kind (at m' q) ≡ K.Plain) × ((at m' q).waiting ≡ true)
        go (here e a) i = (simp size_put (omega (arith, l)), rw a w.white, rw a)
        go (there n a) (inl e) = absurd (n e)
        go (there n a) (inr i) = (simp size_put (G.each q i).0, rw a (G.each q i).1, rw a (G.each q i).2)

    all : (q : ℕ) → q < size m' → (at m' q).waiting ≡ true → In q (p ∷ g)
    all q k e = go (written m p (waiting (at m p)) q l)
      where
        go : Written m p (waiting (at m p)) q → In q (p ∷ g)
        go (here e a) = inl e
        go (there n a) = inr (G.all q (simp size_put at k) (rw a at e))
