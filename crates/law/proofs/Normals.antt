-- The components of a cell, normalised: below the width each one is, and past it all stay.
use Rattle.std.proofs.Common.{◌≡◌, ℕ, zero, suc, ◌+◌, ◌<◌, ◌≤◌, ◌⊎◌, List, length, get_or, set, refl, ap, ◌∙◌, inl, inr, arith, length-set, get_or-set_other, get_or-set_same}
use Rattle.std.proofs.lemmas.Bool.{cases_eq, cases_lt}
use Rattle.values.specs.declared.cells.Value.{Value}
use Rattle.values.specs.declared.cells.Value.TheVariants as V
use Rattle.model.specs.Heap.{Mem}
use Rattle.model.specs.Words.{normal, normal_from, normal_all}

length_from : (n i : ℕ) (m : Mem) (vs : List Value) → length (normal_from n i m vs) ≡ length vs
length_from zero i m vs = refl
length_from (suc n) i m vs = length_from n (i + 1) m (set vs i (normal m (get_or vs i V.Nil))) ∙ length-set vs i (normal m (get_or vs i V.Nil))

outside : (n i : ℕ) (m : Mem) (vs : List Value) (j : ℕ) → (j < i) ⊎ (i + n ≤ j) → get_or (normal_from n i m vs) j V.Nil ≡ get_or vs j V.Nil
outside zero i m vs j o = refl
outside (suc n) i m vs j o = outside n (i + 1) m (set vs i (normal m (get_or vs i V.Nil))) j (next o) ∙ get_or-set_other vs i j (normal m (get_or vs i V.Nil)) V.Nil (other o)
  where
    next : (j < i) ⊎ (i + suc n ≤ j) → (j < i + 1) ⊎ (i + 1 + n ≤ j)
    next (inl l) = inl (omega arith)
    next (inr l) = inr (omega arith)

    other : (j < i) ⊎ (i + suc n ≤ j) → j ≡ i → ⊥
    other (inl l) e = omega arith
    other (inr l) e = omega arith

inside : (n i : ℕ) (m : Mem) (vs : List Value) (j : ℕ) → i + n ≤ length vs → i ≤ j → j < i + n → get_or (normal_from n i m vs) j V.Nil ≡ normal m (get_or vs j V.Nil)
inside zero i m vs j l a b = absurd (omega arith)
inside (suc n) i m vs j l a b = go (cases_eq j i) (λ d. inside n (i + 1) m ws j (omega (arith, length-set vs i (normal m (get_or vs i V.Nil)))) (omega arith) (omega arith))
  where
    ws : List Value
    ws = set vs i (normal m (get_or vs i V.Nil))

    go : (j ≡ i) ⊎ (j ≡ i → ⊥) → ((j ≡ i → ⊥) → get_or (normal_from n (i + 1) m ws) j V.Nil ≡ normal m (get_or ws j V.Nil)) → get_or (normal_from n (i + 1) m ws) j V.Nil ≡ normal m (get_or vs j V.Nil)
    go (inl e) f = outside n (i + 1) m ws j (inl (omega arith)) ∙ rw e (get_or-set_same vs i (normal m (get_or vs i V.Nil)) V.Nil (omega arith))
    go (inr d) f = f d ∙ ap (normal m) (get_or-set_other vs i j (normal m (get_or vs i V.Nil)) V.Nil d)

pub length_normal_all : (m : Mem) (vs : List Value) → length (normal_all m vs) ≡ length vs
length_normal_all m vs = length_from m.width 0 m vs

pub normal_all_at : (m : Mem) (vs : List Value) (i : ℕ) → m.width ≤ length vs → i < m.width → get_or (normal_all m vs) i V.Nil ≡ normal m (get_or vs i V.Nil)
normal_all_at m vs i l a = inside m.width 0 m vs i (omega arith) (omega arith) (omega arith)

pub normal_all_past : (m : Mem) (vs : List Value) (i : ℕ) → m.width ≤ i → get_or (normal_all m vs) i V.Nil ≡ get_or vs i V.Nil
normal_all_past m vs i a = outside m.width 0 m vs i (inr (omega arith))

-- where the components past the width are nil, every component is normalised
pub normal_all_each : (m : Mem) (vs : List Value) (i : ℕ) → m.width ≤ length vs → (m.width ≤ i → get_or vs i V.Nil ≡ V.Nil) → get_or (normal_all m vs) i V.Nil ≡ normal m (get_or vs i V.Nil)
normal_all_each m vs i l spare = go (cases_lt i m.width)
  where
    go : (i < m.width) ⊎ (m.width ≤ i) → get_or (normal_all m vs) i V.Nil ≡ normal m (get_or vs i V.Nil)
    go (inl a) = normal_all_at m vs i l a
    go (inr a) = rw (spare a) (normal_all_past m vs i a ∙ spare a)
