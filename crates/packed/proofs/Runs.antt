-- Writes one after another: what they leave, and what is read back.
use Rattle.std.proofs.Common.{◌≡◌, ℕ, zero, suc, ◌+◌, ◌-◌, ◌<◌, ◌≤◌, ◌≢◌, ◌⊎◌, List, [], ◌∷◌, ◌++◌, length, take, drop, set, sym, refl, ap, ◌∙◌, inl, inr, ⊎_elim, arith}
use Rattle.std.proofs.lemmas.List.Edits.{sets, sets-eq}
use Rattle.std.proofs.lemmas.List.{append_assoc, take_at, drop_at, drop-take, length-take-le, take-set-le, drop-set-lt}
use Rattle.std.proofs.lemmas.Bool.{cases_eq}
use Rattle.packed.specs.Groups.{each}

-- ---- A run of bytes

-- What no single byte of the run changes, the run does not change.
pub sets_keep : {X : Type 0} (f : List ℕ → X) (vs bs : List ℕ) (i : ℕ) → ((ys : List ℕ) (k v : ℕ) → i ≤ k → k < i + length vs → f (set ys k v) ≡ f ys) → f (sets bs i vs) ≡ f bs
sets_keep f [] bs i h = refl
sets_keep f (v ∷ vs) bs i h = sets_keep f vs (set bs i v) (suc i) (λ ys k w a b. h ys k w (omega arith) (omega arith)) ∙ h bs i v (omega arith) (omega arith)

pub sets_there : (vs bs : List ℕ) (i : ℕ) → i + length vs ≤ length bs → take (length vs) (drop i (sets bs i vs)) ≡ vs
sets_there vs bs i h =
    let rest = drop (i + length vs) bs in
    ap (λ l. take (length vs) (drop i l)) (sets-eq vs bs i h ∙ append_assoc (take i bs) vs rest)
    ∙ ap (take (length vs)) (drop_at (take i bs) (vs ++ rest) i (length-take-le i bs (omega arith))) ∙ take_at vs rest _ refl

-- A byte outside a window leaves the window.
pub window_set : (ys : List ℕ) (k v j n : ℕ) → (k < j) ⊎ (j + n ≤ k) → take n (drop j (set ys k v)) ≡ take n (drop j ys)
window_set ys k v j n (inl h) = ap (take n) (drop-set-lt j ys k v h)
window_set ys k v j n (inr h) = sym (drop-take j n (set ys k v)) ∙ ap (drop j) (take-set-le (j + n) ys k v h) ∙ drop-take j n ys

-- ---- Writes by index

-- What no single write changes, the writes do not change.
pub each_keep : {X : Type 0} (f : List ℕ → X) (write : ℕ → List ℕ → List ℕ) (n i : ℕ) (bs : List ℕ) → ((ys : List ℕ) (k : ℕ) → i ≤ k → k < i + n → f (write k ys) ≡ f ys) → f (each write n i bs) ≡ f bs
each_keep f write zero i bs h = refl
each_keep f write (suc n) i bs h = each_keep f write n (i + 1) (write i bs) (λ ys k a b. h ys k (omega arith) (omega arith)) ∙ h bs i (omega arith) (omega arith)

-- Each index reads as it was written, where a write is read back and leaves the other indices.
module _ {X : Type 0} (f : ℕ → List ℕ → X) (want : ℕ → X) (write : ℕ → List ℕ → List ℕ) (m size : ℕ)
    (stays : (ys : List ℕ) (k : ℕ) → length (write k ys) ≡ length ys)
    (there : (ys : List ℕ) (k : ℕ) → k < m → length ys ≡ size → f k (write k ys) ≡ want k)
    (apart : (ys : List ℕ) (k j : ℕ) → k < m → j < m → j ≢ k → f j (write k ys) ≡ f j ys) where
  pub each_read : (n i : ℕ) (bs : List ℕ) (j : ℕ) → length bs ≡ size → i + n ≤ m → i ≤ j → j < i + n → f j (each write n i bs) ≡ want j
  each_read zero i bs j l w a b = absurd (omega arith)
  each_read (suc n) i bs j l w a b =
      ⊎_elim
      (λ (e : j ≡ i).
      each_keep (f j) write n (i + 1) (write i bs) (λ ys k c d. apart ys k j (omega arith) (omega arith) (omega arith))
      ∙ ap (λ k. f k (write i bs)) e ∙ there bs i (omega arith) l ∙ ap want (sym e))
      (λ (e : j ≢ i). each_read n (i + 1) (write i bs) j (stays bs i ∙ l) (omega arith) (omega arith) (omega arith))
      (cases_eq j i)

-- The writes from index i on are that at i and those after it.
pub each_step : (write : ℕ → List ℕ → List ℕ) (n i : ℕ) (bs : List ℕ) → i < n → each write (n - (i + 1)) (i + 1) (write i bs) ≡ each write (n - i) i bs
each_step write n i bs h = let e : suc (n - (i + 1)) ≡ n - i = omega arith in ap (λ k. each write k i bs) e
