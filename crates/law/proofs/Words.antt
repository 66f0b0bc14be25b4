-- One view of normalise and one of offer: a constructor for each way that it can go.
use Rattle.std.proofs.Common.{◌≡◌, ℕ, ◌<◌, Bool, true, false, cond, ◌&&◌, ltb, List, ◌∷◌, length, refl, arith}
use lib.Ieee.{Float}
use Rattle.std.proofs.lemmas.Bool.{true≢false, and_parts, ltb-true, not-true, lt-ltb}
use Rattle.values.specs.Cells.{kind}
use Rattle.values.specs.declared.cells.Kind.{Kind}
use Rattle.values.specs.declared.cells.Kind.TheVariants as K
use Rattle.values.specs.declared.cells.Value.{Value}
use Rattle.values.specs.declared.cells.Value.TheVariants as V
use Rattle.model.specs.declared.registers.Phase.{Phase}
use Rattle.model.specs.Heap.{Heap, Mem, limit, at, put, part, with_pending, with_mem}
use Rattle.model.specs.Words.{waiting, forwarded, normal, marking, unseen, takes, queued, offered}
use Rattle.law.proofs.Memory.{size}

-- ---- normalise
pub data Normal (m : Mem) : Value → Value → Type 0 where
  n_nil : Normal m V.Nil V.Nil
  n_num : {x : Float} → Normal m (V.Number x) (V.Number x)
  n_moved : {p : ℕ} → kind (at m p) ≡ K.Moved → Normal m (V.Cell p) (part (at m p) 0)
  n_self : {p : ℕ} → (kind (at m p) ≡ K.Moved → ⊥) → Normal m (V.Cell p) (V.Cell p)

pub normalled : (m : Mem) (v : Value) → Normal m v (normal m v)
normalled m V.Nil = n_nil
normalled m (V.Number x) = n_num
normalled m (V.Cell p) = go (kind (at m p)) refl
  where
    go : (k : Kind) → kind (at m p) ≡ k → Normal m (V.Cell p) (forwarded k p (at m p))
    go K.Plain e = n_self (λ (d : kind (at m p) ≡ K.Moved). let z : ◌≡◌ {A = ℕ} 0 1 = cc in omega arith)
    go K.Accessible e = n_self (λ (d : kind (at m p) ≡ K.Moved). let z : ◌≡◌ {A = ℕ} 0 1 = cc in omega arith)
    go K.Moved e = n_moved e
    go K.Free e = n_self (λ (d : kind (at m p) ≡ K.Moved). let z : ◌≡◌ {A = ℕ} 0 1 = cc in omega arith)

-- ---- offer

-- an unseen place, and room for it on the collector stack
pub record Wanted (m : Mem) (g : List ℕ) (p : ℕ) : Type 0 where
  pub below : p < size m
  pub white : kind (at m p) ≡ K.Plain
  pub idle : (at m p).waiting ≡ false
  pub room : length g < 4096

pub data Offered (f : Phase) (m : Mem) (g : List ℕ) : Value → Mem → List ℕ → Type 0 where
  o_nil : Offered f m g V.Nil m g
  o_num : {x : Float} → Offered f m g (V.Number x) m g
  o_off : {p : ℕ} → marking f ≡ false → Offered f m g (V.Cell p) m g
  o_kept : {p : ℕ} → marking f ≡ true → (Wanted m g p → ⊥) → Offered f m g (V.Cell p) m g
  o_queued : {p : ℕ} → marking f ≡ true → Wanted m g p → Offered f m g (V.Cell p) (put m p (waiting (at m p))) (p ∷ g)

-- an offer changes the memory and the collector stack, and nothing else
pub data Shade (h : Heap) (v : Value) : Heap → Type 0 where
  shaded : {m : Mem} {g : List ℕ} → Offered h.phase h.mem h.pending v m g → Shade h v (with_pending g (with_mem m h))

unseen_plain : (k : Kind) (w : Bool) → unseen k w ≡ true → (k ≡ K.Plain) × (w ≡ false)
unseen_plain K.Plain w e = (refl, not-true w e)
unseen_plain K.Accessible w e = let z : true ≡ false = cc in absurd (true≢false z)
unseen_plain K.Moved w e = let z : true ≡ false = cc in absurd (true≢false z)
unseen_plain K.Free w e = let z : true ≡ false = cc in absurd (true≢false z)

pub shade : (v : Value) (h : Heap) → Shade h v (offered v h)
unfolding size
shade V.Nil h = shaded o_nil
shade (V.Number x) h = shaded o_num
shade (V.Cell p) h = go (takes p h) refl
  where
    go : (b : Bool) → takes p h ≡ b → Shade h (V.Cell p) (cond b (queued p h) h)
    go true e =
        let a = and_parts (marking h.phase && ltb p (limit h.mem) && unseen (kind (at h.mem p)) (at h.mem p).waiting) (ltb (length h.pending) 4096) e in
        let b = and_parts (marking h.phase && ltb p (limit h.mem)) (unseen (kind (at h.mem p)) (at h.mem p).waiting) a.0 in
        let c = and_parts (marking h.phase) (ltb p (limit h.mem)) b.0 in
        let d = unseen_plain (kind (at h.mem p)) (at h.mem p).waiting b.1 in
        shaded (o_queued c.0 (record { below = ltb-true p (limit h.mem) c.1; white = d.0; idle = d.1; room = ltb-true (length h.pending) 4096 a.1 }))
    go false e = off (marking h.phase) refl
      where
        off : (b : Bool) → marking h.phase ≡ b → Shade h (V.Cell p) h
        off false d = shaded (o_off d)
        off true d = shaded (o_kept d (λ W. true≢false (rw (d, lt-ltb p (limit h.mem) W.below, W.white, W.idle, lt-ltb (length h.pending) 4096 W.room) at e)))
