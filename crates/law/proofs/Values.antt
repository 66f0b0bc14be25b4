-- A value of the heap and a value of the reference heap: when the one stands for the other.
use Rattle.std.proofs.Common.{◌≡◌, ℕ, ◌<◌, ◌≤◌, Bool, true, false, cond, ◌||◌, ltb, ◌⊎◌, List, [], length, get_or, set, sym, refl, ap, ◌∙◌, inl, inr, arith, length-set, get_or-set_other, get_or-set_same}
use lib.Ieee.{Float}
use Rattle.std.proofs.lemmas.Bool.{cases_eq, true≢false, cond_both}
use Rattle.values.specs.Cells.{kind}
use Rattle.values.specs.declared.cells.Kind.{Kind}
use Rattle.values.specs.declared.cells.Kind.TheVariants as K
use Rattle.values.specs.declared.cells.Value.{Value}
use Rattle.values.specs.declared.cells.Value.TheVariants as V
use Rattle.model.specs.declared.registers.Phase.{Phase}
use Rattle.model.specs.declared.registers.Phase.TheVariants as P
use Rattle.model.specs.Heap.{Mem, at, put, part}
use Rattle.model.specs.Words.{with_part, normal}
use Rattle.law.specs.Reference.{entry, replaced, made}
use Rattle.law.proofs.Memory.{size, size_put, Written, here, there, written}
use Rattle.law.proofs.PlaceKinds.{is_plain, is_accessible, is_moved}
use Rattle.law.proofs.Words.{Normal, normalled, n_nil, n_num, n_moved, n_self}

-- the places whose cells still count, by the phase
abbrev pub goodb : Phase → ℕ → Kind → Bool
goodb P.Rest p k = is_plain k
goodb (P.Mark r s b) p k = is_plain k || is_accessible k
goodb (P.Relocate l u) p k = is_accessible k
goodb (P.Update r q s) p k = is_accessible k
goodb (P.Reclaim s) p k = cond (ltb p s) (is_plain k) (is_accessible k)

-- the cell of the reference heap that a place holds, and the reference heap's cells that count
pub record Ghost : Type 1 where
  pub to : ℕ → ℕ
  pub ok : ℕ → Type 0

pub record Good (ph : Phase) (m : Mem) (own : Ghost) (p : ℕ) : Type 0 where
  pub is : goodb ph p (kind (at m p)) ≡ true
  pub allowed : own.ok (own.to p)

pub good_moved : (ph : Phase) (p : ℕ) → goodb ph p K.Moved ≡ false
good_moved P.Rest p = refl
good_moved (P.Mark r s b) p = refl
good_moved (P.Relocate l u) p = refl
good_moved (P.Update r q s) p = refl
good_moved (P.Reclaim s) p = cond_both (ltb p s) false false (λ x. x ≡ false) (λ _. refl) (λ _. refl)

pub good_free : (ph : Phase) (p : ℕ) → goodb ph p K.Free ≡ false
good_free P.Rest p = refl
good_free (P.Mark r s b) p = refl
good_free (P.Relocate l u) p = refl
good_free (P.Update r q s) p = refl
good_free (P.Reclaim s) p = cond_both (ltb p s) false false (λ x. x ≡ false) (λ _. refl) (λ _. refl)

pub not_moved : (ph : Phase) (m : Mem) {own : Ghost} (p : ℕ) → Good ph m own p → is_moved (kind (at m p)) ≡ false
not_moved ph m p g = go (kind (at m p)) g.is
  where
    go : (k : Kind) → goodb ph p k ≡ true → is_moved k ≡ false
    go K.Plain e = refl
    go K.Accessible e = refl
    go K.Moved e = absurd (true≢false (sym e ∙ good_moved ph p))
    go K.Free e = refl

-- v stands for w: at once, or through the place that a moved cell names
pub data Means (ph : Phase) (m : Mem) (own : Ghost) : Value → Value → Type 0 where
  v_nil : Means ph m own V.Nil V.Nil
  v_num : {x : Float} → Means ph m own (V.Number x) (V.Number x)
  v_cell : {p b : ℕ} → p < size m → Good ph m own p → own.to p ≡ b → Means ph m own (V.Cell p) (V.Cell b)
  v_moved : {p t b : ℕ} → kind (at m p) ≡ K.Moved → part (at m p) 0 ≡ V.Cell t → t < size m → Good ph m own t → own.to t ≡ b → Means ph m own (V.Cell p) (V.Cell b)

-- v stands for w at once: what a normalised value does
pub data Stands (ph : Phase) (m : Mem) (own : Ghost) : Value → Value → Type 0 where
  s_nil : Stands ph m own V.Nil V.Nil
  s_num : {x : Float} → Stands ph m own (V.Number x) (V.Number x)
  s_cell : {p b : ℕ} → p < size m → Good ph m own p → own.to p ≡ b → Stands ph m own (V.Cell p) (V.Cell b)

pub stands_V : {ph : Phase} {m : Mem} {own : Ghost} {v w : Value} → Stands ph m own v w → Means ph m own v w
stands_V s_nil = v_nil
stands_V s_num = v_num
stands_V (s_cell l g e) = v_cell l g e

-- by the view of normalise
normal_stands : (ph : Phase) (m : Mem) (own : Ghost) (v w x : Value) → Normal m v x → Means ph m own v w → Stands ph m own x w
normal_stands ph m own v w x n_nil v_nil = s_nil
normal_stands ph m own v w x n_num v_num = s_num
normal_stands ph m own v w x (n_moved {p} k) (v_cell l g e) = absurd (true≢false (sym (ap is_moved k) ∙ not_moved ph m p g))
normal_stands ph m own v w x (n_moved k) (v_moved k' f l g e) = rw f (s_cell l g e)
normal_stands ph m own v w x (n_self n) (v_cell l g e) = s_cell l g e
normal_stands ph m own v w x (n_self n) (v_moved k f l g e) = absurd (n k)

pub V_normal : {ph : Phase} {m : Mem} {own : Ghost} {v w : Value} → Means ph m own v w → Stands ph m own (normal m v) w
V_normal {ph} {m} {own} {v} {w} s = normal_stands ph m own v w (normal m v) (normalled m v) s

-- memories that differ in waiting bits and components alone
pub record Alike (m m' : Mem) : Type 0 where
  pub sizes : size m' ≡ size m
  pub widths : m'.width ≡ m.width
  pub kinds : (q : ℕ) → kind (at m' q) ≡ kind (at m q)
  pub targets : (q : ℕ) → kind (at m q) ≡ K.Moved → part (at m' q) 0 ≡ part (at m q) 0
  pub lengths : (q : ℕ) → length (at m' q).parts ≡ length (at m q).parts

pub alike_good : {ph : Phase} {m m' : Mem} {own : Ghost} {p : ℕ} → Alike m m' → Good ph m own p → Good ph m' own p
alike_good {p} A g = record { is = rw (A.kinds p) g.is; allowed = g.allowed }

pub alike_V : {ph : Phase} {m m' : Mem} {own : Ghost} {v w : Value} → Alike m m' → Means ph m own v w → Means ph m' own v w
alike_V A v_nil = v_nil
alike_V A v_num = v_num
alike_V A (v_cell l g e) = v_cell (rw A.sizes l) (alike_good A g) e
alike_V A (v_moved {p} k f l g e) = v_moved (rw (A.kinds p) k) (A.targets p k ∙ f) (rw A.sizes l) (alike_good A g) e

pub alike_stands : {ph : Phase} {m m' : Mem} {own : Ghost} {v w : Value} → Alike m m' → Stands ph m own v w → Stands ph m' own v w
alike_stands A s_nil = s_nil
alike_stands A s_num = s_num
alike_stands A (s_cell l g e) = s_cell (rw A.sizes l) (alike_good A g) e

-- a component of a cell that has not moved is written
pub clobber_alike : (m : Mem) (p i : ℕ) (v : Value) → p < size m → is_moved (kind (at m p)) ≡ false → Alike m (put m p (with_part i v (at m p)))
clobber_alike m p i v l n = record {
  sizes = size_put m p (with_part i v (at m p));
  widths = refl;
  kinds = λ q. kinds q (written m p (with_part i v (at m p)) q l);
  targets = λ q. targets q (written m p (with_part i v (at m p)) q l);
  lengths = λ q. lengths q (written m p (with_part i v (at m p)) q l);
}
  where
    kinds : (q : ℕ) → Written m p (with_part i v (at m p)) q → kind (at (put m p (with_part i v (at m p))) q) ≡ kind (at m q)
    kinds q (here e a) = rw (a, e)
    kinds q (there d a) = rw a

    targets : (q : ℕ) → Written m p (with_part i v (at m p)) q → kind (at m q) ≡ K.Moved → part (at (put m p (with_part i v (at m p))) q) 0 ≡ part (at m q) 0
    targets q (here e a) k = let z : true ≡ false = sym (ap is_moved k) ∙ ap (λ (x : ℕ). is_moved (kind (at m x))) e ∙ n in absurd (true≢false z)
    targets q (there d a) k = rw a

    lengths : (q : ℕ) → Written m p (with_part i v (at m p)) q → length (at (put m p (with_part i v (at m p))) q).parts ≡ length (at m q).parts
    lengths q (here e a) = rw (a, e) (length-set (at m p).parts i v)
    lengths q (there d a) = rw a

-- the cells that count, and the reference heap's
pub record Cells (ph : Phase) (m : Mem) (own : Ghost) (b : List (List Value)) : Type 0 where
  pub parts : (p : ℕ) → p < size m → Good ph m own p → (i : ℕ) → Means ph m own (part (at m p) i) (get_or (entry b (own.to p)) i V.Nil)
  pub full : (p : ℕ) → p < size m → Good ph m own p → m.width ≤ length (entry b (own.to p))
  pub owned : (p : ℕ) → p < size m → Good ph m own p → own.to p < made b
  pub apart : (p q : ℕ) → p < size m → q < size m → Good ph m own p → Good ph m own q → own.to p ≡ own.to q → p ≡ q

-- how an entry of the reference heap reads after it was rewritten
pub data Rewritten (l : List (List Value)) (b : ℕ) (x : List Value) (d : ℕ) : Type 0 where
  hit : d ≡ b → entry (replaced l b x) d ≡ x → Rewritten l b x d
  miss : (d ≡ b → ⊥) → entry (replaced l b x) d ≡ entry l d → Rewritten l b x d

pub rewritten : (l : List (List Value)) (b : ℕ) (x : List Value) (d : ℕ) → b < made l → Rewritten l b x d
unfolding entry replaced made
rewritten l b x d h = go (cases_eq d b)
  where
    go : (d ≡ b) ⊎ (d ≡ b → ⊥) → Rewritten l b x d
    go (inl e) = hit e (rw e (get_or-set_same l b x [] h))
    go (inr n) = miss n (get_or-set_other l b d x [] n)

pub made_replaced : (l : List (List Value)) (b : ℕ) (x : List Value) → made (replaced l b x) ≡ made l
unfolding replaced made
made_replaced l b x = length-set l b x

-- a component written on both sides
set_both : (R : Value → Value → Type 0) (i j : ℕ) (v w : Value) (ps qs : List Value) → i < length ps → i < length qs → R v w → R (get_or ps j V.Nil) (get_or qs j V.Nil) → R (get_or (set ps i v) j V.Nil) (get_or (set qs i w) j V.Nil)
set_both R i j v w ps qs a b r s = go (cases_eq j i)
  where
    go : (j ≡ i) ⊎ (j ≡ i → ⊥) → R (get_or (set ps i v) j V.Nil) (get_or (set qs i w) j V.Nil)
    go (inl e) = rw (e, get_or-set_same ps i v V.Nil a, get_or-set_same qs i w V.Nil b) r
    go (inr n) = rw (get_or-set_other ps i j v V.Nil n, get_or-set_other qs i j w V.Nil n) s

-- component i of the cell at p is written, in the heap and in the reference heap
module _ {ph : Phase} {m : Mem} {own : Ghost} {b : List (List Value)} (C : Cells ph m own b) (p i : ℕ) {v w : Value} (wi : i < m.width) (ev : m.width ≤ length (at m p).parts) (l : p < size m) (g : Good ph m own p) (s : Means ph m own v w) where
  abbrev m' : Mem
  m' = put m p (with_part i v (at m p))

  abbrev b' : List (List Value)
  b' = replaced b (own.to p) (set (entry b (own.to p)) i w)

  A : Alike m m'
  A = clobber_alike m p i v l (not_moved ph m p g)

  back : {q : ℕ} → Good ph m' own q → Good ph m own q
  back {q} e = record { is = rw (A.kinds q) at e.is; allowed = e.allowed }

  in' : {q : ℕ} → q < size m' → q < size m
  in' k = rw A.sizes at k

  keeps : (x y : Value) → Means ph m own x y → Means ph m' own x y
  keeps x y t = alike_V A t

  parts' : (q : ℕ) → q < size m → Good ph m own q → (j : ℕ) → Written m p (with_part i v (at m p)) q → Rewritten b (own.to p) (set (entry b (own.to p)) i w) (own.to q) → Means ph m' own (part (at m' q) j) (get_or (entry b' (own.to q)) j V.Nil)
  parts' q k e j (here e₁ a) (hit e₂ a₂) = let f = C.full p l g in rw (a, a₂) (set_both (Means ph m' own) i j v w (at m p).parts (entry b (own.to p)) (omega arith) (omega arith) (keeps v w s) (keeps _ _ (C.parts p l g j)))
  parts' q k e j (there d₁ a) (miss d₂ a₂) = rw (a, a₂) (keeps _ _ (C.parts q k e j))
  parts' q k e j (here e₁ a) (miss d₂ a₂) = absurd (d₂ (ap own.to e₁))
  parts' q k e j (there d₁ a) (hit e₂ a₂) = absurd (d₁ (C.apart q p k l e g e₂))

  full' : (q : ℕ) → q < size m → Good ph m own q → Rewritten b (own.to p) (set (entry b (own.to p)) i w) (own.to q) → m.width ≤ length (entry b' (own.to q))
  full' q k e (hit e₂ a₂) = rw (a₂, length-set (entry b (own.to p)) i w) (C.full p l g)
  full' q k e (miss d₂ a₂) = rw a₂ (C.full q k e)

  pub clobber_cells : Cells ph m' own b'
  clobber_cells = record {
    full = λ q k e. full' q (in' k) (back e) (rewritten b (own.to p) (set (entry b (own.to p)) i w) (own.to q) (C.owned p l g));
    parts = λ q k e j. parts' q (in' k) (back e) j (written m p (with_part i v (at m p)) q l) (rewritten b (own.to p) (set (entry b (own.to p)) i w) (own.to q) (C.owned p l g));
    owned = λ q k e. rw (made_replaced b (own.to p) (set (entry b (own.to p)) i w)) (C.owned q (in' k) (back e));
    apart = λ q r k₁ k₂ e₁ e₂ d. C.apart q r (in' k₁) (in' k₂) (back e₁) (back e₂) d;
  }
