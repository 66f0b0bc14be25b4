-- The list of live cells has every cell to which a root or a list value leads, no other, and each once.
use Rattle.std.proofs.Common.{◌≡◌, ℕ, zero, suc, ◌+◌, ◌<◌, ◌≤◌, Bool, true, false, cond, ◌||◌, eqb, ◌⊎◌, List, [], ◌∷◌, length, get_or, sym, refl, ap, subst, inl, inr, arith}
use Rattle.std.proofs.lemmas.Bool.{cases_eq, eq-eqb, ne_eqb}
use Rattle.values.specs.declared.cells.Value.{Value}
use Rattle.values.specs.declared.cells.Value.TheVariants as V
use Rattle.law.specs.Live.{Leads, by_root, by_slot, by_part, named, is_in, visit, components, live, In, Distinct}
use Rattle.law.specs.Reference.{Reference, entry}

-- ---- the test of being in a list
data Member (b : ℕ) (xs : List ℕ) : Bool → Type 0 where
  yes_in : In b xs → Member b xs true
  not_in : (In b xs → ⊥) → Member b xs false

member : (b : ℕ) (xs : List ℕ) → Member b xs (is_in b xs)
member b [] = not_in (λ i. i)
member b (x ∷ xs) = go (cases_eq b x) (member b xs)
  where
    go : (b ≡ x) ⊎ (b ≡ x → ⊥) → {t : Bool} → Member b xs t → Member b (x ∷ xs) (eqb b x || t)
    go (inl e) _ = rw (eq-eqb b x e) (yes_in (inl e))
    go (inr n) (yes_in i) = rw (ne_eqb b x n) (yes_in (inr i))
    go (inr n) (not_in f) = rw (ne_eqb b x n) (not_in out)
      where
        out : (b ≡ x) ⊎ In b xs → ⊥
        out (inl e) = n e
        out (inr i) = f i

-- ---- the cells that values name
named_more : (b : ℕ) (vs : List Value) (l : List ℕ) → In b l → In b (named vs l)
named_more b [] l i = i
named_more b (V.Nil ∷ vs) l i = named_more b vs l i
named_more b (V.Number x ∷ vs) l i = named_more b vs l i
named_more b (V.Cell c ∷ vs) l i = inr (named_more b vs l i)

named_at : (b : ℕ) (vs : List Value) (l : List ℕ) (i : ℕ) → get_or vs i V.Nil ≡ V.Cell b → In b (named vs l)
named_at b [] l i e = let z : ◌≡◌ {A = ℕ} 0 1 = cc in absurd (omega arith)
named_at b (V.Nil ∷ vs) l zero e = let z : ◌≡◌ {A = ℕ} 0 1 = cc in absurd (omega arith)
named_at b (V.Number x ∷ vs) l zero e = let z : ◌≡◌ {A = ℕ} 0 1 = cc in absurd (omega arith)
named_at b (V.Cell c ∷ vs) l zero e = let z : b ≡ c = cc in inl z
named_at b (V.Nil ∷ vs) l (suc i) e = named_at b vs l i e
named_at b (V.Number x ∷ vs) l (suc i) e = named_at b vs l i e
named_at b (V.Cell c ∷ vs) l (suc i) e = inr (named_at b vs l i e)

named_out : (P : ℕ → Type 0) (vs : List Value) (l : List ℕ) → ((i b : ℕ) → get_or vs i V.Nil ≡ V.Cell b → P b) → ((b : ℕ) → In b l → P b) → (b : ℕ) → In b (named vs l) → P b
named_out P [] l f g b i = g b i
named_out P (V.Nil ∷ vs) l f g b i = named_out P vs l (λ j. f (suc j)) g b i
named_out P (V.Number x ∷ vs) l f g b i = named_out P vs l (λ j. f (suc j)) g b i
named_out P (V.Cell c ∷ vs) l f g b (inl e) = f 0 b (ap V.Cell (sym e))
named_out P (V.Cell c ∷ vs) l f g b (inr i) = named_out P vs l (λ j. f (suc j)) g b i

named_length : (vs : List Value) (l : List ℕ) → length (named vs l) ≤ length vs + length l
named_length [] l = omega arith
named_length (V.Nil ∷ vs) l = omega (arith, named_length vs l)
named_length (V.Number x ∷ vs) l = omega (arith, named_length vs l)
named_length (V.Cell c ∷ vs) l = omega (arith, named_length vs l)

-- ---- the components of the cells that were not seen, where the first cell has the number a
remaining : ℕ → List (List Value) → List ℕ → ℕ
remaining a [] seen = 0
remaining a (vs ∷ cells) seen = cond (is_in a seen) 0 (length vs) + remaining (suc a) cells seen

remaining_all : (a : ℕ) (cells : List (List Value)) → remaining a cells [] ≡ components cells
unfolding remaining
remaining_all a [] = refl
remaining_all a (vs ∷ cells) = ap (λ (x : ℕ). length vs + x) (remaining_all (suc a) cells)

remaining_same : (a : ℕ) (cells : List (List Value)) (b : ℕ) (seen : List ℕ) → b < a → remaining a cells (b ∷ seen) ≡ remaining a cells seen
unfolding remaining
remaining_same a [] b seen l = refl
remaining_same a (vs ∷ cells) b seen l = rw (ne_eqb a b (λ e. omega arith)) (ap (λ (x : ℕ). cond (is_in a seen) 0 (length vs) + x) (remaining_same (suc a) cells b seen (omega arith)))

-- a cell is seen; one that was not made has no components
remaining_less : (a : ℕ) (cells : List (List Value)) (i b : ℕ) (seen : List ℕ) → a + i ≡ b → is_in b seen ≡ false → remaining a cells (b ∷ seen) + length (entry cells i) ≡ remaining a cells seen
unfolding remaining entry
remaining_less a [] i b seen e n = refl
remaining_less a (vs ∷ cells) zero b seen e n =
    let z : a ≡ b = omega arith in
    rw (z, eq-eqb b b refl, n) (omega (arith, remaining_same (suc b) cells b seen (omega arith)))
remaining_less a (vs ∷ cells) (suc i) b seen e n = rw (ne_eqb a b (λ z. omega arith)) (omega (arith, remaining_less (suc a) cells i b seen (omega arith) n))

-- ---- the visit

starts : Reference → List ℕ
starts k = named k.roots (named k.list [])

-- what was seen is live and stands once; what it names, and what roots and list values name, was seen or is to be visited
record Going (k : Reference) (seen todo : List ℕ) : Type 0 where
  first : (b : ℕ) → In b (starts k) → In b seen ⊎ In b todo
  kids : (a b i : ℕ) → In a seen → get_or (entry k.cells a) i V.Nil ≡ V.Cell b → In b seen ⊎ In b todo
  was : (b : ℕ) → In b seen → Leads k b
  will : (b : ℕ) → In b todo → Leads k b
  once : Distinct seen

module _ (k : Reference) {seen : List ℕ} {b : ℕ} {todo : List ℕ} (G : Going k seen (b ∷ todo)) where
  skip : In b seen → Going k seen todo
  skip i = record { first = λ c j. met c (G.first c j); kids = λ a c n j e. met c (G.kids a c n j e); was = G.was; will = λ c j. G.will c (inr j); once = G.once }
    where
      met : (c : ℕ) → In c seen ⊎ In c (b ∷ todo) → In c seen ⊎ In c todo
      met c (inl j) = inl j
      met c (inr (inl e)) = inl (subst (λ (x : ℕ). In x seen) (sym e) i)
      met c (inr (inr j)) = inr j

  enter : (In b seen → ⊥) → Going k (b ∷ seen) (named (entry k.cells b) todo)
  enter n = record {
    first = λ c j. met c (G.first c j);
    kids = kids';
    was = was';
    will = named_out (Leads k) (entry k.cells b) todo (λ i c e. by_part i live_b e) (λ c j. G.will c (inr j));
    once = (n, G.once);
  }
    where
      live_b : Leads k b
      live_b = G.will b (inl refl)

      met : (c : ℕ) → In c seen ⊎ In c (b ∷ todo) → In c (b ∷ seen) ⊎ In c (named (entry k.cells b) todo)
      met c (inl j) = inl (inr j)
      met c (inr (inl e)) = inl (inl e)
      met c (inr (inr j)) = inr (named_more c (entry k.cells b) todo j)

      kids' : (a c i : ℕ) → In a (b ∷ seen) → get_or (entry k.cells a) i V.Nil ≡ V.Cell c → In c (b ∷ seen) ⊎ In c (named (entry k.cells b) todo)
      kids' a c i (inl e) d = inr (named_at c (entry k.cells b) todo i (rw e at d))
      kids' a c i (inr j) d = met c (G.kids a c i j d)

      was' : (c : ℕ) → In c (b ∷ seen) → Leads k c
      was' c (inl e) = rw e live_b
      was' c (inr j) = G.was c j

visited : (k : Reference) (n : ℕ) (seen todo : List ℕ) → length todo + remaining 0 k.cells seen ≤ n → Going k seen todo → Going k (visit n k.cells seen todo) []
unfolding visit
visited k zero seen [] l G = G
visited k zero seen (b ∷ todo) l G = absurd (omega arith)
visited k (suc n) seen [] l G = G
visited k (suc n) seen (b ∷ todo) l G = go refl (member b seen) (visited k n seen todo) (visited k n (b ∷ seen) more)
  where
    more : List ℕ
    more = named (entry k.cells b) todo

    go : {t : Bool} → is_in b seen ≡ t → Member b seen t → (length todo + remaining 0 k.cells seen ≤ n → Going k seen todo → Going k (visit n k.cells seen todo) [])
        → (length more + remaining 0 k.cells (b ∷ seen) ≤ n → Going k (b ∷ seen) more → Going k (visit n k.cells (b ∷ seen) more) []) → Going k (cond t (visit n k.cells seen todo) (visit n k.cells (b ∷ seen) more)) []
    go e (yes_in i) f g = f (omega arith) (skip k G i)
    go e (not_in i) f g = g (omega (arith, named_length (entry k.cells b) todo, remaining_less 0 k.cells b b seen (omega arith) e)) (enter k G i)

gone : (k : Reference) → Going k (live k) []
unfolding live starts
gone k = visited k (length (starts k) + components k.cells) [] (starts k) (omega (arith, remaining_all 0 k.cells)) (record {
  first = λ b i. inr i;
  kids = λ a b i j. absurd j;
  was = λ b i. absurd i;
  will = named_out (Leads k) k.roots (named k.list []) (λ i b e. by_root i e) (named_out (Leads k) k.list [] (λ i b e. by_slot i e) (λ b i. absurd i));
  once = tt;
})

pub live_all : (k : Reference) (d : ℕ) → Leads k d → In d (live k)
unfolding starts
live_all k d L = go L
  where
    seen : (b : ℕ) → In b (live k) ⊎ In b [] → In b (live k)
    seen b (inl i) = i
    seen b (inr i) = absurd i

    go : {b : ℕ} → Leads k b → In b (live k)
    go {b} (by_root i e) = seen b ((gone k).first b (named_at b k.roots (named k.list []) i e))
    go {b} (by_slot i e) = seen b ((gone k).first b (named_more b k.roots (named k.list []) (named_at b k.list [] i e)))
    go {b} (by_part {a} i l e) = seen b ((gone k).kids a b i (go l) e)

pub live_only : (k : Reference) (d : ℕ) → In d (live k) → Leads k d
live_only k d i = (gone k).was d i

pub live_once : (k : Reference) → Distinct (live k)
live_once k = (gone k).once
