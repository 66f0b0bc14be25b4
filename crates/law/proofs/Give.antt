-- An offer keeps the invariant, in any phase; so do the offers of all components.
use Rattle.std.proofs.Common.{◌≡◌, ℕ, zero, suc, ◌+◌, ◌<◌, ◌≤◌, true, false, ◌||◌, ◌⊎◌, List, get_or, Option, sym, refl, ◌∙◌, subst, inl, inr, arith}
use Rattle.std.proofs.lemmas.Bool.{cases_eq, true≢false}
use Rattle.values.specs.Cells.{kind}
use Rattle.values.specs.declared.cells.Kind.{Kind}
use Rattle.values.specs.declared.cells.Kind.TheVariants as K
use Rattle.values.specs.declared.cells.Value.{Value}
use Rattle.values.specs.declared.cells.Value.TheVariants as V
use Rattle.model.specs.declared.registers.FreeList.{FreeList}
use Rattle.model.specs.declared.registers.Phase.{Phase}
use Rattle.model.specs.declared.registers.Phase.TheVariants as P
use Rattle.model.specs.Heap.{Heap, Mem, at, with_pending, with_mem}
use Rattle.model.specs.Words.{marking, offered_from}
use Rattle.law.specs.Reference.{Reference}
use Rattle.law.proofs.Memory.{size}
use Rattle.law.proofs.PlaceKinds.{is_plain, is_accessible}
use Rattle.law.proofs.Words.{Offered, o_nil, o_num, o_off, o_kept, o_queued, Shade, shaded, shade}
use Rattle.law.proofs.Values.{Ghost, Good, Stands, s_nil, s_num, s_cell, not_moved, alike_stands}
use Rattle.law.proofs.Inv.{Seen, Settled, settled_nil, settled_num, settled_cell, Grows, grows_new, grows_refl, grows_trans, Inv, offered_grey, offered_grows, offered_parts, offered_seen, offered_dark, grows_inv}

pub record Given (ph : Phase) (D : ℕ → Kind → Type 0) (m : Mem) (f : Option FreeList) (rs st : List Value) (own : Ghost) (k : Reference) (v : Value) (m' : Mem) (g' : List ℕ) : Type 0 where
  pub inv : Inv ph D m' g' f rs st own k
  pub new : Settled ph m' v
  pub grows : Grows m m'
  pub same : (q : ℕ) → (at m' q).parts ≡ (at m q).parts

seen_mark : (k : Kind) → (is_plain k || is_accessible k) ≡ true → (k ≡ K.Plain) ⊎ (k ≡ K.Accessible)
seen_mark K.Plain e = inl refl
seen_mark K.Accessible e = inr refl
seen_mark K.Moved e = absurd (true≢false (sym e))
seen_mark K.Free e = absurd (true≢false (sym e))

-- outside the mark phase
still : {ph : Phase} {D : ℕ → Kind → Type 0} {m : Mem} {g : List ℕ} {f : Option FreeList} {rs st : List Value} {own : Ghost} {k : Reference} {v : Value} {m' : Mem} {g' : List ℕ}
    → marking ph ≡ false → Inv ph D m g f rs st own k → Settled ph m v → Offered ph m g v m' g' → Given ph D m f rs st own k v m' g'
still i I n o_nil = record { inv = I; new = n; grows = grows_refl; same = λ q. refl }
still i I n o_num = record { inv = I; new = n; grows = grows_refl; same = λ q. refl }
still i I n (o_off e) = record { inv = I; new = n; grows = grows_refl; same = λ q. refl }
still i I n (o_kept e x) = record { inv = I; new = n; grows = grows_refl; same = λ q. refl }
still i I n (o_queued e w) = absurd (true≢false (sym e ∙ i))

stood_new : (ph : Phase) {m : Mem} {own : Ghost} {v w : Value} → ((p : ℕ) → Good ph m own p → Seen ph (at m p)) → Stands ph m own v w → Settled ph m v
stood_new ph S s_nil = settled_nil
stood_new ph S s_num = settled_num
stood_new ph S (s_cell {p} l g e) = settled_cell (S p g)

module _ {D : ℕ → Kind → Type 0} {m : Mem} {g : List ℕ} {f : Option FreeList} {rs st : List Value} {own : Ghost} {k : Reference} {v w : Value} {m' : Mem} {g' : List ℕ} where
  pub give : (ph : Phase) → Inv ph D m g f rs st own k → Stands ph m own v w → Offered ph m g v m' g' → Given ph D m f rs st own k v m' g'
  give P.Rest I s O = still refl I (stood_new P.Rest (λ p G. tt) s) O
  give (P.Relocate l u) I s O = still refl I (stood_new (P.Relocate l u) (λ p G. tt) s) O
  give (P.Update r p t) I s O = still refl I (stood_new (P.Update r p t) (λ q G. not_moved (P.Update r p t) m q G) s) O
  give (P.Reclaim t) I s O = still refl I (stood_new (P.Reclaim t) (λ q G. not_moved (P.Reclaim t) m q G) s) O
  give (P.Mark r t b) I s O = record {
    inv = grows_inv (P.Mark r t b) Gr (offered_parts O) (offered_grey O I.grey) tt (λ q l d. fair q (rw Gr.alike.sizes at l) s (offered_dark O q d)) I;
    new = new s O;
    grows = Gr;
    same = offered_parts O;
  }
    where
      Gr : Grows m m'
      Gr = offered_grows O

      fair : (q : ℕ) → q < size m → {x y : Value} → Stands (P.Mark r t b) m own x y → ((kind (at m q) ≡ K.Accessible) ⊎ ((at m q).waiting ≡ true)) ⊎ (x ≡ V.Cell q) → own.ok (own.to q)
      fair q l S (inl d) = I.fair q l d
      fair q l s_nil (inr e) = let z : true ≡ false = cc in absurd (true≢false z)
      fair q l s_num (inr e) = let z : true ≡ false = cc in absurd (true≢false z)
      fair q l (s_cell {p} a g i) (inr e) = let z : p ≡ q = cc in rw z at g.allowed

      new : {x y : Value} → Stands (P.Mark r t b) m own x y → Offered (P.Mark r t b) m g x m' g' → Settled (P.Mark r t b) m' x
      new s_nil O = settled_nil
      new s_num O = settled_num
      new (s_cell {p} l G e) O = settled_cell (offered_seen O refl I.grey l (seen_mark (kind (at m p)) G.is))

-- ---- n components from the index i on
pub record Stood (ph : Phase) (m : Mem) (own : Ghost) (v : Value) : Type 0 where
  pub for : Value
  pub it : Stands ph m own v for

pub data GivenFrom (ph : Phase) (D : ℕ → Kind → Type 0) (own : Ghost) (k : Reference) (vs : List Value) (n i : ℕ) (h : Heap) : Heap → Type 0 where
  given_from : {m : Mem} {g : List ℕ} → Inv ph D m g h.free h.roots h.list own k → ((j : ℕ) → i ≤ j → j < i + n → Settled ph m (get_or vs j V.Nil)) → Grows h.mem m → ((q : ℕ) → (at m q).parts ≡ (at h.mem q).parts)
      → GivenFrom ph D own k vs n i h (with_pending g (with_mem m h))

abbrev pub InvAt : Phase → (ℕ → Kind → Type 0) → Heap → Ghost → Reference → Type 0
InvAt ph D h own k = Inv ph D h.mem h.pending h.free h.roots h.list own k

module _ (ph : Phase) (D : ℕ → Kind → Type 0) (own : Ghost) (k : Reference) (vs : List Value) where
  abbrev Stoods : ℕ → ℕ → Heap → Type 0
  Stoods n i h = (j : ℕ) → i ≤ j → j < i + n → Stood ph h.mem own (get_or vs j V.Nil)

  join : (n i : ℕ) {m : Mem} {g : List ℕ} (h : Heap) {h₂ : Heap} → Settled ph m (get_or vs i V.Nil) → Grows h.mem m → ((q : ℕ) → (at m q).parts ≡ (at h.mem q).parts)
      → GivenFrom ph D own k vs n (i + 1) (with_pending g (with_mem m h)) h₂ → GivenFrom ph D own k vs (suc n) i h h₂
  join n i h N G P (given_from {m = m₂} J N₂ G₂ P₂) = given_from J (λ j a b. new j a b (cases_eq j i)) (grows_trans G G₂) (λ q. P₂ q ∙ P q)
    where
      new : (j : ℕ) → i ≤ j → j < i + suc n → (j ≡ i) ⊎ (j ≡ i → ⊥) → Settled ph m₂ (get_or vs j V.Nil)
      new j a b (inl e) = rw e (grows_new G₂ N)
      new j a b (inr d) = N₂ j (omega arith) (omega arith)

  more : (n i : ℕ) (h : Heap) → h.phase ≡ ph → InvAt ph D h own k → Stoods (suc n) i h
      → ((h₁ : Heap) → h₁.phase ≡ ph → InvAt ph D h₁ own k → Stoods n (i + 1) h₁ → GivenFrom ph D own k vs n (i + 1) h₁ (offered_from n (i + 1) vs h₁))
      → {h₁ : Heap} → Shade h (get_or vs i V.Nil) h₁ → GivenFrom ph D own k vs (suc n) i h (offered_from n (i + 1) vs h₁)
  more n i h e I S next (shaded {m} {g} O) =
      let G = give ph I (S i (omega arith) (omega arith)).it (subst (λ (x : Phase). Offered x h.mem h.pending (get_or vs i V.Nil) m g) e O) in
      join n i h G.new G.grows G.same (next (with_pending g (with_mem m h)) e G.inv
      (λ j a b. let T = S j (omega arith) (omega arith) in record { for = T.for; it = alike_stands G.grows.alike T.it }))

  pub give_from : (n i : ℕ) (h : Heap) → h.phase ≡ ph → InvAt ph D h own k → Stoods n i h → GivenFrom ph D own k vs n i h (offered_from n i vs h)
  give_from zero i h e I S = given_from I (λ j a b. absurd (omega arith)) grows_refl (λ q. refl)
  give_from (suc n) i h e I S = more n i h e I S (λ h₁ e₁ I₁ S₁. give_from n (i + 1) h₁ e₁ I₁ S₁) (shade (get_or vs i V.Nil) h)
