-- What holds between any two calls.
use Rattle.std.proofs.Common.{◌≡◌, ℕ, ◌<◌, ◌≤◌, Bool, true, false, ◌⊎◌, List, [], ◌∷◌, length, get_or, Option, sym, refl, ap, ◌∙◌, inl, inr, arith}
use lib.Ieee.{Float}
use Rattle.std.proofs.lemmas.Bool.{true≢false}
use Rattle.values.specs.Cells.{kind}
use Rattle.values.specs.declared.cells.Cell.{Cell}
use Rattle.values.specs.declared.cells.Kind.{Kind}
use Rattle.values.specs.declared.cells.Kind.TheVariants as K
use Rattle.values.specs.declared.cells.Value.{Value}
use Rattle.values.specs.declared.cells.Value.TheVariants as V
use Rattle.model.specs.declared.registers.FreeList.{FreeList}
use Rattle.model.specs.declared.registers.Phase.{Phase}
use Rattle.model.specs.declared.registers.Phase.TheVariants as P
use Rattle.model.specs.Heap.{Heap, Mem, at, put, part}
use Rattle.model.specs.Words.{waiting, marking}
use Rattle.law.specs.Reference.{Reference, made}
use Rattle.law.proofs.Memory.{size, size_small, size_put, at_same, Written, here, there, written}
use Rattle.law.proofs.PlaceKinds.{is_plain, is_accessible, is_moved}
use Rattle.law.proofs.Rows.{Rows, rows_map}
use Rattle.law.proofs.Words.{Offered, o_nil, o_num, o_off, o_kept, o_queued}
use Rattle.law.specs.Live.{In, Distinct}
use Rattle.law.proofs.Places.{pigeons}
use Rattle.law.proofs.Slots.{slot}
use Rattle.law.proofs.Grey.{Grey, queue_grey}
use Rattle.law.proofs.Free.{Vacancy, vacancy_keep}
use Rattle.law.proofs.Values.{goodb, Ghost, Good, Means, Alike, alike_V, Cells}

-- ---- a value that the collector need not look at again
abbrev pub Seen : Phase → Cell → Type 0
Seen P.Rest c = Unit {0}
Seen (P.Mark r s b) c = (kind c ≡ K.Accessible) ⊎ (c.waiting ≡ true)
Seen (P.Relocate l u) c = Unit {0}
Seen (P.Update r p s) c = is_moved (kind c) ≡ false
Seen (P.Reclaim s) c = is_moved (kind c) ≡ false

pub data Settled (ph : Phase) (m : Mem) : Value → Type 0 where
  settled_nil : Settled ph m V.Nil
  settled_num : {x : Float} → Settled ph m (V.Number x)
  settled_cell : {p : ℕ} → Seen ph (at m p) → Settled ph m (V.Cell p)

-- memories with the same kinds, where no bit of waiting is lost
pub record Grows (m m' : Mem) : Type 0 where
  pub alike : Alike m m'
  pub waits : (q : ℕ) → (at m q).waiting ≡ true → (at m' q).waiting ≡ true

grows_seen : (ph : Phase) {m m' : Mem} (p : ℕ) → Grows m m' → Seen ph (at m p) → Seen ph (at m' p)
grows_seen P.Rest p G s = tt
grows_seen (P.Mark r s b) p G (inl e) = inl (G.alike.kinds p ∙ e)
grows_seen (P.Mark r s b) p G (inr e) = inr (G.waits p e)
grows_seen (P.Relocate l u) p G s = tt
grows_seen (P.Update r q s) p G e = rw (G.alike.kinds p) e
grows_seen (P.Reclaim s) p G e = rw (G.alike.kinds p) e

pub grows_new : {ph : Phase} {m m' : Mem} {v : Value} → Grows m m' → Settled ph m v → Settled ph m' v
grows_new G settled_nil = settled_nil
grows_new G settled_num = settled_num
grows_new {ph} G (settled_cell {p} s) = settled_cell (grows_seen ph p G s)

-- ---- what the collector has been over, by the phase
abbrev pub RootDone : Phase → ℕ → Type 0
RootDone P.Rest i = ⊥
RootDone (P.Mark r s b) i = i < r
RootDone (P.Relocate l u) i = ⊥
RootDone (P.Update r p s) i = i < r
RootDone (P.Reclaim s) i = Unit {0}

abbrev pub SlotDone : Phase → ℕ → Type 0
SlotDone P.Rest i = ⊥
SlotDone (P.Mark r s b) i = i < s
SlotDone (P.Relocate l u) i = ⊥
SlotDone (P.Update r p s) i = i < s
SlotDone (P.Reclaim s) i = Unit {0}

abbrev pub CellDone : Phase → ℕ → Kind → Type 0
CellDone P.Rest p k = ⊥
CellDone (P.Mark r s b) p k = k ≡ K.Accessible
CellDone (P.Relocate l u) p k = ⊥
CellDone (P.Update r q s) p k = (k ≡ K.Accessible) × (p < q)
CellDone (P.Reclaim s) p k = goodb (P.Reclaim s) p k ≡ true

pub record Forward (m : Mem) (l p : ℕ) : Type 0 where
  pub to : ℕ
  pub first : part (at m p) 0 ≡ V.Cell to
  pub below : to < l
  pub black : kind (at m to) ≡ K.Accessible

-- which kinds there are, by the phase
abbrev pub Kinds : Phase → Mem → Type 0
Kinds P.Rest m = (p : ℕ) → p < size m → (kind (at m p) ≡ K.Plain) ⊎ (kind (at m p) ≡ K.Free)
Kinds (P.Mark r s b) m = (p : ℕ) → p < size m → is_moved (kind (at m p)) ≡ false
Kinds (P.Relocate l u) m = ((p : ℕ) → kind (at m p) ≡ K.Moved → Forward m l p) × (u ≤ size m)
Kinds (P.Update r p s) m = Unit {0}
Kinds (P.Reclaim s) m = (p : ℕ) → p < size m → p < s → (kind (at m p) ≡ K.Plain) ⊎ (kind (at m p) ≡ K.Free)

-- the places that the collector has taken for live, by the phase
abbrev pub Dark : Phase → ℕ → Cell → Type 0
Dark P.Rest p c = is_plain (kind c) ≡ true
Dark (P.Mark r s b) p c = (kind c ≡ K.Accessible) ⊎ (c.waiting ≡ true)
Dark (P.Relocate l u) p c = is_accessible (kind c) ≡ true
Dark (P.Update r q s) p c = is_accessible (kind c) ≡ true
Dark (P.Reclaim s) p c = goodb (P.Reclaim s) p (kind c) ≡ true

abbrev pub Quiet : Phase → List ℕ → Type 0
Quiet P.Rest g = g ≡ []
Quiet (P.Mark r s b) g = Unit {0}
Quiet (P.Relocate l u) g = g ≡ []
Quiet (P.Update r p s) g = g ≡ []
Quiet (P.Reclaim s) g = g ≡ []

pub record Inv (ph : Phase) (D : ℕ → Kind → Type 0) (m : Mem) (g : List ℕ) (f : Option FreeList) (rs st : List Value) (own : Ghost) (k : Reference) : Type 0 where
  pub cells : Cells ph m own k.cells
  pub roots : Rows (Means ph m own) rs k.roots
  pub list : Rows (Means ph m own) st k.list
  pub even : (p : ℕ) → p < size m → m.width ≤ length (at m p).parts
  pub spare : (p : ℕ) → p < size m → (i : ℕ) → m.width ≤ i → part (at m p) i ≡ V.Nil
  pub wide : length rs ≡ 16
  pub grey : Grey m g
  pub quiet : Quiet ph g
  pub kinds : Kinds ph m
  pub vacancy : Vacancy m f
  pub fair : (p : ℕ) → p < size m → Dark ph p (at m p) → own.ok (own.to p)
  pub later : (b : ℕ) → made k.cells ≤ b → own.ok b
  pub root_new : (i : ℕ) → RootDone ph i → Settled ph m (get_or rs i V.Nil)
  pub slot_new : (i : ℕ) → SlotDone ph i → Settled ph m (slot st i)
  pub part_new : (p : ℕ) → p < size m → D p (kind (at m p)) → (i : ℕ) → Settled ph m (part (at m p) i)

abbrev pub InvOf : Heap → Ghost → Reference → Type 0
InvOf h own k = Inv h.phase (CellDone h.phase) h.mem h.pending h.free h.roots h.list own k

-- ---- an offer, by its view
queue_grows : {m : Mem} {p : ℕ} → p < size m → Grows m (put m p (waiting (at m p)))
queue_grows {m} {p} l = record {
  alike = record { sizes = size_put m p c; widths = refl; kinds = λ q. kinds q (view q); targets = λ q k. targets q (view q); lengths = λ q. lengths q (view q) };
  waits = λ q e. waits q e (view q);
}
  where
    c : Cell
    c = waiting (at m p)

    view : (q : ℕ) → Written m p c q
    view q = written m p c q l

    kinds : (q : ℕ) → Written m p c q → kind (at (put m p c) q) ≡ kind (at m q)
    kinds q (here e a) = rw (a, e)
    kinds q (there n a) = rw a

    targets : (q : ℕ) → Written m p c q → part (at (put m p c) q) 0 ≡ part (at m q) 0
    targets q (here e a) = rw (a, e)
    targets q (there n a) = rw a

    lengths : (q : ℕ) → Written m p c q → length (at (put m p c) q).parts ≡ length (at m q).parts
    lengths q (here e a) = rw (a, e)
    lengths q (there n a) = rw a

    waits : (q : ℕ) → (at m q).waiting ≡ true → Written m p c q → (at (put m p c) q).waiting ≡ true
    waits q e (here d a) = rw a
    waits q e (there n a) = rw a e

pub grows_refl : {m : Mem} → Grows m m
grows_refl = record { alike = record { sizes = refl; widths = refl; kinds = λ q. refl; targets = λ q k. refl; lengths = λ q. refl }; waits = λ q e. e }

pub grows_trans : {a b c : Mem} → Grows a b → Grows b c → Grows a c
grows_trans G H = record {
  alike = record {
    sizes = H.alike.sizes ∙ G.alike.sizes;
    widths = H.alike.widths ∙ G.alike.widths;
    kinds = λ q. H.alike.kinds q ∙ G.alike.kinds q;
    targets = λ q e. H.alike.targets q (G.alike.kinds q ∙ e) ∙ G.alike.targets q e;
    lengths = λ q. H.alike.lengths q ∙ G.alike.lengths q;
  };
  waits = λ q e. H.waits q (G.waits q e);
}

pub offered_grey : {f : Phase} {m m' : Mem} {g g' : List ℕ} {v : Value} → Offered f m g v m' g' → Grey m g → Grey m' g'
offered_grey o_nil G = G
offered_grey o_num G = G
offered_grey (o_off e) G = G
offered_grey (o_kept e n) G = G
offered_grey {m = m} {g = g} (o_queued {p} e w) G = queue_grey m g p w.below G w

pub offered_grows : {f : Phase} {m m' : Mem} {g g' : List ℕ} {v : Value} → Offered f m g v m' g' → Grows m m'
offered_grows o_nil = grows_refl
offered_grows o_num = grows_refl
offered_grows (o_off e) = grows_refl
offered_grows (o_kept e n) = grows_refl
offered_grows {m = m} (o_queued {p} e w) = queue_grows w.below

-- an offer leaves the components as they were
pub offered_parts : {f : Phase} {m m' : Mem} {g g' : List ℕ} {v : Value} → Offered f m g v m' g' → (q : ℕ) → (at m' q).parts ≡ (at m q).parts
offered_parts o_nil q = refl
offered_parts o_num q = refl
offered_parts (o_off e) q = refl
offered_parts (o_kept e n) q = refl
offered_parts {m = m} (o_queued {p} e w) q = go (written m p (waiting (at m p)) q w.below)
  where
    go : Written m p (waiting (at m p)) q → (at (put m p (waiting (at m p))) q).parts ≡ (at m q).parts
    go (here e a) = rw (a, e)
    go (there n a) = rw a

-- the collector stack has room for a plain place that does not wait
room : {m : Mem} {g : List ℕ} (p : ℕ) → Grey m g → p < size m → (at m p).waiting ≡ false → length g < 4096
room {m} {g} p G l e =
    let d : Distinct (p ∷ g) = (λ i. true≢false (sym (G.each p i).2 ∙ e), G.distinct) in
    let all : (q : ℕ) → In q (p ∷ g) → q < size m = λ q i. below q i in
    omega (arith, pigeons (size m) (p ∷ g) d all, size_small m)
  where
    below : (q : ℕ) → In q (p ∷ g) → q < size m
    below q (inl z) = rw z l
    below q (inr i) = (G.each q i).0

-- what is offered in the mark phase and is a plain or accessible place, is seen
pub offered_seen : {f : Phase} {m : Mem} {g : List ℕ} {p : ℕ} {m' : Mem} {g' : List ℕ} → Offered f m g (V.Cell p) m' g' → marking f ≡ true → Grey m g → p < size m → (kind (at m p) ≡ K.Plain) ⊎ (kind (at m p) ≡ K.Accessible) → (kind (at m' p) ≡ K.Accessible) ⊎ ((at m' p).waiting ≡ true)
offered_seen (o_off e) i G l k = absurd (true≢false (sym i ∙ e))
offered_seen {m = m} {p = p} (o_queued e w) i G l k = inr (rw (at_same m p (waiting (at m p)) l))
offered_seen (o_kept e x) i G l (inr b) = inl b
offered_seen {m = m} {g = g} {p = p} (o_kept e x) i G l (inl b) = go (at m p).waiting refl
  where
    go : (t : Bool) → (at m p).waiting ≡ t → (kind (at m p) ≡ K.Accessible) ⊎ ((at m p).waiting ≡ true)
    go true d = inr d
    go false d = absurd (x (record { below = l; white = b; idle = d; room = room p G l d }))

-- what is dark after an offer was so, or is what was offered
pub offered_dark : {f : Phase} {m : Mem} {g : List ℕ} {v : Value} {m' : Mem} {g' : List ℕ} → Offered f m g v m' g' → (q : ℕ) → (kind (at m' q) ≡ K.Accessible) ⊎ ((at m' q).waiting ≡ true) → ((kind (at m q) ≡ K.Accessible) ⊎ ((at m q).waiting ≡ true)) ⊎ (v ≡ V.Cell q)
offered_dark o_nil q d = inl d
offered_dark o_num q d = inl d
offered_dark (o_off e) q d = inl d
offered_dark (o_kept e n) q d = inl d
offered_dark {m = m} (o_queued {p} e w) q d = go (written m p (waiting (at m p)) q w.below) d
  where
    go : Written m p (waiting (at m p)) q → (kind (at (put m p (waiting (at m p))) q) ≡ K.Accessible) ⊎ ((at (put m p (waiting (at m p))) q).waiting ≡ true) → ((kind (at m q) ≡ K.Accessible) ⊎ ((at m q).waiting ≡ true)) ⊎ (V.Cell p ≡ V.Cell q)
    go (here e a) d = inr (ap V.Cell (sym e))
    go (there n a) d = inl (rw a at d)

-- outside the mark phase an offer does nothing
pub offered_off : {f : Phase} {m m' : Mem} {g g' : List ℕ} {v : Value} → Offered f m g v m' g' → marking f ≡ false → (m' ≡ m) × (g' ≡ g)
offered_off o_nil i = (refl, refl)
offered_off o_num i = (refl, refl)
offered_off (o_off e) i = (refl, refl)
offered_off (o_kept e n) i = (refl, refl)
offered_off (o_queued e w) i = absurd (true≢false (sym e ∙ i))

pub kinds_alike : (ph : Phase) {m m' : Mem} → Alike m m' → Kinds ph m → Kinds ph m'
kinds_alike P.Rest A K = λ p l. rw (A.kinds p) (K p (rw A.sizes at l))
kinds_alike (P.Mark r s b) A K = λ p l. rw (A.kinds p) (K p (rw A.sizes at l))
kinds_alike (P.Relocate lo u) {m} {m'} A Ks = (f, rw A.sizes Ks.1)
  where
    f : (p : ℕ) → kind (at m' p) ≡ K.Moved → Forward m' lo p
    f p k =
        let k' : kind (at m p) ≡ K.Moved = sym (A.kinds p) ∙ k in
        let w = Ks.0 p k' in
        record { to = w.to; first = A.targets p k' ∙ w.first; below = w.below; black = A.kinds w.to ∙ w.black }
kinds_alike (P.Update r q s) A K = tt
kinds_alike (P.Reclaim s) A K = λ p l h. rw (A.kinds p) (K p (rw A.sizes at l) h)

pub dark_alike : (ph : Phase) {m m' : Mem} → Alike m m' → ((q : ℕ) → (at m' q).waiting ≡ (at m q).waiting) → (q : ℕ) → Dark ph q (at m' q) → Dark ph q (at m q)
dark_alike P.Rest A W q d = rw (A.kinds q) at d
dark_alike (P.Mark r s b) A W q (inl d) = inl (sym (A.kinds q) ∙ d)
dark_alike (P.Mark r s b) A W q (inr d) = inr (sym (W q) ∙ d)
dark_alike (P.Relocate l u) A W q d = rw (A.kinds q) at d
dark_alike (P.Update r p s) A W q d = rw (A.kinds q) at d
dark_alike (P.Reclaim s) A W q d = rw (A.kinds q) at d

-- ---- what grows keeps
module _ (ph : Phase) {m m' : Mem} (G : Grows m m') (fs : (q : ℕ) → (at m' q).parts ≡ (at m q).parts) where
  inside : (q : ℕ) → q < size m' → q < size m
  inside q l = rw G.alike.sizes at l

  back : {own : Ghost} {q : ℕ} → Good ph m' own q → Good ph m own q
  back {q = q} g = record { is = rw (G.alike.kinds q) at g.is; allowed = g.allowed }

  pub grows_cells : {own : Ghost} {b : List (List Value)} → Cells ph m own b → Cells ph m' own b
  grows_cells C = record {
    parts = λ q l g i. rw (fs q) (alike_V G.alike (C.parts q (inside q l) (back g) i));
    full = λ q l g. rw G.alike.widths (C.full q (inside q l) (back g));
    owned = λ q l g. C.owned q (inside q l) (back g);
    apart = λ q r l₁ l₂ g₁ g₂ e. C.apart q r (inside q l₁) (inside r l₂) (back g₁) (back g₂) e;
  }

  pub grows_inv : {g g' : List ℕ} {f : Option FreeList} {D : ℕ → Kind → Type 0} {rs st : List Value} {own : Ghost} {k : Reference} → Grey m' g' → Quiet ph g' → ((p : ℕ) → p < size m' → Dark ph p (at m' p) → own.ok (own.to p)) → Inv ph D m g f rs st own k → Inv ph D m' g' f rs st own k
  grows_inv grey quiet fair I = record {
    fair = fair;
    later = I.later;
    cells = grows_cells I.cells;
    roots = rows_map (λ v w x. alike_V G.alike x) I.roots;
    list = rows_map (λ v w x. alike_V G.alike x) I.list;
    even = λ q l. rw (G.alike.lengths q, G.alike.widths) (I.even q (inside q l));
    spare = λ q l i a. ap (λ (vs : List Value). get_or vs i V.Nil) (fs q) ∙ I.spare q (inside q l) i (rw G.alike.widths at a);
    wide = I.wide;
    grey = grey;
    quiet = quiet;
    kinds = kinds_alike ph G.alike I.kinds;
    vacancy = vacancy_keep G.alike.sizes (λ q e. (G.alike.kinds q ∙ e, ap (λ (vs : List Value). get_or vs 0 V.Nil) (fs q))) (λ q e. sym (G.alike.kinds q) ∙ e) I.vacancy;
    root_new = λ i d. grows_new G (I.root_new i d);
    slot_new = λ i d. grows_new G (I.slot_new i d);
    part_new = λ q l d i. rw (fs q) (grows_new G (I.part_new q (inside q l) (rw (G.alike.kinds q) at d) i));
  }
