-- Create: refused on both sides, refused for want of a place, or a new cell on both sides.
use Rattle.std.proofs.Common.{◌≡◌, ℕ, zero, suc, ◌+◌, ◌<◌, ◌≤◌, true, ◌⊎◌, List, [], ◌∷◌, ◌++◌, reverse, length, get_or, take, drop, Some, None, Ok, Err, Option, sym, refl, ap, ◌∙◌, subst, inl, inr, arith}
use mathlib.Core.List.{reverse_aux}
use Rattle.std.proofs.lemmas.List.{length-take-le, length-reverse, length-drop, get_or_past}
use Rattle.std.proofs.lemmas.Bool.{cases_lt, lt-ltb, le-ltb}
use Rattle.values.specs.Cells.{kind}
use Rattle.values.specs.declared.cells.Kind.TheVariants as K
use Rattle.values.specs.declared.cells.Value.{Value}
use Rattle.values.specs.declared.cells.Value.TheVariants as V
use Rattle.model.specs.declared.answers.Answer.{Answer}
use Rattle.model.specs.declared.answers.Answer.TheVariants as A
use Rattle.model.specs.declared.answers.Refusal.TheVariants as R
use Rattle.model.specs.declared.registers.FreeList.{FreeList}
use Rattle.model.specs.declared.registers.Phase.{Phase}
use Rattle.model.specs.Calls.{new_cell, laid}
use Rattle.model.specs.Every.{told, done}
use Rattle.model.specs.Heap.{Heap, Mem, Done, granted, at, with_list}
use Rattle.model.specs.Words.{marking, normal_all}
use Rattle.law.specs.Reference.{Reference, Told, made, answers, create}
use Rattle.law.proofs.CallViews.{Create, create_few, create_full, create_done}
use Rattle.law.proofs.Calls.{Over, Top, empty, top, tops, list_inv}
use Rattle.law.proofs.FreeTake.{vacancy_head}
use Rattle.law.proofs.Give.{GivenFrom, given_from, give_from}
use Rattle.law.proofs.Inv.{Settled, settled_nil, CellDone, Inv, InvOf}
use Rattle.law.proofs.Memory.{size, size_put, at_same, at_other}
use Rattle.law.proofs.NewCell.{Parts, owner, new_used, new_dark, made_more, create_inv}
use Rattle.law.proofs.Normals.{length_normal_all, normal_all_each}
use Rattle.law.proofs.Rows.{Rows, r_none, r_more, rows_at, rows_length}
use Rattle.law.proofs.Sim.{Sim, sim_refused}
use Rattle.law.proofs.Values.{Ghost, v_nil, Stands, stands_V, V_normal, alike_V}

-- a create that finds values enough, and no free place
pub record Full (h : Heap) (k : Reference) (d : Done Answer) (t : Told) : Type 0 where
  pub enough : h.mem.width ≤ length k.list
  pub none : h.free ≡ None
  pub refuses : d.says ≡ Err R.NoSpace
  pub tells : t.says ≡ Ok A.Done
  pub leaves : d.heap ≡ h

-- a create that is granted: one free place becomes a cell, and all else keeps its kind
pub record Made (h : Heap) (k : Reference) (d : Done Answer) (t : Told) (ok : ℕ → Type 0) : Type 0 where
  pub enough : h.mem.width ≤ length k.list
  pub ends : FreeList
  pub some : h.free ≡ Some ends
  pub grants : d.says ≡ Ok A.Done
  pub tells : t.says ≡ Ok A.Done
  pub to : ℕ → ℕ
  pub inv : InvOf d.heap (record { to = to; ok = ok }) t.after
  pub phase : d.heap.phase ≡ h.phase
  pub sizes : size d.heap.mem ≡ size h.mem
  pub widths : d.heap.mem.width ≡ h.mem.width
  pub place : ℕ
  pub below : place < size h.mem
  pub was : kind (at h.mem place) ≡ K.Free
  pub used : kind (at d.heap.mem place) ≡ K.Free → ⊥
  pub dark : marking h.phase ≡ true → kind (at d.heap.mem place) ≡ K.Plain → ⊥
  pub others : (q : ℕ) → (q ≡ place → ⊥) → kind (at d.heap.mem q) ≡ kind (at h.mem q)
  pub short : length h.list ≤ 256 → length d.heap.list ≤ 256
  pub one : made t.after.cells ≡ made k.cells + 1

-- the three ways of create
pub data Creates (h : Heap) (k : Reference) (own : Ghost) (d : Done (Unit {0})) (t : Told) : Type 0 where
  creates_none : length k.list < h.mem.width → d.says ≡ Err R.TooFew → Sim done h k d t own → Creates h k own d t
  creates_full : Full h k (told done d) t → Creates h k own d t
  creates_made : Made h k (told done d) t own.ok → Creates h k own d t

-- ---- the top n values and the rest
rows_take : {T : Value → Value → Type 0} {vs ws : List Value} (n : ℕ) → Rows T vs ws → Rows T (take n vs) (take n ws)
rows_take zero R = r_none
rows_take (suc n) r_none = r_none
rows_take (suc n) (r_more r R) = r_more r (rows_take n R)

rows_reverse : {T : Value → Value → Type 0} {vs ws xs ys : List Value} → Rows T vs ws → Rows T xs ys → Rows T (reverse_aux vs xs) (reverse_aux ws ys)
rows_reverse r_none S = S
rows_reverse (r_more r R) S = rows_reverse R (r_more r S)

over_drop : {ph : Phase} {m : Mem} {own : Ghost} (n : ℕ) {st ks : List Value} → Over ph m own st ks → Over ph m own (drop n st) (drop n ks)
over_drop zero O = O
over_drop {ph} {m} {own} (suc n) O = go (tops O) (λ xs ys P. over_drop n {st = xs} {ks = ys} P)
  where
    go : {st ks : List Value} → Top ph m own st ks → ((xs ys : List Value) → Over ph m own xs ys → Over ph m own (drop n xs) (drop n ys)) → Over ph m own (drop (suc n) st) (drop (suc n) ks)
    go empty f = record { rows = r_none; new = λ i d. settled_nil }
    go (top {st = st} {ks = ks} s P) f = f st ks P

module _ (h : Heap) (own : Ghost) (k : Reference) (I : InvOf h own k) (positive : 1 ≤ h.mem.width) (l : h.mem.width ≤ length h.list) where
  abbrev w : ℕ
  w = h.mem.width

  -- the values that become components, here and in the reference heap
  abbrev xs : List Value
  xs = reverse (take w h.list)

  abbrev ws : List Value
  ws = reverse (take w k.list)

  abbrev vs : List Value
  vs = normal_all h.mem xs

  length_xs : length xs ≡ w
  length_xs = length-reverse (take w h.list) ∙ length-take-le w h.list l

  enough : w ≤ length k.list
  enough = omega (arith, rows_length I.list)

  stand : (i : ℕ) → Stands h.phase h.mem own (get_or vs i V.Nil) (get_or ws i V.Nil)
  stand i =
      let e = normal_all_each h.mem xs i (omega (arith, length_xs)) (λ a. get_or_past xs i V.Nil (omega (arith, length_xs))) in
      rw e (V_normal (rows_at i v_nil (rows_reverse (rows_take w I.list) r_none)))

  lay : {f : FreeList} → h.free ≡ Some f → {h₁ : Heap} → GivenFrom h.phase (CellDone h.phase) own k vs w 0 h h₁
      → Made h k (granted A.Done (laid f vs (with_list (V.Cell f.first ∷ drop w h.list) h₁))) (answers A.Done (record { roots = k.roots; list = V.Cell (made k.cells) ∷ drop w k.list; cells = k.cells ++ ws ∷ [] })) own.ok
  lay {f} e (given_from {m} {g} I₁ N G P) =
      let B = G.alike in
      let I₂ = list_inv (subst (λ (o : Option FreeList). Inv h.phase (CellDone h.phase) m g o h.roots h.list own k) e I₁) (over_drop w (record { rows = I₁.list; new = I₁.slot_new })) in
      let p = f.first in
      let c = new_cell h.phase p vs in
      let v = vacancy_head I₂.vacancy in
      record {
        enough = enough;
        ends = f;
        some = e;
        grants = refl;
        tells = refl;
        to = (owner own p (made k.cells)).to;
        inv = create_inv I₂ parts;
        phase = refl;
        sizes = size_put m p c ∙ B.sizes;
        widths = B.widths;
        place = p;
        below = rw B.sizes at v.0;
        was = sym (B.kinds p) ∙ v.1;
        used = λ z. new_used h.phase p vs (rw (at_same m p c v.0) at z);
        dark = λ i z. new_dark h.phase p vs i (rw (at_same m p c v.0) at z);
        others = λ q n. ap kind (at_other m p q c n) ∙ B.kinds q;
        short = λ a. omega (arith, length-drop w h.list);
        one = made_more I₂ parts;
      }
    where
      filled : length vs ≡ m.width
      filled = length_normal_all h.mem xs ∙ length_xs ∙ sym G.alike.widths

      new : (i : ℕ) → (i < w) ⊎ (w ≤ i) → Settled h.phase m (get_or vs i V.Nil)
      new i (inl a) = N i (omega arith) (omega arith)
      new i (inr a) = rw (get_or_past vs i V.Nil (omega (arith, filled, G.alike.widths))) settled_nil

      parts : Parts h.phase m own vs ws
      parts = record {
        filled = filled;
        full = length-reverse (take w k.list) ∙ length-take-le w k.list enough ∙ sym G.alike.widths;
        means = λ i. alike_V G.alike (stands_V (stand i));
        new = λ i. new i (cases_lt i w);
      }

pub sim_create : (h : Heap) (own : Ghost) (k : Reference) → 1 ≤ h.mem.width → InvOf h own k → {d : Done (Unit {0})} → Create h d → Creates h k own d (create h.mem.width k)
sim_create h own k positive I (create_few l) =
    let a : length k.list < h.mem.width = omega (arith, rows_length I.list) in
    rw (lt-ltb (length k.list) h.mem.width a) (creates_none a refl (sim_refused done h k own R.TooFew refl I))
sim_create h own k positive I (create_full l e) =
    let a = enough h own k I positive l in
    rw (le-ltb (length k.list) h.mem.width a) (creates_full (record { enough = a; none = e; refuses = refl; tells = refl; leaves = refl }))
sim_create h own k positive I (create_done l e is) =
    let G = give_from h.phase (CellDone h.phase) own k (vs h own k I positive l) h.mem.width 0 h refl I (λ j _ _. record { for = _; it = stand h own k I positive l j }) in
    rw (is, le-ltb (length k.list) h.mem.width (enough h own k I positive l)) (creates_made (lay h own k I positive l e G))
