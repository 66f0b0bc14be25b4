-- Every list call: it answers as the reference heap does, or it is a create that finds no free place, or one that makes a cell.
use Rattle.std.proofs.Common.{◌≡◌, ℕ, ◌<◌, ◌≤◌, false, length, Ok, Err, Result, sym, refl, ap, ◌∙◌, subst}
use Rattle.std.proofs.lemmas.Bool.{true≢false, lt-leb}
use Rattle.values.specs.declared.cells.Value.TheVariants as V
use Rattle.model.specs.declared.answers.Answer.{Answer}
use Rattle.model.specs.declared.answers.Refusal.{Refusal}
use Rattle.model.specs.declared.answers.Refusal.TheVariants as R
use Rattle.model.specs.declared.calls.ListCall.{ListCall}
use Rattle.model.specs.declared.calls.ListCall.TheVariants as L
use Rattle.model.specs.Calls.{create}
use Rattle.model.specs.Every.{as_answer, told, done, list_call}
use Rattle.model.specs.Heap.{Heap, Done}
use Rattle.law.specs.Law.{Account, fed, gained, expected}
use Rattle.law.specs.Reference.{Reference, made, calls}
use Rattle.law.proofs.CallViews.{push_way, load_way, pdlget_way, store_way, pdlput_way, popitem_way, look_way, identical_way, select_way, clobber_way, create_way}
use Rattle.law.proofs.Calls.{sim_push, sim_load, sim_pdlget, sim_store, sim_pdlput, sim_popitem, sim_look, sim_identical, sim_select, sim_clobber}
use Rattle.law.proofs.Create.{Full, Made, Creates, creates_none, creates_full, creates_made, sim_create}
use Rattle.law.proofs.Inv.{InvOf}
use Rattle.law.proofs.Sim.{Still, for_space, Sim}
use Rattle.law.proofs.Values.{Ghost, v_nil, v_num}

-- the call c answers as the law expects on any account with this reference heap, and makes no cell
pub record Agrees (c : ListCall) (h : Heap) (own : Ghost) (k : Reference) (d : Done Answer) : Type 0 where
  pub lawful : (n : ℕ) (a : Account) → a.reference ≡ k → d.says ≡ expected h.mem.width n c a
  pub inv : InvOf d.heap own (fed h.mem.width c d.says k)
  pub still : Still h d.heap
  pub same : made (fed h.mem.width c d.says k).cells ≡ made k.cells
  pub gains : gained c d.says ≡ 0
  pub never : for_space d.says ≡ false

pub data Answering (h : Heap) (own : Ghost) (k : Reference) : ListCall → Type 0 where
  agreed : {c : ListCall} → Agrees c h own k (list_call c h) → Answering h own k c
  no_room : Full h k (list_call L.Create h) (calls h.mem.width L.Create k) → Answering h own k L.Create
  one_made : Made h k (list_call L.Create h) (calls h.mem.width L.Create k) own.ok → Answering h own k L.Create

-- but for a refusal for want of space, the reference heap is fed the call
fed_on : (w : ℕ) (c : ListCall) (r : Result Answer Refusal) (k : Reference) → for_space r ≡ false → (calls w c k).after ≡ fed w c r k
fed_on w c (Ok a) k e = refl
fed_on w c (Err R.OutOfRange) k e = refl
fed_on w c (Err R.TooFew) k e = refl
fed_on w c (Err R.ListFull) k e = refl
fed_on w c (Err R.NotACell) k e = refl
fed_on w c (Err R.NoSpace) k e = absurd (true≢false e)
fed_on w c (Err R.CycleRuns) k e = refl
fed_on w c (Err R.AtRest) k e = refl

agrees : {X : Type 0} {f : X → Answer} {h : Heap} {k : Reference} {d : Done X} {own : Ghost} (c : ListCall) → ((n : ℕ) (a : Account) → a.reference ≡ k → expected h.mem.width n c a ≡ (calls h.mem.width c a.reference).says) → gained c (as_answer f d.says) ≡ 0
    → Sim f h k d (calls h.mem.width c k) own → Agrees c h own k (told f d)
agrees {f = f} {h} {k} {d} {own} c plain g S = record {
  lawful = λ n a e. S.says ∙ ap (λ (x : Reference). (calls h.mem.width c x).says) (sym e) ∙ sym (plain n a e);
  inv = subst (λ (x : Reference). InvOf d.heap own x) next S.inv;
  still = S.still;
  same = ap (λ (x : Reference). made x.cells) (sym next) ∙ S.same;
  gains = g;
  never = never;
}
  where
    never : for_space (as_answer f d.says) ≡ false
    never = ap for_space S.says ∙ S.never

    next : (calls h.mem.width c k).after ≡ fed h.mem.width c (as_answer f d.says) k
    next = fed_on h.mem.width c (as_answer f d.says) k never

pub answering : (c : ListCall) (h : Heap) (own : Ghost) (k : Reference) → 1 ≤ h.mem.width → InvOf h own k → Answering h own k c
answering L.Nil h own k one I = agreed (agrees L.Nil (λ n a e. refl) refl (sim_push h own k I v_nil (push_way V.Nil h)))
answering (L.Number x) h own k one I = agreed (agrees (L.Number x) (λ n a e. refl) refl (sim_push h own k I v_num (push_way (V.Number x) h)))
answering (L.Load r) h own k one I = agreed (agrees (L.Load r) (λ n a e. refl) refl (sim_load h own k I r (load_way r h)))
answering (L.Store r) h own k one I = agreed (agrees (L.Store r) (λ n a e. refl) refl (sim_store h own k I r (store_way r h)))
answering L.Create h own k one I = go (sim_create h own k one I (create_way h one))
  where
    few : length k.list < h.mem.width → (n : ℕ) (a : Account) → a.reference ≡ k → expected h.mem.width n L.Create a ≡ (calls h.mem.width L.Create a.reference).says
    few l n a e = rw (lt-leb h.mem.width (length a.reference.list) (rw (ap (λ (x : Reference). length x.list) e) l))

    go : Creates h k own (create h) (calls h.mem.width L.Create k) → Answering h own k L.Create
    go (creates_none l e S) = agreed (agrees L.Create (few l) (ap (λ r. gained L.Create (as_answer done r)) e) S)
    go (creates_full F) = no_room F
    go (creates_made M) = one_made M
answering (L.Select j) h own k one I = agreed (agrees (L.Select j) (λ n a e. refl) refl (sim_select h own k I j (select_way j h)))
answering (L.Clobber j) h own k one I = agreed (agrees (L.Clobber j) (λ n a e. refl) refl (sim_clobber h own k I j (clobber_way j h)))
answering L.Identical h own k one I = agreed (agrees L.Identical (λ n a e. refl) refl (sim_identical h own k I (identical_way h)))
answering L.Look h own k one I = agreed (agrees L.Look (λ n a e. refl) refl (sim_look h own k I (look_way h)))
answering L.Popitem h own k one I = agreed (agrees L.Popitem (λ n a e. refl) refl (sim_popitem h own k I (popitem_way h)))
answering (L.Pdlget d) h own k one I = agreed (agrees (L.Pdlget d) (λ n a e. refl) refl (sim_pdlget h own k I d (pdlget_way d h)))
answering (L.Pdlput d) h own k one I = agreed (agrees (L.Pdlput d) (λ n a e. refl) refl (sim_pdlput h own k I (pdlput_way d h)))
