-- Every run from an opening obeys the law.
use Rattle.std.proofs.Common.{◌≡◌, ℕ, ◌+◌, ◌-◌, ◌*◌, ◌<◌, ◌≤◌, min, Bool, true, false, cond, eqb, ltb, List, length, Some, None, Ok, Err, Option, Result, sym, refl, ap, ◌∙◌, subst, arith}
use Rattle.values.specs.declared.cells.Cell.{Cell}
use Rattle.model.specs.Answers.{name_of}
use Rattle.model.specs.Every.{as_answer, done, call, list_call}
use Rattle.model.specs.Heap.{Heap, Done, granted, refused, with_phase}
use Rattle.model.specs.Steps.{begin_in, step, step_in, opened, used}
use Rattle.model.specs.declared.answers.Answer.{Answer}
use Rattle.model.specs.declared.answers.Answer.TheVariants as A
use Rattle.model.specs.declared.answers.Refusal.{Refusal}
use Rattle.model.specs.declared.answers.Refusal.TheVariants as R
use Rattle.model.specs.declared.answers.Stepped.{Stepped}
use Rattle.model.specs.declared.calls.Call.{Call}
use Rattle.model.specs.declared.calls.Call.TheVariants as C
use Rattle.model.specs.declared.calls.Event.{Event}
use Rattle.model.specs.declared.calls.ListCall.{ListCall}
use Rattle.model.specs.declared.calls.ListCall.TheVariants as L
use Rattle.model.specs.declared.registers.Phase.{Phase}
use Rattle.model.specs.declared.registers.Phase.TheVariants as P
use Rattle.law.specs.Law.{fed, gained, more_made, expected, Cycle, Account, in_use, fresh, entered_call, advanced, account, InCycle, Lawful, Law, Follows, ended, followed, EveryRunIsLawful}
use Rattle.law.specs.Live.{live}
use Rattle.law.specs.Reference.{Reference, made}
use Rattle.model.specs.declared.registers.FreeList.{FreeList}
use Rattle.std.proofs.lemmas.Bool.{le-leb, eq-eqb, ne_eqb}
use Rattle.law.proofs.Answering.{Answering, agreed, no_room, one_made, answering}
use Rattle.law.proofs.Free.{Vacancy}
use Rattle.law.proofs.Beginning.{Allowed, kept_begin}
use Rattle.law.proofs.Budget.{budget, budget_begin, budget_positive, budget_still, budget_taken}
use Rattle.law.proofs.Counting.{used_still, used_taken, full_used, free_used}
use Rattle.law.proofs.Ending.{cycle_bound}
use Rattle.law.proofs.Inv.{InvOf}
use Rattle.law.proofs.Marking.{kept_mark}
use Rattle.law.proofs.Memory.{size}
use Rattle.law.proofs.Opening.{open_inv, open_size, open_used}
use Rattle.law.proofs.Relocating.{Kept, kept_relocate}
use Rattle.law.proofs.StepCounts.{step_counts}
use Rattle.law.proofs.StepViews.{marking_way, relocating_way, updating_way, reclaiming_way}
use Rattle.law.proofs.Sweeping.{kept_reclaim}
use Rattle.law.proofs.Updating.{kept_update}
use Rattle.law.proofs.Values.{Ghost}

-- ---- what ties a heap to the account of its log

-- The heap rests and no cycle is on the account; or both say that a cycle runs, what counts is what was live at its begin or made since, and the steps made and the budget left are within the bound.
pub data Cycling (n : ℕ) (h : Heap) (k : Reference) : Option Cycle → Type 1 where
  resting : (own : Ghost) → h.phase ≡ P.Rest → InvOf h own k → Cycling n h k None
  cycling : {c : Cycle} (k₀ : Reference) (to : ℕ → ℕ) → (h.phase ≡ P.Rest → ⊥) → InvOf h (record { to = to; ok = Allowed k₀ }) k → c.live ≡ length (live k₀) → made k.cells ≤ made k₀.cells + c.made → c.steps + budget h ≤ 4 * n + 548 → Cycling n h k (Some c)

pub record Tied (w n : ℕ) (h : Heap) (a : Account) : Type 1 where
  pub width : h.mem.width ≡ w
  pub places : size h.mem ≡ n
  pub short : length h.list ≤ 256
  pub count : used h.mem + a.returned ≡ a.created
  pub cycle : Cycling n h a.reference a.cycle

-- what is shown of one call: its answer is lawful, and the heap that it leaves is tied to the account after it
record Went (w n : ℕ) (c : Call) (r : Result Answer Refusal) (h : Heap) (a : Account) : Type 1 where
  lawful : Lawful w n c r a
  tied : Tied w n h (entered_call w c r a)

-- ---- census

went_census : {w n : ℕ} {h : Heap} {a : Account} → Tied w n h a → Went w n C.Census (call C.Census h).says h a
went_census {h = h} {a = a} T = let e : used h.mem ≡ in_use a = omega (arith, T.count) in record { lawful = ap (λ (m : ℕ). Ok (A.Census m)) e; tied = T }

-- ---- begin

begin_rests : (f : Phase) (b : Bool) (h : Heap) → f ≡ P.Rest → begin_in f b h ≡ granted tt (with_phase (P.Mark 0 0 b) h)
begin_rests f b h e = rw e

begin_runs : (f : Phase) (b : Bool) (h : Heap) → (f ≡ P.Rest → ⊥) → begin_in f b h ≡ refused R.CycleRuns h
begin_runs P.Rest b h n = absurd (n refl)
begin_runs (P.Mark r s m) b h n = refl
begin_runs (P.Relocate l u) b h n = refl
begin_runs (P.Update r p s) b h n = refl
begin_runs (P.Reclaim p) b h n = refl

module _ (w n : ℕ) (h : Heap) (k : Reference) (cr rt : ℕ) where
  abbrev account_with : Option Cycle → Account
  account_with o = record { reference = k; created = cr; returned = rt; cycle = o }

  went_begin : (p : ℕ) {o : Option Cycle} → h.mem.width ≡ w → size h.mem ≡ n → length h.list ≤ 256 → used h.mem + rt ≡ cr → Cycling n h k o
      → Went w n (C.Begin p) (call (C.Begin p) h).says (call (C.Begin p) h).heap (account_with o)
  went_begin p a b s u (resting own e I) = go (ltb 1 p) refl
    where
      m : Bool
      m = eqb p 1

      go : (t : Bool) → ltb 1 p ≡ t → Went w n (C.Begin p) (as_answer done (cond t (refused R.OutOfRange h) (begin_in h.phase m h)).says) (cond t (refused R.OutOfRange h) (begin_in h.phase m h)).heap (account_with None)
      go true q = record { lawful = rw q; tied = record { width = a; places = b; short = s; count = u; cycle = resting own e I } }
      go false q =
          subst (λ (d : Done (Unit {0})). Went w n (C.Begin p) (as_answer done d.says) d.heap (account_with None)) (sym (begin_rests h.phase m h e))
          (record { lawful = rw q; tied = record { width = a; places = b; short = s; count = u; cycle = cycling k own.to (λ z. let x : ◌≡◌ {A = ℕ} 0 1 = cc in omega arith) (kept_begin h own k m e I) refl (omega arith) (omega (arith, budget_begin h m, b)) } })
  went_begin p a b s u (cycling {c} k₀ to r I l g i) = go (ltb 1 p) refl
    where
      m : Bool
      m = eqb p 1

      T : Tied w n h (account_with (Some c))
      T = record { width = a; places = b; short = s; count = u; cycle = cycling k₀ to r I l g i }

      go : (t : Bool) → ltb 1 p ≡ t → Went w n (C.Begin p) (as_answer done (cond t (refused R.OutOfRange h) (begin_in h.phase m h)).says) (cond t (refused R.OutOfRange h) (begin_in h.phase m h)).heap (account_with (Some c))
      go true q = record { lawful = rw q; tied = T }
      go false q =
          subst (λ (d : Done (Unit {0})). Went w n (C.Begin p) (as_answer done d.says) d.heap (account_with (Some c))) (sym (begin_runs h.phase m h r))
          (record { lawful = rw q; tied = T })

-- ---- step

kept_step : (h : Heap) (own : Ghost) (k : Reference) → 1 ≤ h.mem.width → h.mem.width ≤ 2 → InvOf h own k → Kept (step h).heap k own.ok
kept_step h own k one two I = go h.phase refl
  where
    go : (f : Phase) → h.phase ≡ f → Kept (step_in f h).heap k own.ok
    go P.Rest e = record { to = own.to; inv = I }
    go (P.Mark r s b) e = record { to = own.to; inv = kept_mark h own k r s b e I (marking_way h r s b) }
    go (P.Relocate l u) e = kept_relocate h own k l u one e I (relocating_way h l u)
    go (P.Update r p s) e = record { to = own.to; inv = kept_update h own k r p s e I (updating_way h r p s) }
    go (P.Reclaim p) e = record { to = own.to; inv = kept_reclaim h own k p one two e I (reclaiming_way h p) }

rest_refuses : (h : Heap) → h.phase ≡ P.Rest → step h ≡ refused R.AtRest h
rest_refuses h e = at_rest h.phase e
  where
    at_rest : (f : Phase) → f ≡ P.Rest → step_in f h ≡ refused R.AtRest h
    at_rest f e = rw e

module _ (w n : ℕ) (h : Heap) (k : Reference) (cr rt : ℕ) (a : h.mem.width ≡ w) (b : size h.mem ≡ n) (s : length h.list ≤ 256) (u : used h.mem + rt ≡ cr) (one : 1 ≤ w) (two : w ≤ 2) where
  abbrev books : Option Cycle → Account
  books o = record { reference = k; created = cr; returned = rt; cycle = o }

  -- a granted step that leaves the heap h' in a phase f
  stepping : (c : Cycle) (k₀ : Reference) (to : ℕ → ℕ) (back : Bool) (h' : Heap) → c.live ≡ length (live k₀) → made k.cells ≤ made k₀.cells + c.made → c.steps + budget h ≤ 4 * n + 548
      → InvOf h' (record { to = to; ok = Allowed k₀ }) k → size h'.mem ≡ n → h'.mem.width ≡ w → length h'.list ≤ 256 → used h'.mem + cond back 1 0 ≡ used h.mem → budget h' < budget h → (f : Phase) → h'.phase ≡ f
      → InCycle n (name_of f) (cr - (rt + cond back 1 0)) c × Tied w n h' (advanced (record { phase = name_of f; returned = back }) (books (Some c)))
  stepping c k₀ to back h' l g i I z x y v d f e = go f e
    where
      count : used h'.mem + (rt + cond back 1 0) ≡ cr
      count = omega (arith, u, v)

      runs : (h'.phase ≡ P.Rest → ⊥) → 1 ≤ budget h'
      runs r = budget_positive h' r

      more : (h'.phase ≡ P.Rest → ⊥) → c.steps + 1 < 4 * n + 548
      more r = omega (arith, runs r)

      on : (h'.phase ≡ P.Rest → ⊥) → (o : Option Cycle) → o ≡ Some (record { live = c.live; made = c.made; steps = c.steps + 1 }) → Tied w n h' (record { reference = k; created = cr; returned = rt + cond back 1 0; cycle = o })
      on r o q = rw q (record { width = x; places = z; short = y; count = count; cycle = cycling {c = record { live = c.live; made = c.made; steps = c.steps + 1 }} k₀ to r I l g (omega arith) })

      go : (f : Phase) → h'.phase ≡ f → InCycle n (name_of f) (cr - (rt + cond back 1 0)) c × Tied w n h' (advanced (record { phase = name_of f; returned = back }) (books (Some c)))
      go P.Rest e =
          let m = cycle_bound h' to k₀ k e I c.made g in
          ((omega (arith, m, count, l), omega arith), record { width = x; places = z; short = y; count = count; cycle = resting (record { to = to; ok = Allowed k₀ }) e I })
      go (P.Mark r t m) e = let q : h'.phase ≡ P.Rest → ⊥ = λ j. let o : ◌≡◌ {A = ℕ} 0 1 = cc in omega arith in (more q, on q _ refl)
      go (P.Relocate r t) e = let q : h'.phase ≡ P.Rest → ⊥ = λ j. let o : ◌≡◌ {A = ℕ} 0 1 = cc in omega arith in (more q, on q _ refl)
      go (P.Update r p t) e = let q : h'.phase ≡ P.Rest → ⊥ = λ j. let o : ◌≡◌ {A = ℕ} 0 1 = cc in omega arith in (more q, on q _ refl)
      go (P.Reclaim p) e = let q : h'.phase ≡ P.Rest → ⊥ = λ j. let o : ◌≡◌ {A = ℕ} 0 1 = cc in omega arith in (more q, on q _ refl)

  went_step : {o : Option Cycle} → Cycling n h k o → Went w n C.Step (call C.Step h).says (call C.Step h).heap (books o)
  went_step (resting own e I) =
      subst (λ (d : Done Stepped). Went w n C.Step (as_answer A.Step d.says) d.heap (books None)) (sym (rest_refuses h e))
      (record { lawful = refl; tied = record { width = a; places = b; short = s; count = u; cycle = resting own e I } })
  went_step (cycling {c} k₀ to r I l g i) =
      let N = step_counts h r s I in
      let K = kept_step h (record { to = to; ok = Allowed k₀ }) k (rw a one) (rw a two) I in
      let S = stepping c k₀ K.to N.back (step h).heap l g i K.inv (N.sizes ∙ b) (N.widths ∙ a) (omega (arith, N.lengths)) N.count N.falls (step h).heap.phase refl in
      subst (λ (x : Result Stepped Refusal). Went w n C.Step (as_answer A.Step x) (step h).heap (books (Some c))) (sym N.says)
      (record { lawful = record { step = record { phase = name_of (step h).heap.phase; returned = N.back }; says = refl; keeps = S.0 }; tied = S.1 })

-- ---- a list call

-- what is shown of a list call, whether or not a cycle runs
record Listed (c : ListCall) (h : Heap) (ok : ℕ → Type 0) (a : Account) (r : Result Answer Refusal) (h' : Heap) : Type 0 where
  lawful : r ≡ expected h.mem.width (size h.mem) c a
  to : ℕ → ℕ
  inv : InvOf h' (record { to = to; ok = ok }) (fed h.mem.width c r a.reference)
  phase : h'.phase ≡ h.phase
  widths : h'.mem.width ≡ h.mem.width
  sizes : size h'.mem ≡ size h.mem
  short : length h.list ≤ 256 → length h'.list ≤ 256
  count : used h'.mem + a.returned ≡ a.created + gained c r
  spends : budget h' ≤ budget h
  makes : made (fed h.mem.width c r a.reference).cells ≤ made a.reference.cells + gained c r

listing : (c : ListCall) (h : Heap) (own : Ghost) (a : Account) → InvOf h own a.reference → used h.mem + a.returned ≡ a.created → Answering h own a.reference c → Listed c h own.ok a (list_call c h).says (list_call c h).heap
listing c h own a I u (agreed G) = record {
  lawful = G.lawful (size h.mem) a refl;
  to = own.to;
  inv = G.inv;
  phase = G.still.phase;
  widths = G.still.widths;
  sizes = G.still.sizes;
  short = G.still.short;
  count = omega (arith, used_still G.still, G.gains);
  spends = omega (arith, budget_still G.still);
  makes = omega (arith, G.same);
}
listing c h own a I u (no_room F) =
    let v : used h.mem ≡ size h.mem = full_used (subst (λ (f : Option FreeList). Vacancy h.mem f) F.none I.vacancy) in
    let x : in_use a ≡ size h.mem = omega arith in
    subst (λ (r : Result Answer Refusal). Listed L.Create h own.ok a r (list_call L.Create h).heap) (sym F.refuses)
    (subst (λ (h' : Heap). Listed L.Create h own.ok a (Err R.NoSpace) h') (sym F.leaves) (record {
      lawful = rw (le-leb h.mem.width (length a.reference.list) F.enough, eq-eqb (in_use a) (size h.mem) x);
      to = own.to;
      inv = I;
      phase = refl;
      widths = refl;
      sizes = refl;
      short = λ l. l;
      count = omega arith;
      spends = omega arith;
      makes = omega arith;
    }))
listing c h own a I u (one_made M) =
    let v : used h.mem < size h.mem = free_used (subst (λ (f : Option FreeList). Vacancy h.mem f) M.some I.vacancy) in
    let x : in_use a ≡ size h.mem → ⊥ = λ e. omega arith in
    let t : used (list_call L.Create h).heap.mem ≡ used h.mem + 1 = used_taken h.mem (list_call L.Create h).heap.mem M.place M.sizes M.below M.was M.used M.others in
    subst (λ (r : Result Answer Refusal). Listed L.Create h own.ok a r (list_call L.Create h).heap) (sym M.grants) (record {
      lawful = rw (le-leb h.mem.width (length a.reference.list) M.enough, ne_eqb (in_use a) (size h.mem) x) (sym M.tells);
      to = M.to;
      inv = M.inv;
      phase = M.phase;
      widths = M.widths;
      sizes = M.sizes;
      short = M.short;
      count = omega arith;
      spends = budget_taken h (list_call L.Create h).heap M.place M.phase M.sizes M.below M.was M.dark M.others;
      makes = omega (arith, M.one);
    })

-- the account and the cycle after it
went_listed : {c : ListCall} {h : Heap} {a : Account} {r : Result Answer Refusal} {h' : Heap} {ok : ℕ → Type 0} → length h.list ≤ 256 → Listed c h ok a r h' → Cycling (size h.mem) h' (fed h.mem.width c r a.reference) (more_made (gained c r) a.cycle)
    → Went h.mem.width (size h.mem) (C.List c) r h' a
went_listed s X Y = record { lawful = X.lawful; tied = record { width = X.widths; places = X.sizes; short = X.short s; count = X.count; cycle = Y } }

module _ (h : Heap) (k : Reference) (cr rt : ℕ) (one : 1 ≤ h.mem.width) (s : length h.list ≤ 256) (u : used h.mem + rt ≡ cr) (c : ListCall) where
  abbrev before : Option Cycle → Account
  before o = record { reference = k; created = cr; returned = rt; cycle = o }

  went_list : {o : Option Cycle} → Cycling (size h.mem) h k o → Went h.mem.width (size h.mem) (C.List c) (list_call c h).says (list_call c h).heap (before o)
  went_list (resting own e I) =
      let X = listing c h own (before None) I u (answering c h own k one I) in
      went_listed s X (resting (record { to = X.to; ok = own.ok }) (X.phase ∙ e) X.inv)
  went_list (cycling {c = y} k₀ to r I l g i) =
      let own : Ghost = record { to = to; ok = Allowed k₀ } in
      let X = listing c h own (before (Some y)) I u (answering c h own k one I) in
      let m : made (fed h.mem.width c (list_call c h).says k).cells ≤ made k₀.cells + (y.made + gained c (list_call c h).says) = omega (arith, X.makes) in
      let b : y.steps + budget (list_call c h).heap ≤ 4 * size h.mem + 548 = omega (arith, X.spends) in
      went_listed s X (cycling k₀ X.to (λ e. r (sym X.phase ∙ e)) X.inv l m b)

-- ---- any call

went : (w n : ℕ) (c : Call) (h : Heap) (a : Account) → 1 ≤ w → w ≤ 2 → Tied w n h a → Went w n c (call c h).says (call c h).heap a
went w n (C.List c) h a one two T =
    let b : size h.mem ≡ n = T.places in
    let x : h.mem.width ≡ w = T.width in
    subst (λ (v : ℕ). Went v n (C.List c) (list_call c h).says (list_call c h).heap a) x
    (subst (λ (m : ℕ). Went h.mem.width m (C.List c) (list_call c h).says (list_call c h).heap a) b
    (went_list h a.reference a.created a.returned (rw x one) T.short T.count c (subst (λ (m : ℕ). Cycling m h a.reference a.cycle) (sym b) T.cycle)))
went w n (C.Begin p) h a one two T = went_begin w n h a.reference a.created a.returned p T.width T.places T.short T.count T.cycle
went w n C.Step h a one two T = went_step w n h a.reference a.created a.returned T.width T.places T.short T.count one two T.cycle
went w n C.Census h a one two T = went_census T

-- ---- runs

record Ends (w n : ℕ) (a : Account) (log : List Event) (h : Heap) : Type 1 where
  law : Law w n a log
  tied : Tied w n h (account w a log)

run : {h last : Heap} {log : List Event} (w n : ℕ) (a : Account) → 1 ≤ w → w ≤ 2 → Tied w n h a → Follows h log last → Ends w n a log last
run w n a one two T ended = record { law = tt; tied = T }
run {h} w n a one two T (followed c F) =
    let W = went w n c h a one two T in
    let E = run w n (entered_call w c (call c h).says a) one two W.tied F in
    record { law = (W.lawful, E.law); tied = E.tied }

opening : (w : ℕ) (cs : List Cell) → 1 ≤ w → w ≤ 2 → Tied w (min 4096 (length cs)) (opened w cs) fresh
opening w cs one two = record {
  width = refl;
  places = open_size w cs;
  short = omega arith;
  count = omega (arith, open_used w cs);
  cycle = resting (record { to = λ _. 0; ok = λ _. Unit {0} }) refl (open_inv w cs one two);
}

pub every_run_is_lawful : EveryRunIsLawful
every_run_is_lawful w cs log h one two F =
    let E = run w (min 4096 (length cs)) fresh one two (opening w cs one two) F in
    let e : used h.mem ≡ in_use (account w fresh log) = omega (arith, E.tied.count) in
    record { law = E.law; count = e }
