-- The law over runs, stated on a log of calls and answers.
use Rattle.std.specs.Prelude.{◌≡◌, ℕ, ◌+◌, ◌-◌, ◌*◌, ◌<◌, ◌≤◌, min, cond, ◌&&◌, List, [], ◌∷◌, length, Some, None, Ok, Err, Option, Result, ◌==◌, nat_le, nat_lt}
use Rattle.values.specs.declared.cells.Cell.{Cell}
use Rattle.model.specs.Every.{call}
use Rattle.model.specs.Heap.{Heap}
use Rattle.model.specs.Steps.{opened, used}
use Rattle.model.specs.declared.answers.Answer.{Answer}
use Rattle.model.specs.declared.answers.Answer.TheVariants as A
use Rattle.model.specs.declared.answers.PhaseName.{PhaseName}
use Rattle.model.specs.declared.answers.PhaseName.TheVariants as N
use Rattle.model.specs.declared.answers.Refusal.{Refusal}
use Rattle.model.specs.declared.answers.Refusal.TheVariants as R
use Rattle.model.specs.declared.answers.Stepped.{Stepped}
use Rattle.model.specs.declared.calls.Call.{Call}
use Rattle.model.specs.declared.calls.Call.TheVariants as C
use Rattle.model.specs.declared.calls.Event.{Event}
use Rattle.model.specs.declared.calls.ListCall.{ListCall}
use Rattle.model.specs.declared.calls.ListCall.TheVariants as L
use Rattle.law.specs.Live.{live}
use Rattle.law.specs.Reference.{Reference, calls, unused}

-- ---- what a log says so far

-- The cycle that runs: the cells live when it began, the creates granted and the steps made since.
pub record Cycle : Type 0 where
  pub live : ℕ
  pub made : ℕ
  pub steps : ℕ

-- The reference heap, the creates granted, the places returned, and the cycle that runs, if one does.
pub record Account : Type 0 where
  pub reference : Reference
  pub created : ℕ
  pub returned : ℕ
  pub cycle : Option Cycle

-- Cells in use: creates granted less places returned.
abbrev pub in_use : Account → ℕ
in_use a = a.created - a.returned

-- An opening: nothing made, no cycle.
abbrev pub fresh : Account
fresh = record { reference = unused; created = 0; returned = 0; cycle = None }

-- ---- how an event changes the account

-- the reference heap is fed each list call, but no create that was refused for want of space
abbrev pub fed : ℕ → ListCall → Result Answer Refusal → Reference → Reference
fed w c (Ok a) k = (calls w c k).after
fed w c (Err R.OutOfRange) k = (calls w c k).after
fed w c (Err R.TooFew) k = (calls w c k).after
fed w c (Err R.ListFull) k = (calls w c k).after
fed w c (Err R.NotACell) k = (calls w c k).after
fed w c (Err R.NoSpace) k = k
fed w c (Err R.CycleRuns) k = (calls w c k).after
fed w c (Err R.AtRest) k = (calls w c k).after

-- 1 for a create that was granted
abbrev pub gained : ListCall → Result Answer Refusal → ℕ
gained L.Nil r = 0
gained (L.Number x) r = 0
gained (L.Load i) r = 0
gained (L.Store i) r = 0
gained L.Create (Ok a) = 1
gained L.Create (Err e) = 0
gained (L.Select j) r = 0
gained (L.Clobber j) r = 0
gained L.Identical r = 0
gained L.Look r = 0
gained L.Popitem r = 0
gained (L.Pdlget d) r = 0
gained (L.Pdlput d) r = 0

abbrev pub more_made : ℕ → Option Cycle → Option Cycle
more_made n None = None
more_made n (Some c) = Some (record { live = c.live; made = c.made + n; steps = c.steps })

abbrev pub listed : ℕ → ListCall → Result Answer Refusal → Account → Account
listed w c r a = record {
  reference = fed w c r a.reference;
  created = a.created + gained c r;
  returned = a.returned;
  cycle = more_made (gained c r) a.cycle;
}

abbrev pub with_cycle : Option Cycle → Account → Account
with_cycle c a = record { reference = a.reference; created = a.created; returned = a.returned; cycle = c }

-- a granted begin starts a cycle
abbrev pub begun : Result Answer Refusal → Account → Account
begun (Ok x) a = with_cycle (Some (record { live = length (live a.reference); made = 0; steps = 0 })) a
begun (Err r) a = a

-- the step that answers rest ends its cycle
abbrev pub one_more : PhaseName → Option Cycle → Option Cycle
one_more f None = None
one_more N.Rest (Some c) = None
one_more N.Mark (Some c) = Some (record { live = c.live; made = c.made; steps = c.steps + 1 })
one_more N.Relocate (Some c) = Some (record { live = c.live; made = c.made; steps = c.steps + 1 })
one_more N.Update (Some c) = Some (record { live = c.live; made = c.made; steps = c.steps + 1 })
one_more N.Reclaim (Some c) = Some (record { live = c.live; made = c.made; steps = c.steps + 1 })

abbrev pub advanced : Stepped → Account → Account
advanced s a = record {
  reference = a.reference;
  created = a.created;
  returned = a.returned + cond s.returned 1 0;
  cycle = one_more s.phase a.cycle;
}

abbrev pub stepped : Result Answer Refusal → Account → Account
stepped (Ok A.Done) a = a
stepped (Ok (A.Same b)) a = a
stepped (Ok (A.Look l)) a = a
stepped (Ok (A.Step s)) a = advanced s a
stepped (Ok (A.Census n)) a = a
stepped (Err r) a = a

abbrev pub entered_call : ℕ → Call → Result Answer Refusal → Account → Account
entered_call w (C.List c) r a = listed w c r a
entered_call w (C.Begin p) r a = begun r a
entered_call w C.Step r a = stepped r a
entered_call w C.Census r a = a

-- the account after one event more
abbrev pub entered : ℕ → Event → Account → Account
entered w e a = entered_call w e.call e.answer a

abbrev pub account : ℕ → Account → List Event → Account
account w a [] = a
account w a (e ∷ log) = account w (entered w e a) log

-- ---- the law

-- A list call answers as the reference heap does; but a create that finds values enough is refused for want of space exactly when all n cells are in use.
abbrev pub expected : ℕ → ℕ → ListCall → Account → Result Answer Refusal
expected w n L.Nil a = (calls w L.Nil a.reference).says
expected w n (L.Number x) a = (calls w (L.Number x) a.reference).says
expected w n (L.Load r) a = (calls w (L.Load r) a.reference).says
expected w n (L.Store r) a = (calls w (L.Store r) a.reference).says
expected w n L.Create a = cond (nat_le w (length a.reference.list) && in_use a == n) (Err R.NoSpace) (calls w L.Create a.reference).says
expected w n (L.Select j) a = (calls w (L.Select j) a.reference).says
expected w n (L.Clobber j) a = (calls w (L.Clobber j) a.reference).says
expected w n L.Identical a = (calls w L.Identical a.reference).says
expected w n L.Look a = (calls w L.Look a.reference).says
expected w n L.Popitem a = (calls w L.Popitem a.reference).says
expected w n (L.Pdlget d) a = (calls w (L.Pdlget d) a.reference).says
expected w n (L.Pdlput d) a = (calls w (L.Pdlput d) a.reference).says

-- A begin is refused for its argument, or while a cycle runs, and granted otherwise.
abbrev pub expected_begin : ℕ → Option Cycle → Result Answer Refusal
expected_begin p None = cond (nat_lt 1 p) (Err R.OutOfRange) (Ok A.Done)
expected_begin p (Some c) = cond (nat_lt 1 p) (Err R.OutOfRange) (Err R.CycleRuns)

-- The step that ends a cycle leaves at most the cells that were live at its begin and the creates since, and no cycle runs past 4n + 548 of its steps.
abbrev pub InCycle : ℕ → PhaseName → ℕ → Cycle → Type 0
InCycle n N.Rest left c = (left ≤ c.live + c.made) × (c.steps + 1 ≤ 4 * n + 548)
InCycle n N.Mark left c = c.steps + 1 < 4 * n + 548
InCycle n N.Relocate left c = c.steps + 1 < 4 * n + 548
InCycle n N.Update left c = c.steps + 1 < 4 * n + 548
InCycle n N.Reclaim left c = c.steps + 1 < 4 * n + 548

-- A step is refused at rest; in a cycle it is granted.
pub record Granted (n : ℕ) (r : Result Answer Refusal) (a : Account) (c : Cycle) : Type 0 where
  pub step : Stepped
  pub says : r ≡ Ok (A.Step step)
  pub keeps : InCycle n step.phase (in_use (advanced step a)) c

abbrev pub StepLaw : ℕ → Result Answer Refusal → Account → Option Cycle → Type 0
StepLaw n r a None = r ≡ Err R.AtRest
StepLaw n r a (Some c) = Granted n r a c

-- What holds of one event, by the account before it, on n cells of width w. A census answers the cells in use.
abbrev pub Lawful : ℕ → ℕ → Call → Result Answer Refusal → Account → Type 0
Lawful w n (C.List c) r a = r ≡ expected w n c a
Lawful w n (C.Begin p) r a = r ≡ expected_begin p a.cycle
Lawful w n C.Step r a = StepLaw n r a a.cycle
Lawful w n C.Census r a = r ≡ Ok (A.Census (in_use a))

-- It holds of every event of the log.
abbrev pub Law : ℕ → ℕ → Account → List Event → Type 0
Law w n a [] = Unit {0}
Law w n a (e ∷ log) = Lawful w n e.call e.answer a × Law w n (entered w e a) log

-- ---- what it is a law of

-- From the heap h these calls gave these answers, in this order, and left the last heap.
pub data Follows : Heap → List Event → Heap → Type 0 where
  ended : {h : Heap} → Follows h [] h
  followed : {h last : Heap} {log : List Event} (c : Call) → Follows (call c h).heap log last → Follows h (record { call = c; answer = (call c h).says } ∷ log) last

-- Of any list of calls, from an opening over any cells of width w: the log obeys the law, and the cells in use number what the log says.
pub record Kept (w n : ℕ) (log : List Event) (h : Heap) : Type 0 where
  pub law : Law w n fresh log
  pub count : used h.mem ≡ in_use (account w fresh log)

abbrev pub EveryRunIsLawful : Type 0
EveryRunIsLawful = (w : ℕ) (cs : List Cell) (log : List Event) (h : Heap) → 1 ≤ w → w ≤ 2 → Follows (opened w cs) log h → Kept w (min 4096 (length cs)) log h
