-- Every call with its answer, as one function.
use Rattle.std.specs.Prelude.{Ok, Err, Result}
use Rattle.model.specs.declared.answers.Answer.{Answer}
use Rattle.model.specs.declared.answers.Answer.TheVariants as A
use Rattle.model.specs.declared.answers.Refusal.{Refusal}
use Rattle.model.specs.declared.calls.Call.{Call}
use Rattle.model.specs.declared.calls.Call.TheVariants as C
use Rattle.model.specs.declared.calls.ListCall.{ListCall}
use Rattle.model.specs.declared.calls.ListCall.TheVariants as L
use Rattle.model.specs.Heap.{Heap, Done}
use Rattle.model.specs.Calls as calls
use Rattle.model.specs.Steps as steps

-- a granted answer, as one of all answers
abbrev pub as_answer : {A : Type 0} → (A → Answer) → Result A Refusal → Result Answer Refusal
as_answer f (Ok a) = Ok (f a)
as_answer f (Err r) = Err r

abbrev pub told : {A : Type 0} → (A → Answer) → Done A → Done Answer
told f d = record { says = as_answer f d.says; heap = d.heap }

abbrev pub done : Unit {0} → Answer
done _ = A.Done

abbrev pub list_call : ListCall → Heap → Done Answer
list_call L.Nil h = told done (calls.nil h)
list_call (L.Number x) h = told done (calls.number x h)
list_call (L.Load r) h = told done (calls.load r h)
list_call (L.Store r) h = told done (calls.store r h)
list_call L.Create h = told done (calls.create h)
list_call (L.Select j) h = told done (calls.select j h)
list_call (L.Clobber j) h = told done (calls.clobber j h)
list_call L.Identical h = told A.Same (calls.identical h)
list_call L.Look h = told A.Look (calls.look h)
list_call L.Popitem h = told done (calls.popitem h)
list_call (L.Pdlget d) h = told done (calls.pdlget d h)
list_call (L.Pdlput d) h = told done (calls.pdlput d h)

abbrev pub call : Call → Heap → Done Answer
call (C.List c) h = list_call c h
call (C.Begin p) h = told done (steps.begin p h)
call C.Step h = told A.Step (steps.step h)
call C.Census h = told A.Census (steps.census h)
