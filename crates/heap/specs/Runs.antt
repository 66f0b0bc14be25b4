-- What holds of a run of calls over a store.
use Rattle.std.specs.Prelude.{◌≡◌, min, List, map, length}
use Rattle.law.specs.Law.{Follows, Law, account, fresh, in_use}
use Rattle.model.specs.Heap.{Heap, memory}
use Rattle.model.specs.Steps.{opened, used}
use Rattle.model.specs.declared.calls.Call.{Call}
use Rattle.model.specs.declared.calls.Event.{Event}
use Rattle.values.specs.declared.cells.Cell.{Cell}

-- The calls of a log, without their answers.
abbrev pub calls_of : List Event → List Call
calls_of log = map (λ (e : Event). e.call) log

-- The store held the cells before and holds the cells after; the log held the calls asked and holds them answered.
pub record Ran (before after : List Cell) (asked answered : List Event) : Type 0 where
  -- No call is left out, added, replaced or moved.
  pub calls : calls_of answered ≡ calls_of asked
  -- From an opening over the cells before, the rules give just these answers and a last heap, whose cells are those after.
  pub last : Heap
  pub follows : Follows (opened 2 before) answered last
  pub cells : last.mem ≡ memory after
  -- The log obeys the law on as many places as the store has, 4,096 at most ..
  pub law : Law 2 (min 4096 (length before)) fresh answered
  -- .. and the cells in use number what the log says.
  pub count : used (memory after) ≡ in_use (account 2 fresh answered)
