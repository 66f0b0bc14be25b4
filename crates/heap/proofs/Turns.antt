-- A run goes on, and what holds when it ends.
use Rattle.std.proofs.Common.{◌≡◌, List, [], ◌∷◌, ◌++◌, sym, ap, ◌∙◌, subst, arith}
use Rattle.law.proofs.Runs.{every_run_is_lawful}
use Rattle.law.specs.Law.{Follows, ended, followed}
use Rattle.model.specs.Every.{call}
use Rattle.model.specs.Heap.{Heap, Done, memory}
use Rattle.model.specs.Steps.{opened, used}
use Rattle.model.specs.declared.answers.Answer.{Answer}
use Rattle.model.specs.declared.calls.Event.{Event}
use Rattle.values.specs.declared.cells.Cell.{Cell}
use Rattle.heap.specs.Runs.{Ran, calls_of}

-- One event more at the end of a log.
pub follows_more : {h last next : Heap} {log : List Event} (e : Event) → Follows h log last → ◌≡◌ {A = Done Answer} (record { says = e.answer; heap = next }) (call e.call last) → Follows h (log ++ e ∷ []) next
follows_more {h} e ended q = subst (λ (d : Done Answer). Follows h (record { call = e.call; answer = d.says } ∷ []) d.heap) (sym q) (followed e.call ended)
follows_more e (followed c F) q = followed c (follows_more e F q)

-- What was made of a heap from an opening on obeys the law.
pub ran_lawfully : {before after : List Cell} {asked answered : List Event} {last : Heap} → calls_of answered ≡ calls_of asked → Follows (opened 2 before) answered last → last.mem ≡ memory after → Ran before after asked answered
ran_lawfully {before} {answered = answered} {last} calls follows cells =
    let kept = every_run_is_lawful 2 before answered last (omega arith) (omega arith) follows in
    record { calls = calls; last = last; follows = follows; cells = cells; law = kept.law; count = ap used (sym cells) ∙ kept.count }
