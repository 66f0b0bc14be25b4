use Rattle.std.proofs.Common.{refl, ◌∙◌, arith}
use lib.Seq.{map-set_same}
use Rattle.std.proofs.lemmas.List.{take_all, take_more_set}
use Rattle.law.specs.Law.{Follows, ended}
use Rattle.model.specs.Heap.{view}
use Rattle.model.specs.Steps.{opened}
use Rattle.model.specs.declared.calls.Event.{Event}
use Rattle.heap.proofs.Turns.{follows_more, ran_lawfully}
use Rattle.heap.proofs.runs.run.Goals as goal

pub loop-event-init : goal.loop-event-init
loop-event-init g c = (refl, ended)

pub loop-event-preserved : goal.loop-event-preserved
loop-event-preserved g c =
    let log = c.loop-event.log in
    let i = c.loop-event.event-index in (
      map-set_same (λ (e : Event). e.call) log i _ _ refl ∙ c.loop-event.invariant.0,
      rw (take_more_set log i _ (omega arith)) (follows_more _ c.loop-event.invariant.1 c.perform-event.ensures),
    )

pub returns : goal.returns
returns g c =
    let cells = g.S.CellStore.meaning in
    let log = c.loop-event.log in
    let last = view c.loop-event.top c.loop-event.regs (cells c.loop-event.s) in
    let follows : Follows (opened 2 (cells c.args.s.now)) log last = rw (← c.open.ensures, ← take_all c.loop-event.event-index log (omega arith)) c.loop-event.invariant.1 in
    ran_lawfully c.loop-event.invariant.0 follows refl
