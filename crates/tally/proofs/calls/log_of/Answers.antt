use Rattle.std.proofs.Common.{◌∙◌, ap, rules}
use Rattle.std.proofs.lemmas.Iterator.{YieldsList-from_map, YieldsList-from_slice, items_from_collect}
use Rattle.std.proofs.lemmas.Iterator.Consumers.{YieldsList-at, YieldsList-from_filter_map}
use Rattle.std.proofs.lemmas.Result.{IfOk-weaker}
use borrow.Author.Tests.{tests}
use Rattle.model.specs.Answers.{asked}
use Rattle.tape.specs.Whole.{Whole}
use Rattle.tally.specs.Calls.{calls_in}
use Rattle.tally.proofs.Asked.{asked_calls, call_at}
use Rattle.tally.proofs.calls.log_of.Goals as goal

pub returns : goal.returns
returns c =
    let records = c.in_ok-reading.reading.records.items in
    IfOk-weaker
    c.collect.result
    _
    _
    (λ log items. items ∙ asked_calls records ∙ ap (λ (w : Whole). calls_in w.records) c.in_ok-reading.ensures.read)
    (items_from_collect _ c.collect.ensures.ran
    (YieldsList-from_map _ asked
    (YieldsList-at c.map.ensures.source
    (YieldsList-from_filter_map _ call_at (YieldsList-from_slice records cc) c.filter_map.ensures.closure (λ x r q k. search (rules, tests))))
    c.map.ensures.closure (λ x r q k. search (rules, tests))))
