use Rattle.std.proofs.Common.{rules}
use Rattle.std.proofs.lemmas.Iterator.{IsFirst-from_position, YieldsList-from_slice, YieldsList-from_zip}
use borrow.Author.Tests.{tests}
use Rattle.sessions.specs.Compare.{AsExpected}
use Rattle.sessions.proofs.compare.first_difference.Goals as goal

pub returns : goal.returns
returns c =
    IsFirst-from_position
    c.position.new.self
    _
    c.position.result
    (λ p. ¬ AsExpected p)
    AsExpected
    c.position.ensures.ran
    (YieldsList-from_zip {s = c.zip.result} (YieldsList-from_slice c.args.log.now cc) (YieldsList-from_slice c.args.expected.now cc))
    (λ x q k. search (rules, tests))
    (λ x q k. search (rules, tests))
