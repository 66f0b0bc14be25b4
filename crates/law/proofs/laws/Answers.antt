use Rattle.law.proofs.Runs.{every_run_is_lawful}
use Rattle.law.proofs.Visit.{live_all, live_only, live_once}
use Rattle.law.proofs.laws.Goals as goal

pub returns : goal.returns
returns c = record { law = every_run_is_lawful; live = λ k. record { all = live_all k; only = live_only k; once = live_once k } }
