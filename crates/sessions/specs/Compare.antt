-- A log compared with the one that is expected.
use Rattle.std.specs.Prelude.{◌≡◌, ℕ, ◌<◌, List, length, Ok, Option, Result, IsTrue, MatchOption}
use Rattle.std.specs.List.{AllWithin, HoldsAt, zip}
use Rattle.model.specs.Answers.{same_look}
use Rattle.model.specs.declared.answers.Answer.{Answer}
use Rattle.model.specs.declared.answers.Answer.TheVariants as A
use Rattle.model.specs.declared.answers.Refusal.{Refusal}
use Rattle.model.specs.declared.calls.Event.{Event}

-- The same answer or refusal; two looks are the same by what they tell, of numbers the pattern.
abbrev pub SameResult : Result Answer Refusal → Result Answer Refusal → Type 0
SameResult (Ok (A.Look x)) (Ok (A.Look y)) = IsTrue (same_look x y)
SameResult r s = r ≡ s

-- A call, and what is expected of it.
abbrev pub AsExpected : Event × Event → Type 0
AsExpected p = SameResult p.0.answer p.1.answer

-- As far as both logs go, each call was answered as expected; or those before this index were, and the one at it was not.
abbrev pub IsFirstDifference : List Event → List Event → Option ℕ → Type 0
IsFirstDifference log expected r =
    let pairs = zip log expected in
    MatchOption r (AllWithin AsExpected pairs 0 (length pairs)) (λ at. (at < length pairs) × HoldsAt (λ p. ¬ AsExpected p) pairs at × AllWithin AsExpected pairs 0 at)
