-- The calls that a chain over records asks, as a log.
use Rattle.std.proofs.Common.{◌≡◌, ◌∙◌, ap, refl, List, [], ◌∷◌, ◌++◌, map, Some, None, Option}
use Rattle.std.specs.List.{cons_option, filter_map}
use Rattle.model.specs.Answers.{asked}
use Rattle.model.specs.declared.calls.Call.{Call}
use Rattle.player.specs.Calls.{call_of}
use Rattle.tape.specs.Format.{entry_of}
use Rattle.tape.specs.Whole.{placed}
use Rattle.tape.specs.declared.whole.Placed.{Placed}
use Rattle.tally.specs.Calls.{calls_in, unanswered}

-- The call of a record with its place.
abbrev pub call_at : Placed → Option Call
call_at p = call_of (entry_of p.record)

one : (o : Option Call) (cs : List Call) → map asked (cons_option o cs) ≡ unanswered o ++ map asked cs
one None cs = refl
one (Some c) cs = refl

pub asked_calls : (xs : List Placed) → map asked (filter_map call_at xs) ≡ calls_in (map placed xs)
asked_calls [] = refl
asked_calls (x ∷ xs) = one (call_at x) _ ∙ ap (λ rest. unanswered (call_at x) ++ rest) (asked_calls xs)
