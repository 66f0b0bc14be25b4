-- The playing of a tape goes on, and what holds when it ends.
use Rattle.std.proofs.Common.{◌≡◌, ℕ, List, [], ◌∷◌, ◌++◌, map, Some, None, Option, sym, refl, ap, ◌∙◌, subst}
use Rattle.std.proofs.ByRecursion.{All-push}
use Rattle.std.proofs.lemmas.Simd.{map-map}
use Rattle.std.proofs.lemmas.List.{append-nil, flat_map_more, map_push}
use Rattle.std.specs.List.{AllByRecursion}
use Rattle.heap.proofs.Turns.{follows_more, ran_lawfully}
use Rattle.law.specs.Law.{Follows}
use Rattle.model.specs.Every.{call}
use Rattle.model.specs.Heap.{Heap, memory}
use Rattle.model.specs.Steps.{opened}
use Rattle.model.specs.declared.calls.Call.{Call}
use Rattle.model.specs.declared.calls.Event.{Event}
use Rattle.tape.proofs.Turns.{onto, onto_more}
use Rattle.tape.specs.Format.{entry_of}
use Rattle.tape.specs.Reading.{got, read}
use Rattle.tape.specs.Whole.{placed, read_from}
use Rattle.tape.specs.declared.whole.Placed.{Placed}
use Rattle.values.specs.declared.cells.Cell.{Cell}
use Rattle.player.specs.declared.outcomes.Played.{Played}
use Rattle.player.specs.Outcomes.{Turn, turn_of, Suits, logged}
use Rattle.player.specs.Plays.{records_of, asked, events_of, Plays}

-- ---- the records

abbrev placed_of : Played → Placed
placed_of x = x.placed

-- One record more was read and played, and put after those before it.
pub onto_played : (xs ys : List Played) (x : Played) (t u : List ℕ) (q : ℕ) → ys ≡ xs ++ (x ∷ []) → got (entry_of x.placed.«record») u q ≡ read t x.placed.place → onto (records_of ys) (read_from u q) ≡ onto (records_of xs) (read_from t x.placed.place)
onto_played xs ys x t u q put is =
    rw (← map-map placed placed_of ys, ← map-map placed placed_of xs)
    (onto_more (map placed_of xs) (map placed_of ys) (placed_of x) t u q (ap (map placed_of) put ∙ map_push placed_of xs x) is)

-- ---- the calls

-- The outcomes so far suit their records, and the calls so far lead from the heap h to the last.
pub record Came (h last : Heap) (played : List Played) : Type 0 where
  pub suits : AllByRecursion (λ (x : Played). Suits (asked x) x.outcome) played
  pub follows : Follows h (events_of played) last

turn_suits : (o : Option Call) (h : Heap) → Suits o (turn_of o h).outcome
turn_suits None h = tt
turn_suits (Some c) h = tt

turn_follows : {h last : Heap} {log : List Event} (o : Option Call) → Follows h log last → Follows h (log ++ logged o (turn_of o last).outcome) (turn_of o last).heap
turn_follows {log = log} None F = rw (append-nil log) F
turn_follows {last = last} (Some c) F = follows_more (record { call = c; answer = (call c last).says }) F refl

pub came_more : {h last next : Heap} (xs ys : List Played) (x : Played) → ys ≡ xs ++ (x ∷ []) → ◌≡◌ {A = Turn} (record { outcome = x.outcome; heap = next }) (turn_of (asked x) last) → Came h last xs → Came h next ys
came_more {h} {last} {next} xs ys x put is came = subst (Came h next) (sym put) (record { suits = All-push _ xs x came.suits suits; follows = rw (← flat_map_more (λ (y : Played). logged (asked y) y.outcome) [] xs x) follows })
  where
    suits : Suits (asked x) x.outcome
    suits = subst (λ (t : Turn). Suits (asked x) t.outcome) (sym is) (turn_suits (asked x) last)

    follows : Follows h (events_of xs ++ logged (asked x) x.outcome) next
    follows = subst (λ (t : Turn). Follows h (events_of xs ++ logged (asked x) t.outcome) t.heap) (sym is) (turn_follows (asked x) came.follows)

-- What was played from an opening obeys the law.
pub came_lawful : {before after : List Cell} {played : List Played} {h last : Heap} → h ≡ opened 2 before → last.mem ≡ memory after → Came h last played → Plays before after played
came_lawful {last = last} opening cells came = record { suits = came.suits; ran = ran_lawfully {last = last} refl (rw (← opening) came.follows) cells }
