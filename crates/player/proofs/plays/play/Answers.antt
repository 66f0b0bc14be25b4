use Rattle.std.proofs.Common.{◌≡◌, List, [], ◌∷◌, ◌++◌, Some, None, vec_items, sym, refl, ap, ◌∙◌, rules}
use Rattle.std.proofs.lemmas.Result.{err_from_is_err_and}
use Rattle.law.specs.Law.{ended}
use Rattle.tape.proofs.Turns.{shorter, onto_last}
use Rattle.tape.specs.Format.{entry_of}
use Rattle.tape.specs.Reading.{bad, fault_of}
use Rattle.tape.specs.Reading as reading
use Rattle.player.specs.declared.outcomes.Played.{Played}
use Rattle.player.specs.Plays.{records_of}
use Rattle.player.proofs.Turns.{onto_played, came_more}
use Rattle.player.proofs.plays.play.Goals as goal

pub loop-taken-init : goal.loop-taken-init
loop-taken-init g c =
    (rw (c.clear.ensures.items, c.start-rest.ensures.tape, c.start-rest.ensures.place) refl, rw c.clear.ensures.items (record { suits = tt; follows = ended }))

pub loop-taken-smaller : goal.loop-taken-smaller
loop-taken-smaller g c =
    let r = c.loop-taken.rest in
    let t = c.in-Some.taken in
    shorter r.tape.now r.place (entry_of t.«record») t.rest.tape.now t.rest.place (search rules)

pub loop-taken-preserved : goal.loop-taken-preserved
loop-taken-preserved g c =
    let r = c.loop-taken.rest in
    let t = c.in-Some.taken in
    let xs = vec_items c.loop-taken.played in
    let ys = vec_items c.push_reserved.new.self in
    let x : Played = record { placed = record { place = r.place; «record» = t.«record» }; outcome = c.play_record-outcome.result } in
    let put : ys ≡ xs ++ (x ∷ []) = ◌∙◌ {A = List Played} c.push_reserved.ensures.items (ap (λ zs. zs ++ (x ∷ [])) c.reserve.ensures.items) in (
      onto_played xs ys x r.tape.now t.rest.tape.now t.rest.place put (search rules) ∙ c.loop-taken.invariant.0,
      came_more xs ys x put c.play_record-outcome.ensures c.loop-taken.invariant.1,
    )

pub returns-in_err-taken-clause-ends : goal.returns-in_err-taken-clause-ends
returns-in_err-taken-clause-ends g c =
    let p = err_from_is_err_and c.from_residual.result c.from_residual.ensures.1 in
    let r = c.loop-taken.rest in
    let f = fault_of c.in_err-taken.field-0.0 in
    let rs = records_of (vec_items c.loop-taken.played) in
    rw (p.1, p.2) (sym (onto_last rs r.tape.now r.place (bad f) (Some f) c.in_err-taken.ensures refl ∙ c.loop-taken.invariant.0))

pub returns-clause-ends : goal.returns-clause-ends
returns-clause-ends g c =
    let r = c.loop-taken.rest in
    let rs = records_of (vec_items c.loop-taken.played) in
    (sym (onto_last rs r.tape.now r.place reading.ended None (search rules) refl ∙ c.loop-taken.invariant.0), c.len.ensures ∙ c.loop-taken.played.ok.0)
