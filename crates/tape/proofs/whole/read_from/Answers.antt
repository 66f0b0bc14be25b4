use Rattle.std.proofs.Common.{◌≡◌, map, Some, None, vec_items, refl, ◌∙◌, rules}
use Rattle.std.specs.Option.{option_map}
use Rattle.tape.specs.Format.{entry_of}
use Rattle.tape.specs.Reading.{ended, bad, fault_of}
use Rattle.tape.specs.Whole.{placed, read_from}
use Rattle.tape.proofs.Law.{law}
use Rattle.tape.proofs.Turns.{shorter, onto_more, onto_last}
use Rattle.tape.proofs.whole.read_from.Goals.{in-Ok-None, in-Err}
use Rattle.tape.proofs.whole.read_from.Goals as goal

pub reading-smaller : goal.reading-smaller
reading-smaller c =
    let r = c.reading.rest in
    let t = c.in-Ok-Some.taken in
    shorter r.tape.now r.place (entry_of t.record) t.rest.tape.now t.rest.place (search rules)

pub reading-preserved : goal.reading-preserved
reading-preserved c =
    let r = c.reading.rest in
    let t = c.in-Ok-Some.taken in
    onto_more (vec_items c.reading.records) (vec_items c.push.new.self) (record { place = r.place; «record» = t.record }) r.tape.now t.rest.tape.now t.rest.place c.in_ok-push-in-Ok-Some.ensures.items (search rules) ∙ c.reading.invariant

pub returns : goal.returns
returns c =
    let r = c.reading.rest in
    let rs = map placed (vec_items c.reading.records) in
    let is : record { records = rs; fault = option_map fault_of c.match-next.fault } ≡ read_from c.args.tape.now c.args.place =
    elim c.match-next.branch [
      | in-Ok-None w ↦ rw w.fault-is (onto_last rs r.tape.now r.place ended None (search rules) refl ∙ c.reading.invariant)
      | in-Err w ↦ let f = fault_of w.in-Err.fault in rw w.fault-is (onto_last rs r.tape.now r.place (bad f) (Some f) (search rules) refl ∙ c.reading.invariant)
    ] in
    record { read = is; law = law _ _ _ (λ i. (c.type_inv.tape i).fits) c.requires is }
