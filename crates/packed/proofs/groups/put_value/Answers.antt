use Rattle.std.proofs.Common.{sym, refl, ◌∙◌, arith}
use Rattle.std.proofs.lemmas.List.Edits.{sets-eq}
use Rattle.std.proofs.lemmas.Slice.{put_mid-paste}
use Rattle.packed.specs.Words.{value_bytes}
use Rattle.packed.proofs.groups.put_value.Goals as goal

pub returns-clause-after : goal.returns-clause-after
returns-clause-after c =
    let bs = c.args.bytes.now in
    let five = value_bytes c.args.v in
    put_mid-paste _ _ bs _ five 5 (c.copy_from_slice.ensures.after ∙ c.from.ensures.0) (omega arith) refl
    ∙ sym (sets-eq five bs c.args.at (omega arith))
