use Rattle.std.proofs.Common.{rules, ◌≡◌, ℕ, ◌+◌, ◌-◌, List, get_or, ap, ◌∙◌, below_more}
use Rattle.values.specs.declared.cells.Value.TheVariants as V
use Rattle.packed.specs.Words.{value_bytes, value_in}
use Rattle.packed.specs.Groups.{each, width, with_part_at}
use Rattle.packed.proofs.Runs.{each_step}
use Rattle.packed.proofs.groups.write_cell.Goals as goal

pub loop-i-preserved : goal.loop-i-preserved
loop-i-preserved c =
    let i = c.loop-i.i in
    let v = get_or c.args.cell.parts i V.Nil in
    let write : ℕ → List ℕ → List ℕ = λ k ys. with_part_at ys c.args.place k (get_or c.args.cell.parts k V.Nil) in
    let written : c.put_value.new.bytes ≡ write i c.loop-i.bytes = search rules in
    let back : value_in (value_bytes v) ≡ v = search rules in
    (ap (each write (width - (i + 1)) (i + 1)) written ∙ each_step write width i c.loop-i.bytes c.loop-i-test.true ∙ c.loop-i.invariant.0, below_more _ i c.loop-i.invariant.1 back)
