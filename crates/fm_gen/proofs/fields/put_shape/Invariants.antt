-- The numbers that are left, after those that are written, are all.
use Rattle.std.proofs.Common.{◌≡◌, ◌++◌, drop}
use Rattle.fm_gen.specs.Fields.{shape_text}
use Rattle.fm_gen.proofs.fields.put_shape.Given as goal

abbrev pub invariant-loop-id : goal.invariant-loop-id
invariant-loop-id l = l.out ++ shape_text (drop l.id-index l.ids) ≡ l.fn.out ++ shape_text l.ids
