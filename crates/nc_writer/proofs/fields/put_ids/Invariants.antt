-- The numbers that are left, after those that are written, are all.
use Rattle.std.proofs.Common.{◌≡◌, ◌++◌, drop}
use Rattle.fm_gen.specs.Fields.{shape_text}
use Rattle.nc_writer.specs.Header.{ids_of}
use Rattle.nc_writer.proofs.fields.put_ids.Given as goal

abbrev pub invariant-loop-dim : goal.invariant-loop-dim
invariant-loop-dim l =
    l.out ++ shape_text (ids_of l.dims (drop l.dim-index l.own)) ≡ l.fn.out ++ shape_text (ids_of l.dims l.own)
