-- A part lies within the bytes, since they are as long as the layout says.
use Rattle.std.proofs.Common.{ap, ◌∙◌, arith}
use Rattle.std.specs.List.{slice_get}
use Rattle.std.proofs.lemmas.Option.{slice_get_within}
use Rattle.nc_array.specs.File.{File}
use Rattle.nc_array.proofs.file.FileView.part.Goals as goal

pub split_at-requires : goal.split_at-requires
split_at-requires c =
    let var = ap (λ (file : File). slice_get file.layout.header.vars c.args.number) c.self.view_is ∙ c.requires.var in
    let fits = c.part_begin.ensures.within _ var in let len = c.self.invariant in omega arith

pub vsize-requires : goal.vsize-requires
vsize-requires c =
    slice_get_within _ _ _
    (ap (λ (file : File). slice_get file.layout.header.vars c.args.number) c.self.view_is ∙ c.requires.var)

pub split_at-requires-2 : goal.split_at-requires-2
split_at-requires-2 c =
    let var = ap (λ (file : File). slice_get file.layout.header.vars c.args.number) c.self.view_is ∙ c.requires.var in
    let fits = c.part_begin.ensures.within _ var in
    let size = c.vsize.ensures _ var in
    let rest = c.split_at.ensures.back_len in
    let len = c.self.invariant in
    omega arith
