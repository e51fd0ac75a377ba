use Rattle.std.proofs.Common.{◌≡◌, ◌++◌, sym, ap, ◌∙◌, append_assoc, arith}
use Rattle.std.specs.List.{flat_map, range_with_len, slice_get}
use Rattle.nc_layout.specs.LaidOut.{part_count}
use Rattle.nc_array.specs.File.{File}
use Rattle.nc_array.specs.Parts.{part_bytes}
use Rattle.nc_array.proofs.PartLemmas.{elements_of-parts, flat_map-range_more}
use Rattle.nc_array.proofs.file.FileView.append_parts.Goals as goal

pub loop-k-preserved : goal.loop-k-preserved
loop-k-preserved c =
    let part = part_bytes c.args.self.now.bytes c.args.self.now.layout.header c.args.var.now in
    let before = flat_map part (range_with_len 0 c.loop-k.k) in
    c.in_ok-append.ensures.ok
    ∙ ap (λ out. out ++ c.part.result.now) c.loop-k.invariant
    ∙ ap (λ bytes. (c.args.out.now ++ before) ++ bytes) c.part.ensures
    ∙ append_assoc c.args.out.now before (part c.loop-k.k)
    ∙ ap (λ all. c.args.out.now ++ all) (sym (flat_map-range_more part c.loop-k.k))

pub returns-clause-ok : goal.returns-clause-ok
returns-clause-ok c =
    let all : c.loop-k.k ≡ c.part_count-k-end.result = omega arith in
    let part = part_bytes c.args.self.now.bytes c.args.self.now.layout.header c.args.var.now in
    let var =
    ap (λ (file : File). slice_get file.layout.header.vars c.args.number) c.self.view_is ∙ c.requires in
    let count = c.part_count-k-end.ensures _ var
    ∙ ap (λ (file : File). part_count file.layout.header c.args.var.now) c.self.view_is in
    c.loop-k.invariant
    ∙ ap (λ k. c.args.out.now ++ flat_map part (range_with_len 0 k)) (all ∙ count)
    ∙ ap (λ whole. c.args.out.now ++ whole)
    (sym (elements_of-parts c.args.self.now.bytes c.args.self.now.layout.header c.args.var.now))
