-- The view keeps what its parts were made as.
use Rattle.std.proofs.Common.{◌∙◌, ap₂, length, ℕ}
use Rattle.fm_twod.specs.Declarations.{grid_decls, sides_of}
use Rattle.fm_twod.proofs.LaidLemmas.{laid-made, laid-same}
use Rattle.fm_twod.proofs.lay.grid_of.Goals as goal

pub invariant_of-result : goal.invariant_of-result
invariant_of-result c =
    laid-made c.args.edition.now c.in-Ok.cells c.args.found.runs c.as_slice.result.now c.in-Ok-offsets_of.offsets
    c.args.found.rows c.in-Ok-decls_of.decls c.proto-proto.ensures.sound c.requires.rows c.requires.some
    c.in-Ok.ensures c.requires.runs c.as_slice.ensures c.in-Ok-offsets_of.ensures
    (c.in-Ok-decls_of.ensures
    ∙ ap₂ (λ (runs offsets : ℕ). grid_decls (sides_of c.in-Ok.cells.proto runs offsets) c.in-Ok.cells.proto
    (length c.in-Ok.cells.rows)) c.len.ensures c.len-2.ensures)

pub returns : goal.returns
returns c =
    laid-same c.args.edition.now c.in-Ok.cells c.args.found.runs c.as_slice.result.now c.in-Ok-offsets_of.offsets
    c.in-Ok.ensures c.requires.runs c.as_slice.ensures c.in-Ok-offsets_of.ensures
