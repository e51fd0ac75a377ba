-- The declarations are those of the view, and each array is small.
use Rattle.std.proofs.Common.{◌≡◌, IsSomeAnd, List, Some, sym, subst}
use Rattle.dap_model.specs.declared.declaration.Decl.{Decl}
use Rattle.dap_xdr.specs.Content.{array_in, FitsArray}
use Rattle.fm_twod.proofs.ChosenLemmas.{is-chosen}
use Rattle.fm_twod.proofs.section.array_of.Goals as goal

pub array_in-requires : goal.array_in-requires
array_in-requires c =
    subst (λ (decls : List Decl). IsSomeAnd (array_in decls c.args.sent.now.decl c.args.sent.now.part)
    (FitsArray c.args.sent.now)) (sym c.decls.ensures) c.requires

pub returns : goal.returns
returns c =
    is-chosen c.args.grid.now _ c.args.sent.now c.array_in.result.now c.proto-proto.ensures.keeps c.requires
    (subst (λ (decls : List Decl). array_in decls c.args.sent.now.decl c.args.sent.now.part
    ≡ Some c.array_in.result.now) c.decls.ensures c.array_in.ensures)
