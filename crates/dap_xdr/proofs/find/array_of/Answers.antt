-- The declarations are those of the dataset.
use Rattle.std.proofs.Common.{◌≡◌, ◌∙◌, IsSomeAnd, List, Some, sym, subst}
use Rattle.dap_model.specs.declared.declaration.Decl.{Decl}
use Rattle.dap_xdr.specs.Content.{array_in, FitsArray}
use Rattle.dap_xdr.proofs.ColumnLemmas.{is-portion}
use Rattle.dap_xdr.proofs.find.array_of.Goals as goal

pub array_in-requires : goal.array_in-requires
array_in-requires c =
    subst (λ (decls : List Decl). IsSomeAnd (array_in decls c.args.sent.now.decl c.args.sent.now.part)
    (FitsArray c.args.sent.now)) (sym (c.as_slice.ensures ∙ c.decls.ensures)) c.requires.part

pub returns : goal.returns
returns c =
    is-portion c.args.set.now c.args.sent.now c.array_in.result.now c.requires.prototype c.requires.rows c.requires.part
    (subst (λ (decls : List Decl). array_in decls c.args.sent.now.decl c.args.sent.now.part
    ≡ Some c.array_in.result.now)
    (c.as_slice.ensures ∙ c.decls.ensures) c.array_in.ensures)
