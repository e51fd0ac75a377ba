-- Without a constraint all declarations are sent as they stand.
use Rattle.std.proofs.Common.{◌≡◌, ◌++◌, ◌∙◌, ℕ, Ok, List, [], ap, codes, subst}
use Rattle.dap_model.specs.Projection.{projection_of}
use Rattle.dap_model.specs.StructureText.{dds_of}
use Rattle.dap_model.specs.declared.declaration.Decl.{Decl}
use Rattle.dap_reply.proofs.WholeLemmas.{asked-whole}
use Rattle.dap_reply.proofs.asked.whole_asked.Goals as goal

pub returns : goal.returns
returns c =
    let sent = c.in_ok-sent.sent in
    asked-whole c.args.decls.now c.args.target.now c.put_data_line.new.text sent c.requires
    (c.in_ok-put_data_line.ensures
    ∙ ap (λ (text : List ℕ). text ++ codes "Data:\n")
    (c.in_ok-front.ensures ∙ ap (λ (label : List ℕ). dds_of label c.args.decls.now) c.as_slice.ensures))
    (subst (λ (decls : List Decl). projection_of decls [] ≡ Ok (record { decls = decls; sent = sent }))
    c.as_slice-2.ensures c.in_ok-sent.ensures)
