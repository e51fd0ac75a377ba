-- The structure text of what is sent, and the parts, in the words of a reply.
use Rattle.std.proofs.Common.{◌≡◌, ℕ, List, Result, Ok, Err, refl, sym, ap, ◌∙◌}
use Rattle.fm_base.specs.Chain.{◌>>=◌, fault_as}
use Rattle.dap_ce.specs.Asked.{asked_by}
use Rattle.dap_model.specs.Projection.{projection_of}
use Rattle.dap_model.specs.StructureText.{dds_of}
use Rattle.dap_model.specs.declared.declaration.Decl.{Decl}
use Rattle.dap_model.specs.declared.fault.ProjectFault.{ProjectFault}
use Rattle.dap_model.specs.declared.projection.Projected.{Projected}
use Rattle.dap_model.specs.declared.projection.Projection.{Projection as Asked}
use Rattle.dap_model.specs.declared.projection.Sent.{Sent}
use Rattle.dap_project.specs.Sending.{text_and_parts}
use Rattle.web_path.specs.declared.target.Target.{Target}
use Rattle.dap_reply.specs.declared.fault.DapFault.{DapFault}
use Rattle.dap_reply.specs.declared.fault.DapFault.TheVariants.{Constraint, Projection}
use Rattle.dap_reply.specs.Body.{projected_of, structure_of, text_asked}

parts_as : (target : Target) (label : List ℕ) (found : Result Projected ProjectFault) → label ≡ target.label
    → fault_as Projection (text_and_parts label found)
    ≡ (fault_as Projection found >>= (λ p. Ok (structure_of target p, p.sent)))
unfolding structure_of
parts_as target label (Ok projected) same = ap (λ (l : List ℕ). Ok (dds_of l projected.decls, projected.sent)) same
parts_as target label (Err fault) same = refl

-- what is asked for, once the constraint is read
pub text_answer : (decls : List Decl) (target : Target) (label : List ℕ) (asked : Asked) → label ≡ target.label
    → fault_as Constraint (asked_by target.constraint) ≡ Ok asked
    → fault_as Projection (text_and_parts label (projection_of decls asked.clauses)) ≡ text_asked decls target
unfolding projected_of
text_answer decls target label asked same read =
    parts_as target label (projection_of decls asked.clauses) same
    ∙ ap (λ (found : Result Asked DapFault). found >>= (λ (a : Asked). fault_as Projection (projection_of decls a.clauses))
    >>= (λ p. Ok (structure_of target p, p.sent))) (sym read)
