-- Without a constraint all declarations are sent as they stand.
use Rattle.std.proofs.Common.{◌≡◌, ◌++◌, ℕ, List, [], Ok, codes, refl, sym, ap, ◌∙◌}
use Rattle.fm_base.proofs.ChainLemmas.{same_Ok}
use Rattle.fm_base.specs.Chain.{◌>>=◌, fault_as}
use Rattle.dap_ce.specs.Asked.{as_projection}
use Rattle.dap_ce.proofs.ReadLemmas.{constraint_of-none}
use Rattle.dap_model.specs.declared.declaration.Decl.{Decl}
use Rattle.dap_model.specs.declared.projection.Projected.{Projected}
use Rattle.dap_model.specs.declared.projection.Sent.{Sent}
use Rattle.dap_model.specs.ClauseFaults.{first_fault}
use Rattle.dap_model.specs.Projection.{all_sent, projection_of}
use Rattle.dap_model.specs.StructureText.{dds_of}
use Rattle.dap_model.proofs.ProjectionWholeLemmas.{all_sent-whole}
use Rattle.web_path.specs.declared.target.Target.{Target}
use Rattle.dap_reply.specs.declared.body.BodyKind.TheVariants.{Structure}
use Rattle.dap_reply.specs.declared.fault.DapFault.TheVariants.{Constraint, Projection}
use Rattle.dap_reply.specs.Body.{before_data, projected_of, sent_asked, structure_by, structure_of, text_body, within_limit}

-- no clause is at fault where there is none
none-refused : (decls : List Decl) → projection_of decls [] ≡ Ok (all_sent decls [])
unfolding projection_of first_fault
none-refused decls = refl

projected-whole : (decls : List Decl) → projected_of decls [] ≡ Ok (all_sent decls [])
unfolding projected_of
projected-whole decls =
    ap (λ found. fault_as Constraint (as_projection found)
    >>= (λ asked. fault_as Projection (projection_of decls asked.clauses))) constraint_of-none
    ∙ ap (fault_as Projection) (none-refused decls)

pub structure-whole : (decls : List Decl) (target : Target) → target.constraint ≡ []
    → structure_by decls target ≡ within_limit (text_body Structure (dds_of target.label decls))
unfolding structure_of
structure-whole decls target none =
    ap (λ (constraint : List ℕ). projected_of decls constraint
    >>= (λ p. within_limit (text_body Structure (structure_of target p)))) none
    ∙ ap (λ found. found >>= (λ p. within_limit (text_body Structure (structure_of target p)))) (projected-whole decls)
    ∙ ap (λ (all : List Decl). within_limit (text_body Structure (dds_of target.label all))) (all_sent-whole decls)

-- what is sent without a clause is what is sent without a constraint
projected-as : (decls : List Decl) (projected : Projected) → projection_of decls [] ≡ Ok projected
    → projected_of decls [] ≡ Ok projected
projected-as decls projected is =
    projected-whole decls ∙ ap Ok (same_Ok (all_sent decls []) projected (sym (none-refused decls) ∙ is))

pub asked-whole : (decls : List Decl) (target : Target) (front : List ℕ) (sent : List Sent) → target.constraint ≡ []
    → front ≡ dds_of target.label decls ++ codes "Data:\n"
    → projection_of decls [] ≡ Ok (record { decls = decls; sent = sent })
    → sent_asked decls target ≡ Ok (front, sent)
unfolding structure_of
asked-whole decls target front sent none front_is projected =
    ap (λ (constraint : List ℕ). projected_of decls constraint >>= (λ p. Ok (before_data target p, p.sent))) none
    ∙ ap (λ found. found >>= (λ p. Ok (before_data target p, p.sent)))
    (projected-as decls (record { decls = decls; sent = sent }) projected)
    ∙ ap (λ (text : List ℕ). Ok (text, sent)) (sym front_is)
