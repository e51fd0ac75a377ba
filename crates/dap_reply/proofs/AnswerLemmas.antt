-- What is answered to a request without a fault.
use Rattle.std.proofs.Common.{◌≡◌, ◌≢◌, ◌≤◌, ℕ, List, [], ◌∷◌, length, refl, ap, subst, sym, ◌∙◌, Ok}
use Rattle.std.proofs.lemmas.Bool.{cond-false, le-ltb}
use Rattle.std.proofs.lemmas.List.{append-nil}
use Rattle.fm_base.specs.Chain.{◌>>=◌, fault_as}
use Rattle.fm_model.specs.declared.loaded.Loaded.{Loaded}
use Rattle.fm_model.specs.declared.proto.Proto.{Proto}
use Rattle.fm_model.specs.declared.row.Row.{Row}
use Rattle.fm_model.specs.Rows.{rows}
use Rattle.fm_dataset.specs.Values.{Shown}
use Rattle.fm_views.proofs.RowFacts.{shown-some}
use Rattle.dap_ce.specs.Asked.{as_projection}
use Rattle.dap_model.specs.declared.projection.Clause.{Clause}
use Rattle.dap_model.specs.declared.projection.Projected.{Projected}
use Rattle.dap_model.specs.Projection.{projection_of}
use Rattle.dap_das.specs.AttributeText.{das_of}
use Rattle.fm_dataset.specs.Declarations.{decls_of}
use Rattle.web_frame.specs.Items.{Item}
use Rattle.web_path.specs.declared.target.Service.TheVariants.{Das, Dds, Dods}
use Rattle.web_path.specs.declared.target.Target.{Target}
use Rattle.dap_reply.specs.declared.body.Body.{Body}
use Rattle.dap_reply.specs.declared.body.BodyKind.{BodyKind}
use Rattle.dap_reply.specs.declared.body.BodyKind.TheVariants.{Attributes, Structure}
use Rattle.dap_reply.specs.declared.fault.DapFault.TheVariants.{Constraint, Projection}
use Rattle.dap_reply.specs.Asked.{shown_of, AsksForView, IsProjected}
use Rattle.dap_reply.specs.Body.{attributes_asked, body_of, data_asked, data_body, has_no_rows, projected_of, some_rows, some_shown, structure_asked, structure_of, text_body, within_limit, MAX_BODY}
use Rattle.dap_plan.specs.Parts.{bytes_of, data_behind}
use Rattle.dap_reply.specs.Reply.{fine_with, answer_to, answered}

some-rows : (found : List Row) → found ≢ [] → some_rows (length found) ≡ Ok (length found)
unfolding some_rows
some-rows [] some = absurd (some refl)
some-rows (row ∷ found) some = refl

within : (body : Body) → length (bytes_of body.bytes) ≤ MAX_BODY → within_limit body ≡ Ok body
unfolding within_limit
within body few = cond-false _ _ _ (le-ltb MAX_BODY (length (bytes_of body.bytes)) few)

within-text : (kind : BodyKind) (text : List ℕ) → length text ≤ MAX_BODY
    → within_limit (text_body kind text) ≡ Ok (text_body kind text)
unfolding bytes_of data_behind
within-text kind text few =
    within (text_body kind text) (subst (λ (l : List ℕ). length l ≤ MAX_BODY) (sym (append-nil text)) few)

projected-ok : (proto : Proto) (files : List Loaded) (target : Target) (clauses : List Clause) (projected : Projected)
    → IsProjected proto files target clauses projected
    → projected_of (decls_of proto (length (rows files target.view))) target.constraint ≡ Ok projected
unfolding projected_of
projected-ok proto files target clauses projected is =
    ap (λ found. fault_as Constraint (as_projection found) >>= (λ asked. fault_as Projection
    (projection_of (decls_of proto (length (rows files target.view))) asked.clauses))) is.clauses_are
    ∙ ap (fault_as Projection) is.projected_is

some-shown : (proto : Proto) (files : List Loaded) (target : Target) → rows files target.view ≢ []
    → some_shown proto files target ≡ Ok (shown_of proto files target)
unfolding some_shown
some-shown proto files target some =
    ap (fault_as has_no_rows) (shown-some (record { proto = proto; files = files }) target.view target.label some)

-- what is answered is what the body of the target is
answer-is : (proto : Proto) (files : List Loaded) (item : Item) (target : Target) → AsksForView proto files item target
    → answer_to proto files item ≡ answered (body_of proto files target)
unfolding answer_to
answer-is proto files item target asked =
    ap (λ found. answered (found >>= (λ t. body_of proto files t))) asked.target_is

pub structure-body : (proto : Proto) (files : List Loaded) (target : Target) → target.service ≡ Dds
    → body_of proto files target ≡ structure_asked proto files target
unfolding body_of
structure-body proto files target service = rw service refl

pub attributes-body : (proto : Proto) (files : List Loaded) (target : Target) → target.service ≡ Das
    → body_of proto files target ≡ attributes_asked proto files target
unfolding body_of
attributes-body proto files target service = rw service refl

pub data-of-body : (proto : Proto) (files : List Loaded) (target : Target) → target.service ≡ Dods
    → body_of proto files target ≡ data_asked proto files target
unfolding body_of
data-of-body proto files target service = rw service refl

pub structure-asked : (proto : Proto) (files : List Loaded) (item : Item) (target : Target) (clauses : List Clause)
    (projected : Projected) → AsksForView proto files item target → IsProjected proto files target clauses projected
    → target.service ≡ Dds → length (structure_of target projected) ≤ MAX_BODY
    → answer_to proto files item ≡ fine_with (text_body Structure (structure_of target projected))
unfolding structure_asked
structure-asked proto files item target clauses projected asked is service few =
    answer-is proto files item target asked
    ∙ ap answered (structure-body proto files target service)
    ∙ ap (λ found. answered (found >>= (λ count. projected_of (decls_of proto count) target.constraint
    >>= (λ p. within_limit (text_body Structure (structure_of target p))))))
    (some-rows (rows files target.view) asked.some)
    ∙ ap (λ found. answered (found >>= (λ p. within_limit (text_body Structure (structure_of target p)))))
    (projected-ok proto files target clauses projected is)
    ∙ ap answered (within-text Structure (structure_of target projected) few)

pub attributes-asked : (proto : Proto) (files : List Loaded) (item : Item) (target : Target)
    → AsksForView proto files item target → target.service ≡ Das → length (das_of proto target.view) ≤ MAX_BODY
    → answer_to proto files item ≡ fine_with (text_body Attributes (das_of proto target.view))
unfolding attributes_asked
attributes-asked proto files item target asked service few =
    answer-is proto files item target asked
    ∙ ap answered (attributes-body proto files target service)
    ∙ ap (λ found. answered (found >>= (λ (count : ℕ). within_limit (text_body Attributes (das_of proto target.view)))))
    (some-rows (rows files target.view) asked.some)
    ∙ ap answered (within-text Attributes (das_of proto target.view) few)

pub data-asked : (proto : Proto) (files : List Loaded) (item : Item) (target : Target) (clauses : List Clause)
    (projected : Projected) → AsksForView proto files item target → IsProjected proto files target clauses projected
    → target.service ≡ Dods
    → length (bytes_of (data_body (shown_of proto files target) target projected).bytes) ≤ MAX_BODY
    → answer_to proto files item ≡ fine_with (data_body (shown_of proto files target) target projected)
unfolding data_asked
data-asked proto files item target clauses projected asked is service few =
    answer-is proto files item target asked
    ∙ ap answered (data-of-body proto files target service)
    ∙ ap (λ found. answered (found >>= (λ (shown : Shown). projected_of (decls_of shown.proto (length shown.rows))
    target.constraint >>= (λ p. within_limit (data_body shown target p))))) (some-shown proto files target asked.some)
    ∙ ap (λ found. answered (found >>= (λ p. within_limit (data_body (shown_of proto files target) target p))))
    (projected-ok proto files target clauses projected is)
    ∙ ap answered (within (data_body (shown_of proto files target) target projected) few)

pub ruleset answers = (structure-asked, attributes-asked, data-asked)
