-- What is answered to a well-formed request, and which of two faults comes first.
use Rattle.std.proofs.Common.{◌≡◌, ◌≤◌, ◌⊎◌, ⊎_elim, ℕ, List, length, true, false, Ok, Err, refl, ap, subst, sym, ◌∙◌}
use Rattle.std.proofs.lemmas.List.{append-nil}
use Rattle.fm_base.specs.Chain.{fault_as}
use Rattle.dap_das.specs.AttributeText.{das_of}
use Rattle.fm_model.specs.declared.loaded.Loaded.{Loaded}
use Rattle.fm_model.specs.declared.proto.Proto.{Proto}
use Rattle.fm_model.specs.declared.site.Site.{Site}
use Rattle.web_frame.specs.declared.request.Method.TheVariants as methods
use Rattle.web_frame.specs.declared.request.Request.{Request}
use Rattle.web_frame.specs.Items.{request, Item}
use Rattle.web_path.specs.declared.target.Service.{Service}
use Rattle.web_path.specs.declared.target.Service.TheVariants.{Das, Dds, Dods}
use Rattle.web_path.specs.declared.target.Target.{Target}
use Rattle.web_path.specs.Target.{target_of}
use Rattle.web_path.proofs.TargetLemmas.{target-read}
use Rattle.dap_reply.specs.declared.body.Body.{Body}
use Rattle.dap_reply.specs.declared.body.BodyKind.{BodyKind}
use Rattle.dap_reply.specs.declared.body.BodyKind.TheVariants.{Attributes, Structure}
use Rattle.dap_reply.specs.declared.fault.DapFault.TheVariants.{BodyNotTaken, Method, Path}
use Rattle.dap_reply.specs.Asked.{AsksForView}
use Rattle.dap_reply.specs.Body.{structure_of, text_body, MAX_BODY}
use Rattle.dap_plan.specs.Parts.{bytes_of, data_behind}
use Rattle.dap_reply.specs.Reply.{fine_with, answer_to, target_wanted, has_head_alone, is_last, reply_of, reply_text, target_asked}
use Rattle.dap_reply.specs.WellFormed.{IsBodyBy, IsWellFormed, Requests}
use Rattle.dap_reply.proofs.AnswerLemmas.{attributes-asked, data-asked, structure-asked}

-- ---- the faults for which no collection is looked at

pub method-first : (site : Site) (said : Request) (text : List ℕ) → said.method ≡ methods.Other
    → target_wanted site (request said text) ≡ Err Method
unfolding target_wanted target_asked
method-first site said text method = rw method refl

pub body-second : (site : Site) (said : Request) (text : List ℕ)
    → (said.method ≡ methods.Get) ⊎ (said.method ≡ methods.Head) → said.has_body ≡ true
    → target_wanted site (request said text) ≡ Err BodyNotTaken
unfolding target_wanted target_asked
body-second site said text method body =
    ⊎_elim (λ get. rw get (rw body refl)) (λ head. rw head (rw body refl)) method

pub path-third : (site : Site) (said : Request) (text : List ℕ)
    → (said.method ≡ methods.Get) ⊎ (said.method ≡ methods.Head) → said.has_body ≡ false
    → target_wanted site (request said text) ≡ fault_as Path (target_of site text)
unfolding target_wanted target_asked
path-third site said text method body =
    ⊎_elim (λ get. rw get (rw body refl)) (λ head. rw head (rw body refl)) method

pub ruleset orders = (method-first, body-second, path-third)

-- ---- a well-formed request

pub requests-asked : (site : Site) (item : Item) (target : Target) → Requests site item target
    → target_wanted site item ≡ Ok target
requests-asked site item target r =
    ap (target_wanted site) r.item_is ∙ path-third site r.said r.text r.method_is r.no_body
    ∙ ap (fault_as Path) (target-read site r.text target r.asks)

text-few : (kind : BodyKind) (text : List ℕ) → length (bytes_of (text_body kind text).bytes) ≤ MAX_BODY
    → length text ≤ MAX_BODY
unfolding bytes_of data_behind
text-few kind text few = subst (λ (l : List ℕ). length l ≤ MAX_BODY) (append-nil text) few

pub well-answered : (proto : Proto) (files : List Loaded) (item : Item) (target : Target) (body : Body)
    → IsWellFormed proto files item target body → answer_to proto files item ≡ fine_with body
well-answered proto files item target body w = by_service target.service refl w.body_is
  where
    Few : Body → Type 0
    Few b = length (bytes_of b.bytes) ≤ MAX_BODY

    asked : AsksForView proto files item target
    asked = record { target_is = requests-asked proto.site item target w.requests; some = w.some }

    by_service : (service : Service) → target.service ≡ service → IsBodyBy service proto files target body
        → answer_to proto files item ≡ fine_with body
    by_service Dds same is =
        structure-asked proto files item target is.clauses is.projected asked is.is same
        (text-few Structure (structure_of target is.projected) (subst Few is.body_is w.few))
        ∙ ap fine_with (sym is.body_is)
    by_service Das same is =
        attributes-asked proto files item target asked same
        (text-few Attributes (das_of proto target.view) (subst Few is w.few))
        ∙ ap fine_with (sym is)
    by_service Dods same is =
        data-asked proto files item target is.clauses is.projected asked is.is same (subst Few is.body_is w.few)
        ∙ ap fine_with (sym is.body_is)

pub well-replied : (proto : Proto) (files : List Loaded) (item : Item) (target : Target) (body : Body)
    (revision number : ℕ) → IsWellFormed proto files item target body
    → reply_of proto files revision item number
    ≡ reply_text (fine_with body) revision (has_head_alone item) (is_last item number)
unfolding reply_of
well-replied proto files item target body revision number w =
    ap (λ answer. reply_text answer revision (has_head_alone item) (is_last item number))
    (well-answered proto files item target body w)
