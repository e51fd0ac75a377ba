-- What the body of a reply with status 200 to a request for data is.
use Rattle.std.proofs.Common.{◌≡◌, ◌≢◌, ℕ, ◌≤◌, ltb, Bool, true, false, cond, List, [], length, Result, Ok, Err, refl, sym, ap, subst, ◌∙◌}
use Rattle.std.proofs.lemmas.Bool.{ltb-false}
use Rattle.fm_base.specs.Chain.{fault_as, ◌>>=◌}
use Rattle.fm_base.proofs.ChainLemmas.{same_Ok, step_ok}
use Rattle.nc_model.proofs.SoundLaws.{ok-fault_as}
use Rattle.fm_model.specs.declared.loaded.Loaded.{Loaded}
use Rattle.fm_model.specs.declared.proto.Proto.{Proto}
use Rattle.fm_model.specs.Rows.{rows}
use Rattle.fm_dataset.specs.Declarations.{decls_of}
use Rattle.fm_dataset.specs.Values.{Shown}
use Rattle.fm_views.proofs.RowFacts.{shown-none, shown-some}
use Rattle.dap_ce.specs.Asked.{as_projection, asked_by}
use Rattle.dap_model.specs.declared.declaration.Decl.{Decl}
use Rattle.dap_model.specs.declared.fault.CeFault.{CeFault}
use Rattle.dap_model.specs.declared.projection.Clause.{Clause}
use Rattle.dap_model.specs.declared.projection.Projected.{Projected}
use Rattle.dap_model.specs.declared.projection.Projection.{Projection as Asks}
use Rattle.dap_model.specs.ConstraintReading.{constraint_of}
use Rattle.dap_model.specs.Projection.{projection_of}
use Rattle.dap_plan.specs.Parts.{bytes_of}
use Rattle.web_frame.specs.Items.{Item}
use Rattle.web_path.specs.declared.fault.PathFault.TheVariants.{BadEscape, NoSuchDataset, NoSuchService}
use Rattle.web_path.specs.declared.target.Service.TheVariants.{Dods}
use Rattle.web_path.specs.declared.target.Target.{Target}
use Rattle.dap_reply.specs.declared.body.Body.{Body}
use Rattle.dap_reply.specs.declared.fault.DapFault.{DapFault}
use Rattle.dap_reply.specs.declared.fault.DapFault.TheVariants.{BadHead, BodyNotTaken, Constraint, HeadTooLong, Method, NoRows, Path, Projection, TooLarge}
use Rattle.dap_reply.specs.declared.status.Status.TheVariants.{Fine}
use Rattle.dap_reply.specs.Asked.{shown_of, IsProjected}
use Rattle.dap_reply.specs.Body.{body_of, data_asked, data_body, dataset_sent, has_no_rows, projected_of, some_shown, within_limit, MAX_BODY}
use Rattle.dap_reply.specs.Fault.{fault_status}
use Rattle.dap_reply.specs.Reply.{answer_to, answered, refusal_of, target_wanted}
use Rattle.dap_reply.proofs.AnswerLemmas.{data-of-body}

-- the data that a target asks for, of rows that are there, within the limit
pub record HasData (proto : Proto) (files : List Loaded) (target : Target) (body : Body) : Type 0 where
  pub some : rows files target.view ≢ []
  pub clauses : List Clause
  pub projected : Projected
  pub asked : IsProjected proto files target clauses projected
  pub body_is : body ≡ data_body (shown_of proto files target) target projected
  pub few : length (bytes_of body.bytes) ≤ MAX_BODY

-- ---- a body within the limit

within : (body found : Body) → within_limit body ≡ Ok found → (found ≡ body) × (length (bytes_of body.bytes) ≤ MAX_BODY)
unfolding within_limit
within body found is = by_test (ltb MAX_BODY (length (bytes_of body.bytes))) refl is
  where
    by_test : (b : Bool) → ltb MAX_BODY (length (bytes_of body.bytes)) ≡ b
        → cond b (Err (TooLarge (length (bytes_of body.bytes)) MAX_BODY)) (Ok body) ≡ Ok found
        → (found ≡ body) × (length (bytes_of body.bytes) ≤ MAX_BODY)
    by_test true over same = absurd (cc)
    by_test false under same = (
      sym (same_Ok {E = DapFault} body found same),
      ltb-false MAX_BODY (length (bytes_of body.bytes)) under,
    )

-- ---- the clauses of a constraint

record HasClauses (decls : List Decl) (constraint : List ℕ) (projected : Projected) : Type 0 where
  clauses : List Clause
  clauses_are : constraint_of constraint ≡ Ok clauses
  projected_is : projection_of decls clauses ≡ Ok projected

read_as : (r : Result (List Clause) CeFault) (asks : Asks) → as_projection r ≡ Ok asks → r ≡ Ok asks.clauses
read_as (Ok clauses) asks is =
    ap (λ (a : Asks). Ok a.clauses) (same_Ok {E = CeFault} (record { clauses = clauses }) asks is)
read_as (Err fault) asks is = absurd (cc)

clauses_of : (decls : List Decl) (constraint : List ℕ) (projected : Projected)
    → projected_of decls constraint ≡ Ok projected → HasClauses decls constraint projected
unfolding projected_of
clauses_of decls constraint projected is =
    let asks = step_ok (fault_as Constraint (asked_by constraint))
    (λ (a : Asks). fault_as Projection (projection_of decls a.clauses)) projected is in
    record {
      clauses = asks.0.clauses;
      clauses_are =
          read_as (constraint_of constraint) asks.0 (ok-fault_as Constraint (asked_by constraint) asks.0 asks.1);
      projected_is = ok-fault_as Projection (projection_of decls asks.0.clauses) projected asks.2;
    }

-- ---- the rows of a view

no_rows : (proto : Proto) (files : List Loaded) (target : Target) (shown : Shown)
    → some_shown proto files target ≡ Ok shown → rows files target.view ≢ []
unfolding some_shown
no_rows proto files target shown is = λ none.
    let refused = ap (fault_as has_no_rows)
    (shown-none (record { proto = proto; files = files }) target.view target.label none) in
    let clash : Err NoRows ≡ Ok shown = sym refused ∙ is in
    cc

shown_is : (proto : Proto) (files : List Loaded) (target : Target) (shown : Shown)
    → some_shown proto files target ≡ Ok shown → shown ≡ shown_of proto files target
unfolding some_shown
shown_is proto files target shown is =
    let some = no_rows proto files target shown is in
    let found = ap (fault_as has_no_rows)
    (shown-some (record { proto = proto; files = files }) target.view target.label some) in
    same_Ok {E = DapFault} shown (shown_of proto files target) (sym is ∙ found)

data_is : (proto : Proto) (files : List Loaded) (target : Target) (body : Body)
    → data_asked proto files target ≡ Ok body → HasData proto files target body
unfolding data_asked
data_is proto files target body is =
    let shown = step_ok (some_shown proto files target) (λ (s : Shown). dataset_sent s target) body is in
    let same = shown_is proto files target shown.0 shown.1 in
    let sent = subst (λ (s : Shown). dataset_sent s target ≡ Ok body) same shown.2 in
    let all : Shown = shown_of proto files target in
    let projected = step_ok (projected_of (decls_of proto (length (rows files target.view))) target.constraint)
    (λ (p : Projected). within_limit (data_body all target p)) body sent in
    let found = clauses_of (decls_of proto (length (rows files target.view))) target.constraint projected.0
    projected.1 in
    let limit = within (data_body all target projected.0) body projected.2 in
    record {
      some = no_rows proto files target shown.0 shown.1;
      clauses = found.clauses;
      projected = projected.0;
      asked = record { clauses_are = found.clauses_are; projected_is = found.projected_is };
      body_is = limit.0;
      few = subst (λ (b : Body). length (bytes_of b.bytes) ≤ MAX_BODY) (sym limit.0) limit.1;
    }

-- ---- a reply with status 200

refused : (fault : DapFault) → fault_status fault ≡ Fine → ⊥
unfolding fault_status
refused (Constraint fault) is = cc
refused (Projection fault) is = cc
refused (Path (BadEscape at)) is = cc
refused (Path NoSuchDataset) is = cc
refused (Path NoSuchService) is = cc
refused (TooLarge len limit) is = cc
refused Method is = cc
refused BodyNotTaken is = cc
refused NoRows is = cc
refused BadHead is = cc
refused HeadTooLong is = cc

fine : (r : Result Body DapFault) → (answered r).status ≡ Fine → r ≡ Ok (answered r).body
unfolding refusal_of
fine (Ok body) is = refl
fine (Err fault) is = absurd (refused fault is)

-- what is answered with status 200 is the data
pub answered-data : (proto : Proto) (files : List Loaded) (item : Item) (target : Target)
    → target_wanted proto.site item ≡ Ok target → target.service ≡ Dods
    → (answer_to proto files item).status ≡ Fine
    → HasData proto files target (answer_to proto files item).body
unfolding answer_to
answered-data proto files item target wanted service is =
    let same : answer_to proto files item ≡ answered (data_asked proto files target) =
    ap (λ found. answered (found >>= (λ (t : Target). body_of proto files t))) wanted
    ∙ ap answered (data-of-body proto files target service) in
    let status = subst (λ answer. answer.status ≡ Fine) same is in
    data_is proto files target (answer_to proto files item).body
    (fine (data_asked proto files target) status ∙ ap (λ answer. Ok answer.body) (sym same))
