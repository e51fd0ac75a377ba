-- What is sent of a dataset is part of it, with slabs that lie within it, and few parts.
use Rattle.std.proofs.Common.{◌≡◌, ℕ, ◌^◌, ◌<◌, ◌≤◌, List, [], length, get_or, Some, None, All, ap, ap₂, subst, sym, ◌∙◌, ⊎_elim, arith, refl, Result, Ok, Err}
use Rattle.std.specs.Prelude.{slice_get, option_and_then, IsSomeAnd}
use Rattle.std.specs.List.{AllZip}
use Rattle.std.specs.Option.{option_map_or}
use Rattle.std.proofs.lemmas.Option.{same_Some, slice_get_cases}
use Rattle.nc_model.specs.declared.header.Dim.{Dim}
use Rattle.fm_model.specs.Site.{IsPrototype}
use Rattle.fm_model.proofs.ProtoLemmas.{IsSound-given}
use Rattle.dap_model.specs.declared.declaration.Array.{Array}
use Rattle.dap_model.specs.declared.declaration.Decl.{Decl}
use Rattle.dap_model.specs.declared.projection.Clause.{Clause}
use Rattle.dap_model.specs.declared.projection.Projected.{Projected}
use Rattle.dap_model.specs.declared.projection.Sent.{Sent}
use Rattle.dap_model.specs.Picking.{part_dims, parts_of}
use Rattle.dap_model.specs.Projection.{projection_of}
use Rattle.dap_model.specs.ProjectionFacts.{FitsDim, FitsPart}
use Rattle.dap_model.proofs.ListLemmas.{Has, Has-at}
use Rattle.dap_model.proofs.ProjectionAcceptLemmas.{Accepted-projection_of}
use Rattle.dap_model.proofs.ProjectionSentLemmas.{FitsPart-sent, PartSent, PartSent-all_sent}
use Rattle.fm_dataset.specs.Declarations.{decls_of}
use Rattle.fm_dataset.specs.Values.{Shown}
use Rattle.fm_base.proofs.ChainLemmas.{same_Ok}
use Rattle.fm_base.specs.Answer.{Answers}
use Rattle.fm_base.specs.Chain.{◌>>=◌, fault_as}
use Rattle.fm_base.specs.declared.fail.Fail.{Fail}
use Rattle.fm_base.specs.declared.fail.Fail.TheVariants as fails
use Rattle.dap_ce.specs.Asked.{asked_by}
use Rattle.dap_model.specs.declared.fault.CeFault.{CeFault}
use Rattle.dap_model.specs.declared.fault.ProjectFault.{ProjectFault}
use Rattle.dap_model.specs.declared.projection.Projection.{Projection as Asks}
use Rattle.dap_reply.specs.declared.fault.DapFault.TheVariants.{Constraint, Projection}
use Rattle.dap_reply.specs.Body.{before_data, data_behind_text, data_body, dataset_sent, projected_of, sent_asked, within_limit}
use Rattle.dap_reply.specs.declared.body.Body.{Body}
use Rattle.dap_reply.specs.declared.fault.DapFault.{DapFault}
use Rattle.web_path.specs.declared.target.Target.{Target}
use Rattle.dap_xdr.specs.Content.{array_in, FitsArray}
use Rattle.dap_plan.specs.Parts.{IsSentOf}
use Rattle.dap_reply.proofs.FewLemmas.{all_sent-few}
use Rattle.dap_reply.proofs.MapLemmas.{gridded}
use Rattle.dap_reply.proofs.NameLemmas.{named-apart}

-- a part that is there, with slabs that fit it
pub part-fits : (decls : List Decl) (clauses : List Clause) (sent : Sent) → PartSent decls clauses sent
    → FitsPart decls sent → IsSomeAnd (array_in decls sent.decl sent.part) (FitsArray sent)
unfolding array_in
part-fits decls clauses sent part fits = ⊎_elim there past (slice_get_cases (parts_of part.decl) sent.part).1
  where
    Fits : List Dim → Type 0
    Fits dims = AllZip FitsDim dims sent.slabs

    same : fits.decl ≡ part.decl
    same = same_Some fits.decl part.decl (sym fits.decl_is ∙ part.decl_is)

    there : ((array : Array) × (sent.part < length (parts_of part.decl))
        × (slice_get (parts_of part.decl) sent.part ≡ Some array)
        × (get_or (parts_of part.decl) sent.part array ≡ array))
        → IsSomeAnd (option_and_then (λ (found : Decl). slice_get (parts_of found) sent.part)
        (slice_get decls sent.decl)) (FitsArray sent)
    there found = rw (part.decl_is, found.2) (subst Fits (ap (λ o. option_map_or (λ (array : Array). array.dims) o [])
        found.2) (subst (λ d. Fits (part_dims d sent.part)) same fits.fits))

    past : ((length (parts_of part.decl) ≤ sent.part) × (slice_get (parts_of part.decl) sent.part ≡ None))
        → IsSomeAnd (option_and_then (λ (found : Decl). slice_get (parts_of found) sent.part)
        (slice_get decls sent.decl)) (FitsArray sent)
    past beyond = absurd (omega (arith, beyond.0, part.within))

pub sent-fits : (shown : Shown) (clauses : List Clause) (projected : Projected) → IsPrototype shown.proto
    → projection_of (decls_of shown.proto (length shown.rows)) clauses ≡ Ok projected
    → All (IsSentOf shown) projected.sent
sent-fits shown clauses projected prototype is = λ k d within.
    let decls = decls_of shown.proto (length shown.rows) in
    let sound = IsSound-given shown.proto prototype in
    let accepted = Accepted-projection_of decls clauses projected is in
    let same = ap (λ (p : Projected). p.sent) accepted.all in
    let has = subst (λ (l : List Sent). Has l (get_or projected.sent k d)) (sym same)
    (Has-at projected.sent k d within) in
    let part = PartSent-all_sent decls clauses (get_or projected.sent k d) has in
    part-fits decls clauses (get_or projected.sent k d) part
    (FitsPart-sent decls clauses (get_or projected.sent k d) (named-apart shown.proto (length shown.rows) sound)
    (gridded shown.proto (length shown.rows) sound) accepted.faultless part)

-- a fault is no value
not-ok : {A E : Type 0} {fault : E} {value : A} → Err fault ≡ Ok value → ⊥
not-ok {A} {E} same = subst is_value same tt
  where
    is_value : Result A E → Type 0
    is_value (Ok value) = ⊥
    is_value (Err fault) = Unit {0}

-- the clauses of a constraint for which something is sent
pub record HasClauses (decls : List Decl) (projected : Projected) : Type 0 where
  pub clauses : List Clause
  pub projected_is : projection_of decls clauses ≡ Ok projected

pub clauses-of : (decls : List Decl) (constraint : List ℕ) (projected : Projected)
    → projected_of decls constraint ≡ Ok projected → HasClauses decls projected
unfolding projected_of
clauses-of decls constraint projected is = by_asked (asked_by constraint) is
  where
    by_projection : (clauses : List Clause) (found : Result Projected ProjectFault)
        → projection_of decls clauses ≡ found → fault_as Projection found ≡ Ok projected → HasClauses decls projected
    by_projection clauses (Ok other) found same =
        record { clauses = clauses; projected_is = found ∙ ap Ok (same_Ok other projected same) }
    by_projection clauses (Err fault) found same = absurd (not-ok same)

    by_asked : (asked : Result Asks CeFault)
        → (fault_as Constraint asked >>= (λ asks. fault_as Projection (projection_of decls asks.clauses)))
        ≡ Ok projected → HasClauses decls projected
    by_asked (Ok asks) same = by_projection asks.clauses (projection_of decls asks.clauses) refl same
    by_asked (Err fault) same = absurd (not-ok same)

-- what is sent for a constraint
all-sent : (shown : Shown) (constraint : List ℕ) (projected : Projected) → IsPrototype shown.proto
    → projected_of (decls_of shown.proto (length shown.rows)) constraint ≡ Ok projected
    → All (IsSentOf shown) projected.sent
all-sent shown constraint projected prototype is =
    let found = clauses-of (decls_of shown.proto (length shown.rows)) constraint projected is in
    sent-fits shown found.clauses projected prototype found.projected_is

few-sent : (shown : Shown) (constraint : List ℕ) (projected : Projected) → IsPrototype shown.proto
    → projected_of (decls_of shown.proto (length shown.rows)) constraint ≡ Ok projected
    → length projected.sent < 2 ^ 28
few-sent shown constraint projected prototype is =
    let found = clauses-of (decls_of shown.proto (length shown.rows)) constraint projected is in
    let accepted = Accepted-projection_of (decls_of shown.proto (length shown.rows)) found.clauses projected
    found.projected_is in
    subst (λ (p : Projected). length p.sent < 2 ^ 28) accepted.all
    (all_sent-few shown.proto (length shown.rows) found.clauses prototype)

-- what is sent for a target, and the text before it
record IsAskedFor (decls : List Decl) (target : Target) (front : List ℕ) (sent : List Sent) : Type 0 where
  pub projected : Projected
  pub projected_is : projected_of decls target.constraint ≡ Ok projected
  pub front_is : before_data target projected ≡ front
  pub sent_is : projected.sent ≡ sent

-- the text before the data, and what is sent
abbrev made_of : Target → Projected → Result (List ℕ × List Sent) DapFault
made_of target projected = Ok (before_data target projected, projected.sent)

asked-for : (decls : List Decl) (target : Target) (front : List ℕ) (sent : List Sent)
    → sent_asked decls target ≡ Ok (front, sent) → IsAskedFor decls target front sent
asked-for decls target front sent is = by_projected (projected_of decls target.constraint) refl is
  where
    by_projected : (found : Result Projected DapFault) → projected_of decls target.constraint ≡ found
        → (found >>= (λ p. made_of target p)) ≡ Ok (front, sent) → IsAskedFor decls target front sent
    by_projected (Ok projected) found same =
        let both = same_Ok {E = DapFault} (before_data target projected, projected.sent) (front, sent) same in
        record {
          projected = projected;
          projected_is = found;
          front_is = ap (λ (made : List ℕ × List Sent). made.0) both;
          sent_is = ap (λ (made : List ℕ × List Sent). made.1) both;
        }
    by_projected (Err fault) found same = absurd (not-ok same)

pub all-asked : (shown : Shown) (target : Target) (front : List ℕ) (sent : List Sent) → IsPrototype shown.proto
    → sent_asked (decls_of shown.proto (length shown.rows)) target ≡ Ok (front, sent) → All (IsSentOf shown) sent
all-asked shown target front sent prototype is =
    let asked = asked-for (decls_of shown.proto (length shown.rows)) target front sent is in
    subst (λ (l : List Sent). All (IsSentOf shown) l) asked.sent_is
    (all-sent shown target.constraint asked.projected prototype asked.projected_is)

pub few-asked : (shown : Shown) (target : Target) (front : List ℕ) (sent : List Sent) → IsPrototype shown.proto
    → sent_asked (decls_of shown.proto (length shown.rows)) target ≡ Ok (front, sent) → length sent < 2 ^ 28
few-asked shown target front sent prototype is =
    let asked = asked-for (decls_of shown.proto (length shown.rows)) target front sent is in
    subst (λ (l : List Sent). length l < 2 ^ 28) asked.sent_is
    (few-sent shown target.constraint asked.projected prototype asked.projected_is)

-- the data that is asked for lies behind this text
pub asked-sent : (shown : Shown) (target : Target) (front : List ℕ) (sent : List Sent)
    → sent_asked (decls_of shown.proto (length shown.rows)) target ≡ Ok (front, sent)
    → dataset_sent shown target ≡ within_limit (data_behind_text front shown sent)
asked-sent shown target front sent is =
    let asked = asked-for (decls_of shown.proto (length shown.rows)) target front sent is in
    ap (λ found. found >>= (λ p. within_limit (data_body shown target p))) asked.projected_is
    ∙ ap₂ (λ (f : List ℕ) (s : List Sent). within_limit (data_behind_text f shown s)) asked.front_is asked.sent_is

-- a fault of what is asked is one of the data
pub asked-refused : (shown : Shown) (target : Target) (fail : Fail DapFault)
    → Answers {A = List ℕ × List Sent} (sent_asked (decls_of shown.proto (length shown.rows)) target) (Err fail)
    → Answers {A = Body} (dataset_sent shown target) (Err fail)
asked-refused shown target fails.NoMemory is = tt
asked-refused shown target (fails.Fault fault) is =
    by_projected (projected_of (decls_of shown.proto (length shown.rows)) target.constraint) is
  where
    by_projected : (found : Result Projected DapFault)
        → (found >>= (λ p. made_of target p)) ≡ Err fault
        → (found >>= (λ p. within_limit (data_body shown target p))) ≡ Err fault
    by_projected (Ok projected) same = absurd (not-ok (sym same))
    by_projected (Err other) same =
        let alike : other ≡ fault = cc in ap (λ (f : DapFault). Err f) alike
