-- What is sent of a two-dimensional view is part of it, with slabs that lie within it, and of few parts.
use Rattle.std.proofs.Common.{◌≡◌, ℕ, ◌+◌, ◌*◌, ◌^◌, ◌<◌, ◌≤◌, Bool, true, false, cond, List, [], ◌∷◌, ◌++◌, length, map, get_or, All, Ok, refl, sym, ap, ap₂, subst, ◌∙◌, arith}
use Rattle.std.specs.Prelude.{filter, sum_by}
use Rattle.std.specs.List.{enumerate_from, flat_map, range_with_len}
use Rattle.std.specs.Option.{option_map}
use Rattle.std.proofs.lemmas.List.{get_or-map, length-append, length-map, map-append}
use Rattle.std.proofs.lemmas.List.Elements.{All-nil}
use Rattle.std.proofs.lemmas.List.FromFn.{length-range_with_len}
use Rattle.std.proofs.lemmas.List.Sums.{sum_by-cons}
use Rattle.nc_model.specs.declared.header.Header.{Header}
use Rattle.nc_model.specs.declared.header.NcVar.{NcVar}
use Rattle.fm_base.proofs.ListLemmas.{length-filter_map}
use Rattle.fm_model.specs.declared.proto.Proto.{Proto}
use Rattle.fm_model.specs.declared.proto.ProtoVar.{ProtoVar}
use Rattle.fm_model.specs.Prototype.{is_kept, kept_vars, offset_name, proto_var, proto_with, run_name}
use Rattle.fm_model.specs.Site.{IsPrototype}
use Rattle.fm_model.proofs.HeaderLemmas.{proto_has_data}
use Rattle.fm_model.proofs.Members.{All-from_each, Each}
use Rattle.fm_model.proofs.ProtoLemmas.{IsProto-proto_of, IsSound-given}
use Rattle.dap_model.specs.declared.declaration.Array.{Array}
use Rattle.dap_model.specs.declared.declaration.Decl.{Decl}
use Rattle.dap_model.specs.declared.declaration.Decl.TheVariants.{Grid, Plain, Structure}
use Rattle.dap_model.specs.declared.projection.Clause.{Clause}
use Rattle.dap_model.specs.declared.projection.Projected.{Projected}
use Rattle.dap_model.specs.declared.projection.Sent.{Sent}
use Rattle.dap_model.specs.Picking.{name_of}
use Rattle.dap_model.specs.Projection.{all_sent, projection_of, sent_of, slabs_of, with_slabs}
use Rattle.dap_model.specs.ProjectionFacts.{AreNamedApart, IsGridded}
use Rattle.dap_model.proofs.ListLemmas.{Has, Has-at}
use Rattle.dap_model.proofs.ProjectionAcceptLemmas.{Accepted-projection_of}
use Rattle.dap_model.proofs.ProjectionSentLemmas.{FitsPart-sent, PartSent-all_sent}
use Rattle.dap_reply.specs.Body.{projected_of}
use Rattle.dap_reply.proofs.HeaderCosts.{vars-cost, var_cost}
use Rattle.dap_reply.proofs.NameLemmas.{named-apart}
use Rattle.dap_reply.proofs.SentLemmas.{clauses-of, part-fits}
use Rattle.fm_dataset.specs.Declarations.{array_of, decl_of, decls_of, is_grid, maps_of, seconds_of_rows}
use Rattle.fm_twod.specs.declared.declare.Sides.{Sides}
use Rattle.fm_twod.specs.Asked.{sent_of as asked_of}
use Rattle.fm_twod.specs.Declarations.{by_sides, grid_array, grid_decl, grid_decls, seconds_along, sides_of}
use Rattle.fm_twod.specs.Laid.{decls_in, sides_in, IsGrid, Laid}
use Rattle.fm_twod.specs.Parts.{IsSentOf}

-- ---- the names of the declarations are those of a dataset's

module _ (sides : Sides) (proto : Proto) (count : ℕ) where
  same-name : (var : ProtoVar) → name_of (grid_decl sides proto count var) ≡ name_of (decl_of proto count var)
  unfolding grid_array by_sides decl_of array_of
  same-name var = by_form (is_grid proto var)
    where
      by_form : (b : Bool) → var.name ≡ name_of (cond b
          (Grid var.name (array_of proto count var) (maps_of proto count var)) (Plain (array_of proto count var)))
      by_form true = refl
      by_form false = refl

  same-names : (vars : List ProtoVar)
      → map name_of (map (grid_decl sides proto count) vars) ≡ map name_of (map (decl_of proto count) vars)
  same-names [] = refl
  same-names (var ∷ vars) = ap₂ (λ (x : List ℕ) (xs : List (List ℕ)). x ∷ xs) (same-name var) (same-names vars)

names-are : (laid : Laid) → map name_of (decls_in laid)
    ≡ map name_of (decls_of laid.cells.proto (length laid.cells.rows))
unfolding grid_decls decls_of seconds_along seconds_of_rows sides_of
names-are laid =
    let proto = laid.cells.proto in
    let count = length laid.cells.rows in
    let added : List (List ℕ) = run_name proto.axis ∷ offset_name proto.axis ∷ [] in
    map-append name_of (map (grid_decl (sides_in laid) proto count) proto.vars) _
    ∙ ap (λ (names : List (List ℕ)). names ++ added) (same-names (sides_in laid) proto count proto.vars)
    ∙ sym (map-append name_of (map (decl_of proto count) proto.vars) _)

-- declarations with the names of others are named apart as they are
apart-by-names : (decls others : List Decl) → map name_of decls ≡ map name_of others → AreNamedApart others
    → AreNamedApart decls
apart-by-names decls others same apart = λ i j d before within e.
    let long : length decls ≡ length others =
    omega (arith, ap length same, length-map decls name_of, length-map others name_of) in
    let name : (k : ℕ) → k < length decls → name_of (get_or decls k d) ≡ name_of (get_or others k d) = λ k below.
    sym (get_or-map name_of decls k d (name_of d) below)
    ∙ ap (λ (names : List (List ℕ)). get_or names k (name_of d)) same
    ∙ get_or-map name_of others k d (name_of d) (omega (arith, below, long)) in
    apart i j d before (omega (arith, within, long))
    (sym (name i (omega (arith, before, within))) ∙ e ∙ name j within)

apart-in : (laid : Laid) (decls : List Decl) → IsGrid laid decls → AreNamedApart (decls_in laid)
apart-in laid decls grid =
    apart-by-names (decls_in laid) (decls_of laid.cells.proto (length laid.cells.rows)) (names-are laid)
    (named-apart laid.cells.proto (length laid.cells.rows) (IsSound-given laid.cells.proto grid.given))

-- ---- no declaration is a Grid

plain-each : (sides : Sides) (proto : Proto) (count : ℕ) (vars : List ProtoVar)
    → Each IsGridded (map (grid_decl sides proto count) vars
    ++ seconds_along sides.run ∷ seconds_along sides.offset ∷ [])
unfolding seconds_along
plain-each sides proto count [] = (tt, (tt, tt))
plain-each sides proto count (var ∷ vars) = (tt, plain-each sides proto count vars)

plain-in : (laid : Laid) → All IsGridded (decls_in laid)
unfolding grid_decls
plain-in laid = All-from_each IsGridded _
    (plain-each (sides_in laid) laid.cells.proto (length laid.cells.rows) laid.cells.proto.vars)

-- ---- each part that is sent is there, with slabs that fit it

sent-fits : (laid : Laid) (decls : List Decl) (clauses : List Clause) (projected : Projected) → IsGrid laid decls
    → projection_of (decls_in laid) clauses ≡ Ok projected → All (IsSentOf laid) projected.sent
sent-fits laid decls clauses projected grid is = λ k d within.
    let all = decls_in laid in
    let accepted = Accepted-projection_of all clauses projected is in
    let same = ap (λ (p : Projected). p.sent) accepted.all in
    let has = subst (λ (l : List Sent). Has l (get_or projected.sent k d)) (sym same)
    (Has-at projected.sent k d within) in
    let part = PartSent-all_sent all clauses (get_or projected.sent k d) has in
    part-fits all clauses (get_or projected.sent k d) part
    (FitsPart-sent all clauses (get_or projected.sent k d) (apart-in laid decls grid) (plain-in laid)
    accepted.faultless part)

-- ---- what is sent for a constraint

pub all-sent : (laid : Laid) (decls : List Decl) (constraint : List ℕ) (projected : Projected) → IsGrid laid decls
    → projected_of (decls_in laid) constraint ≡ Ok projected → All (IsSentOf laid) projected.sent
all-sent laid decls constraint projected grid is =
    let found = clauses-of (decls_in laid) constraint projected is in
    sent-fits laid decls found.clauses projected grid found.projected_is

-- ---- few parts are sent

-- a prototype has few variables, since the header of its file has four bytes for each
kept-few : (bytes : List ℕ) (header : Header) (axis : NcVar) (vars : List NcVar)
    → 4 * length (map (proto_var bytes header axis) (filter (is_kept header axis) vars)) ≤ sum_by var_cost vars
kept-few bytes header axis [] = omega arith
kept-few bytes header axis (var ∷ vars) = by_test (kept-few bytes header axis vars) (is_kept header axis var)
  where
    whole : sum_by var_cost (var ∷ vars) ≡ 4 * (1 + length var.dims) + sum_by var_cost vars
    whole = sum_by-cons var_cost var vars

    by_test : 4 * length (map (proto_var bytes header axis) (filter (is_kept header axis) vars)) ≤ sum_by var_cost vars
        → (b : Bool) → 4 * length (map (proto_var bytes header axis) (cond b
        (var ∷ filter (is_kept header axis) vars) (filter (is_kept header axis) vars))) ≤ sum_by var_cost (var ∷ vars)
    by_test more true = omega (arith, more, whole)
    by_test more false = omega (arith, more, whole)

vars-few : (proto : Proto) → IsPrototype proto → length proto.vars ≤ 2 ^ 27
unfolding proto_with kept_vars
vars-few proto given =
    let p = IsProto-proto_of given.bytes proto.site proto given.made in
    let has = proto_has_data given.bytes p.header p.header_is in
    let paid = vars-cost given.bytes p.header has.0 in
    let kept = kept-few given.bytes p.header p.axis p.header.vars in
    let same : length (map (proto_var given.bytes p.header p.axis) (filter (is_kept p.header p.axis) p.header.vars))
    ≡ length proto.vars = ap (λ (q : Proto). length q.vars) p.proto_is in
    omega (arith, paid, kept, given.few, same)

-- a plain array is sent once at most
one-few : (clauses : List Clause) (from : ℕ) (array : Array) → length (sent_of clauses (from, Plain array)) ≤ 1
unfolding sent_of
one-few clauses from array =
    omega (
      arith,
      length-range_with_len 0 1,
      length-filter_map (λ (part : ℕ). option_map (with_slabs from part) (slabs_of clauses (Plain array) part))
          (range_with_len 0 1),
    )

-- whether a declaration is a plain array
abbrev IsPlain : Decl → Type 0
IsPlain (Plain array) = Unit {0}
IsPlain (Grid name array maps) = ⊥
IsPlain (Structure name members) = ⊥

sent-few : (clauses : List Clause) (decls : List Decl) (from : ℕ) → Each IsPlain decls
    → length (flat_map (sent_of clauses) (enumerate_from from decls)) ≤ length decls
sent-few clauses [] from plain = omega arith
sent-few clauses (Plain array ∷ decls) from plain = omega (
  arith,
  length-append (sent_of clauses (from, Plain array)) (flat_map (sent_of clauses) (enumerate_from (from + 1) decls)),
  one-few clauses from array,
  sent-few clauses decls (from + 1) plain.1,
)
sent-few clauses (Grid name array maps ∷ decls) from plain = absurd plain.0
sent-few clauses (Structure name members ∷ decls) from plain = absurd plain.0

all-plain : (sides : Sides) (proto : Proto) (count : ℕ) (vars : List ProtoVar)
    → Each IsPlain (map (grid_decl sides proto count) vars
    ++ seconds_along sides.run ∷ seconds_along sides.offset ∷ [])
unfolding seconds_along
all-plain sides proto count [] = (tt, (tt, tt))
all-plain sides proto count (var ∷ vars) = (tt, all-plain sides proto count vars)

all-few : (laid : Laid) (decls : List Decl) (clauses : List Clause) → IsGrid laid decls
    → length (all_sent (decls_in laid) clauses).sent < 2 ^ 28
unfolding all_sent grid_decls
all-few laid decls clauses grid =
    let proto = laid.cells.proto in
    let f : ProtoVar → Decl = grid_decl (sides_in laid) proto (length laid.cells.rows) in
    omega (
      arith,
      sent-few clauses (decls_in laid) 0
          (all-plain (sides_in laid) proto (length laid.cells.rows) proto.vars),
      length-append (map f proto.vars) (seconds_along (sides_in laid).run ∷ seconds_along (sides_in laid).offset ∷ []),
      length-map proto.vars f,
      vars-few proto grid.given,
    )

pub few-sent : (laid : Laid) (decls : List Decl) (constraint : List ℕ) (projected : Projected) → IsGrid laid decls
    → projected_of (decls_in laid) constraint ≡ Ok projected → length projected.sent < 2 ^ 28
few-sent laid decls constraint projected grid is =
    let found = clauses-of (decls_in laid) constraint projected is in
    let accepted = Accepted-projection_of (decls_in laid) found.clauses projected found.projected_is in
    subst (λ (p : Projected). length p.sent < 2 ^ 28) accepted.all (all-few laid decls found.clauses grid)

-- ---- where no values are asked for, no part is sent

pub sent-asked : (with_values : Bool) (laid : Laid) (projected : Projected) → All (IsSentOf laid) projected.sent
    → All (IsSentOf laid) (asked_of with_values projected)
unfolding asked_of
sent-asked true laid projected all = all
sent-asked false laid projected all = All-nil (IsSentOf laid)

pub few-asked : (with_values : Bool) (projected : Projected) → length projected.sent < 2 ^ 28
    → length (asked_of with_values projected) < 2 ^ 28
unfolding asked_of
few-asked true projected few = few
few-asked false projected few = omega arith
