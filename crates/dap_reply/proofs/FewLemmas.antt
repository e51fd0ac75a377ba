-- Few parts are sent: a declaration has one for its variable and at most one for each of its dimensions, and the file
-- of a prototype has four bytes for each.
use Rattle.std.proofs.Common.{◌≡◌, ◌≤◌, ◌<◌, ◌^◌, ℕ, ◌+◌, ◌*◌, ◌-◌, Bool, true, false, cond, List, [], ◌∷◌, ◌++◌, length, map, take, refl, ap, subst, arith}
use Rattle.std.specs.List.{enumerate_from, filter, filter_map, flat_map, range_with_len, sum_by}
use Rattle.std.specs.Option.{option_map}
use Rattle.std.proofs.lemmas.List.{length-append, length-map, length-take}
use Rattle.std.proofs.lemmas.List.FromFn.{length-range_with_len}
use Rattle.std.proofs.lemmas.List.Sums.{sum_by-append, sum_by-cons}
use Rattle.fm_base.proofs.ListLemmas.{length-filter_map}
use Rattle.nc_model.specs.declared.header.Header.{Header}
use Rattle.nc_model.specs.declared.header.NcVar.{NcVar}
use Rattle.fm_model.specs.declared.proto.Proto.{Proto}
use Rattle.fm_model.specs.declared.proto.ProtoVar.{ProtoVar}
use Rattle.fm_model.specs.Attribute.{is_char}
use Rattle.fm_model.specs.Prototype.{is_kept, kept_vars, offset_name, proto_var, proto_with, run_name}
use Rattle.fm_model.specs.Site.{IsPrototype}
use Rattle.fm_model.proofs.HeaderLemmas.{proto_has_data}
use Rattle.fm_model.proofs.ProtoLemmas.{IsProto-proto_of}
use Rattle.dap_model.specs.declared.declaration.Decl.{Decl}
use Rattle.dap_model.specs.declared.declaration.Decl.TheVariants.{Grid, Plain}
use Rattle.dap_model.specs.declared.projection.Clause.{Clause}
use Rattle.dap_model.specs.Picking.{parts_of}
use Rattle.dap_model.specs.Projection.{all_sent, sent_of, slabs_of, with_slabs}
use Rattle.fm_dataset.specs.Declarations.{array_dims, array_of, coordinate_of, coordinates_of, decl_of, decls_of, is_grid, maps_of, seconds_of_rows}
use Rattle.dap_reply.proofs.HeaderCosts.{vars-cost, var_cost}

-- ---- what a prototype has

-- a variable and its dimensions
abbrev size_of_var : ProtoVar → ℕ
size_of_var var = 1 + length var.dims

kept-few : (bytes : List ℕ) (header : Header) (axis : NcVar) (vars : List NcVar)
    → 4 * sum_by size_of_var (map (proto_var bytes header axis) (filter (is_kept header axis) vars))
    ≤ sum_by var_cost vars
unfolding proto_var
kept-few bytes header axis [] = omega arith
kept-few bytes header axis (var ∷ vars) = by_test (kept-few bytes header axis vars) (is_kept header axis var)
  where
    rest : List ProtoVar
    rest = map (proto_var bytes header axis) (filter (is_kept header axis) vars)

    one : sum_by size_of_var (proto_var bytes header axis var ∷ rest) ≡ 1 + length var.dims + sum_by size_of_var rest
    one = sum_by-cons size_of_var (proto_var bytes header axis var) rest

    whole : sum_by var_cost (var ∷ vars) ≡ 4 * (1 + length var.dims) + sum_by var_cost vars
    whole = sum_by-cons var_cost var vars

    by_test : 4 * sum_by size_of_var rest ≤ sum_by var_cost vars
        → (b : Bool) → 4 * sum_by size_of_var (map (proto_var bytes header axis) (cond b
        (var ∷ filter (is_kept header axis) vars) (filter (is_kept header axis) vars))) ≤ sum_by var_cost (var ∷ vars)
    by_test more true = omega (arith, more, whole, one)
    by_test more false = omega (arith, more, whole)

vars-few : (proto : Proto) → IsPrototype proto → sum_by size_of_var proto.vars ≤ 2 ^ 27
unfolding proto_with kept_vars
vars-few proto given =
    let p = IsProto-proto_of given.bytes proto.site proto given.made in
    let has = proto_has_data given.bytes p.header p.header_is in
    let paid = vars-cost given.bytes p.header has.0 in
    let kept = kept-few given.bytes p.header p.axis p.header.vars in
    let same : sum_by size_of_var (map (proto_var given.bytes p.header p.axis)
    (filter (is_kept p.header p.axis) p.header.vars)) ≡ sum_by size_of_var proto.vars =
    ap (λ (q : Proto). sum_by size_of_var q.vars) p.proto_is in
    omega (arith, paid, kept, given.few, same)

-- ---- what is declared of it

array_dims-few : (var : ProtoVar) → length (array_dims var) ≤ length var.dims
unfolding array_dims
array_dims-few var = by_kind (is_char var.kind)
  where
    by_kind : (b : Bool) → length (cond b (take (length var.dims - 1) var.dims) var.dims) ≤ length var.dims
    by_kind true = omega (arith, length-take (length var.dims - 1) var.dims)
    by_kind false = omega arith

parts-few : (proto : Proto) (count : ℕ) (var : ProtoVar) → length (parts_of (decl_of proto count var)) ≤ size_of_var var
unfolding decl_of maps_of coordinates_of
parts-few proto count var = by_form (is_grid proto var)
  where
    few : length (map (array_of proto count) (filter_map (coordinate_of proto) (array_dims var))) ≤ length var.dims
    few = omega (
      arith,
      length-map (filter_map (coordinate_of proto) (array_dims var)) (array_of proto count),
      length-filter_map (coordinate_of proto) (array_dims var),
      array_dims-few var,
    )

    by_form : (b : Bool) → length (parts_of (cond b
        (Grid var.name (array_of proto count var)
        (map (array_of proto count) (filter_map (coordinate_of proto) (array_dims var))))
        (Plain (array_of proto count var)))) ≤ 1 + length var.dims
    by_form true = omega (arith, few)
    by_form false = omega arith

-- how many parts declarations have
abbrev parts_in : List Decl → ℕ
parts_in decls = sum_by (λ (decl : Decl). length (parts_of decl)) decls

vars-parts : (proto : Proto) (count : ℕ) (vars : List ProtoVar)
    → parts_in (map (decl_of proto count) vars) ≤ sum_by size_of_var vars
vars-parts proto count [] = omega arith
vars-parts proto count (var ∷ vars) = omega (
  arith,
  sum_by-cons (λ (decl : Decl). length (parts_of decl)) (decl_of proto count var) (map (decl_of proto count) vars),
  sum_by-cons size_of_var var vars,
  parts-few proto count var,
  vars-parts proto count vars,
)

decls-few : (proto : Proto) (count : ℕ) → IsPrototype proto → parts_in (decls_of proto count) < 2 ^ 28
unfolding decls_of seconds_of_rows
decls-few proto count given =
    let added : List Decl = seconds_of_rows proto count (run_name proto.axis)
    ∷ seconds_of_rows proto count (offset_name proto.axis) ∷ [] in
    let two : parts_in added ≡ 2 = refl in
    let all : parts_in (map (decl_of proto count) proto.vars ++ added)
    ≡ parts_in (map (decl_of proto count) proto.vars) + parts_in added =
    sum_by-append (λ (decl : Decl). length (parts_of decl)) (map (decl_of proto count) proto.vars) added in
    omega (arith, two, all, vars-parts proto count proto.vars, vars-few proto given)

-- ---- what is sent of it

one-few : (clauses : List Clause) (from : ℕ) (decl : Decl)
    → length (sent_of clauses (from, decl)) ≤ length (parts_of decl)
unfolding sent_of
one-few clauses from decl =
    subst (λ (n : ℕ). length (sent_of clauses (from, decl)) ≤ n)
    (length-range_with_len 0 (length (parts_of decl)))
    (length-filter_map (λ (part : ℕ). option_map (with_slabs from part) (slabs_of clauses decl part))
    (range_with_len 0 (length (parts_of decl))))

sent-few : (clauses : List Clause) (decls : List Decl) (from : ℕ)
    → length (flat_map (sent_of clauses) (enumerate_from from decls)) ≤ parts_in decls
sent-few clauses [] from = omega arith
sent-few clauses (decl ∷ decls) from = omega (
  arith,
  length-append (sent_of clauses (from, decl)) (flat_map (sent_of clauses) (enumerate_from (from + 1) decls)),
  one-few clauses from decl,
  sum_by-cons (λ (d : Decl). length (parts_of d)) decl decls,
  sent-few clauses decls (from + 1),
)

pub all_sent-few : (proto : Proto) (count : ℕ) (clauses : List Clause) → IsPrototype proto
    → length (all_sent (decls_of proto count) clauses).sent < 2 ^ 28
unfolding all_sent
all_sent-few proto count clauses given =
    omega (arith, sent-few clauses (decls_of proto count) 0, decls-few proto count given)
