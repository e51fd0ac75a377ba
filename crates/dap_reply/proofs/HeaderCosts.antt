-- A header that was read has four bytes at least for each of its variables, and for each of their dimensions.
use Rattle.std.proofs.Common.{◌≡◌, ◌≤◌, ℕ, zero, suc, ◌+◌, ◌*◌, ◌^◌, List, [], ◌∷◌, ◌++◌, length, map, Ok, Err, refl, ap, subst, arith}
use Rattle.std.specs.Prelude.{nat_le, not, ◌==◌, ◌||◌, ◌&&◌}
use Rattle.std.specs.List.{sum_by}
use Rattle.std.proofs.lemmas.List.Sums.{sum_by-cons, sum_by_push}
use Rattle.fm_base.specs.Input.{Input, whole}
use Rattle.fm_base.specs.Parser.{Outcome, ◌>>=◌, pure, value_of}
use Rattle.nc_model.specs.declared.fault.HeaderFault.{HeaderFault}
use Rattle.nc_model.specs.declared.fault.HeaderFault.TheVariants.{BadCount, BadTag, TwoRecordDims}
use Rattle.nc_model.specs.declared.header.Attr.{Attr}
use Rattle.nc_model.specs.declared.header.Dim.{Dim}
use Rattle.nc_model.specs.declared.header.Header.{Header}
use Rattle.nc_model.specs.declared.header.NcVar.{NcVar}
use Rattle.nc_model.specs.Format.{ATTRIBUTE_TAG, DIMENSION_TAG, VARIABLE_TAG, has_record_dim}
use Rattle.nc_model.specs.Kind.{size_of}
use Rattle.nc_model.specs.Reading.{HeaderParser, attr_at, begin_at, count, dim_at, dim_id_at, dim_size, field, header_at, header_or_fault, items_from, kind_at, list_at, list_count, name_at, numrecs_at, padded, rank_at, tag_at, var_at, version_at, word}
use Rattle.nc_model.proofs.ReadFacts.{pure_ok, then_ok}
use Rattle.dap_reply.proofs.FieldCosts.{begin-takes, count-takes, dim_id-takes, field-takes, kind-takes, name-takes, numrecs-takes, padded-takes, pure-takes, pure_rest, rank-takes, then-takes, unless-takes, version-takes, word-takes, Takes}

-- items take the bytes that each of them costs
items-cost : {A : Type 0} (cost : A → ℕ) (item : List A → HeaderParser A)
    → ((found : List A) (i : Input) (x : A × Input) → item found i ≡ Ok x
    → length x.1.rest + cost x.0 ≤ length i.rest)
    → (n : ℕ) (found : List A) (i : Input) (all : List A × Input) → items_from item n found i ≡ Ok all
    → length all.1.rest + sum_by cost all.0 ≤ length i.rest + sum_by cost found
unfolding items_from
items-cost cost item each zero found i all e =
    omega (arith, pure_rest found i all e, ap (sum_by cost) (pure_ok found i all e))
items-cost cost item each (suc n) found i all e =
    let next = then_ok (item found i) (λ x. items_from item n (found ++ x ∷ [])) all e in
    omega (
      arith,
      each found i next.0 next.1,
      items-cost cost item each n (found ++ next.0.0 ∷ []) next.0.1 all next.2,
      sum_by_push cost found next.0.0,
    )

tag-takes : (tag : ℕ) → Takes 4 (tag_at tag)
unfolding tag_at
tag-takes tag i =
    then-takes word _ 4 0 word-takes
    (λ found. unless-takes (not (found == tag || found == 0)) (BadTag i.at) found) i

list_count-takes : (tag : ℕ) → Takes 4 (list_count tag)
unfolding list_count
list_count-takes tag i =
    then-takes word _ 4 0 word-takes
    (λ n. unless-takes (nat_le (2 ^ 31) n || (tag == 0 && not (n == 0))) (BadCount i.at) n) i

list-cost : {A : Type 0} (cost : A → ℕ) (tag : ℕ) (item : List A → HeaderParser A)
    → ((found : List A) (i : Input) (x : A × Input) → item found i ≡ Ok x
    → length x.1.rest + cost x.0 ≤ length i.rest)
    → (i : Input) (all : List A × Input) → list_at tag item i ≡ Ok all
    → length all.1.rest + sum_by cost all.0 ≤ length i.rest
unfolding list_at
list-cost cost tag item each i all e =
    let found = then_ok (tag_at tag i) (λ t. list_count t >>= λ n. items_from item n []) all e in
    let number = then_ok (list_count found.0.0 found.0.1) (λ n. items_from item n []) all found.2 in
    omega (
      arith,
      tag-takes tag i found.0 found.1,
      list_count-takes found.0.0 found.0.1 number.0 number.1,
      items-cost cost item each number.0.0 [] number.0.1 all number.2,
    )

list-takes : {A : Type 0} (tag : ℕ) (item : List A → HeaderParser A) → ((found : List A) → Takes 0 (item found))
    → Takes 0 (list_at tag item)
list-takes tag item each i all e =
    let cost = list-cost (λ x. 0) tag item (λ found i x e. each found i x e) i all e in
    omega (arith, cost)

-- n dimensions of a variable take four bytes each
all-four : (xs : List ℕ) → sum_by (λ (x : ℕ). 4) xs ≡ 4 * length xs
all-four [] = refl
all-four (x ∷ xs) = omega (arith, sum_by-cons (λ (y : ℕ). 4) x xs, all-four xs)

-- ---- the header

attr-takes : (found : List Attr) → Takes 0 (attr_at found)
unfolding attr_at
attr-takes found i x e =
    let all = then-takes (name_at (map (λ (a : Attr). a.name) found)) _ 4 0 (name-takes _)
    (λ name. then-takes kind_at _ 0 0 (less kind_at kind-takes) (λ kind. then-takes count _ 0 0 (less count count-takes)
    (λ n. then-takes (padded (n * size_of kind)) _ 0 0 (padded-takes (n * size_of kind))
    (λ values. pure-takes _)))) i x e in
    omega (arith, all)
  where
    less : {A : Type 0} (p : HeaderParser A) → Takes 4 p → Takes 0 p
    less p takes j y f = let four = takes j y f in omega (arith, four)

dim_size-takes : (found : List Dim) → Takes 0 (dim_size found)
unfolding dim_size
dim_size-takes found i x e =
    let all = then-takes count _ 4 0 count-takes
    (λ size. unless-takes (size == 0 && has_record_dim found) (TwoRecordDims i.at) size) i x e in
    omega (arith, all)

dim-takes : (found : List Dim) → Takes 0 (dim_at found)
unfolding dim_at
dim-takes found i x e =
    let all = then-takes (name_at (map (λ (d : Dim). d.name) found)) _ 4 0 (name-takes _)
    (λ name. then-takes (dim_size found) _ 0 0 (dim_size-takes found) (λ size. pure-takes _)) i x e in
    omega (arith, all)

-- ---- a variable and the header

-- reading gives what costs no more than the bytes that it takes and a credit
abbrev pub Costs : {A : Type 0} → ℕ → (A → ℕ) → HeaderParser A → Type 0
Costs {A} credit cost p =
    (i : Input) (x : A × Input) → p i ≡ Ok x → length x.1.rest + cost x.0 ≤ length i.rest + credit

pure-costs : {A : Type 0} (cost : A → ℕ) (value : A) → Costs (cost value) cost (pure value)
pure-costs cost value i x e = omega (arith, pure_rest value i x e, ap cost (pure_ok value i x e))

-- what was read first is credit for what follows
then-costs : {A B : Type 0} (p : HeaderParser A) (q : A → HeaderParser B) (credit : ℕ) (first : A → ℕ) (cost : B → ℕ)
    → Costs credit first p → ((a : A) → Costs (first a) cost (q a)) → Costs credit cost (p >>= q)
then-costs p q credit first cost one more i y e =
    let x = then_ok (p i) q y e in
    omega (arith, one i x.0 x.1, more x.0.0 x.0.1 y x.2)

-- what was read first counts for nothing
skip-costs : {A B : Type 0} (p : HeaderParser A) (q : A → HeaderParser B) (takes credit : ℕ) (cost : B → ℕ)
    → Takes takes p → ((a : A) → Costs credit cost (q a)) → Costs credit cost (p >>= q)
skip-costs p q takes credit cost first more i y e =
    let x = then_ok (p i) q y e in
    omega (arith, first i x.0 x.1, more x.0.0 x.0.1 y x.2)

-- what a variable costs, and a header
abbrev pub var_cost : NcVar → ℕ
var_cost var = 4 * (1 + length var.dims)

abbrev header_cost : Header → ℕ
header_cost header = sum_by var_cost header.vars

name-costs : (found : List (List ℕ)) → Costs 0 (λ name. 4) (name_at found)
name-costs found i x e = omega (arith, name-takes found i x e)

ids-costs : (dims : List Dim) (rank : ℕ) → Costs 4 (λ ids. 4 * (1 + length ids)) (items_from (dim_id_at dims) rank [])
ids-costs dims rank i x e =
    omega (
      arith,
      items-cost (λ (id : ℕ). 4) (dim_id_at dims) (dim_id-takes dims) rank [] i x e,
      all-four x.0,
    )

var-costs : (version : ℕ) (dims : List Dim) (found : List NcVar) → Costs 0 var_cost (var_at version dims found)
unfolding var_at
var-costs version dims found =
    then-costs (name_at (map (λ (v : NcVar). v.name) found)) _ 0 (λ name. 4) var_cost (name-costs _)
    (λ name. skip-costs rank_at _ 4 4 var_cost rank-takes
    (λ rank. then-costs (items_from (dim_id_at dims) rank []) _ 4 (λ ids. 4 * (1 + length ids)) var_cost
    (ids-costs dims rank)
    (λ ids. skip-costs (list_at ATTRIBUTE_TAG attr_at) _ 0 (4 * (1 + length ids)) var_cost
    (list-takes ATTRIBUTE_TAG attr_at attr-takes)
    (λ attrs. skip-costs kind_at _ 4 (4 * (1 + length ids)) var_cost kind-takes
    (λ kind. skip-costs (field 4) _ 4 (4 * (1 + length ids)) var_cost (field-takes 4)
    (λ size. skip-costs (begin_at version) _ 0 (4 * (1 + length ids)) var_cost (begin-takes version)
    (λ begin. pure-costs var_cost
    (record { name = name; dims = ids; attrs = attrs; kind = kind; begin = begin }))))))))

var-cost : (version : ℕ) (dims : List Dim) (found : List NcVar) (i : Input) (x : NcVar × Input)
    → var_at version dims found i ≡ Ok x → length x.1.rest + var_cost x.0 ≤ length i.rest
var-cost version dims found i x e = omega (arith, var-costs version dims found i x e)

all_vars-costs : (version : ℕ) (dims : List Dim)
    → Costs 0 (sum_by var_cost) (list_at VARIABLE_TAG (var_at version dims))
all_vars-costs version dims i x e =
    omega (
      arith,
      list-cost var_cost VARIABLE_TAG (var_at version dims) (var-cost version dims) i x e,
    )

header-costs : Costs 0 header_cost header_at
unfolding header_at
header-costs =
    skip-costs version_at _ 0 0 header_cost version-takes
    (λ version. skip-costs numrecs_at _ 4 0 header_cost numrecs-takes
    (λ numrecs. skip-costs (list_at DIMENSION_TAG dim_at) _ 0 0 header_cost
    (list-takes DIMENSION_TAG dim_at dim-takes)
    (λ dims. skip-costs (list_at ATTRIBUTE_TAG attr_at) _ 0 0 header_cost
    (list-takes ATTRIBUTE_TAG attr_at attr-takes)
    (λ attrs. then-costs (list_at VARIABLE_TAG (var_at version dims)) _ 0 (sum_by var_cost) header_cost
    (all_vars-costs version dims)
    (λ vars. pure-costs header_cost
    (record { version = version; numrecs = numrecs; dims = dims; attrs = attrs; vars = vars }))))))

header-cost : (i : Input) (h : Header × Input) → header_at i ≡ Ok h → sum_by var_cost h.0.vars ≤ length i.rest
header-cost i h e = omega (arith, header-costs i h e)

-- the variables of a header cost no more than the bytes that it was read from
pub vars-cost : (bytes : List ℕ) (header : Header) → header_or_fault bytes ≡ Ok header
    → sum_by var_cost header.vars ≤ length bytes
unfolding header_or_fault
vars-cost bytes header e = by_outcome (header_at (whole bytes)) refl e
  where
    by_outcome : (r : Outcome Header HeaderFault) → header_at (whole bytes) ≡ r → value_of r ≡ Ok header
        → sum_by var_cost header.vars ≤ length bytes
    by_outcome (Ok h) is e =
        let same : h.0 ≡ header = cc in
        subst (λ (x : Header). sum_by var_cost x.vars ≤ length bytes) same (header-cost (whole bytes) h is)
    by_outcome (Err fault) is e = absurd cc
