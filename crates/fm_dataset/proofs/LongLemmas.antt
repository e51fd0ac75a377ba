-- Each dimension of a variable but the axis's has a length.
use Rattle.std.proofs.Common.{◌≡◌, ℕ, zero, suc, ◌-◌, ◌<◌, ◌≤◌, Bool, true, false, cond, not, List, [], ◌∷◌, length, map, take, drop, Some, inl, inr, refl, sym, ap, ◌∙◌, arith}
use Rattle.std.specs.Prelude.{slice_get, IsTrue, ◌==◌}
use Rattle.std.proofs.lemmas.Bool.{and_parts, not-true}
use Rattle.std.proofs.lemmas.List.{take_all}
use Rattle.std.proofs.lemmas.Nat.{mul-le}
use Rattle.std.proofs.lemmas.Option.{slice_get_cases}
use Rattle.nc_model.specs.declared.header.Dim.{Dim}
use Rattle.nc_model.specs.Layout.{product}
use Rattle.fm_model.specs.declared.proto.Proto.{Proto}
use Rattle.fm_model.specs.declared.proto.ProtoVar.{ProtoVar}
use Rattle.fm_model.specs.Attribute.{is_char}
use Rattle.fm_model.specs.Prototype.{HasDims, IsSound, LiesFirst}
use Rattle.fm_model.specs.Variable.{lies_along, stands_first_alone}
use Rattle.fm_model.proofs.CellLemmas.{in_from_slice_get}
use Rattle.fm_model.proofs.Members.{Each, Each-in, each_from_All, In}
use Rattle.fm_model.proofs.WithinLemmas.{dim_named, not_along}
use Rattle.fm_dataset.specs.Declarations.{array_dims, dim_at}
use Rattle.fm_dataset.specs.Values.{row_dims}
use Rattle.fm_dataset.proofs.NameLemmas.{one_index}

pub Each-take : {A : Type 0} (P : A → Type 0) (n : ℕ) (xs : List A) → Each P xs → Each P (take n xs)
Each-take P zero xs each = tt
Each-take P (suc n) [] each = tt
Each-take P (suc n) (x ∷ xs) each = (each.0, Each-take P n xs each.1)

-- a dimension has a length
abbrev pub IsLong : Proto → ℕ → Type 0
IsLong proto id = 1 ≤ (dim_at proto id).size

pub long_dims : (proto : Proto) (ids : List ℕ) → Each (IsLong proto) ids
    → Each (λ (dim : Dim). 1 ≤ dim.size) (map (dim_at proto) ids)
long_dims proto [] each = tt
long_dims proto (id ∷ ids) each = (each.0, long_dims proto ids each.1)

-- the first few of some dimensions have no more elements than all
pub front_few : (proto : Proto) (n : ℕ) (ids : List ℕ) → Each (IsLong proto) ids
    → product (map (λ (dim : Dim). dim.size) (map (dim_at proto) (take n ids)))
    ≤ product (map (λ (dim : Dim). dim.size) (map (dim_at proto) ids))
unfolding product
front_few proto zero ids each = some ids each
  where
    some : (ids : List ℕ) → Each (IsLong proto) ids
        → 1 ≤ product (map (λ (dim : Dim). dim.size) (map (dim_at proto) ids))
    some [] each = omega arith
    some (id ∷ ids) each = let more = mul-le 1 1 _ _ each.0 (some ids each.1) in omega (arith, more)
front_few proto (suc n) [] each = omega arith
front_few proto (suc n) (id ∷ ids) each =
    mul-le (dim_at proto id).size _ (dim_at proto id).size _ (omega arith) (front_few proto n ids each.1)

-- the dimensions of an array along which the elements of one row lie: all but the axis's
abbrev pub others_of : ProtoVar → List ℕ
others_of var = cond var.timed (drop 1 (array_dims var)) (array_dims var)

-- they are the first of the variable's
pub record IsFront (some all : List ℕ) : Type 0 where
  pub count : ℕ
  pub some_is : some ≡ take count all

pub front_of : (var : ProtoVar) → IsFront (others_of var) (row_dims var)
unfolding array_dims
front_of var = by_kind (is_char var.kind) refl
  where
    after : (n : ℕ) (ids : List ℕ) → drop 1 (take n ids) ≡ take (n - 1) (drop 1 ids)
    after zero ids = refl
    after (suc n) [] = let back : n ≡ suc n - 1 = omega arith in sym (take_all (suc n - 1) [] (omega arith))
    after (suc n) (id ∷ ids) = let back : n ≡ suc n - 1 = omega arith in ap (λ (k : ℕ). take k ids) back

    by_time : (b : Bool) → var.timed ≡ b → is_char var.kind ≡ true → IsFront (others_of var) (row_dims var)
    by_time true timed text = record {
      count = length var.dims - 1 - 1;
      some_is = rw (timed, text) (after (length var.dims - 1) var.dims);
    }
    by_time false untimed text = record { count = length var.dims - 1; some_is = rw (untimed, text) refl }

    by_kind : (b : Bool) → is_char var.kind ≡ b → IsFront (others_of var) (row_dims var)
    by_kind true text = by_time var.timed refl text
    by_kind false number = record {
      count = length (row_dims var);
      some_is = rw number (sym (take_all (length (row_dims var)) (row_dims var) (omega arith)));
    }

module _ (proto : Proto) (sound : IsSound proto) where
  long_dim : (id : ℕ) → id < length proto.dims → (sound.id ≡ id → ⊥) → IsLong proto id
  unfolding dim_at
  long_dim id below other =
      elim (slice_get_cases proto.dims id).1 [
        | inl some ↦ at some.0 some.2
        | inr past ↦ absurd (omega (arith, past.0))
      ]
    where
      at : (dim : Dim) → slice_get proto.dims id ≡ Some dim → IsLong proto id
      at dim is =
          let axis = dim_named proto.dims proto.axis sound.id sound.named in
          let differs : dim.name ≡ proto.axis → ⊥ = λ e. other
          (one_index (λ (d : Dim). d.name) proto.dims sound.id id axis.0 dim sound.dim_names axis.1 is
          (axis.2 ∙ sym e)) in
          let some : 1 ≤ dim.size = Each-in (λ (d : Dim). (d.name ≡ proto.axis → ⊥) → 0 < d.size) dim proto.dims
          (each_from_All (λ (d : Dim). (d.name ≡ proto.axis → ⊥) → 0 < d.size) proto.dims sound.lengths)
          (in_from_slice_get proto.dims id dim is) differs in
          rw is some

  long_all : (ids : List ℕ) → Each (λ id. id < length proto.dims) ids → Each (λ id. sound.id ≡ id → ⊥) ids
      → Each (IsLong proto) ids
  long_all [] there other = tt
  long_all (id ∷ ids) there other = (long_dim id there.0 other.0, long_all ids there.1 other.1)

  module _ (number : ℕ) (var : ProtoVar) (there : slice_get proto.vars number ≡ Some var) where
    held : In var proto.vars
    held = in_from_slice_get proto.vars number var there

    -- each dimension of a variable but the axis's has a length
    pub long_row : Each (IsLong proto) (row_dims var)
    unfolding stands_first_alone
    long_row = by_time var.timed refl
      where
        in_range : Each (λ id. id < length proto.dims) var.dims
        in_range = each_from_All (λ id. id < length proto.dims) var.dims
            (Each-in (HasDims proto) var proto.vars (each_from_All (HasDims proto) proto.vars sound.in_range) held)

        lies : LiesFirst sound.id var
        lies = Each-in (LiesFirst sound.id) var proto.vars
            (each_from_All (LiesFirst sound.id) proto.vars sound.timed) held

        by_dims : (dims : List ℕ) → Each (λ id. id < length proto.dims) dims
            → IsTrue (stands_first_alone sound.id dims) → Each (IsLong proto) (drop 1 dims)
        by_dims [] there alone = tt
        by_dims (first ∷ others) there alone =
            long_all others there.1 (not_along sound.id others (not-true (lies_along sound.id others)
            (and_parts (first == sound.id) (not (lies_along sound.id others)) alone).1))

        by_time : (b : Bool) → var.timed ≡ b → Each (IsLong proto) (cond b (drop 1 var.dims) var.dims)
        by_time true timed = by_dims var.dims in_range (lies.0 timed).0
        by_time false untimed = long_all var.dims in_range (not_along sound.id var.dims (lies.1 untimed))
