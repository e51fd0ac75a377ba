-- What the reading calls of a dataset may count on: the variable that they find has the element that is asked for.
use Rattle.std.proofs.Common.{◌≡◌, ◌≢◌, ℕ, zero, suc, ◌+◌, ◌-◌, ◌<◌, ◌≤◌, Bool, true, false, cond, List, [], ◌∷◌, length, take, drop, Option, Some, None, refl, sym, ap, subst, ◌∙◌, arith}
use Rattle.std.specs.Prelude.{slice_get, slice_index, IsSomeAnd}
use Rattle.std.proofs.lemmas.List.{length-map, length-take-le}
use Rattle.std.proofs.lemmas.List.Elements.{All-get_or}
use Rattle.std.proofs.lemmas.Option.{same_Some, slice_get_within, get_or_from_slice_get}
use Rattle.nc_model.specs.declared.kind.Kind.{Kind}
use Rattle.nc_model.specs.declared.kind.Kind.TheVariants as kinds
use Rattle.nc_model.specs.Kind.{size_of}
use Rattle.nc_model.specs.Layout.{IsIndex}
use Rattle.nc_layout.proofs.RankLemmas.{length-index}
use Rattle.fm_model.specs.declared.proto.Proto.{Proto}
use Rattle.fm_model.specs.declared.proto.ProtoVar.{ProtoVar}
use Rattle.fm_model.specs.declared.row.Row.{Row}
use Rattle.fm_model.specs.Attribute.{is_char}
use Rattle.fm_model.specs.Prototype.{lengths_of, HasElements, IsSound}
use Rattle.dap_model.specs.declared.declaration.Array.{Array}
use Rattle.dap_model.specs.declared.declaration.DapKind.TheVariants as daps
use Rattle.fm_dataset.specs.Declarations.{array_dims, array_of, dap_kind_of, is_axis_of, kind_in}
use Rattle.fm_dataset.specs.Kept.{has_slot, length_at, slot_number, HasBits, HasBlock, HasCharacters, HasElement}
use Rattle.fm_dataset.specs.Rows.{AreRows}
use Rattle.fm_dataset.specs.Values.{array_at, var_of_part, HasNumber, HasNumberAt, HasStored, HasText, HasTextAt, Shown}
use Rattle.fm_dataset.proofs.IndexLemmas.{row_index_of, IsRowIndex}
use Rattle.fm_dataset.proofs.PartLemmas.{only_variables_have_texts, part_is}
use Rattle.fm_dataset.proofs.RowLemmas.{instants}
use Rattle.fm_dataset.proofs.TableLemmas.{slot_found}

-- a variable that is sent as a number, and isn't the axis, isn't of characters
pub numeric : (proto : Proto) (var : ProtoVar) → kind_in proto var ≢ daps.Text → is_axis_of proto var ≡ false
    → is_char var.kind ≡ false
unfolding kind_in
numeric proto var number other = by_kind var.kind (λ e. number (rw other e))
  where
    by_kind : (kind : Kind) → dap_kind_of kind ≢ daps.Text → is_char kind ≡ false
    by_kind kinds.Byte number = refl
    by_kind kinds.Char number = absurd (number refl)
    by_kind kinds.Short number = refl
    by_kind kinds.Int number = refl
    by_kind kinds.Float number = refl
    by_kind kinds.Double number = refl

-- a variable that is sent as a text is of characters, and isn't the axis
record IsText (proto : Proto) (var : ProtoVar) : Type 0 where
  other : is_axis_of proto var ≡ false
  kind : is_char var.kind ≡ true
  small : size_of var.kind ≡ 1

IsText-from_kind : (proto : Proto) (var : ProtoVar) → kind_in proto var ≡ daps.Text → IsText proto var
unfolding kind_in
IsText-from_kind proto var text = by_axis (is_axis_of proto var) refl text
  where
    by_kind : (kind : Kind) → dap_kind_of kind ≡ daps.Text → (is_char kind ≡ true) × (size_of kind ≡ 1)
    by_kind kinds.Byte e = absurd cc
    by_kind kinds.Char e = (refl, refl)
    by_kind kinds.Short e = absurd cc
    by_kind kinds.Int e = absurd cc
    by_kind kinds.Float e = absurd cc
    by_kind kinds.Double e = absurd cc

    by_axis : (b : Bool) → is_axis_of proto var ≡ b → kind_in proto var ≡ daps.Text → IsText proto var
    by_axis true is e = let no : daps.Int32 ≡ daps.Text = rw is at e in absurd cc
    by_axis false is e =
        let d : dap_kind_of var.kind ≡ daps.Text = rw is at e in
        record { other = is; kind = (by_kind var.kind d).0; small = (by_kind var.kind d).1 }

-- the array of a variable that isn't of characters has all its dimensions
dims_are : (var : ProtoVar) → is_char var.kind ≡ false → array_dims var ≡ var.dims
unfolding array_dims
dims_are var is = rw is refl

-- that of characters has all but the last
dims_but_last : (var : ProtoVar) → is_char var.kind ≡ true → array_dims var ≡ take (length var.dims - 1) var.dims
unfolding array_dims
dims_but_last var is = rw is refl

-- what some parts of an option hold
pub some_of : {A : Type 0} (o : Option A) (P : A → Type 0) → IsSomeAnd o P → (x : A) × (o ≡ Some x) × P x
some_of None P holds = absurd holds
some_of (Some x) P holds = (x, refl, holds)

module _ (proto : Proto) (rows : List Row) (sound : IsSound proto) (rows_are : AreRows proto rows) (number : ℕ)
    (var : ProtoVar) (there : slice_get proto.vars number ≡ Some var) (slot : ℕ)
    (slot_is : slot ≡ slot_number proto number) where
  -- a variable that isn't the axis can be looked up
  block_there : (index : List ℕ) → is_axis_of proto var ≡ false → (var.timed ≡ true → slice_index index 0 < length rows)
      → HasBlock proto rows var slot index
  block_there index other row_there =
      let below = slice_get_within proto.vars number var there in
      record {
        sound = sound;
        rows_are = rows_are;
        elements = subst (HasElements proto) (get_or_from_slice_get proto.vars number var var there)
            (All-get_or (HasElements proto) proto.vars number var below sound.fixed);
        slotted = λ timed.
            let has : has_slot proto var ≡ true = rw (timed, other) refl in
            let found = slot_found proto number var there has in
            rw slot_is found;
        row_there = row_there;
      }

  -- an index list of its array is one of an element
  element_there : (index : List ℕ) → is_axis_of proto var ≡ false → is_char var.kind ≡ false
      → IsRowIndex proto (length rows) var index → HasElement proto rows var slot index
  element_there index other number_is is = record {
    block = block_there index other is.row_there;
    index_is = by_case var.timed refl;
  }
    where
      by_case : (b : Bool) → var.timed ≡ b
          → IsIndex (lengths_of proto (cond b (drop 1 var.dims) var.dims)) (cond b (drop 1 index) index)
      by_case true timed = subst (λ ids. IsIndex (lengths_of proto (drop 1 ids)) (drop 1 index))
          (dims_are var number_is) (is.within timed)
      by_case false untimed = subst (λ ids. IsIndex (lengths_of proto ids) index)
          (dims_are var number_is) (is.whole untimed)

  -- or of a text
  characters_there : (index : List ℕ) → IsText proto var → IsRowIndex proto (length rows) var index
      → HasCharacters proto rows var slot index
  characters_there index text is = record {
    block = block_there index text.other is.row_there;
    small = text.small;
    some = is.some;
    index_is = (by_case var.timed refl).0;
    last = (by_case var.timed refl).1;
  }
    where
      -- an index list of all dimensions but the last few
      front : (ids index : List ℕ) (n : ℕ) → IsIndex (lengths_of proto (take n ids)) index
          → IsIndex (take (length index) (lengths_of proto ids)) index
      front [] [] n is = tt
      front [] (i ∷ index) n is = absurd (none n is)
        where
          none : (n : ℕ) → IsIndex (lengths_of proto (take n [])) (i ∷ index) → ⊥
          none zero is = is
          none (suc n) is = is
      front (id ∷ ids) [] n is = tt
      front (id ∷ ids) (i ∷ index) zero is = absurd is
      front (id ∷ ids) (i ∷ index) (suc n) is = (is.0, front ids index n is.1)

      -- one for all but the last
      one_less : (ids index : List ℕ) → IsIndex (lengths_of proto (take (length ids - 1) ids)) index
          → length ids ≤ length index + 1
      one_less ids index is =
          let long = length-index _ _ is in
          let mapped = length-map (take (length ids - 1) ids) (length_at proto) in
          let taken = length-take-le (length ids - 1) ids (omega arith) in
          omega (arith, long, mapped, taken)

      after : (ids : List ℕ) → drop 1 (take (length ids - 1) ids) ≡ take (length (drop 1 ids) - 1) (drop 1 ids)
      after [] = refl
      after (id ∷ []) = refl
      after (id ∷ other ∷ ids) =
          let more : length (id ∷ other ∷ ids) - 1 ≡ suc (length ids) = omega arith in
          let left : length ids ≡ length (other ∷ ids) - 1 = omega arith in
          ap (λ (n : ℕ). drop 1 (take n (id ∷ other ∷ ids))) more ∙ ap (λ (n : ℕ). take n (other ∷ ids)) left

      by_case : (b : Bool) → var.timed ≡ b
          → IsIndex (take (length (cond b (drop 1 index) index)) (lengths_of proto (cond b (drop 1 var.dims) var.dims)))
          (cond b (drop 1 index) index)
          × (length (cond b (drop 1 var.dims) var.dims) ≤ length (cond b (drop 1 index) index) + 1)
      by_case true timed =
          let within = subst (λ ids. IsIndex (lengths_of proto ids) (drop 1 index))
          (ap (drop 1) (dims_but_last var text.kind) ∙ after var.dims) (is.within timed) in (
            front (drop 1 var.dims) (drop 1 index) (length (drop 1 var.dims) - 1) within,
            one_less (drop 1 var.dims) (drop 1 index) within,
          )
      by_case false untimed =
          let whole = subst (λ ids. IsIndex (lengths_of proto ids) index) (dims_but_last var text.kind)
          (is.whole untimed) in
          (front var.dims index (length var.dims - 1) whole, one_less var.dims index whole)

module _ (shown : Shown) (sound : IsSound shown.proto) (rows_are : AreRows shown.proto shown.rows) (decl part : ℕ)
    (index : List ℕ) (number : ℕ) (var : ProtoVar)
    (found : slice_get shown.proto.vars number ≡ var_of_part shown.proto decl part)
    (there : slice_get shown.proto.vars number ≡ Some var) (slot : ℕ)
    (slot_is : slot ≡ slot_number shown.proto number) where
  -- the array of the part is that of the variable
  same_array : (array : Array) → decl < length shown.proto.vars → array_at shown decl part ≡ Some array
      → array ≡ array_of shown.proto (length shown.rows) var
  same_array array below e =
      let is = part_is shown decl part array below e in
      let same = same_Some is.var var (sym is.var_is ∙ sym found ∙ there) in
      is.array_is ∙ ap (array_of shown.proto (length shown.rows)) same

  pub has_bits : decl < length shown.proto.vars → HasNumber shown decl part index
      → HasBits shown.proto shown.rows var slot index
  unfolding array_of
  has_bits below has =
      let array = some_of (array_at shown decl part) (HasNumberAt index) has in
      let is : HasNumberAt index (array_of shown.proto (length shown.rows) var) =
      subst (HasNumberAt index) (same_array array.0 below array.1) array.2 in
      let at = row_index_of shown.proto (length shown.rows) var index is.index_is in
      record {
        instants = instants shown.proto shown.rows sound rows_are;
        kind = numeric shown.proto var is.number;
        element = λ other. element_there shown.proto shown.rows sound rows_are number var there slot slot_is index
            other (numeric shown.proto var is.number other) at;
      }

  pub has_element : HasStored shown decl part index → HasElement shown.proto shown.rows var slot index
  has_element has =
      let other : is_axis_of shown.proto var ≡ false = rw (sym found ∙ there) at has.other in
      (has_bits has.of_variable has.has).element other

  pub has_characters : HasText shown decl part index → HasCharacters shown.proto shown.rows var slot index
  unfolding array_of
  has_characters has =
      let array = some_of (array_at shown decl part) (HasTextAt index) has in
      let below = only_variables_have_texts shown decl part array.0 array.1 array.2.text in
      let is : HasTextAt index (array_of shown.proto (length shown.rows) var) =
      subst (HasTextAt index) (same_array array.0 below array.1) array.2 in
      characters_there shown.proto shown.rows sound rows_are number var there slot slot_is
      index (IsText-from_kind shown.proto var is.text)
      (row_index_of shown.proto (length shown.rows) var index is.index_is)
