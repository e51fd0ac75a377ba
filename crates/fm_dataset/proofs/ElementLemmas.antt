-- An element that stands in a file or in the prototype is as long as a value of its kind.
use Rattle.std.proofs.Common.{◌≡◌, ℕ, zero, suc, ◌+◌, ◌*◌, Bool, true, false, cond, List, [], ◌∷◌, length, get_or, find, Option, Some, None, inl, inr, refl, sym, ap, subst, ◌∙◌, arith}
use Rattle.std.specs.Prelude.{slice_get, slice_index, option_and_then}
use Rattle.std.proofs.lemmas.Option.{none-some, slice_get_cases, slice_get-get_or}
use Rattle.nc_model.specs.Kind.{size_of}
use Rattle.nc_model.specs.Layout.{rank_in}
use Rattle.nc_model.proofs.EndLaws.{rank_in-lt}
use Rattle.fm_model.specs.declared.loaded.Slot.{Slot}
use Rattle.fm_model.specs.declared.proto.Proto.{Proto}
use Rattle.fm_model.specs.declared.proto.ProtoVar.{ProtoVar}
use Rattle.fm_model.specs.declared.row.Row.{Row}
use Rattle.fm_model.specs.Prototype.{IsSound}
use Rattle.fm_dataset.specs.Declarations.{array_dims, coordinate_of, is_coordinate_of}
use Rattle.fm_dataset.specs.Kept.{slot_number, HasBlock, HasElement, HasSlotIn, IsBlock}
use Rattle.fm_dataset.specs.Rows.{AreRows, IsRowOf}
use Rattle.fm_dataset.specs.Values.{element_of, row_index, row_shape, var_of_part, HasStored, Shown}
use Rattle.fm_dataset.proofs.BlockLemmas.{block_along, block_fixed, lies_in_file, slot_there}
use Rattle.fm_dataset.proofs.PieceLemmas.{elements_fit, length-taken}
use Rattle.fm_dataset.proofs.ReadLemmas.{has_element}

-- where the elements lie
pub record SomeBlock (proto : Proto) (rows : List Row) (var : ProtoVar) (index : List ℕ) : Type 0 where
  pub bytes : List ℕ
  pub begin : ℕ
  pub is : IsBlock proto rows var index bytes begin

pub some_block : (proto : Proto) (rows : List Row) (var : ProtoVar) (number : ℕ) (index : List ℕ)
    → HasBlock proto rows var number index → SomeBlock proto rows var index
some_block proto rows var number index has = by_time var.timed refl
  where
    along : (row : Row) → var.timed ≡ true → slice_get rows (slice_index index 0) ≡ Some row → IsRowOf proto row
        → SomeBlock proto rows var index
    along row timed there row_is =
        let slotted : HasSlotIn proto row var number =
        record { sound = has.sound; row_is = row_is; slotted = has.slotted timed } in
        let slot : Slot = get_or row.file.slots number (record { begin = 0; step = 0 }) in
        let found = slice_get-get_or row.file.slots number (record { begin = 0; step = 0 })
        (slot_there proto row var number slotted) in
        record {
          bytes = row.file.content;
          begin = slot.begin + row.index * slot.step;
          is = block_along timed there
              (lies_in_file proto row var number slotted slot row.file.content
              (slot.begin + row.index * slot.step) found refl refl);
        }

    by_time : (b : Bool) → var.timed ≡ b → SomeBlock proto rows var index
    by_time true timed =
        elim (slice_get_cases rows (slice_index index 0)).1 [
          | inl some ↦ along some.0 timed some.2
              (subst (IsRowOf proto) some.3 (has.rows_are.each (slice_index index 0) some.0 some.1))
          | inr past ↦ absurd (let below = has.row_there timed in omega (arith, below, past.0))
        ]
    by_time false untimed = record {
      bytes = var.fixed;
      begin = 0;
      is = block_fixed has untimed refl refl;
    }

pub element_len : (proto : Proto) (rows : List Row) (var : ProtoVar) (number : ℕ) (index : List ℕ)
    → HasElement proto rows var number index → length (element_of proto rows var index) ≡ size_of var.kind
element_len proto rows var number index has =
    let block = some_block proto rows var number index has.block in
    let rank : ℕ = rank_in (row_shape proto var) (row_index var index) in
    let below = rank_in-lt (row_shape proto var) (row_index var index) has.index_is in
    let fits = elements_fit block.is rank 1 refl (omega (arith, below)) in
    ap length (block.is.each index (λ _. refl))
    ∙ length-taken block.bytes (block.begin + size_of var.kind * rank) (size_of var.kind) (omega (arith, fits))

-- what is found stands somewhere
find_there : {A : Type 0} (p : A → Bool) (xs : List A) (y : A) → find p xs ≡ Some y
    → (n : ℕ) × (slice_get xs n ≡ Some y)
find_there p [] y e = absurd (none-some y e)
find_there p (x ∷ xs) y e = by_test (p x) e (λ d. find_there p xs y d)
  where
    by_test : (b : Bool) → cond b (Some x) (find p xs) ≡ Some y
        → (find p xs ≡ Some y → (n : ℕ) × (slice_get xs n ≡ Some y)) → (n : ℕ) × (slice_get (x ∷ xs) n ≡ Some y)
    by_test true e later = (0, e)
    by_test false e later = let there = later e in (suc there.0, there.1)

pub var_there : (proto : Proto) (decl part : ℕ) (var : ProtoVar) → var_of_part proto decl part ≡ Some var
    → (n : ℕ) × (slice_get proto.vars n ≡ Some var)
unfolding var_of_part coordinate_of
var_there proto decl zero var e = (decl, e)
var_there proto decl (suc k) var e = by_decl (slice_get proto.vars decl) e
  where
    by_dim : (o : Option ℕ) → option_and_then (coordinate_of proto) o ≡ Some var
        → (n : ℕ) × (slice_get proto.vars n ≡ Some var)
    by_dim None e = absurd (none-some var e)
    by_dim (Some id) e = find_there (is_coordinate_of proto id) proto.vars var e

    by_decl : (o : Option ProtoVar)
        → option_and_then (λ (v : ProtoVar). option_and_then (coordinate_of proto) (slice_get (array_dims v) k)) o
        ≡ Some var → (n : ℕ) × (slice_get proto.vars n ≡ Some var)
    by_decl None e = absurd (none-some var e)
    by_decl (Some v) e = by_dim (slice_get (array_dims v) k) e

-- the length of an element that a file holds
pub stored_len : (shown : Shown) (decl part : ℕ) (index : List ℕ) (var : ProtoVar) → IsSound shown.proto
    → AreRows shown.proto shown.rows → HasStored shown decl part index → var_of_part shown.proto decl part ≡ Some var
    → length (element_of shown.proto shown.rows var index) ≡ size_of var.kind
stored_len shown decl part index var sound rows_are has e =
    let there = var_there shown.proto decl part var e in
    let slot : ℕ = slot_number shown.proto there.0 in
    element_len shown.proto shown.rows var slot index
    (has_element shown sound rows_are decl part index there.0 var (there.1 ∙ sym e) there.1 slot refl has)
