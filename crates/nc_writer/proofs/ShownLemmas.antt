-- The attributes of a variable of a file are those that were read, or are made: their names differ, and each can be
-- written.
use Rattle.std.proofs.Common.{◌≡◌, ℕ, ◌*◌, Bool, true, false, cond, List, [], ◌∷◌, codes, length, map, find, Option, Some, None, refl, arith}
use Rattle.std.specs.Prelude.{filter, IsTrue, ℤ}
use Rattle.std.specs.List.{AllByRecursion, IsDistinct}
use Rattle.std.specs.Option.{option_map_or}
use Rattle.std.specs.Str.{bytes_eq}
use Rattle.nc_model.specs.declared.header.Attr.{Attr}
use Rattle.nc_model.specs.declared.kind.Kind.{Kind}
use Rattle.nc_model.specs.declared.kind.Kind.TheVariants.{Byte, Char, Short, Int, Float, Double}
use Rattle.nc_model.specs.Format.{is_name_text}
use Rattle.nc_model.specs.Kind.{size_of}
use Rattle.nc_model.specs.Spelling.{AreDistinct}
use Rattle.nc_model.proofs.Parts.{name_of_attr}
use Rattle.fm_model.specs.declared.proto.Proto.{Proto}
use Rattle.fm_model.specs.declared.proto.ProtoVar.{ProtoVar}
use Rattle.fm_model.specs.declared.row.ViewName.{ViewName}
use Rattle.fm_model.specs.Prototype.{offset_name, run_name}
use Rattle.fm_model.proofs.FindLemmas.{in_find}
use Rattle.fm_model.proofs.Members.{Each-in}
use Rattle.fm_dataset.specs.Values.{Shown}
use Rattle.dap_das.specs.Attributes.{axis_attributes, axis_standard_name, calendar_attribute, instant_attributes, offset_attributes, reference_time, run_attributes, standard_name_attribute, text_attribute, units_attribute, units_since, variable_attributes}
use Rattle.dap_das.specs.AttributeText.{value_count}
use Rattle.nc_writer.specs.Attributes.{added_attributes, attributes_in, attributes_of, is_of_name, is_written, shown_attributes}
use Rattle.nc_writer.proofs.NameLemmas.{calendar-text, standard_name-text, units-text}
use Rattle.nc_writer.proofs.NamedLemmas.{AreReadAttrs, IsReadAttr}
use Rattle.nc_writer.proofs.ProtoLemmas.{IsNamedProto, IsNamedVar}
use Rattle.nc_writer.proofs.FieldLemmas.{IsWritableAttr}

-- ---- those that are left of some

each-kept : (P : Attr → Type 0) (keep : Attr → Bool) (attrs : List Attr) → AllByRecursion P attrs
    → AllByRecursion P (filter keep attrs)
each-kept P keep [] all = tt
each-kept P keep (attr ∷ attrs) all = by_test (keep attr) (each-kept P keep attrs all.1)
  where
    by_test : (b : Bool) → AllByRecursion P (filter keep attrs)
        → AllByRecursion P (cond b (attr ∷ filter keep attrs) (filter keep attrs))
    by_test true more = (all.0, more)
    by_test false more = more

names-kept : (P : List ℕ → Type 0) (keep : Attr → Bool) (attrs : List Attr)
    → AllByRecursion P (map name_of_attr attrs) → AllByRecursion P (map name_of_attr (filter keep attrs))
names-kept P keep [] all = tt
names-kept P keep (attr ∷ attrs) all = by_test (keep attr) (names-kept P keep attrs all.1)
  where
    by_test : (b : Bool) → AllByRecursion P (map name_of_attr (filter keep attrs))
        → AllByRecursion P (map name_of_attr (cond b (attr ∷ filter keep attrs) (filter keep attrs)))
    by_test true more = (all.0, more)
    by_test false more = more

distinct-kept : (keep : Attr → Bool) (attrs : List Attr) → AreDistinct (map name_of_attr attrs)
    → AreDistinct (map name_of_attr (filter keep attrs))
unfolding IsDistinct
distinct-kept keep [] apart = tt
distinct-kept keep (attr ∷ attrs) apart = by_test (keep attr) (names-kept _ keep attrs apart.0)
    (distinct-kept keep attrs apart.1)
  where
    by_test : (b : Bool)
        → AllByRecursion (λ (n : List ℕ). bytes_eq attr.name n ≡ false) (map name_of_attr (filter keep attrs))
        → AreDistinct (map name_of_attr (filter keep attrs))
        → AreDistinct (map name_of_attr (cond b (attr ∷ filter keep attrs) (filter keep attrs)))
    by_test true all more = (all, more)
    by_test false all more = more

read-kept : (keep : Attr → Bool) (attrs : List Attr) → AreReadAttrs attrs → AreReadAttrs (filter keep attrs)
read-kept keep attrs read = record {
  distinct = distinct-kept keep attrs read.distinct;
  each = each-kept IsReadAttr keep attrs read.each;
}

-- ---- those that are made

text-read : (name text : List ℕ) → IsTrue (is_name_text name) → IsReadAttr (text_attribute name text)
unfolding text_attribute
text-read name text named = (named, (length text, omega arith))

instant-read : (epoch : ℤ) (standard_name : List ℕ) → AreReadAttrs (instant_attributes epoch standard_name)
unfolding instant_attributes units_attribute standard_name_attribute calendar_attribute text_attribute IsDistinct
instant-read epoch standard_name = record {
  distinct = ((refl, (refl, tt)), ((refl, tt), (tt, tt)));
  each = (
    text-read (codes "units") (units_since epoch) units-text,
    (
      text-read (codes "standard_name") standard_name standard_name-text,
      (text-read (codes "calendar") (codes "proleptic_gregorian") calendar-text, tt),
    ),
  );
}

offset-read : AreReadAttrs offset_attributes
unfolding offset_attributes units_attribute standard_name_attribute text_attribute IsDistinct
offset-read = record {
  distinct = ((refl, tt), (tt, tt));
  each = (
    text-read (codes "units") (codes "seconds") units-text,
    (text-read (codes "standard_name") (codes "forecast_period") standard_name-text, tt),
  );
}

none-read : AreReadAttrs []
unfolding IsDistinct
none-read = record { distinct = tt; each = tt }

added-read : (proto : Proto) (name : List ℕ) → AreReadAttrs (added_attributes proto name)
unfolding added_attributes run_attributes
added-read proto name = by_run (bytes_eq (run_name proto.axis) name)
  where
    by_offset : (b : Bool) → AreReadAttrs (cond b offset_attributes [])
    by_offset true = offset-read
    by_offset false = none-read

    by_run : (b : Bool) → AreReadAttrs (cond b (instant_attributes proto.site.epoch reference_time)
        (cond (bytes_eq (offset_name proto.axis) name) offset_attributes []))
    by_run true = instant-read proto.site.epoch reference_time
    by_run false = by_offset (bytes_eq (offset_name proto.axis) name)

variable-read : (proto : Proto) (view : ViewName) (var : ProtoVar) → AreReadAttrs var.attrs
    → AreReadAttrs (variable_attributes proto view var)
unfolding variable_attributes axis_attributes
variable-read proto view var read = by_name (bytes_eq var.name proto.axis)
  where
    by_name : (b : Bool)
        → AreReadAttrs (cond b (instant_attributes proto.site.epoch (axis_standard_name view)) var.attrs)
    by_name true = instant-read proto.site.epoch (axis_standard_name view)
    by_name false = read

pub attributes-read : (shown : Shown) (name : List ℕ) → IsNamedProto shown.proto
    → AreReadAttrs (attributes_of shown name)
unfolding attributes_of attributes_in shown_attributes
attributes-read shown name named =
    read-kept is_written (shown_attributes shown.proto shown.view name)
    (by_var (find (is_of_name name) shown.proto.vars) refl)
  where
    by_var : (o : Option ProtoVar) → find (is_of_name name) shown.proto.vars ≡ o
        → AreReadAttrs (option_map_or (variable_attributes shown.proto shown.view) o
        (added_attributes shown.proto name))
    by_var None is = added-read shown.proto name
    by_var (Some var) is =
        let held = in_find (is_of_name name) shown.proto.vars var is in
        let own = Each-in IsNamedVar var shown.proto.vars named.vars held.0 in
        variable-read shown.proto shown.view var own.attrs

-- ---- each can be written

whole-count : (kind : Kind) (values : List ℕ) (n : ℕ) → length values ≡ n * size_of kind
    → length values ≡ value_count kind values * size_of kind
whole-count Byte values n e = omega (arith, e)
whole-count Char values n e = omega (arith, e)
whole-count Short values n e = omega (arith, e)
whole-count Int values n e = omega (arith, e)
whole-count Float values n e = omega (arith, e)
whole-count Double values n e = omega (arith, e)

pub writable-attrs : (attrs : List Attr) → AllByRecursion IsReadAttr attrs → AllByRecursion IsWritableAttr attrs
writable-attrs [] all = tt
writable-attrs (attr ∷ attrs) all = (
  record { named = all.0.0; whole = whole-count attr.kind attr.values all.0.1.0 all.0.1.1 },
  writable-attrs attrs all.1,
)
