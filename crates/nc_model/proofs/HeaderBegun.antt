-- Where a dimension, an attribute, a variable or the whole header fails, what stands before the field at fault begins a
-- spelling of one.
use Rattle.std.proofs.Common.{◌≡◌, ◌⊎◌, inl, inr, ℕ, ◌*◌, List, [], ◌++◌, length, replicate, map, refl, sym, ap, ap₂, subst, ◌∙◌, append_assoc, arith}
use Rattle.std.specs.Int.{w32, w64, to_be_bytes}
use Rattle.nc_model.specs.declared.header.Attr.{Attr}
use Rattle.nc_model.specs.declared.header.Dim.{Dim}
use Rattle.nc_model.specs.declared.header.Header.{Header}
use Rattle.nc_model.specs.declared.header.NcVar.{NcVar}
use Rattle.nc_model.specs.declared.kind.Kind.{Kind}
use Rattle.nc_model.specs.Format.{DIMENSION_TAG, VARIABLE_TAG, ATTRIBUTE_TAG}
use Rattle.nc_model.specs.Kind.{size_of}
use Rattle.nc_model.specs.Reading.{HeaderParser, count, padded, kind_at, list_at, dim_at, attr_at, dim_id_at, var_at, numrecs_at}
use Rattle.fm_base.specs.Parser.{◌>>=◌, pure}
use Rattle.nc_model.specs.Spelling.{SpellsWord, SpellsCount, SpellsPadded, SpellsName, SpellsKind, SpellsList, SpellsDim, SpellsAttr, SpellsBegin, SpellsVar, SpellsHeader, Spelled}
use Rattle.fm_base.proofs.Exact.{onto, Then, Such}
use Rattle.fm_base.proofs.Parts.{Example, Part-as, Part-leaf}
use Rattle.nc_model.proofs.Fields.{Exact-count, Exact-padded, Exact-kind_at}
use Rattle.nc_model.proofs.HeaderFaults.{OneField-field}
use Rattle.nc_model.proofs.HeaderFields.{HeaderPart, takes_as, such, field_part, Made, part_map, part_then, example_word, field_count, example_count, Local-padded, leaf_padded, example_values, field_kind, example_kind, field_size, field_rank, field_id, field_numrecs, field_begin}
use Rattle.nc_model.proofs.HeaderLists.{part_name, Free, part_items, part_list}
use Rattle.nc_model.proofs.HeaderParts.{SpellsVersion, header_of, Exact-numrecs_at}
use Rattle.nc_model.proofs.Lists.{Adds}
use Rattle.nc_model.proofs.Parts.{dim_of, attr_of, Exact-dim_size, Exact-rank_at, Exact-dim_id_at, Exact-begin_at}
use Rattle.nc_model.proofs.Steps.{IsField, Exact-field}
use Rattle.nc_model.proofs.Vars.{var_of}

part_count : HeaderPart SpellsCount count
part_count = field_part field_count Exact-count (λ text n s. s) example_count

part_kind : HeaderPart SpellsKind kind_at
part_kind = field_part field_kind Exact-kind_at (λ text kind s. s) example_kind

part_dim : (found : List Dim) → HeaderPart SpellsDim (dim_at found)
unfolding dim_at
part_dim found =
    Part-as (λ text dim s. subst (SpellsDim text) s.second.related (record {
      name_text = s.front;
      size_text = s.back;
      name = s.first;
      size = s.second.spelled;
      text_is = s.text_is;
    }))
    (part_then {T = λ name. Made SpellsCount (dim_of name)} (part_name (map (λ (d : Dim). d.name) found))
    (λ name. part_map (dim_of name) (field_part (field_size found) (Exact-dim_size found) such example_count)))

-- an attribute
abbrev ValuesText : ℕ → List ℕ → List ℕ → Type 0
ValuesText len = Such SpellsPadded (λ values. length values ≡ len)

abbrev AfterAttrKind : List ℕ → Kind → List ℕ → Attr → Type 0
AfterAttrKind name kind = Then SpellsCount (λ n. Made (ValuesText (n * size_of kind)) (attr_of name kind))

attr_text : (text : List ℕ) (attr : Attr) → Then SpellsName (λ name. Then SpellsKind (AfterAttrKind name)) text attr
    → SpellsAttr text attr
attr_text text attr s =
    let kinded = s.second in
    let counted = kinded.second in
    let valued = counted.second in
    subst (SpellsAttr text) valued.related (record {
      name_text = s.front;
      kind_text = kinded.front;
      count_text = counted.front;
      values_text = counted.back;
      count = counted.a;
      name = s.first;
      kind = kinded.first;
      counted = counted.first;
      length_is = valued.spelled.holds;
      values = valued.spelled.spelled;
      text_is = simp append_assoc (s.text_is ∙ onto s.front (kinded.text_is ∙ onto kinded.front counted.text_is));
    })

part_values : (len : ℕ) → HeaderPart (ValuesText len) (padded len)
part_values len =
    Part-leaf (Local-padded len) (takes_as (λ text a s. s) (Exact-padded len)) (example_values len) (leaf_padded len)

part_attr : (found : List Attr) → HeaderPart SpellsAttr (attr_at found)
unfolding attr_at
part_attr found =
    Part-as attr_text
    (part_then {T = λ name. Then SpellsKind (AfterAttrKind name)} (part_name (map (λ (a : Attr). a.name) found))
    (λ name. part_then {T = AfterAttrKind name} part_kind
    (λ kind. part_then {T = λ n. Made (ValuesText (n * size_of kind)) (attr_of name kind)} part_count
    (λ n. part_map (attr_of name kind) (part_values (n * size_of kind))))))

part_attrs : HeaderPart (SpellsList ATTRIBUTE_TAG SpellsAttr) (list_at ATTRIBUTE_TAG attr_at)
part_attrs = part_list ATTRIBUTE_TAG attr_at part_attr

-- what follows the kind, the attributes, the dimensions, the rank and the name of a variable
abbrev AfterKind : ℕ → List ℕ → List ℕ → List Attr → Kind → List ℕ → NcVar → Type 0
AfterKind version name ids attrs kind =
    Then (IsField 4) (λ size. Made (SpellsBegin version) (var_of name ids attrs kind))

abbrev AfterIds : ℕ → List ℕ → List ℕ → List ℕ → NcVar → Type 0
AfterIds version name ids =
    Then (SpellsList ATTRIBUTE_TAG SpellsAttr) (λ attrs. Then SpellsKind (AfterKind version name ids attrs))

abbrev AfterName : ℕ → List ℕ → List ℕ → NcVar → Type 0
AfterName version name = Then SpellsCount (λ rank. Then (Adds SpellsWord Free [] rank) (AfterIds version name))

var_text : (version : ℕ) (text : List ℕ) (var : NcVar) → Then SpellsName (AfterName version) text var
    → SpellsVar version text var
var_text version text var s =
    let ranked = s.second in
    let listed = ranked.second in
    let noted = listed.second in
    let sorted = noted.second in
    let sized = sorted.second in
    let begun = sized.second in
    let ids : listed.first.more ≡ listed.a = sym listed.first.all_is in
    subst (SpellsVar version text) begun.related (record {
      name_text = s.front;
      rank_text = ranked.front;
      dims_text = listed.front;
      attrs_text = noted.front;
      kind_text = sorted.front;
      size_text = sized.front;
      begin_text = sized.back;
      name = s.first;
      rank = subst (SpellsCount ranked.front) (sym listed.first.count ∙ ap length ids) ranked.first;
      dims = subst (Spelled SpellsWord listed.front) ids listed.first.spelled;
      attrs = noted.first;
      kind = sorted.first;
      size = ap length sized.first.text_is ∙ sized.first.size;
      begin = begun.spelled;
      text_is = simp append_assoc (s.text_is ∙ onto s.front (ranked.text_is ∙ onto ranked.front (listed.text_is
          ∙ onto listed.front (noted.text_is ∙ onto noted.front (sorted.text_is ∙ onto sorted.front sized.text_is)))));
    })

abbrev IsKnown : ℕ → Type 0
IsKnown version = (version ≡ 1) ⊎ (version ≡ 2)

example_begin : (version : ℕ) → IsKnown version → Example (SpellsBegin version)
example_begin version (inl one) = record { text = to_be_bytes w32 0; a = 0; spelled = inl (one, omega arith, refl) }
example_begin version (inr two) = record { text = to_be_bytes w64 0; a = 0; spelled = inr (two, omega arith, refl) }

example_size : Example (IsField 4)
example_size = record { text = replicate 4 0; a = replicate 4 0; spelled = record { size = refl; text_is = refl } }

part_var : (version : ℕ) → IsKnown version → (dims : List Dim) (found : List NcVar)
    → HeaderPart (SpellsVar version) (var_at version dims found)
unfolding var_at
part_var version known dims found =
    Part-as (var_text version)
    (part_then {T = AfterName version} (part_name (map (λ (v : NcVar). v.name) found))
    (λ name. part_then {T = λ rank. Then (Adds SpellsWord Free [] rank) (AfterIds version name)}
    (field_part field_rank Exact-rank_at such example_count)
    (λ rank. part_then {T = AfterIds version name}
    (part_items (dim_id_at dims) (λ ids. field_part (field_id dims ids) (Exact-dim_id_at dims ids) such example_word)
    rank [])
    (λ ids. part_then {T = λ attrs. Then SpellsKind (AfterKind version name ids attrs)} part_attrs
    (λ attrs. part_then {T = AfterKind version name ids attrs} part_kind
    (λ kind. part_then {T = λ size. Made (SpellsBegin version) (var_of name ids attrs kind)}
    (field_part (OneField-field 4 (omega arith)) (Exact-field 4) (λ text a s. s) example_size)
    (λ size. part_map (var_of name ids attrs kind)
    (field_part (field_begin version) (Exact-begin_at version known) (λ text a s. s)
    (example_begin version known)))))))))

-- the fields after the version
abbrev pub after_version : ℕ → HeaderParser Header
after_version version = do
  numrecs ← numrecs_at
  dims ← list_at DIMENSION_TAG dim_at
  attrs ← list_at ATTRIBUTE_TAG attr_at
  vars ← list_at VARIABLE_TAG (var_at version dims)
  pure (record { version = version; numrecs = numrecs; dims = dims; attrs = attrs; vars = vars })

-- what follows the number of records, and the version
abbrev AfterNumrecs : ℕ → ℕ → List ℕ → Header → Type 0
AfterNumrecs version numrecs =
    Then (SpellsList DIMENSION_TAG SpellsDim) (λ dims. Then (SpellsList ATTRIBUTE_TAG SpellsAttr)
    (λ attrs. Made (SpellsList VARIABLE_TAG (SpellsVar version)) (header_of version numrecs dims attrs)))

abbrev pub AfterVersion : ℕ → List ℕ → Header → Type 0
AfterVersion version = Then SpellsCount (AfterNumrecs version)

pub header_text : (text : List ℕ) (header : Header) → Then SpellsVersion AfterVersion text header
    → SpellsHeader text header
header_text text header s =
    let counted = s.second in
    let sized = counted.second in
    let noted = sized.second in
    let listed = noted.second in
    subst (SpellsHeader text) listed.related (record {
      numrecs_text = counted.front;
      dims_text = sized.front;
      attrs_text = noted.front;
      vars_text = noted.back;
      version = s.first.known;
      numrecs = counted.first;
      dims = sized.first;
      attrs = noted.first;
      vars = listed.spelled;
      text_is = simp append_assoc (s.text_is ∙ ap₂ (λ (a b : List ℕ). a ++ b) s.first.text_is
          (counted.text_is ∙ onto counted.front (sized.text_is ∙ onto sized.front noted.text_is)));
    })

pub part_after_version : (version : ℕ) → IsKnown version → HeaderPart (AfterVersion version) (after_version version)
part_after_version version known =
    part_then {T = AfterNumrecs version} (field_part field_numrecs Exact-numrecs_at (λ text a s. s) example_count)
    (λ numrecs. part_then {T = λ dims. Then (SpellsList ATTRIBUTE_TAG SpellsAttr)
    (λ attrs. Made (SpellsList VARIABLE_TAG (SpellsVar version)) (header_of version numrecs dims attrs))}
    (part_list DIMENSION_TAG dim_at part_dim)
    (λ dims. part_then {T = λ attrs. Made (SpellsList VARIABLE_TAG (SpellsVar version))
    (header_of version numrecs dims attrs)} part_attrs
    (λ attrs. part_map (header_of version numrecs dims attrs)
    (part_list VARIABLE_TAG (var_at version dims) (part_var version known dims)))))
