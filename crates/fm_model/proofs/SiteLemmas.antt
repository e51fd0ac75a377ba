-- Sites and prototypes that a collection may have, by computing.
use Rattle.std.proofs.Common.{◌≡◌, ℕ, ◌≤◌, List, length, Ok, refl, arith}
use Rattle.std.specs.Prelude.{replicate}
use Rattle.std.proofs.lemmas.Int.{ints}
use Rattle.nc_model.specs.Format.{is_name_text, has_name, has_record_dim}
use Rattle.fm_base.specs.Name.{is_name_byte}
use Rattle.nc_model.specs.Layout.{product, vsize, record_size, rank_in, offset_of, element, indices_of, elements_of, first_too_large, first_outside, layout_fault}
use Rattle.nc_model.specs.Reading.{word, long_word, count, padded, name_at, kind_at, items_from, tag_at, list_count, list_at, dim_size, dim_at, attr_at, rank_at, names_record_dim, dim_id_at, begin_at, var_at, version_at, numrecs_at, header_at, header_or_fault}
use Rattle.fm_model.specs.Attribute.{trimmed, attr_text, text_of, has_text}
use Rattle.fm_model.specs.Computed.{chars, is_utf8, encode_utf8}
use Rattle.nc_model.specs.Sound.{sound_header}
use Rattle.fm_model.specs.Prototype.{is_bounds, proto_header, proto_axis, time_stands_first, is_plain_name, names_are_plain, is_reference, is_char_per_time, kept_vars, run_name, offset_name, names_are_free, dims_have_lengths, proto_var, proto_with, proto_of}
use Rattle.fm_model.specs.Variable.{is_named, is_coordinate, has_standard_name, is_axis, axis_of, lies_along, stands_first_alone, reference_of, var_named}
use Rattle.fm_model.specs.declared.proto.Proto.{Proto}
use Rattle.fm_model.specs.Example.{site}
use Rattle.fm_model.specs.ExampleFiles.{file_a, proto_a}
use Rattle.fm_model.specs.Site.{IsSite, IsPrototype}

-- the site of the examples is a site
pub IsSite-site : IsSite site
unfolding is_plain_name is_name_byte
IsSite-site = record {
  plain = refl;
  some = omega arith;
  few = omega arith;
  from_year_100 = omega
      (arith, ints);
  to_year_9900 = omega (arith, ints);
}

made_a : proto_of file_a site ≡ Ok proto_a
unfolding is_name_text has_name has_record_dim is_name_byte product vsize record_size rank_in offset_of element
    indices_of
    elements_of first_too_large first_outside layout_fault word long_word count padded name_at kind_at items_from tag_at
    list_count list_at dim_size dim_at attr_at rank_at names_record_dim dim_id_at begin_at var_at version_at numrecs_at
    header_at header_or_fault trimmed attr_text text_of has_text chars is_utf8 encode_utf8 sound_header proto_header
    proto_axis time_stands_first is_plain_name names_are_plain is_bounds is_reference is_char_per_time kept_vars
    run_name offset_name names_are_free dims_have_lengths proto_var proto_with proto_of is_named is_coordinate
    has_standard_name is_axis axis_of lies_along stands_first_alone reference_of var_named
made_a = refl

length_a : length file_a ≡ 352
length_a = refl

pub IsPrototype-a : IsPrototype proto_a
IsPrototype-a = record { bytes = file_a; few = (let n = length_a in omega (arith, n)); at = IsSite-site; made = made_a }

pub made_within : (bytes : List ℕ) (proto : Proto) → length bytes ≤ 536870912 → IsSite proto.site
    → proto_of bytes proto.site ≡ Ok proto → IsPrototype proto
made_within bytes proto few at made = record { bytes = bytes; few = few; at = at; made = made }
