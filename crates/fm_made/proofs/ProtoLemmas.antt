-- Each made file is the same prototype.
use Rattle.std.proofs.Common.{◌≡◌, ℕ, List, Result, Ok, refl, ap, ap₂, ◌∙◌}
use Rattle.fm_base.specs.Chain.{◌>>=◌, ◌>>◌, fault_as}
use Rattle.nc_model.specs.declared.header.Header.{Header as FileHeader}
use Rattle.nc_model.specs.declared.header.NcVar.{NcVar}
use Rattle.nc_model.specs.Layout.{elements_of}
use Rattle.fm_base.specs.Name.{is_name_byte}
use Rattle.fm_model.specs.Attribute.{attr_text, has_text, text_of, trimmed}
use Rattle.fm_model.specs.Prototype.{dims_have_lengths, fault_of_proto, is_bounds, is_char_per_time, is_plain_name, is_reference, kept_vars, names_are_free, names_are_plain, offset_name, proto_axis, proto_header, proto_of, proto_var, proto_with as kept_of, run_name, time_stands_first}
use Rattle.fm_model.specs.Variable.{axis_of, has_standard_name, is_axis, is_coordinate, is_named, lies_along, reference_of, stands_first_alone}
use Rattle.fm_model.specs.declared.proto.Proto.{Proto}
use Rattle.fm_model.specs.declared.proto.ProtoFault.{ProtoFault}
use Rattle.fm_model.specs.declared.site.Site.{Site}
use Rattle.fm_gen.specs.File.{made_file}
use Rattle.fm_made.specs.Made.{lat_var, lon_var, made_header, made_proto, proto_with}
use Rattle.fm_made.proofs.HeaderLemmas.{header_made}
use Rattle.fm_made.proofs.RecordLemmas.{elements_lat, elements_lon}

-- the steps after the header
abbrev steps_after : List ℕ → Site → FileHeader → Result Proto ProtoFault
steps_after bytes site header = proto_axis header >>= λ (axis : NcVar).
    time_stands_first header axis
    >> (names_are_plain header
    >> (names_are_free header axis >> (dims_have_lengths header axis >> Ok (kept_of bytes site header axis))))

kept : (bytes : List ℕ) (site : Site) → steps_after bytes site made_header
    ≡ Ok (proto_with site (elements_of bytes made_header lat_var) (elements_of bytes made_header lon_var))
unfolding attr_text has_text text_of trimmed dims_have_lengths is_bounds is_char_per_time is_plain_name is_reference
    kept_vars names_are_free names_are_plain offset_name proto_axis proto_var kept_of run_name time_stands_first axis_of
    has_standard_name is_axis is_coordinate is_named lies_along reference_of stands_first_alone is_name_byte
kept bytes site = refl

-- a made file is a prototype
pub made_prototype : (site : Site) (seed k : ℕ) → proto_of (made_file seed k) site ≡ Ok (made_proto site)
unfolding proto_of proto_header
made_prototype site seed k =
    ap (λ found. fault_as fault_of_proto found >>= steps_after (made_file seed k) site) (header_made seed k)
    ∙ kept (made_file seed k) site
    ∙ ap₂ (λ (lat lon : List ℕ). Ok (proto_with site lat lon)) (elements_lat seed k) (elements_lon seed k)
