-- What attributes say (NetCDF Classic Format Specification; CF Conventions, attributes).
use Rattle.std.specs.Prelude.{ℕ, ◌-◌, List, length, take, Bool, true, false, ◌==◌, if◌then◌else◌, Option, Some, None, find, option_and_then}
use Rattle.std.specs.List.{suffix_len}
use Rattle.std.specs.Option.{option_map_or}
use Rattle.std.specs.Str.{bytes_eq}
use Rattle.nc_model.specs.declared.header.Attr.{Attr}
use Rattle.nc_model.specs.declared.kind.Kind.{Kind}
use Rattle.nc_model.specs.declared.kind.Kind.TheVariants.{Char}

-- whether values of this kind are characters
abbrev pub is_char : Kind → Bool
is_char Char = true
is_char kind = false

-- some bytes without the zero bytes at their end
unfoldable pub trimmed : List ℕ → List ℕ
trimmed bytes = take (length bytes - suffix_len (λ byte. byte == 0) bytes) bytes

-- the text of an attribute, which only one of characters has
unfoldable pub attr_text : Attr → Option (List ℕ)
attr_text attr = if is_char attr.kind then Some (trimmed attr.values) else None

-- the first attribute of this name
abbrev pub attr_named : List Attr → List ℕ → Option Attr
attr_named attrs name = find (λ (attr : Attr). bytes_eq attr.name name) attrs

-- the text of the first attribute of this name
unfoldable pub text_of : List Attr → List ℕ → Option (List ℕ)
text_of attrs name = option_and_then attr_text (attr_named attrs name)

-- whether the first attribute of this name has this text
unfoldable pub has_text : List Attr → List ℕ → List ℕ → Bool
has_text attrs name text = option_map_or (bytes_eq text) (text_of attrs name) false
