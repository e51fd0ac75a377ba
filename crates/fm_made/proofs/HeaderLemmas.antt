-- Each made file has the same header, and all of its data lies in the file.
use Rattle.std.proofs.Common.{◌≡◌, ℕ, zero, suc, ◌+◌, ◌*◌, true, List, [], ◌∷◌, ◌++◌, length, None, Ok, refl, ap, ◌∙◌, arith, append_assoc, length-append}
use Rattle.std.specs.Prelude.{nat_lt}
use Rattle.std.specs.List.{list_all}
use Rattle.std.specs.Option.{option_map}
use Rattle.std.proofs.lemmas.Bool.{and_parts, ltb-true}
use Rattle.nc_model.specs.declared.header.Header.{Header as FileHeader}
use Rattle.nc_model.specs.declared.fault.FormatFault.TheVariants.{OfHeader, OfLayout}
use Rattle.fm_base.specs.Chain.{◌>>=◌, ◌>>◌, refuse, fault_as}
use Rattle.nc_model.specs.Format.{IsBytes, is_name_text, has_name, has_record_dim}
use Rattle.nc_model.specs.Layout.{product, vsize, record_size, rank_in, offset_of, first_too_large, first_outside, layout_fault}
use Rattle.nc_model.specs.Reading.{word as word_at, long_word, count, padded, name_at, kind_at, items_from, tag_at, list_count, list_at, dim_size, dim_at, attr_at, rank_at, names_record_dim, dim_id_at, begin_at, var_at, version_at, numrecs_at, header_at, header_or_fault}
use Rattle.nc_model.specs.Sound.{sound_header}
use Rattle.nc_model.proofs.HeaderLaws.{HeaderOf-from_read, read-from_HeaderOf}
use Rattle.fm_model.specs.Computed.{chars, is_utf8, encode_utf8}
use Rattle.fm_gen.specs.Fields.{word, counted, dim_text, attr_text, shape_text, var_front, var_end}
use Rattle.fm_gen.specs.File.{dims_text, time_text, lat_text, lon_text, v_text, vars_text, header_text, made_file}
use Rattle.fm_gen.specs.Values.{bits_of, number_after, number_at, record_text, records_text, steps_text, values_text}
use Rattle.fm_made.specs.Made.{made_header}

-- the header alone is read
read_alone : header_or_fault header_text ≡ Ok made_header
unfolding is_name_text has_name has_record_dim word_at long_word count padded name_at kind_at items_from tag_at
    list_count list_at dim_size dim_at attr_at rank_at names_record_dim dim_id_at begin_at var_at version_at numrecs_at
    header_at header_or_fault chars is_utf8 encode_utf8 word counted dim_text attr_text shape_text var_front var_end
    dims_text time_text lat_text lon_text v_text vars_text header_text
read_alone = refl

all_bytes : list_all (λ byte. nat_lt byte 256) header_text ≡ true
unfolding word counted dim_text attr_text shape_text var_front var_end dims_text time_text lat_text lon_text v_text
    vars_text header_text
all_bytes = refl

bytes_if : (bytes : List ℕ) → list_all (λ byte. nat_lt byte 256) bytes ≡ true → IsBytes bytes
bytes_if [] is i = omega arith
bytes_if (b ∷ bytes) is zero = ltb-true b 256 (and_parts (nat_lt b 256) (list_all (λ byte. nat_lt byte 256) bytes) is).0
bytes_if (b ∷ bytes) is (suc i) =
    bytes_if bytes (and_parts (nat_lt b 256) (list_all (λ byte. nat_lt byte 256) bytes) is).1 i

-- whatever follows it, the header is read
pub read_before : (rest : List ℕ) → header_or_fault (header_text ++ rest) ≡ Ok made_header
read_before rest =
    let spelled = HeaderOf-from_read header_text made_header (bytes_if header_text all_bytes) read_alone in
    read-from_HeaderOf (header_text ++ rest) made_header (record {
      text = spelled.text;
      rest = spelled.rest ++ rest;
      spelled = spelled.spelled;
      sound = spelled.sound;
      split = ap (λ (l : List ℕ). l ++ rest) spelled.split ∙ append_assoc spelled.text spelled.rest rest;
    })

pub length-word : (n : ℕ) → length (word n) ≡ 4
unfolding word
length-word n = refl

pub length-values_text : (x n : ℕ) → length (values_text x n) ≡ 4 * n
unfolding values_text
length-values_text x zero = refl
length-values_text x (suc n) =
    let before = length-values_text x n in
    let last = length-word (bits_of (number_after x n)) in
    let joined = length-append (values_text x n) (word (bits_of (number_after x n))) in
    omega (arith, before, last, joined)

pub length-record_text : (seed k j : ℕ) → length (record_text seed k j) ≡ 260
unfolding record_text
length-record_text seed k j =
    let time = length-word (21600 * k + 3600 * j) in
    let values = length-values_text (number_at seed k (64 * j)) 64 in
    let joined = length-append (word (21600 * k + 3600 * j)) (values_text (number_at seed k (64 * j)) 64) in
    omega (arith, time, values, joined)

pub length-records_text : (seed k n : ℕ) → length (records_text seed k n) ≡ 260 * n
unfolding records_text
length-records_text seed k zero = refl
length-records_text seed k (suc n) =
    let before = length-records_text seed k n in
    let last = length-record_text seed k n in
    let joined = length-append (records_text seed k n) (record_text seed k n) in
    omega (arith, before, last, joined)

pub length-header_text : length header_text ≡ 276
unfolding word counted dim_text attr_text shape_text var_front var_end dims_text time_text lat_text lon_text v_text
    vars_text header_text
length-header_text = refl

pub length-grid : length (steps_text 8) ≡ 32
unfolding word steps_text
length-grid = refl

-- the bytes before the records
abbrev pub front : List ℕ
front = header_text ++ steps_text 8 ++ steps_text 8

pub length-front : length front ≡ 340
length-front =
    let a = length-append (header_text ++ steps_text 8) (steps_text 8) in
    let b = length-append header_text (steps_text 8) in
    let h = length-header_text in
    let g = length-grid in
    omega (arith, a, b, h, g)

-- a made file is the front and the records
pub parted : (seed k : ℕ) → made_file seed k ≡ front ++ records_text seed k 65
unfolding made_file
parted seed k = refl

-- a made file has 17,240 bytes
pub length-made_file : (seed k : ℕ) → length (made_file seed k) ≡ 17240
length-made_file seed k =
    let whole = ap length (parted seed k) in
    let joined = length-append front (records_text seed k 65) in
    let before = length-front in
    let records = length-records_text seed k 65 in
    omega (arith, whole, joined, before, records)

-- the header of each made file is read
read_made : (seed k : ℕ) → header_or_fault (made_file seed k) ≡ Ok made_header
read_made seed k =
    let grid = steps_text 8 in
    let records = records_text seed k 65 in
    ap header_or_fault (parted seed k ∙ append_assoc (header_text ++ grid) grid records
    ∙ append_assoc header_text grid (grid ++ records))
    ∙ read_before (grid ++ (grid ++ records))

no_fault : layout_fault made_header 17240 ≡ None
unfolding product vsize record_size rank_in offset_of first_too_large first_outside layout_fault names_record_dim
no_fault = refl

-- the header of each made file, which has no fault
pub header_made : (seed k : ℕ) → sound_header (made_file seed k) ≡ Ok made_header
unfolding sound_header
header_made seed k =
    let bytes : List ℕ = made_file seed k in
    ap (λ found. fault_as OfHeader found >>= λ (header : FileHeader).
    refuse (option_map OfLayout (layout_fault header (length bytes))) >> Ok header) (read_made seed k)
    ∙ ap (λ (len : ℕ). refuse (option_map OfLayout (layout_fault made_header len)) >> Ok made_header)
    (length-made_file seed k)
    ∙ ap (λ fault. refuse (option_map OfLayout fault) >> Ok made_header) no_fault
