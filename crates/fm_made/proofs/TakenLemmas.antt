-- Each made file is taken over the prototype of file 0.
use Rattle.std.proofs.Common.{◌≡◌, ℕ, ◌+◌, ◌*◌, ◌<◌, true, List, [], ◌∷◌, length, Some, None, Result, Ok, ℤ, pos, refl, sym, ap, subst, ◌∙◌, arith}
use Rattle.std.specs.Prelude.{◌+ℤ◌, ◌-ℤ◌, slice_get, codes}
use Rattle.std.proofs.lemmas.Int.{ints}
use Rattle.nc_model.specs.Calendar.{day_number}
use Rattle.fm_base.specs.Chain.{◌>>=◌, ◌>>◌}
use Rattle.nc_model.specs.Layout.{product, record_size, vsize}
use Rattle.nc_model.specs.Reading.{names_record_dim}
use Rattle.nc_model.specs.Stamp.{mark_of}
use Rattle.nc_model.specs.Units.{is_before_gregorian, is_gregorian, is_proleptic, in_calendar, units_of}
use Rattle.nc_model.specs.UnitsReading.{end_at, byte_at, letter_at, many_at, some_at, digits_at, number_at, is_same_word, is_second, is_minute, is_hour, is_day, seconds_per, unit_at, day_at, dashed_day_at, joined_day_at, after_year_at, date_at, fraction_at, second_at, past_hour_at, time_of_day_at, colon_minute_at, zone_minute_at, shift_at, zone_after, distance_at, zone_at, last_zone_at, clock_at, after_date_at, units_at, written_or_fault}
use Rattle.fm_model.specs.Attribute.{attr_text, has_text, text_of, trimmed}
use Rattle.fm_model.specs.Computed.{day_count, days_from_civil, days_of_months, days_of_years}
use Rattle.fm_model.specs.declared.loaded.LoadFault.{LoadFault}
use Rattle.fm_model.specs.declared.loaded.Slot.{Slot}
use Rattle.fm_model.specs.declared.proto.Proto.{Proto}
use Rattle.fm_model.specs.declared.proto.ProtoFault.{ProtoFault}
use Rattle.fm_model.specs.declared.proto.ProtoVar.{ProtoVar}
use Rattle.fm_model.specs.declared.site.Site.{Site}
use Rattle.fm_model.specs.Load.{load_of}
use Rattle.fm_model.specs.LoadTimes.{file_run, file_units, from_epoch, time_at, IsInstant}
use Rattle.fm_model.specs.LoadVars.{file_slots, is_compared, is_like_fixed, is_like_timed, slot_in, slots_after, steps_from}
use Rattle.fm_model.specs.Packing.{have_same, same_attr, same_packing}
use Rattle.fm_model.specs.Prototype.{proto_of}
use Rattle.fm_model.specs.Variable.{has_standard_name, is_coordinate, is_named, lies_along, reference_of, stands_first_alone, var_named}
use Rattle.fm_load.proofs.AcceptLemmas.{all_times-accepted, axis-accepted, count-accepted, file-accepted, grid-accepted, header-accepted, run-accepted, slot-accepted, time-accepted}
use Rattle.fm_gen.specs.File.{made_file}
use Rattle.fm_gen.specs.Values.{steps_text, time_of}
use Rattle.fm_made.specs.Made.{fixed_of, lat_var, lon_var, made_header, made_loaded, made_proto, made_units, time_var, timed_of, times_of, v_slot, v_var}
use Rattle.fm_made.proofs.HeaderLemmas.{header_made}
use Rattle.fm_made.proofs.ProtoLemmas.{made_prototype}
use Rattle.fm_made.proofs.RecordLemmas.{elements_lat, elements_lon}
use Rattle.fm_made.proofs.TimeLemmas.{length-times_of, seconds-time, time_in, times_differ}

named_time : var_named made_header (codes "time") ≡ Some time_var
unfolding var_named
named_time = refl

named_lat : var_named made_header (codes "lat") ≡ Some lat_var
unfolding var_named
named_lat = refl

named_lon : var_named made_header (codes "lon") ≡ Some lon_var
unfolding var_named
named_lon = refl

named_v : var_named made_header (codes "v") ≡ Some v_var
unfolding var_named
named_v = refl

coordinate : is_coordinate made_header.dims time_var.name time_var.kind time_var.dims ≡ true
unfolding is_coordinate is_named
coordinate = refl

no_reference : reference_of made_header ≡ None
unfolding reference_of has_standard_name attr_text has_text text_of trimmed
no_reference = refl

units_are : file_units time_var ≡ Ok made_units
unfolding day_number is_before_gregorian is_gregorian is_proleptic in_calendar units_of end_at byte_at letter_at many_at
    some_at digits_at number_at is_same_word is_second is_minute is_hour is_day seconds_per unit_at
    day_at dashed_day_at joined_day_at after_year_at date_at fraction_at second_at past_hour_at time_of_day_at
    colon_minute_at zone_minute_at distance_at shift_at zone_at zone_after last_zone_at clock_at after_date_at units_at
    written_or_fault attr_text text_of trimmed file_units day_count days_from_civil days_of_months days_of_years
units_are = refl

like_lat : (site : Site) → is_like_fixed (made_proto site) made_header (fixed_of lat_var (steps_text 8)) lat_var ≡ true
unfolding is_like_fixed
like_lat site = refl

like_lon : (site : Site) → is_like_fixed (made_proto site) made_header (fixed_of lon_var (steps_text 8)) lon_var ≡ true
unfolding is_like_fixed
like_lon site = refl

like_v : (site : Site) → is_like_timed (made_proto site) made_header time_var (timed_of v_var) v_var ≡ true
unfolding is_like_timed stands_first_alone lies_along
like_v site = refl

packed_v : same_packing (timed_of v_var) v_var ≡ Ok tt
unfolding same_packing same_attr have_same
packed_v = refl

slot_is : slot_in made_header time_var v_var ≡ v_slot
unfolding slot_in product record_size vsize names_record_dim
slot_is = refl

module _ (site : Site) (seed k : ℕ) where
  abbrev step : List Slot → ProtoVar → Result (List Slot) LoadFault
  step = slots_after (made_proto site) (made_file seed k) made_header time_var

  lat_step : step [] (fixed_of lat_var (steps_text 8)) ≡ Ok []
  unfolding slots_after
  lat_step = ap (λ grid. grid >> Ok [])
      (grid-accepted (made_proto site) (made_file seed k) made_header (fixed_of lat_var (steps_text 8)) lat_var
      named_lat (like_lat site) (elements_lat seed k))

  lon_step : step [] (fixed_of lon_var (steps_text 8)) ≡ Ok []
  unfolding slots_after
  lon_step = ap (λ grid. grid >> Ok [])
      (grid-accepted (made_proto site) (made_file seed k) made_header (fixed_of lon_var (steps_text 8)) lon_var
      named_lon (like_lon site) (elements_lon seed k))

  v_step : step [] (timed_of v_var) ≡ Ok (v_slot ∷ [])
  unfolding slots_after
  v_step = ap (λ found. found >>= λ (slot : Slot). Ok (slot ∷ []))
      (slot-accepted (made_proto site) made_header time_var (timed_of v_var) v_var named_v (like_v site) packed_v)
      ∙ ap (λ (slot : Slot). Ok (slot ∷ [])) slot_is

  compared : file_slots (made_proto site) (made_file seed k) made_header time_var ≡ steps_from step
      (fixed_of lat_var (steps_text 8) ∷ fixed_of lon_var (steps_text 8) ∷ timed_of v_var ∷ []) []
  unfolding file_slots is_compared is_coordinate is_named
  compared = refl

  slots_are : file_slots (made_proto site) (made_file seed k) made_header time_var ≡ Ok (v_slot ∷ [])
  unfolding steps_from
  slots_are =
      compared
      ∙ ap (λ found. found >>= λ (slots : List Slot).
      steps_from step (fixed_of lon_var (steps_text 8) ∷ timed_of v_var ∷ []) slots) lat_step
      ∙ ap (λ found. found >>= λ (slots : List Slot). steps_from step (timed_of v_var ∷ []) slots) lon_step
      ∙ ap (λ found. found >>= λ (slots : List Slot). steps_from step [] slots) v_step

  since : (t : ℕ) → site.epoch ≡ pos 1577836800 → from_epoch site made_units (pos t) ≡ pos t
  since t is = ap (λ (epoch : ℤ). pos t +ℤ pos 1577836800 -ℤ epoch) is ∙ back t
    where
      back : (t : ℕ) → pos t +ℤ pos 1577836800 -ℤ pos 1577836800 ≡ pos t
      back t = omega (arith, ints)

  instant : (t : ℕ) → t < 10000000 → IsInstant (pos t)
  instant t small = record { low = omega (arith, ints, small); high = omega (arith, ints, small) }

  time_is : (j : ℕ) (t : ℤ) → k < 400 → site.epoch ≡ pos 1577836800 → slice_get (times_of k 65) j ≡ Some t
      → time_at site (made_file seed k) made_header time_var made_units j ≡ Ok t
  time_is j t few is there =
      let at = time_in k j t there in
      let small : time_of k j < 10000000 = (let below = at.0 in omega (arith, few, below)) in
      let same = since (time_of k j) is in
      time-accepted site (made_file seed k) made_header time_var made_units j (pos (time_of k j))
      (seconds-time seed k j few at.0) (subst IsInstant (sym same) (instant (time_of k j) small))
      ∙ ap Ok (same ∙ sym at.1)

  run_is : (name : List ℕ) → k < 400 → site.epoch ≡ pos 1577836800
      → mark_of name site.mark ≡ Some (pos (1577836800 + 21600 * k))
      → file_run site name (made_file seed k) made_header ≡ Ok (pos (21600 * k))
  run_is name few is marked =
      let same : pos (1577836800 + 21600 * k) -ℤ site.epoch ≡ pos (21600 * k) =
      ap (λ (epoch : ℤ). pos (1577836800 + 21600 * k) -ℤ epoch) is ∙ back k in
      run-accepted site name (made_file seed k) made_header (pos (1577836800 + 21600 * k)) no_reference marked
      (subst IsInstant (sym same) (instant (21600 * k) (omega (arith, few))))
      ∙ ap Ok same
    where
      back : (k : ℕ) → pos (1577836800 + 21600 * k) -ℤ pos 1577836800 ≡ pos (21600 * k)
      back k = omega (arith, ints)

  taken : (name : List ℕ) → k < 400 → site.epoch ≡ pos 1577836800
      → mark_of name site.mark ≡ Some (pos (1577836800 + 21600 * k))
      → load_of name (made_file seed k) (made_proto site) ≡ Ok (made_loaded name seed k)
  taken name few is marked =
      let long = length-times_of k 65 in
      file-accepted name (made_file seed k) (made_proto site) (made_loaded name seed k) (record {
        header = made_header;
        axis = time_var;
        units = made_units;
        header_is = header-accepted (made_file seed k) made_header (header_made seed k);
        axis_is = axis-accepted (made_proto site) made_header time_var named_time coordinate;
        units_is = units_are;
        run_is = run_is name few is marked;
        count_is = count-accepted made_header time_var (length (times_of k 65)) (sym long)
            (omega (arith, long)) (omega (arith, long));
        times_is = all_times-accepted site (made_file seed k) made_header time_var made_units (times_of k 65)
            (times_differ k) (λ (j : ℕ) (t : ℤ) there. time_is j t few is there);
        slots_is = slots_are;
        name_is = refl;
        content_is = refl;
      })

same_Ok : {A E : Type 0} (r : Result A E) (x y : A) → r ≡ Ok x → r ≡ Ok y → x ≡ y
same_Ok r x y first second = cc

-- a made file is loaded over the prototype of a made file
pub made_file_taken : (site : Site) (proto : Proto) (name : List ℕ) (seed k : ℕ) → k < 400
    → site.epoch ≡ pos 1577836800 → mark_of name site.mark ≡ Some (pos (1577836800 + 21600 * k))
    → proto_of (made_file seed 0) site ≡ Ok proto → load_of name (made_file seed k) proto ≡ Ok (made_loaded name seed k)
made_file_taken site proto name seed k few is marked made =
    subst (λ (p : Proto). load_of name (made_file seed k) p ≡ Ok (made_loaded name seed k))
    (same_Ok {E = ProtoFault} (proto_of (made_file seed 0) site) (made_proto site) proto
    (made_prototype site seed 0) made)
    (taken site seed k name few is marked)
