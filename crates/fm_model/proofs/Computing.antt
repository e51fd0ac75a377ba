-- What the check computes in worked examples: `unfolding(..::NAME)` opens all that NAME opens.
use Rattle.nc_model.specs.Calendar.{day_number, moment_of}
use Rattle.nc_model.specs.Format.{is_name_text, has_name, has_record_dim}
use Rattle.nc_model.specs.Layout.{element, elements_of, indices_of, offset_of, product, rank_in, vsize, record_size, first_too_large, first_outside, layout_fault}
use Rattle.fm_base.specs.Name.{is_name_byte}
use Rattle.nc_model.specs.Pattern.{finite, value_of_fields}
use Rattle.nc_model.specs.Reading.{names_record_dim, word, long_word, count, padded, name_at, kind_at, items_from, tag_at, list_count, list_at, dim_size, dim_at, attr_at, rank_at, dim_id_at, begin_at, var_at, version_at, numrecs_at, header_at, header_or_fault}
use Rattle.nc_model.specs.Sound.{sound_header}
use Rattle.nc_model.specs.Stamp.{stamp_form, stamp_of, mark_of}
use Rattle.nc_model.specs.Units.{is_proleptic, is_gregorian, is_before_gregorian, in_calendar, units_of}
use Rattle.nc_model.specs.UnitsReading.{end_at, byte_at, letter_at, many_at, some_at, digits_at, number_at, is_same_word, is_second, is_minute, is_hour, is_day, seconds_per, unit_at, day_at, dashed_day_at, joined_day_at, after_year_at, date_at, fraction_at, second_at, past_hour_at, time_of_day_at, colon_minute_at, zone_minute_at, shift_at, zone_after, distance_at, zone_at, last_zone_at, clock_at, after_date_at, units_at, written_or_fault}
use Rattle.fm_model.specs.Attribute.{attr_text, has_text, text_of, trimmed}
use Rattle.fm_model.specs.Cell.{best, cell, has_cell, has_least_offset, has_time, is_usable, index_of_time, runs_of, times_of, times_of_run}
use Rattle.fm_model.specs.Collection.{after_op, coll, kept_from, without}
use Rattle.fm_model.specs.Computed.{chars, is_utf8, encode_utf8, count_trailing_zeros, day_count, days_from_civil, days_of_months, days_of_years}
use Rattle.fm_model.specs.Load.{load_of}
use Rattle.fm_model.specs.LoadAxis.{file_header, file_var, file_axis}
use Rattle.fm_model.specs.LoadTimes.{file_units, seconds_at, is_instant, run_in_range, is_one_number, run_by_variable, run_by_name, file_run, time_count, time_in_range, time_at, times_from, file_times}
use Rattle.fm_model.specs.LoadVars.{is_like_timed, slot_in, file_slot, is_like_fixed, same_bytes, same_grid, is_compared, slots_after, steps_from, file_slots, slotted_vars}
use Rattle.fm_model.specs.Packing.{said_by, is_same_attr, have_same, same_attr, same_packing}
use Rattle.fm_model.specs.Prototype.{is_bounds, is_char_per_time, is_reference, kept_vars, proto_var, proto_with, dims_have_lengths, is_plain_name, names_are_free, names_are_plain, offset_name, run_name, time_stands_first, proto_header, proto_axis, proto_of}
use Rattle.fm_model.specs.Rising.{insert_once, rising}
use Rattle.fm_model.specs.Rows.{best_row, row_at, rows}
use Rattle.fm_model.specs.Variable.{axis_of, has_standard_name, is_axis, is_coordinate, is_named, reference_of, lies_along, stands_first_alone, var_named}

-- the layout of a file
unfoldable pub layouts : Unit {0}
unfolding
    element elements_of indices_of offset_of product rank_in vsize record_size first_too_large first_outside
    layout_fault names_record_dim
layouts = tt

-- the header of a file
unfoldable pub headers : Unit {0}
unfolding
    is_name_text has_name has_record_dim is_name_byte word long_word count padded name_at kind_at items_from tag_at
    list_count list_at dim_size dim_at attr_at rank_at dim_id_at begin_at var_at version_at numrecs_at header_at
    header_or_fault sound_header
headers = tt

-- attributes and their texts
unfoldable pub attributes : Unit {0}
unfolding
    attr_text has_text text_of trimmed chars is_utf8 encode_utf8
attributes = tt

-- variables and the axis of a file
unfoldable pub variables : Unit {0}
unfolding
    axis_of has_standard_name is_axis is_coordinate is_named reference_of lies_along stands_first_alone var_named
variables = tt

-- the prototype of a file
unfoldable pub prototypes : Unit {0}
unfolding
    is_bounds is_char_per_time is_reference kept_vars proto_var proto_with dims_have_lengths is_plain_name
    names_are_free names_are_plain offset_name run_name time_stands_first proto_header proto_axis proto_of
prototypes = tt

-- the mark in a name
unfoldable pub stamps : Unit {0}
unfolding
    finite value_of_fields Rattle.nc_model.specs.Stamp.number_at stamp_form stamp_of mark_of
stamps = tt

-- units and the instants of their numbers
unfoldable pub units : Unit {0}
unfolding
    day_number moment_of is_proleptic is_gregorian is_before_gregorian in_calendar units_of end_at byte_at letter_at
    many_at some_at digits_at number_at is_same_word is_second is_minute is_hour is_day seconds_per unit_at day_at
    dashed_day_at joined_day_at after_year_at date_at fraction_at second_at past_hour_at time_of_day_at colon_minute_at
    zone_minute_at distance_at shift_at zone_at zone_after last_zone_at clock_at after_date_at units_at
    written_or_fault count_trailing_zeros day_count days_from_civil days_of_months days_of_years
units = tt

-- a file that is loaded over a prototype
unfoldable pub loads : Unit {0}
unfolding
    load_of file_header file_var file_axis file_units seconds_at is_instant run_in_range is_one_number
    run_by_variable run_by_name file_run time_count time_in_range time_at times_from file_times is_like_timed
    slot_in file_slot is_like_fixed same_bytes same_grid is_compared slots_after steps_from file_slots slotted_vars
    said_by is_same_attr have_same same_attr same_packing
loads = tt

-- a collection after its operations
unfoldable pub collections : Unit {0}
unfolding
    after_op coll kept_from without
collections = tt

-- the rows of a view
unfoldable pub views : Unit {0}
unfolding
    best cell has_cell has_least_offset has_time is_usable index_of_time runs_of times_of times_of_run insert_once
    rising best_row row_at rows
views = tt
