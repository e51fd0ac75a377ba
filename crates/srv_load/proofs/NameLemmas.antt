-- The moment in the name of a made file is its run time, and so no two of the names are equal.
use Rattle.std.proofs.Common.{◌≡◌, ◌≢◌, ℕ, ◌+◌, ◌*◌, ◌<◌, List, ◌++◌, length, Some, ℤ, pos, refl, sym, ap, ◌∙◌, arith, true}
use Rattle.std.specs.Prelude.{codes}
use Rattle.std.proofs.lemmas.Int.{ints}
use Rattle.jiff_core.specs.Calendar.{days_from_civil}
use Rattle.jiff_core.proofs.CalendarLemmas.{days_in_month_bounds}
use Rattle.jiff_core.proofs.SignedLemmas.{signed_arith}
use Rattle.nc_model.specs.Calendar.{moment_of, time_seconds, unix_seconds}
use Rattle.nc_model.specs.Instant.{HasFourDigitYear, instant_text_of, spelled_instant, text_of_day}
use Rattle.nc_model.specs.Stamp.{begins_in_form, mark_of, number_at, stamp_form, stamp_of}
use Rattle.tm_units.proofs.InstantLaws.{instant_of-instant_text_of, is_date-civil, is_time-below, moment_of-there, Written, Written-instant_of}
use Rattle.tm_units.proofs.InstantLemmas.{is_ascii_digit-digit, number_of-two_digits, number_of-four_digits}
use Rattle.srv_load.specs.Name.{as_stamp, made_name, run_time}

pub year-run_time : (k : ℕ) → k < 400 → HasFourDigitYear (run_time k)
year-run_time k few = (omega (arith, ints), omega (arith, ints))

pub length-instant_text : (t : ℤ) → length (instant_text_of t) ≡ 20
unfolding instant_text_of text_of_day
length-instant_text t = refl

in_form : (year month day hour minute second : ℕ) (rest : List ℕ)
    → begins_in_form stamp_form (as_stamp (spelled_instant year month day hour minute second) ++ rest) ≡ true
unfolding stamp_form
in_form year month day hour minute second rest = simp is_ascii_digit-digit

-- the fields of a stamp are read
stamp_read : (year month day hour minute second : ℕ) (rest : List ℕ) → year < 10000 → month < 100 → day < 100
    → hour < 100 → minute < 100
    → stamp_of (as_stamp (spelled_instant year month day hour minute second) ++ rest)
    ≡ moment_of year month day hour minute 0
unfolding stamp_of number_at
stamp_read year month day hour minute second rest y m d h n =
    rw (
      in_form year month day hour minute second rest,
      number_of-four_digits year y,
      number_of-two_digits month m,
      number_of-two_digits day d,
      number_of-two_digits hour h,
      number_of-two_digits minute n,
    ) refl

-- a moment of whole minutes has no seconds
whole_minutes : (day : ℤ) (hour minute second k : ℕ) → second < 60
    → unix_seconds day (pos (time_seconds hour minute second)) ≡ run_time k → second ≡ 0
whole_minutes day hour minute second k small is = omega (arith, signed_arith, is)

mark_of-stamp : (stamp rest : List ℕ)
    → mark_of (codes "load_" ++ stamp ++ rest) (codes "load_") ≡ stamp_of (stamp ++ rest)
unfolding mark_of
mark_of-stamp stamp rest = refl

-- the name of each file has its run time as its mark
pub mark_is : (k : ℕ) → k < 400 → mark_of (made_name k) (codes "load_") ≡ Some (run_time k)
unfolding made_name
mark_is k few =
    let t = run_time k in
    let w : Written (instant_text_of t) t =
    Written-instant_of (instant_text_of t) t (instant_of-instant_text_of t (year-run_time k few)) in
    let year_in = w.small in
    let month_in = w.is_civil.1 in
    let day_in = w.is_civil.2 in
    let long = days_in_month_bounds (pos w.year) w.month in
    let none : w.second ≡ 0 =
    whole_minutes (days_from_civil (pos w.year) w.month w.day) w.hour w.minute w.second k w.clock.2 w.instant_is in
    let hour : w.hour < 100 = omega (arith, w.clock.0) in
    let minute : w.minute < 100 = omega (arith, w.clock.1) in
    mark_of-stamp (as_stamp (instant_text_of t)) (codes ".nc")
    ∙ ap (λ (text : List ℕ). stamp_of (as_stamp text ++ codes ".nc")) w.text_is
    ∙ stamp_read w.year w.month w.day w.hour w.minute w.second (codes ".nc") (omega arith) (omega arith) (omega arith)
    hour minute
    ∙ moment_of-there w.year w.month w.day w.hour w.minute 0 (is_date-civil w.year w.month w.day w.small w.is_civil)
    (is_time-below w.hour w.minute 0 w.clock.0 w.clock.1 (omega arith))
    ∙ ap (λ (second : ℕ). Some (unix_seconds (days_from_civil (pos w.year) w.month w.day)
    (pos (time_seconds w.hour w.minute second)))) (sym none)
    ∙ ap Some w.instant_is

same_time : (i j : ℕ) → Some (run_time i) ≡ Some (run_time j) → 1577836800 + 21600 * i ≡ 1577836800 + 21600 * j
same_time i j is = cc

-- the names of two files differ
pub names_differ : (i j : ℕ) → i < 400 → j < 400 → i ≢ j → made_name i ≢ made_name j
names_differ i j first second apart same =
    let equal = same_time i j (sym (mark_is i first)
    ∙ ap (λ (name : List ℕ). mark_of name (codes "load_")) same ∙ mark_is j second) in
    absurd (apart (omega (arith, equal)))

pub ruleset names = (length-instant_text, year-run_time)

pub ruleset marks = (mark_is, names_differ)
