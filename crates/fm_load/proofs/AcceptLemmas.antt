-- Each step of loading accepts under stated facts.
use Rattle.std.proofs.Common.{◌≡◌, ◌≢◌, ℕ, suc, ◌+◌, ◌<◌, ◌≤◌, Bool, true, false, not, List, [], ◌∷◌, ◌++◌, length, get_or, Some, None, Result, Ok, ℤ, ◌-ℤ◌, refl, sym, ap, ap₂, subst, ◌∙◌, arith, append_assoc}
use Rattle.std.specs.Prelude.{AllPairs, ◌==◌, ◌&&◌, if◌then◌else◌, nat_eq, nat_lt, neg_ℤ, slice_get, slice_index}
use Rattle.std.specs.List.{common_prefix_len, list_any}
use Rattle.std.specs.Option.{ok_or}
use Rattle.std.specs.Ordering.{int_eq}
use Rattle.std.proofs.Math.ListN.{get_or-append}
use Rattle.std.proofs.Math.Seq.{get_or-append_seam}
use Rattle.std.proofs.lemmas.Bool.{ne_eqb}
use Rattle.std.proofs.lemmas.Bool.Decides.{Decides-int_eq, nat_tests}
use Rattle.std.proofs.lemmas.List.{append-nil, length-append}
use Rattle.std.proofs.lemmas.List.Folds.{list_any_none}
use Rattle.nc_model.specs.declared.header.Header.{Header as FileHeader}
use Rattle.nc_model.specs.declared.header.NcVar.{NcVar}
use Rattle.nc_model.specs.declared.units.Units.{Units as TimeUnits}
use Rattle.fm_base.specs.Chain.{◌>>=◌, ◌>>◌, fault_as, refuse_if}
use Rattle.nc_model.specs.Layout.{elements_of, size_at}
use Rattle.nc_model.specs.Sound.{sound_header}
use Rattle.nc_model.specs.Stamp.{mark_of}
use Rattle.fm_base.proofs.NumberLemmas.{test_at_most}
use Rattle.fm_model.specs.declared.limit.TheConstants.{MAX_INSTANT, MAX_TIMES}
use Rattle.fm_model.specs.declared.loaded.Loaded.{Loaded}
use Rattle.fm_model.specs.declared.loaded.LoadFault.{LoadFault}
use Rattle.fm_model.specs.declared.loaded.LoadFault.TheVariants.{GridDiffers, MissingVariable, NoRunTime, NoTimes, NotWhole, RunRange, TimeRange, TimeRepeated, TooManyTimes, VariableDiffers}
use Rattle.fm_model.specs.declared.proto.Proto.{Proto}
use Rattle.fm_model.specs.declared.proto.ProtoVar.{ProtoVar}
use Rattle.fm_model.specs.declared.site.Site.{Site}
use Rattle.fm_model.specs.Load.{load_of}
use Rattle.fm_model.specs.LoadAxis.{fault_of_load, file_axis, file_header, file_var}
use Rattle.fm_model.specs.LoadTimes.{file_run, file_times, from_epoch, is_instant, run_by, run_by_name, run_in_range, seconds_at, time_at, time_count, time_in_range, times_from, IsInstant}
use Rattle.fm_model.specs.LoadVars.{file_slot, is_like_fixed, is_like_timed, same_bytes, same_grid, slot_in}
use Rattle.fm_load.specs.Accepted.{IsAccepted}
use Rattle.fm_model.specs.Packing.{same_packing}
use Rattle.fm_model.specs.Variable.{dim_of_axis, is_coordinate, reference_of, var_named}
use Rattle.fm_model.proofs.LoadLemmas.{taken}

-- a sound header
pub header-accepted : (bytes : List ℕ) (header : FileHeader) → sound_header bytes ≡ Ok header
    → file_header bytes ≡ Ok header
unfolding file_header
header-accepted bytes header sound = ap (fault_as fault_of_load) sound

pub var-accepted : (header : FileHeader) (name : List ℕ) (var : NcVar) → var_named header name ≡ Some var
    → file_var header name ≡ Ok var
unfolding file_var
var-accepted header name var named = ap (λ found. ok_or found (MissingVariable name)) named

-- the axis with the prototype's name
pub axis-accepted : (proto : Proto) (header : FileHeader) (axis : NcVar) → var_named header proto.axis ≡ Some axis
    → is_coordinate header.dims axis.name axis.kind axis.dims ≡ true → file_axis proto header ≡ Ok axis
unfolding file_axis
axis-accepted proto header axis named coordinate =
    ap (λ found. found >>= λ (axis : NcVar). refuse_if (not (is_coordinate header.dims axis.name axis.kind axis.dims))
    (VariableDiffers proto.axis) >> Ok axis) (var-accepted header proto.axis axis named)
    ∙ ap (λ good. refuse_if (not good) (VariableDiffers proto.axis) >> Ok axis) coordinate

pub instant-accepted : (seconds : ℤ) → IsInstant seconds → is_instant seconds ≡ true
unfolding is_instant
instant-accepted seconds is =
    ap₂ ◌&&◌ (test_at_most (neg_ℤ MAX_INSTANT) seconds is.low) (test_at_most seconds MAX_INSTANT is.high)

run_in_range-accepted : (seconds : ℤ) → IsInstant seconds → run_in_range seconds ≡ Ok seconds
unfolding run_in_range
run_in_range-accepted seconds is =
    ap (λ good. refuse_if (not good) (RunRange seconds) >> Ok seconds) (instant-accepted seconds is)

-- the run by the mark of a name
pub run-accepted : (site : Site) (name bytes : List ℕ) (header : FileHeader) (moment : ℤ)
    → reference_of header ≡ None → mark_of name site.mark ≡ Some moment → IsInstant (moment -ℤ site.epoch)
    → file_run site name bytes header ≡ Ok (moment -ℤ site.epoch)
unfolding file_run run_by_name
run-accepted site name bytes header moment none marked is =
    ap (run_by site name bytes header) none
    ∙ ap (λ found. ok_or found NoRunTime >>= λ moment. run_in_range (moment -ℤ site.epoch)) marked
    ∙ run_in_range-accepted (moment -ℤ site.epoch) is

not_zero : (n : ℕ) → 0 < n → (n == 0) ≡ false
not_zero n some = ne_eqb n 0 (λ is. omega arith)

not_above : (n most : ℕ) → n ≤ most → nat_lt most n ≡ false
not_above n most few = grind (arith, nat_tests)

-- a count of times within the limit
pub count-accepted : (header : FileHeader) (axis : NcVar) (count : ℕ) → size_at header (dim_of_axis axis) ≡ count
    → 0 < count → count ≤ MAX_TIMES → time_count header axis ≡ Ok count
unfolding time_count
count-accepted header axis count is some few =
    ap (λ n. refuse_if (n == 0) NoTimes >> (refuse_if (nat_lt MAX_TIMES n) (TooManyTimes n) >> Ok n)) is
    ∙ ap₂ (λ none many. refuse_if none NoTimes >> (refuse_if many (TooManyTimes count) >> Ok count))
    (not_zero count some) (not_above count MAX_TIMES few)

-- a time that is an instant
pub time-accepted : (site : Site) (bytes : List ℕ) (header : FileHeader) (axis : NcVar) (units : TimeUnits) (k : ℕ)
    (seconds : ℤ) → seconds_at bytes header axis units (k ∷ []) ≡ Some seconds
    → IsInstant (from_epoch site units seconds)
    → time_at site bytes header axis units k ≡ Ok (from_epoch site units seconds)
unfolding time_at time_in_range
time-accepted site bytes header axis units k seconds whole is =
    ap (λ found. ok_or found (NotWhole k) >>= λ seconds. time_in_range k (from_epoch site units seconds)) whole
    ∙ ap (λ good. refuse_if (not good) (TimeRange k (from_epoch site units seconds))
    >> Ok (from_epoch site units seconds)) (instant-accepted (from_epoch site units seconds) is)

abbrev Apart : ℤ → ℤ → Type 0
Apart time other = time ≢ other

differs : (a b : ℤ) (same : Bool) → (same ≡ true → a ≡ b) → Apart a b → same ≡ false
differs a b true means apart = absurd (apart (means refl))
differs a b false means apart = refl

-- what differs from all that were found is new
new-accepted : (found : List ℤ) (time : ℤ) (more : List ℤ) → AllPairs Apart (found ++ time ∷ more)
    → list_any (λ earlier. int_eq earlier time) found ≡ false
new-accepted found time more pairs = list_any_none (λ earlier. int_eq earlier time) found (λ i d below.
    differs (get_or found i d) time (int_eq (get_or found i d) time)
    ((Decides-int_eq (get_or found i d) time).0)
    (subst (λ a. Apart a time) (get_or-append found (time ∷ more) d i below)
    (subst (Apart (get_or (found ++ time ∷ more) i d)) (get_or-append_seam found time more d)
    (pairs i (length found) d below (omega (arith, length-append found (time ∷ more)))))))

module _ (time : ℕ → Result ℤ LoadFault) where
  pub times-accepted : (found times : List ℤ) → AllPairs Apart (found ++ times)
      → ((k : ℕ) (t : ℤ) → slice_get times k ≡ Some t → time (length found + k) ≡ Ok t)
      → times_from time (length times) found ≡ Ok (found ++ times)
  unfolding times_from
  times-accepted found [] pairs each = ap Ok (sym (append-nil found))
  times-accepted found (t ∷ more) pairs each =
      let here : time (length found) ≡ Ok t = subst (λ n. time n ≡ Ok t) (omega arith) (each 0 t refl) in
      let joined : (found ++ t ∷ []) ++ more ≡ found ++ t ∷ more = append_assoc found (t ∷ []) more in
      let later : (k : ℕ) (s : ℤ) → slice_get more k ≡ Some s → time (length (found ++ t ∷ []) + k) ≡ Ok s =
      λ k s is. subst (λ n. time n ≡ Ok s) (omega (arith, length-append found (t ∷ []))) (each (suc k) s is) in
      ap (λ found_there. found_there >>= λ instant.
      refuse_if (list_any (λ earlier. int_eq earlier instant) found) (TimeRepeated (length found))
      >> times_from time (length more) (found ++ instant ∷ [])) here
      ∙ ap (λ twice. refuse_if twice (TimeRepeated (length found)) >> times_from time (length more) (found ++ t ∷ []))
      (new-accepted found t more pairs)
      ∙ times-accepted (found ++ t ∷ []) more (subst (AllPairs Apart) (sym joined) pairs) later
      ∙ ap Ok joined

-- times that are all instants and apart
pub all_times-accepted : (site : Site) (bytes : List ℕ) (header : FileHeader) (axis : NcVar) (units : TimeUnits)
    (times : List ℤ) → AllPairs Apart times
    → ((k : ℕ) (t : ℤ) → slice_get times k ≡ Some t → time_at site bytes header axis units k ≡ Ok t)
    → file_times site bytes header axis units (length times) ≡ Ok times
unfolding file_times
all_times-accepted site bytes header axis units times pairs each =
    times-accepted (time_at site bytes header axis units) [] times pairs
    (λ k t is. subst (λ n. time_at site bytes header axis units n ≡ Ok t) (omega arith) (each k t is))

-- a variable like that of the prototype has a slot
pub slot-accepted : (proto : Proto) (header : FileHeader) (axis : NcVar) (wanted : ProtoVar) (var : NcVar)
    → var_named header wanted.name ≡ Some var → is_like_timed proto header axis wanted var ≡ true
    → same_packing wanted var ≡ Ok tt → file_slot proto header axis wanted ≡ Ok (slot_in header axis var)
unfolding file_slot
slot-accepted proto header axis wanted var named like packed =
    ap (λ found. found >>= λ (var : NcVar). refuse_if (not (is_like_timed proto header axis wanted var))
    (VariableDiffers wanted.name) >> (same_packing wanted var >> Ok (slot_in header axis var)))
    (var-accepted header wanted.name var named)
    ∙ ap (λ good. refuse_if (not good) (VariableDiffers wanted.name)
    >> (same_packing wanted var >> Ok (slot_in header axis var))) like
    ∙ ap (λ check. check >> Ok (slot_in header axis var)) packed

nat_eq-same : (n : ℕ) → nat_eq n n ≡ true
nat_eq-same n = grind (arith, nat_tests)

all_common : (xs : List ℕ) → common_prefix_len nat_eq xs xs ≡ length xs
all_common [] = refl
all_common (x ∷ xs) =
    let more : 1 + common_prefix_len nat_eq xs xs ≡ length (x ∷ xs) = omega (arith, all_common xs) in
    ap (λ same. if same then 1 + common_prefix_len nat_eq xs xs else 0) (nat_eq-same x) ∙ more

not_below : (n : ℕ) → nat_lt n n ≡ false
not_below n = grind (arith, nat_tests)

bytes-accepted : (name bytes : List ℕ) → same_bytes name bytes bytes ≡ Ok tt
unfolding same_bytes
bytes-accepted name bytes =
    ap (λ index. refuse_if (nat_lt index (length bytes))
    (GridDiffers name index (slice_index bytes index) (slice_index bytes index))) (all_common bytes)
    ∙ ap (λ other. refuse_if other
    (GridDiffers name (length bytes) (slice_index bytes (length bytes)) (slice_index bytes (length bytes))))
    (not_below (length bytes))

-- a variable without time that is like that of the prototype, with the same bytes
pub grid-accepted : (proto : Proto) (bytes : List ℕ) (header : FileHeader) (wanted : ProtoVar) (var : NcVar)
    → var_named header wanted.name ≡ Some var → is_like_fixed proto header wanted var ≡ true
    → elements_of bytes header var ≡ wanted.fixed → same_grid proto bytes header wanted ≡ Ok tt
unfolding same_grid
grid-accepted proto bytes header wanted var named like same =
    ap (λ found. found >>= λ (var : NcVar). refuse_if (not (is_like_fixed proto header wanted var))
    (VariableDiffers wanted.name) >> same_bytes wanted.name wanted.fixed (elements_of bytes header var))
    (var-accepted header wanted.name var named)
    ∙ ap (λ good. refuse_if (not good) (VariableDiffers wanted.name)
    >> same_bytes wanted.name wanted.fixed (elements_of bytes header var)) like
    ∙ ap (same_bytes wanted.name wanted.fixed) same ∙ bytes-accepted wanted.name wanted.fixed

-- what the steps of loading give, one after the other, is what a file is taken for
pub file-accepted : (name bytes : List ℕ) (proto : Proto) (file : Loaded) → IsAccepted name bytes proto file
    → load_of name bytes proto ≡ Ok file
unfolding load_of
file-accepted name bytes proto file is =
    simp (is.header_is, is.axis_is, is.units_is, is.run_is, is.count_is, is.times_is, is.slots_is)
    (ap₂ (λ n b. Ok (taken n b file.run file.times file.slots)) (sym is.name_is) (sym is.content_is))
