-- The times of a file that was taken.
use Rattle.std.proofs.Common.{None, ◌≡◌, ◌≢◌, ℕ, zero, suc, ◌+◌, ◌<◌, ◌≤◌, false, not, List, [], ◌∷◌, ◌++◌, length, Some, Result, Ok, ℤ, sym, ap, ap₂, subst, ◌∙◌, inl, inr, zero-add, arith}
use Rattle.std.specs.Prelude.{All, AllPairs, slice_get}
use Rattle.std.specs.List.{list_any}
use Rattle.std.specs.Ordering.{int_eq}
use Rattle.std.specs.Option.{ok_or}
use Rattle.std.specs.Result.{result_ok}
use Rattle.std.proofs.lemmas.Bool.{both_ways, cases_order, eqb-false, ltb-false}
use Rattle.std.proofs.lemmas.List.{length-append}
use Rattle.nc_model.specs.declared.header.Header.{Header as FileHeader}
use Rattle.nc_model.specs.declared.header.NcVar.{NcVar}
use Rattle.nc_model.specs.declared.units.Units.{Units as TimeUnits}
use Rattle.nc_model.specs.Layout.{size_at}
use Rattle.fm_model.specs.declared.limit.TheConstants.{MAX_TIMES}
use Rattle.fm_model.specs.declared.loaded.Loaded.{Loaded}
use Rattle.fm_model.specs.declared.loaded.LoadFault.{LoadFault}
use Rattle.fm_model.specs.declared.loaded.LoadFault.TheVariants.{NotWhole, TimeRange}
use Rattle.fm_model.specs.declared.proto.Proto.{Proto}
use Rattle.fm_model.specs.declared.site.Site.{Site}
use Rattle.fm_model.specs.Load.{Fits}
use Rattle.fm_model.specs.LoadAxis.{file_header, file_axis}
use Rattle.fm_model.specs.LoadTimes.{file_units, file_run, seconds_at, from_epoch, is_instant, time_count, time_at, times_from, file_times, IsInstant, run_by, run_by_variable, run_by_name, time_in_range}
use Rattle.fm_model.specs.Variable.{dim_of_axis, reference_of}
use Rattle.fm_model.proofs.CellLemmas.{in-has}
use Rattle.fm_base.proofs.ChainLemmas.{step_ok, refuse_if_ok, same_Ok}
use Rattle.fm_base.proofs.ListLemmas.{slice_get-append, slice_get-push}
use Rattle.fm_model.proofs.LoadLemmas.{IsTaken, IsTaken-load_of}
use Rattle.fm_model.proofs.Members.{In, Each, EachPair, Each-from_in, Each-push, EachPair-push, All-from_each, AllPairs-from_each}
use Rattle.fm_model.proofs.RunLemmas.{IsInstant-from_test, IsInstant-file_run}

-- the number of times
pub record IsCount (header : FileHeader) (axis : NcVar) (count : ℕ) : Type 0 where
  pub is : count ≡ size_at header (dim_of_axis axis)
  pub some : 0 < count
  pub few : count ≤ MAX_TIMES

IsCount-time_count : (header : FileHeader) (axis : NcVar) (count : ℕ) → time_count header axis ≡ Ok count
    → IsCount header axis count
unfolding time_count
IsCount-time_count header axis count e =
    let some = refuse_if_ok _ _ _ count e in
    let few = refuse_if_ok _ _ _ count some.1 in
    let is : size_at header (dim_of_axis axis) ≡ count = same_Ok {E = LoadFault} _ count few.1 in
    let apart : size_at header (dim_of_axis axis) ≡ 0 → ⊥ = eqb-false (size_at header (dim_of_axis axis)) 0 some.0 in
    record {
      is = sym is;
      some = subst (λ n. 0 < n) is (omega arith);
      few = subst (λ n. n ≤ MAX_TIMES) is
          (ltb-false MAX_TIMES (size_at header (dim_of_axis axis)) few.0);
    }

IsInstant-time_in_range : (k : ℕ) (seconds t : ℤ) → time_in_range k seconds ≡ Ok t → IsInstant t
unfolding time_in_range
IsInstant-time_in_range k seconds t e =
    let passed = refuse_if_ok (not (is_instant seconds)) (TimeRange k seconds) (Ok seconds) t e in
    subst IsInstant (same_Ok {E = LoadFault} seconds t passed.1) (IsInstant-from_test seconds passed.0)

IsInstant-time_at : (site : Site) (bytes : List ℕ) (header : FileHeader) (axis : NcVar) (units : TimeUnits) (k : ℕ)
    (t : ℤ) → time_at site bytes header axis units k ≡ Ok t → IsInstant t
unfolding time_at
IsInstant-time_at site bytes header axis units k t e =
    let seconds = step_ok (ok_or (seconds_at bytes header axis units (k ∷ [])) (NotWhole k))
    (λ s. time_in_range k (from_epoch site units s)) t e in
    IsInstant-time_in_range k (from_epoch site units seconds.0) t seconds.2

-- one more time was found
pub record IsNextTime (time : ℕ → Result ℤ LoadFault) (n : ℕ) (found all : List ℤ) : Type 0 where
  pub instant : ℤ
  pub time_is : time (length found) ≡ Ok instant
  pub new : list_any (λ earlier. int_eq earlier instant) found ≡ false
  pub more : times_from time n (found ++ instant ∷ []) ≡ Ok all

IsNextTime-times_from : (time : ℕ → Result ℤ LoadFault) (n : ℕ) (found all : List ℤ)
    → times_from time (suc n) found ≡ Ok all → IsNextTime time n found all
unfolding times_from
IsNextTime-times_from time n found all e =
    let next = step_ok (time (length found)) _ all e in
    let passed = refuse_if_ok _ _ _ all next.2 in
    record { instant = next.0; time_is = next.1; new = passed.0; more = passed.1 }

times_done : (time : ℕ → Result ℤ LoadFault) (found all : List ℤ) → times_from time 0 found ≡ Ok all → found ≡ all
unfolding times_from
times_done time found all e = same_Ok {E = LoadFault} found all e

length-times_from : (time : ℕ → Result ℤ LoadFault) (n : ℕ) (found all : List ℤ) → times_from time n found ≡ Ok all
    → length all ≡ length found + n
length-times_from time zero found all e = let same = ap length (times_done time found all e) in omega (arith, same)
length-times_from time (suc n) found all e =
    let next = IsNextTime-times_from time n found all e in
    let more = length-times_from time n (found ++ next.instant ∷ []) all next.more in
    omega (arith, more, length-append found (next.instant ∷ []))

abbrev Apart : ℤ → ℤ → Type 0
Apart a b = a ≢ b

new_differs : (found : List ℤ) (instant : ℤ) → list_any (λ earlier. int_eq earlier instant) found ≡ false
    → Each (λ earlier. Apart earlier instant) found
new_differs found instant new = Each-from_in _ found
    (λ earlier h same. both_ways _ new (in-has instant found (subst (λ t. In t found) same h)))

differ-times_from : (time : ℕ → Result ℤ LoadFault) (n : ℕ) (found all : List ℤ) → EachPair Apart found
    → times_from time n found ≡ Ok all → EachPair Apart all
differ-times_from time zero found all differ e = subst (EachPair Apart) (times_done time found all e) differ
differ-times_from time (suc n) found all differ e =
    let next = IsNextTime-times_from time n found all e in
    differ-times_from time n (found ++ next.instant ∷ []) all
    (EachPair-push Apart found next.instant differ (new_differs found next.instant next.new)) next.more

instants-times_from : (time : ℕ → Result ℤ LoadFault) → ((k : ℕ) (t : ℤ) → time k ≡ Ok t → IsInstant t)
    → (n : ℕ) (found all : List ℤ) → Each IsInstant found
    → times_from time n found ≡ Ok all → Each IsInstant all
instants-times_from time sound zero found all each e = subst (Each IsInstant) (times_done time found all e) each
instants-times_from time sound (suc n) found all each e =
    let next = IsNextTime-times_from time n found all e in
    instants-times_from time sound n (found ++ next.instant ∷ []) all
    (Each-push IsInstant found next.instant each (sound (length found) next.instant next.time_is)) next.more

-- those that were found stay in front
front-times_from : (time : ℕ → Result ℤ LoadFault) (n : ℕ) (found all : List ℤ) → times_from time n found ≡ Ok all
    → (k : ℕ) → k < length found → slice_get all k ≡ slice_get found k
front-times_from time zero found all e k lt = ap (λ (l : List ℤ). slice_get l k) (sym (times_done time found all e))
front-times_from time (suc n) found all e k lt =
    let next = IsNextTime-times_from time n found all e in
    front-times_from time n (found ++ next.instant ∷ []) all next.more k
    (omega (arith, length-append found (next.instant ∷ []))) ∙ slice_get-append found (next.instant ∷ []) k lt

each-times_from : (time : ℕ → Result ℤ LoadFault) (n : ℕ) (found all : List ℤ) → times_from time n found ≡ Ok all
    → (k : ℕ) → length found ≤ k → k < length all → slice_get all k ≡ result_ok (time k)
each-times_from time zero found all e k le lt = let same = ap length (times_done time found all e) in absurd
    (omega arith)
each-times_from time (suc n) found all e k le lt =
    let next = IsNextTime-times_from time n found all e in
    let longer = length-append found (next.instant ∷ []) in
    elim (cases_order k (length found)) [
      | inl same ↦
          let at_end : slice_get all (length found) ≡ Some next.instant = front-times_from time n
          (found ++ next.instant ∷ []) all next.more (length found) (omega (arith, longer))
          ∙ slice_get-push found next.instant in
          ap (slice_get all) same ∙ at_end ∙ ap result_ok (sym next.time_is) ∙ ap (λ j. result_ok (time j)) (sym same)
      | inr (inl below) ↦ absurd (omega arith)
      | inr (inr above) ↦ each-times_from time n (found ++ next.instant ∷ []) all next.more k (omega (arith, longer)) lt
    ]

-- the times of a file that fits
pub record HasTimes (file : Loaded) (proto : Proto) (header : FileHeader) (axis : NcVar)
    (units : TimeUnits) : Type 0 where
  pub count : length file.times ≡ size_at header (dim_of_axis axis)
  pub some : 0 < length file.times
  pub few : length file.times ≤ MAX_TIMES
  pub differ : EachPair Apart file.times
  pub instants : Each IsInstant file.times
  pub each : (k : ℕ) → k < length file.times
      → slice_get file.times k ≡ result_ok (time_at proto.site file.content header axis units k)

pub HasTimes-taken : (file : Loaded) (proto : Proto) (t : IsTaken file.name file.content proto file)
    → HasTimes file proto t.header t.axis t.units
unfolding file_times
HasTimes-taken file proto t =
    let count = IsCount-time_count t.header t.axis t.count t.count_is in
    let time : ℕ → Result ℤ LoadFault = time_at proto.site file.content t.header t.axis t.units in
    let all : times_from time t.count [] ≡ Ok file.times = t.times_is in
    let len : length file.times ≡ t.count = length-times_from time t.count [] file.times all ∙ zero-add t.count in
    record {
      count = len ∙ count.is;
      some = subst (λ n. 0 < n) (sym len) count.some;
      few = subst (λ n. n ≤ MAX_TIMES) (sym len) count.few;
      differ = differ-times_from time t.count [] file.times tt all;
      instants = instants-times_from time
          (IsInstant-time_at proto.site file.content t.header t.axis t.units) t.count [] file.times tt all;
      each = λ k lt. each-times_from time t.count [] file.times all k (omega arith) lt;
    }

fit : (file : Loaded) (proto : Proto) → Fits file proto → IsTaken file.name file.content proto file
fit file proto fits = IsTaken-load_of file.name file.content proto file fits

pub some-times : (file : Loaded) (proto : Proto) → Fits file proto → 0 < length file.times
some-times file proto fits = (HasTimes-taken file proto (fit file proto fits)).some

-- a file that fits has no more times than the limit
pub few-times : (file : Loaded) (proto : Proto) → Fits file proto → length file.times ≤ MAX_TIMES
few-times file proto fits = (HasTimes-taken file proto (fit file proto fits)).few

pub times_differ : (file : Loaded) (proto : Proto) → Fits file proto → AllPairs (λ (a b : ℤ). a ≢ b) file.times
times_differ file proto fits = AllPairs-from_each Apart file.times
    (HasTimes-taken file proto (fit file proto fits)).differ

-- each time of a file that fits is an instant
pub times_are_instants : (file : Loaded) (proto : Proto) → Fits file proto → All IsInstant file.times
times_are_instants file proto fits = All-from_each IsInstant file.times
    (HasTimes-taken file proto (fit file proto fits)).instants

pub run_is_instant : (file : Loaded) (proto : Proto) → Fits file proto → IsInstant file.run
run_is_instant file proto fits =
    let t = fit file proto fits in IsInstant-file_run proto.site file.name file.content t.header file.run t.run_is

same_header : (bytes : List ℕ) (header other : FileHeader) → file_header bytes ≡ Ok header
    → file_header bytes ≡ Ok other → header ≡ other
same_header bytes header other e d = same_Ok {E = LoadFault} header other (sym e ∙ d)

same_axis : (proto : Proto) (header other : FileHeader) (axis second : NcVar) → header ≡ other
    → file_axis proto header ≡ Ok axis → file_axis proto other ≡ Ok second → axis ≡ second
same_axis proto header other axis second same e d = same_Ok {E = LoadFault} axis second
    (sym e ∙ ap (file_axis proto) same ∙ d)

same_units : (axis other : NcVar) (units second : TimeUnits) → axis ≡ other → file_units axis ≡ Ok units
    → file_units other ≡ Ok second → units ≡ second
same_units axis other units second same e d = same_Ok {E = LoadFault} units second (sym e ∙ ap file_units same ∙ d)

pub times_count : (file : Loaded) (proto : Proto) (header : FileHeader) (axis : NcVar) → Fits file proto
    → file_header file.content ≡ Ok header → file_axis proto header ≡ Ok axis
    → length file.times ≡ size_at header (dim_of_axis axis)
times_count file proto header axis fits e d =
    let t = fit file proto fits in
    let h = same_header file.content t.header header t.header_is e in
    let a = same_axis proto t.header header t.axis axis h t.axis_is d in
    (HasTimes-taken file proto t).count ∙ ap₂ (λ (x : FileHeader) (y : NcVar). size_at x (dim_of_axis y)) h a

pub times_each : (file : Loaded) (proto : Proto) (header : FileHeader) (axis : NcVar) (units : TimeUnits) (k : ℕ)
    → Fits file proto → file_header file.content ≡ Ok header
    → file_axis proto header ≡ Ok axis → file_units axis ≡ Ok units → k < length file.times
    → slice_get file.times k ≡ result_ok (time_at proto.site file.content header axis units k)
times_each file proto header axis units k fits e d u lt =
    let t = fit file proto fits in
    let h = same_header file.content t.header header t.header_is e in
    let a = same_axis proto t.header header t.axis axis h t.axis_is d in
    let w = same_units t.axis axis t.units units a t.units_is u in
    (HasTimes-taken file proto t).each k lt
    ∙ ap₂ (λ (x : FileHeader) (y : NcVar). result_ok (time_at proto.site file.content x y t.units k)) h a
    ∙ ap (λ (v : TimeUnits). result_ok (time_at proto.site file.content header axis v k)) w

run_named : (file : Loaded) (proto : Proto) (header : FileHeader) → Fits file proto
    → file_header file.content ≡ Ok header
    → run_by proto.site file.name file.content header (reference_of header) ≡ Ok file.run
unfolding file_run
run_named file proto header fits e =
    let t = fit file proto fits in
    ap (λ (h : FileHeader). run_by proto.site file.name file.content h (reference_of h))
    (sym (same_header file.content t.header header t.header_is e)) ∙ t.run_is

pub run_of_variable : (file : Loaded) (proto : Proto) (header : FileHeader) (var : NcVar) → Fits file proto
    → file_header file.content ≡ Ok header → reference_of header ≡ Some var
    → run_by_variable proto.site file.content header var ≡ Ok file.run
run_of_variable file proto header var fits e is = ap (run_by proto.site file.name file.content header) (sym is)
    ∙ run_named file proto header fits e

pub run_of_name : (file : Loaded) (proto : Proto) (header : FileHeader) → Fits file proto
    → file_header file.content ≡ Ok header → reference_of header ≡ None
    → run_by_name proto.site file.name ≡ Ok file.run
run_of_name file proto header fits e is = ap (run_by proto.site file.name file.content header) (sym is)
    ∙ run_named file proto header fits e
