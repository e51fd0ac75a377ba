-- What is known of a file that was taken: each step of loading.
use Rattle.std.proofs.Common.{◌≡◌, ℕ, List, Result, Ok, ℤ, refl, sym, ap, subst, ◌∙◌}
use Rattle.nc_model.specs.declared.header.Header.{Header as FileHeader}
use Rattle.nc_model.specs.declared.header.NcVar.{NcVar}
use Rattle.nc_model.specs.declared.units.Units.{Units as TimeUnits}
use Rattle.fm_model.specs.declared.loaded.Loaded.{Loaded}
use Rattle.fm_model.specs.declared.loaded.LoadFault.{LoadFault}
use Rattle.fm_model.specs.declared.loaded.Slot.{Slot}
use Rattle.fm_model.specs.declared.proto.Proto.{Proto}
use Rattle.fm_base.specs.Chain.{◌>>=◌}
use Rattle.fm_model.specs.Load.{load_of, Fits}
use Rattle.fm_model.specs.LoadAxis.{file_header, file_axis}
use Rattle.fm_model.specs.LoadTimes.{file_units, file_run, time_count, file_times}
use Rattle.fm_model.specs.LoadVars.{file_slots}
use Rattle.fm_base.proofs.ChainLemmas.{step_ok, same_Ok}

-- the steps by which a file was taken
pub record IsTaken (name bytes : List ℕ) (proto : Proto) (file : Loaded) : Type 0 where
  pub header : FileHeader
  pub axis : NcVar
  pub units : TimeUnits
  pub count : ℕ
  pub header_is : file_header bytes ≡ Ok header
  pub axis_is : file_axis proto header ≡ Ok axis
  pub units_is : file_units axis ≡ Ok units
  pub run_is : file_run proto.site name bytes header ≡ Ok file.run
  pub count_is : time_count header axis ≡ Ok count
  pub times_is : file_times proto.site bytes header axis units count ≡ Ok file.times
  pub slots_is : file_slots proto bytes header axis ≡ Ok file.slots
  pub name_is : file.name ≡ name
  pub content_is : file.content ≡ bytes

abbrev pub taken : List ℕ → List ℕ → ℤ → List ℤ → List Slot → Loaded
taken name bytes run times slots = record { name = name; run = run; times = times; content = bytes; slots = slots }

module _ (name bytes : List ℕ) (proto : Proto) where
  -- the remaining steps of loading after each step
  abbrev after_times : FileHeader → NcVar → ℤ → List ℤ → Result Loaded LoadFault
  after_times header axis run times = file_slots proto bytes header axis >>= λ slots. Ok
      (taken name bytes run times slots)

  abbrev after_count : FileHeader → NcVar → TimeUnits → ℤ → ℕ → Result Loaded LoadFault
  after_count header axis units run count =
      file_times proto.site bytes header axis units count >>= after_times header axis run

  abbrev after_run : FileHeader → NcVar → TimeUnits → ℤ → Result Loaded LoadFault
  after_run header axis units run = time_count header axis >>= after_count header axis units run

  abbrev after_units : FileHeader → NcVar → TimeUnits → Result Loaded LoadFault
  after_units header axis units = file_run proto.site name bytes header >>= after_run header axis units

  abbrev after_axis : FileHeader → NcVar → Result Loaded LoadFault
  after_axis header axis = file_units axis >>= after_units header axis

  abbrev after_header : FileHeader → Result Loaded LoadFault
  after_header header = file_axis proto header >>= after_axis header

  as_taken : (other file : Loaded) → ◌≡◌ {A = Result Loaded LoadFault} (Ok other) (Ok file)
      → IsTaken name bytes proto other → IsTaken name bytes proto file
  as_taken other file same t = subst (IsTaken name bytes proto) (same_Ok {E = LoadFault} other file same) t

  pub IsTaken-load_of : (file : Loaded) → load_of name bytes proto ≡ Ok file → IsTaken name bytes proto file
  unfolding load_of
  IsTaken-load_of file e =
      let header = step_ok (file_header bytes) after_header file e in
      let axis = step_ok (file_axis proto header.0) (after_axis header.0) file header.2 in
      let units = step_ok (file_units axis.0) (after_units header.0 axis.0) file axis.2 in
      let run = step_ok (file_run proto.site name bytes header.0) (after_run header.0 axis.0 units.0) file units.2 in
      let count = step_ok (time_count header.0 axis.0) (after_count header.0 axis.0 units.0 run.0) file run.2 in
      let times = step_ok (file_times proto.site bytes header.0 axis.0 units.0 count.0)
      (after_times header.0 axis.0 run.0) file count.2 in
      let slots = step_ok (file_slots proto bytes header.0 axis.0)
      (λ slots. Ok (taken name bytes run.0 times.0 slots)) file times.2 in
      as_taken (taken name bytes run.0 times.0 slots.0) file slots.2 (record {
        header = header.0;
        axis = axis.0;
        units = units.0;
        count = count.0;
        header_is = header.1;
        axis_is = axis.1;
        units_is = units.1;
        run_is = run.1;
        count_is = count.1;
        times_is = times.1;
        slots_is = slots.1;
        name_is = refl {a = name};
        content_is = refl {a = bytes};
      })

pub one_file : (name bytes : List ℕ) (proto : Proto) (file other : Loaded) → load_of name bytes proto ≡ Ok file
    → load_of name bytes proto ≡ Ok other → file ≡ other
one_file name bytes proto file other e d = same_Ok {E = LoadFault} file other (sym e ∙ d)

pub name-load_of : (name bytes : List ℕ) (proto : Proto) (file : Loaded) → load_of name bytes proto ≡ Ok file
    → file.name ≡ name
name-load_of name bytes proto file e = (IsTaken-load_of name bytes proto file e).name_is

pub content-load_of : (name bytes : List ℕ) (proto : Proto) (file : Loaded) → load_of name bytes proto ≡ Ok file
    → file.content ≡ bytes
content-load_of name bytes proto file e = (IsTaken-load_of name bytes proto file e).content_is

pub Fits-load_of : (name bytes : List ℕ) (proto : Proto) (file : Loaded) → load_of name bytes proto ≡ Ok file
    → Fits file proto
Fits-load_of name bytes proto file e =
    let t = IsTaken-load_of name bytes proto file e in
    ap (λ n. load_of n file.content proto) t.name_is ∙ ap (λ b. load_of name b proto) t.content_is ∙ e
