-- All that holds of a file that fits, as one record.
use Rattle.std.proofs.Common.{◌≡◌}
use Rattle.fm_model.specs.declared.loaded.Loaded.{Loaded}
use Rattle.fm_model.specs.declared.proto.Proto.{Proto}
use Rattle.fm_model.specs.Load.{Fits}
use Rattle.fm_model.specs.LoadFacts.{IsFit}
use Rattle.fm_model.specs.Prototype.{IsSound}
use Rattle.fm_model.proofs.LoadLemmas.{IsTaken-load_of}
use Rattle.fm_model.proofs.SlotLemmas.{slots_count, slots_each}
use Rattle.fm_model.proofs.TimeLemmas.{some-times, few-times, times_differ, times_are_instants, run_is_instant}
use Rattle.fm_model.proofs.WithinLemmas.{slots_within}

-- a file that was loaded over a prototype has the facts of one that fits
pub IsFit-from_Fits : (file : Loaded) (proto : Proto) → IsSound proto → Fits file proto → IsFit file proto
IsFit-from_Fits file proto sound fits =
    let taken = IsTaken-load_of file.name file.content proto file fits in
    record {
      run = run_is_instant file proto fits;
      some = some-times file proto fits;
      few = few-times file proto fits;
      instants = times_are_instants file proto fits;
      differ = times_differ file proto fits;
      header = taken.header;
      axis = taken.axis;
      header_is = taken.header_is;
      axis_is = taken.axis_is;
      slots_count = slots_count file proto fits;
      slots = slots_each file proto taken.header taken.axis fits taken.header_is taken.axis_is;
      within = slots_within file proto sound fits;
    }
