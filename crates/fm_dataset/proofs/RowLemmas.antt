-- The times of the rows of a collection are instants.
use Rattle.std.proofs.Common.{◌≡◌, ℕ, List, get_or, All, Some, subst}
use Rattle.std.specs.Prelude.{slice_get}
use Rattle.std.proofs.lemmas.List.Elements.{All-get_or}
use Rattle.std.proofs.lemmas.Option.{get_or_from_slice_get, slice_get_within}
use Rattle.fm_model.specs.declared.proto.Proto.{Proto}
use Rattle.fm_model.specs.declared.row.Row.{Row}
use Rattle.fm_model.specs.LoadTimes.{IsInstant}
use Rattle.fm_model.specs.Prototype.{IsSound}
use Rattle.fm_model.proofs.FitLemmas.{IsFit-from_Fits}
use Rattle.fm_dataset.specs.Kept.{HasInstants}
use Rattle.fm_dataset.specs.Rows.{AreRows, IsRowOf}

row_instants : (proto : Proto) (row : Row) → IsSound proto → IsRowOf proto row → HasInstants row
row_instants proto row sound is =
    let fit = IsFit-from_Fits row.file proto sound is.fits in
    let within = slice_get_within row.file.times row.index row.valid is.time_is in
    record {
      valid = subst IsInstant (get_or_from_slice_get row.file.times row.index row.valid row.valid is.time_is)
          (All-get_or IsInstant row.file.times row.index row.valid within fit.instants);
      run = subst IsInstant is.run_is fit.run;
    }

pub instants : (proto : Proto) (rows : List Row) → IsSound proto → AreRows proto rows → All HasInstants rows
instants proto rows sound are = λ k d below. row_instants proto (get_or rows k d) sound (are.each k d below)

-- those of the row at an index are
pub instants_at : (rows : List Row) (n : ℕ) (row : Row) → All HasInstants rows → slice_get rows n ≡ Some row
    → HasInstants row
instants_at rows n row all there =
    subst HasInstants (get_or_from_slice_get rows n row row there) (all n row (slice_get_within rows n row there))
