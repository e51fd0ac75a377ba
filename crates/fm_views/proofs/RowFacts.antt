-- The rows of a view of an edition are rows that a dataset may have.
use Rattle.std.proofs.Common.{◌≡◌, ◌≢◌, ℕ, ◌<◌, ◌≤◌, List, [], ◌∷◌, length, refl, subst, inl, inr, arith}
use Rattle.std.specs.Prelude.{Ok, Err, sum_by}
use Rattle.std.proofs.lemmas.List.Sums.{sum_by-cons}
use Rattle.fm_model.specs.declared.loaded.Loaded.{Loaded}
use Rattle.fm_model.specs.declared.row.Row.{Row}
use Rattle.fm_model.specs.declared.row.ViewName.{ViewName}
use Rattle.fm_model.specs.Load.{Fits}
use Rattle.fm_model.specs.Rows.{rows}
use Rattle.fm_model.proofs.Members.{In, in_from_Contains, Contains-from_in, Each-in, Each-from_in, All-from_each, each_from_All}
use Rattle.fm_model.proofs.RowLemmas.{HasHeldFile-rows}
use Rattle.fm_edition.specs.Held.{Held, IsEdition}
use Rattle.fm_edition.proofs.TallyLemmas.{bounds}
use Rattle.fm_dataset.specs.Rows.{AreRows, IsRowOf}
use Rattle.fm_views.specs.View.{some_shown, shown_or_none}
use Rattle.fm_views.proofs.RowCounts.{few_rows}

-- a file among some is no larger than all of them
size_of_one : (files : List Loaded) (file : Loaded) → In file files
    → length file.content ≤ sum_by (λ (f : Loaded). length f.content) files
size_of_one [] file held = absurd held
size_of_one (first ∷ files) file (inl same) =
    let size = λ (f : Loaded). length f.content in
    let whole = sum_by-cons size first files in
    subst (λ (f : Loaded). size f ≤ sum_by size (first ∷ files)) same (omega (arith, whole))
size_of_one (first ∷ files) file (inr held) =
    let size = λ (f : Loaded). length f.content in
    omega (arith, sum_by-cons size first files, size_of_one files file held)

row_of_edition : (held : Held) (view : ViewName) → IsEdition held → (row : Row) → In row (rows held.files view)
    → IsRowOf held.proto row
row_of_edition held view edition row is_there =
    let has = HasHeldFile-rows held.files view row (Contains-from_in row (rows held.files view) is_there) in
    let file_there = in_from_Contains row.file held.files has.held in
    record {
      fits = Each-in (λ file. Fits file held.proto) row.file held.files
          (each_from_All (λ file. Fits file held.proto) held.files edition.fit) file_there;
      small = omega (arith, size_of_one held.files row.file file_there, (bounds held.files edition.within).size);
      run_is = has.run_is;
      time_is = has.time_is;
    }

some_rows : (list : List Row) → list ≢ [] → 0 < length list
some_rows [] some = absurd (some refl)
some_rows (row ∷ others) some = omega arith

pub are_rows : (held : Held) (view : ViewName) → IsEdition held → rows held.files view ≢ []
    → AreRows held.proto (rows held.files view)
are_rows held view edition some = record {
  some = some_rows (rows held.files view) some;
  few = few_rows held.files view (bounds held.files edition.within);
  each = All-from_each (IsRowOf held.proto) (rows held.files view)
      (Each-from_in (IsRowOf held.proto) (rows held.files view) (row_of_edition held view edition));
}

-- what is shown of a view without rows, and of one with some
pub shown-none : (held : Held) (view : ViewName) (label : List ℕ) → rows held.files view ≡ []
    → shown_or_none held view label ≡ Err (record {})
unfolding shown_or_none
shown-none held view label none = rw none refl

-- a view with rows is shown
pub shown-some : (held : Held) (view : ViewName) (label : List ℕ) → rows held.files view ≢ []
    → shown_or_none held view label
    ≡ Ok (record { proto = held.proto; rows = rows held.files view; view = view; label = label })
unfolding shown_or_none
shown-some held view label some = by_rows (rows held.files view) some
  where
    by_rows : (list : List Row) → list ≢ [] → some_shown held.proto list view label
        ≡ Ok (record { proto = held.proto; rows = list; view = view; label = label })
    by_rows [] some = absurd (some refl)
    by_rows (row ∷ others) some = refl

pub ruleset shown_rows = (are_rows, shown-none, shown-some)
