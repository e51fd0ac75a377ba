-- Rows that keep a least offset are those of the best time series with it.
use Rattle.std.proofs.Common.{◌≡◌, true, false, List, [], ◌∷◌, Option, Some, None, ℤ, refl, sym, ap, ap₂, subst, ◌∙◌}
use Rattle.std.specs.Prelude.{is_some, option_and_then}
use Rattle.std.specs.List.{filter_map, cons_option}
use Rattle.std.proofs.lemmas.Bool.{true≢false}
use Rattle.fm_model.specs.declared.loaded.Loaded.{Loaded}
use Rattle.fm_model.specs.declared.row.Row.{Row}
use Rattle.fm_model.specs.Cell.{best, has_least_offset, HasTimeFrom}
use Rattle.fm_model.specs.Rows.{best_row, row_at}
use Rattle.fm_model.proofs.BestLemmas.{IsBest-from_best, best-from_IsBest, no_best_both, offset_from_test}
use Rattle.fm_model.proofs.Members.{All-from_each, Each, Each-weaker, each_from_All}
use Rattle.fm_model.proofs.RowLemmas.{IsBestRow-from_best_row}
use Rattle.fm_edition.specs.Indexes.{best_of_entry, kept_row}
use Rattle.fm_edition.specs.Least.{KeepLeast}
use Rattle.fm_edition.proofs.CountLemmas.{is_some-best_row}

-- where no run has a valid time, none has it late enough
best_none : (files : List Loaded) (valid : ℤ) (least : Option ℤ) → best files valid None ≡ None
    → best files valid least ≡ None
best_none files valid least none = (no_best_both files valid least).1
    (All-from_each (λ f. ¬ HasTimeFrom valid least f) files
    (Each-weaker (λ f. ¬ HasTimeFrom valid None f) (λ f. ¬ HasTimeFrom valid least f) (λ f lacks has. lacks (has.0, tt))
    files (each_from_All (λ f. ¬ HasTimeFrom valid None f) files ((no_best_both files valid None).0 none))))

-- a best run that keeps the least offset is the best with it
best_same : (files : List Loaded) (valid : ℤ) (least : Option ℤ) (run : ℤ) → best files valid None ≡ Some run
    → has_least_offset least run valid ≡ true → best files valid least ≡ Some run
best_same files valid least run is keeps =
    let found = IsBest-from_best files valid None run is in
    best-from_IsBest files valid least run (record {
      has = found.has;
      late = offset_from_test least run valid keeps;
      greatest = λ other any late. found.greatest other any tt;
    })

pub no_row : (files : List Loaded) (valid : ℤ) (least : Option ℤ) → best_row files None valid ≡ None
    → best_row files least valid ≡ None
unfolding best_row
no_row files valid least none =
    ap (option_and_then (λ run. row_at files run valid))
    (best_none files valid least (by_best (best files valid None) refl))
  where
    lacks : is_some (best files valid None) ≡ false
    lacks = sym (is_some-best_row files None valid) ∙ ap is_some none

    by_best : (o : Option ℤ) → best files valid None ≡ o → best files valid None ≡ None
    by_best None is = is
    by_best (Some run) is = absurd (true≢false (sym (ap is_some is) ∙ lacks))

pub same_row : (files : List Loaded) (valid : ℤ) (least : Option ℤ) (row : Row) → best_row files None valid ≡ Some row
    → has_least_offset least row.run row.valid ≡ true → best_row files least valid ≡ Some row
unfolding best_row
same_row files valid least row is keeps =
    let own = IsBestRow-from_best_row files None valid row is in
    let late = subst (λ v. has_least_offset least row.run v ≡ true) own.row_is.valid_is keeps in
    ap (option_and_then (λ run. row_at files run valid))
    (best_same files valid least row.run own.best_is late ∙ sym own.best_is) ∙ is

abbrev Keeps : Option ℤ → Row → Type 0
Keeps least row = has_least_offset least row.run row.valid ≡ true

rows_same : (least : Option ℤ) (entries : List (ℤ × List Loaded)) → Each (Keeps least) (filter_map kept_row entries)
    → filter_map (best_of_entry least) entries ≡ filter_map kept_row entries
rows_same least [] each = refl
rows_same least (entry ∷ entries) each = by_row (best_row entry.1 None entry.0) refl each (rows_same least entries)
  where
    by_row : (o : Option Row) → best_row entry.1 None entry.0 ≡ o
        → Each (Keeps least) (cons_option (best_row entry.1 None entry.0) (filter_map kept_row entries))
        → (Each (Keeps least) (filter_map kept_row entries)
        → filter_map (best_of_entry least) entries ≡ filter_map kept_row entries)
        → filter_map (best_of_entry least) (entry ∷ entries) ≡ filter_map kept_row (entry ∷ entries)
    by_row None is each more =
        let rest : Each (Keeps least) (filter_map kept_row entries) = rw is at each in
        ap₂ (λ (o : Option Row) (l : List Row). cons_option o l) (no_row entry.1 entry.0 least is ∙ sym is) (more rest)
    by_row (Some row) is each more =
        let all : Each (Keeps least) (row ∷ filter_map kept_row entries) = rw is at each in
        ap₂ (λ (o : Option Row) (l : List Row). cons_option o l)
        (same_row entry.1 entry.0 least row is all.0 ∙ sym is) (more all.1)

-- the rows of some valid times that keep a least offset
pub from_kept : (least : Option ℤ) (entries : List (ℤ × List Loaded)) → KeepLeast least (filter_map kept_row entries)
    → filter_map kept_row entries ≡ filter_map (best_of_entry least) entries
from_kept least entries keep = sym (rows_same least entries (each_from_All (Keeps least) (filter_map kept_row entries)
    keep))
