-- The walk begins with the first of all runs. Where there is none, there is no valid time.
use Rattle.std.proofs.Common.{ap, subst, sym, ◌∙◌}
use Rattle.std.specs.Prelude.{map}
use Rattle.std.specs.List.{filter_map}
use Rattle.fm_model.proofs.Members.{All-from_each}
use Rattle.fm_list.specs.declared.by.By.TheVariants.{Time}
use Rattle.fm_edition.specs.Indexes.{best_of_entry, entries_of}
use Rattle.fm_edition.specs.Latest.{entry_of, AreRuns, IsPart}
use Rattle.fm_edition.proofs.EntryLemmas.{entry_files}
use Rattle.fm_edition.proofs.LatestLemmas.{left_runs, no_entries, none_left, AreRuns-pages}
use Rattle.fm_edition.proofs.RowLemmas.{entries_timed}
use Rattle.fm_edition.proofs.maps.best.early_rows.Goals as goal

pub rows_from-requires-clause-pages : goal.rows_from-requires-clause-pages
rows_from-requires-clause-pages c = c.requires.files.times.ordered

pub rows_from-requires-clause-timed : goal.rows_from-requires-clause-timed
rows_from-requires-clause-timed c =
    let one = c.requires.files in
    entries_timed one.held c.args.pages.now one.times one.sound

pub rows_from-requires-clause-leads : goal.rows_from-requires-clause-leads
rows_from-requires-clause-leads c =
    let one = c.requires.files in
    record {
      held = one.held;
      is = c.first_of-latest.ensures one.held (subst (AreRuns one.held)
          (left_runs c.as_slice.result.now c.own-item.result c.in-len1-up.len_at_least c.own-item.is)
          (AreRuns-pages one.held c.args.by_run.now c.as_slice.result.now one.runs one.sound
          (ap (map entry_of) c.as_slice.ensures ∙ c.in_ok-runs.ensures)));
      parts = All-from_each (IsPart one.held) (entries_of c.args.pages.now)
          (entry_files Time one.held c.args.pages.now one.times);
    }

pub returns : goal.returns
returns c =
    let none = no_entries c.args.by_run.now c.args.pages.now c.requires.files
    (sym c.in_ok-runs.ensures ∙ ap (map entry_of) (sym c.as_slice.ensures ∙ none_left c.as_slice.result.now
    c.in-empty.len_below)) in
    c.new.ensures ∙ sym (ap (filter_map (best_of_entry c.args.least)) none)
