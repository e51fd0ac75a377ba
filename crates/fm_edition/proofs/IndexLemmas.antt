-- What every edition keeps of its maps: at the start, and after an operation.
use Rattle.std.proofs.Common.{◌≡◌, Bool, true, false, cond, List, [], Option, None, ℤ, refl, subst, sym}
use Rattle.std.specs.Prelude.{All, Contains, filter}
use Rattle.std.specs.BTreeMap.{BTreeMap, IsOrdered}
use Rattle.std.specs.Ordering.{int_cmp, int_eq}
use Rattle.std.proofs.lemmas.List.Elements.{All-nil}
use Rattle.fm_model.specs.declared.full.Tally.{Tally}
use Rattle.fm_model.specs.declared.loaded.Loaded.{Loaded}
use Rattle.fm_model.specs.declared.op.Op.{Op}
use Rattle.fm_model.specs.declared.proto.Proto.{Proto}
use Rattle.fm_model.specs.Collection.{after_op, tally}
use Rattle.fm_model.specs.Site.{IsPrototype}
use Rattle.fm_model.proofs.Members.{in_filter}
use Rattle.fm_list.specs.declared.by.By.{By}
use Rattle.fm_list.specs.declared.by.By.TheVariants.{Run, Time, Name}
use Rattle.fm_list.specs.Change.{changed, gone, keeps, HasGone}
use Rattle.fm_edition.specs.declared.maps.index.Index.{Index}
use Rattle.fm_edition.specs.Held.{Held, held_after, IsEdition}
use Rattle.fm_list.specs.Selected.{part, selects}
use Rattle.fm_edition.specs.Indexes.{entries_of, in_page, instants, kept_rows, or_none, page_of, page_set, rows_at, shown_in, some_of, AreMaps, AreOrdered, AreParts, IsBest, IsIndexed, IsTimed, Pages}
use Rattle.fm_edition.specs.Log.{CanFollow}
use Rattle.fm_edition.specs.Steps.{HaveGone}
use Rattle.fm_edition.proofs.EditionLemmas.{times_are_sound, IsEdition-after, IsEdition-none}
use Rattle.fm_edition.proofs.PageLemmas.{or_none-some_of, AreParts-after}
use Rattle.fm_edition.proofs.PieceLemmas.{HasGone-some}
use Rattle.fm_edition.proofs.RowLemmas.{entries_timed}

-- pages without entries are those of no files
AreParts-none : (by : By) (pages : Pages) → pages.entries ≡ [] → IsOrdered int_cmp pages → AreParts by [] pages
unfolding shown_in part
AreParts-none by pages none ordered = record {
  ordered = record {
    numbers = ordered;
    each = rw none (All-nil (λ (page : BTreeMap ℤ (List Loaded)). IsOrdered int_cmp page));
  };
  shown = λ number key. rw none (nothing (int_eq (page_of key) number));
}
  where
    nothing : (a : Bool) → ◌≡◌ {A = Option (List Loaded)} None (cond a None None)
    nothing true = refl
    nothing false = refl

-- the maps of no files
pub AreMaps-none : (index : Index) → index.by_run.entries ≡ [] → IsOrdered int_cmp index.by_run
    → index.by_time.entries ≡ [] → IsOrdered int_cmp index.by_time
    → index.by_name.entries ≡ [] → IsOrdered int_cmp index.by_name
    → index.best.pages.entries ≡ [] → IsOrdered int_cmp index.best.pages
    → index.best.rows ≡ kept_rows index.best.pages.entries → AreMaps [] index
unfolding rows_at
AreMaps-none index no_run run_order no_time time_order no_name name_order no_rows row_order whole = record {
  of_runs = AreParts-none Run index.by_run no_run run_order;
  of_times = AreParts-none Time index.by_time no_time time_order;
  of_names = AreParts-none Name index.by_name no_name name_order;
  of_best = record {
    paged = record { ordered = row_order; shown = λ number. rw (no_rows, no_time) refl };
    whole = whole;
  };
}

-- what an edition without files keeps
pub IsIndexed-none : (proto : Proto) (count : Tally) (index : Index) → IsPrototype proto
    → count ≡ record { files = 0; rows = 0; size = 0 } → AreMaps [] index
    → IsIndexed (record { proto = proto; files = [] }) count index
unfolding tally
IsIndexed-none proto count index is none maps = record {
  sound = IsEdition-none proto is;
  counted = none;
  maps = maps;
}

parts_gone : (by : By) (files went : List Loaded) (op : Op) (key : ℤ) → went ≡ gone files op → (here : Bool)
    → HasGone went op (or_none (cond here (some_of (part by files key)) None))
unfolding part
parts_gone by files went op key is true =
    subst (HasGone went op) (sym (or_none-some_of (filter (selects by key) files)))
    (HasGone-some files (filter (selects by key) files) went op is
    (λ file held. (in_filter (selects by key) file files held).0))
parts_gone by files went op key is false = All-nil (λ (file : Loaded). keeps op file ≡ false → Contains went file)

-- what an operation takes out of the files by each instant is among what it takes out of all
pub HaveGone-parts : (by : By) (files went : List Loaded) (op : Op) (pages : Pages) → AreParts by files pages
    → went ≡ gone files op → HaveGone went op pages
unfolding shown_in
HaveGone-parts by files went op pages are is = λ number key.
    subst (λ o. HasGone went op (or_none o)) (sym (are.shown number key))
    (parts_gone by files went op key is (int_eq (page_of key) number))

-- pages that an operation was done to
pub record IsDone (by : By) (files : List Loaded) (op : Op) (pages next : Pages) : Type 0 where
  pub ordered : AreOrdered next
  pub set : (number key : ℤ) → in_page next number key
      ≡ page_set by (instants by (changed files op)) op (in_page pages) number key

-- the files by each valid time have it after an operation, too
pub entries_timed-after : (held : Held) (op : Op) (by_time next : Pages) → IsEdition held
    → CanFollow held.proto held.files op → AreParts Time held.files by_time → IsDone Time held.files op by_time next
    → All IsTimed (entries_of next)
entries_timed-after held op by_time next sound can are done = entries_timed (after_op held.files op) next
    (AreParts-after Time held.files op by_time next are done.ordered done.set)
    (times_are_sound held.proto (after_op held.files op) (IsEdition-after held op sound can).fit)

-- the maps after an operation
pub AreMaps-after : (files : List Loaded) (op : Op) (index next : Index) → AreMaps files index
    → IsDone Run files op index.by_run next.by_run → IsDone Time files op index.by_time next.by_time
    → IsDone Name files op index.by_name next.by_name → IsBest next.by_time next.best
    → AreMaps (after_op files op) next
AreMaps-after files op index next maps runs times names best = record {
  of_runs = AreParts-after Run files op index.by_run next.by_run maps.of_runs runs.ordered runs.set;
  of_times = AreParts-after Time files op index.by_time next.by_time maps.of_times times.ordered times.set;
  of_names = AreParts-after Name files op index.by_name next.by_name maps.of_names names.ordered names.set;
  of_best = best;
}

-- what an edition keeps after an operation
pub IsIndexed-after : (held : Held) (op : Op) (before count : Tally) (index next : Index) → IsIndexed held before index
    → CanFollow held.proto held.files op → count ≡ tally (after_op held.files op)
    → AreMaps (after_op held.files op) next → IsIndexed (held_after held op) count next
IsIndexed-after held op before count index next is can counted maps = record {
  sound = IsEdition-after held op is.sound can;
  counted = counted;
  maps = maps;
}
