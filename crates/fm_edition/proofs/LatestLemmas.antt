-- The last run that keeps a least offset is the best where it has a valid time.
use Rattle.std.proofs.Common.{◌≡◌, ℕ, ◌+◌, ◌-◌, ◌<◌, ◌≤◌, true, false, List, [], ◌∷◌, ◌++◌, drop, get_or, length, take, Option, Some, None, ℤ, ◌<ℤ◌, refl, sym, ap, subst, ◌∙◌, inl, arith}
use Rattle.std.specs.Prelude.{◌&&◌, All, Bool, is_some, map, option_and_then}
use Rattle.std.specs.Cmp.{signed_Decides}
use Rattle.std.specs.Map.{keys_of}
use Rattle.std.specs.Option.{option_map}
use Rattle.std.proofs.lemmas.Bool.{false≢true, true≢false}
use Rattle.std.proofs.lemmas.Int.{ints}
use Rattle.std.proofs.lemmas.List.{append_assoc, drop_all, drop_more, map-append, take_all, take-append-drop}
use Rattle.std.proofs.lemmas.List.Elements.{All-drop}
use Rattle.fm_model.specs.declared.loaded.Loaded.{Loaded}
use Rattle.fm_model.specs.Cell.{best, cell, has_least_offset, is_usable, runs_of, times_of}
use Rattle.fm_model.specs.Rising.{rising}
use Rattle.fm_model.specs.Rows.{best_row, row_at}
use Rattle.fm_model.proofs.InstantLemmas.{rises_runs_of}
use Rattle.fm_model.proofs.LastLemmas.{last_such-is}
use Rattle.fm_model.proofs.Members.{All-from_each, Each, Each-weaker, EachPair}
use Rattle.fm_model.proofs.RisingLemmas.{Above}
use Rattle.fm_list.specs.declared.by.By.TheVariants.{Run, Time}
use Rattle.fm_list.specs.Selected.{part, selects, AreSound}
use Rattle.fm_edition.specs.declared.maps.latest.Latest.{Latest}
use Rattle.fm_edition.specs.declared.maps.latest.RunFiles.{RunFiles}
use Rattle.fm_edition.specs.Indexes.{entries_of, instants, is_among, AreParts, Pages}
use Rattle.fm_edition.specs.Latest.{entry_of, runs_beside, AreOfOne, AreRuns, BeginLate, IsLatest, IsOfRun, IsPart, Leads, Stays}
use Rattle.fm_edition.proofs.ChangeLemmas.{one_of}
use Rattle.fm_edition.proofs.EntryLemmas.{entry_files}
use Rattle.fm_edition.proofs.KeyLemmas.{keys_are}
use Rattle.fm_edition.proofs.PartLemmas.{sound-part}
use Rattle.fm_edition.proofs.RowLemmas.{best_row-part, runs-from_pages}
use Rattle.fm_edition.proofs.RunLemmas.{cell-part_of_run}
use Rattle.fm_edition.proofs.WalkLemmas.{all_parts}

-- the later instants of a rising list rise
behind : (before : List ℤ) (run : ℤ) (later : List ℤ) → EachPair Above (before ++ run ∷ later) → EachPair Above later
behind [] run later rises = rises.1
behind (first ∷ before) run later rises = behind before run later rises.1

-- a later run doesn't keep the least offset either
later_late : (least : Option ℤ) (valid run other : ℤ) → has_least_offset least run valid ≡ false → run <ℤ other
    → has_least_offset least other valid ≡ false
unfolding has_least_offset
later_late None valid run other late after = absurd (true≢false late)
later_late (Some seconds) valid run other late after = grind (arith, ints, late, after)

all_late : (least : Option ℤ) (valid : ℤ) (runs : List ℤ) → EachPair Above runs → BeginLate least valid runs
    → Each (λ run. has_least_offset least run valid ≡ false) runs
all_late least valid [] rises late = tt
all_late least valid (run ∷ runs) rises late = (
  late,
  Each-weaker (Above run) (λ other. has_least_offset least other valid ≡ false)
      (λ other after. later_late least valid run other late after) runs rises.0,
)

not_usable : (held : List Loaded) (least : Option ℤ) (valid run : ℤ) → has_least_offset least run valid ≡ false
    → is_usable held valid least run ≡ false
unfolding is_usable
not_usable held least valid run late = rw late (neither (is_some (cell held run valid)))
  where
    neither : (b : Bool) → (b && false) ≡ false
    neither true = refl
    neither false = refl

usable : (held : List Loaded) (least : Option ℤ) (valid run : ℤ) (found : Loaded × ℕ)
    → cell held run valid ≡ Some found → has_least_offset least run valid ≡ true
    → is_usable held valid least run ≡ true
unfolding is_usable
usable held least valid run found is keeps = rw (is, keeps) refl

-- the files of an entry by runs are those of its run
abbrev IsEntry : List Loaded → ℤ × List Loaded → Type 0
IsEntry held entry = part Run held entry.0 ≡ entry.1

-- a run that keeps the least offset, where the next doesn't, is the best where it has the valid time
best-latest : (held : List Loaded) (latest : Latest) (least : Option ℤ) (valid : ℤ) (found : Loaded × ℕ)
    → IsLatest held latest → BeginLate least valid (runs_beside latest.later.now)
    → has_least_offset least latest.run valid ≡ true → cell held latest.run valid ≡ Some found
    → best held valid least ≡ Some latest.run
unfolding best
best-latest held latest least valid found is stops keeps there =
    let later = runs_beside latest.later.now in
    let rises = behind is.before latest.run later (subst (EachPair Above) is.runs (rises_runs_of held)) in
    rw is.runs (last_such-is (is_usable held valid least) is.before latest.run later
    (usable held least valid latest.run found there keeps)
    (Each-weaker (λ run. has_least_offset least run valid ≡ false) (λ run. is_usable held valid least run ≡ false)
    (λ run late. not_usable held least valid run late) later (all_late least valid later rises stops)))

-- and its row is that of the valid time
pub row-latest : (latest : Latest) (least : Option ℤ) (entry : ℤ × List Loaded) (found : Loaded × ℕ)
    → Leads latest (entry ∷ []) → BeginLate least entry.0 (runs_beside latest.later.now)
    → has_least_offset least latest.run entry.0 ≡ true → cell latest.files latest.run entry.0 ≡ Some found
    → best_row entry.1 least entry.0
    ≡ Some (record { valid = entry.0; run = latest.run; file = found.0; index = found.1 })
unfolding best_row row_at
row-latest latest least entry found leads stops keeps there =
    let held = leads.held in
    let valid = entry.0 in
    let own : cell held latest.run valid ≡ Some found =
    sym (cell-part_of_run held latest.run valid)
    ∙ ap (λ files. cell files latest.run valid) leads.is.own ∙ there in
    ap (λ files. best_row files least valid) (sym (leads.parts 0 entry (omega arith)))
    ∙ best_row-part held valid least
    ∙ ap (option_and_then (λ run. row_at held run valid)) (best-latest held latest least valid found leads.is stops
    keeps own)
    ∙ ap (option_map (λ (f : Loaded × ℕ). record { valid = valid; run = latest.run; file = f.0; index = f.1 })) own

-- the files of the run have sound times
pub sound-latest : (held : List Loaded) (latest : Latest) → IsLatest held latest → AreSound latest.files
sound-latest held latest is = subst AreSound is.own (sound-part Run held latest.run is.sound)

-- a run at an index, and those behind it
left_at : (runs : List RunFiles) (i : ℕ) (own : RunFiles) → i < length runs → own ≡ get_or runs i own
    → drop i runs ≡ own ∷ drop (i + 1) runs
left_at runs i own lt is = drop_more runs i own lt ∙ ap (λ o. o ∷ drop (i + 1) runs) (sym is)

-- a run at an index among the later ones is one of the same files, with its own and those behind it
pub record IsPassed (held : List Loaded) (own : RunFiles) (later : List RunFiles) : Type 0 where
  pub before : List ℤ
  pub runs : runs_of held ≡ before ++ own.run ∷ runs_beside later
  pub files : part Run held own.run ≡ own.files
  pub rest : All (IsOfRun held) later

pub passed_run : (held : List Loaded) (latest : Latest) (i count : ℕ) (own : RunFiles) → IsLatest held latest
    → i < length latest.later.now → count ≡ i + 1 → own ≡ get_or latest.later.now i own
    → IsPassed held own (drop count latest.later.now)
passed_run held latest i count own is lt next here =
    let later = latest.later.now in
    let rest = drop (i + 1) later in
    let front = latest.run ∷ runs_beside (take i later) in
    subst (λ n. IsPassed held own (drop n later)) (sym next) (record {
      before = is.before ++ front;
      runs = is.runs
          ∙ ap (λ l. is.before ++ latest.run ∷ runs_beside l) (sym (take-append-drop i later)
          ∙ ap (λ l. take i later ++ l) (left_at later i own lt here))
          ∙ ap (λ l. is.before ++ latest.run ∷ l) (map-append (λ (r : RunFiles). r.run) (take i later) (own ∷ rest))
          ∙ sym (append_assoc is.before front (own.run ∷ runs_beside rest));
      files = subst (IsOfRun held) (sym here) (is.rest i own lt);
      rest = All-drop (IsOfRun held) (i + 1) later is.rest;
    })

-- where no run is left, none is late
pub none_late : (least : Option ℤ) (valid : ℤ) (runs : List RunFiles) (i : ℕ) → length runs ≤ i
    → BeginLate least valid (runs_beside (drop i runs))
none_late least valid runs i past =
    subst (λ l. BeginLate least valid (runs_beside l)) (sym (drop_all i runs past)) tt

-- those that are left begin with a late one
pub first_late : (least : Option ℤ) (valid : ℤ) (runs : List RunFiles) (i : ℕ) (own : RunFiles) → i < length runs
    → own ≡ get_or runs i own → has_least_offset least own.run valid ≡ false
    → BeginLate least valid (runs_beside (drop i runs))
first_late least valid runs i own lt is late =
    subst (λ l. BeginLate least valid (runs_beside l)) (sym (left_at runs i own lt is)) late

keys_beside : (runs : List RunFiles) → keys_of (map entry_of runs) ≡ runs_beside runs
keys_beside [] = refl
keys_beside (own ∷ runs) = ap (λ l. own.run ∷ l) (keys_beside runs)

own_files : (held : List Loaded) (runs : List RunFiles) → Each (IsEntry held) (map entry_of runs)
    → Each (IsOfRun held) runs
own_files held [] each = tt
own_files held (own ∷ runs) each = (each.0, own_files held runs each.1)

-- the runs of all pages are those of the files that the pages are of
pub AreRuns-pages : (held : List Loaded) (by_run : Pages) (runs : List RunFiles) → AreParts Run held by_run
    → AreSound held → map entry_of runs ≡ entries_of by_run → AreRuns held runs
AreRuns-pages held by_run runs parts sound is = record {
  are = sym (runs-from_pages held by_run parts) ∙ ap keys_of (sym is) ∙ keys_beside runs;
  own = All-from_each (IsOfRun held) runs
      (own_files held runs (subst (Each (IsEntry held)) (sym is) (entry_files Run held by_run parts)));
  sound = sound;
}

-- what leads to some entries leads to the first of them, and to the others
pub leads_parts : (latest : Latest) (first others : List (ℤ × List Loaded)) → Leads latest (first ++ others)
    → Leads latest first × Leads latest others
leads_parts latest first others leads =
    let parts = all_parts (IsPart leads.held) first others leads.parts in (
      record { held = leads.held; is = leads.is; parts = parts.0 },
      record { held = leads.held; is = leads.is; parts = parts.1 },
    )

-- or to one of them
pub leads_one : (latest : Latest) (entries : List (ℤ × List Loaded)) (i : ℕ) (d : ℤ × List Loaded)
    → i < length entries → Leads latest entries → Leads latest (get_or entries i d ∷ [])
leads_one latest entries i d lt leads = record {
  held = leads.held;
  is = leads.is;
  parts = All-from_each (IsPart leads.held) (get_or entries i d ∷ []) (leads.parts i d lt, tt);
}

-- a run that went on leads to what it led to
pub leads_stays : (before after : Latest) (entries : List (ℤ × List Loaded)) → Stays before after
    → Leads before entries → Leads after entries
leads_stays before after entries stays leads = record {
  held = leads.held;
  is = stays leads.held leads.is;
  parts = leads.parts;
}

no_files : (held : List Loaded) → runs_of held ≡ [] → held ≡ []
unfolding instants selects
no_files [] none = refl
no_files (file ∷ files) none =
    let among = one_of Run (file ∷ files) file.run file (inl refl) ((signed_Decides file.run file.run).1 refl) in
    absurd (false≢true (ap (λ runs. is_among runs file.run) (sym none) ∙ among))

no_keys : (entries : List (ℤ × List Loaded)) → keys_of entries ≡ [] → entries ≡ []
no_keys [] none = refl
no_keys (entry ∷ entries) none = absurd cc

pub none_left : (left : List RunFiles) → length left < 1 → left ≡ []
none_left [] few = refl
none_left (own ∷ left) few = absurd (omega (arith, few))

-- the first of the runs that are left, and those behind it
pub left_runs : (left : List RunFiles) (own : RunFiles) → 1 ≤ length left → own ≡ get_or left 0 own
    → left ≡ own ∷ take (length left - 1) (drop 1 left)
left_runs [] own few is = absurd (omega (arith, few))
left_runs (first ∷ left) own few is =
    ap (λ l. l ∷ left) (sym is) ∙ ap (λ l. own ∷ l) (sym (take_all (length (first ∷ left) - 1) left (omega arith)))

-- where there is no run, there is no valid time
pub no_entries : (by_run by_time : Pages) → AreOfOne by_run by_time → entries_of by_run ≡ [] → entries_of by_time ≡ []
unfolding instants times_of rising
no_entries by_run by_time one none =
    let held : one.held ≡ [] = no_files one.held (sym (runs-from_pages one.held by_run one.runs) ∙ ap keys_of none) in
    no_keys (entries_of by_time) (keys_are Time one.held by_time one.times ∙ ap times_of held)
