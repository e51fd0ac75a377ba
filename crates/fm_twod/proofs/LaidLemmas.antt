-- A collection with a cell, as it is laid out.
use Rattle.std.proofs.Common.{◌≡◌, ◌≢◌, ℕ, ◌+◌, ◌<◌, ◌≤◌, Bool, true, false, cond, List, [], ◌∷◌, ◌++◌, length, map, Ok, Err, ℤ, inl, inr, refl, sym, ap, ap₂, subst, ◌∙◌, arith}
use Rattle.std.specs.Prelude.{int_lt}
use Rattle.std.specs.List.{flat_map}
use Rattle.std.specs.Ordering.{int_eq}
use Rattle.std.proofs.lemmas.Int.{ints}
use Rattle.std.proofs.lemmas.List.{length-append, length-map, map-append}
use Rattle.fm_model.specs.declared.loaded.Loaded.{Loaded}
use Rattle.fm_model.specs.declared.proto.Proto.{Proto}
use Rattle.fm_model.specs.declared.row.Row.{Row}
use Rattle.fm_model.specs.declared.row.ViewName.TheVariants.{Best, Run}
use Rattle.fm_model.specs.Cell.{runs_of}
use Rattle.fm_model.specs.Load.{Fits}
use Rattle.fm_model.specs.LoadTimes.{IsInstant}
use Rattle.fm_model.specs.Rising.{insert_once, rising}
use Rattle.fm_model.proofs.Members.{All-from_each, Each, Each-from_in, Each-in, Each-weaker, each_from_All, In, in_flat_map, in_map}
use Rattle.fm_model.proofs.RisingLemmas.{in_rising}
use Rattle.fm_model.proofs.TimeLemmas.{run_is_instant}
use Rattle.fm_edition.specs.Held.{Held, IsEdition}
use Rattle.fm_edition.proofs.CountLemmas.{length-rising}
use Rattle.fm_edition.proofs.TallyLemmas.{bounds}
use Rattle.dap_model.specs.declared.declaration.Decl.{Decl}
use Rattle.fm_dataset.specs.Kept.{HasInstants}
use Rattle.fm_dataset.specs.Rows.{AreRows, IsRowOf}
use Rattle.fm_dataset.specs.Values.{offset_time, Shown}
use Rattle.fm_views.proofs.RowFacts.{are_rows}
use Rattle.dap_reply.specs.declared.fault.DapFault.TheVariants.{NoRows}
use Rattle.fm_twod.specs.declared.cells.RunCells.{RunCells}
use Rattle.fm_twod.specs.Asked.{laid_with, some_laid}
use Rattle.fm_twod.specs.Cells.{cells_of, offsets_of, rows_of_runs, run_rows, runs_from}
use Rattle.fm_twod.specs.Laid.{decls_in, end_of, laid_of, IsGrid, IsShort, Laid}
use Rattle.fm_twod.proofs.CellLemmas.{run-times}
use Rattle.fm_twod.proofs.CountLemmas.{cells-few, length-runs_of}

-- ---- the rows

some-rows : (list : List Row) → list ≢ [] → 0 < length list
some-rows [] some = absurd (some refl)
some-rows (row ∷ others) some = omega arith

-- a row of a run is one of the prototype's collection
row-of-run : (held : Held) (run : ℤ) → IsEdition held → (row : Row) → In row (run_rows held.files run)
    → IsRowOf held.proto row
row-of-run held run edition row there = by_rows (run_rows held.files run) refl there
  where
    by_rows : (list : List Row) → run_rows held.files run ≡ list → In row list → IsRowOf held.proto row
    by_rows [] is there = absurd there
    by_rows (first ∷ others) is there =
        let some : run_rows held.files run ≢ [] = λ none. omega (arith, ap length is, ap length none) in
        let each = each_from_All (IsRowOf held.proto) (run_rows held.files run)
        (are_rows held (Run run) edition some).each in
        Each-in (IsRowOf held.proto) row (first ∷ others) (subst (Each (IsRowOf held.proto)) is each) there

pub cells-rows : (held : Held) → IsEdition held → cells_of held.files ≢ [] → AreRows held.proto (cells_of held.files)
unfolding cells_of
cells-rows held edition some = record {
  some = some-rows (cells_of held.files) some;
  few = omega (arith, cells-few held.files, (bounds held.files edition.within).rows);
  each = All-from_each (IsRowOf held.proto) (cells_of held.files)
      (Each-from_in (IsRowOf held.proto) (cells_of held.files) (λ row there.
      let found = in_flat_map (run_rows held.files) row (runs_of held.files) there in
      row-of-run held found.0 edition row found.2));
}

-- the dataset of all cells
pub all-rows : (held : Held) (rows : List Row) → IsEdition held → rows ≡ cells_of held.files → rows ≢ []
    → AreRows held.proto rows
all-rows held rows edition is some =
    subst (AreRows held.proto) (sym is) (cells-rows held edition (λ none. some (is ∙ none)))

pub cells-shown : (proto : Proto) (files : List Loaded)
    → (laid_of proto files).cells ≡ record { proto = proto; rows = cells_of files; view = Best; label = [] }
unfolding laid_of
cells-shown proto files = refl

pub ruleset all_rows = (all-rows, cells-shown)

-- ---- the runs

pub length-runs_from : (files : List Loaded) (first : ℕ) (runs : List ℤ)
    → length (runs_from files first runs) ≡ length runs
unfolding runs_from
length-runs_from files first [] = refl
length-runs_from files first (run ∷ runs) =
    omega (arith, length-runs_from files (first + length (run_rows files run)) runs)

-- each ends before the last row
ends-within : (files : List Loaded) (first : ℕ) (runs : List ℤ)
    → Each (λ (cells : RunCells). end_of cells ≤ first + length (rows_of_runs files runs)) (runs_from files first runs)
unfolding runs_from
ends-within files first [] = tt
ends-within files first (run ∷ runs) =
    let here : List Row = run_rows files run in
    let all : length (here ++ rows_of_runs files runs) ≡ length here + length (rows_of_runs files runs) =
    length-append here (rows_of_runs files runs) in
    let own : length (map offset_time here) ≡ length here = length-map here offset_time in (
      omega (arith, all, own),
      Each-weaker
          (λ (cells : RunCells). end_of cells ≤ first + length here + length (rows_of_runs files runs))
          (λ (cells : RunCells). end_of cells ≤ first + length (here ++ rows_of_runs files runs))
          (λ cells ends. omega (arith, all, ends))
          (runs_from files (first + length here) runs) (ends-within files (first + length here) runs),
    )

-- an instant, and the difference of two, fit 32 bits
short-instant : (seconds : ℤ) → IsInstant seconds → IsShort seconds
short-instant seconds is = record { low = omega (arith, ints, is.low); high = omega (arith, ints, is.high) }

short-offset : (row : Row) → HasInstants row → IsShort (offset_time row)
short-offset row has = record {
  low = omega (arith, ints, has.valid.low, has.run.high);
  high = omega (arith, ints, has.valid.high, has.run.low);
}

-- the runs are short
run-short : (held : Held) → IsEdition held → (run : ℤ) → In run (runs_of held.files) → IsShort run
unfolding runs_of
run-short held edition run there =
    let found = in_map (λ (f : Loaded). f.run) run held.files
    (in_rising run (map (λ (f : Loaded). f.run) held.files) there) in
    let fits = Each-in (λ (f : Loaded). Fits f held.proto) found.0 held.files
    (each_from_All (λ (f : Loaded). Fits f held.proto) held.files edition.fit) found.1 in
    subst IsShort found.2 (short-instant found.0.run (run_is_instant found.0 held.proto fits))

runs-short : (files : List Loaded) (first : ℕ) (runs : List ℤ) → ((run : ℤ) → In run runs → IsShort run)
    → Each (λ (cells : RunCells). IsShort cells.run) (runs_from files first runs)
unfolding runs_from
runs-short files first [] short = tt
runs-short files first (run ∷ runs) short = (
  short run (inl refl),
  runs-short files (first + length (run_rows files run)) runs (λ other there. short other (inr there)),
)

-- and so are the offsets
offsets-short : (rows : List Row) → Each HasInstants rows → Each IsShort (map offset_time rows)
offsets-short [] each = tt
offsets-short (row ∷ rows) each = (short-offset row each.0, offsets-short rows each.1)

cells-short : (held : Held) → IsEdition held → (first : ℕ) (runs : List ℤ)
    → Each (λ (cells : RunCells). Each IsShort cells.offsets) (runs_from held.files first runs)
unfolding runs_from
cells-short held edition first [] = tt
cells-short held edition first (run ∷ runs) = (
  offsets-short (run_rows held.files run)
      (each_from_All HasInstants (run_rows held.files run) (run-times held run edition)),
  cells-short held edition (first + length (run_rows held.files run)) runs,
)

all-short : (runs : List RunCells) → Each (λ (cells : RunCells). Each IsShort cells.offsets) runs
    → Each IsShort (offsets_of runs)
unfolding offsets_of
all-short runs each =
    Each-from_in IsShort (rising (flat_map (λ (cells : RunCells). cells.offsets) runs)) (λ offset there.
    let found = in_flat_map (λ (cells : RunCells). cells.offsets) offset runs
    (in_rising offset (flat_map (λ (cells : RunCells). cells.offsets) runs) there) in
    Each-in IsShort offset found.0.offsets
    (Each-in (λ (cells : RunCells). Each IsShort cells.offsets) found.0 runs each found.1) found.2)

-- ---- how many there are

-- the offsets of all runs are those of all rows
pub offsets-all : (files : List Loaded) (first : ℕ) (runs : List ℤ)
    → flat_map (λ (cells : RunCells). cells.offsets) (runs_from files first runs)
    ≡ map offset_time (rows_of_runs files runs)
unfolding runs_from
offsets-all files first [] = refl
offsets-all files first (run ∷ runs) =
    ap (λ (l : List ℤ). map offset_time (run_rows files run) ++ l)
    (offsets-all files (first + length (run_rows files run)) runs)
    ∙ sym (map-append offset_time (run_rows files run) (rows_of_runs files runs))

some-inserted : (instant : ℤ) (instants : List ℤ) → 0 < length (insert_once instant instants)
unfolding insert_once
some-inserted instant [] = omega arith
some-inserted instant (first ∷ more) = by_tests (int_eq instant first) (int_lt instant first)
  where
    by_tests : (same before : Bool) → 0 < length (cond same (first ∷ more)
        (cond before (instant ∷ first ∷ more) (first ∷ insert_once instant more)))
    by_tests true before = omega arith
    by_tests false true = omega arith
    by_tests false false = omega arith

some-rising : (instants : List ℤ) → 0 < length instants → 0 < length (rising instants)
unfolding rising
some-rising [] some = absurd (omega (arith, some))
some-rising (instant ∷ more) some = some-inserted instant (rising more)

length-offsets : (files : List Loaded) (runs : List ℤ)
    → length (flat_map (λ (cells : RunCells). cells.offsets) (runs_from files 0 runs))
    ≡ length (rows_of_runs files runs)
length-offsets files runs =
    ap length (offsets-all files 0 runs) ∙ length-map (rows_of_runs files runs) offset_time

some-offsets : (files : List Loaded) (runs : List ℤ) → 0 < length (rows_of_runs files runs)
    → 0 < length (offsets_of (runs_from files 0 runs))
unfolding offsets_of
some-offsets files runs some =
    some-rising (flat_map (λ (cells : RunCells). cells.offsets) (runs_from files 0 runs))
    (omega (arith, some, length-offsets files runs))

few-offsets : (files : List Loaded) (runs : List ℤ)
    → length (offsets_of (runs_from files 0 runs)) ≤ length (rows_of_runs files runs)
unfolding offsets_of
few-offsets files runs = omega (
  arith,
  length-rising (flat_map (λ (cells : RunCells). cells.offsets) (runs_from files 0 runs)),
  length-offsets files runs,
)

some-runs : (files : List Loaded) (runs : List ℤ) → 0 < length (rows_of_runs files runs) → 0 < length runs
some-runs files [] some = absurd (omega (arith, some))
some-runs files (run ∷ runs) some = omega arith

-- ---- the whole

pub laid-grid : (held : Held) (decls : List Decl) → IsEdition held → cells_of held.files ≢ []
    → decls ≡ decls_in (laid_of held.proto held.files) → IsGrid (laid_of held.proto held.files) decls
unfolding laid_of cells_of
laid-grid held decls edition some is =
    let files = held.files in
    let runs : List ℤ = runs_of files in
    let limits = bounds files edition.within in
    let rows_are = cells-rows held edition some in
    let count = length-runs_from files 0 runs in
    let has = some-rows (cells_of files) some in
    record {
      given = edition.prototype;
      rows_are = rows_are;
      some_runs = omega (arith, count, some-runs files runs has);
      few_runs = omega (arith, count, length-runs_of files, limits.count);
      ends = All-from_each (λ (cells : RunCells). end_of cells ≤ length (cells_of files)) (runs_from files 0 runs)
          (Each-weaker (λ (cells : RunCells). end_of cells ≤ 0 + length (rows_of_runs files runs))
          (λ (cells : RunCells). end_of cells ≤ length (cells_of files)) (λ cells ends. omega (arith, ends))
          (runs_from files 0 runs) (ends-within files 0 runs));
      short_runs = All-from_each (λ (cells : RunCells). IsShort cells.run) (runs_from files 0 runs)
          (runs-short files 0 runs (run-short held edition));
      some_offsets = some-offsets files runs has;
      few_offsets = omega (arith, few-offsets files runs, rows_are.few);
      short_offsets = All-from_each IsShort (offsets_of (runs_from files 0 runs))
          (all-short (runs_from files 0 runs) (cells-short held edition 0 runs));
      decls_are = is;
    }

-- the view that is made of the parts
abbrev pub laid-from : (cells : Shown) (runs : List RunCells) (offsets : List ℤ) → Laid
laid-from cells runs offsets = record { cells = cells; runs = runs; offsets = offsets }

pub laid-same : (held : Held) (cells : Shown) (runs items : List RunCells) (offsets : List ℤ)
    → cells ≡ (laid_of held.proto held.files).cells → runs ≡ runs_from held.files 0 (runs_of held.files)
    → items ≡ runs → offsets ≡ offsets_of items → laid-from cells runs offsets ≡ laid_of held.proto held.files
unfolding laid_of
laid-same held cells runs items offsets cells_are runs_are same offsets_are =
    let all : offsets ≡ offsets_of (runs_from held.files 0 (runs_of held.files)) =
    offsets_are ∙ ap offsets_of (same ∙ runs_are) in
    ap (λ (c : Shown). laid-from c runs offsets) cells_are
    ∙ ap₂ (λ (r : List RunCells) (o : List ℤ). laid-from (laid_of held.proto held.files).cells r o) runs_are all

pub laid-made : (held : Held) (cells : Shown) (runs items : List RunCells) (offsets : List ℤ) (rows : List Row)
    (decls : List Decl) → IsEdition held → rows ≡ cells_of held.files → rows ≢ []
    → cells ≡ (laid_of held.proto held.files).cells → runs ≡ runs_from held.files 0 (runs_of held.files)
    → items ≡ runs → offsets ≡ offsets_of items → decls ≡ decls_in (laid-from cells runs offsets)
    → IsGrid (laid-from cells runs offsets) decls
laid-made held cells runs items offsets rows decls edition is some cells_are runs_are same offsets_are decls_are =
    let whole = laid-same held cells runs items offsets cells_are runs_are same offsets_are in
    subst (λ (l : Laid). IsGrid l decls) (sym whole)
    (laid-grid held decls edition (λ none. some (is ∙ none)) (decls_are ∙ ap decls_in whole))

pub laid-none : (held : Held) (rows : List Row) → rows ≡ cells_of held.files → rows ≡ []
    → some_laid held ≡ Err NoRows
unfolding some_laid
laid-none held rows is none = ap (laid_with held.proto held.files) (sym is ∙ none)

pub laid-some : (held : Held) (rows : List Row) → rows ≡ cells_of held.files → rows ≢ []
    → some_laid held ≡ Ok (laid_of held.proto held.files)
unfolding some_laid
laid-some held rows is some = ap (laid_with held.proto held.files) (sym is) ∙ by_rows rows some
  where
    by_rows : (list : List Row) → list ≢ [] → laid_with held.proto held.files list
        ≡ Ok (laid_of held.proto held.files)
    by_rows [] some = absurd (some refl)
    by_rows (row ∷ others) some = refl

pub ruleset some_cells = (laid-none, laid-some)
