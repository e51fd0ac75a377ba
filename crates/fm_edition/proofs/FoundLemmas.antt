-- What is found among files in pieces: from the first on, or from the last.
use Rattle.std.proofs.Common.{◌≡◌, ◌↔◌, ℕ, ◌+◌, ◌<◌, ◌≤◌, List, [], ◌∷◌, ◌++◌, get_or, length, min, take, Option, Some, None, ℤ, refl, sym, ap, ◌∙◌, arith}
use Rattle.std.specs.Prelude.{◌==◌, filter}
use Rattle.std.specs.List.{flat_map}
use Rattle.std.specs.Ordering.{int_eq}
use Rattle.std.specs.Option.{option_or}
use Rattle.std.proofs.lemmas.Bool.Decides.{nat_tests}
use Rattle.std.proofs.lemmas.Grind.{flat_map-append}
use Rattle.std.proofs.lemmas.List.{take_all}
use Rattle.std.proofs.lemmas.List.Elements.{filter-append}
use Rattle.fm_model.specs.declared.loaded.Loaded.{Loaded}
use Rattle.fm_model.specs.Cell.{best, cell, runs_of}
use Rattle.fm_model.specs.Rising.{rising}
use Rattle.fm_list.specs.Found.{oldest_behind}
use Rattle.fm_list.proofs.Behind.{cell-behind, oldest-behind}
use Rattle.fm_edition.specs.Instants.{run_times}
use Rattle.fm_edition.specs.Pieces.{joined}
use Rattle.fm_edition.proofs.PieceLemmas.{joined-more}

-- what is found among files is what is found among those behind, or else among those before them
pub record FindsLast {A : Type 0} (find : List Loaded → Option A) : Type 0 where
  pub none : find [] ≡ None
  pub behind : (files more : List Loaded) → find (files ++ more) ≡ option_or (find more) (find files)

pub FindsLast-cell : (run valid : ℤ) → FindsLast (λ files. cell files run valid)
unfolding cell
FindsLast-cell run valid = record {
  none = refl;
  behind = λ files more. cell-behind files more run valid;
}

-- found among those behind
pub found_behind : {A : Type 0} (find : List Loaded → Option A) → FindsLast find → (files more : List Loaded) (x : A)
    → find more ≡ Some x → find (files ++ more) ≡ Some x
found_behind find is files more x found = is.behind files more ∙ ap (λ o. option_or o (find files)) found

-- or not
pub passed_behind : {A : Type 0} (find : List Loaded → Option A) → FindsLast find → (files more : List Loaded)
    → find more ≡ None → find (files ++ more) ≡ find files
passed_behind find is files more none = is.behind files more ∙ ap (λ o. option_or o (find files)) none

-- the walk begins with all pieces
pub found-from : {A : Type 0} (find : List Loaded → Option A) (pieces : List (List Loaded)) (before : ℕ)
    → before ≡ length pieces → find (joined (take before pieces)) ≡ find (joined pieces)
found-from find pieces before all = ap (λ l. find (joined l)) (take_all before pieces (omega (arith, all)))

-- found in a piece
pub found-piece : {A : Type 0} (find : List Loaded → Option A) → FindsLast find → (pieces : List (List Loaded))
    → (all : Option A) (i before : ℕ) (piece : List Loaded) (x : A) → i + 1 ≡ before → i < length pieces
    → piece ≡ get_or pieces i piece → find piece ≡ Some x → find (joined (take before pieces)) ≡ all → all ≡ Some x
found-piece find is pieces all i before piece x next lt here found same =
    sym same ∙ ap (λ n. find (joined (take n pieces))) (sym next) ∙ ap find (joined-more pieces i piece lt)
    ∙ found_behind find is (joined (take i pieces)) (get_or pieces i piece) x (ap find (sym here) ∙ found)

-- a piece in which nothing is found is passed over
pub found-passed : {A : Type 0} (find : List Loaded → Option A) → FindsLast find → (pieces : List (List Loaded))
    → (all : Option A) (i before : ℕ) (piece : List Loaded) → i + 1 ≡ before → i < length pieces
    → piece ≡ get_or pieces i piece → find piece ≡ None → find (joined (take before pieces)) ≡ all
    → find (joined (take i pieces)) ≡ all
found-passed find is pieces all i before piece next lt here none same =
    sym (passed_behind find is (joined (take i pieces)) (get_or pieces i piece) (ap find (sym here) ∙ none))
    ∙ ap find (sym (joined-more pieces i piece lt)) ∙ ap (λ n. find (joined (take n pieces))) next ∙ same

-- nothing is found where the walk comes to the front
pub found-none : {A : Type 0} (find : List Loaded → Option A) → FindsLast find → (pieces : List (List Loaded))
    → (all : Option A) (before : ℕ) → before ≡ 0 → find (joined (take before pieces)) ≡ all → all ≡ None
found-none find is pieces all before none same =
    sym same ∙ ap (λ n. find (joined (take n pieces))) none ∙ is.none

-- a run's times in two lists
pub times-behind : (run : ℤ) (files more : List Loaded)
    → run_times run (files ++ more) ≡ run_times run files ++ run_times run more
times-behind run files more =
    let own = λ (f : Loaded). int_eq f.run run in
    ap (flat_map (λ (f : Loaded). f.times)) (filter-append own files more)
    ∙ flat_map-append (λ (f : Loaded). f.times) (filter own files) (filter own more)

-- no files have no best run
pub best-none : (valid : ℤ) (least : Option ℤ) → best [] valid least ≡ None
unfolding best runs_of rising
best-none valid least = refl

-- the least run of one more piece
pub oldest-more : (pieces : List (List Loaded)) (i : ℕ) (piece : List Loaded) → i < length pieces
    → piece ≡ get_or pieces i piece → oldest_behind (oldest_behind None (joined (take i pieces))) piece
    ≡ oldest_behind None (joined (take (i + 1) pieces))
oldest-more pieces i piece lt is =
    sym (oldest-behind None (joined (take i pieces)) piece)
    ∙ ap (oldest_behind None) (sym (joined-more pieces i piece lt ∙ ap (λ p. joined (take i pieces) ++ p) (sym is)))

-- the least run of all pieces and of the last files
pub oldest-all : (pieces : List (List Loaded)) (last : List Loaded) (i : ℕ) → length pieces ≤ i
    → oldest_behind (oldest_behind None (joined (take i pieces))) last ≡ oldest_behind None (joined pieces ++ last)
oldest-all pieces last i past =
    sym (oldest-behind None (joined (take i pieces)) last)
    ∙ ap (λ l. oldest_behind None (joined l ++ last)) (take_all i pieces past)

-- a run's times in one more piece
pub times-more : (run : ℤ) (pieces : List (List Loaded)) (i : ℕ) (piece : List Loaded) → i < length pieces
    → piece ≡ get_or pieces i piece
    → run_times run (joined (take (i + 1) pieces)) ≡ run_times run (joined (take i pieces)) ++ run_times run piece
times-more run pieces i piece lt is =
    ap (run_times run) (joined-more pieces i piece lt ∙ ap (λ p. joined (take i pieces) ++ p) (sym is))
    ∙ times-behind run (joined (take i pieces)) piece

-- there is one item exactly where one is counted, up to two
pub one-counted : (count : ℕ) → (min count 2 == 1) ≡ (count == 1)
one-counted count = grind (arith, nat_tests)

-- and none where none is counted
pub none-counted : (files : List Loaded) (count : ℕ) → count ≡ min (length files) 2 → (count ≡ 0) ↔ (files ≡ [])
none-counted [] count is = (λ none. refl, λ none. is)
none-counted (file ∷ files) count is = (
  λ none. absurd (omega (arith, is, none)),
  λ none. absurd (cc none),
)
