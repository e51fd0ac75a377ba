-- Retractions: which file they take out, and that nothing else changes.
use Rattle.std.proofs.Common.{◌≡◌, ◌≢◌, ◌↔◌, ℕ, Bool, true, false, cond, not, ◌||◌, List, [], ◌∷◌, ◌++◌, ℤ, ◌<ℤ◌, refl, sym, ap, ap₂, subst, ◌∙◌, inl, inr, arith}
use Rattle.std.specs.Prelude.{All, AllPairs, Any, Contains, filter, int_lt, int_le}
use Rattle.std.specs.List.{list_any}
use Rattle.std.specs.Str.{bytes_eq}
use Rattle.std.proofs.lemmas.Bool.{both_ways, false≢true, not-true}
use Rattle.std.proofs.lemmas.Int.{ints}
use Rattle.std.proofs.lemmas.List.Elements.{filter-append}
use Rattle.std.proofs.lemmas.Slice.Eq.{bytes_eq-Decides}
use Rattle.fm_model.specs.declared.loaded.Loaded.{Loaded}
use Rattle.fm_model.specs.declared.op.Op.TheVariants.{Put, Expire, Retract}
use Rattle.fm_model.specs.Collection.{without, kept_from, after_op, holds, holds_older, DifferInName}
use Rattle.fm_model.proofs.CollectionLemmas.{named, filter-filter}
use Rattle.fm_model.proofs.Members.{In, Each, EachPair, Contains-from_in, in_from_Contains, In-append_left, In-append_right, In-filter, in_filter, Each-in, Each-from_in, Each-weaker, each_from_All, each_from_AllPairs, Any-from_in, in_from_Any}

-- the test of a name
is_named : (name : List ℕ) (file : Loaded) → file.name ≡ name → named name file ≡ true
is_named name file e = (bytes_eq-Decides file.name name).1 e

is_not_named : (name : List ℕ) (file : Loaded) → file.name ≢ name → named name file ≡ false
is_not_named name file differs = by_test (named name file) refl
  where
    by_test : (b : Bool) → named name file ≡ b → named name file ≡ false
    by_test true is = absurd (differs ((bytes_eq-Decides file.name name).0 is))
    by_test false is = is

pub Contains-retract : (files : List Loaded) (name : List ℕ) (file : Loaded)
    → Contains (after_op files (Retract name)) file ↔ (Contains files file × (file.name ≢ name))
unfolding after_op without
Contains-retract files name file = (
  λ c.
      let found = in_filter (λ (f : Loaded). not (named name f)) file files (in_from_Contains file _ c) in (
        Contains-from_in file files found.0,
        λ e. both_ways (named name file) (not-true (named name file) found.1)
            (is_named name file e),
      ),
  λ h. Contains-from_in file _
      (In-filter (λ (f : Loaded). not (named name f)) file files (in_from_Contains file files h.0)
      (ap not (is_not_named name file h.1))),
)

pub retract-append : (files more : List Loaded) (name : List ℕ)
    → after_op (files ++ more) (Retract name) ≡ after_op files (Retract name) ++ after_op more (Retract name)
unfolding after_op without
retract-append files more name = filter-append (λ (f : Loaded). not (named name f)) files more

pub retract-retract : (files : List Loaded) (name : List ℕ)
    → after_op (after_op files (Retract name)) (Retract name) ≡ after_op files (Retract name)
unfolding after_op without
retract-retract files name = filter-filter (λ (f : Loaded). not (named name f)) files

pub retract-put : (files : List Loaded) (file : Loaded)
    → after_op (after_op files (Retract file.name)) (Put file) ≡ after_op files (Put file)
unfolding after_op without
retract-put files file = ap (λ (l : List Loaded). l ++ file ∷ [])
    (filter-filter (λ (f : Loaded). not (named file.name f)) files)

-- what passes of a list of which each item passes
filter-each : {A : Type 0} (test : A → Bool) (items : List A) → Each (λ item. test item ≡ true) items
    → filter test items ≡ items
filter-each test [] each = refl
filter-each test (item ∷ items) each = rw each.0 (ap (λ l. item ∷ l) (filter-each test items each.1))

without_none : (files : List Loaded) (name : List ℕ) → Each (λ (other : Loaded). other.name ≢ name) files
    → without name files ≡ files
unfolding without
without_none files name each = filter-each (λ (f : Loaded). not (named name f)) files
    (Each-from_in _ files
    (λ other h. ap not (is_not_named name other (Each-in (λ (o : Loaded). o.name ≢ name) other files each h))))

-- a pair of a list's items, the one before the other
pair_apart : {A : Type 0} (R : A → A → Type 0) (before : List A) (item : A) (after : List A)
    → EachPair R (before ++ item ∷ after)
    → Each (λ earlier. R earlier item) before × Each (R item) after
pair_apart R [] item after pairs = (tt, pairs.0)
pair_apart R (first ∷ before) item after pairs =
    let more = pair_apart R before item after pairs.1 in
    ((Each-in (R first) item _ pairs.0 (In-append_right item before (item ∷ after) (inl refl)), more.0), more.1)

without-append : (name : List ℕ) (files more : List Loaded)
    → without name (files ++ more) ≡ without name files ++ without name more
unfolding without
without-append name files more = filter-append (λ (f : Loaded). not (named name f)) files more

without_first : (first : Loaded) (files : List Loaded) → without first.name (first ∷ files) ≡ without first.name files
unfolding without
without_first first files = rw (is_named first.name first refl) refl

-- a retraction takes out just the file of its name
pub retract-one : (before after : List Loaded) (file : Loaded) → AllPairs DifferInName (before ++ file ∷ after)
    → after_op (before ++ file ∷ after) (Retract file.name) ≡ before ++ after
unfolding after_op
retract-one before after file differ =
    let apart = pair_apart DifferInName before file after (each_from_AllPairs DifferInName _ differ) in
    let earlier = without_none before file.name apart.0 in
    let later = without_none after file.name
    (Each-from_in _ after (λ other h e. Each-in (DifferInName file) other after apart.1 h (sym e))) in
    without-append file.name before (file ∷ after)
    ∙ ap₂ (λ (a b : List Loaded). a ++ b) earlier (without_first file after ∙ later)

-- the tests of held names
held_from_test : (test : Loaded → Bool) (files : List Loaded) → list_any test files ≡ true
    → (file : Loaded) × In file files × (test file ≡ true)
held_from_test test [] e = absurd (false≢true e)
held_from_test test (first ∷ files) e = by_test (test first) refl e (held_from_test test files)
  where
    by_test : (b : Bool) → test first ≡ b → (b || list_any test files) ≡ true
        → (list_any test files ≡ true → (file : Loaded) × In file files × (test file ≡ true))
        → (file : Loaded) × In file (first ∷ files) × (test file ≡ true)
    by_test true is e more = (first, inl refl, is)
    by_test false is e more = let found = more e in (found.0, inr found.1, found.2)

test_from_held : (test : Loaded → Bool) (files : List Loaded) (file : Loaded) → In file files → test file ≡ true
    → list_any test files ≡ true
test_from_held test [] file h e = absurd h
test_from_held test (first ∷ files) file (inl same) e = rw (ap test same ∙ e) refl
test_from_held test (first ∷ files) file (inr later) e = rw (test_from_held test files file later e)
    (or_true (test first))
  where
    or_true : (b : Bool) → (b || true) ≡ true
    or_true true = refl
    or_true false = refl

pub holds_both : (files : List Loaded) (name : List ℕ)
    → (holds files name ≡ true) ↔ Any (λ (file : Loaded). file.name ≡ name) files
unfolding holds
holds_both files name = (
  λ e.
      let found = held_from_test (named name) files e in
      Any-from_in (λ (file : Loaded). file.name ≡ name) found.0 files found.1
      ((bytes_eq-Decides found.0.name name).0 found.2),
  λ any.
      let found = in_from_Any (λ (file : Loaded). file.name ≡ name) files any in
      test_from_held (named name) files found.0 found.1 (is_named name found.0 found.2),
)

-- where nothing passes
none_held : (test : Loaded → Bool) (files : List Loaded) → list_any test files ≡ false
    → Each (λ file. test file ≡ false) files
none_held test files e = Each-from_in _ files (λ file h. by_test (test file) refl h)
  where
    by_test : {file : Loaded} (b : Bool) → test file ≡ b → In file files → test file ≡ false
    by_test {file} true is h = absurd (both_ways (list_any test files) e (test_from_held test files file h is))
    by_test false is h = is

pub retract-none : (files : List Loaded) (name : List ℕ) → holds files name ≡ false
    → after_op files (Retract name) ≡ files
unfolding after_op holds without
retract-none files name e = filter-each (λ (f : Loaded). not (named name f)) files
    (Each-weaker (λ f. named name f ≡ false) (λ f. not (named name f) ≡ true) (λ f is. ap not is) files
    (none_held (named name) files e))

pub holds_older_both : (files : List Loaded) (cutoff : ℤ)
    → (holds_older files cutoff ≡ true) ↔ Any (λ (file : Loaded). file.run <ℤ cutoff) files
unfolding holds_older
holds_older_both files cutoff = (
  λ e.
      let found = held_from_test (λ (f : Loaded). int_lt f.run cutoff) files e in
      Any-from_in (λ (file : Loaded). file.run <ℤ cutoff) found.0 files found.1
      (before_cutoff found.0.run cutoff found.2),
  λ any.
      let found = in_from_Any (λ (file : Loaded). file.run <ℤ cutoff) files any in
      test_from_held (λ (f : Loaded). int_lt f.run cutoff) files found.0 found.1
      (before_test found.0.run cutoff found.2),
)
  where
    before_cutoff : (run cutoff : ℤ) → int_lt run cutoff ≡ true → run <ℤ cutoff
    before_cutoff run cutoff e = grind (arith, ints)

    before_test : (run cutoff : ℤ) → run <ℤ cutoff → int_lt run cutoff ≡ true
    before_test run cutoff h = grind (arith, ints)

pub expire-none : (files : List Loaded) (cutoff : ℤ) → holds_older files cutoff ≡ false
    → after_op files (Expire cutoff) ≡ files
unfolding after_op holds_older kept_from
expire-none files cutoff e = filter-each (λ (f : Loaded). int_le cutoff f.run) files
    (Each-weaker (λ (f : Loaded). int_lt f.run cutoff ≡ false) (λ (f : Loaded). int_le cutoff f.run ≡ true)
    (λ f is. not_before f.run is) files
    (none_held (λ (f : Loaded). int_lt f.run cutoff) files e))
  where
    not_before : (run : ℤ) → int_lt run cutoff ≡ false → int_le cutoff run ≡ true
    not_before run is = grind (arith, ints)
