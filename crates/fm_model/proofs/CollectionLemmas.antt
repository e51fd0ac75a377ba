-- Collections after operations: puts, expires, and names.
use Rattle.std.proofs.Common.{◌≡◌, ◌≢◌, ◌↔◌, ℕ, ◌+◌, Bool, true, false, cond, not, List, [], ◌∷◌, ◌++◌, length, Option, Some, None, ℤ, ◌≤ℤ◌, refl, sym, ap, subst, ◌∙◌, inl, inr, arith}
use Rattle.std.specs.Prelude.{All, AllPairs, Any, Contains, filter, fold, int_le}
use Rattle.std.specs.List.{last_or}
use Rattle.std.specs.Str.{bytes_eq}
use Rattle.std.proofs.lemmas.Bool.{both_ways, not-true}
use Rattle.std.proofs.lemmas.List.{append-nil, length-append}
use Rattle.std.proofs.lemmas.List.Elements.{filter-append}
use Rattle.std.proofs.lemmas.List.Sums.{fold-append}
use Rattle.std.proofs.lemmas.Slice.Eq.{bytes_eq-Decides}
use Rattle.fm_base.proofs.NumberLemmas.{at_most_from_test, test_at_most}
use Rattle.fm_model.specs.declared.loaded.Loaded.{Loaded}
use Rattle.fm_model.specs.declared.op.Op.{Op}
use Rattle.fm_model.specs.declared.op.Op.TheVariants.{Put, Expire, Retract}
use Rattle.fm_model.specs.Collection.{without, kept_from, after_op, coll, DifferInName}
use Rattle.fm_model.proofs.Members.{In, Each, EachPair, Contains-from_in, in_from_Contains, In-filter, in_filter, Each-in, Each-from_in, each_from_All, AllPairs-from_each, each_from_AllPairs, EachPair-push, in_from_Any}

-- whether a file has a name
abbrev pub named : List ℕ → Loaded → Bool
named name file = bytes_eq file.name name

same_name : (file other : Loaded) → other.name ≡ file.name → named file.name other ≡ true
same_name file other e = (bytes_eq-Decides other.name file.name).1 e

other_name : (file other : Loaded) → DifferInName file other → named file.name other ≡ false
other_name file other differs = by_test (named file.name other) refl
  where
    by_test : (b : Bool) → named file.name other ≡ b → named file.name other ≡ false
    by_test true is = absurd (differs (sym ((bytes_eq-Decides other.name file.name).0 is)))
    by_test false is = is

-- the passing elements of a list without the passing ones
filter-not : {A : Type 0} (test : A → Bool) (items : List A) → filter test (filter (λ x. not (test x)) items) ≡ []
filter-not test [] = refl
filter-not {A} test (item ∷ items) = by_test (test item) refl (filter-not test items)
  where
    by_test : (b : Bool) → test item ≡ b → filter test (filter (λ x. not (test x)) items) ≡ []
        → filter test (cond (not b) (item ∷ filter (λ x. not (test x)) items) (filter (λ x. not (test x)) items)) ≡ []
    by_test true is none = none
    by_test false is none = rw is none

-- a second pass keeps what the first kept
pub filter-filter : {A : Type 0} (test : A → Bool) (items : List A)
    → filter test (filter test items) ≡ filter test items
filter-filter test [] = refl
filter-filter {A} test (item ∷ items) = by_test (test item) refl (filter-filter test items)
  where
    by_test : (b : Bool) → test item ≡ b → filter test (filter test items) ≡ filter test items
        → filter test (cond b (item ∷ filter test items) (filter test items)) ≡ cond b (item ∷ filter test items)
        (filter test items)
    by_test true is same = rw is (ap (λ l. item ∷ l) same)
    by_test false is same = same

pub put_one : (files : List Loaded) (file : Loaded) → filter (named file.name) (after_op files (Put file)) ≡ file ∷ []
unfolding after_op without
put_one files file =
    let own : filter (named file.name) (file ∷ []) ≡ file ∷ [] = rw (same_name file file refl) refl in
    filter-append (named file.name) (without file.name files) (file ∷ [])
    ∙ ap (λ (l : List Loaded). l ++ filter (named file.name) (file ∷ [])) (filter-not (named file.name) files) ∙ own

last_or-push : {A : Type 0} (o : Option A) (items : List A) (item : A) → last_or o (items ++ item ∷ []) ≡ Some item
last_or-push o [] item = refl
last_or-push o (first ∷ items) item = last_or-push (Some first) items item

pub put_last : (files : List Loaded) (file : Loaded) → last_or None (after_op files (Put file)) ≡ Some file
unfolding after_op
put_last files file = last_or-push None (without file.name files) file

pub put_others : (files : List Loaded) (file : Loaded)
    → without file.name (after_op files (Put file)) ≡ without file.name files
unfolding after_op without
put_others files file =
    let other : Loaded → Bool = λ (f : Loaded). not (named file.name f) in
    let own : filter other (file ∷ []) ≡ [] = rw (same_name file file refl) refl in
    let kept : filter other (filter other files) ≡ filter other files = filter-filter other files in
    filter-append other (filter other files) (file ∷ [])
    ∙ ap (λ (l : List Loaded). filter other (filter other files) ++ l) own
    ∙ append-nil (filter other (filter other files)) ∙ kept

-- nothing is taken out where no file has the name
without-none : (files : List Loaded) (file : Loaded) → Each (DifferInName file) files → without file.name files ≡ files
unfolding without
without-none [] file each = refl
without-none (first ∷ files) file each = rw (other_name file first each.0)
    (ap (λ l. first ∷ l) (without-none files file each.1))

-- one file is taken out where one has the name
length-without : (files : List Loaded) (file held : Loaded) → EachPair DifferInName files → In held files
    → held.name ≡ file.name → length (without file.name files) + 1 ≡ length files
unfolding without
length-without [] file held differ h e = absurd h
length-without (first ∷ files) file held differ (inl same) e =
    let own : first.name ≡ file.name = ap (λ (f : Loaded). f.name) same ∙ e in
    let others : Each (DifferInName file) files = subst
    (λ (n : List ℕ). Each (λ (o : Loaded). n ≢ o.name) files) own differ.0 in
    let none = ap length (without-none files file others) in
    rw (same_name file first own) (omega (arith, none))
length-without (first ∷ files) file held differ (inr later) e =
    let apart : DifferInName file first = λ s. Each-in (DifferInName first) held files differ.0 later (sym s ∙ sym e) in
    let fewer = length-without files file held differ.1 later e in
    rw (other_name file first apart) (omega (arith, fewer))

pub length-put_held : (files : List Loaded) (file : Loaded) → AllPairs DifferInName files
    → Any (λ (other : Loaded). other.name ≡ file.name) files → length (after_op files (Put file)) ≡ length files
unfolding after_op
length-put_held files file differ any =
    let held = in_from_Any (λ (other : Loaded). other.name ≡ file.name) files any in
    let fewer = length-without files file held.0 (each_from_AllPairs DifferInName files differ) held.1 held.2 in
    omega (arith, length-append (without file.name files) (file ∷ []), fewer)

pub length-put_new : (files : List Loaded) (file : Loaded) → All (DifferInName file) files
    → length (after_op files (Put file)) ≡ length files + 1
unfolding after_op
length-put_new files file all =
    let none = ap length (without-none files file (each_from_All (DifferInName file) files all)) in
    omega (arith, length-append (without file.name files) (file ∷ []), none)

pub Contains-expire : (files : List Loaded) (cutoff : ℤ) (file : Loaded)
    → Contains (after_op files (Expire cutoff)) file ↔ (Contains files file × cutoff ≤ℤ file.run)
unfolding after_op kept_from
Contains-expire files cutoff file = (
  λ c.
      let found = in_filter (λ (f : Loaded). int_le cutoff f.run) file files
      (in_from_Contains file (kept_from cutoff files) c) in
      (Contains-from_in file files found.0, at_most_from_test cutoff file.run found.1),
  λ h. Contains-from_in file (kept_from cutoff files)
      (In-filter (λ (f : Loaded). int_le cutoff f.run) file files (in_from_Contains file files h.0)
      (test_at_most cutoff file.run h.1)),
)

pub expire-append : (files more : List Loaded) (cutoff : ℤ)
    → after_op (files ++ more) (Expire cutoff) ≡ after_op files (Expire cutoff) ++ after_op more (Expire cutoff)
unfolding after_op kept_from
expire-append files more cutoff = filter-append (λ (f : Loaded). int_le cutoff f.run) files more

pub expire-expire : (files : List Loaded) (cutoff : ℤ)
    → after_op (after_op files (Expire cutoff)) (Expire cutoff) ≡ after_op files (Expire cutoff)
unfolding after_op kept_from
expire-expire files cutoff = filter-filter (λ (f : Loaded). int_le cutoff f.run) files

-- what is kept of pairs of which a fact holds
EachPair-filter : {A : Type 0} (R : A → A → Type 0) (test : A → Bool) (items : List A) → EachPair R items
    → EachPair R (filter test items)
EachPair-filter R test [] pairs = tt
EachPair-filter {A} R test (item ∷ items) pairs = by_test (test item) (EachPair-filter R test items pairs.1)
  where
    by_test : (b : Bool) → EachPair R (filter test items)
        → EachPair R (cond b (item ∷ filter test items) (filter test items))
    by_test true others = (
      Each-from_in (R item) (filter test items)
          (λ x h. Each-in (R item) x items pairs.0 (in_filter test x items h).0),
      others,
    )
    by_test false others = others

-- names of files differ after an operation as before it
pub differ_after : (files : List Loaded) (op : Op) → EachPair DifferInName files
    → EachPair DifferInName (after_op files op)
unfolding after_op without kept_from
differ_after files (Put file) differ =
    EachPair-push DifferInName (without file.name files) file
    (EachPair-filter DifferInName (λ (f : Loaded). not (named file.name f)) files differ)
    (Each-from_in (λ other. DifferInName other file) (without file.name files) (λ other h e.
    both_ways (named file.name other)
    (not-true (named file.name other) (in_filter (λ (f : Loaded). not (named file.name f)) other files h).1)
    (same_name file other e)))
differ_after files (Retract name) differ = EachPair-filter DifferInName
    (λ (f : Loaded). not (named name f)) files differ
differ_after files (Expire cutoff) differ = EachPair-filter DifferInName
    (λ (f : Loaded). int_le cutoff f.run) files differ

differ_from : (files : List Loaded) (ops : List Op) → EachPair DifferInName files
    → EachPair DifferInName (fold after_op files ops)
differ_from files [] differ = differ
differ_from files (op ∷ ops) differ = differ_from (after_op files op) ops (differ_after files op differ)

pub names_differ : (ops : List Op) → AllPairs DifferInName (coll ops)
unfolding coll
names_differ ops = AllPairs-from_each DifferInName (coll ops) (differ_from [] ops tt)

-- the collection after no operation is empty
pub coll-none : coll [] ≡ []
unfolding coll
coll-none = refl

-- the collection after one operation more
pub coll-push : (ops : List Op) (op : Op) → coll (ops ++ op ∷ []) ≡ after_op (coll ops) op
unfolding coll
coll-push ops op = fold-append after_op [] ops (op ∷ [])
