-- The files of a name are among those of its code.
use Rattle.std.proofs.Common.{◌≡◌, ℕ, Bool, true, false, List, [], ◌∷◌, ◌++◌, refl, sym, ap, subst}
use Rattle.std.specs.Prelude.{◌||◌, filter, not}
use Rattle.std.specs.Cmp.{signed_Decides}
use Rattle.std.specs.List.{list_any}
use Rattle.std.specs.Str.{bytes_eq}
use Rattle.std.proofs.lemmas.Bool.{both_ways}
use Rattle.std.proofs.lemmas.Slice.Eq.{bytes_eq-Decides}
use Rattle.fm_model.specs.declared.loaded.Loaded.{Loaded}
use Rattle.fm_model.specs.declared.op.Op.{Op}
use Rattle.fm_model.specs.declared.op.Op.TheVariants.{Put, Retract}
use Rattle.fm_model.specs.Collection.{holds}
use Rattle.fm_list.specs.declared.by.By.TheVariants.{Name}
use Rattle.fm_list.specs.Change.{gone, keeps}
use Rattle.fm_list.specs.Code.{code_of}
use Rattle.fm_list.specs.Selected.{part, selects}
use Rattle.fm_edition.specs.Pieces.{joined, IsNear}
use Rattle.fm_edition.proofs.PieceLemmas.{any-files}

-- what passes of a selection that has each item that passes
filter-within : {A : Type 0} (test among : A → Bool) → ((x : A) → test x ≡ true → among x ≡ true) → (xs : List A)
    → filter test (filter among xs) ≡ filter test xs
filter-within test among has [] = refl
filter-within {A} test among has (x ∷ xs) = by_tests (among x) (test x) refl refl (filter-within test among has xs)
  where
    by_tests : (a b : Bool) → among x ≡ a → test x ≡ b → filter test (filter among xs) ≡ filter test xs
        → filter test (filter among (x ∷ xs)) ≡ filter test (x ∷ xs)
    by_tests true true sa tb more = simp (sa, tb) (ap (λ l. x ∷ l) more)
    by_tests true false sa tb more = simp (sa, tb) more
    by_tests false true sa tb more = absurd (both_ways (among x) sa (has x tb))
    by_tests false false sa tb more = simp (sa, tb) more

-- some item of it passes
any-within : {A : Type 0} (test among : A → Bool) → ((x : A) → test x ≡ true → among x ≡ true) → (xs : List A)
    → list_any test (filter among xs) ≡ list_any test xs
any-within test among has [] = refl
any-within {A} test among has (x ∷ xs) = by_tests (among x) (test x) refl refl (any-within test among has xs)
  where
    by_tests : (a b : Bool) → among x ≡ a → test x ≡ b → list_any test (filter among xs) ≡ list_any test xs
        → list_any test (filter among (x ∷ xs)) ≡ list_any test (x ∷ xs)
    by_tests true b sa tb more = simp sa (ap (λ c. test x || c) more)
    by_tests false true sa tb more = absurd (both_ways (among x) sa (has x tb))
    by_tests false false sa tb more = simp (sa, tb) more

-- a file of a name is among those of the name's code
of_code : (name : List ℕ) (file : Loaded) → bytes_eq file.name name ≡ true → selects Name (code_of name) file ≡ true
unfolding selects
of_code name file same = (signed_Decides (code_of file.name) (code_of name)).1
    (ap code_of ((bytes_eq-Decides file.name name).0 same))

twice : (b : Bool) → not (not b) ≡ true → b ≡ true
twice true h = refl
twice false h = h

-- a put takes the same out of the files of its name's code as out of all
pub gone-put : (files : List Loaded) (file : Loaded)
    → gone (part Name files (code_of file.name)) (Put file) ≡ gone files (Put file)
unfolding gone part keeps
gone-put files file = filter-within (λ (f : Loaded). not (not (bytes_eq f.name file.name)))
    (selects Name (code_of file.name))
    (λ f lost. of_code file.name f (twice (bytes_eq f.name file.name) lost)) files

-- and so does a retraction
pub gone-retract : (files : List Loaded) (name : List ℕ)
    → gone (part Name files (code_of name)) (Retract name) ≡ gone files (Retract name)
unfolding gone part keeps
gone-retract files name = filter-within (λ (f : Loaded). not (not (bytes_eq f.name name))) (selects Name (code_of name))
    (λ f lost. of_code name f (twice (bytes_eq f.name name) lost)) files

-- a name is held among the files of its code, where it is held
pub holds-part : (files : List Loaded) (name : List ℕ) → holds (part Name files (code_of name)) name ≡ holds files name
unfolding holds part
holds-part files name = any-within (λ (f : Loaded). bytes_eq f.name name) (selects Name (code_of name))
    (λ f same. of_code name f same) files

-- a name is held by a file of the pieces, or by one of the last
pub holds-files : (pieces : List (List Loaded)) (last : List Loaded) (name : List ℕ)
    → (list_any (λ (piece : List Loaded). holds piece name) pieces || holds last name)
    ≡ holds (joined pieces ++ last) name
unfolding holds
holds-files pieces last name = any-files (λ f. bytes_eq f.name name) pieces last

-- what a put takes out, by the files near its name
pub gone-near_put : (files near : List Loaded) (op : Op) (file : Loaded) → op ≡ Put file → IsNear files op near
    → gone near op ≡ gone files op
gone-near_put files near op file is = subst (λ o. IsNear files o near → gone near o ≡ gone files o) (sym is) (λ n. n)

-- and what a retraction takes out
pub gone-near_retract : (files near : List Loaded) (op : Op) (name : List ℕ) → op ≡ Retract name → IsNear files op near
    → gone near op ≡ gone files op
gone-near_retract files near op name is = subst (λ o. IsNear files o near → gone near o ≡ gone files o) (sym is)
    (λ n. n)
