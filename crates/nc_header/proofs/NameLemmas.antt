-- UTF-8 as a test, and a set of names beside a list of them.
use Rattle.std.proofs.Common.{◌≡◌, ℕ, Bool, true, false, cond, ◌||◌, List, [], ◌∷◌, ◌++◌, refl, sym, ap, ◌∙◌}
use Rattle.std.specs.Str.{IsUtf8, is_utf8, bytes_eq}
use Rattle.std.specs.BTreeSet.{BTreeSet, IsEmpty, Updates}
use Rattle.std.specs.Cmp.Lexicographic.{slice_cmp}
use Rattle.std.specs.Ordering.{nat_cmp}
use Rattle.std.specs.Borrow.{Bor}
use Rattle.std.proofs.lemmas.Str.{IsUtf8-from_is_utf8, is_utf8-from_IsUtf8}
use Rattle.std.proofs.Math.Bool.{or-false}
use Rattle.std.proofs.lemmas.List.Folds.{list_any-append}
use Rattle.std.proofs.lemmas.Map.Text.{is_eq-slice_cmp}
use Rattle.nc_model.specs.Format.{has_name}
use Rattle.nc_header.specs.Names.{holds_name, HoldsNames}

-- what isn't UTF-8 fails the test
pub is_utf8-from_not : (bytes : List ℕ) → ¬ (IsUtf8 bytes) → is_utf8 bytes ≡ false
is_utf8-from_not bytes broken =
    elim (is_utf8 bytes) as (λ b. is_utf8 bytes ≡ b → b ≡ false) [
      | true ↦
          λ e. absurd (broken (IsUtf8-from_is_utf8 bytes e))
      | false ↦ λ _. refl
    ] refl

pub ruleset utf8_laws = (is_utf8-from_IsUtf8, is_utf8-from_not)

-- a set without names goes with the empty list
pub HoldsNames-empty : (set : BTreeSet (Bor (List ℕ))) → IsEmpty set → HoldsNames set []
unfolding has_name
HoldsNames-empty set none name = simp none

-- whether a name is among some and one more
pub has_name-push : (names : List (List ℕ)) (last name : List ℕ)
    → has_name (names ++ last ∷ []) name ≡ (has_name names name || bytes_eq last name)
unfolding has_name
has_name-push names last name = simp (list_any-append, or-false)

-- a name that goes into the set and to the end of the list
pub HoldsNames-push : (set more : BTreeSet (Bor (List ℕ))) (names : List (List ℕ)) (last : Bor (List ℕ))
    → HoldsNames set names → Updates (λ x y. slice_cmp nat_cmp x.now y.now) set more last true
    → HoldsNames more (names ++ last.now ∷ [])
HoldsNames-push set more names last holds updates name =
    let key : Bor (List ℕ) = record { ref_ptr = (0, 0); now = name } in
    let now : holds_name more name ≡ cond (bytes_eq last.now name) true (holds_name set name) = updates.0 key
    ∙ ap (λ (b : Bool). cond b true (holds_name set name)) (is_eq-slice_cmp last.now name) in
    now ∙ ap (λ (b : Bool). cond (bytes_eq last.now name) true b) (holds name)
    ∙ either (bytes_eq last.now name) (has_name names name) ∙ sym (has_name-push names last.now name)
  where
    either : (a b : Bool) → cond a true b ≡ (b || a)
    either true true = refl
    either true false = refl
    either false true = refl
    either false false = refl
