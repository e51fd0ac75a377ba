-- A name with letters behind it is a name.
use Rattle.std.proofs.Common.{◌≡◌, Bool, true, not, ◌&&◌, ◌||◌, List, [], ◌∷◌, ◌++◌, ℕ, codes, length, refl, ap, ap₂, ◌∙◌, false, arith}
use Rattle.std.specs.Prelude.{IsTrue, ◌==◌}
use Rattle.std.specs.List.{list_any}
use Rattle.std.proofs.lemmas.Bool.{and_parts, ne_eqb, not-true}
use Rattle.std.proofs.lemmas.List.Folds.{list_any-append}
use Rattle.std.proofs.lemmas.Str.{IsUtf8-append, IsUtf8-from_is_utf8, is_utf8-from_IsUtf8}
use Rattle.nc_model.specs.Format.{is_barred, is_name_text}
use Rattle.fm_model.specs.Computed.{chars, encode_utf8, is_utf8}

-- what makes a text a name
record IsName (text : List ℕ) : Type 0 where
  some : not (length text == 0) ≡ true
  utf8 : is_utf8 text ≡ true
  free : list_any is_barred text ≡ false

parts-of : (text : List ℕ) → IsTrue (is_name_text text) → IsName text
unfolding is_name_text
parts-of text is =
    let both = and_parts (not (length text == 0) && is_utf8 text) (not (list_any is_barred text)) is in
    let first = and_parts (not (length text == 0)) (is_utf8 text) both.0 in
    record { some = first.0; utf8 = first.1; free = not-true (list_any is_barred text) both.1 }

whole-of : (text : List ℕ) → IsName text → IsTrue (is_name_text text)
unfolding is_name_text
whole-of text is =
    ap₂ (λ (a b : Bool). a && b) (ap₂ (λ (a b : Bool). a && b) is.some is.utf8) (ap not is.free)

some-more : (name suffix : List ℕ) → not (length name == 0) ≡ true → not (length (name ++ suffix) == 0) ≡ true
some-more [] suffix some = absurd cc
some-more (byte ∷ name) suffix some =
    ap not (ne_eqb (length (byte ∷ (name ++ suffix))) 0 (λ none. absurd (omega (arith, none))))

pub behind : (name suffix : List ℕ) → IsTrue (is_name_text name) → IsTrue (is_name_text suffix)
    → IsTrue (is_name_text (name ++ suffix))
behind name suffix one other =
    let first = parts-of name one in
    let second = parts-of suffix other in
    whole-of (name ++ suffix) (record {
      some = some-more name suffix first.some;
      utf8 = is_utf8-from_IsUtf8 (name ++ suffix)
          (IsUtf8-append name suffix (IsUtf8-from_is_utf8 name first.utf8) (IsUtf8-from_is_utf8 suffix second.utf8));
      free = list_any-append is_barred name suffix ∙ ap₂ (λ (a b : Bool). a || b) first.free second.free;
    })

-- the names that are written beside those of a prototype
pub run-text : IsTrue (is_name_text (codes "_run"))
unfolding is_name_text chars is_utf8 encode_utf8
run-text = refl

pub offset-text : IsTrue (is_name_text (codes "_offset"))
unfolding is_name_text chars is_utf8 encode_utf8
offset-text = refl

pub strlen-text : IsTrue (is_name_text (codes "_strlen"))
unfolding is_name_text chars is_utf8 encode_utf8
strlen-text = refl

pub units-text : IsTrue (is_name_text (codes "units"))
unfolding is_name_text chars is_utf8 encode_utf8
units-text = refl

pub standard_name-text : IsTrue (is_name_text (codes "standard_name"))
unfolding is_name_text chars is_utf8 encode_utf8
standard_name-text = refl

pub calendar-text : IsTrue (is_name_text (codes "calendar"))
unfolding is_name_text chars is_utf8 encode_utf8
calendar-text = refl
