-- The path and query of a target, in either of its forms.
use Rattle.std.proofs.Common.{◌≡◌, ◌<◌, ◌≤◌, inl, inr, ⊎_elim, ◌⊎◌, ℕ, zero, suc, ◌+◌, Bool, true, false, cond, ◌&&◌, ◌||◌, ◌==◌, not, min, List, [], ◌∷◌, ◌++◌, length, map, take, drop, get_or, codes, Option, Some, None, nat_lt, refl, sym, ap, ap₂, subst, ◌∙◌, length-take, arith}
use Rattle.std.proofs.lemmas.Bool.{cond-true, cond-false, eqb-true, lt-ltb, ltb-true, or_parts}
use Rattle.std.proofs.lemmas.List.{length-map, take-append-drop}
use Rattle.std.proofs.lemmas.Option.{same_Some}
use Rattle.std.proofs.Math.Seq.{drop-append_seam, take-append_seam}
use Rattle.std.specs.Char.{is_digit, to_ascii_lowercase}
use Rattle.std.specs.List.{list_any}
use Rattle.std.specs.Str.{bytes_eq, str_eq_ignore_ascii_case}
use Rattle.percent_encoding.specs.Percent.{is_escape, percent_decode}
use Rattle.fm_base.proofs.ListLemmas.{bytes_same}
use Rattle.web_path.specs.Escape.{percent}
use Rattle.web_path.specs.Target.{authority_end, behind_authority, first_at, has_scheme, path_and_query, question, question_of, scheme, slash}
use Rattle.web_path.specs.Url.{IsAbsolute, IsCut, IsCutBy}
use Rattle.web_path.proofs.CutLemmas.{cut-found, first-cut, plain-front}

-- ---- the scheme

-- the scheme in either case, in lower case
scheme-said : (front : List ℕ) → str_eq_ignore_ascii_case front scheme ≡ true
    → map to_ascii_lowercase front ≡ scheme
scheme-said front is = bytes_same (map to_ascii_lowercase front) scheme is

scheme-long : (front : List ℕ) → str_eq_ignore_ascii_case front scheme ≡ true → length front ≡ 7
scheme-long front is = sym (length-map front to_ascii_lowercase) ∙ ap length (scheme-said front is)

-- a target that is shorter than the scheme doesn't begin with it
pub short : (target : List ℕ) → length target < 7 → has_scheme target ≡ false
short target few = by_test (has_scheme target) refl
  where
    by_test : (is : Bool) → has_scheme target ≡ is → is ≡ false
    by_test false same = refl
    by_test true same =
        let long = scheme-long (take 7 target) same in
        let taken = length-take 7 target in
        absurd (omega (arith, few, long, taken))

-- the first byte of a target with a scheme, in lower case
first-letter : (b : ℕ) (rest : List ℕ) → has_scheme (b ∷ rest) ≡ true → to_ascii_lowercase b ≡ 104
first-letter b rest is = ap (λ (l : List ℕ). get_or l 0 0) (scheme-said (take 7 (b ∷ rest)) is)

-- a byte that isn't `%` stands for itself
plain-first : (b : ℕ) (rest : List ℕ) → (b == percent) ≡ false → percent_decode (b ∷ rest) ≡ b ∷ percent_decode rest
unfolding percent_decode
plain-first b [] plain = refl
plain-first b (c ∷ []) plain = refl
plain-first b (high ∷ low ∷ rest) plain =
    let no_escape : is_escape b high low ≡ false =
    ap (λ (is : Bool). is && is_digit high 16 && is_digit low 16) plain in
    cond-false _ _ _ no_escape

-- what is decoded to a `/` and more has no scheme
slash-first : (b : ℕ) (path more bytes : List ℕ) → percent_decode (b ∷ path) ≡ slash ∷ bytes
    → has_scheme (b ∷ more) ≡ false
slash-first b path more bytes is = by_test (has_scheme (b ∷ more)) refl
  where
    not_percent : to_ascii_lowercase b ≡ 104 → (test : Bool) → (b == percent) ≡ test → test ≡ false
    not_percent letter false same = refl
    not_percent letter true same =
        let other : 37 ≡ 104 = ap to_ascii_lowercase (sym (eqb-true b percent same)) ∙ letter in
        absurd (omega (arith, other))

    by_test : (has : Bool) → has_scheme (b ∷ more) ≡ has → has ≡ false
    by_test false same = refl
    by_test true same =
        let letter = first-letter b more same in
        let first : b ≡ slash = ap (λ (l : List ℕ). get_or l 0 0)
        (sym (plain-first b path (not_percent letter (b == percent) refl)) ∙ is) in
        let other : 47 ≡ 104 = ap to_ascii_lowercase (sym first) ∙ letter in
        absurd (omega (arith, other))

-- ---- a target that is read

-- a path and query whose path begins with a `/` has no scheme
pub no-scheme : (text path query bytes : List ℕ) → IsCut text path query → percent_decode path ≡ slash ∷ bytes
    → has_scheme text ≡ false
unfolding percent_decode
no-scheme text [] query bytes cut is = absurd (cc)
no-scheme text (b ∷ path) query bytes cut is =
    ⊎_elim (λ seam. ap has_scheme seam ∙ slash-first b path (path ++ question ∷ query) bytes is)
    (λ all. ap has_scheme all.0 ∙ slash-first b path path bytes is) cut

pub plain-asked : (text : List ℕ) → has_scheme text ≡ false → path_and_query text ≡ text
unfolding path_and_query
plain-asked text none = cond-false _ _ _ none

-- a `?` stands behind an authority without one
later-question : (authority rest : List ℕ) → list_any (λ b. b == question) authority ≡ false
    → length authority < question_of (authority ++ slash ∷ rest)
later-question [] rest none = omega arith
later-question (b ∷ authority) rest none =
    let parts = or_parts (b == question) (list_any (λ x. x == question) authority) none in
    let more = later-question authority rest parts.1 in
    let at : ℕ = question_of (authority ++ slash ∷ rest) in
    let is : question_of (b ∷ (authority ++ slash ∷ rest)) ≡ 1 + at =
    ap (λ (test : Bool). cond (not test) (1 + at) 0) parts.0 in
    omega (arith, more, is)

-- the end of an authority is found
end-found : (authority rest : List ℕ) → 0 < length authority → list_any (λ b. b == slash) authority ≡ false
    → list_any (λ b. b == question) authority ≡ false
    → authority_end (authority ++ slash ∷ rest) ≡ Some (length authority)
unfolding authority_end
end-found authority rest some no_slash no_question =
    let at = first-cut slash authority rest no_slash in
    let more = later-question authority rest no_question in
    ap (λ (n : ℕ). cond (nat_lt 0 n && nat_lt n (question_of (authority ++ slash ∷ rest))) (Some n) None) at
    ∙ ap₂ (λ (one two : Bool). cond (one && two) (Some (length authority)) None) (lt-ltb 0 (length authority) some)
    (lt-ltb (length authority) (question_of (authority ++ slash ∷ rest)) more)

pub absolute-asked : (text asked : List ℕ) → IsAbsolute text asked → path_and_query text ≡ asked
unfolding path_and_query
absolute-asked text asked of =
    let long = scheme-long of.front of.front_is in
    let whole : text ≡ of.front ++ (of.authority ++ slash ∷ of.rest) =
    of.text_is ∙ ap (λ (l : List ℕ). of.front ++ (of.authority ++ l)) of.asked_is in
    let front : take 7 text ≡ of.front =
    ap (λ (n : ℕ). take n text) (sym long) ∙ ap (take (length of.front)) whole
    ∙ take-append_seam of.front (of.authority ++ slash ∷ of.rest) in
    let behind : drop 7 text ≡ of.authority ++ slash ∷ of.rest =
    ap (λ (n : ℕ). drop n text) (sym long) ∙ ap (drop (length of.front)) whole
    ∙ drop-append_seam of.front (of.authority ++ slash ∷ of.rest) in
    cond-true _ _ _ (ap (λ (l : List ℕ). str_eq_ignore_ascii_case l scheme) front ∙ of.front_is)
    ∙ ap (λ (l : List ℕ). behind_authority text l (authority_end l)) behind
    ∙ ap (behind_authority text (of.authority ++ slash ∷ of.rest))
    (end-found of.authority of.rest of.some of.no_slash of.no_question)
    ∙ drop-append_seam of.authority (slash ∷ of.rest) ∙ sym of.asked_is

-- ---- a target that was read

-- nothing of a front of a text that has none of a byte
none-before : (c : ℕ) (n : ℕ) (text : List ℕ) → n ≤ first_at c text → list_any (λ b. b == c) (take n text) ≡ false
none-before c zero text within = refl
none-before c (suc n) [] within = refl
none-before c (suc n) (b ∷ text) within = by_test (b == c) refl within (none-before c n text)
  where
    by_test : (is : Bool) → (b == c) ≡ is → suc n ≤ cond (not is) (1 + first_at c text) 0
        → (n ≤ first_at c text → list_any (λ x. x == c) (take n text) ≡ false)
        → (b == c || list_any (λ x. x == c) (take n text)) ≡ false
    by_test true same within earlier = absurd (omega (arith, within))
    by_test false same within earlier =
        ap (λ (t : Bool). t || list_any (λ x. x == c) (take n text)) same ∙ earlier (omega (arith, within))

first-within : (c : ℕ) (text : List ℕ) → first_at c text ≤ length text
first-within c [] = omega arith
first-within c (b ∷ text) = by_test (b == c) (first-within c text)
  where
    by_test : (is : Bool) → first_at c text ≤ length text
        → cond (not is) (1 + first_at c text) 0 ≤ suc (length text)
    by_test true within = omega arith
    by_test false within = omega (arith, within)

-- what an authority ends in
record EndsAt (rest : List ℕ) (end : ℕ) : Type 0 where
  some : 0 < end
  before : end < question_of rest
  is : end ≡ first_at slash rest

end-said : (rest : List ℕ) (end : ℕ) → authority_end rest ≡ Some end → EndsAt rest end
unfolding authority_end
end-said rest end is = by_test (nat_lt 0 n) (nat_lt n (question_of rest)) refl refl is
  where
    n : ℕ
    n = first_at slash rest

    by_test : (some before : Bool) → nat_lt 0 n ≡ some → nat_lt n (question_of rest) ≡ before
        → cond (some && before) (Some n) None ≡ Some end → EndsAt rest end
    by_test false before one two found = absurd (cc)
    by_test true false one two found = absurd (cc)
    by_test true true one two found =
        let same : n ≡ end = same_Some n end found in
        subst (EndsAt rest) same
        (record { some = ltb-true 0 n one; before = ltb-true n (question_of rest) two; is = refl })

-- a `/` stands there
slash-there : (rest : List ℕ) (end : ℕ) → EndsAt rest end → drop end rest ≡ slash ∷ drop (end + 1) rest
slash-there rest end at =
    ⊎_elim seam none (subst (λ (n : ℕ). IsCutBy slash rest (take n rest) (drop (n + 1) rest)) (sym at.is)
    (cut-found slash rest))
  where
    long : length (take end rest) ≡ end
    long =
        let before = at.before in
        let within = first-within question rest in
        let taken = length-take end rest in
        omega (arith, before, within, taken)

    seam : rest ≡ take end rest ++ slash ∷ drop (end + 1) rest → drop end rest ≡ slash ∷ drop (end + 1) rest
    seam is = ap (λ (n : ℕ). drop n rest) (sym long) ∙ ap (drop (length (take end rest))) is
        ∙ drop-append_seam (take end rest) (slash ∷ drop (end + 1) rest)

    none : (rest ≡ take end rest) × (drop (end + 1) rest ≡ []) → drop end rest ≡ slash ∷ drop (end + 1) rest
    none all =
        let before = at.before in
        let within = first-within question rest in
        let same : length rest ≡ length (take end rest) = ap length all.0 in
        absurd (omega (arith, before, within, same, long))

-- a text with a scheme before such an authority is an absolute form
made-absolute : (text : List ℕ) (end : ℕ) → has_scheme text ≡ true → authority_end (drop 7 text) ≡ Some end
    → IsAbsolute text (drop end (drop 7 text))
made-absolute text end has is =
    let at = end-said (drop 7 text) end is in
    let rest : List ℕ = drop 7 text in
    let within = first-within question rest in
    let some = at.some in
    let before = at.before in
    let taken = length-take end rest in
    record {
      front = take 7 text;
      authority = take end rest;
      rest = drop (end + 1) rest;
      text_is = sym (take-append-drop 7 text)
          ∙ ap (λ (l : List ℕ). take 7 text ++ l) (sym (take-append-drop end rest));
      front_is = has;
      some = omega (arith, some, before, within, taken);
      no_slash = ap (λ (n : ℕ). list_any (λ b. b == slash) (take n rest)) at.is ∙ plain-front slash rest;
      no_question = none-before question end rest (omega (arith, before));
      asked_is = slash-there rest end at;
    }

-- what is asked is the text, or the text is its absolute form
pub asked-found : (text : List ℕ) → (path_and_query text ≡ text) ⊎ IsAbsolute text (path_and_query text)
unfolding path_and_query
asked-found text = by_scheme (has_scheme text) (authority_end (drop 7 text)) refl refl
  where
    by_scheme : (has : Bool) (end : Option ℕ) → has_scheme text ≡ has → authority_end (drop 7 text) ≡ end
        → (path_and_query text ≡ text) ⊎ IsAbsolute text (path_and_query text)
    by_scheme false end one two = inl (cond-false _ _ _ one)
    by_scheme true None one two =
        inl (cond-true _ _ _ one ∙ ap (behind_authority text (drop 7 text)) two)
    by_scheme true (Some end) one two =
        let is : path_and_query text ≡ drop end (drop 7 text) =
        cond-true _ _ _ one ∙ ap (behind_authority text (drop 7 text)) two in
        inr (subst (IsAbsolute text) (sym is) (made-absolute text end one two))
