-- The label of a target is a word: one byte or more, each of a name, a point or a colon.
use Rattle.std.proofs.Common.{◌≡◌, ℕ, suc, ◌+◌, ◌/◌, ◌%◌, ◌^◌, ◌<◌, ◌||◌, ◌==◌, leb, Bool, true, false, List, [], ◌∷◌, ◌++◌, length, codes, refl, sym, ap, subst, ◌∙◌, arith, append_assoc, ℤ, pos, negsuc, ◌+ℤ◌}
use Rattle.std.specs.Prelude.{unsigned_abs, IsTrue}
use Rattle.std.specs.Int.{int_div_euclid, int_rem_euclid}
use Rattle.std.specs.Fmt.{decimal, signed_decimal}
use Rattle.std.specs.List.{flat_map, list_all, list_any}
use Rattle.std.proofs.lemmas.Bool.{and_from, and_parts, eqb-true, false≢true, le-leb, ltb-true, or_left}
use Rattle.std.proofs.lemmas.Fmt.{decimal_by_steps}
use Rattle.std.proofs.lemmas.List.{length-append}
use Rattle.std.proofs.lemmas.List.Folds.{list_all-append}
use Rattle.fm_base.specs.Name.{is_name_byte}
use Rattle.nc_model.specs.Instant.{day_of, instant_text_of, month_of, text_of_day, two_digits, year_of}
use Rattle.fm_model.specs.declared.row.ViewName.{ViewName}
use Rattle.fm_model.specs.declared.row.ViewName.TheVariants.{Best, BestFrom, Run, Offset, Forecast}
use Rattle.fm_model.specs.declared.site.Site.{Site}
use Rattle.fm_model.specs.Prototype.{is_plain_name}
use Rattle.fm_model.specs.Site.{IsSite}
use Rattle.fm_model.proofs.Members.{Each}
use Rattle.web_path.specs.Path.{basic, extended, fits_i64, path_of, root_of, spelled, CanBeWritten, Spelling}
use Rattle.web_path.specs.Target.{label_of, last_part}
use Rattle.web_path.proofs.CutLemmas.{rsplit-joined}
use Rattle.dap_client.specs.Message.{is_label_byte, IsWord}

-- each byte of a text is one of a label
abbrev IsSaid : List ℕ → Type 0
IsSaid text = IsTrue (list_all is_label_byte text)

joined : (front back : List ℕ) → IsSaid front → IsSaid back → IsSaid (front ++ back)
joined front back first second = list_all-append is_label_byte front back ∙ and_from _ _ first second

-- ---- digits

alphanumeric : (digit : ℕ) → digit < 10 → is_name_byte (48 + digit) ≡ true
unfolding is_name_byte
alphanumeric digit below =
    let byte : ℕ = 48 + digit in
    or_left _ _ (or_left _ _ (or_left _ _ (or_left _ _
    (and_from (leb 48 byte) (leb byte 57) (le-leb 48 byte (omega arith)) (le-leb byte 57 (omega (arith, below)))))))

digit_said : (digit : ℕ) → digit < 10 → is_label_byte (48 + digit) ≡ true
unfolding is_label_byte
digit_said digit below = or_left _ _ (or_left _ _ (alphanumeric digit below))

said_one : (byte : ℕ) → is_label_byte byte ≡ true → IsSaid (byte ∷ [])
said_one byte is = and_from _ _ is refl

said_decimal : (n : ℕ) → n < 2 ^ 64 → IsSaid (decimal n)
said_decimal n small = decimal_by_steps (λ (m : ℕ) (digits : List ℕ). IsSaid digits)
    (λ m below. said_one (48 + m) (digit_said m below))
    (λ m digits ten before. joined digits ((48 + m % 10) ∷ []) before
    (said_one (48 + m % 10) (digit_said (m % 10) (omega arith)))) n small

said_signed : (z : ℤ) → fits_i64 z ≡ true → IsSaid (signed_decimal z)
unfolding is_label_byte is_name_byte
said_signed (pos n) fits = said_decimal n (let small = ltb-true n (2 ^ 63) fits in omega (arith, small))
said_signed (negsuc n) fits =
    and_from _ _ refl (said_decimal (suc n) (let small = ltb-true n (2 ^ 63) fits in omega (arith, small)))

said_two : (n : ℕ) → IsSaid (two_digits n)
said_two n =
    and_from _ _ (digit_said (n / 10 % 10) (omega arith)) (said_one (48 + n % 10) (digit_said (n % 10) (omega arith)))

-- ---- texts

said_name : (name : List ℕ) → IsTrue (is_plain_name name) → IsSaid name
unfolding is_plain_name is_label_byte
said_name [] plain = refl
said_name (byte ∷ name) plain =
    let parts = and_parts (is_name_byte byte) (list_all is_name_byte name) plain in
    and_from _ _ (or_left _ _ (or_left _ _ parts.0)) (said_name name parts.1)

-- texts one after the other
said_each : (texts : List (List ℕ)) → Each IsSaid texts → IsSaid (flat_map (λ (text : List ℕ). text) texts)
said_each [] each = refl
said_each (text ∷ texts) each =
    joined text (flat_map (λ (t : List ℕ). t) texts) each.0 (said_each texts each.1)

-- an instant with its marks, and without them
said_marked : (century year month day hour minute second : ℕ) → IsSaid (two_digits century ++ two_digits year
    ++ codes "-" ++ two_digits month ++ codes "-" ++ two_digits day ++ codes "T" ++ two_digits hour
    ++ codes ":" ++ two_digits minute ++ codes ":" ++ two_digits second ++ codes "Z")
unfolding is_label_byte is_name_byte
said_marked century year month day hour minute second = said_each
    (two_digits century ∷ two_digits year ∷ codes "-" ∷ two_digits month ∷ codes "-" ∷ two_digits day ∷ codes "T"
    ∷ two_digits hour ∷ codes ":" ∷ two_digits minute ∷ codes ":" ∷ two_digits second ∷ codes "Z" ∷ []) (
      said_two century,
      (
        said_two year,
        (
          refl,
          (
            said_two month,
            (
              refl,
              (
                said_two day,
                (
                  refl,
                  (
                    said_two hour,
                    (
                      refl,
                      (said_two minute, (refl, (said_two second, (refl, tt)))),
                    ),
                  ),
                ),
              ),
            ),
          ),
        ),
      ),
    )

said_unmarked : (century year month day hour minute second : ℕ) → IsSaid (two_digits century ++ two_digits year
    ++ two_digits month ++ two_digits day ++ codes "T" ++ two_digits hour ++ two_digits minute
    ++ two_digits second ++ codes "Z")
unfolding is_label_byte is_name_byte
said_unmarked century year month day hour minute second = said_each
    (two_digits century ∷ two_digits year ∷ two_digits month ∷ two_digits day ∷ codes "T" ∷ two_digits hour
    ∷ two_digits minute ∷ two_digits second ∷ codes "Z" ∷ []) (
      said_two century,
      (
        said_two year,
        (
          said_two month,
          (
            said_two day,
            (
              refl,
              (
                said_two hour,
                (
                  said_two minute,
                  (said_two second, (refl, tt)),
                ),
              ),
            ),
          ),
        ),
      ),
    )

said_instant : (spelling : Spelling) (t : ℤ) → IsSaid (spelled spelling t)
unfolding instant_text_of text_of_day
said_instant extended t =
    let day : ℤ = int_div_euclid t (pos 86_400) in
    let seconds : ℕ = unsigned_abs (int_rem_euclid t (pos 86_400)) in
    said_marked (year_of day / 100) (year_of day) (month_of day) (day_of day) (seconds / 3600) (seconds / 60 % 60)
    (seconds % 60)
said_instant basic t =
    let day : ℤ = int_div_euclid t (pos 86_400) in
    let seconds : ℕ = unsigned_abs (int_rem_euclid t (pos 86_400)) in
    said_unmarked (year_of day / 100) (year_of day) (month_of day) (day_of day) (seconds / 3600) (seconds / 60 % 60)
    (seconds % 60)

-- ---- the last segment of a path

no_slash : (text : List ℕ) → IsSaid text → list_any (λ b. b == 47) text ≡ false
unfolding is_label_byte is_name_byte
no_slash [] said = refl
no_slash (byte ∷ text) said =
    let parts = and_parts (is_label_byte byte) (list_all is_label_byte text) said in
    by_test (byte == 47) refl parts.0 (no_slash text parts.1)
  where
    by_test : (b : Bool) → (byte == 47) ≡ b → is_label_byte byte ≡ true → list_any (λ b. b == 47) text ≡ false
        → (b || list_any (λ b. b == 47) text) ≡ false
    by_test true same is more = absurd (false≢true (sym (ap is_label_byte (eqb-true byte 47 same)) ∙ is))
    by_test false same is more = more

-- the label of a path whose last segment has bytes of labels alone
last_of : (front last : List ℕ) → IsSaid last → label_of (front ++ 47 ∷ last) ≡ last
unfolding label_of
last_of front last said = ap (last_part (front ++ 47 ∷ last)) (rsplit-joined 47 front last (no_slash last said))

-- a text of such bytes that begins with a name
record IsLast (path last : List ℕ) : Type 0 where
  front : List ℕ
  path_is : path ≡ front ++ 47 ∷ last
  some : 0 < length last
  said : IsSaid last

label_from : (path last : List ℕ) → IsLast path last → IsWord is_label_byte (label_of path)
label_from path last is =
    let same : label_of path ≡ last = ap label_of is.path_is ∙ last_of is.front last is.said in
    subst (IsWord is_label_byte) (sym same) (record { some = is.some; bytes = is.said })

-- the last segment behind a folder of the collection, and behind the collection
in_folder : (site : Site) (folder last : List ℕ) → 0 < length last → IsSaid last
    → IsLast (root_of site ++ (folder ++ 47 ∷ last)) last
in_folder site folder last some said = record {
  front = root_of site ++ folder;
  path_is = sym (append_assoc (root_of site) folder (47 ∷ last));
  some = some;
  said = said;
}

at_root : (site : Site) (last : List ℕ) → 0 < length last → IsSaid last → IsLast (root_of site ++ last) last
at_root site last some said = record {
  front = codes "/thredds/dodsC/" ++ site.name;
  path_is = append_assoc (codes "/thredds/dodsC/" ++ site.name) (codes "/") last;
  some = some;
  said = said;
}

module _ (site : Site) (is : IsSite site) where
  said_marked_name : (mark : List ℕ) → IsSaid mark → IsSaid (site.name ++ mark)
  said_marked_name mark said = joined site.name mark (said_name site.name is.plain) said

  long_name : (mark : List ℕ) → 0 < length (site.name ++ mark)
  long_name mark = let some = is.some in omega (arith, some, length-append site.name mark)

  seconds_last : (folder mark : List ℕ) (z : ℤ) → IsSaid mark → fits_i64 z ≡ true
      → IsLast (root_of site ++ (folder ++ 47 ∷ (site.name ++ mark ++ signed_decimal z ++ codes "s")))
      (site.name ++ mark ++ signed_decimal z ++ codes "s")
  unfolding is_label_byte is_name_byte
  seconds_last folder mark z said fits =
      let front : List ℕ = site.name ++ mark ++ signed_decimal z in
      in_folder site folder (front ++ codes "s") (omega (arith, length-append front (codes "s")))
      (joined front (codes "s")
      (joined (site.name ++ mark) (signed_decimal z) (said_marked_name mark said) (said_signed z fits)) refl)

  instant_last : (folder mark : List ℕ) (spelling : Spelling) (t : ℤ) → IsSaid mark
      → IsLast (root_of site ++ (folder ++ 47 ∷ (site.name ++ mark ++ spelled spelling t)))
      (site.name ++ mark ++ spelled spelling t)
  instant_last folder mark spelling t said =
      let some = long_name mark in
      in_folder site folder (site.name ++ mark ++ spelled spelling t)
      (omega (arith, some, length-append (site.name ++ mark) (spelled spelling t)))
      (joined (site.name ++ mark) (spelled spelling t) (said_marked_name mark said) (said_instant spelling t))

  -- the label of the path of each view is a word
  pub label-word : (spelling : Spelling) (view : ViewName) → CanBeWritten site view
      → IsWord is_label_byte (label_of (path_of site spelling view))
  unfolding path_of is_label_byte is_name_byte
  label-word spelling Best written = label_from _ _ (at_root site (site.name ++ codes "_best.ncd")
      (long_name (codes "_best.ncd")) (said_marked_name (codes "_best.ncd") refl))
  label-word spelling (BestFrom least) written =
      label_from _ _ (seconds_last (codes "best") (codes "_BestGE_") least refl written)
  label-word spelling (Run run) written =
      label_from _ _ (instant_last (codes "runs") (codes "_RUN_") spelling (site.epoch +ℤ run) refl)
  label-word spelling (Offset offset) written =
      label_from _ _ (seconds_last (codes "offset") (codes "_Offset_") offset refl written)
  label-word spelling (Forecast valid) written =
      label_from _ _ (instant_last (codes "forecast") (codes "_ConstantForecast_") spelling (site.epoch +ℤ valid) refl)
