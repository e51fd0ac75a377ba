-- The first limit that is passed.
use Rattle.std.proofs.Common.{◌≡◌, ◌≢◌, ◌↔◌, ℕ, ◌+◌, ◌<◌, ◌≤◌, length, All, AllPairs, Any, Bool, true, false, cond, List, Option, Some, None, ℤ, refl, sym, ap, ap₂, subst, ◌∙◌, inl, inr, arith}
use Rattle.std.specs.Prelude.{filter, int_le, nat_lt, not, sum_by}
use Rattle.std.specs.Str.{bytes_eq}
use Rattle.std.proofs.lemmas.Bool.{ltb-true, ltb-false, cases_order}
use Rattle.std.proofs.lemmas.List.Filters.{length-filter_both, sum_by-filter_both}
use Rattle.std.proofs.lemmas.Option.{none-some, same_Some}
use Rattle.fm_model.specs.declared.full.Full.{Full as TooMany}
use Rattle.fm_model.specs.declared.full.Tally.{Tally}
use Rattle.fm_model.specs.declared.full.Which.{Which}
use Rattle.fm_model.specs.declared.full.Which.TheVariants.{Files, Rows, Size}
use Rattle.fm_model.specs.declared.limit.TheConstants.{MAX_FILES, MAX_ROWS, MAX_BYTES}
use Rattle.fm_model.specs.declared.loaded.Loaded.{Loaded}
use Rattle.fm_model.specs.declared.op.Op.{Op}
use Rattle.fm_model.specs.declared.op.Op.TheVariants.{Put, Expire, Retract}
use Rattle.fm_model.specs.Collection.{DifferInName, after_op, kept_from, without, tally, full_of, full_at, number_of, limit_of, order_of, IsWithin, IsFirstPassed}
use Rattle.fm_model.proofs.CollectionLemmas.{length-put_held, length-put_new}
use Rattle.fm_model.proofs.LastLemmas.{no_value}

-- which limit is passed first, if any
abbrev passed : Which → Tally → TooMany
passed which held = record { which = which; held = number_of which held; limit = limit_of which }

within : (held : Tally) → held.files ≤ MAX_FILES → held.rows ≤ MAX_ROWS → held.size ≤ MAX_BYTES → IsWithin held
within held files rows size Files = files
within held files rows size Rows = rows
within held files rows size Size = size

none_before_files : (held : Tally) (which : Which) → order_of which < 0 → number_of which held ≤ limit_of which
none_before_files held which lt = absurd (omega arith)

before_rows : (held : Tally) → held.files ≤ MAX_FILES → (which : Which) → order_of which < 1
    → number_of which held ≤ limit_of which
before_rows held files Files lt = files
before_rows held files Rows lt = absurd (omega arith)
before_rows held files Size lt = absurd (omega arith)

before_size : (held : Tally) → held.files ≤ MAX_FILES → held.rows ≤ MAX_ROWS → (which : Which) → order_of which < 2
    → number_of which held ≤ limit_of which
before_size held files rows Files lt = files
before_size held files rows Rows lt = rows
before_size held files rows Size lt = absurd (omega arith)

-- the answer, in its four cases
data Answer (held : Tally) : Option TooMany → Type 0 where
  none : IsWithin held → Answer held None
  some : (which : Which) → IsFirstPassed held (passed which held) → Answer held (Some (passed which held))

answer_of : (held : Tally) → Answer held (full_of held)
unfolding full_of
answer_of held = by_tests (nat_lt MAX_FILES held.files) refl (nat_lt MAX_ROWS held.rows) refl
    (nat_lt MAX_BYTES held.size) refl
  where
    by_tests : (f : Bool) → nat_lt MAX_FILES held.files ≡ f → (r : Bool) → nat_lt MAX_ROWS held.rows ≡ r → (s : Bool)
        → nat_lt MAX_BYTES held.size ≡ s
        → Answer held (cond f (Some (passed Files held)) (cond r (Some (passed Rows held))
        (cond s (Some (passed Size held)) None)))
    by_tests true f r _ s _ = some Files
        (record {
          held_is = refl;
          limit_is = refl;
          passed = ltb-true MAX_FILES held.files f;
          first = none_before_files held;
        })
    by_tests false f true r s _ = some Rows
        (record {
          held_is = refl;
          limit_is = refl;
          passed = ltb-true MAX_ROWS held.rows r;
          first = before_rows held (ltb-false MAX_FILES held.files f);
        })
    by_tests false f false r true s = some Size
        (record {
          held_is = refl;
          limit_is = refl;
          passed = ltb-true MAX_BYTES held.size s;
          first = before_size held (ltb-false MAX_FILES held.files f) (ltb-false MAX_ROWS held.rows r);
        })
    by_tests false f false r false s = none
        (within held (ltb-false MAX_FILES held.files f) (ltb-false MAX_ROWS held.rows r)
        (ltb-false MAX_BYTES held.size s))

full_none : (held : Tally) → (full_of held ≡ None) ↔ IsWithin held
full_none held = (there (full_of held) (answer_of held), back (full_of held) (answer_of held))
  where
    there : (o : Option TooMany) → Answer held o → o ≡ None → IsWithin held
    there None (none within) e = within
    there (Some full) (some which first) e = absurd (no_value full e)

    back : (o : Option TooMany) → Answer held o → IsWithin held → o ≡ None
    back None (none _) within = refl
    back (Some full) (some which first) within = let fits = within which in absurd (omega (arith, first.passed, fits))

same_which : (a b : Which) → order_of a ≡ order_of b → a ≡ b
same_which Files Files e = refl
same_which Files Rows e = absurd (omega arith)
same_which Files Size e = absurd (omega arith)
same_which Rows Files e = absurd (omega arith)
same_which Rows Rows e = refl
same_which Rows Size e = absurd (omega arith)
same_which Size Files e = absurd (omega arith)
same_which Size Rows e = absurd (omega arith)
same_which Size Size e = refl

full_some : (held : Tally) (full : TooMany) → (full_of held ≡ Some full) ↔ IsFirstPassed held full
full_some held full = (there (full_of held) (answer_of held), back (full_of held) (answer_of held))
  where
    there : (o : Option TooMany) → Answer held o → o ≡ Some full → IsFirstPassed held full
    there None (none within) e = absurd (none-some full e)
    there (Some other) (some which first) e = subst (IsFirstPassed held) (same_Some other full e) first

    as_passed : (which : Which) → which ≡ full.which → IsFirstPassed held full → passed which held ≡ full
    as_passed which same first = ap (λ (w : Which). passed w held) same
        ∙ ap₂ (λ (h l : ℕ). record { which = full.which; held = h; limit = l }) (sym first.held_is) (sym first.limit_is)

    back : (o : Option TooMany) → Answer held o → IsFirstPassed held full → o ≡ Some full
    back None (none within) first = let fits = within full.which in absurd
        (omega (arith, first.passed, first.held_is, first.limit_is, fits))
    back (Some other) (some which mine) first = elim (cases_order (order_of which) (order_of full.which)) [
      | inl same ↦ ap Some (as_passed which (same_which which full.which same) first)
      | inr (inl before) ↦ let fits = first.first which before in absurd (omega (arith, mine.passed, fits))
      | inr (inr after) ↦ let fits = mine.first full.which after in absurd
          (omega (arith, first.passed, first.held_is, first.limit_is, fits))
    ]

-- there is room for an operation exactly where the collection after it is within the limits
pub full_at-none : (files : List Loaded) (op : Op) → (full_at files op ≡ None) ↔ IsWithin (tally (after_op files op))
unfolding full_at
full_at-none files op = full_none (tally (after_op files op))

pub full_at-some : (files : List Loaded) (op : Op) (full : TooMany)
    → (full_at files op ≡ Some full) ↔ IsFirstPassed (tally (after_op files op)) full
unfolding full_at
full_at-some files op full = full_some (tally (after_op files op)) full

expire-kept : (files : List Loaded) (cutoff : ℤ)
    → after_op files (Expire cutoff) ≡ filter (λ (f : Loaded). int_le cutoff f.run) files
unfolding after_op kept_from
expire-kept files cutoff = refl

retract-kept : (files : List Loaded) (name : List ℕ)
    → after_op files (Retract name) ≡ filter (λ (f : Loaded). not (bytes_eq f.name name)) files
unfolding after_op without
retract-kept files name = refl

-- what is kept of some files is no more than all of them
kept_within : (keep : Loaded → Bool) (files : List Loaded) → IsWithin (tally files)
    → IsWithin (tally (filter keep files))
unfolding tally
kept_within keep files within Files =
    let most : length files ≤ MAX_FILES = within Files in
    let both = length-filter_both keep (λ f. not (keep f)) (λ f. refl) files in
    omega (arith, most, both)
kept_within keep files within Rows =
    let most : sum_by (λ (f : Loaded). length f.times) files ≤ MAX_ROWS = within Rows in
    let both = sum_by-filter_both keep (λ f. not (keep f)) (λ f. refl) (λ (f : Loaded). length f.times) files in
    omega (arith, most, both)
kept_within keep files within Size =
    let most : sum_by (λ (f : Loaded). length f.content) files ≤ MAX_BYTES = within Size in
    let both = sum_by-filter_both keep (λ f. not (keep f)) (λ f. refl) (λ (f : Loaded). length f.content) files in
    omega (arith, most, both)

-- a collection within the limits has room for an expiry
pub full-expire : (files : List Loaded) (cutoff : ℤ) → IsWithin (tally files) → full_at files (Expire cutoff) ≡ None
full-expire files cutoff within = (full_at-none files (Expire cutoff)).1
    (subst (λ l. IsWithin (tally l)) (sym (expire-kept files cutoff))
    (kept_within (λ (f : Loaded). int_le cutoff f.run) files within))

-- a collection within the limits has room for a retraction
pub full-retract : (files : List Loaded) (name : List ℕ) → IsWithin (tally files) → full_at files (Retract name) ≡ None
full-retract files name within = (full_at-none files (Retract name)).1
    (subst (λ l. IsWithin (tally l)) (sym (retract-kept files name))
    (kept_within (λ (f : Loaded). not (bytes_eq f.name name)) files within))

pub full-new : (files : List Loaded) (file : Loaded) → length files ≡ MAX_FILES → All (DifferInName file) files
    → full_at files (Put file) ≡ Some (record { which = Files; held = MAX_FILES + 1; limit = MAX_FILES })
unfolding tally
full-new files file most new =
    let more : length (after_op files (Put file)) ≡ MAX_FILES + 1 = length-put_new files file new
    ∙ ap (λ n. n + 1) most in
    (full_at-some files (Put file) (record { which = Files; held = MAX_FILES + 1; limit = MAX_FILES })).1
    (record { held_is = sym more; limit_is = refl; passed = omega arith; first = λ which lt. absurd (omega arith) })

pub full-held : (files : List Loaded) (file : Loaded) (full : TooMany) → length files ≤ MAX_FILES
    → AllPairs DifferInName files → Any (λ (other : Loaded). other.name ≡ file.name) files
    → full_at files (Put file) ≡ Some full → full.which ≢ Files
unfolding tally
full-held files file full most differ held e same =
    let first = (full_at-some files (Put file) full).0 e in
    let count : full.held ≡ length (after_op files (Put file)) = first.held_is
    ∙ ap (λ w. number_of w (tally (after_op files (Put file)))) same in
    let limit : full.limit ≡ MAX_FILES = first.limit_is ∙ ap limit_of same in
    let as_many = length-put_held files file differ held in
    omega (arith, first.passed, count, limit, as_many)
