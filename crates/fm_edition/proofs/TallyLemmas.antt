-- How much is left where an operation takes some files out, and how much there is where it adds one.
use Rattle.std.proofs.Common.{◌≡◌, ℕ, ◌+◌, ◌-◌, ◌<◌, ◌≤◌, Bool, true, false, List, [], ◌∷◌, ◌++◌, None, refl, sym, ap, subst, ◌∙◌, length, arith}
use Rattle.std.specs.Prelude.{filter, nat_lt, not, sum_by}
use Rattle.std.proofs.lemmas.Bool.{ltb-true}
use Rattle.std.proofs.lemmas.List.{append-nil, length-append}
use Rattle.std.proofs.lemmas.List.Filters.{length-filter_both, sum_by-filter_both}
use Rattle.std.proofs.lemmas.List.Sums.{sum_by-append}
use Rattle.fm_model.specs.declared.full.Tally.{Tally}
use Rattle.fm_model.specs.declared.full.Which.TheVariants.{Files, Rows, Size}
use Rattle.fm_model.specs.declared.limit.TheConstants.{MAX_FILES, MAX_ROWS, MAX_BYTES}
use Rattle.fm_model.specs.declared.loaded.Loaded.{Loaded}
use Rattle.fm_model.specs.declared.op.Op.{Op}
use Rattle.fm_model.specs.declared.op.Op.TheVariants.{Put, Expire, Retract}
use Rattle.fm_model.specs.Collection.{after_op, full_at, full_of, tally, IsWithin}
use Rattle.fm_model.proofs.FullLemmas.{full-expire}
use Rattle.fm_list.specs.Change.{added, gone, keeps}
use Rattle.fm_edition.specs.Amounts.{less, with_added, IsPartOf}
use Rattle.fm_edition.specs.Pieces.{IsNear}
use Rattle.fm_edition.proofs.ChangeLemmas.{after_op-is}

-- what is within the limits, as three bounds
pub record Bounds (files : List Loaded) : Type 0 where
  pub count : length files ≤ MAX_FILES
  pub rows : sum_by (λ (f : Loaded). length f.times) files ≤ MAX_ROWS
  pub size : sum_by (λ (f : Loaded). length f.content) files ≤ MAX_BYTES

-- the bounds of a collection within the limits
pub bounds : (files : List Loaded) → IsWithin (tally files) → Bounds files
unfolding tally
bounds files within = record { count = within Files; rows = within Rows; size = within Size }

-- what an operation leaves of some files, and what it takes out, are all of them
count_parts : (files : List Loaded) (op : Op) → length (filter (keeps op) files) + length (gone files op) ≡ length files
unfolding gone
count_parts files op = length-filter_both (keeps op) (λ f. not (keeps op f)) (λ f. refl) files

sum_parts : (weight : Loaded → ℕ) (files : List Loaded) (op : Op)
    → sum_by weight (filter (keeps op) files) + sum_by weight (gone files op) ≡ sum_by weight files
unfolding gone
sum_parts weight files op = sum_by-filter_both (keeps op) (λ f. not (keeps op f)) (λ f. refl) weight files

-- what an operation takes out is part of what is held
pub IsPartOf-gone : (files : List Loaded) (op : Op) → IsPartOf (tally files) (tally (gone files op))
unfolding tally
IsPartOf-gone files op =
    let rows = λ (f : Loaded). length f.times in
    let size = λ (f : Loaded). length f.content in
    let count_is = count_parts files op in
    let rows_is = sum_parts rows files op in
    let size_is = sum_parts size files op in
    record { files = omega (arith, count_is); rows = omega (arith, rows_is); size = omega (arith, size_is) }

none_gone : (files : List Loaded) (op : Op) → IsPartOf (tally files) (tally (gone [] op))
unfolding tally gone
none_gone files op = record { files = omega arith; rows = omega arith; size = omega arith }

-- what an operation takes out of files near its name is part of what is held
pub IsPartOf-near : (files near : List Loaded) (op : Op) → IsNear files op near
    → IsPartOf (tally files) (tally (gone near op))
IsPartOf-near files near (Put file) is = subst (λ l. IsPartOf (tally files) (tally l)) (sym is)
    (IsPartOf-gone files (Put file))
IsPartOf-near files near (Expire cutoff) is = subst (λ l. IsPartOf (tally files) (tally (gone l (Expire cutoff))))
    (sym is) (none_gone files (Expire cutoff))
IsPartOf-near files near (Retract name) is = subst (λ l. IsPartOf (tally files) (tally l)) (sym is)
    (IsPartOf-gone files (Retract name))

-- a part of what is within the limits is within them
pub part_within : (held part : Tally) → IsPartOf held part → IsWithin held → IsWithin part
part_within held part is within Files = let most : held.files ≤ MAX_FILES = within Files in omega
    (arith, most, is.files)
part_within held part is within Rows = let most : held.rows ≤ MAX_ROWS = within Rows in omega (arith, most, is.rows)
part_within held part is within Size = let most : held.size ≤ MAX_BYTES = within Size in omega (arith, most, is.size)

-- and so is what is left without it
pub less_within : (held part : Tally) → IsWithin held → IsWithin (less held part)
less_within held part within Files = let most : held.files ≤ MAX_FILES = within Files in omega (arith, most)
less_within held part within Rows = let most : held.rows ≤ MAX_ROWS = within Rows in omega (arith, most)
less_within held part within Size = let most : held.size ≤ MAX_BYTES = within Size in omega (arith, most)

not_passed : (limit held : ℕ) → held ≤ limit → nat_lt limit held ≡ false
not_passed limit held most = by_test (nat_lt limit held) refl
  where
    by_test : (b : Bool) → nat_lt limit held ≡ b → nat_lt limit held ≡ false
    by_test false is = is
    by_test true is = let more : limit < held = ltb-true limit held is in absurd (omega (arith, more, most))

-- nothing passes a limit where all is within them
pub full_of-within : (held : Tally) → IsWithin held → full_of held ≡ None
unfolding full_of
full_of-within held within =
    let files = not_passed MAX_FILES held.files (within Files) in
    let rows = not_passed MAX_ROWS held.rows (within Rows) in
    let size = not_passed MAX_BYTES held.size (within Size) in
    rw (files, rows, size) refl

left_is : (files : List Loaded) (op : Op) → tally (filter (keeps op) files) ≡ less (tally files) (tally (gone files op))
unfolding tally
left_is files op =
    let rows = λ (f : Loaded). length f.times in
    let size = λ (f : Loaded). length f.content in
    let left = filter (keeps op) files in
    let out = gone files op in
    let count_is : length left ≡ length files - length out = omega (arith, count_parts files op) in
    let rows_is : sum_by rows left ≡ sum_by rows files - sum_by rows out = omega (arith, sum_parts rows files op) in
    let size_is : sum_by size left ≡ sum_by size files - sum_by size out = omega (arith, sum_parts size files op) in
    cc (count_is, rows_is, size_is)

-- how much there is once an operation has added its file
pub added_is : (left : List Loaded) (op : Op) → tally (left ++ added op) ≡ with_added op (tally left)
unfolding tally
added_is left (Put file) =
    let rows = λ (f : Loaded). length f.times in
    let size = λ (f : Loaded). length f.content in
    let count_is : length (left ++ file ∷ []) ≡ length left + 1 = length-append left (file ∷ []) in
    let rows_is : sum_by rows (left ++ file ∷ [])
    ≡ sum_by rows left + length file.times = omega (arith, sum_by-append rows left (file ∷ [])) in
    let size_is : sum_by size (left ++ file ∷ [])
    ≡ sum_by size left + length file.content = omega (arith, sum_by-append size left (file ∷ [])) in
    cc (count_is, rows_is, size_is)
added_is left (Expire cutoff) = ap tally (append-nil left)
added_is left (Retract name) = ap tally (append-nil left)

-- how much there is after an operation
pub tally-after : (files : List Loaded) (op : Op)
    → tally (after_op files op) ≡ with_added op (less (tally files) (tally (gone files op)))
tally-after files op = ap tally (after_op-is files op) ∙ added_is (filter (keeps op) files) op
    ∙ ap (with_added op) (left_is files op)

-- there is room for the file of a put
pub record HasRoom (file : Loaded) (left : Tally) : Type 0 where
  pub files : left.files < MAX_FILES
  pub rows : left.rows + length file.times ≤ MAX_ROWS
  pub size : left.size + length file.content ≤ MAX_BYTES

pub HasRoom-put : (file : Loaded) (op : Op) (left : Tally) → op ≡ Put file → IsWithin (with_added op left)
    → HasRoom file left
HasRoom-put file op left is within =
    let put : IsWithin (with_added (Put file) left) = subst (λ o. IsWithin (with_added o left)) is within in
    let most : left.files + 1 ≤ MAX_FILES = put Files in
    record { files = omega (arith, most); rows = put Rows; size = put Size }

-- what there is too much of after an operation
pub full-after : (files : List Loaded) (op : Op)
    → full_of (with_added op (less (tally files) (tally (gone files op)))) ≡ full_at files op
unfolding full_at
full-after files op = ap full_of (sym (tally-after files op))

-- the same, by the files near the operation's name
pub full-near : (files near : List Loaded) (op : Op) → IsWithin (tally files) → IsNear files op near
    → full_of (with_added op (less (tally files) (tally (gone near op)))) ≡ full_at files op
full-near files near (Put file) within is =
    ap (λ l. full_of (with_added (Put file) (less (tally files) (tally l)))) is ∙ full-after files (Put file)
full-near files near (Expire cutoff) within is =
    full_of-within (less (tally files) (tally (gone near (Expire cutoff))))
    (less_within (tally files) (tally (gone near (Expire cutoff))) within) ∙ sym (full-expire files cutoff within)
full-near files near (Retract name) within is =
    ap (λ l. full_of (with_added (Retract name) (less (tally files) (tally l)))) is ∙ full-after files (Retract name)
