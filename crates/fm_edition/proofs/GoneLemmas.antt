-- How much an operation takes out of some files, from one file to the next.
use Rattle.std.proofs.Common.{◌≡◌, ℕ, ◌+◌, ◌<◌, ◌≤◌, Bool, true, false, List, [], ◌∷◌, ◌++◌, length, get_or, take, drop, refl, sym, ap, subst, ◌∙◌, arith}
use Rattle.std.specs.Prelude.{filter, not, sum_by}
use Rattle.std.proofs.lemmas.List.{append-nil, append_assoc, length-append, take-append-drop}
use Rattle.std.proofs.lemmas.Grind.{flat_map-append}
use Rattle.std.proofs.lemmas.List.Sums.{sum_by-append}
use Rattle.fm_model.specs.declared.full.Tally.{Tally}
use Rattle.fm_model.specs.declared.full.Which.TheVariants.{Files, Rows, Size}
use Rattle.fm_model.specs.declared.limit.TheConstants.{MAX_FILES, MAX_ROWS, MAX_BYTES}
use Rattle.fm_model.specs.declared.loaded.Loaded.{Loaded}
use Rattle.fm_model.specs.declared.op.Op.{Op}
use Rattle.fm_model.specs.declared.op.Op.TheVariants.{Put}
use Rattle.fm_model.specs.Collection.{tally, IsWithin}
use Rattle.fm_list.specs.Change.{gone, keeps}
use Rattle.fm_edition.specs.Amounts.{plus, with_added}
use Rattle.fm_edition.specs.Pieces.{joined}
use Rattle.fm_edition.proofs.KeepLemmas.{filter_next}
use Rattle.fm_edition.proofs.PieceLemmas.{gone-append, gone-more_pieces}
use Rattle.fm_edition.proofs.TallyLemmas.{added_is, HasRoom, HasRoom-put}

-- one file more that stays
pub tally-kept : (files : List Loaded) (op : Op) (at : ℕ) (file : Loaded) → at < length files
    → file ≡ get_or files at file → keeps op file ≡ true
    → tally (gone (take (at + 1) files) op) ≡ tally (gone (take at files) op)
unfolding gone
tally-kept files op at file lt is stays =
    let out = λ (f : Loaded). not (keeps op f) in
    let none : filter out (file ∷ []) ≡ [] = rw stays refl in
    ap tally (filter_next out files at file lt is ∙ ap (λ l. filter out (take at files) ++ l) none
    ∙ append-nil (filter out (take at files)))

-- one file more that goes
pub tally-gone : (files : List Loaded) (op : Op) (at : ℕ) (file : Loaded) → at < length files
    → file ≡ get_or files at file → keeps op file ≡ false
    → tally (gone (take (at + 1) files) op) ≡ with_added (Put file) (tally (gone (take at files) op))
unfolding gone
tally-gone files op at file lt is goes =
    let out = λ (f : Loaded). not (keeps op f) in
    let one : filter out (file ∷ []) ≡ file ∷ [] = rw goes refl in
    ap tally (filter_next out files at file lt is ∙ ap (λ l. filter out (take at files) ++ l) one)
    ∙ added_is (filter out (take at files)) (Put file)

-- an amount is its three numbers
whole : (amount : Tally) → record { files = amount.files; rows = amount.rows; size = amount.size } ≡ amount
whole amount = refl

-- amounts with those of no files
pub plus-none : (before : Tally) → plus before (tally []) ≡ before
unfolding tally
plus-none before =
    let count : before.files + 0 ≡ before.files = omega arith in
    let rows : before.rows + 0 ≡ before.rows = omega arith in
    let size : before.size + 0 ≡ before.size = omega arith in
    let same : plus before (tally []) ≡ record { files = before.files; rows = before.rows; size = before.size } =
    cc (count, rows, size) in
    same ∙ whole before

-- the amounts of two lists
pub plus-append : (files more : List Loaded) → plus (tally files) (tally more) ≡ tally (files ++ more)
unfolding tally
plus-append files more =
    let rows = λ (f : Loaded). length f.times in
    let size = λ (f : Loaded). length f.content in
    let count_is = length-append files more in
    let rows_is = sum_by-append rows files more in
    let size_is = sum_by-append size files more in
    cc (count_is, rows_is, size_is)

-- a file that is added to one of two amounts
pub plus-added : (file : Loaded) (before left : Tally)
    → with_added (Put file) (plus before left) ≡ plus before (with_added (Put file) left)
plus-added file before left =
    let count : (before.files + left.files) + 1 ≡ before.files + (left.files + 1) = omega arith in
    let rows : (before.rows + left.rows) + length file.times ≡ before.rows + (left.rows + length file.times) =
    omega arith in
    let size : (before.size + left.size) + length file.content ≡ before.size + (left.size + length file.content) =
    omega arith in
    cc (count, rows, size)

-- the first of some files are within the limits with others, if all of them are
within_front : (before : Tally) (front back : List Loaded) → IsWithin (plus before (tally (front ++ back)))
    → IsWithin (plus before (tally front))
unfolding tally
within_front before front back within Files =
    let most : before.files + length (front ++ back) ≤ MAX_FILES = within Files in
    omega (arith, most, length-append front back)
within_front before front back within Rows =
    let rows = λ (f : Loaded). length f.times in
    let most : before.rows + sum_by rows (front ++ back) ≤ MAX_ROWS = within Rows in
    omega (arith, most, sum_by-append rows front back)
within_front before front back within Size =
    let size = λ (f : Loaded). length f.content in
    let most : before.size + sum_by size (front ++ back) ≤ MAX_BYTES = within Size in
    omega (arith, most, sum_by-append size front back)

-- what goes of the first of two lists is within the limits, if all that goes is
pub within_gone : (before : Tally) (files more : List Loaded) (op : Op)
    → IsWithin (plus before (tally (gone (files ++ more) op))) → IsWithin (plus before (tally (gone files op)))
within_gone before files more op within = within_front before (gone files op) (gone more op)
    (subst (λ l. IsWithin (plus before (tally l))) (gone-append files more op) within)

-- what goes of the first files is within the limits, if all that goes is
within_first : (before : Tally) (files : List Loaded) (op : Op) (count : ℕ)
    → IsWithin (plus before (tally (gone files op))) → IsWithin (plus before (tally (gone (take count files) op)))
within_first before files op count within = within_gone before (take count files) (drop count files) op
    (subst (λ l. IsWithin (plus before (tally (gone l op)))) (sym (take-append-drop count files)) within)

-- there is room for one file more that goes
pub HasRoom-gone : (before : Tally) (files : List Loaded) (op : Op) (at : ℕ) (file : Loaded) → at < length files
    → file ≡ get_or files at file → keeps op file ≡ false → IsWithin (plus before (tally (gone files op)))
    → HasRoom file (plus before (tally (gone (take at files) op)))
HasRoom-gone before files op at file lt is goes within =
    HasRoom-put file (Put file) (plus before (tally (gone (take at files) op))) refl
    (subst IsWithin (ap (plus before) (tally-gone files op at file lt is goes)
    ∙ sym (plus-added file before (tally (gone (take at files) op))))
    (within_first before files op (at + 1) within))

-- what goes of one piece more is within the limits, if all that goes is
pub within_piece : (pieces : List (List Loaded)) (last : List Loaded) (op : Op) (at : ℕ) (piece : List Loaded)
    → at < length pieces → piece ≡ get_or pieces at piece → IsWithin (tally (gone (joined pieces ++ last) op))
    → IsWithin (plus (tally (gone (joined (take at pieces)) op)) (tally (gone piece op)))
within_piece pieces last op at piece lt is within =
    subst IsWithin (ap tally (gone-more_pieces op pieces at piece lt
    ∙ ap (λ (p : List Loaded). gone (joined (take at pieces)) op ++ gone p op) (sym is))
    ∙ sym (plus-append (gone (joined (take at pieces)) op) (gone piece op)))
    (subst IsWithin (none_before (tally (gone (joined (take (at + 1) pieces)) op)))
    (within_gone none (joined (take (at + 1) pieces)) (joined (drop (at + 1) pieces) ++ last) op
    (subst IsWithin (sym (none_before (tally (gone (joined pieces ++ last) op)))
    ∙ ap (λ l. plus none (tally (gone l op))) (sym split)) within)))
  where
    none : Tally
    none = record { files = 0; rows = 0; size = 0 }

    none_before : (left : Tally) → plus none left ≡ left
    none_before left =
        let count : 0 + left.files ≡ left.files = omega arith in
        let rows : 0 + left.rows ≡ left.rows = omega arith in
        let size : 0 + left.size ≡ left.size = omega arith in
        let same : plus none left ≡ record { files = left.files; rows = left.rows; size = left.size } =
        cc (count, rows, size) in
        same ∙ whole left

    split : joined (take (at + 1) pieces) ++ (joined (drop (at + 1) pieces) ++ last) ≡ joined pieces ++ last
    split = sym (append_assoc (joined (take (at + 1) pieces)) (joined (drop (at + 1) pieces)) last)
        ∙ ap (λ l. l ++ last) (sym (flat_map-append (λ (p : List Loaded). p) (take (at + 1) pieces)
        (drop (at + 1) pieces)) ∙ ap joined (take-append-drop (at + 1) pieces))

-- what goes of the pieces, and of one more or of the last files
pub plus-piece : (pieces : List (List Loaded)) (op : Op) (at : ℕ) (piece : List Loaded) → at < length pieces
    → piece ≡ get_or pieces at piece
    → plus (tally (gone (joined (take at pieces)) op)) (tally (gone piece op))
    ≡ tally (gone (joined (take (at + 1) pieces)) op)
plus-piece pieces op at piece lt is = plus-append (gone (joined (take at pieces)) op) (gone piece op)
    ∙ ap tally (ap (λ (p : List Loaded). gone (joined (take at pieces)) op ++ gone p op) is
    ∙ sym (gone-more_pieces op pieces at piece lt))

pub plus-last : (files last : List Loaded) (op : Op)
    → plus (tally (gone files op)) (tally (gone last op)) ≡ tally (gone (files ++ last) op)
plus-last files last op = plus-append (gone files op) (gone last op) ∙ ap tally (sym (gone-append files last op))

-- what goes of the files that go is all of them
pub gone-gone : (files : List Loaded) (op : Op) → gone (gone files op) op ≡ gone files op
unfolding gone
gone-gone [] op = refl
gone-gone (file ∷ files) op = by_test (keeps op file) refl (gone-gone files op)
  where
    out : Loaded → Bool
    out f = not (keeps op f)

    by_test : (stays : Bool) → keeps op file ≡ stays → filter out (filter out files) ≡ filter out files
        → filter out (filter out (file ∷ files)) ≡ filter out (file ∷ files)
    by_test true is more = simp is more
    by_test false is more = simp is (ap (λ l. file ∷ l) more)
