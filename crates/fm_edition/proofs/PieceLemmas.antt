-- What an operation leaves of files in pieces, and what it takes out of them.
use Rattle.std.proofs.Common.{◌≡◌, ℕ, ◌+◌, ◌<◌, Bool, true, false, List, [], ◌∷◌, ◌++◌, get_or, length, take, ℤ, refl, sym, ap, subst, ◌∙◌, arith}
use Rattle.std.specs.Prelude.{◌||◌, All, Contains, filter, int_lt, not}
use Rattle.std.specs.Cmp.{signed_Decides}
use Rattle.std.specs.List.{list_any}
use Rattle.std.specs.Ordering.{int_eq}
use Rattle.std.proofs.lemmas.Bool.{both_ways}
use Rattle.std.proofs.lemmas.Grind.{flat_map-append}
use Rattle.std.proofs.lemmas.List.{append-nil, append_assoc, take_more}
use Rattle.std.proofs.lemmas.List.Elements.{filter-append}
use Rattle.std.proofs.lemmas.List.Folds.{list_any-append, list_any-from_Any}
use Rattle.fm_model.specs.declared.loaded.Loaded.{Loaded}
use Rattle.fm_model.specs.declared.op.Op.{Op}
use Rattle.fm_model.specs.declared.op.Op.TheVariants.{Expire}
use Rattle.fm_model.specs.Collection.{after_op, holds_older}
use Rattle.fm_model.proofs.Members.{In, Each, All-from_each, Any-from_in, Contains-from_in, Each-from_in, Each-in, each_from_All, in_from_Contains, In-append_left, In-append_right, In-filter, In-flat_map}
use Rattle.fm_model.proofs.RetractLemmas.{expire-none}
use Rattle.fm_list.specs.Change.{added, gone, keeps, HasGone}
use Rattle.fm_edition.specs.Pieces.{joined}
use Rattle.fm_edition.proofs.ChangeLemmas.{after_op-is}

-- one more piece at the end
pub joined-push : (pieces : List (List Loaded)) (piece : List Loaded)
    → joined (pieces ++ piece ∷ []) ≡ joined pieces ++ piece
joined-push pieces piece = flat_map-append (λ (p : List Loaded). p) pieces (piece ∷ [])
    ∙ ap (λ l. joined pieces ++ l) (append-nil piece)

-- no files have none at their end
pub none-last : (files last : List Loaded) → files ++ last ≡ [] → last ≡ []
none-last [] last none = none
none-last (file ∷ files) last none =
    let count : length ((file ∷ files) ++ last) ≡ 0 = ap (λ (l : List Loaded). length l) none in
    absurd (omega (arith, count))

-- one more piece of those that are gone through
pub joined-more : (pieces : List (List Loaded)) (i : ℕ) (d : List Loaded) → i < length pieces
    → joined (take (i + 1) pieces) ≡ joined (take i pieces) ++ get_or pieces i d
joined-more pieces i d lt = ap joined (take_more pieces i d lt) ∙ joined-push (take i pieces) (get_or pieces i d)

-- what passes of one more piece
pub filter-more_pieces : (test : Loaded → Bool) (pieces : List (List Loaded)) (i : ℕ) (d : List Loaded)
    → i < length pieces
    → filter test (joined (take (i + 1) pieces))
    ≡ filter test (joined (take i pieces)) ++ filter test (get_or pieces i d)
filter-more_pieces test pieces i d lt = ap (filter test) (joined-more pieces i d lt)
    ∙ filter-append test (joined (take i pieces)) (get_or pieces i d)

-- what an operation takes out of one more piece
pub gone-more_pieces : (op : Op) (pieces : List (List Loaded)) (i : ℕ) (d : List Loaded) → i < length pieces
    → gone (joined (take (i + 1) pieces)) op ≡ gone (joined (take i pieces)) op ++ gone (get_or pieces i d) op
unfolding gone
gone-more_pieces op pieces i d lt = filter-more_pieces (λ (f : Loaded). not (keeps op f)) pieces i d lt

-- what an operation takes out of two lists
pub gone-append : (files more : List Loaded) (op : Op) → gone (files ++ more) op ≡ gone files op ++ gone more op
unfolding gone
gone-append files more op = filter-append (λ (f : Loaded). not (keeps op f)) files more

-- the files after an operation, those of the pieces first
pub after-append : (files more : List Loaded) (op : Op)
    → filter (keeps op) files ++ after_op more op ≡ after_op (files ++ more) op
after-append files more op = ap (λ l. filter (keeps op) files ++ l) (after_op-is more op)
    ∙ sym (append_assoc (filter (keeps op) files) (filter (keeps op) more) (added op))
    ∙ ap (λ l. l ++ added op) (sym (filter-append (keeps op) files more)) ∙ sym (after_op-is (files ++ more) op)

-- some file of a piece passes
any-joined : (test : Loaded → Bool) (pieces : List (List Loaded))
    → list_any (list_any test) pieces ≡ list_any test (joined pieces)
any-joined test [] = refl
any-joined test (piece ∷ pieces) = ap (λ b. list_any test piece || b) (any-joined test pieces)
    ∙ sym (list_any-append test piece (joined pieces))

-- a file of a piece is older
pub older-joined : (pieces : List (List Loaded)) (cutoff : ℤ)
    → list_any (λ (piece : List Loaded). holds_older piece cutoff) pieces ≡ holds_older (joined pieces) cutoff
unfolding holds_older
older-joined pieces cutoff = any-joined (λ (f : Loaded). int_lt f.run cutoff) pieces

-- a file of two lists is older
pub older-append : (files more : List Loaded) (cutoff : ℤ)
    → holds_older (files ++ more) cutoff ≡ (holds_older files cutoff || holds_older more cutoff)
unfolding holds_older
older-append files more cutoff = list_any-append (λ (f : Loaded). int_lt f.run cutoff) files more

-- a list of which each item passes is kept
kept_all : {A : Type 0} (test : A → Bool) (items : List A) → Each (λ item. test item ≡ true) items
    → filter test items ≡ items
kept_all test [] each = refl
kept_all test (item ∷ items) each = rw each.0 (ap (λ l. item ∷ l) (kept_all test items each.1))

-- files none of which is of a run of those that went are kept
pub kept-by_run : (op : Op) (files went : List Loaded) → HasGone went op files
    → list_any (λ (other : Loaded). list_any (λ (file : Loaded). int_eq file.run other.run) files) went ≡ false
    → filter (keeps op) files ≡ files
kept-by_run op files went has none = kept_all (keeps op) files (Each-from_in (λ file. keeps op file ≡ true) files
    (λ file held. by_test file held (keeps op file) refl))
  where
    same_run : Loaded → Loaded → Bool
    same_run other file = int_eq file.run other.run

    shares : Loaded → Bool
    shares other = list_any (same_run other) files

    lost : (file : Loaded) → In file files → keeps op file ≡ false → list_any shares went ≡ true
    lost file held is =
        let own : shares file ≡ true = list_any-from_Any (same_run file) files
        (Any-from_in (λ (f : Loaded). same_run file f ≡ true) file files held
        ((signed_Decides file.run file.run).1 refl)) in
        let there : Contains went file = Each-in (λ (f : Loaded). keeps op f ≡ false → Contains went f) file files
        (each_from_All (λ (f : Loaded). keeps op f ≡ false → Contains went f) files has) held is in
        list_any-from_Any shares went
        (Any-from_in (λ (f : Loaded). shares f ≡ true) file went (in_from_Contains file went there) own)

    by_test : (file : Loaded) → In file files → (b : Bool) → keeps op file ≡ b → keeps op file ≡ true
    by_test file held true is = is
    by_test file held false is = absurd (both_ways (list_any shares went) none (lost file held is))

-- files of no older run are kept by an expiry
pub kept-by_cutoff : (files : List Loaded) (cutoff : ℤ) → holds_older files cutoff ≡ false
    → filter (keeps (Expire cutoff)) files ≡ files
kept-by_cutoff files cutoff none = sym (append-nil (filter (keeps (Expire cutoff)) files))
    ∙ sym (after_op-is files (Expire cutoff)) ∙ expire-none files cutoff none

-- a fact of each file of all pieces is one of each file of a piece
pub all_piece : (P : Loaded → Type 0) (pieces : List (List Loaded)) (piece : List Loaded) → In piece pieces
    → All P (joined pieces) → All P piece
all_piece P pieces piece here all = All-from_each P piece (Each-from_in P piece (λ file held.
    Each-in P file (joined pieces) (each_from_All P (joined pieces) all)
    (In-flat_map (λ (p : List Loaded). p) file piece pieces here held)))

-- and a fact of each file is one of each file of the pieces, and of each of the last
pub all_first : (P : Loaded → Type 0) (files last : List Loaded) → All P (files ++ last) → All P files
all_first P files last all = All-from_each P files (Each-from_in P files (λ file held.
    Each-in P file (files ++ last) (each_from_All P (files ++ last) all) (In-append_left file files last held)))

pub all_last : (P : Loaded → Type 0) (files last : List Loaded) → All P (files ++ last) → All P last
all_last P files last all = All-from_each P last (Each-from_in P last (λ file held.
    Each-in P file (files ++ last) (each_from_All P (files ++ last) all) (In-append_right file files last held)))

-- a piece that a walk comes to
pub in_pieces : (pieces : List (List Loaded)) (i : ℕ) (piece : List Loaded) → i < length pieces
    → piece ≡ get_or pieces i piece → In piece pieces
in_pieces pieces i piece lt is = in_from_Contains piece pieces (i, lt, sym is)

-- what an operation takes out of each piece is among what it takes out of all files
pub HasGone-pieces : (pieces : List (List Loaded)) (last went : List Loaded) (op : Op)
    → HasGone went op (joined pieces ++ last) → All (HasGone went op) pieces
HasGone-pieces pieces last went op has = All-from_each (HasGone went op) pieces
    (Each-from_in (HasGone went op) pieces (λ piece here.
    all_piece (λ (file : Loaded). keeps op file ≡ false → Contains went file) pieces piece here
    (all_first (λ (file : Loaded). keeps op file ≡ false → Contains went file) (joined pieces) last has)))

-- and so is what it takes out of the last files
pub HasGone-last : (pieces : List (List Loaded)) (last went : List Loaded) (op : Op)
    → HasGone went op (joined pieces ++ last) → HasGone went op last
HasGone-last pieces last went op has =
    all_last (λ (file : Loaded). keeps op file ≡ false → Contains went file) (joined pieces) last has

-- what an operation takes out of some of the files is among what it takes out of all
pub HasGone-some : (files some went : List Loaded) (op : Op) → went ≡ gone files op
    → ((file : Loaded) → In file some → In file files) → HasGone went op some
unfolding gone
HasGone-some files some went op is held_by = All-from_each
    (λ (file : Loaded). keeps op file ≡ false → Contains went file) some
    (Each-from_in (λ (file : Loaded). keeps op file ≡ false → Contains went file) some (λ file held lost.
    Contains-from_in file went (subst (In file) (sym is)
    (In-filter (λ (f : Loaded). not (keeps op f)) file files (held_by file held) (ap not lost)))))

-- some file of the pieces, or of the last files, passes
pub any-files : (test : Loaded → Bool) (pieces : List (List Loaded)) (last : List Loaded)
    → (list_any (list_any test) pieces || list_any test last) ≡ list_any test (joined pieces ++ last)
any-files test pieces last = ap (λ b. b || list_any test last) (any-joined test pieces)
    ∙ sym (list_any-append test (joined pieces) last)
