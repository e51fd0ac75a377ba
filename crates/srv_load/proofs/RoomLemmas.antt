-- The collection after puts of made files holds them in their order, and has room for one more.
use Rattle.std.proofs.Common.{◌≡◌, ◌≢◌, ◌≤◌, ◌<◌, ℕ, zero, suc, ◌+◌, ◌*◌, Bool, true, false, not, List, [], ◌∷◌, ◌++◌, length, None, refl, sym, ap, subst, ◌∙◌, arith, add-one, length-append}
use Rattle.std.specs.Prelude.{filter, sum_by}
use Rattle.std.specs.Str.{bytes_eq}
use Rattle.std.proofs.lemmas.List.Elements.{filter-append}
use Rattle.std.proofs.lemmas.List.Sums.{sum_by-append}
use Rattle.std.proofs.lemmas.Slice.Eq.{bytes_eq-Decides}
use Rattle.fm_model.specs.declared.full.Tally.{Tally}
use Rattle.fm_model.specs.declared.full.Which.TheVariants.{Files, Rows, Size}
use Rattle.fm_model.specs.declared.loaded.Loaded.{Loaded}
use Rattle.fm_model.specs.declared.op.Op.TheVariants.{Put}
use Rattle.fm_model.specs.Collection.{after_op, coll, full_at, IsWithin, tally, without}
use Rattle.fm_model.proofs.CollectionLemmas.{coll-none, coll-push}
use Rattle.fm_model.proofs.FullLemmas.{full_at-none}
use Rattle.fm_made.proofs.HeaderLemmas.{length-made_file}
use Rattle.fm_made.proofs.TimeLemmas.{length-times_of}
use Rattle.srv_load.specs.Made.{files_of, held_file, puts_of}
use Rattle.srv_load.specs.Name.{made_name}
use Rattle.srv_load.proofs.NameLemmas.{names_differ}

apart : (first second : List ℕ) → first ≢ second → bytes_eq first second ≡ false
apart first second differ = by_test (bytes_eq first second) refl
  where
    by_test : (b : Bool) → bytes_eq first second ≡ b → bytes_eq first second ≡ false
    by_test true is = absurd (differ ((bytes_eq-Decides first second).0 is))
    by_test false is = is

-- no earlier file has the name of a later one
without-later : (seed n k : ℕ) → n ≤ k → k < 400 → without (made_name k) (files_of seed n) ≡ files_of seed n
unfolding without files_of
without-later seed zero k earlier few = refl
without-later seed (suc n) k earlier few =
    let test = λ (f : Loaded). not (bytes_eq f.name (made_name k)) in
    let before = without-later seed n k (omega arith) few in
    let other = apart (made_name n) (made_name k) (names_differ n k (omega arith) few (omega arith)) in
    let last : filter test (held_file seed n ∷ []) ≡ held_file seed n ∷ [] = rw other refl in
    filter-append test (files_of seed n) (held_file seed n ∷ [])
    ∙ ap (λ (l : List Loaded). l ++ filter test (held_file seed n ∷ [])) before
    ∙ ap (λ (l : List Loaded). files_of seed n ++ l) last

-- the files after a put are the next ones
put_next : (seed k : ℕ) → k < 400 → after_op (files_of seed k) (Put (held_file seed k)) ≡ files_of seed (suc k)
unfolding after_op files_of
put_next seed k few = ap (λ (l : List Loaded). l ++ held_file seed k ∷ []) (without-later seed k k (omega arith) few)

-- the puts leave the files
pub coll-puts_of : (seed n : ℕ) → n ≤ 400 → coll (puts_of seed n) ≡ files_of seed n
unfolding puts_of files_of
coll-puts_of seed zero few = coll-none
coll-puts_of seed (suc n) few =
    coll-push (puts_of seed n) (Put (held_file seed n))
    ∙ ap (λ (l : List Loaded). after_op l (Put (held_file seed n))) (coll-puts_of seed n (omega arith))
    ∙ put_next seed n (omega arith)

length-files_of : (seed n : ℕ) → length (files_of seed n) ≡ n
unfolding files_of
length-files_of seed zero = refl
length-files_of seed (suc n) =
    let before = length-files_of seed n in
    let joined = length-append (files_of seed n) (held_file seed n ∷ []) in
    omega (arith, before, joined)

rows-files_of : (seed n : ℕ) → sum_by (λ (f : Loaded). length f.times) (files_of seed n) ≡ 65 * n
unfolding files_of
rows-files_of seed zero = refl
rows-files_of seed (suc n) =
    let count = λ (f : Loaded). length f.times in
    let before = rows-files_of seed n in
    let last : length (held_file seed n).times ≡ 65 = length-times_of n 65 in
    let joined = sum_by-append count (files_of seed n) (held_file seed n ∷ []) in
    omega (arith, before, last, joined)

size-files_of : (seed n : ℕ) → sum_by (λ (f : Loaded). length f.content) (files_of seed n) ≡ 17240 * n
unfolding files_of
size-files_of seed zero = refl
size-files_of seed (suc n) =
    let count = λ (f : Loaded). length f.content in
    let before = size-files_of seed n in
    let last : length (held_file seed n).content ≡ 17240 = length-made_file seed n in
    let joined = sum_by-append count (files_of seed n) (held_file seed n ∷ []) in
    omega (arith, before, last, joined)

-- how much the files are
pub tally-files_of : (seed n : ℕ) → tally (files_of seed n) ≡ record { files = n; rows = 65 * n; size = 17240 * n }
unfolding tally
tally-files_of seed n =
    let count = length-files_of seed n in
    let rows = rows-files_of seed n in
    let size = size-files_of seed n in
    cc

pub tally-puts_of : (seed n : ℕ) → n ≤ 400
    → tally (coll (puts_of seed n)) ≡ record { files = n; rows = 65 * n; size = 17240 * n }
tally-puts_of seed n few = ap tally (coll-puts_of seed n few) ∙ tally-files_of seed n

within : (n : ℕ) → n ≤ 400 → IsWithin (record { files = n; rows = 65 * n; size = 17240 * n })
within n few Files = omega arith
within n few Rows = omega arith
within n few Size = omega arith

-- there is room for the next file
pub room_is : (seed k : ℕ) → k < 400 → full_at (coll (puts_of seed k)) (Put (held_file seed k)) ≡ None
room_is seed k few =
    let held = coll-puts_of seed k (omega arith) in
    let next : after_op (coll (puts_of seed k)) (Put (held_file seed k)) ≡ files_of seed (suc k) =
    ap (λ (l : List Loaded). after_op l (Put (held_file seed k))) held ∙ put_next seed k few in
    let much : tally (after_op (coll (puts_of seed k)) (Put (held_file seed k)))
    ≡ record { files = suc k; rows = 65 * suc k; size = 17240 * suc k } =
    ap tally next ∙ tally-files_of seed (suc k) in
    (full_at-none (coll (puts_of seed k)) (Put (held_file seed k))).1
    (subst (λ (held : Tally). IsWithin held) (sym much) (within (suc k) (omega arith)))

-- the puts and one more
pub puts-more : (seed k : ℕ) → puts_of seed (k + 1) ≡ puts_of seed k ++ Put (held_file seed k) ∷ []
unfolding puts_of
puts-more seed k = ap (puts_of seed) (add-one k)

pub ruleset rooms = (room_is, puts-more)

pub ruleset held = (coll-puts_of, tally-puts_of)
