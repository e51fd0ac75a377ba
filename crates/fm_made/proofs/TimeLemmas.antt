-- The times of a made file.
use Rattle.std.proofs.Common.{◌≡◌, ◌≢◌, ℕ, zero, suc, ◌<◌, inl, inr, List, [], ◌∷◌, ◌++◌, length, get_or, Option, Some, None, ℤ, pos, refl, sym, ap, subst, ◌∙◌, arith, length-append}
use Rattle.std.specs.Prelude.{AllPairs, slice_get, unwrap_or}
use Rattle.std.specs.Option.{option_and_then}
use Rattle.std.proofs.Math.ListN.{get_or-append}
use Rattle.std.proofs.Math.Seq.{get_or-append_seam}
use Rattle.std.proofs.lemmas.Option.{slice_get_within, unwrap_or-slice_get, same_Some}
use Rattle.nc_model.specs.declared.kind.Kind.TheVariants.{Int}
use Rattle.nc_model.specs.Pattern.{pattern_of_bytes, whole_seconds_of}
use Rattle.fm_model.specs.LoadTimes.{seconds_at}
use Rattle.fm_gen.specs.File.{made_file}
use Rattle.fm_gen.specs.Values.{time_of}
use Rattle.fm_made.specs.Made.{made_header, made_units, time_var, times_of}
use Rattle.fm_made.proofs.NumberLemmas.{seconds-word}
use Rattle.fm_made.proofs.RecordLemmas.{element-time, below_or_last}

pub seconds-time : (seed k j : ℕ) → k < 400 → j < 65
    → seconds_at (made_file seed k) made_header time_var made_units (j ∷ []) ≡ Some (pos (time_of k j))
unfolding seconds_at
seconds-time seed k j few below =
    ap (λ (bytes : List ℕ). option_and_then (λ pattern. whole_seconds_of pattern 1) (pattern_of_bytes Int bytes))
    (element-time seed k j below)
    ∙ seconds-word (time_of k j) (omega (arith, few, below))

-- a made file has n times
pub length-times_of : (k n : ℕ) → length (times_of k n) ≡ n
unfolding times_of
length-times_of k zero = refl
length-times_of k (suc n) =
    let before = length-times_of k n in
    let joined = length-append (times_of k n) (pos (time_of k n) ∷ []) in
    omega (arith, before, joined)

get_or-times_of : (k n j : ℕ) (d : ℤ) → j < n → get_or (times_of k n) j d ≡ pos (time_of k j)
unfolding times_of
get_or-times_of k zero j d below = absurd (omega arith)
get_or-times_of k (suc n) j d below =
    elim (below_or_last j n below) [
      | inl earlier ↦
          let long = length-times_of k n in
          let within : j < length (times_of k n) = omega (arith, earlier, long) in
          get_or-append (times_of k n) (pos (time_of k n) ∷ []) d j within ∙ get_or-times_of k n j d earlier
      | inr last ↦
          let long = length-times_of k n in
          let here : j ≡ length (times_of k n) = omega (arith, last, long) in
          ap (λ (i : ℕ). get_or (times_of k n ++ pos (time_of k n) ∷ []) i d) here
          ∙ get_or-append_seam (times_of k n) (pos (time_of k n)) [] d
          ∙ ap (λ (i : ℕ). pos (time_of k i)) (sym last)
    ]

given : {A : Type 0} (o : Option A) (x d : A) → o ≡ Some x → unwrap_or o d ≡ x
given None x d is = absurd cc
given (Some y) x d is = same_Some y x is

-- the time at an index of the list
pub time_in : (k j : ℕ) (t : ℤ) → slice_get (times_of k 65) j ≡ Some t → (j < 65) × (t ≡ pos (time_of k j))
time_in k j t is =
    let within = slice_get_within (times_of k 65) j t is in
    let long = length-times_of k 65 in
    let below : j < 65 = omega (arith, within, long) in (
      below,
      sym (given (slice_get (times_of k 65) j) t t is) ∙ unwrap_or-slice_get (times_of k 65) j t
          ∙ get_or-times_of k 65 j t below,
    )

pos_is : (m n : ℕ) → pos m ≡ pos n → m ≡ n
pos_is m n is = cc

apart : (k i j : ℕ) → i < j → pos (time_of k i) ≢ pos (time_of k j)
apart k i j less same =
    let equal : time_of k i ≡ time_of k j = pos_is (time_of k i) (time_of k j) same in omega (arith, less, equal)

pub times_differ : (k : ℕ) → AllPairs (λ (time other : ℤ). time ≢ other) (times_of k 65)
times_differ k i j d less within =
    let long = length-times_of k 65 in
    let second : j < 65 = omega (arith, within, long) in
    let first : i < 65 = omega (arith, less, second) in
    subst (λ (time : ℤ). time ≢ get_or (times_of k 65) j d) (sym (get_or-times_of k 65 i d first))
    (subst (λ (other : ℤ). pos (time_of k i) ≢ other) (sym (get_or-times_of k 65 j d second)) (apart k i j less))
