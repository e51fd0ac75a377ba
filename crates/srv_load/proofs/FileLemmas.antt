-- The made files that a collection holds, and their times.
use Rattle.std.proofs.Common.{◌≡◌, ◌<◌, inl, inr, ℕ, zero, suc, List, [], ◌∷◌, ℤ, pos, ap, arith}
use Rattle.std.proofs.lemmas.Bool.{cases_lt}
use Rattle.fm_model.specs.declared.loaded.Loaded.{Loaded}
use Rattle.fm_model.proofs.Members.{In, In-append_cases, In-append_left, In-append_right}
use Rattle.fm_made.specs.Made.{times_of}
use Rattle.fm_gen.specs.Values.{time_of}
use Rattle.srv_load.specs.Made.{files_of, held_file}

-- a held file is one of those that were made
pub in_files : (seed n : ℕ) (file : Loaded) → In file (files_of seed n) → (k : ℕ) × (k < n) × (held_file seed k ≡ file)
unfolding files_of
in_files seed zero file there = absurd there
in_files seed (suc n) file there = elim (In-append_cases file (files_of seed n) (held_file seed n ∷ []) there) [
  | inl earlier ↦
      let found = in_files seed n file earlier in
      (found.0, omega (arith, found.1), found.2)
  | inr (inl last) ↦ (n, omega arith, last)
  | inr (inr none) ↦ absurd none
]

pub In-files : (seed n k : ℕ) → k < n → In (held_file seed k) (files_of seed n)
unfolding files_of
In-files seed zero k below = absurd (omega (arith, below))
In-files seed (suc n) k below = elim (cases_lt k n) [
  | inl earlier ↦
      In-append_left (held_file seed k) (files_of seed n) (held_file seed n ∷ []) (In-files seed n k earlier)
  | inr last ↦
      let same : n ≡ k = omega (arith, below, last) in
      In-append_right (held_file seed k) (files_of seed n) (held_file seed n ∷ []) (inl (ap (held_file seed) same))
]

-- a time of a made file
pub in_times : (k n : ℕ) (t : ℤ) → In t (times_of k n) → (j : ℕ) × (j < n) × (pos (time_of k j) ≡ t)
unfolding times_of
in_times k zero t there = absurd there
in_times k (suc n) t there = elim (In-append_cases t (times_of k n) (pos (time_of k n) ∷ []) there) [
  | inl earlier ↦
      let found = in_times k n t earlier in
      (found.0, omega (arith, found.1), found.2)
  | inr (inl last) ↦ (n, omega arith, last)
  | inr (inr none) ↦ absurd none
]

pub In-times : (k n j : ℕ) → j < n → In (pos (time_of k j)) (times_of k n)
unfolding times_of
In-times k zero j below = absurd (omega (arith, below))
In-times k (suc n) j below = elim (cases_lt j n) [
  | inl earlier ↦ In-append_left (pos (time_of k j)) (times_of k n) (pos (time_of k n) ∷ []) (In-times k n j earlier)
  | inr last ↦
      let same : n ≡ j = omega (arith, below, last) in
      In-append_right (pos (time_of k j)) (times_of k n) (pos (time_of k n) ∷ [])
      (inl (ap (λ (i : ℕ). pos (time_of k i)) same))
]
