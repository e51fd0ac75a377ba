-- Stretches of valid times, of which each lies at least as far after its run as the one before it.
use Rattle.std.specs.Prelude.{◌≡◌, ◌<◌, ◌≤◌, ◌≤ℤ◌, ◌-ℤ◌, get_or, length, List, ℕ, ℤ}
use Rattle.fm_edition.specs.declared.maps.page_rows.Oldest.{Oldest}

-- how many seconds a valid time lies after the run beside it
abbrev pub lag : Oldest → ℤ
lag time = time.valid -ℤ time.run

-- from one index up to another, each valid time lies at least as far after its run as those before it
abbrev pub Rise : List Oldest → ℕ → ℕ → Type 0
Rise times from to = (i k : ℕ) (z : Oldest) → from ≤ i → i ≤ k → k < to
    → lag (get_or times i z) ≤ℤ lag (get_or times k z)

-- a stretch from one index up to another
pub record IsEnd (times : List Oldest) (from to : ℕ) : Type 0 where
  pub some : from < to
  pub within : to ≤ length times
  pub rise : Rise times from to

-- beside each valid time stands an end of its stretch
pub record AreEnds (times : List Oldest) (ends : List ℕ) : Type 0 where
  pub each : length ends ≡ length times
  pub are : (i d : ℕ) → i < length ends → IsEnd times i (get_or ends i d)
