-- The numbers and counts of moments, with one more.
use Rattle.std.proofs.Common.{◌≡◌, ℕ, ◌+◌, if◌then◌else◌, Bool, cond, List, [], ◌∷◌, ◌++◌, length, count_by, flat_map, refl, sym, ap, ◌∙◌, append-nil, arith}
use Rattle.std.proofs.lemmas.List.Sums.{sum_by_push}
use Rattle.std.proofs.lemmas.Grind.{flat_map-append}
use Rattle.dev_traits.specs.declared.clock.Expiry.{Expiry}
use Rattle.dev_traits.specs.declared.clock.Expiry.TheVariants as kinds
use Rattle.dev_traits.specs.Cause.{capped, one_more}
use Rattle.srv_verdict.specs.Attempts.{expired_number}
use Rattle.srv_ingest.specs.Expires.{is_expired, is_short_moment, SettledMoment}

-- the numbers of one moment more
pub numbers-more : (number : Expiry → List ℕ) (settled : List SettledMoment) (it : SettledMoment)
    → flat_map (λ it. number it.verdict) settled ++ number it.verdict
    ≡ flat_map (λ it. number it.verdict) (settled ++ it ∷ [])
numbers-more number settled it =
    let of : SettledMoment → List ℕ = λ it. number it.verdict in
    ap (λ (l : List ℕ). flat_map of settled ++ l) (sym (append-nil (of it)))
    ∙ sym (flat_map-append of settled (it ∷ []))

-- the lines of one moment more
pub lines-more : (line : SettledMoment → List (List ℕ)) (settled : List SettledMoment) (it : SettledMoment)
    → flat_map line settled ++ line it ≡ flat_map line (settled ++ it ∷ [])
lines-more line settled it =
    ap (λ (l : List (List ℕ)). flat_map line settled ++ l) (sym (append-nil (line it)))
    ∙ sym (flat_map-append line settled (it ∷ []))

-- how many verdicts are of a kind, with one more
pub count-more : (is : Expiry → Bool) (settled : List SettledMoment) (it : SettledMoment)
    → count_by (λ it. is it.verdict) (settled ++ it ∷ [])
    ≡ count_by (λ it. is it.verdict) settled + cond (is it.verdict) 1 0
count-more is settled it = sum_by_push (λ x. cond (is x.verdict) 1 0) settled it

-- a verdict that says that runs went
pub expired-one : (verdict : Expiry) → length (expired_number verdict) ≡ cond (is_expired verdict) 1 0
unfolding is_expired
expired-one (kinds.Expired number) = refl
expired-one (kinds.Idle count) = refl
expired-one kinds.Short = refl

-- how often memory ran out, with one verdict more
pub short-one : (verdict : Expiry) (short count : ℕ) → short ≡ capped count
    → (if is_short_moment verdict then one_more short else short)
    ≡ capped (count + cond (is_short_moment verdict) 1 0)
unfolding is_short_moment
short-one (kinds.Expired number) short count is = omega (arith, is)
short-one (kinds.Idle number) short count is = omega (arith, is)
short-one kinds.Short short count is = omega (arith, is)
