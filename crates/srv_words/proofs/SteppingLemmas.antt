-- A collection and the steps on it are sound.
use Rattle.std.proofs.Common.{◌≡◌, ◌+◌, ◌<◌, ◌≤◌, ℕ, ℤ, Bool, true, false, not, List, [], ◌∷◌, ◌++◌, length, Some, All, refl, ap, subst, arith, codes, length-append}
use Rattle.std.specs.Prelude.{nat_lt, ◌-ℤ◌}
use Rattle.std.specs.List.{list_all}
use Rattle.std.proofs.lemmas.Bool.{ltb-true}
use Rattle.std.proofs.lemmas.List.Elements.{All-nil, All-push}
use Rattle.std.proofs.lemmas.Option.{same_Some}
use Rattle.std.specs.Option.{option_and_then}
use Rattle.nc_model.specs.Instant.{instant_of}
use Rattle.fm_base.proofs.OptionLemmas.{mapped_some}
use Rattle.fm_model.specs.declared.site.Site.{Site}
use Rattle.fm_model.specs.Site.{IsSite}
use Rattle.fm_model.specs.LoadTimes.{is_instant, IsInstant}
use Rattle.fm_model.proofs.RunLemmas.{IsInstant-from_test}
use Rattle.clap.specs.Walk.{Row, Text, all_of, first_of}
use Rattle.srv_words.specs.declared.job.Step.{Step}
use Rattle.srv_words.specs.declared.job.Step.TheVariants.{Put, Expire, Retract, Ask}
use Rattle.srv_words.specs.declared.job.Stepping.{Stepping}
use Rattle.srv_words.specs.Reads.{◌>>=◌, if_so}
use Rattle.srv_words.specs.Sites.{site_of}
use Rattle.srv_words.specs.Stepping.{IsChanging, IsStepping, changing_of, is_change, step_words_of, stepping_of, stepping_over}
use Rattle.srv_words.specs.Steps.{IsStep, asked_of, cutoff_of, step_of, steps_from, steps_of}
use Rattle.srv_words.specs.Values.{from_epoch, if_instant, number_in, rest_of}
use Rattle.srv_words.proofs.SomeLemmas.{step_some, then_some, or_some, so_some, number_in-some, rest_of-some}
use Rattle.srv_words.proofs.SiteLemmas.{site_of-some}

cutoff_of-some : (epoch : ℤ) (word : List ℕ) (cutoff : ℤ) → cutoff_of epoch word ≡ Some cutoff → IsInstant cutoff
unfolding cutoff_of from_epoch if_instant
cutoff_of-some epoch word cutoff is =
    let read = then_some (from_epoch epoch) (option_and_then instant_of (rest_of (codes "expire:") word)) cutoff is in
    let there = so_some (is_instant (read.0 -ℤ epoch)) (read.0 -ℤ epoch) cutoff read.2 in
    subst IsInstant there.1 (IsInstant-from_test (read.0 -ℤ epoch) (negated _ there.0))
  where
    negated : (b : Bool) → b ≡ true → not b ≡ false
    negated true is = refl
    negated false is = absurd cc

asked_of-some : (word : List ℕ) (n : ℕ) → asked_of word ≡ Some n → (0 < n) × (n ≤ 10_000)
unfolding asked_of
asked_of-some word n is =
    let read = then_some (number_in 1 10_000) (rest_of (codes "ask:") word) n is in
    let number = number_in-some 1 10_000 n read.0 read.2 in
    (omega (arith, number.0), number.1)

step_of-some : (epoch : ℤ) (word : List ℕ) (step : Step) → step_of epoch word ≡ Some step → IsStep step
unfolding step_of
step_of-some epoch word step is =
    or_some _ _ step is
    (λ first.
    let read = mapped_some Put (rest_of (codes "put:") word) step first in
    subst IsStep read.2 (rest_of-some (codes "put:") word read.0 read.1))
    (λ others. or_some _ _ step others
    (λ first.
    let read = mapped_some Expire (cutoff_of epoch word) step first in
    subst IsStep read.2 (cutoff_of-some epoch word read.0 read.1))
    (λ others. or_some _ _ step others
    (λ first.
    let read = mapped_some Retract (rest_of (codes "retract:") word) step first in
    subst IsStep read.2 (rest_of-some (codes "retract:") word read.0 read.1))
    (λ last.
    let read = mapped_some Ask (asked_of word) step last in
    subst IsStep read.2 (asked_of-some word read.0 read.1))))

-- all steps are sound, and there are as many as words
steps_from-some : (epoch : ℤ) (found : List Step) (words : List (List ℕ)) (steps : List Step)
    → steps_from epoch found words ≡ Some steps → All IsStep found
    → All IsStep steps × (length found + length words ≡ length steps)
unfolding steps_from
steps_from-some epoch found [] steps is sound =
    let same : found ≡ steps = same_Some found steps is in
    (subst (All IsStep) same sound, let long : length found ≡ length steps = ap length same in omega (arith, long))
steps_from-some epoch found (word ∷ words) steps is sound =
    let read = step_some (step_of epoch word) (λ (step : Step). steps_from epoch (found ++ step ∷ []) words) steps is in
    let more = steps_from-some epoch (found ++ read.0 ∷ []) words steps read.2
    (All-push IsStep found read.0 sound (step_of-some epoch word read.0 read.1)) in
    (more.0, omega (arith, more.1, length-append found (read.0 ∷ [])))

steps_of-some : (epoch : ℤ) (words : List (List ℕ)) (steps : List Step) → steps_of epoch words ≡ Some steps
    → All IsStep steps × (length words ≡ length steps)
unfolding steps_of
steps_of-some epoch words steps is =
    let there = steps_from-some epoch [] words steps is (All-nil IsStep) in
    (there.0, omega (arith, there.1))

step_words_of-some : (rows : List Row) (words : List Text) → step_words_of rows ≡ Some words → 0 < length words
unfolding step_words_of
step_words_of-some rows words is =
    let read = step_some (all_of (codes "STEP") rows)
    (λ (list : List Text). if_so (nat_lt 0 (length list)) list) words is in
    let there = so_some (nat_lt 0 (length read.0)) read.0 words read.2 in
    subst (λ (list : List Text). 0 < length list) there.1 (ltb-true 0 (length read.0) there.0)

stepping_over-some : (site : Site) (proto : Text) (list : List Text) (stepping : Stepping)
    → stepping_over site proto list ≡ Some stepping → IsSite site × (length site.mark ≤ 65) → 0 < length list
    → IsStepping stepping
unfolding stepping_over
stepping_over-some site proto list stepping is sound some =
    let steps = step_some (steps_of site.epoch list) _ stepping is in
    let each = steps_of-some site.epoch list steps.0 steps.1 in
    subst IsStepping (same_Some (record { site = site; proto = proto; steps = steps.0 }) stepping steps.2)
    (record { site = sound.0; mark = sound.1; some = omega (arith, some, each.1); each = each.0 })

-- a collection and the steps on it are sound
pub stepping_of-some : (rows : List Row) (stepping : Stepping) → stepping_of rows ≡ Some stepping → IsStepping stepping
unfolding stepping_of
stepping_of-some rows stepping is =
    let proto = step_some (first_of (codes "proto") rows) _ stepping is in
    let list = step_some (step_words_of rows) _ stepping proto.2 in
    let site = step_some (site_of rows) _ stepping list.2 in
    stepping_over-some site.0 proto.0 list.0 stepping site.2 (site_of-some rows site.0 site.1)
    (step_words_of-some rows list.0 list.1)

-- and no step asks for replies, where none may
pub changing_of-some : (rows : List Row) (stepping : Stepping) → changing_of rows ≡ Some stepping → IsChanging stepping
unfolding changing_of
changing_of-some rows stepping is =
    let read = step_some (stepping_of rows) _ stepping is in
    let there = so_some (list_all is_change read.0.steps) read.0 stepping read.2 in
    subst IsChanging there.1
    (record { sound = stepping_of-some rows read.0 read.1; changes = there.0 })
