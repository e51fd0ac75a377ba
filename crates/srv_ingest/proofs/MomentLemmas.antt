-- The turn of one moment.
use Rattle.std.proofs.Common.{◌≡◌, ◌+ℤ◌, ℕ, ℤ, List, [], ◌∷◌, Option, Some, None, IfSome, IsTrue, refl, sym, ap, subst, ◌∙◌}
use Rattle.std.proofs.lemmas.Option.{none-some}
use Rattle.dev_traits.specs.declared.clock.Expiry.{Expiry}
use Rattle.dev_traits.specs.Clock.{after_moment, after_verdict, clock_lines, Moments, with_clock_lines}
use Rattle.dev_traits.specs.Lines.{Tells, Told}
use Rattle.dev_traits.specs.Door.{first_of}
use Rattle.pub_look.specs.History.{History}
use Rattle.srv_verdict.specs.Attempts.{Decides, expired_number, idle_number}
use Rattle.srv_ingest.specs.Lines.{expiry_lines, moment_lines, shown_instant}
use Rattle.srv_ingest.specs.Telling.{TellsClock}
use Rattle.srv_ingest.specs.Turns.{HasNoMoment, SettlesMoment}
use Rattle.srv_verdict.specs.Verdicts.{IsExpiry}
use Rattle.srv_ingest.specs.Verdicts.{cutoff_at}

-- a clock that gave no moment is as before
pub HasNoMoment-none : (clock clock' : Option Moments) (pass : History) (share : ℕ)
    → IfSome clock (λ moments. None ≡ first_of moments.left) → clock' ≡ after_moment None clock
    → HasNoMoment clock clock' pass pass share share
HasNoMoment-none None clock' pass share next is =
    record { none_left = tt; clock_is = is; pass_is = refl; share_is = refl }
HasNoMoment-none (Some moments) clock' pass share next is =
    record { none_left = empty moments.left next; clock_is = is; pass_is = refl; share_is = refl }
  where
    empty : (xs : List ℤ) → None ≡ first_of xs → xs ≡ []
    empty [] none = refl
    empty (x ∷ xs) none = absurd (none-some x none)

-- a clock that gave a moment, and was told lines, waits for its verdict
pub waits-some : {lines : List (List ℕ)} (clock : Option Moments) {clock' clock'' : Option Moments} (moment : ℤ)
    → clock' ≡ after_moment (Some moment) clock → TellsClock lines clock' clock''
    → IfSome clock'' (λ moments. IsTrue moments.waits)
waits-some {lines} clock {clock'} {clock''} moment is told =
    waiting clock (told.clock_is ∙ ap (with_clock_lines told.told) is)
  where
    waiting : (c : Option Moments) → clock'' ≡ with_clock_lines told.told (after_moment (Some moment) c)
        → IfSome clock'' (λ moments. IsTrue moments.waits)
    waiting None same = subst (λ (h : Option Moments). IfSome h (λ m. IsTrue m.waits)) (sym same) tt
    waiting (Some moments) same = subst (λ (h : Option Moments). IfSome h (λ m. IsTrue m.waits)) (sym same) refl

-- the moment that a clock gave was settled
pub SettlesMoment-given : {keep : ℕ} {epoch : ℤ} {a b c d : Option Moments} {pass pass' : History} {share share' : ℕ}
    (moment : ℤ) {cutoff : ℤ} {verdict : Expiry} → IfSome a (λ moments. Some moment ≡ first_of moments.left)
    → b ≡ after_moment (Some moment) a → cutoff ≡ cutoff_at moment keep epoch
    → IsExpiry pass'.seen cutoff verdict
    → Decides pass pass' share share' (expired_number verdict) (idle_number verdict)
    → TellsClock (expiry_lines (shown_instant (cutoff +ℤ epoch)) verdict) b c
    → d ≡ after_verdict verdict c → SettlesMoment keep epoch a d pass pass' share share' verdict
SettlesMoment-given {keep} {epoch} {a} {b} {c} {d} {pass} {pass'} {share} {share'} moment {cutoff} {verdict} next
    given cutoff_is is decides told settled = record {
      moment = moment;
      next = turned a next;
      is = subst (λ (n : ℤ). IsExpiry pass'.seen n verdict) cutoff_is is;
      decides = decides;
      told = told.told;
      lines = lines a given;
      clock_is = settled ∙ ap (λ (m : Option Moments). after_verdict verdict m)
          (told.clock_is ∙ ap (with_clock_lines told.told) given);
    }
  where
    lines : (m : Option Moments) → b ≡ after_moment (Some moment) m
        → IfSome m (λ moments. Tells (moment_lines keep epoch moment verdict) moments.lines told.told)
    lines None h = tt
    lines (Some moments) h =
        subst (λ (t : Told). Tells (moment_lines keep epoch moment verdict) t told.told) (ap clock_lines h)
        (subst (λ (n : ℤ). Tells (expiry_lines (shown_instant (n +ℤ epoch)) verdict) (clock_lines b) told.told)
        cutoff_is told.tells)

    turned : (m : Option Moments) → IfSome m (λ moments. Some moment ≡ first_of moments.left)
        → IfSome m (λ moments. first_of moments.left ≡ Some moment)
    turned None h = tt
    turned (Some moments) h = sym h

pub ruleset moment_turns = (HasNoMoment-none, waits-some, SettlesMoment-given)
