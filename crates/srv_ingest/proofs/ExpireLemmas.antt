-- The moments that were settled so far, and one more.
use Rattle.std.proofs.Common.{◌≡◌, ℕ, ℤ, ◌+◌, ◌≤◌, if◌then◌else◌, All, List, [], ◌∷◌, ◌++◌, length, map, drop, Option, Some, None, IfSome, IsSomeAnd, count_by, flat_map, refl, sym, ap, ap₂, subst, ◌∙◌, append_assoc, append-nil, arith}
use Rattle.std.proofs.lemmas.List.{map-append}
use Rattle.std.proofs.lemmas.List.Elements.{All-append, All-cons, All-nil, All-weaker}
use Rattle.std.proofs.lemmas.Option.{none-some, same_Some}
use Rattle.dev_traits.specs.declared.clock.Expiry.{Expiry}
use Rattle.dev_traits.specs.Clock.{after_moment, after_verdict, clock_lines, Moments, with_clock_lines}
use Rattle.dev_traits.specs.Lines.{Tells, Told}
use Rattle.dev_traits.proofs.TellLemmas.{Tells-none, Tells-then}
use Rattle.dev_traits.specs.Door.{first_of}
use Rattle.dev_traits.specs.Cause.{capped, one_more}
use Rattle.pub_look.specs.History.{History}
use Rattle.srv_verdict.specs.Attempts.{expired_number, idle_number, Sees}
use Rattle.srv_ingest.specs.Expires.{expired_numbers, idle_numbers, is_expired, IsRightAt, is_short_moment, line_at, SettledMoment}
use Rattle.srv_ingest.specs.Turns.{SettlesMoment}
use Rattle.srv_ingest.specs.Verdicts.{cutoff_at}
use Rattle.srv_verdict.proofs.LaterLemmas.{IsExpiry-later}
use Rattle.srv_verdict.proofs.SeesLemmas.{Sees-itself, Sees-then}
use Rattle.srv_ingest.proofs.MomentCounts.{count-more, expired-one, lines-more, numbers-more, short-one}

-- these moments were the next of a clock, and were settled
pub record MovesOn (moments moments' : Moments) (settled : List SettledMoment) : Type 0 where
  pub left_is : moments.left ≡ map (λ it. it.moment) settled ++ moments'.left
  pub verdicts_are : moments'.verdicts ≡ moments.verdicts ++ map (λ it. it.verdict) settled
  pub asked_is : moments'.asked ≡ moments.asked

-- the same, where it is known what a clock holds
abbrev pub MovesOnIn : Option Moments → Option Moments → List SettledMoment → Type 0
MovesOnIn clock clock' settled =
    IfSome clock (λ moments. IsSomeAnd clock' (λ moments'. MovesOn moments moments' settled))

-- the lines of these verdicts were told to a clock, where it is known what it holds
abbrev pub TellsMoments : ℕ → ℤ → Option Moments → Option Moments → List SettledMoment → Type 0
TellsMoments keep epoch clock clock' settled = IfSome clock
    (λ moments. Tells (flat_map (line_at keep epoch) settled) moments.lines (clock_lines clock'))

-- all moments that a clock gave so far were settled and told, and are counted
pub record MomentsSoFar (keep : ℕ) (epoch : ℤ) (clock clock' : Option Moments) (pass pass' : History)
    (expired short : ℕ) : Type 0 where
  pub settled : List SettledMoment
  pub moves : MovesOnIn clock clock' settled
  pub each : All (IsRightAt keep epoch pass'.seen) settled
  pub sees : Sees pass pass' (expired_numbers settled) (idle_numbers settled)
  pub lines : TellsMoments keep epoch clock clock' settled
  pub expired_is : expired ≡ count_by (λ it. is_expired it.verdict) settled
  pub short_is : short ≡ capped (count_by (λ it. is_short_moment it.verdict) settled)

-- no moment was settled yet
pub MomentsSoFar-none : (keep : ℕ) (epoch : ℤ) (clock : Option Moments) (pass : History)
    → MomentsSoFar keep epoch clock clock pass pass 0 0
MomentsSoFar-none keep epoch clock pass = record {
  settled = [];
  moves = none_moved clock;
  each = All-nil (IsRightAt keep epoch pass.seen);
  sees = Sees-itself pass;
  lines = none_told clock;
  expired_is = refl;
  short_is = refl;
}
  where
    none_moved : (c : Option Moments) → MovesOnIn c c []
    none_moved None = tt
    none_moved (Some moments) =
        record { left_is = refl; verdicts_are = sym (append-nil moments.verdicts); asked_is = refl }

    none_told : (c : Option Moments) → TellsMoments keep epoch c c []
    none_told None = tt
    none_told (Some moments) = Tells-none moments.lines

-- a list with a first moment
first-is : (moments : List ℤ) (moment : ℤ) → first_of moments ≡ Some moment → moments ≡ moment ∷ drop 1 moments
first-is [] moment is = absurd (none-some moment is)
first-is (x ∷ moments) moment is = ap (λ (m : ℤ). m ∷ moments) (same_Some x moment is)

-- the moments that are left, with one more settled
left-more : (settled : List SettledMoment) (it : SettledMoment) (left left' : List ℤ)
    → left ≡ map (λ it. it.moment) settled ++ left' → first_of left' ≡ Some it.moment
    → left ≡ map (λ it. it.moment) (settled ++ it ∷ []) ++ drop 1 left'
left-more settled it left left' is first =
    let moment : SettledMoment → ℤ = λ it. it.moment in
    is ∙ ap (λ (l : List ℤ). map moment settled ++ l) (first-is left' it.moment first)
    ∙ sym (append_assoc (map moment settled) (it.moment ∷ []) (drop 1 left'))
    ∙ ap (λ (l : List ℤ). l ++ drop 1 left') (sym (map-append moment settled (it ∷ [])))

-- one more moment was the next
MovesOnIn-more : (a b c : Option Moments) (settled : List SettledMoment) (it : SettledMoment) (told : Told)
    → MovesOnIn a b settled → IfSome b (λ moments. first_of moments.left ≡ Some it.moment)
    → c ≡ after_verdict it.verdict (with_clock_lines told (after_moment (Some it.moment) b))
    → MovesOnIn a c (settled ++ it ∷ [])
MovesOnIn-more None b c settled it told moves first is = tt
MovesOnIn-more (Some p) None c settled it told moves first is = absurd moves
MovesOnIn-more (Some p) (Some q) c settled it told moves first is =
    let verdict : SettledMoment → Expiry = λ it. it.verdict in
    subst (λ (h : Option Moments). IsSomeAnd h (λ r. MovesOn p r (settled ++ it ∷ []))) (sym is) (record {
      left_is = left-more settled it p.left q.left moves.left_is first;
      verdicts_are = ap (λ (l : List Expiry). l ++ it.verdict ∷ []) moves.verdicts_are
          ∙ append_assoc p.verdicts (map verdict settled) (it.verdict ∷ [])
          ∙ ap (λ (l : List Expiry). p.verdicts ++ l) (sym (map-append verdict settled (it ∷ [])));
      asked_is = moves.asked_is;
    })

-- one more verdict was told
TellsMoments-more : (keep : ℕ) (epoch : ℤ) (a b c : Option Moments) (settled : List SettledMoment) (it : SettledMoment)
    (told : Told) → MovesOnIn a b settled → TellsMoments keep epoch a b settled
    → IfSome b (λ moments. Tells (line_at keep epoch it) moments.lines told)
    → c ≡ after_verdict it.verdict (with_clock_lines told (after_moment (Some it.moment) b))
    → TellsMoments keep epoch a c (settled ++ it ∷ [])
TellsMoments-more keep epoch None b c settled it told moves first second is = tt
TellsMoments-more keep epoch (Some p) None c settled it told moves first second is = absurd moves
TellsMoments-more keep epoch (Some p) (Some q) c settled it told moves first second is =
    let line : SettledMoment → List (List ℕ) = line_at keep epoch in
    subst (λ (t : Told). Tells (flat_map line (settled ++ it ∷ [])) p.lines t) (sym (ap clock_lines is))
    (subst (λ (l : List (List ℕ)). Tells l p.lines told) (lines-more line settled it)
    (Tells-then (flat_map line settled) (line it) p.lines q.lines told first second))

-- one more moment was settled
pub MomentsSoFar-more : (keep : ℕ) (epoch : ℤ) (a b c : Option Moments) (pass pass' pass'' : History)
    (share share' expired expired' short short' : ℕ) (verdict : Expiry)
    → MomentsSoFar keep epoch a b pass pass' expired short
    → SettlesMoment keep epoch b c pass' pass'' share share' verdict
    → expired' ≡ expired + length (expired_number verdict)
    → short' ≡ (if is_short_moment verdict then one_more short else short)
    → MomentsSoFar keep epoch a c pass pass'' expired' short'
MomentsSoFar-more keep epoch a b c pass pass' pass'' share share' expired expired' short short' verdict far next
    expired_is short_is = record {
      settled = far.settled ++ it ∷ [];
      moves = MovesOnIn-more a b c far.settled it next.told far.moves next.next next.clock_is;
      each = All-append P far.settled (it ∷ []) (All-weaker (IsRightAt keep epoch pass'.seen) P
          (λ x right. IsExpiry-later pass'.seen pass''.seen (cutoff_at x.moment keep epoch) x.verdict
          next.decides.sees.later right) far.settled far.each) (All-cons P it [] next.is (All-nil P));
      sees = subst (λ (l : List ℕ). Sees pass pass'' l (idle_numbers (far.settled ++ it ∷ [])))
          (numbers-more expired_number far.settled it)
          (subst (λ (l : List ℕ). Sees pass pass'' (expired_numbers far.settled ++ expired_number verdict) l)
          (numbers-more idle_number far.settled it)
          (Sees-then pass pass' pass'' (expired_numbers far.settled) (expired_number verdict) (idle_numbers far.settled)
          (idle_number verdict) far.sees next.decides.sees));
      lines = TellsMoments-more keep epoch a b c far.settled it next.told far.moves far.lines next.lines next.clock_is;
      expired_is = expired_is ∙ ap₂ (λ (n m : ℕ). n + m) far.expired_is (expired-one verdict)
          ∙ sym (count-more is_expired far.settled it);
      short_is = short_is
          ∙ short-one verdict short (count_by (λ it. is_short_moment it.verdict) far.settled) far.short_is
          ∙ ap capped (sym (count-more is_short_moment far.settled it));
    }
  where
    it : SettledMoment
    it = record { moment = next.moment; verdict = verdict }

    P : SettledMoment → Type 0
    P = IsRightAt keep epoch pass''.seen

-- what a share has counted holds one moment more at which runs went
pub count-fits : (keep : ℕ) (epoch : ℤ) (b c : Option Moments) (pass' pass'' : History)
    (before share share' expired : ℕ) (verdict : Expiry)
    → SettlesMoment keep epoch b c pass' pass'' share share' verdict → share ≡ before + expired
    → expired + length (expired_number verdict) ≤ share'
count-fits keep epoch b c pass' pass'' before share share' expired verdict next is =
    omega (arith, next.decides.counted, is)

-- what a share has counted, after one more moment
pub share-more : (keep : ℕ) (epoch : ℤ) (b c : Option Moments) (pass' pass'' : History)
    (before share share' expired expired' : ℕ) (verdict : Expiry)
    → SettlesMoment keep epoch b c pass' pass'' share share' verdict → share ≡ before + expired
    → expired' ≡ expired + length (expired_number verdict) → share' ≡ before + expired'
share-more keep epoch b c pass' pass'' before share share' expired expired' verdict next is more =
    omega (arith, next.decides.counted, is, more)

-- what a share has counted by the end
pub share-all : (before share share' counted expired : ℕ) → share ≡ before + expired → share' ≡ share
    → counted ≡ share' → counted ≡ before + expired
share-all before share share' counted expired is same seen = seen ∙ same ∙ is
