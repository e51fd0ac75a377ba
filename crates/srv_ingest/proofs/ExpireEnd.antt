-- All moments were settled.
use Rattle.std.proofs.Common.{◌≡◌, ℕ, ℤ, List, [], ◌++◌, map, Option, Some, None, IfSome, IsSomeAnd, sym, ap, subst, ◌∙◌, append-nil}
use Rattle.dev_traits.specs.Clock.{Moments}
use Rattle.pub_look.specs.History.{Continues, History}
use Rattle.srv_ingest.specs.declared.report.ExpireReport.{ExpireReport}
use Rattle.srv_ingest.specs.Expires.{AllSettledWith, AreAll, SettledMoment}
use Rattle.srv_ingest.specs.Turns.{HasNoMoment}
use Rattle.srv_ingest.proofs.ExpireLemmas.{MomentsSoFar, MovesOnIn, TellsMoments}

-- all moments, where none is left
all-moved : (a b c : Option Moments) (settled : List SettledMoment) → MovesOnIn a b settled
    → IfSome b (λ moments. moments.left ≡ []) → c ≡ b
    → IfSome a (λ moments. IsSomeAnd c (λ moments'. AreAll moments moments' settled))
all-moved None b c settled moves none is = tt
all-moved (Some p) None c settled moves none is = absurd moves
all-moved (Some p) (Some q) c settled moves none is =
    let moment : SettledMoment → ℤ = λ it. it.moment in
    subst (λ (h : Option Moments). IsSomeAnd h (λ r. AreAll p r settled)) (sym is) (record {
      moments_are = sym (moves.left_is ∙ ap (λ (l : List ℤ). map moment settled ++ l) none
          ∙ append-nil (map moment settled));
      none_left = none;
      verdicts_are = moves.verdicts_are;
      asked_is = moves.asked_is;
    })

-- no moment is left
pub AllSettledWith-all : (keep : ℕ) (epoch : ℤ) (a b c : Option Moments) (pass pass' pass'' : History)
    (share share' expired short : ℕ) (report : ExpireReport) → MomentsSoFar keep epoch a b pass pass' expired short
    → HasNoMoment b c pass' pass'' share share' → report.expired ≡ expired → report.short ≡ short
    → AllSettledWith keep epoch a c pass pass'' report
AllSettledWith-all keep epoch a b c pass pass' pass'' share share' expired short report far none expired_is short_is =
    subst (λ (h : History). AllSettledWith keep epoch a c pass h report) (sym none.pass_is) (record {
      settled = far.settled;
      all = all-moved a b c far.settled far.moves none.none_left none.clock_is;
      each = far.each;
      sees = far.sees;
      lines = subst (λ (h : Option Moments). TellsMoments keep epoch a h far.settled) (sym none.clock_is) far.lines;
      expired_is = expired_is ∙ far.expired_is;
      short_is = short_is ∙ far.short_is;
    })

-- what was seen by the end, as it was called before
pub AllSettledWith-seen : {keep : ℕ} {epoch : ℤ} {a c : Option Moments} {pass seen seen' : History}
    {report : ExpireReport} → AllSettledWith keep epoch a c pass seen report → seen' ≡ seen
    → AllSettledWith keep epoch a c pass seen' report
AllSettledWith-seen {keep} {epoch} {a} {c} {pass} {seen} {seen'} {report} settled same =
    subst (λ (h : History). AllSettledWith keep epoch a c pass h report) (sym same) settled

-- what was seen by the end goes on from what was seen before
pub later-all : (keep : ℕ) (epoch : ℤ) (a b c : Option Moments) (pass pass' pass'' : History)
    (share share' expired short : ℕ) → MomentsSoFar keep epoch a b pass pass' expired short
    → HasNoMoment b c pass' pass'' share share' → Continues pass.seen pass''.seen
later-all keep epoch a b c pass pass' pass'' share share' expired short far none =
    subst (λ (h : History). Continues pass.seen h.seen) (sym none.pass_is) far.sees.later

-- the prototype stays
pub proto-all : (keep : ℕ) (epoch : ℤ) (a b c : Option Moments) (pass pass' pass'' : History)
    (share share' expired short : ℕ) → MomentsSoFar keep epoch a b pass pass' expired short
    → HasNoMoment b c pass' pass'' share share' → pass''.proto ≡ pass.proto
proto-all keep epoch a b c pass pass' pass'' share share' expired short far none =
    ap (λ (h : History). h.proto) none.pass_is ∙ far.sees.proto
