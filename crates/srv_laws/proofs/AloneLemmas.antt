-- Each operation of a log in which one inbox and one clock publish has one verdict.
use Rattle.std.proofs.Common.{◌≡◌, ℕ, ℤ, ◌+◌, ◌-◌, ◌≤◌, ◌==◌, ◌&&◌, Bool, true, false, cond, not, is_none, is_some, All, List, [], ◌∷◌, ◌++◌, length, count_by, slice_get, Option, Some, None, Result, Ok, Err, inl, inr, refl, sym, ap, ap₂, subst, ◌∙◌, length-append, arith}
use Rattle.std.proofs.lemmas.List.Elements.{All-append, All-cons, All-head, All-nil, All-tail}
use Rattle.std.proofs.lemmas.List.Sums.{sum_by-append, sum_by-cons}
use Rattle.dev_traits.specs.declared.clock.Expiry.{Expiry}
use Rattle.dev_traits.specs.declared.clock.Expiry.TheVariants as expiries
use Rattle.dev_traits.specs.declared.inbox.Verdict.{Verdict}
use Rattle.dev_traits.specs.declared.inbox.Verdict.TheVariants as verdicts
use Rattle.dev_traits.specs.Clock.{Moments}
use Rattle.dev_traits.specs.Inbox.{Post}
use Rattle.dev_traits.specs.Files.{found_of}
use Rattle.fm_model.specs.declared.limit.TheConstants.{MAX_FILE_BYTES}
use Rattle.fm_model.specs.declared.loaded.Loaded.{Loaded}
use Rattle.fm_model.specs.declared.op.Op.{Op}
use Rattle.fm_model.specs.declared.op.Op.TheVariants.{Expire, Put, Retract}
use Rattle.fm_model.specs.declared.proto.Proto.{Proto}
use Rattle.pub_look.specs.History.{Continues, History}
use Rattle.pub_look.proofs.HistoryLemmas.{continues_length}
use Rattle.srv_ingest.specs.declared.report.ExpireReport.{ExpireReport}
use Rattle.srv_ingest.specs.declared.report.IngestReport.{IngestReport}
use Rattle.srv_laws.specs.Alone.{IsOfBoth, verdicts_on}
use Rattle.srv_verdict.specs.Attempts.{expired_number, published_number, RiseBetween}
use Rattle.srv_ingest.specs.Expires.{expired_numbers, is_expired, AllSettledWith, IsRightAt, SettledMoment}
use Rattle.srv_ingest.specs.Ingests.{found_with, has_come, is_published, is_retracted, IsRight, published_numbers, SettledWith, Settlement}
use Rattle.srv_verdict.specs.Verdicts.{IsExpiry, IsNumbered, IsVerdictOnFile, IsVerdictOnRetraction}
use Rattle.srv_ingest.specs.Verdicts.{cutoff_at, file_or_refusal, file_or_verdict, IsVerdict, taken_back}
use Rattle.srv_verdict.proofs.LaterLemmas.{IsNumbered-later}
use Rattle.srv_ingest.proofs.MomentCounts.{expired-one}
use Rattle.srv_laws.proofs.RisingNumbers.{at-most, each-once, many, many-both, none-without}
use Rattle.srv_verdict.proofs.SeesLemmas.{RiseBetween-lower, RiseBetween-higher}
use Rattle.srv_ingest.proofs.VerdictLemmas.{given-numbers}

-- whether an operation lets runs go
abbrev is_expiry : Option Op → Bool
is_expiry (Some (Expire cutoff)) = true
is_expiry other = false

-- whether the operation of a number does, and whether it is of another kind
abbrev by_clock : List Op → ℕ → Bool
by_clock log n = is_expiry (slice_get log (n - 1))

abbrev by_inbox : List Op → ℕ → Bool
by_inbox log n = not (by_clock log n)

-- the operation of a number
op-at : (log : List Op) (n : ℕ) (op : Op) → IsNumbered log n op → slice_get log (n - 1) ≡ Some op
op-at log n op is =
    ap (λ (i : ℕ). slice_get log i) (let e : n - 1 ≡ is.index = omega (arith, is.number_is) in e) ∙ is.op_is

put-there : (ops log : List Op) (n : ℕ) (file : Loaded) → Continues ops log → IsNumbered ops n (Put file)
    → by_inbox log n ≡ true
put-there ops log n file later is =
    ap (λ (o : Option Op). not (is_expiry o)) (op-at log n (Put file) (IsNumbered-later ops log n (Put file) later is))

retract-there : (ops log : List Op) (n : ℕ) (name : List ℕ) → Continues ops log → IsNumbered ops n (Retract name)
    → by_inbox log n ≡ true
retract-there ops log n name later is =
    ap (λ (o : Option Op). not (is_expiry o))
    (op-at log n (Retract name) (IsNumbered-later ops log n (Retract name) later is))

expiry-there : (ops log : List Op) (n : ℕ) (cutoff : ℤ) → Continues ops log → IsNumbered ops n (Expire cutoff)
    → by_clock log n ≡ true
expiry-there ops log n cutoff later is =
    ap is_expiry (op-at log n (Expire cutoff) (IsNumbered-later ops log n (Expire cutoff) later is))

-- all of one
one-has : (P : ℕ → Type 0) (n : ℕ) → P n → All P (n ∷ [])
one-has P n is = All-cons P n [] is (All-nil P)

-- the operation that a verdict on a file says
of-file : (ops log : List Op) (found : Result Loaded Verdict) (verdict : Verdict) → Continues ops log
    → ((given : Verdict) → found ≡ Err given → published_number given ≡ []) → IsVerdictOnFile ops found verdict
    → All (λ n. by_inbox log n ≡ true) (published_number verdict)
of-file ops log (Err given) verdict later none is =
    subst (All (λ n. by_inbox log n ≡ true)) (sym (ap published_number is ∙ none given refl))
    (All-nil (λ n. by_inbox log n ≡ true))
of-file ops log (Ok file) (verdicts.Published number) later none is =
    one-has (λ n. by_inbox log n ≡ true) number (put-there ops log number file later is)
of-file ops log (Ok file) (verdicts.Full count) later none is = All-nil (λ n. by_inbox log n ≡ true)
of-file ops log (Ok file) verdict later none is = absurd is

-- the operation that a verdict on a retraction says
of-back : (ops log : List Op) (name : List ℕ) (verdict : Verdict) → Continues ops log
    → IsVerdictOnRetraction ops name verdict → All (λ n. by_inbox log n ≡ true) (published_number verdict)
of-back ops log name (verdicts.Published number) later is =
    one-has (λ n. by_inbox log n ≡ true) number (retract-there ops log number name later is)
of-back ops log name (verdicts.NotHeld count) later is = All-nil (λ n. by_inbox log n ≡ true)
of-back ops log name verdict later is = absurd is

-- the operation that a verdict on a name says
of-name : (proto : Proto) (ops log : List Op) (content : List ℕ → Option (List ℕ)) (name : List ℕ)
    (back : Option (List ℕ)) (verdict : Verdict) → Continues ops log
    → IsVerdict proto ops content name back verdict → All (λ n. by_inbox log n ≡ true) (published_number verdict)
unfolding IsVerdict
of-name proto ops log content name (Some back) verdict later is = elim is [
  | inl short ↦ subst (λ (v : Verdict). All (λ n. by_inbox log n ≡ true) (published_number v)) (sym short)
      (All-nil (λ n. by_inbox log n ≡ true))
  | inr right ↦ of-back ops log back verdict later right
]
of-name proto ops log content name None verdict later is = elim is [
  | inl short ↦ subst (λ (v : Verdict). All (λ n. by_inbox log n ≡ true) (published_number v)) (sym short)
      (All-nil (λ n. by_inbox log n ≡ true))
  | inr right ↦ of-file ops log (file_or_verdict proto name (found_of MAX_FILE_BYTES (content name))) verdict later
      (λ given e. (given-numbers (file_or_refusal proto name (found_of MAX_FILE_BYTES (content name))) given e).0)
      right
]

-- all operations that verdicts on names say are of the inbox's kinds
of-names : (proto : Proto) (content : List ℕ → Option (List ℕ)) (ops log : List Op) (found : List Settlement)
    → Continues ops log → All (IsRight proto content ops) found
    → All (λ n. by_inbox log n ≡ true) (published_numbers found)
of-names proto content ops log [] later all = All-nil (λ n. by_inbox log n ≡ true)
of-names proto content ops log (it ∷ found) later all =
    let P : Settlement → Type 0 = IsRight proto content ops in
    All-append (λ n. by_inbox log n ≡ true) (published_number it.verdict) (published_numbers found)
    (of-name proto ops log content it.name (taken_back it.name) it.verdict later (All-head P it found all))
    (of-names proto content ops log found later (All-tail P it found all))

-- the operation that a verdict on a moment says
of-moment : (ops log : List Op) (cutoff : ℤ) (verdict : Expiry) → Continues ops log → IsExpiry ops cutoff verdict
    → All (λ n. by_clock log n ≡ true) (expired_number verdict)
of-moment ops log cutoff (expiries.Expired number) later is =
    one-has (λ n. by_clock log n ≡ true) number (expiry-there ops log number cutoff later is)
of-moment ops log cutoff (expiries.Idle count) later is = All-nil (λ n. by_clock log n ≡ true)
of-moment ops log cutoff expiries.Short later is = All-nil (λ n. by_clock log n ≡ true)

of-moments : (keep : ℕ) (epoch : ℤ) (ops log : List Op) (moments : List SettledMoment) → Continues ops log
    → All (IsRightAt keep epoch ops) moments → All (λ n. by_clock log n ≡ true) (expired_numbers moments)
of-moments keep epoch ops log [] later all = All-nil (λ n. by_clock log n ≡ true)
of-moments keep epoch ops log (it ∷ moments) later all =
    let P : SettledMoment → Type 0 = IsRightAt keep epoch ops in
    All-append (λ n. by_clock log n ≡ true) (expired_number it.verdict) (expired_numbers moments)
    (of-moment ops log (cutoff_at it.moment keep epoch) it.verdict later (All-head P it moments all))
    (of-moments keep epoch ops log moments later (All-tail P it moments all))

-- a verdict says one operation, where a name came or took back, and else none
name-length : (verdict : Verdict) (back : Option (List ℕ)) → length (published_number verdict)
    ≡ cond (is_published verdict && is_none back) 1 0 + cond (is_published verdict && is_some back) 1 0
unfolding is_published
name-length (verdicts.Published number) None = refl
name-length (verdicts.Published number) (Some back) = refl
name-length verdict back = refl

-- as many operations are said as names came and took back
pub names-length : (found : List Settlement)
    → length (published_numbers found) ≡ count_by has_come found + count_by is_retracted found
names-length [] = refl
names-length (it ∷ found) =
    let more = length-append (published_number it.verdict) (published_numbers found) in
    let one : length (published_number it.verdict) ≡ cond (has_come it) 1 0 + cond (is_retracted it) 1 0 =
    name-length it.verdict (taken_back it.name) in
    let rest = names-length found in
    let come = sum_by-cons (λ (x : Settlement). cond (has_come x) 1 0) it found in
    let gone = sum_by-cons (λ (x : Settlement). cond (is_retracted x) 1 0) it found in
    omega (arith, more, one, rest, come, gone)

-- as many operations are said as moments at which runs went
moments-length : (moments : List SettledMoment)
    → length (expired_numbers moments) ≡ count_by (λ it. is_expired it.verdict) moments
moments-length [] = refl
moments-length (it ∷ moments) =
    let more = length-append (expired_number it.verdict) (expired_numbers moments) in
    let one = expired-one it.verdict in
    let rest = moments-length moments in
    let went = sum_by-cons (λ (x : SettledMoment). cond (is_expired x.verdict) 1 0) it moments in
    omega (arith, more, one, rest, went)

-- two lists of numbers rise up to a bound, one with a property and one without, and have as many items as there are
-- numbers: each number is in one of them, once
one-of-both : (has : ℕ → Bool) (high : ℕ) (without with : List ℕ) → RiseBetween 0 high without
    → RiseBetween 0 high with → All (λ n. not (has n) ≡ true) without → All (λ n. has n ≡ true) with
    → length without + length with ≡ high → (number : ℕ) → 1 ≤ number → number ≤ high
    → count_by (λ n. n == number) (without ++ with) ≡ 1
one-of-both has high without with rise rise' lack have all number least most =
    sum_by-append (λ n. cond (n == number) 1 0) without with ∙ by (has number) refl
  where
    fewer : length without ≤ many (λ n. not (has n)) 0 high
    fewer = at-most (λ n. not (has n)) 0 high high without (omega arith) rise lack

    fewer' : length with ≤ many has 0 high
    fewer' = at-most has 0 high high with (omega arith) rise' have

    both : many (λ n. not (has n)) 0 high + many has 0 high ≡ high
    both = many-both has 0 high

    by : (b : Bool) → has number ≡ b
        → count_by (λ n. n == number) without + count_by (λ n. n == number) with ≡ 1
    by true is = ap₂ (λ (m n : ℕ). m + n)
        (none-without (λ n. not (has n)) without number lack (ap not is))
        (each-once has 0 high high with (omega arith) rise' have (omega (arith, fewer, fewer', both, all)) number
        (omega (arith, least)) most is)
    by false is = ap₂ (λ (m n : ℕ). m + n)
        (each-once (λ n. not (has n)) 0 high high without (omega arith) rise lack
        (omega (arith, fewer, fewer', both, all)) number (omega (arith, least)) most (ap not is))
        (none-without has with number have is)

-- each operation has one verdict
pub one-verdict : (proto : Proto) (post : Post) (inbox' : Option Post) (seen seen' : History) (report : IngestReport)
    (names : SettledWith proto (Some post) inbox' seen seen' report)
    (keep : ℕ) (epoch : ℤ) (clock clock' : Option Moments) (timed timed' : History) (told : ExpireReport)
    (moments : AllSettledWith keep epoch clock clock' timed timed' told)
    (log : List Op) → IsOfBoth log seen' report timed' told → (number : ℕ) → 1 ≤ number → number ≤ length log
    → verdicts_on number (found_with names.settled names.untaken) moments.settled ≡ 1
one-verdict proto post inbox' seen seen' report names keep epoch clock clock' timed timed' told moments log is number
    least most =
    let found = found_with names.settled names.untaken in
    let named : RiseBetween 0 (length log) (published_numbers found) =
    RiseBetween-higher 0 (length seen'.seen) (length log) (published_numbers found)
    (continues_length seen'.seen log is.named)
    (RiseBetween-lower 0 (length seen.seen) (length seen'.seen) (published_numbers found) (omega arith)
    names.is.sees.rise) in
    let told_of : RiseBetween 0 (length log) (expired_numbers moments.settled) =
    RiseBetween-higher 0 (length timed'.seen) (length log) (expired_numbers moments.settled)
    (continues_length timed'.seen log is.timed)
    (RiseBetween-lower 0 (length timed.seen) (length timed'.seen) (expired_numbers moments.settled) (omega arith)
    moments.sees.rise) in
    one-of-both (by_clock log) (length log) (published_numbers found) (expired_numbers moments.settled) named told_of
    (of-names proto post.content seen'.seen log found is.named names.is.each)
    (of-moments keep epoch timed'.seen log moments.settled is.timed moments.each)
    (omega (
      arith,
      names-length found,
      moments-length moments.settled,
      names.counts.published_is,
      names.counts.retracted_is,
      moments.expired_is,
      is.counted,
    ))
    number least most
