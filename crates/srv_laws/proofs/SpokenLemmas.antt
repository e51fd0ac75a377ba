-- What the verdicts say of looks.
use Rattle.std.proofs.Common.{◌≡◌, ℕ, ℤ, ◌+◌, ◌≤◌, ◌==◌, cond, All, List, [], ◌∷◌, ◌++◌, length, take, count_by, false, Option, Some, None, inl, inr, sym, ap, subst, ◌∙◌, arith}
use Rattle.std.proofs.lemmas.List.Elements.{All-weaker}
use Rattle.std.proofs.lemmas.List.Sums.{sum_by-append, sum_by-cons}
use Rattle.std.proofs.lemmas.Option.{none-some, same_Some}
use Rattle.dev_traits.specs.declared.clock.Expiry.{Expiry}
use Rattle.dev_traits.specs.declared.clock.Expiry.TheVariants.{Idle}
use Rattle.dev_traits.specs.declared.inbox.Verdict.{Verdict}
use Rattle.dev_traits.specs.declared.inbox.Verdict.TheVariants.{NotHeld, Short}
use Rattle.dev_traits.specs.Clock.{Moments}
use Rattle.dev_traits.specs.Inbox.{Post}
use Rattle.fm_model.specs.declared.op.Op.{Op}
use Rattle.fm_model.specs.declared.proto.Proto.{Proto}
use Rattle.fm_model.specs.Collection.{coll, holds, holds_older}
use Rattle.pub_look.specs.History.{History}
use Rattle.srv_ingest.specs.declared.report.ExpireReport.{ExpireReport}
use Rattle.srv_ingest.specs.declared.report.IngestReport.{IngestReport}
use Rattle.srv_verdict.specs.Attempts.{IsPickedFrom, Sees}
use Rattle.srv_ingest.specs.Expires.{idle_numbers, AllSettledWith, IsRightAt}
use Rattle.srv_ingest.specs.Ingests.{found_with, looked_numbers, IsRight, SettledWith}
use Rattle.srv_verdict.specs.Verdicts.{IsExpiry, IsVerdictOnRetraction}
use Rattle.srv_ingest.specs.Verdicts.{cutoff_at, taken_back, IsVerdict}

-- how many of some numbers are this one
abbrev of_number : ℕ → List ℕ → ℕ
of_number n numbers = count_by (λ m. m == n) numbers

-- of what is picked from a list there is no more than in the list
picked-fewer : (n : ℕ) (picked xs : List ℕ) → IsPickedFrom picked xs → of_number n picked ≤ of_number n xs
unfolding IsPickedFrom
picked-fewer n picked [] is =
    let none : of_number n picked ≡ 0 = ap (of_number n) is in
    omega (arith, none)
picked-fewer n picked (x ∷ xs) is = elim is [
  | inl without ↦
      let more = sum_by-cons (λ m. cond (m == n) 1 0) x xs in
      omega (arith, more, picked-fewer n picked xs without)
  | inr rest ↦
      let first : of_number n picked ≡ of_number n (x ∷ rest.0) = ap (of_number n) rest.1 in
      let one = sum_by-cons (λ m. cond (m == n) 1 0) x rest.0 in
      let more = sum_by-cons (λ m. cond (m == n) 1 0) x xs in
      omega (arith, first, one, more, picked-fewer n rest.0 xs rest.2)
]

-- the looks that are spoken of were made
spoken-made : (n : ℕ) (pass pass' : History) (published looked : List ℕ) → Sees pass pass' published looked
    → of_number n pass.looks + of_number n looked ≤ of_number n pass'.looks
spoken-made n pass pass' published looked sees =
    let all : of_number n pass'.looks ≡ of_number n (pass.looks ++ sees.more) = ap (of_number n) sees.looks in
    let both = sum_by-append (λ m. cond (m == n) 1 0) pass.looks sees.more in
    omega (arith, all, both, picked-fewer n looked sees.more sees.picked)

pub looks-of-names : (proto : Proto) (inbox inbox' : Option Post) (pass pass' : History) (report : IngestReport)
    (done : SettledWith proto inbox inbox' pass pass' report) (n : ℕ)
    → count_by (λ m. m == n) pass.looks
    + count_by (λ m. m == n) (looked_numbers (found_with done.settled done.untaken))
    ≤ count_by (λ m. m == n) pass'.looks
looks-of-names proto inbox inbox' pass pass' report done n =
    spoken-made n pass pass' _ (looked_numbers (found_with done.settled done.untaken)) done.is.sees

pub looks-of-moments : (keep : ℕ) (epoch : ℤ) (clock clock' : Option Moments) (pass pass' : History)
    (report : ExpireReport) (done : AllSettledWith keep epoch clock clock' pass pass' report) (n : ℕ)
    → count_by (λ m. m == n) pass.looks + count_by (λ m. m == n) (idle_numbers done.settled)
    ≤ count_by (λ m. m == n) pass'.looks
looks-of-moments keep epoch clock clock' pass pass' report done n =
    spoken-made n pass pass' _ (idle_numbers done.settled) done.sees

-- a verdict that no file was held, on a name that takes one back
not-held : (proto : Proto) (ops : List Op) (content : List ℕ → Option (List ℕ)) (name : List ℕ)
    (taken : Option (List ℕ)) (verdict : Verdict) (back : List ℕ) (count : ℕ)
    → IsVerdict proto ops content name taken verdict → taken ≡ Some back → verdict ≡ NotHeld count
    → (count ≤ length ops) × (holds (coll (take count ops)) back ≡ false)
unfolding IsVerdict
not-held proto ops content name None verdict back count is taken_is verdict_is = absurd (none-some back taken_is)
not-held proto ops content name (Some other) verdict back count is taken_is verdict_is = elim is [
  | inl short ↦ let differ : NotHeld count ≡ Short = sym verdict_is ∙ short in absurd (cc differ)
  | inr right ↦ subst (λ (b : List ℕ). (count ≤ length ops) × (holds (coll (take count ops)) b ≡ false))
      (same_Some other back taken_is)
      (subst (λ (v : Verdict). IsVerdictOnRetraction ops other v) verdict_is right)
]

pub all-not-held : (proto : Proto) (post : Post) (inbox' : Option Post) (pass pass' : History) (report : IngestReport)
    (done : SettledWith proto (Some post) inbox' pass pass' report)
    → All (λ it. (back : List ℕ) (count : ℕ) → taken_back it.name ≡ Some back → it.verdict ≡ NotHeld count
    → (count ≤ length pass'.seen) × (holds (coll (take count pass'.seen)) back ≡ false))
    (found_with done.settled done.untaken)
all-not-held proto post inbox' pass pass' report done =
    All-weaker (IsRight proto post.content pass'.seen)
    (λ it. (back : List ℕ) (count : ℕ) → taken_back it.name ≡ Some back → it.verdict ≡ NotHeld count
    → (count ≤ length pass'.seen) × (holds (coll (take count pass'.seen)) back ≡ false))
    (λ it right back count. not-held proto pass'.seen post.content it.name (taken_back it.name) it.verdict back count
    right)
    (found_with done.settled done.untaken) done.is.each

pub all-idle : (keep : ℕ) (epoch : ℤ) (clock clock' : Option Moments) (pass pass' : History) (report : ExpireReport)
    (done : AllSettledWith keep epoch clock clock' pass pass' report)
    → All (λ it. (count : ℕ) → it.verdict ≡ Idle count → (count ≤ length pass'.seen)
    × (holds_older (coll (take count pass'.seen)) (cutoff_at it.moment keep epoch) ≡ false)) done.settled
all-idle keep epoch clock clock' pass pass' report done = All-weaker (IsRightAt keep epoch pass'.seen)
    (λ it. (count : ℕ) → it.verdict ≡ Idle count → (count ≤ length pass'.seen)
    × (holds_older (coll (take count pass'.seen)) (cutoff_at it.moment keep epoch) ≡ false))
    (λ it right count is. subst (λ (v : Expiry). IsExpiry pass'.seen (cutoff_at it.moment keep epoch) v) is right)
    done.settled done.each
