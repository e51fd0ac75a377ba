-- All names that were left were taken in.
use Rattle.std.proofs.Common.{◌≡◌, ◌≢◌, ℕ, ◌+◌, All, List, [], ◌∷◌, ◌++◌, drop, length, map, zip, Option, Some, None, IfSome, option_to_list, refl, sym, ap, subst, ◌∙◌, append-nil, length-append, arith}
use Rattle.std.proofs.lemmas.List.{length-map}
use Rattle.std.proofs.lemmas.List.Elements.{All-cons, All-head, All-nil, All-tail}
use Rattle.std.proofs.lemmas.Option.{none-some}
use Rattle.dev_traits.specs.declared.inbox.Verdict.{Verdict}
use Rattle.dev_traits.specs.Inbox.{Post}
use Rattle.fm_model.specs.declared.op.Op.{Op}
use Rattle.fm_model.specs.declared.proto.Proto.{Proto}
use Rattle.pub_look.specs.History.{History}
use Rattle.srv_ingest.specs.declared.report.IngestEnd.TheVariants.{InboxFault}
use Rattle.srv_ingest.specs.declared.report.IngestReport.{IngestReport}
use Rattle.srv_ingest.specs.Ingests.{found_with, published_numbers, IsRight, SettledWith, Settlement}
use Rattle.srv_ingest.specs.Verdicts.{taken_back, IsVerdict}
use Rattle.srv_laws.proofs.AloneLemmas.{names-length}

-- where no name is without a verdict, each verdict that was found was taken
untaken-none : (untaken : Option Settlement) (unsettled : Option (List ℕ))
    → IfSome untaken (λ it. unsettled ≡ Some it.name) → unsettled ≡ None → untaken ≡ None
untaken-none None unsettled named none = refl
untaken-none (Some it) unsettled named none = absurd (none-some it.name (sym none ∙ named))

-- the names that were left are those that were settled
all-settled : (names left : List (List ℕ)) (unsettled : Option (List ℕ)) (settled : List Settlement)
    → names ≡ (map (λ it. it.name) settled ++ option_to_list unsettled) ++ left → left ≡ [] → unsettled ≡ None
    → names ≡ map (λ it. it.name) settled
all-settled names left unsettled settled is none whole =
    let name : Settlement → List ℕ = λ it. it.name in
    is ∙ ap (λ (l : List (List ℕ)). (map name settled ++ option_to_list unsettled) ++ l) none
    ∙ append-nil (map name settled ++ option_to_list unsettled)
    ∙ ap (λ (o : Option (List ℕ)). map name settled ++ option_to_list o) whole
    ∙ append-nil (map name settled)

-- what was added to a list
drop-front : {A : Type 0} (xs ys : List A) → drop (length xs) (xs ++ ys) ≡ ys
drop-front [] ys = refl
drop-front (x ∷ xs) ys = drop-front xs ys

-- the verdict on a name is right
abbrev Right : Proto → (List ℕ → Option (List ℕ)) → List Op → List ℕ × Verdict → Type 0
Right proto content ops it = IsVerdict proto ops content it.0 (taken_back it.0) it.1

-- names and their verdicts, side by side
side-by-side : (proto : Proto) (content : List ℕ → Option (List ℕ)) (ops : List Op) (settled : List Settlement)
    → All (IsRight proto content ops) settled
    → All (Right proto content ops) (zip (map (λ it. it.name) settled) (map (λ it. it.verdict) settled))
side-by-side proto content ops [] all = All-nil (Right proto content ops)
side-by-side proto content ops (it ∷ settled) all =
    let P : Settlement → Type 0 = IsRight proto content ops in
    All-cons (Right proto content ops) (it.name, it.verdict)
    (zip (map (λ it. it.name) settled) (map (λ it. it.verdict) settled)) (All-head P it settled all)
    (side-by-side proto content ops settled (All-tail P it settled all))

module _ (proto : Proto) (post post' : Post) (pass pass' : History) (report : IngestReport)
    (done : SettledWith proto (Some post) (Some post') pass pass' report) (none : post'.left ≡ [])
    (end : report.end ≢ InboxFault) where
  -- all verdicts that were found were taken
  found-taken : found_with done.settled done.untaken ≡ done.settled
  found-taken = ap (found_with done.settled) (untaken-none done.untaken done.unsettled done.named (done.whole end))
      ∙ append-nil done.settled

  -- the names that were left, in order
  names-are : post.left ≡ map (λ it. it.name) done.settled
  names-are = all-settled post.left post'.left done.unsettled done.settled done.is.moves.left_is none (done.whole end)

  pub one-each : (length post'.verdicts ≡ length post.verdicts + length post.left)
      × (length (published_numbers done.settled) ≡ report.published + report.retracted)
  one-each =
      let name : Settlement → List ℕ = λ it. it.name in
      let verdict : Settlement → Verdict = λ it. it.verdict in
      let verdicts = ap (λ (l : List Verdict). length l) done.is.moves.verdicts_are in
      let names = ap (λ (l : List (List ℕ)). length l) names-are in (
        omega (
          arith,
          verdicts,
          names,
          length-append post.verdicts (map verdict done.settled),
          length-map done.settled verdict,
          length-map done.settled name,
        ),
        omega (
          arith,
          ap (λ (l : List Settlement). length (published_numbers l)) found-taken,
          names-length (found_with done.settled done.untaken),
          done.counts.published_is,
          done.counts.retracted_is,
        ),
      )

  pub right-each : All (Right proto post.content pass'.seen)
      (zip post.left (drop (length post.verdicts) post'.verdicts))
  right-each =
      let name : Settlement → List ℕ = λ it. it.name in
      let verdict : Settlement → Verdict = λ it. it.verdict in
      let P : List ℕ × Verdict → Type 0 = Right proto post.content pass'.seen in
      let verdicts = ap (λ (l : List Verdict). drop (length post.verdicts) l) done.is.moves.verdicts_are
      ∙ drop-front post.verdicts (map verdict done.settled) in
      let right = subst (λ (l : List Settlement). All (IsRight proto post.content pass'.seen) l) found-taken
      done.is.each in
      subst (λ (l : List (List ℕ)). All P (zip l (drop (length post.verdicts) post'.verdicts))) (sym names-are)
      (subst (λ (l : List Verdict). All P (zip (map name done.settled) l)) (sym verdicts)
      (side-by-side proto post.content pass'.seen done.settled right))
