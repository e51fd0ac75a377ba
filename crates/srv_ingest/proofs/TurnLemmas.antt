-- The turn of one name.
use Rattle.std.proofs.Common.{◌≡◌, ℕ, List, [], ◌∷◌, drop, Option, Some, None, IfSome, IsSomeAnd, flat_map, refl, sym, ap, subst, ◌∙◌, append-nil}
use Rattle.std.proofs.lemmas.List.Elements.{All-cons, All-nil}
use Rattle.std.proofs.lemmas.Option.{none-some, same_Some}
use Rattle.dev_traits.specs.declared.inbox.Arrival.TheVariants as arrivals
use Rattle.dev_traits.specs.declared.inbox.Verdict.{Verdict}
use Rattle.dev_traits.specs.Door.{first_of}
use Rattle.dev_traits.specs.Inbox.{after_next, after_settle, inbox_lines, InboxShown, Post, with_lines}
use Rattle.dev_traits.specs.Lines.{Tells, Told}
use Rattle.fm_model.specs.declared.op.Op.{Op}
use Rattle.fm_model.specs.declared.proto.Proto.{Proto}
use Rattle.dev_traits.specs.Cause.{one_more}
use Rattle.pub_look.specs.History.{History}
use Rattle.srv_verdict.specs.Attempts.{looked_number, published_number, Sees}
use Rattle.srv_verdict.proofs.SeesLemmas.{Sees-itself}
use Rattle.srv_ingest.specs.declared.report.IngestEnd.{IngestEnd}
use Rattle.srv_ingest.specs.declared.report.IngestEnd.TheVariants as ends
use Rattle.srv_ingest.specs.declared.report.IngestReport.{IngestReport}
use Rattle.srv_ingest.specs.Ingests.{AllRight, EndsIngest, IsRight, line_on, looked_numbers, MovesOn, MovesIn, published_numbers, Settlement}
use Rattle.srv_ingest.specs.Lines.{lines_of}
use Rattle.srv_ingest.specs.Turns.{DecidesName, FailsBefore, SettlesNext, StopsNext, with_published, with_settled}
use Rattle.srv_ingest.specs.Verdicts.{IsVerdict, taken_back}
use Rattle.srv_ingest.proofs.LineLemmas.{TellsAll-none, TellsAll-one}
use Rattle.srv_ingest.proofs.ReportLemmas.{operations-published, operations-settled}

-- an inbox of which nothing was taken
pub MovesIn-itself : (held held' : Option Post) → held' ≡ held → MovesIn held held' [] None
MovesIn-itself None held' is = tt
MovesIn-itself (Some post) held' is =
    subst (λ (h : Option Post). IsSomeAnd h (λ post'. MovesOn post post' [] None)) (sym is) (record {
      left_is = refl;
      verdicts_are = sym (append-nil post.verdicts);
      content_is = refl;
      asked_is = refl;
    })

-- a list with a first item
pub first-is : (names : List (List ℕ)) (name : List ℕ) → first_of names ≡ Some name → names ≡ name ∷ drop 1 names
first-is [] name is = absurd (none-some name is)
first-is (x ∷ names) name is = ap (λ (n : List ℕ). n ∷ names) (same_Some x name is)

-- an inbox of which one name was taken
MovesIn-taken : (held held' : Option Post) (name : List ℕ) → held' ≡ after_next (arrivals.Name name) held
    → IfSome held (λ post. first_of post.left ≡ Some name) → MovesIn held held' [] (Some name)
MovesIn-taken None held' name is first = tt
MovesIn-taken (Some post) held' name is first =
    subst (λ (h : Option Post). IsSomeAnd h (λ post'. MovesOn post post' [] (Some name))) (sym is) (record {
      left_is = first-is post.left name first;
      verdicts_are = sym (append-nil post.verdicts);
      content_is = refl;
      asked_is = refl;
    })

-- an inbox of which one name was taken, and that was told lines
MovesIn-told : (held held' : Option Post) (told : Told) (name : List ℕ)
    → held' ≡ with_lines told (after_next (arrivals.Name name) held)
    → IfSome held (λ post. first_of post.left ≡ Some name) → MovesIn held held' [] (Some name)
MovesIn-told None held' told name is first = tt
MovesIn-told (Some post) held' told name is first =
    subst (λ (h : Option Post). IsSomeAnd h (λ post'. MovesOn post post' [] (Some name))) (sym is) (record {
      left_is = first-is post.left name first;
      verdicts_are = sym (append-nil post.verdicts);
      content_is = refl;
      asked_is = refl;
    })

-- the name that was given last is the one to settle
pub settles-last : (held held' held'' : Option Post) (told : Told) (name : List ℕ)
    → held' ≡ after_next (arrivals.Name name) held → held'' ≡ with_lines told held'
    → IfSome held'' (λ post. post.last ≡ Some name)
settles-last None held' held'' told name is told_is =
    subst (λ (h : Option Post). IfSome h (λ post. post.last ≡ Some name)) (sym (told_is ∙ ap (with_lines told) is)) tt
settles-last (Some post) held' held'' told name is told_is =
    subst (λ (h : Option Post). IfSome h (λ post. post.last ≡ Some name)) (sym (told_is ∙ ap (with_lines told) is))
    refl

-- the lines of an inbox that is as before
pub lines-itself : (held held' : Option Post) → held' ≡ held → IfSome held (λ post. inbox_lines held' ≡ post.lines)
lines-itself None held' is = tt
lines-itself (Some post) held' is = ap inbox_lines is

-- the lines of an inbox that gave a name
lines-taken : (held held' : Option Post) (name : List ℕ) → held' ≡ after_next (arrivals.Name name) held
    → IfSome held (λ post. inbox_lines held' ≡ post.lines)
lines-taken None held' name is = tt
lines-taken (Some post) held' name is = ap inbox_lines is

-- the lines of an inbox that gave a name, and was told them
lines-told : (held held' : Option Post) (told : Told) (name : List ℕ)
    → held' ≡ with_lines told (after_next (arrivals.Name name) held)
    → IfSome held (λ post. inbox_lines held' ≡ told)
lines-told None held' told name is = tt
lines-told (Some post) held' told name is = ap inbox_lines is

-- what was told of a name, by an inbox that gave it
told-before : (proto : Proto) (name : List ℕ) (verdict : Verdict) (ops : List Op) (told : Told)
    (held held' : Option Post) → held' ≡ after_next (arrivals.Name name) held
    → IfSome held' (λ post. Tells (lines_of proto ops post.content name (taken_back name) verdict) post.lines told)
    → IfSome held (λ post. Tells (line_on proto ops post.content (record { name = name; verdict = verdict })) post.lines
    told)
told-before proto name verdict ops told None held' is tells = tt
told-before proto name verdict ops told (Some post) held' is tells = subst (λ (h : Option Post).
    IfSome h (λ it. Tells (lines_of proto ops it.content name (taken_back name) verdict) it.lines told)) is tells

-- what holds of what a name holds, by an inbox that gave the name
right-before : (proto : Proto) (name : List ℕ) (verdict : Verdict) (pass : History) (held held' : Option Post)
    → held' ≡ after_next (arrivals.Name name) held
    → IfSome held' (λ post. IsVerdict proto pass.seen post.content name (taken_back name) verdict)
    → IfSome held (λ post. IsRight proto post.content pass.seen (record { name = name; verdict = verdict }))
right-before proto name verdict pass None held' is right = tt
right-before proto name verdict pass (Some post) held' is right = subst (λ (h : Option Post).
    IfSome h (λ it. IsVerdict proto pass.seen it.content name (taken_back name) verdict)) is right

-- no verdict is right
pub AllRight-none : (proto : Proto) (held : Option Post) (ops : List Op) → AllRight proto held ops []
AllRight-none proto None ops = tt
AllRight-none proto (Some post) ops = All-nil (IsRight proto post.content ops)

-- one verdict is right
pub AllRight-one : (proto : Proto) (held : Option Post) (ops : List Op) (it : Settlement)
    → IfSome held (λ post. IsRight proto post.content ops it) → AllRight proto held ops (it ∷ [])
AllRight-one proto None ops it right = tt
AllRight-one proto (Some post) ops it right =
    let P : Settlement → Type 0 = IsRight proto post.content ops in All-cons P it [] right (All-nil P)

-- the numbers of one verdict
one-number : (number : Verdict → List ℕ) (it : Settlement)
    → number it.verdict ≡ flat_map (λ it. number it.verdict) (it ∷ [])
one-number number it = sym (append-nil (number it.verdict))

-- what one verdict says and speaks of
pub Sees-one : (pass pass' : History) (it : Settlement)
    → Sees pass pass' (published_number it.verdict) (looked_number it.verdict)
    → Sees pass pass' (published_numbers (it ∷ [])) (looked_numbers (it ∷ []))
Sees-one pass pass' it sees =
    subst (λ (l : List ℕ). Sees pass pass' l (looked_numbers (it ∷ []))) (one-number published_number it)
    (subst (λ (l : List ℕ). Sees pass pass' (published_number it.verdict) l) (one-number looked_number it) sees)

-- no name was given
pub StopsNext-none : (proto : Proto) (inbox inbox' : InboxShown) (pass : History) (report : IngestReport)
    (end : IngestEnd) → inbox'.held ≡ inbox.held → EndsIngest inbox inbox' end
    → StopsNext proto inbox inbox' pass pass report report end
StopsNext-none proto inbox inbox' pass report end held_is so = record {
  untaken = None;
  unsettled = None;
  named = tt;
  moves = MovesIn-itself inbox.held inbox'.held held_is;
  right = AllRight-none proto inbox.held pass.seen;
  sees = Sees-itself pass;
  lines = TellsAll-none proto inbox.held inbox'.held pass.seen (lines-itself inbox.held inbox'.held held_is);
  report_is = refl;
  whole = λ _. refl;
  ends_so = so;
}

-- the inbox failed before there was a verdict
pub StopsNext-unfound : {proto : Proto} {inbox inbox' inbox'' : InboxShown} {pass pass' : History} {share share' : ℕ}
    {report : IngestReport} (name : List ℕ) → inbox'.held ≡ after_next (arrivals.Name name) inbox.held
    → inbox'.faults ≡ inbox.faults → IfSome inbox.held (λ post. first_of post.left ≡ Some name)
    → FailsBefore inbox' inbox'' pass pass' share share'
    → StopsNext proto inbox inbox'' pass pass' report report ends.InboxFault
unfolding EndsIngest
StopsNext-unfound {proto} {inbox} {inbox'} {inbox''} {pass} {pass'} {share} {share'} {report} name held_is faults_are
    first fails = record {
      untaken = None;
      unsettled = Some name;
      named = tt;
      moves = MovesIn-taken inbox.held inbox''.held name (fails.held_is ∙ held_is) first;
      right = AllRight-none proto inbox.held pass'.seen;
      sees = subst (λ (h : History). Sees pass h [] []) (sym fails.pass_is) (Sees-itself pass);
      lines = TellsAll-none proto inbox.held inbox''.held pass'.seen
          (lines-taken inbox.held inbox''.held name (fails.held_is ∙ held_is));
      report_is = refl;
      whole = λ other. absurd (other refl);
      ends_so = fails.faults_are ∙ ap one_more faults_are;
    }

-- the inbox did not take the verdict
pub StopsNext-untaken : {proto : Proto} {inbox inbox' inbox'' inbox''' : InboxShown} {pass pass' : History}
    {share share' : ℕ} {report report' : IngestReport} {name : List ℕ} {verdict : Verdict}
    → inbox'.held ≡ after_next (arrivals.Name name) inbox.held
    → inbox'.faults ≡ inbox.faults → IfSome inbox.held (λ post. first_of post.left ≡ Some name)
    → DecidesName proto name inbox' inbox'' pass pass' share share' verdict
    → report' ≡ with_published report (taken_back name) verdict
    → inbox'''.held ≡ inbox''.held → inbox'''.faults ≡ one_more inbox''.faults
    → StopsNext proto inbox inbox''' pass pass' report report' ends.InboxFault
unfolding EndsIngest
StopsNext-untaken {proto} {inbox} {inbox'} {inbox''} {inbox'''} {pass} {pass'} {share} {share'} {report} {report'}
    {name} {verdict} held_is faults_are first decides report_is held_same fails =
    let it : Settlement = record { name = name; verdict = verdict } in
    let is : inbox'''.held ≡ with_lines decides.told (after_next (arrivals.Name name) inbox.held) =
    held_same ∙ decides.held_is ∙ ap (with_lines decides.told) held_is in
    record {
      untaken = Some it;
      unsettled = Some name;
      named = refl;
      moves = MovesIn-told inbox.held inbox'''.held decides.told name is first;
      right = AllRight-one proto inbox.held pass'.seen it
          (right-before proto name verdict pass' inbox.held inbox'.held held_is decides.is);
      sees = Sees-one pass pass' it decides.decides.sees;
      lines = TellsAll-one proto inbox.held inbox'''.held pass'.seen it decides.told
          (lines-told inbox.held inbox'''.held decides.told name is)
          (told-before proto name verdict pass'.seen decides.told inbox.held inbox'.held held_is decides.lines);
      report_is = report_is;
      whole = λ other. absurd (other refl);
      ends_so = fails ∙ ap one_more (decides.faults_are ∙ faults_are);
    }

-- the inbox took the verdict
pub SettlesNext-taken : {proto : Proto} {inbox inbox' inbox'' inbox''' : InboxShown} {pass pass' : History}
    {share share' : ℕ} {report report' report'' : IngestReport} {name : List ℕ} {verdict : Verdict}
    → inbox'.held ≡ after_next (arrivals.Name name) inbox.held
    → inbox'.faults ≡ inbox.faults → IfSome inbox.held (λ post. first_of post.left ≡ Some name)
    → DecidesName proto name inbox' inbox'' pass pass' share share' verdict
    → report' ≡ with_published report (taken_back name) verdict
    → inbox'''.held ≡ after_settle verdict inbox''.held → inbox'''.faults ≡ inbox''.faults
    → report'' ≡ with_settled report' verdict
    → SettlesNext proto inbox inbox''' pass pass' report report''
SettlesNext-taken {proto} {inbox} {inbox'} {inbox''} {inbox'''} {pass} {pass'} {share} {share'} {report} {report'}
    {report''} {name} {verdict} held_is faults_are first decides report_is held_same faults_same report_is' = record {
      it = record { name = name; verdict = verdict };
      next = first;
      is = right-before proto name verdict pass' inbox.held inbox'.held held_is decides.is;
      sees = decides.decides.sees;
      told = decides.told;
      lines = told-before proto name verdict pass'.seen decides.told inbox.held inbox'.held held_is decides.lines;
      held_is = held_same
          ∙ ap (λ (h : Option Post). after_settle verdict h) (decides.held_is ∙ ap (with_lines decides.told) held_is);
      faults_are = faults_same ∙ decides.faults_are ∙ faults_are;
      report_is = report_is' ∙ ap (λ (r : IngestReport). with_settled r verdict) report_is;
    }

pub ruleset turns = (settles-last, operations-published, operations-settled, StopsNext-none)
