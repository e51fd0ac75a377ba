-- All names that an inbox gave so far were settled.
use Rattle.std.proofs.Common.{◌≡◌, ℕ, ◌+◌, ◌≤◌, List, [], ◌∷◌, ◌++◌, option_to_list, append-nil, refl, sym, ap, subst, ◌∙◌, Option, None, arith}
use Rattle.dev_traits.specs.Inbox.{InboxShown, Post}
use Rattle.fm_model.specs.declared.op.Op.{Op}
use Rattle.fm_model.specs.declared.proto.Proto.{Proto}
use Rattle.dev_traits.specs.Cause.{one_more}
use Rattle.pub_look.specs.History.{Continues, History}
use Rattle.pub_look.proofs.HistoryLemmas.{continues_on}
use Rattle.srv_ingest.specs.declared.report.IngestEnd.{IngestEnd}
use Rattle.srv_ingest.specs.declared.report.IngestEnd.TheVariants as ends
use Rattle.srv_ingest.specs.declared.report.IngestReport.{IngestReport}
use Rattle.srv_ingest.specs.Ingests.{Counts, EndsIngest, found_with, Settled, SettledWith, Settlement}
use Rattle.srv_ingest.specs.Turns.{operations, SettlesNext, StopsNext}
use Rattle.srv_ingest.proofs.CountLemmas.{Counts-found, Counts-more, Counts-none}
use Rattle.srv_ingest.proofs.IngestLemmas.{Settled-more, Settled-none, Settled-then}

-- all names that an inbox gave so far were settled, the report counts them, and no call of the inbox failed
pub record SoFar (proto : Proto) (inbox inbox' : InboxShown) (pass pass' : History) (report : IngestReport)
    : Type 0 where
  pub settled : List Settlement
  pub is : Settled proto inbox.held inbox'.held pass pass' settled settled None
  pub counts : Counts settled settled report
  pub faults_are : inbox'.faults ≡ inbox.faults

-- no name was settled yet
pub SoFar-none : (proto : Proto) (inbox : InboxShown) (pass : History) (report : IngestReport) → report.refused ≡ 0
    → report.short ≡ 0 → report.published ≡ 0 → report.retracted ≡ 0 → SoFar proto inbox inbox pass pass report
SoFar-none proto inbox pass report refused_is short_is published_is retracted_is = record {
  settled = [];
  is = Settled-none proto inbox.held pass;
  counts = Counts-none report refused_is short_is published_is retracted_is;
  faults_are = refl;
}

-- one more name was settled
pub SoFar-more : (proto : Proto) (a b c : InboxShown) (pass pass' pass'' : History) (report report' : IngestReport)
    → SoFar proto a b pass pass' report → SettlesNext proto b c pass' pass'' report report'
    → SoFar proto a c pass pass'' report'
SoFar-more proto a b c pass pass' pass'' report report' far next = record {
  settled = far.settled ++ next.it ∷ [];
  is = Settled-more next.it next.told far.is next.next next.is next.sees next.lines next.held_is;
  counts = subst (λ (r : IngestReport). Counts (far.settled ++ next.it ∷ []) (far.settled ++ next.it ∷ []) r)
      (sym next.report_is) (Counts-more far.settled next.it report far.counts);
  faults_are = next.faults_are ∙ far.faults_are;
}

-- a report with why taking in stopped
abbrev pub with_end : IngestReport → IngestEnd → IngestReport
with_end report end = record report { end = end }

-- counts do not speak of the end
Counts-end : (settled found : List Settlement) (report : IngestReport) (end : IngestEnd)
    → Counts settled found report → Counts settled found (with_end report end)
Counts-end settled found report end counts = record {
  refused_is = counts.refused_is;
  short_is = counts.short_is;
  published_is = counts.published_is;
  retracted_is = counts.retracted_is;
}

-- taking in stopped
pub SettledWith-stopped : (proto : Proto) (a b c : InboxShown) (pass pass' pass'' : History)
    (report report' report'' : IngestReport) (end : IngestEnd) → SoFar proto a b pass pass' report
    → StopsNext proto b c pass' pass'' report report' end → report'' ≡ with_end report' end
    → SettledWith proto a.held c.held pass pass'' report''
SettledWith-stopped proto a b c pass pass' pass'' report report' report'' end far stops is =
    let found = found_with far.settled stops.untaken in
    subst (λ (r : IngestReport). SettledWith proto a.held c.held pass pass'' r) (sym is) (record {
      settled = far.settled;
      untaken = stops.untaken;
      unsettled = stops.unsettled;
      is = subst (λ (l : List Settlement). Settled proto a.held c.held pass pass'' l found stops.unsettled)
          (append-nil far.settled) (Settled-then [] (option_to_list stops.untaken) far.is stops.moves stops.right
          stops.sees stops.lines);
      counts = Counts-end far.settled found report' end (subst (λ (r : IngestReport). Counts far.settled found r)
          (sym stops.report_is) (Counts-found far.settled stops.untaken report far.counts));
      named = stops.named;
      whole = stops.whole;
    })

-- what was seen by the end, as it was called before
pub SettledWith-seen : {proto : Proto} {held held' : Option Post} {pass seen seen' : History} {report : IngestReport}
    → SettledWith proto held held' pass seen report → seen' ≡ seen → SettledWith proto held held' pass seen' report
SettledWith-seen {proto} {held} {held'} {pass} {seen} {seen'} {report} settled same =
    subst (λ (h : History). SettledWith proto held held' pass h report) (sym same) settled

-- the end, by all calls of the inbox
pub EndsIngest-from : (a b c : InboxShown) (end : IngestEnd) → b.faults ≡ a.faults → EndsIngest b c end
    → EndsIngest a c end
unfolding EndsIngest
EndsIngest-from a b c ends.Done faults so = (so.0 ∙ faults, so.1)
EndsIngest-from a b c ends.InboxFault faults so = so ∙ ap one_more faults
EndsIngest-from a b c ends.NoMemory faults so = so ∙ faults

-- the end of a call
pub EndsIngest-stopped : {proto : Proto} {a b c : InboxShown} {pass pass' pass'' : History}
    {report report' : IngestReport} {end : IngestEnd} → SoFar proto a b pass pass' report
    → StopsNext proto b c pass' pass'' report report' end → EndsIngest a c end
EndsIngest-stopped {proto} {a} {b} {c} {pass} {pass'} {pass''} {report} {report'} {end} far stops =
    EndsIngest-from a b c end far.faults_are stops.ends_so

-- what was seen by the end goes on from what was seen before
pub later-stopped : (proto : Proto) (a b c : InboxShown) (pass pass' pass'' : History)
    (report report' : IngestReport) (end : IngestEnd) → SoFar proto a b pass pass' report
    → StopsNext proto b c pass' pass'' report report' end → Continues pass.seen pass''.seen
later-stopped proto a b c pass pass' pass'' report report' end far stops =
    continues_on pass.seen pass'.seen pass''.seen far.is.sees.later stops.sees.later

-- the prototype stays
pub proto-stopped : (proto : Proto) (a b c : InboxShown) (pass pass' pass'' : History)
    (report report' : IngestReport) (end : IngestEnd) → SoFar proto a b pass pass' report
    → StopsNext proto b c pass' pass'' report report' end → pass''.proto ≡ pass.proto
proto-stopped proto a b c pass pass' pass'' report report' end far stops =
    stops.sees.proto ∙ far.is.sees.proto

-- what was seen by the end goes on, as it was called before
pub later-seen : (before : List Op) (seen seen' : History) → Continues before seen.seen → seen' ≡ seen
    → Continues before seen'.seen
later-seen before seen seen' later same = (later.0, ap (λ (h : History). h.seen) same ∙ later.1)

-- the prototype stays, as what was seen was called before
pub proto-seen : (proto : Proto) (seen seen' : History) → seen.proto ≡ proto → seen' ≡ seen → seen'.proto ≡ proto
proto-seen proto seen seen' stays same = ap (λ (h : History). h.proto) same ∙ stays

-- what a share has counted, before the next turn
pub share-fits : (before share : ℕ) (report : IngestReport) → share ≡ before + operations report
    → operations report ≤ share
share-fits before share report is = omega (arith, is)

-- what a share has counted, after one more turn
pub share-more : (before share share' : ℕ) (report report' : IngestReport) → share ≡ before + operations report
    → share' + operations report ≡ share + operations report' → share' ≡ before + operations report'
share-more before share share' report report' is counted = omega (arith, is, counted)

-- what a share has counted by the end
pub share-stopped : (before share share' counted : ℕ) (report report' : IngestReport)
    → share ≡ before + operations report → share' + operations report ≡ share + operations report'
    → counted ≡ share' → counted ≡ before + report'.published + report'.retracted
share-stopped before share share' counted report report' is more same = omega (arith, is, more, same)
