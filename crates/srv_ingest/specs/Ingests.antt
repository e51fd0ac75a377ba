-- All names that arrive are taken in.
use Rattle.std.specs.Prelude.{◌≡◌, ◌≢◌, ℕ, ◌&&◌, All, Bool, true, false, List, [], ◌++◌, map, Option, Some, None, is_none, is_some, IfSome, IsSomeAnd, option_to_list}
use Rattle.std.specs.List.{count_by, flat_map}
use Rattle.fm_model.specs.declared.op.Op.{Op}
use Rattle.fm_model.specs.declared.proto.Proto.{Proto}
use Rattle.dev_traits.specs.declared.inbox.Verdict.{Verdict}
use Rattle.dev_traits.specs.declared.inbox.Verdict.TheVariants as kinds
use Rattle.dev_traits.specs.Inbox.{inbox_lines, InboxShown, Post}
use Rattle.dev_traits.specs.Lines.{Tells}
use Rattle.dev_traits.specs.Cause.{capped, one_more}
use Rattle.pub_look.specs.History.{History}
use Rattle.srv_ingest.specs.declared.report.IngestEnd.{IngestEnd}
use Rattle.srv_ingest.specs.declared.report.IngestEnd.TheVariants as ends
use Rattle.srv_ingest.specs.declared.report.IngestReport.{IngestReport}
use Rattle.srv_verdict.specs.Attempts.{looked_number, published_number, Sees}
use Rattle.srv_ingest.specs.Lines.{lines_of}
use Rattle.srv_ingest.specs.Verdicts.{IsVerdict, taken_back}

-- a name that was taken from an inbox, and its verdict
pub record Settlement : Type 0 where
  pub name : List ℕ
  pub verdict : Verdict

-- the verdict on a name is right, by what the names hold and the operations that were seen
abbrev pub IsRight : Proto → (List ℕ → Option (List ℕ)) → List Op → Settlement → Type 0
IsRight proto content ops it = IsVerdict proto ops content it.name (taken_back it.name) it.verdict

-- The names that were left to come are those that were settled, then at most one that was taken and got no verdict, and
-- those that are still left. The verdicts are the new ones of the inbox, in the order of the names.
pub record MovesOn (post post' : Post) (settled : List Settlement) (unsettled : Option (List ℕ)) : Type 0 where
  pub left_is : post.left ≡ (map (λ it. it.name) settled ++ option_to_list unsettled) ++ post'.left
  pub verdicts_are : post'.verdicts ≡ post.verdicts ++ map (λ it. it.verdict) settled
  pub content_is : post'.content ≡ post.content
  pub asked_is : post'.asked ≡ post.asked

-- the names of an inbox moved on so, where the inbox shows what it holds
abbrev pub MovesIn : Option Post → Option Post → List Settlement → Option (List ℕ) → Type 0
MovesIn inbox inbox' settled unsettled =
    IfSome inbox (λ post. IsSomeAnd inbox' (λ post'. MovesOn post post' settled unsettled))

-- all verdicts are right, where the inbox shows what it holds
abbrev pub AllRight : Proto → Option Post → List Op → List Settlement → Type 0
AllRight proto inbox ops settled = IfSome inbox (λ post. All (IsRight proto post.content ops) settled)

-- the line of a verdict on a name, if it has one
abbrev pub line_on : Proto → List Op → (List ℕ → Option (List ℕ)) → Settlement → List (List ℕ)
line_on proto ops content it = lines_of proto ops content it.name (taken_back it.name) it.verdict

-- where the inbox shows what it holds, and lost no line, its new lines are those of these verdicts, in order
abbrev pub TellsAll : Proto → Option Post → Option Post → List Op → List Settlement → Type 0
TellsAll proto inbox inbox' ops found =
    IfSome inbox (λ post. Tells (flat_map (line_on proto ops post.content) found) post.lines (inbox_lines inbox'))

-- the numbers of the operations that names became
abbrev pub published_numbers : List Settlement → List ℕ
published_numbers settled = flat_map (λ it. published_number it.verdict) settled

-- the numbers of operations at the looks that verdicts speak of
abbrev pub looked_numbers : List Settlement → List ℕ
looked_numbers settled = flat_map (λ it. looked_number it.verdict) settled

-- names were taken from an inbox and settled, once each and in order. The verdicts that were found, on those and maybe
-- on one more, are right by what has been seen by the end, and were told
pub record Settled (proto : Proto) (inbox inbox' : Option Post) (pass pass' : History)
    (settled found : List Settlement) (unsettled : Option (List ℕ)) : Type 0 where
  pub moves : MovesIn inbox inbox' settled unsettled
  pub each : AllRight proto inbox pass'.seen found
  pub sees : Sees pass pass' (published_numbers found) (looked_numbers found)
  pub lines : TellsAll proto inbox inbox' pass'.seen found

-- whether a name became an operation
unfoldable pub is_published : Verdict → Bool
is_published (kinds.Published number) = true
is_published verdict = false

-- whether a file came under a name
abbrev pub has_come : Settlement → Bool
has_come it = is_published it.verdict && is_none (taken_back it.name)

-- whether a name took a file back
abbrev pub is_retracted : Settlement → Bool
is_retracted it = is_published it.verdict && is_some (taken_back it.name)

-- whether a verdict is counted as refused: the file was refused, or there was no room for it
unfoldable pub is_refused : Verdict → Bool
is_refused (kinds.Refused code) = true
is_refused (kinds.Full count) = true
is_refused verdict = false

-- whether a verdict says that memory ran out
unfoldable pub is_short : Verdict → Bool
is_short kinds.Short = true
is_short verdict = false

-- A report counts as refused and as short what the inbox was told, and as published and retracted all verdicts that
-- were found.
pub record Counts (settled found : List Settlement) (report : IngestReport) : Type 0 where
  pub refused_is : report.refused ≡ capped (count_by (λ it. is_refused it.verdict) settled)
  pub short_is : report.short ≡ capped (count_by (λ it. is_short it.verdict) settled)
  pub published_is : report.published ≡ count_by has_come found
  pub retracted_is : report.retracted ≡ count_by is_retracted found

-- the verdicts that were found: those of the names that were settled, and one that the inbox did not take
abbrev pub found_with : List Settlement → Option Settlement → List Settlement
found_with settled untaken = settled ++ option_to_list untaken

-- Names were settled, and the report counts them. At most one name that was taken got no verdict, and then the inbox
-- failed. A verdict that it did not take is on that name, is right like the others, and its operation is counted.
pub record SettledWith (proto : Proto) (inbox inbox' : Option Post) (pass pass' : History) (report : IngestReport)
    : Type 0 where
  pub settled : List Settlement
  pub untaken : Option Settlement
  pub unsettled : Option (List ℕ)
  pub is : Settled proto inbox inbox' pass pass' settled (found_with settled untaken) unsettled
  pub counts : Counts settled (found_with settled untaken) report
  pub named : IfSome untaken (λ it. unsettled ≡ Some it.name)
  pub whole : report.end ≢ ends.InboxFault → unsettled ≡ None

-- taking in ends so: where nothing will arrive, none is left; a failure of the inbox is blamed, and no call failed
-- otherwise
unfoldable pub EndsIngest : InboxShown → InboxShown → IngestEnd → Type 0
EndsIngest inbox inbox' ends.Done =
    (inbox'.faults ≡ inbox.faults) × IfSome inbox'.held (λ post. post.left ≡ [])
EndsIngest inbox inbox' ends.InboxFault = inbox'.faults ≡ one_more inbox.faults
EndsIngest inbox inbox' ends.NoMemory = inbox'.faults ≡ inbox.faults
