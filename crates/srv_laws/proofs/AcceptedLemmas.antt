-- A file that is accepted is published, or shown full, or memory ran out.
use Rattle.std.proofs.Common.{◌≡◌, ◌≢◌, ℕ, All, List, Option, Some, None, Result, Ok, inl, inr, refl, sym, ap, subst, ◌∙◌}
use Rattle.std.proofs.lemmas.List.Elements.{All-weaker}
use Rattle.std.proofs.lemmas.Option.{none-some}
use Rattle.dev_traits.specs.declared.inbox.Verdict.{Verdict}
use Rattle.dev_traits.specs.declared.inbox.Verdict.TheVariants as kinds
use Rattle.dev_traits.specs.Inbox.{Post}
use Rattle.fm_model.specs.declared.limit.TheConstants.{MAX_FILE_BYTES}
use Rattle.fm_model.specs.declared.loaded.Loaded.{Loaded}
use Rattle.fm_model.specs.declared.loaded.LoadFault.{LoadFault}
use Rattle.fm_model.specs.declared.op.Op.{Op}
use Rattle.fm_model.specs.declared.proto.Proto.{Proto}
use Rattle.dev_traits.specs.declared.files.Found.{Found}
use Rattle.dev_traits.specs.Files.{found_of}
use Rattle.pub_look.specs.History.{History}
use Rattle.srv_ingest.specs.declared.report.IngestEnd.{IngestEnd}
use Rattle.srv_ingest.specs.declared.report.IngestEnd.TheVariants as ends
use Rattle.srv_ingest.specs.declared.report.IngestReport.{IngestReport}
use Rattle.srv_laws.specs.Accepted.{IsAccepted, IsPublishedOrFull}
use Rattle.srv_ingest.specs.Ingests.{found_with, IsRight, SettledWith}
use Rattle.srv_verdict.specs.Verdicts.{IsVerdictOnFile}
use Rattle.srv_ingest.specs.Verdicts.{file_or_refusal, file_or_verdict, IsVerdict, taken_back, unless_faulty, unless_refused}

-- the verdict on a file is that it was published, or that there was no room
on-file : (ops : List Op) (file : Loaded) (verdict : Verdict) → IsVerdictOnFile ops (Ok file) verdict
    → IsPublishedOrFull ops file verdict
on-file ops file (kinds.Published number) is = is
on-file ops file (kinds.Full count) is = is
on-file ops file verdict is = absurd is

-- the accepted file is the one that the verdict is on
file-is : (proto : Proto) (content : List ℕ → Option (List ℕ)) (name : List ℕ) (file : Loaded)
    → IsAccepted proto content name file
    → file_or_verdict proto name (found_of MAX_FILE_BYTES (content name)) ≡ Ok file
unfolding file_or_refusal
file-is proto content name file accepted =
    ap (λ (f : Found). file_or_verdict proto name f) accepted.is_found
    ∙ ap (λ (r : Result Loaded LoadFault). unless_refused (unless_faulty r)) accepted.loads

-- one name
one-accepted : (proto : Proto) (content : List ℕ → Option (List ℕ)) (ops : List Op) (name : List ℕ)
    (back : Option (List ℕ)) (verdict : Verdict) (file : Loaded) → IsVerdict proto ops content name back verdict
    → back ≡ None → file_or_verdict proto name (found_of MAX_FILE_BYTES (content name)) ≡ Ok file
    → IsPublishedOrFull ops file verdict
unfolding IsVerdict
one-accepted proto content ops name (Some back) verdict file is none file_is = absurd (none-some back (sym none))
one-accepted proto content ops name None verdict file is none file_is = elim is [
  | inl short ↦ subst (λ (v : Verdict). IsPublishedOrFull ops file v) (sym short) tt
  | inr right ↦ on-file ops file verdict
      (subst (λ (r : Result Loaded Verdict). IsVerdictOnFile ops r verdict) file_is right)
]

-- all names that were settled
pub all-accepted : (proto : Proto) (post : Post) (inbox' : Option Post) (pass pass' : History)
    (report : IngestReport) (done : SettledWith proto (Some post) inbox' pass pass' report)
    → All (λ it. (file : Loaded) → IsAccepted proto post.content it.name file
    → IsPublishedOrFull pass'.seen file it.verdict) (found_with done.settled done.untaken)
all-accepted proto post inbox' pass pass' report done =
    All-weaker (IsRight proto post.content pass'.seen)
    (λ it. (file : Loaded) → IsAccepted proto post.content it.name file → IsPublishedOrFull pass'.seen file it.verdict)
    (λ it right file accepted. one-accepted proto post.content pass'.seen it.name (taken_back it.name) it.verdict file
    right accepted.no_retraction (file-is proto post.content it.name file accepted))
    (found_with done.settled done.untaken) done.is.each

-- an end before which each name was settled, unless the inbox failed
end-fault : (end : IngestEnd) (unsettled : Option (List ℕ)) (name : List ℕ)
    → (end ≢ ends.InboxFault → unsettled ≡ None) → unsettled ≡ Some name → end ≡ ends.InboxFault
end-fault ends.Done unsettled name whole is = absurd (none-some name (sym (whole (λ e. cc)) ∙ is))
end-fault ends.NoMemory unsettled name whole is = absurd (none-some name (sym (whole (λ e. cc)) ∙ is))
end-fault ends.InboxFault unsettled name whole is = refl

-- where a name has no verdict the inbox failed
pub fault-unsettled : (proto : Proto) (inbox inbox' : Option Post) (pass pass' : History) (report : IngestReport)
    (done : SettledWith proto inbox inbox' pass pass' report) (name : List ℕ) → done.unsettled ≡ Some name
    → report.end ≡ ends.InboxFault
fault-unsettled proto inbox inbox' pass pass' report done name is =
    end-fault report.end done.unsettled name done.whole is
