-- The verdict on a name, by what was found under it.
use Rattle.std.proofs.Common.{◌≡◌, ◌⊎◌, ℕ, List, [], ◌∷◌, Option, Some, None, Result, Ok, Err, IfSome, inl, inr, refl, sym, ap, subst, ◌∙◌}
use Rattle.dev_traits.specs.declared.inbox.Verdict.{Verdict}
use Rattle.dev_traits.specs.declared.inbox.Verdict.TheVariants as verdicts
use Rattle.dev_traits.specs.Inbox.{inbox_lines, InboxShown, Post, with_lines}
use Rattle.dev_traits.specs.Lines.{Tells}
use Rattle.fm_model.specs.declared.full.Tally.{Tally}
use Rattle.fm_model.specs.declared.limit.TheConstants.{MAX_FILE_BYTES}
use Rattle.fm_model.specs.declared.loaded.Loaded.{Loaded}
use Rattle.fm_model.specs.declared.op.Op.{Op}
use Rattle.fm_model.specs.declared.proto.Proto.{Proto}
use Rattle.dev_traits.specs.declared.files.Found.{Found}
use Rattle.dev_traits.specs.Files.{found_of}
use Rattle.pub_look.specs.History.{History}
use Rattle.srv_verdict.specs.Attempts.{Decides, HeldAfter, looked_number, published_number}
use Rattle.srv_verdict.specs.Verdicts.{IsVerdictOnFile, IsVerdictOnRetraction}
use Rattle.srv_verdict.proofs.DecidingLemmas.{Decides-itself}
use Rattle.srv_ingest.specs.declared.file.Refusal.{Refusal}
use Rattle.srv_ingest.specs.declared.file.Refusal.TheVariants as refusals
use Rattle.srv_ingest.specs.Lines.{back_lines, file_lines, later_line, lines_of, put_lines, refusal_lines}
use Rattle.srv_ingest.specs.Telling.{TellsInbox}
use Rattle.srv_ingest.specs.Turns.{DecidesName}
use Rattle.srv_ingest.specs.Verdicts.{file_or_refusal, file_or_verdict, IsVerdict, taken_back, unless_refused, verdict_of}
use Rattle.srv_ingest.proofs.LineLemmas.{lines_of-short, put_lines-held}
use Rattle.srv_ingest.proofs.ToldLemmas.{told-by}

-- whatever an inbox holds
whatever : (P : Post → Type 0) (held : Option Post) → ((post : Post) → P post) → IfSome held P
whatever P None all = tt
whatever P (Some post) all = all post

-- memory may run out at any name
short-right : (proto : Proto) (ops : List Op) (content : List ℕ → Option (List ℕ)) (name : List ℕ)
    (back : Option (List ℕ)) → IsVerdict proto ops content name back verdicts.Short
unfolding IsVerdict
short-right proto ops content name None = inl refl
short-right proto ops content name (Some back) = inl refl

-- memory ran out at a name
pub DecidesName-short : {proto : Proto} {name : List ℕ} {inbox inbox' inbox'' : InboxShown} {pass : History}
    {share : ℕ} {verdict : Verdict} → inbox'.held ≡ inbox.held → inbox'.faults ≡ inbox.faults
    → verdict ≡ verdicts.Short → TellsInbox (later_line name ∷ []) inbox' inbox''
    → DecidesName proto name inbox inbox'' pass pass share share verdict
DecidesName-short {proto} {name} {inbox} {inbox'} {inbox''} {pass} {share} {verdict} held_is faults_are short told =
    subst (λ (v : Verdict). DecidesName proto name inbox inbox'' pass pass share share v) (sym short) (record {
      is = whatever (λ post. IsVerdict proto pass.seen post.content name (taken_back name) verdicts.Short) inbox.held
          (λ post. short-right proto pass.seen post.content name (taken_back name));
      decides = Decides-itself;
      told = told.told;
      lines = told-by (λ post. lines_of proto pass.seen post.content name (taken_back name) verdicts.Short) inbox.held
          inbox'.held (later_line name ∷ []) told.told held_is told.tells
          (whatever (λ post. later_line name ∷ []
          ≡ lines_of proto pass.seen post.content name (taken_back name) verdicts.Short) inbox.held
          (λ post. lines_of-short proto pass.seen post.content name (taken_back name)));
      held_is = told.held_is ∙ ap (with_lines told.told) held_is;
      faults_are = told.faults_are ∙ faults_are;
    })

-- the verdict on a name that takes a file back
back-right : (proto : Proto) (ops : List Op) (content : List ℕ → Option (List ℕ)) (name back : List ℕ)
    (taken : Option (List ℕ)) (verdict : Verdict) → Some back ≡ taken
    → (verdict ≡ verdicts.Short) ⊎ IsVerdictOnRetraction ops back verdict
    → IsVerdict proto ops content name taken verdict
unfolding IsVerdict
back-right proto ops content name back taken verdict is right =
    subst (λ (o : Option (List ℕ)). IsVerdict proto ops content name o verdict) is right

-- a verdict was found on a name that takes a file back, and told
pub DecidesName-back : {proto : Proto} {name back : List ℕ} {inbox inbox' : InboxShown} {pass pass' : History}
    {share share' : ℕ} {verdict : Verdict} → Some back ≡ taken_back name
    → (verdict ≡ verdicts.Short) ⊎ IsVerdictOnRetraction pass'.seen back verdict
    → Decides pass pass' share share' (published_number verdict) (looked_number verdict)
    → TellsInbox (back_lines name back verdict) inbox inbox'
    → DecidesName proto name inbox inbox' pass pass' share share' verdict
DecidesName-back {proto} {name} {back} {inbox} {inbox'} {pass} {pass'} {share} {share'} {verdict} is right decides
    told = record {
      is = whatever (λ post. IsVerdict proto pass'.seen post.content name (taken_back name) verdict) inbox.held
          (λ post. back-right proto pass'.seen post.content name back (taken_back name) verdict is right);
      decides = decides;
      told = told.told;
      lines = told-by (λ post. lines_of proto pass'.seen post.content name (taken_back name) verdict) inbox.held
          inbox.held (back_lines name back verdict) told.told refl told.tells
          (whatever (λ post. back_lines name back verdict
          ≡ lines_of proto pass'.seen post.content name (taken_back name) verdict) inbox.held
          (λ post. ap (λ (o : Option (List ℕ)). lines_of proto pass'.seen post.content name o verdict) is));
      held_is = told.held_is;
      faults_are = told.faults_are;
    }

-- the verdict on a name by what was found under it
file-right : (proto : Proto) (ops : List Op) (name : List ℕ) (held : Option Post) (taken : Option (List ℕ)) (it : Found)
    (given : Result Loaded Verdict) (verdict : Verdict) → None ≡ taken
    → IfSome held (λ post. it ≡ found_of MAX_FILE_BYTES (post.content name))
    → file_or_verdict proto name it ≡ given
    → (verdict ≡ verdicts.Short) ⊎ IsVerdictOnFile ops given verdict
    → IfSome held (λ post. IsVerdict proto ops post.content name taken verdict)
unfolding IsVerdict
file-right proto ops name None taken it given verdict none found_is given_is right = tt
file-right proto ops name (Some post) taken it given verdict none found_is given_is right =
    subst (λ (o : Option (List ℕ)). IsVerdict proto ops post.content name o verdict) none
    (subst (λ (r : Result Loaded Verdict). (verdict ≡ verdicts.Short) ⊎ IsVerdictOnFile ops r verdict)
    (sym (ap (λ (f : Found). file_or_verdict proto name f) (sym found_is) ∙ given_is)) right)

-- the line of the verdict on a name by what was found under it
file-line : (proto : Proto) (ops : List Op) (name : List ℕ) (held : Option Post) (taken : Option (List ℕ)) (it : Found)
    (found : Result Loaded Refusal) (verdict : Verdict) → None ≡ taken
    → IfSome held (λ post. it ≡ found_of MAX_FILE_BYTES (post.content name)) → file_or_refusal proto name it ≡ found
    → IfSome held (λ post. file_lines ops name found verdict ≡ lines_of proto ops post.content name taken verdict)
file-line proto ops name None taken it found verdict none found_is is = tt
file-line proto ops name (Some post) taken it found verdict none found_is is =
    ap (λ (r : Result Loaded Refusal). file_lines ops name r verdict)
    (sym is ∙ ap (λ (f : Found). file_or_refusal proto name f) found_is)
    ∙ ap (λ (o : Option (List ℕ)). lines_of proto ops post.content name o verdict) none

-- a verdict was found on what was found under a name, and told
DecidesName-found : {proto : Proto} {name : List ℕ} {inbox inbox' inbox'' : InboxShown} {pass pass' : History}
    {share share' : ℕ} (it : Found) (found : Result Loaded Refusal) {verdict : Verdict} (lines : List (List ℕ))
    → None ≡ taken_back name → IfSome inbox.held (λ post. it ≡ found_of MAX_FILE_BYTES (post.content name))
    → file_or_refusal proto name it ≡ found
    → (verdict ≡ verdicts.Short) ⊎ IsVerdictOnFile pass'.seen (unless_refused found) verdict
    → Decides pass pass' share share' (published_number verdict) (looked_number verdict)
    → inbox'.held ≡ inbox.held → inbox'.faults ≡ inbox.faults → lines ≡ file_lines pass'.seen name found verdict
    → TellsInbox lines inbox' inbox'' → DecidesName proto name inbox inbox'' pass pass' share share' verdict
DecidesName-found {proto} {name} {inbox} {inbox'} {inbox''} {pass} {pass'} {share} {share'} it found {verdict} lines
    none found_is is right decides held_is faults_are lines_are told = record {
      is = file-right proto pass'.seen name inbox.held (taken_back name) it (unless_refused found) verdict none found_is
          (ap unless_refused is) right;
      decides = decides;
      told = told.told;
      lines = told-by (λ post. lines_of proto pass'.seen post.content name (taken_back name) verdict) inbox.held
          inbox'.held (file_lines pass'.seen name found verdict) told.told held_is
          (subst (λ (l : List (List ℕ)). Tells l (inbox_lines inbox'.held) told.told) lines_are told.tells)
          (file-line proto pass'.seen name inbox.held (taken_back name) it found verdict none found_is is);
      held_is = told.held_is ∙ ap (with_lines told.told) held_is;
      faults_are = told.faults_are ∙ faults_are;
    }

-- a verdict was found on a file, and told
pub DecidesName-file : {proto : Proto} {name : List ℕ} {inbox inbox' inbox'' : InboxShown} {pass pass' : History}
    {share share' : ℕ} (it : Found) {file : Loaded} {verdict : Verdict} (held : Tally) → None ≡ taken_back name
    → IfSome inbox.held (λ post. it ≡ found_of MAX_FILE_BYTES (post.content name))
    → file_or_refusal proto name it ≡ Ok file
    → (verdict ≡ verdicts.Short) ⊎ IsVerdictOnFile pass'.seen (Ok file) verdict
    → Decides pass pass' share share' (published_number verdict) (looked_number verdict)
    → HeldAfter pass'.seen held (published_number verdict)
    → inbox'.held ≡ inbox.held → inbox'.faults ≡ inbox.faults → TellsInbox (put_lines name held verdict) inbox' inbox''
    → DecidesName proto name inbox inbox'' pass pass' share share' verdict
unfolding file_lines
DecidesName-file {proto} {name} {inbox} {inbox'} {inbox''} {pass} {pass'} {share} {share'} it {file} {verdict} held
    none found_is is right decides after held_is faults_are told =
    DecidesName-found it (Ok file) (put_lines name held verdict) none found_is is right decides held_is faults_are
    (put_lines-held pass'.seen name held verdict after) told

-- a file that is refused becomes no operation and takes no look
refused-numbers : (refusal : Refusal)
    → (published_number (verdict_of refusal) ≡ []) × (looked_number (verdict_of refusal) ≡ [])
refused-numbers refusals.Absent = (refl, refl)
refused-numbers refusals.TooLong = (refl, refl)
refused-numbers (refusals.Fault fault) = (refl, refl)

-- where there is no file, no operation and no look is spoken of
pub given-numbers : (found : Result Loaded Refusal) (verdict : Verdict) → unless_refused found ≡ Err verdict
    → (published_number verdict ≡ []) × (looked_number verdict ≡ [])
given-numbers (Ok file) verdict is = absurd (cc)
given-numbers (Err refusal) verdict is =
    let same : verdict ≡ verdict_of refusal = cc in
    let numbers = refused-numbers refusal in
    (ap published_number same ∙ numbers.0, ap looked_number same ∙ numbers.1)

-- the line of a refusal
refusal-line : (ops : List Op) (name : List ℕ) (refusal : Refusal)
    → refusal_lines name refusal ≡ file_lines ops name (Err refusal) (verdict_of refusal)
unfolding file_lines
refusal-line ops name refusals.Absent = refl
refusal-line ops name refusals.TooLong = refl
refusal-line ops name (refusals.Fault fault) = refl

-- there was no file, and that is the verdict, which was told
pub DecidesName-refused : {proto : Proto} {name : List ℕ} {inbox inbox' inbox'' : InboxShown} {pass : History}
    {share : ℕ} (it : Found) {refusal : Refusal} {verdict : Verdict} → None ≡ taken_back name
    → IfSome inbox.held (λ post. it ≡ found_of MAX_FILE_BYTES (post.content name))
    → file_or_refusal proto name it ≡ Err refusal → verdict ≡ verdict_of refusal
    → inbox'.held ≡ inbox.held → inbox'.faults ≡ inbox.faults → TellsInbox (refusal_lines name refusal) inbox' inbox''
    → DecidesName proto name inbox inbox'' pass pass share share verdict
DecidesName-refused {proto} {name} {inbox} {inbox'} {inbox''} {pass} {share} it {refusal} {verdict} none found_is is
    verdict_is held_is faults_are told =
    let numbers = refused-numbers refusal in
    let decides : Decides pass pass share share (published_number (verdict_of refusal))
    (looked_number (verdict_of refusal)) =
    subst (λ (l : List ℕ). Decides pass pass share share l (looked_number (verdict_of refusal))) (sym numbers.0)
    (subst (λ (l : List ℕ). Decides pass pass share share [] l) (sym numbers.1) Decides-itself) in
    subst (λ (v : Verdict). DecidesName proto name inbox inbox'' pass pass share share v) (sym verdict_is)
    (DecidesName-found it (Err refusal) (refusal_lines name refusal) none found_is is (inr refl) decides held_is
    faults_are (refusal-line pass.seen name refusal) told)
