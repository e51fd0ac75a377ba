-- The body of a reply is what stands behind its head.
use Rattle.std.proofs.Common.{◌≡◌, ◌≤◌, ℕ, ◌+◌, Bool, true, false, List, length, drop, ap, ◌∙◌, arith, length-append}
use Rattle.std.proofs.lemmas.List.{append-nil}
use Rattle.std.proofs.Math.Seq.{drop-append_seam}
use Rattle.dap_reply.specs.declared.body.Answer.{Answer}
use Rattle.dap_reply.specs.declared.wanted.Dap.{Dap}
use Rattle.dap_reply.specs.Head.{head_text}
use Rattle.dap_reply.specs.Parts.{bytes_of}
use Rattle.dap_reply.specs.Planned.{answer_over}
use Rattle.dap_reply.specs.Reply.{answer_head, reply_text}
use Rattle.fm_edition.specs.Held.{Held}
use Rattle.web_path.specs.declared.target.Target.{Target}
use Rattle.srv_load.specs.Asked.{answer_for, sum_of}

-- a reply to HEAD is the head alone
alone : (answer : Answer) (revision : ℕ) (last : Bool)
    → reply_text answer revision true last ≡ head_text (answer_head answer revision last)
unfolding reply_text
alone answer revision last = append-nil (head_text (answer_head answer revision last))

pub within-reply : (answer : Answer) (revision : ℕ) (last : Bool) {head whole : List ℕ} {len : ℕ}
    → head ≡ reply_text answer revision true last → whole ≡ reply_text answer revision false last
    → len ≡ length head → len ≤ length whole
unfolding reply_text
within-reply answer revision last {head} {whole} head_is whole_is len_is =
    let text = head_text (answer_head answer revision last) in
    let short : length head ≡ length text = ap length (head_is ∙ alone answer revision last) in
    let long : length whole ≡ length text + length (bytes_of answer.body.bytes) =
    ap length whole_is ∙ length-append text (bytes_of answer.body.bytes) in
    omega (arith, short, long, len_is)

-- the bytes behind it are the body
behind : (answer : Answer) (revision : ℕ) (last : Bool) (head whole : List ℕ)
    → head ≡ reply_text answer revision true last → whole ≡ reply_text answer revision false last
    → drop (length head) whole ≡ bytes_of answer.body.bytes
unfolding reply_text
behind answer revision last head whole head_is whole_is =
    let text = head_text (answer_head answer revision last) in
    ap (λ (l : List ℕ). drop (length l) whole) (head_is ∙ alone answer revision last)
    ∙ ap (drop (length text)) whole_is
    ∙ drop-append_seam text (bytes_of answer.body.bytes)

pub sum-behind : (answer : Answer) (revision : ℕ) (last : Bool) {head whole : List ℕ} {len total : ℕ}
    → head ≡ reply_text answer revision true last → whole ≡ reply_text answer revision false last
    → len ≡ length head → total ≡ sum_of (drop len whole) → total ≡ sum_of (bytes_of answer.body.bytes)
sum-behind answer revision last {head} {whole} head_is whole_is len_is total_is =
    total_is ∙ ap (λ (n : ℕ). sum_of (drop n whole)) len_is
    ∙ ap sum_of (behind answer revision last head whole head_is whole_is)

-- the reply to a request for a target
pub reply_for : (held : Held) (revision : ℕ) {dap : Dap} {target : Target} {head : Bool} {bytes : List ℕ}
    → dap ≡ record { target = target; head = head; last = false }
    → bytes ≡ reply_text (answer_over held dap) revision dap.head dap.last
    → bytes ≡ reply_text (answer_for held target) revision head false
unfolding answer_over
reply_for held revision is read =
    read ∙ ap (λ (d : Dap). reply_text (answer_over held d) revision d.head d.last) is
