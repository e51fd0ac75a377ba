-- A body within the limit, and one that is over it.
use Rattle.std.proofs.Common.{◌≡◌, ℕ, ◌+◌, ◌<◌, ◌≤◌, List, length, Some, Ok, Err, ap, sym, subst, ◌∙◌, arith}
use Rattle.std.proofs.lemmas.Bool.{cond-false, cond-true, le-ltb, lt-ltb}
use Rattle.std.proofs.lemmas.List.{append-nil, length-append}
use Rattle.dap_model.specs.declared.projection.Sent.{Sent}
use Rattle.fm_dataset.specs.Values.{Shown}
use Rattle.dap_xdr.specs.Content.{data_of}
use Rattle.dap_xdr.specs.Datasets.{content_of}
use Rattle.dap_reply.specs.declared.body.Body.{Body}
use Rattle.dap_reply.specs.declared.body.BodyKind.{BodyKind}
use Rattle.dap_reply.specs.declared.body.BodyKind.TheVariants.{Data}
use Rattle.dap_reply.specs.declared.fault.DapFault.TheVariants.{TooLarge}
use Rattle.dap_reply.specs.Body.{text_body, within_limit, MAX_BODY}
use Rattle.dap_plan.specs.Parts.{bytes_of, data_behind, ready, Parts}

under : (body : Body) (len : ℕ) → len ≡ length (bytes_of body.bytes) → len ≤ MAX_BODY → within_limit body ≡ Ok body
unfolding within_limit
under body len is few =
    cond-false _ _ _ (le-ltb MAX_BODY (length (bytes_of body.bytes)) (subst (λ n. n ≤ MAX_BODY) is few))

over : (body : Body) (len : ℕ) → len ≡ length (bytes_of body.bytes) → MAX_BODY < len
    → within_limit body ≡ Err (TooLarge len MAX_BODY)
unfolding within_limit
over body len is many =
    cond-true _ _ _ (lt-ltb MAX_BODY (length (bytes_of body.bytes)) (subst (λ n. MAX_BODY < n) is many))
    ∙ ap (λ n. Err (TooLarge n MAX_BODY)) (sym is)

ready-len : (text : List ℕ) → length text ≡ length (bytes_of (ready text))
unfolding bytes_of data_behind
ready-len text = ap length (sym (append-nil text))

pub text-under : (kind : BodyKind) (text : List ℕ) (len : ℕ) → len ≡ length text → len ≤ MAX_BODY
    → within_limit (text_body kind text) ≡ Ok (text_body kind text)
text-under kind text len is = under (text_body kind text) len (is ∙ ready-len text)

pub text-over : (kind : BodyKind) (text : List ℕ) (len : ℕ) → len ≡ length text → MAX_BODY < len
    → within_limit (text_body kind text) ≡ Err (TooLarge len MAX_BODY)
text-over kind text len is = over (text_body kind text) len (is ∙ ready-len text)

pub ruleset texts = (text-under, text-over)

-- bytes with data behind them
abbrev pub with_data : List ℕ → Shown → List Sent → Parts
with_data front shown sent = record { front = front; source = Some shown; sent = sent }

pub data-bytes : (front : List ℕ) (shown : Shown) (sent : List Sent) (behind begin len : ℕ)
    → behind ≡ length (data_of (content_of shown) sent) → begin ≡ length front → len ≡ behind + begin
    → len ≡ length (bytes_of (with_data front shown sent))
unfolding bytes_of data_behind
data-bytes front shown sent behind begin len is first all =
    omega (arith, is, first, all, length-append front (data_of (content_of shown) sent))

pub data-under : (front : List ℕ) (shown : Shown) (sent : List Sent) (behind begin len : ℕ)
    → behind ≡ length (data_of (content_of shown) sent) → begin ≡ length front → len ≡ behind + begin → len ≤ MAX_BODY
    → within_limit (record { kind = Data; bytes = with_data front shown sent })
    ≡ Ok (record { kind = Data; bytes = with_data front shown sent })
data-under front shown sent behind begin len is first all =
    under _ len (data-bytes front shown sent behind begin len is first all)

pub data-over : (front : List ℕ) (shown : Shown) (sent : List Sent) (behind begin len : ℕ)
    → behind ≡ length (data_of (content_of shown) sent) → begin ≡ length front → len ≡ behind + begin → MAX_BODY < len
    → within_limit (record { kind = Data; bytes = with_data front shown sent }) ≡ Err (TooLarge len MAX_BODY)
data-over front shown sent behind begin len is first all =
    over _ len (data-bytes front shown sent behind begin len is first all)
