-- The bytes of a body: what stands ready, and the data behind it.
use Rattle.std.proofs.Common.{◌≡◌, ℕ, ◌+◌, ◌-◌, ◌^◌, ◌<◌, ◌≤◌, List, ◌++◌, length, min, drop, Ok, Err, sym, ap, subst, ◌∙◌, arith}
use Rattle.std.proofs.lemmas.Bool.{cond-false, cond-true, le-ltb, lt-ltb}
use Rattle.std.proofs.lemmas.List.{length-append}
use Rattle.dap_model.specs.declared.projection.Sent.{Sent}
use Rattle.dap_number.specs.Overlay.{overlay, IsPut}
use Rattle.dap_number.proofs.FrontLemmas.{put-behind}
use Rattle.dap_xdr.specs.Content.{data_of}
use Rattle.dap_reply.specs.declared.fault.DapFault.TheVariants.{TooLarge}
use Rattle.dap_reply.specs.Body.{MAX_BODY}
use Rattle.fm_twod.specs.Asked.{within_limit}
use Rattle.fm_twod.specs.Laid.{content_of, Laid}
use Rattle.fm_twod.specs.Parts.{bytes_of, Body, IsBody}

-- some bytes with the data of a view behind them
abbrev pub with_data : List ℕ → Laid → List Sent → Body
with_data front laid sent = record { front = front; laid = laid; sent = sent }

-- how many there are
pub body-len : (front : List ℕ) (laid : Laid) (sent : List Sent) (behind begin : ℕ)
    → behind ≡ length (data_of (content_of laid) sent) → begin ≡ length front
    → behind + begin ≡ length (bytes_of (with_data front laid sent))
unfolding bytes_of
body-len front laid sent behind begin is first =
    omega (arith, is, first, length-append front (data_of (content_of laid) sent))

-- the data is short
pub body-small : (front : List ℕ) (laid : Laid) (sent items : List Sent) (len : ℕ)
    → IsBody (with_data front laid sent) len
    → items ≡ sent → length (data_of (content_of laid) items) < 2 ^ 64
unfolding bytes_of
body-small front laid sent items len body is = omega (
  arith,
  body.few,
  body.len_is,
  length-append front (data_of (content_of laid) sent),
  ap (λ (s : List Sent). length (data_of (content_of laid) s)) is,
)

-- a piece of the bytes that stand ready, and one of the data behind it
pub body-piece : (front : List ℕ) (laid : Laid) (sent items : List Sent) (begin old now before back rest : List ℕ)
    (from first second left : ℕ) → begin ≡ front → items ≡ sent → first ≡ min (length old) (length begin - from)
    → now ≡ overlay (drop from begin) old → now ≡ before ++ back → length before ≡ first → left ≡ from - length begin
    → IsPut (drop left (data_of (content_of laid) items)) back rest second
    → IsPut (drop from (bytes_of (with_data front laid sent))) old (before ++ rest) (first + second)
unfolding bytes_of
body-piece front laid sent items begin old now before back rest from first second left is same many written split long
    passed put =
    let behind = data_of (content_of laid) items in
    let all : begin ++ behind ≡ front ++ data_of (content_of laid) sent =
    ap (λ (l : List ℕ). l ++ behind) is ∙ ap (λ (s : List Sent). front ++ data_of (content_of laid) s) same in
    subst (λ (l : List ℕ). IsPut (drop from l) old (before ++ rest) (first + second)) all
    (put-behind begin behind old now before back rest from first second left many written split long passed put)

-- a body within the limit, and one that is over it
pub body-under : (body : Body) (len : ℕ) → len ≡ length (bytes_of body) → len ≤ MAX_BODY → within_limit body ≡ Ok body
unfolding within_limit
body-under body len is few =
    cond-false _ _ _ (le-ltb MAX_BODY (length (bytes_of body)) (subst (λ n. n ≤ MAX_BODY) is few))

pub body-over : (body : Body) (len : ℕ) → len ≡ length (bytes_of body) → MAX_BODY < len
    → within_limit body ≡ Err (TooLarge len MAX_BODY)
unfolding within_limit
body-over body len is many =
    cond-true _ _ _ (lt-ltb MAX_BODY (length (bytes_of body)) (subst (λ n. MAX_BODY < n) is many))
    ∙ ap (λ n. Err (TooLarge n MAX_BODY)) (sym is)
