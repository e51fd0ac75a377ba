-- Where the parser finds a whole head, its spans cover the head that is cut out of the bytes.
use Rattle.std.proofs.Common.{◌≡◌, ℕ, ◌<◌, ◌≤◌, true, List, [], length, map, take, drop, arith, refl, sym, ap, subst, ◌∙◌, inl, inr, Result, Ok}
use Rattle.std.proofs.lemmas.Bool.{cases_lt}
use Rattle.std.proofs.lemmas.List.{drop_all, length-map, length-take, append-nil}
use Rattle.httparse.specs.declared.Error.{Error}
use Rattle.httparse.specs.declared.Status.{Status}
use Rattle.httparse.specs.declared.Status.TheVariants.{Complete}
use Rattle.httparse.specs.declared.spans.HeaderSpan.{HeaderSpan}
use Rattle.httparse.specs.declared.spans.RequestSpans.{RequestSpans}
use Rattle.httparse.specs.Grammar.{RequestHead, ReadsRequest, print_request}
use Rattle.httparse.specs.Spans.{IsRequestOf, IsRequestAt, FindsRequest, header_bytes, name_and_value}
use Rattle.web_frame.specs.Head.{head_of, is_head}
use Rattle.web_frame.proofs.HeadLemmas.{IsHeadOf, head_of_read, is_head_read}

-- spans that end where the bytes do cover one whole head
whole_read : (raw : List ℕ) (headers : List HeaderSpan) (spans : RequestSpans) (h : RequestHead)
    → IsRequestAt raw headers spans h → spans.len ≡ length raw → ReadsRequest raw h []
whole_read raw headers spans h at all =
    let none : drop spans.len raw ≡ [] = drop_all spans.len raw (omega arith) in
    subst (ReadsRequest raw h) none at.reads

-- as many field lines as there are headers
fields_fit : (raw : List ℕ) (headers : List HeaderSpan) (spans : RequestSpans) (h : RequestHead)
    → IsRequestAt raw headers spans h → length h.fields ≤ length headers
fields_fit raw headers spans h at =
    let same : length (map (header_bytes raw) (take spans.headers headers)) ≡ length (map name_and_value h.fields) =
    ap length at.fields in
    omega (arith, simp (length-map, length-take) at same)

pub spans_cover : (raw : List ℕ) (headers : List HeaderSpan) (spans : RequestSpans)
    → IsRequestOf raw headers spans → spans.len ≡ length raw → IsRequestAt raw headers spans (head_of raw)
spans_cover raw headers spans of all = subst (IsRequestAt raw headers spans)
    (sym (head_of_read raw of.0 (whole_read raw headers spans of.0 of.1 all))) of.1

pub spans_show : (raw : List ℕ) (headers : List HeaderSpan) (spans : RequestSpans)
    → IsRequestOf raw headers spans → spans.len ≡ length raw → length headers ≡ 64 → is_head raw ≡ true
spans_show raw headers spans of all room =
    let few : length of.0.fields ≤ 64 = omega (arith, fields_fit raw headers spans of.0 of.1) in
    is_head_read raw of.0 (whole_read raw headers spans of.0 of.1 all, few)

-- a whole head of few fields would end where the bytes do
pub ends_there : (raw : List ℕ) (room : ℕ) (headers : List HeaderSpan) (spans : RequestSpans) (h : RequestHead)
    → FindsRequest raw room headers (Ok (Complete spans)) → ReadsRequest raw h [] → length h.fields ≤ room
    → spans.len ≡ length raw
ends_there raw room headers spans h found reads few =
    (found h [] reads few).len ∙ ap length (sym (reads.1 ∙ append-nil (print_request h)))

-- there are more field lines than room, unless few of them lead to a contradiction
pub many_unless : (n room : ℕ) → (n ≤ room → ⊥) → room < n
many_unless n room none = elim (cases_lt room n) [ inl more ↦ more | inr few ↦ absurd (none few) ]
