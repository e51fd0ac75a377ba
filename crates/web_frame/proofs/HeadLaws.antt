-- Bytes are read as a head exactly where the grammar has one.
use Rattle.std.proofs.Common.{◌≡◌, ℕ, ◌<◌, ◌≤◌, true, false, if◌then◌else◌, List, [], length, ap, ◌∙◌}
use Rattle.httparse.specs.Grammar.{RequestHead, ReadsRequest}
use Rattle.web_frame.specs.Head.{head_of, is_head}
use Rattle.web_frame.specs.Items.{Item, item_of, request, bad_head}
use Rattle.web_frame.specs.Said.{request_of}
use Rattle.web_frame.proofs.HeadLemmas.{head_of_read, is_head_read, is_head_refused}

pub item_of_head : (bytes : List ℕ) (h : RequestHead) → ReadsRequest bytes h [] → length h.fields ≤ 64
    → item_of bytes ≡ request (request_of h) h.target
unfolding item_of
item_of_head bytes h reads fits =
    ap (λ t. if t then request (request_of (head_of bytes)) (head_of bytes).target else bad_head)
    (is_head_read bytes h (reads, fits))
    ∙ ap (λ (g : RequestHead). request (request_of g) g.target) (head_of_read bytes h reads)

pub item_of_no_head : (bytes : List ℕ) → ((h : RequestHead) → ReadsRequest bytes h [] → 64 < length h.fields)
    → item_of bytes ≡ bad_head
unfolding item_of
item_of_no_head bytes none = ap
    (λ t. if t then request (request_of (head_of bytes)) (head_of bytes).target else bad_head)
    (is_head_refused bytes none)

pub ruleset heads = (item_of_head, item_of_no_head)
