-- The lines of several collections, one after the other.
use Rattle.std.proofs.Common.{◌≡◌, ◌<◌, ◌≤◌, ℕ, zero, suc, ◌+◌, List, [], ◌∷◌, ◌++◌, append-nil, length, get_or, take, slice_get, Option, refl, sym, ap, subst, ◌∙◌, arith}
use Rattle.std.specs.List.{flat_map}
use Rattle.std.proofs.lemmas.List.{take_all, take_more}
use Rattle.std.proofs.lemmas.List.Concat.{flat_map-append}
use Rattle.dev_traits.specs.Sink.{after_append}
use Rattle.pub_snap.specs.declared.desk.Closed.{Closed}
use Rattle.srv_alone.proofs.PieceLemmas.{after_append-append, appended-cut}
use Rattle.srv_ingest.specs.declared.report.ExpireReport.{ExpireReport}
use Rattle.srv_ingest.specs.declared.report.IngestReport.{IngestReport}
use Rattle.srv_words.specs.declared.job.Spec.{Spec}
use Rattle.srv_workers.specs.Several.{gone_by}
use Rattle.srv_closing.specs.Lines.{served_from, Served}

-- there is something to say of each collection
pub served-length : (k : ℕ) (specs : List Spec) (inboxes : List IngestReport) (clocks : List ExpireReport)
    (desks : List Closed) → length inboxes ≡ length specs → length desks ≡ length specs
    → length (served_from k specs inboxes clocks desks) ≡ length specs
unfolding served_from
served-length k [] inboxes clocks desks each closed = refl
served-length k (spec ∷ specs) [] clocks desks each closed = absurd (omega (arith, each))
served-length k (spec ∷ specs) (taken ∷ inboxes) clocks [] each closed = absurd (omega (arith, closed))
served-length k (spec ∷ specs) (taken ∷ inboxes) clocks (end ∷ desks) each closed =
    ap suc (served-length (k + 1) specs inboxes clocks desks (omega (arith, each)) (omega (arith, closed)))

-- what there is to say of a collection
abbrev pub said : List ℕ → IngestReport → ℕ → Closed → Served
said name taken expired closed = record { name = name; taken = taken; expired = expired; closed = closed }

-- a number of the lists, and what stands there
pub record StandsAt (specs : List Spec) (inboxes : List IngestReport) (clocks : List ExpireReport) (desks : List Closed)
    (n number : ℕ) (spec : Spec) (name : List ℕ) (expired : ℕ) : Type 0 where
  pub below : n < length specs
  pub each : length inboxes ≡ length specs
  pub all : length desks ≡ length specs
  pub name_is : name ≡ (get_or specs n spec).site.name
  pub expired_is : expired ≡ gone_by (slice_get clocks number)

-- what is said at a number is of what stands there
pub served-at : (k number : ℕ) (specs : List Spec) (inboxes : List IngestReport) (clocks : List ExpireReport)
    (desks : List Closed) (n : ℕ) (spec : Spec) (name : List ℕ) (expired : ℕ) (d : IngestReport) (e : Closed)
    → k + n ≡ number → StandsAt specs inboxes clocks desks n number spec name expired
    → get_or (served_from k specs inboxes clocks desks) n (said name (get_or inboxes n d) expired (get_or desks n e))
    ≡ said name (get_or inboxes n d) expired (get_or desks n e)
unfolding served_from
served-at k number [] inboxes clocks desks n spec name expired d e is at = absurd (omega (arith, at.below))
served-at k number (s ∷ specs) [] clocks desks n spec name expired d e is at = absurd (omega (arith, at.each))
served-at k number (s ∷ specs) (t ∷ inboxes) clocks [] n spec name expired d e is at = absurd (omega (arith, at.all))
served-at k number (s ∷ specs) (t ∷ inboxes) clocks (c ∷ desks) zero spec name expired d e is at =
    let here : k ≡ number = omega (arith, is) in
    ap (λ (x : List ℕ). said x t (gone_by (slice_get clocks k)) c)
    (sym at.name_is)
    ∙ ap (λ (x : ℕ). said name t x c) (ap (λ (m : ℕ). gone_by (slice_get clocks m)) here ∙ sym at.expired_is)
served-at k number (s ∷ specs) (t ∷ inboxes) clocks (c ∷ desks) (suc n) spec name expired d e is at =
    served-at (k + 1) number specs inboxes clocks desks n spec name expired d e (omega (arith, is)) (record {
      below = omega (arith, at.below);
      each = omega (arith, at.each);
      all = omega (arith, at.all);
      name_is = at.name_is;
      expired_is = at.expired_is;
    })

-- all lines were appended
pub lines-all : {X : Type 0} (f : X → List ℕ) (xs : List X) (n : ℕ) (before after : Option (List ℕ)) → length xs ≤ n
    → after ≡ after_append (flat_map f (take n xs)) before → after ≡ after_append (flat_map f xs) before
lines-all {X} f xs n before after end put =
    put ∙ ap (λ (l : List X). after_append (flat_map f l) before) (take_all n xs end)

-- one line more was appended
pub lines-more : {X : Type 0} (f : X → List ℕ) (xs : List X) (n : ℕ) (x : X) (before now after : Option (List ℕ))
    → after ≡ after_append (f x) now → now ≡ after_append (flat_map f (take n xs)) before → n < length xs
    → get_or xs n x ≡ x → after ≡ after_append (flat_map f (take (n + 1) xs)) before
lines-more {X} f xs n x before now after more put below at =
    let front = flat_map f (take n xs) in
    let whole : flat_map f (take (n + 1) xs) ≡ front ++ f x =
    ap (flat_map f) (take_more xs n x below) ∙ flat_map-append f (take n xs) (get_or xs n x ∷ [])
    ∙ ap (λ (y : X). front ++ (f y ++ [])) at ∙ ap (λ (l : List ℕ). front ++ l) (append-nil (f x)) in
    more ∙ ap (after_append (f x)) put ∙ after_append-append front (f x) before
    ∙ ap (λ (l : List ℕ). after_append l before) (sym whole)

-- a line was cut
pub lines-cut : {X : Type 0} (f : X → List ℕ) (xs : List X) (n : ℕ) (x : X) (before now after : Option (List ℕ))
    → (k : ℕ) × (k ≤ length (f x)) × (after ≡ after_append (take k (f x)) now)
    → now ≡ after_append (flat_map f (take n xs)) before → n < length xs → get_or xs n x ≡ x
    → (k : ℕ) × (k ≤ length (flat_map f xs)) × (after ≡ after_append (take k (flat_map f xs)) before)
lines-cut {X} f xs n x before now after cut put below at =
    appended-cut f xs n x before now after below put
    (subst (λ (y : X). (k : ℕ) × (k ≤ length (f y)) × (after ≡ after_append (take k (f y)) now)) (sym at) cut)
