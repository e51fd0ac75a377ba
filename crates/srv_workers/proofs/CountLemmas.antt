-- What the shares of workers have counted at a desk.
use Rattle.std.proofs.Common.{◌≡◌, ℕ, ◌+◌, List, [], ◌∷◌, ◌++◌, length, Bool, true, false, nat_eq, refl, sym, ap, ap₂, ◌∙◌, append-nil, length-append, arith}
use Rattle.std.specs.Prelude.{if◌then◌else◌}
use Rattle.std.specs.List.{AllZip, filter_map}
use Rattle.srv_workers.specs.declared.worker.Worker.{Worker}
use Rattle.srv_workers.specs.declared.worker.Worker.TheVariants.{Serve, TakeIn, LetGo}
use Rattle.srv_workers.specs.Course.{Keeps}
use Rattle.srv_workers.specs.Desks.{counted_at, Means, Publisher}
use Rattle.srv_workers.specs.Does.{Does, Shows}
use Rattle.srv_workers.specs.Workers.{clock_hand, counted_by, counted_with, inbox_hand}

-- the count of the first, and of the others
pub counted-cons : {D I C E H : Type 0} (means : Means E H) (number : ℕ) (w : Worker D I C E H)
    (ws : List (Worker D I C E H)) → counted_by means number (w ∷ ws)
    ≡ counted_by means number (w ∷ []) ++ counted_by means number ws
counted-cons means number (Serve d n e r) ws = refl
counted-cons means number (TakeIn i h r) ws =
    ap (λ (l : List ℕ). l ++ counted_by means number ws) (sym (append-nil (counted_at number (means.publisher h))))
counted-cons means number (LetGo c h r) ws =
    ap (λ (l : List ℕ). l ++ counted_by means number ws) (sym (append-nil (counted_at number (means.publisher h))))

-- workers that kept what they have
pub counted-kept : {D I C E H : Type 0} (means : Means E H) (number : ℕ) (vs ws : List (Worker D I C E H))
    → AllZip (Keeps means) vs ws → counted_by means number ws ≡ counted_by means number vs
counted-kept means number [] [] kept = refl
counted-kept means number [] (w ∷ ws) kept = absurd kept
counted-kept means number (v ∷ vs) [] kept = absurd kept
counted-kept means number (v ∷ vs) (w ∷ ws) kept =
    counted-cons means number w ws
    ∙ ap₂ (λ (a b : List ℕ). a ++ b) (kept.0.counted number) (counted-kept means number vs ws kept.1)
    ∙ sym (counted-cons means number v vs)

-- one count at each desk, whatever it is
one-count : (at : Bool) (share share' : ℕ)
    → length (if at then share ∷ [] else []) ≡ length (if at then share' ∷ [] else [])
one-count true share share' = refl
one-count false share share' = refl

same-length : (number : ℕ) (publisher publisher' : Publisher) → publisher'.desk ≡ publisher.desk
    → length (counted_at number publisher') ≡ length (counted_at number publisher)
same-length number publisher publisher' same =
    ap (λ (d : ℕ). length (if nat_eq d number then publisher'.share ∷ [] else [])) same
    ∙ one-count (nat_eq publisher.desk number) publisher'.share publisher.share

-- as many counts after the work as before
pub counted-worked : {D I C L E H : Type 0} (shown : Shows D I C L) (keep : ℕ) (means : Means E H) (number : ℕ)
    (vs ws : List (Worker D I C E H)) → AllZip (Does shown keep means) vs ws
    → length (counted_by means number ws) ≡ length (counted_by means number vs)
counted-worked shown keep means number [] [] worked = refl
counted-worked shown keep means number [] (w ∷ ws) worked = absurd worked
counted-worked shown keep means number (v ∷ vs) [] worked = absurd worked
counted-worked shown keep means number (Serve d n e r ∷ vs) (Serve d' n' e' r' ∷ ws) worked =
    counted-worked shown keep means number vs ws worked.1
counted-worked shown keep means number (TakeIn i h r ∷ vs) (TakeIn i' h' r' ∷ ws) worked = omega (
  arith,
  length-append (counted_at number (means.publisher h')) (counted_by means number ws),
  length-append (counted_at number (means.publisher h)) (counted_by means number vs),
  same-length number (means.publisher h) (means.publisher h') worked.0.same_desk,
  counted-worked shown keep means number vs ws worked.1,
)
counted-worked shown keep means number (LetGo c h r ∷ vs) (LetGo c' h' r' ∷ ws) worked = omega (
  arith,
  length-append (counted_at number (means.publisher h')) (counted_by means number ws),
  length-append (counted_at number (means.publisher h)) (counted_by means number vs),
  same-length number (means.publisher h) (means.publisher h') worked.0.same_desk,
  counted-worked shown keep means number vs ws worked.1,
)
counted-worked shown keep means number (Serve d n e r ∷ vs) (TakeIn i h r' ∷ ws) worked = absurd worked.0
counted-worked shown keep means number (Serve d n e r ∷ vs) (LetGo c h r' ∷ ws) worked = absurd worked.0
counted-worked shown keep means number (TakeIn i h r ∷ vs) (Serve d n e r' ∷ ws) worked = absurd worked.0
counted-worked shown keep means number (TakeIn i h r ∷ vs) (LetGo c h' r' ∷ ws) worked = absurd worked.0
counted-worked shown keep means number (LetGo c h r ∷ vs) (Serve d n e r' ∷ ws) worked = absurd worked.0
counted-worked shown keep means number (LetGo c h r ∷ vs) (TakeIn i h' r' ∷ ws) worked = absurd worked.0

-- the counts of inboxes' workers, and those of clocks' workers
pub counted-apart : {D I C E H : Type 0} (means : Means E H) (number : ℕ) (ws : List (Worker D I C E H))
    → length (counted_by means number ws) ≡ length (counted_with means number (filter_map inbox_hand ws))
    + length (counted_with means number (filter_map clock_hand ws))
counted-apart means number [] = refl
counted-apart means number (Serve d n e r ∷ ws) = counted-apart means number ws
counted-apart means number (TakeIn i h r ∷ ws) = omega (
  arith,
  length-append (counted_at number (means.publisher h)) (counted_by means number ws),
  length-append (counted_at number (means.publisher h)) (counted_with means number (filter_map inbox_hand ws)),
  counted-apart means number ws,
)
counted-apart means number (LetGo c h r ∷ ws) = omega (
  arith,
  length-append (counted_at number (means.publisher h)) (counted_by means number ws),
  length-append (counted_at number (means.publisher h)) (counted_with means number (filter_map clock_hand ws)),
  counted-apart means number ws,
)
