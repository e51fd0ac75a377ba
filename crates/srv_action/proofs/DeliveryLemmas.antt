-- The pieces that are put.
use Rattle.std.proofs.Common.{◌≡◌, ◌≤◌, ℕ, zero, suc, List, [], ◌∷◌, ◌++◌, length, min, take, drop, inl, Option, Some, None, Result, Ok, Err, refl, sym, ap, ◌∙◌, arith}
use Rattle.std.specs.Prelude.{IfOk}
use Rattle.std.proofs.Math.Seq.{take-append_seam}
use Rattle.std.proofs.lemmas.List.{length-take, take-take}
use Rattle.dev_traits.specs.declared.link.Sent.{Sent}
use Rattle.dev_traits.specs.declared.link.Sent.TheVariants as sends
use Rattle.dev_traits.specs.Link.{after_put, sent_count, SendsWithin, Wire}
use Rattle.dev_traits.specs.Shown.{LinkShown}
use Rattle.web_session.specs.declared.action.Asked.{Asked}
use Rattle.web_session.specs.declared.action.End.{End}
use Rattle.web_session.specs.declared.phase.Phase.TheVariants.{Asking}
use Rattle.web_session.specs.State.{end_after, replied, State}
use Rattle.dap_number.specs.Overlay.{overlay}
use Rattle.dap_number.proofs.FrontLemmas.{overlay-front}
use Rattle.srv_action.specs.declared.acting.Acted.TheVariants as acts
use Rattle.srv_action.specs.Acts.{acted_by, Sends}

-- a front of a piece that is itself a front
piece-front : (bytes piece : List ℕ) (count : ℕ) → take (length piece) bytes ≡ piece → count ≤ length piece
    → take count piece ≡ take count bytes
piece-front bytes piece count front within =
    ap (take count) (sym front) ∙ take-take count (length piece) bytes within

-- the put bytes of a piece are put of the bytes that it is a front of
pub put-piece : {E : Type 0} (r : Result Sent E) (bytes piece : List ℕ) (old new : Option Wire)
    → take (length piece) bytes ≡ piece → IfOk r (SendsWithin (length piece))
    → IfOk r (λ sent. new ≡ after_put (take (sent_count sent) piece) old)
    → IfOk r (λ sent. new ≡ after_put (take (sent_count sent) bytes) old)
put-piece (Ok (sends.Bytes count)) bytes piece old new front within put =
    put ∙ ap (λ (l : List ℕ). after_put l old) (piece-front bytes piece count front within.1)
put-piece (Ok sends.Later) bytes piece old new front within put = put
put-piece (Err e) bytes piece old new front within put = tt

-- what is within a front of some bytes is within them
pub within-piece : {E : Type 0} (r : Result Sent E) (bytes piece : List ℕ) → take (length piece) bytes ≡ piece
    → IfOk r (SendsWithin (length piece)) → IfOk r (SendsWithin (length bytes))
within-piece (Ok (sends.Bytes count)) bytes piece front within =
    (within.0, omega (arith, within.1, ap length front, length-take (length piece) bytes))
within-piece (Ok sends.Later) bytes piece front within = tt
within-piece (Err e) bytes piece front within = tt

-- as many bytes as there are at a front
take-front : (count : ℕ) (bytes : List ℕ) → take (length (take count bytes)) bytes ≡ take count bytes
take-front zero bytes = refl
take-front (suc count) [] = refl
take-front (suc count) (byte ∷ bytes) = ap (λ (l : List ℕ). byte ∷ l) (take-front count bytes)

pub front-of : (count : ℕ) (bytes piece : List ℕ) → piece ≡ take count bytes → take (length piece) bytes ≡ piece
front-of count bytes piece is =
    ap (λ (l : List ℕ). take (length l) bytes) is ∙ take-front count bytes ∙ sym is

-- the bytes that a plan wrote into the room are a front of its bytes
pub room-front : (bytes old new piece : List ℕ) (count : ℕ) → count ≡ min (length old) (length bytes)
    → new ≡ overlay bytes old → piece ≡ take count new → take (length piece) bytes ≡ piece
room-front bytes old new piece count is over cut =
    let front = overlay-front bytes old count is in
    let fits : length (take count bytes) ≡ count = omega (arith, length-take count bytes, front.within) in
    let wrote : piece ≡ take count bytes =
    cut ∙ ap (take count) (over ∙ front.new_is)
    ∙ ap (λ (n : ℕ). take n (take count bytes ++ drop count old)) (sym fits)
    ∙ take-append_seam (take count bytes) (drop count old) in
    ap (λ (l : List ℕ). take (length l) bytes) wrote ∙ ap (λ (n : ℕ). take n bytes) fits ∙ sym wrote

-- a reply is whole, and the session was told
pub done-so : (link : LinkShown) (session session' : State) (bytes : List ℕ) (sent : ℕ) (end : Option End)
    → sent ≡ length bytes
    → ((asked : Asked) → session.phase ≡ Asking asked
    → (session' ≡ replied session asked) × (end ≡ end_after asked session.before))
    → Sends link link session session' bytes sent sent (acted_by end)
done-so link session session' bytes sent None whole told =
    (refl, record { link = record { held_is = refl; faults_are = refl }; whole = whole; told = told })
done-so link session session' bytes sent (Some end) whole told =
    (refl, inl (record { link = record { held_is = refl; faults_are = refl }; whole = whole; told = told }))

-- which is none that would wait
pub never-later : (end : Option End) → acted_by end ≡ acts.Later → ⊥
never-later None same = cc
never-later (Some end) same = cc

pub ruleset puts = (put-piece, within-piece)
