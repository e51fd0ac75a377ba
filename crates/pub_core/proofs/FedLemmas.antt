-- How many bytes a session takes at once.
use Rattle.std.proofs.Common.{◌≡◌, ◌<◌, ◌≤◌, ℕ, ◌-◌, List, ◌++◌, length, Bool, true, ◌&&◌, ltb, leb, ap₂}
use Rattle.std.proofs.lemmas.Bool.{and_right, le-leb, lt-leb, lt-ltb}
use Rattle.fm_model.specs.declared.op.Op.{Op}
use Rattle.fm_model.specs.declared.proto.Proto.{Proto}
use Rattle.web_frame.specs.Limit.{MAX_HEAD}
use Rattle.pub_core.specs.declared.event.Event.TheVariants.{Bytes}
use Rattle.pub_core.specs.Happening.{after, effect_of, is_possible_to, settled}
use Rattle.pub_core.specs.World.{rest_fed, waits, SessionState}
use Rattle.pub_core.proofs.Steps.{after-no, after-yes}

pub fed-past : (proto : Proto) (log : List Op) (s : SessionState) (number : ℕ) (piece : List ℕ)
    → MAX_HEAD - length (rest_fed s) < length piece → after proto log (Bytes number piece) s ≡ s
unfolding is_possible_to
fed-past proto log s number piece past =
    let fits : Bool = leb (length piece) (MAX_HEAD - length (rest_fed s)) in
    after-no proto log (Bytes number piece) s
    (and_right (waits proto log s) (ltb 0 (length piece) && fits)
    (and_right (ltb 0 (length piece)) fits (lt-leb (length piece) (MAX_HEAD - length (rest_fed s)) past)))

pub fed-within : (proto : Proto) (log : List Op) (s : SessionState) (number : ℕ) (piece : List ℕ)
    → waits proto log s ≡ true → 0 < length piece → length piece ≤ MAX_HEAD - length (rest_fed s)
    → after proto log (Bytes number piece) s ≡ settled proto log (record s { fed = s.fed ++ piece })
unfolding is_possible_to effect_of
fed-within proto log s number piece free some fits =
    after-yes proto log (Bytes number piece) s
    (ap₂ (λ (a b : Bool). a && b) free (ap₂ (λ (a b : Bool). a && b) (lt-ltb 0 (length piece) some)
    (le-leb (length piece) (MAX_HEAD - length (rest_fed s)) fits)))

pub ruleset limits = (fed-past, fed-within)
