-- The marks of a link after an action.
use Rattle.std.specs.Prelude.{◌≡◌, List, [], ◌∷◌, ◌++◌}
use Rattle.dap_reply.specs.declared.served.Mark.{Mark}
use Rattle.srv_action.specs.declared.acting.Acted.{Acted}
use Rattle.srv_action.specs.declared.acting.Acted.TheVariants as acts

-- the marks of a link after an action: that of the reply that is sent says how far it has gone
abbrev pub Notes : Acted → List Mark → List Mark → Type 0
Notes acts.Moved trail trail' = trail' ≡ trail
Notes (acts.Asks asked) trail trail' = trail' ≡ trail
Notes (acts.Sent count total) trail trail' = (front : List Mark) (mark : Mark) → trail ≡ front ++ mark ∷ []
    → trail' ≡ front ++ record mark { sent = total } ∷ []
Notes acts.Finished trail trail' = trail' ≡ trail
Notes acts.Later trail trail' = trail' ≡ trail
Notes (acts.Ended end) trail trail' = trail' ≡ trail

-- one mark follows on these
abbrev pub IsOneMore : List Mark → List Mark → Type 0
IsOneMore front trail = (mark : Mark) × (trail ≡ front ++ mark ∷ [])
