-- The next action, with what is done after it.
use Rattle.std.proofs.Common.{◌≡◌, ◌≢◌, ℕ, refl, ◌∙◌}
use Rattle.dev_traits.specs.Shown.{LinkShown}
use Rattle.web_session.specs.State.{State}
use Rattle.dap_reply.specs.Parts.{Parts as Plan}
use Rattle.srv_action.specs.declared.acting.Acted.{Acted}
use Rattle.srv_action.specs.declared.acting.Acted.TheVariants as acts
use Rattle.srv_action.specs.declared.doing.Doing.{Doing}
use Rattle.srv_action.specs.declared.doing.Doing.TheVariants as does
use Rattle.srv_action.specs.Acts.{doing_after, settled, stand, Acts, ActsIn, ActsOn, Stand}

finished-in : (doing : Doing) (before : Stand) (link : LinkShown) (session : State) (mid : Doing)
    → ActsIn doing before (stand link session mid) acts.Finished does.Replying
    → ActsIn doing before (stand link session does.Reading) acts.Finished
    (λ plan sent. doing_after plan sent acts.Finished)
finished-in does.Reading before link session mid a = absurd a.1
finished-in (does.Replying plan sent) before link session mid a =
    record { sent' = a.sent'; doing_is = refl; sends = a.sends }
finished-in (does.Leaving said) before link session mid a = absurd a.parts

other-doing : (acted : Acted) (plan : Plan) (sent : ℕ) → acted ≢ acts.Finished
    → does.Replying plan sent ≡ doing_after plan sent acted
other-doing acts.Moved plan sent differs = refl
other-doing (acts.Asks asked) plan sent differs = refl
other-doing (acts.Sent count total) plan sent differs = refl
other-doing acts.Finished plan sent differs = absurd (differs refl)
other-doing acts.Later plan sent differs = refl
other-doing (acts.Ended end) plan sent differs = refl

other-in : (doing : Doing) (before after : Stand) (acted : Acted) → acted ≢ acts.Finished
    → ActsIn doing before after acted does.Replying
    → ActsIn doing before after acted (λ plan sent. doing_after plan sent acted)
other-in does.Reading before after acted differs a = a
other-in (does.Replying plan sent) before after acted differs a = record {
  sent' = a.sent';
  doing_is = a.doing_is ∙ other-doing acted plan a.sent' differs;
  sends = a.sends;
}
other-in (does.Leaving said) before after acted differs a = a

-- a reply that was whole is let go
pub acts-settled : (before : Stand) (link : LinkShown) (session : State) (mid : Doing) (acted : Acted)
    → ActsOn before (stand link session mid) acted → Acts before (stand link session (settled mid acted)) acted
acts-settled before link session mid acts.Moved a =
    other-in before.doing before (stand link session mid) acts.Moved (λ same. cc) a
acts-settled before link session mid (acts.Asks asked) a =
    other-in before.doing before (stand link session mid) (acts.Asks asked) (λ same. cc) a
acts-settled before link session mid (acts.Sent count total) a =
    other-in before.doing before (stand link session mid) (acts.Sent count total) (λ same. cc) a
acts-settled before link session mid acts.Finished a = finished-in before.doing before link session mid a
acts-settled before link session mid acts.Later a =
    other-in before.doing before (stand link session mid) acts.Later (λ same. cc) a
acts-settled before link session mid (acts.Ended end) a =
    other-in before.doing before (stand link session mid) (acts.Ended end) (λ same. cc) a
