-- Fewer bytes are left to send after an action by which some went.
use Rattle.std.proofs.Common.{◌≢◌, ◌<◌, ℕ, ◌-◌, length, refl, sym, subst, arith}
use Rattle.std.specs.Prelude.{⊤}
use Rattle.web_session.specs.declared.action.Asked.{Asked}
use Rattle.web_session.specs.declared.action.End.{End}
use Rattle.dap_reply.specs.Head.{no_memory_reply}
use Rattle.dap_reply.specs.Parts.{bytes_of, Parts as Plan}
use Rattle.srv_action.specs.declared.acting.Acted.{Acted}
use Rattle.srv_action.specs.declared.acting.Acted.TheVariants as acts
use Rattle.srv_action.specs.declared.doing.Doing.{Doing}
use Rattle.srv_action.specs.declared.doing.Doing.TheVariants as does
use Rattle.srv_action.specs.Acts.{doing_after, ActsIn, IsReading, Parts, Sends, Stand}

-- how many bytes are left to send
abbrev pub left_of : Doing → ℕ
left_of does.Reading = 0
left_of (does.Replying plan sent) = length (bytes_of plan) - sent
left_of (does.Leaving said) = length no_memory_reply - said

-- bytes of a reply or of the text went
abbrev pub IsSending : Acted → Type 0
IsSending acts.Moved = ⊤
IsSending (acts.Asks asked) = ⊥
IsSending (acts.Sent count total) = ⊤
IsSending acts.Finished = ⊥
IsSending acts.Later = ⊥
IsSending (acts.Ended end) = ⊥

pub sending-other : (acted : Acted) → acted ≢ acts.Finished → ((end : End) → acted ≢ acts.Ended end)
    → ((asked : Asked) → acted ≢ acts.Asks asked) → acted ≢ acts.Later → IsSending acted
sending-other acts.Moved finished ended asks later = tt
sending-other (acts.Asks asked) finished ended asks later = absurd (asks asked refl)
sending-other (acts.Sent count total) finished ended asks later = tt
sending-other acts.Finished finished ended asks later = absurd (finished refl)
sending-other acts.Later finished ended asks later = absurd (later refl)
sending-other (acts.Ended end) finished ended asks later = absurd (ended end refl)

less-reply : (before after : Stand) (plan : Plan) (sent sent' : ℕ) (acted : Acted)
    → Sends before.link after.link before.session after.session (bytes_of plan) sent sent' acted → IsSending acted
    → left_of (doing_after plan sent' acted) < length (bytes_of plan) - sent
less-reply before after plan sent sent' acts.Moved r sending = absurd r
less-reply before after plan sent sent' (acts.Asks asked) r sending = absurd sending
less-reply before after plan sent sent' (acts.Sent count total) r sending =
    omega (arith, r.sent_is, r.some, r.within)
less-reply before after plan sent sent' acts.Finished r sending = absurd sending
less-reply before after plan sent sent' acts.Later r sending = absurd sending
less-reply before after plan sent sent' (acts.Ended end) r sending = absurd sending

less-text : (before after : Stand) (said said' : ℕ) (acted : Acted)
    → Parts before.link after.link said said' acted → IsSending acted
    → length no_memory_reply - said' < length no_memory_reply - said
less-text before after said said' acts.Moved r sending = omega (arith, r.said_is, r.some, r.within)
less-text before after said said' (acts.Asks asked) r sending = absurd sending
less-text before after said said' (acts.Sent count total) r sending = absurd r
less-text before after said said' acts.Finished r sending = absurd sending
less-text before after said said' acts.Later r sending = absurd sending
less-text before after said said' (acts.Ended end) r sending = absurd sending

pub left-less : (doing : Doing) (before after : Stand) (acted : Acted) → (IsReading doing → ⊥)
    → ActsIn doing before after acted (λ plan sent. doing_after plan sent acted) → IsSending acted
    → left_of after.doing < left_of doing
left-less does.Reading before after acted sends a sending = absurd (sends tt)
left-less (does.Replying plan sent) before after acted sends a sending =
    subst (λ (d : Doing). left_of d < left_of (does.Replying plan sent)) (sym a.doing_is)
    (less-reply before after plan sent a.sent' acted a.sends sending)
left-less (does.Leaving said) before after acted sends a sending =
    subst (λ (d : Doing). left_of d < left_of (does.Leaving said)) (sym a.doing_is)
    (less-text before after said a.said' acted a.parts sending)

after-sends : (plan : Plan) (sent : ℕ) (acted : Acted) → IsSending acted
    → IsReading (doing_after plan sent acted) → ⊥
after-sends plan sent acts.Moved sending reads = reads
after-sends plan sent (acts.Asks asked) sending reads = sending
after-sends plan sent (acts.Sent count total) sending reads = reads
after-sends plan sent acts.Finished sending reads = sending
after-sends plan sent acts.Later sending reads = sending
after-sends plan sent (acts.Ended end) sending reads = sending

-- what is sent goes on being sent
pub still-sends : (doing : Doing) (before after : Stand) (acted : Acted) → (IsReading doing → ⊥)
    → ActsIn doing before after acted (λ plan sent. doing_after plan sent acted) → IsSending acted
    → IsReading after.doing → ⊥
still-sends does.Reading before after acted sends a sending reads = sends tt
still-sends (does.Replying plan sent) before after acted sends a sending reads =
    after-sends plan a.sent' acted sending (subst IsReading a.doing_is reads)
still-sends (does.Leaving said) before after acted sends a sending reads = subst IsReading a.doing_is reads
