-- When the time of a link is over.
use Rattle.std.specs.Prelude.{ℕ, ◌+◌, ◌/◌, min, max, Bool, ◌&&◌, if◌then◌else◌, Option, Some, None}
use Rattle.std.specs.Option.{is_none}
use Rattle.dev_traits.specs.Cause.{capped}
use Rattle.dev_net.specs.declared.patience.Patience.{Patience}
use Rattle.dev_net.specs.declared.patience.Pace.{Pace}
use Rattle.dev_net.specs.declared.patience.Sending.{Sending}

-- the moment at which what is sent has taken too long: the grace has passed, and it is less than 16 bytes a millisecond
abbrev pub slow_at : Patience → Sending → ℕ
slow_at patience sending = capped (sending.began + max patience.grace (sending.sent / 16 + 1))

-- the moment at which the time is over, of a link that waits for bytes or for room
abbrev pub due_in : Patience → ℕ → Option Sending → ℕ
due_in patience since None = capped (since + patience.idle)
due_in patience since (Some sending) = min (capped (since + patience.idle)) (slow_at patience sending)

-- the moment at which the time of a link is over, if nothing moves until then
abbrev pub due_at : Patience → Pace → ℕ
due_at patience pace = due_in patience pace.since pace.sending

-- the same of a link that may hurry: then no further request is waited for
abbrev pub hurried_at : Bool → Patience → Pace → ℕ
hurried_at hurries patience pace = if hurries && is_none pace.sending then 0 else due_at patience pace

-- what is sent, after `count` bytes more
abbrev pub more_sent : Option Sending → ℕ → Option Sending
more_sent None count = None
more_sent (Some sending) count = Some (record sending { sent = capped (sending.sent + count) })

-- the moments of a link at a put, which goes on with what is sent, or begins it
abbrev pub begun_in : Pace → ℕ → Option Sending → Pace
begun_in pace now None = record { since = now; sending = Some (record { began = now; sent = 0 }) }
begun_in pace now (Some sending) = pace

abbrev pub begun_at : Pace → ℕ → Pace
begun_at pace now = begun_in pace now pace.sending

-- the moments of a link after a put of `count` bytes
abbrev pub put_at : Pace → ℕ → ℕ → Pace
put_at pace now count = record { since = now; sending = more_sent pace.sending count }
