-- How the links that come together are shared among the doors at one socket.
use Rattle.std.specs.Prelude.{ℕ, ◌+◌, ◌-◌, min, max, Bool, ◌&&◌, nat_eq, nat_le, nat_lt, if◌then◌else◌}
use Rattle.dev_traits.specs.Cause.{capped}
use Rattle.dev_net.specs.declared.share.Share.{Share}

-- the most links that come between two waits
abbrev pub most_at_once : ℕ
most_at_once = 16

-- whether some links are out, but few
abbrev pub are_few : ℕ → Bool
are_few out = nat_lt 0 out && nat_lt out most_at_once

-- that of a door that has no link
abbrev pub first_share : Share
first_share = record { left = 1; spent = 0 }

-- what is left after a link came at a moment, and the moment at which none was
abbrev pub taken_at : Share → ℕ → Share
taken_at share now = record {
  left = share.left - 1;
  spent = if nat_le share.left 1 then now else share.spent;
}

-- what is left after a wait that ended at a moment, with so many links out: none in the millisecond in which none was
abbrev pub renewed_at : Share → ℕ → ℕ → Share
renewed_at share out now = record share {
  left = if are_few out && nat_eq now share.spent then 0 else min most_at_once (max 1 out);
}

-- the moment of the accept that is due at this one, with so many links out
abbrev pub due_with : Share → ℕ → ℕ → ℕ
due_with share out moment = if are_few out then max moment (capped (share.spent + 1)) else moment
