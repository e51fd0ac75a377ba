-- When it is said that something fails, and that it works again.
use Rattle.std.specs.Prelude.{ℕ, ◌+◌, nat_lt, Bool, true, false, not, if◌then◌else◌, Option, Some, None}
use Rattle.dev_traits.specs.Cause.{capped}
use Rattle.dev_std.specs.declared.trouble.Trouble.{Trouble}

-- whether a minute has passed since it was said last, in milliseconds
abbrev pub is_long_ago : Option ℕ → ℕ → Bool
is_long_ago None now = true
is_long_ago (Some last) now = not (nat_lt now (capped (last + 60000)))

-- whether it is said at a moment that something fails: once each time, and at most once a minute
abbrev pub is_said : Trouble → ℕ → Bool
is_said trouble now = if trouble.is_open then false else is_long_ago trouble.last now

-- what is known after a failure
abbrev pub after_failure : Trouble → ℕ → Trouble
after_failure trouble now = if is_said trouble now then record { last = Some now; is_open = true } else trouble
