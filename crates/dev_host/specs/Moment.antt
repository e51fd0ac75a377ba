-- Whether a clock that may be set was set between two moments.
use Rattle.std.specs.Prelude.{ℕ, ◌+◌, ◌-◌, nat_lt, if◌then◌else◌, Option, Some, None}
use Rattle.dev_traits.specs.Cause.{capped}
use Rattle.dev_host.specs.declared.moment.Jump.{Jump}
use Rattle.dev_host.specs.declared.moment.Jump.TheVariants.{Ahead, Back}
use Rattle.dev_host.specs.declared.moment.Moment.{Moment}

-- what the clock that may be set would show, had it gone on as the other one since an earlier moment
abbrev pub expected_after : Moment → Moment → ℕ
expected_after earlier now = capped (earlier.wall + (now.steady - earlier.steady))

-- how a clock jumped that shows one number of seconds and not another, where that is over an hour
abbrev pub jump_to : ℕ → ℕ → Option Jump
jump_to wall expected =
    if nat_lt 3600 (wall - expected) then Some (Ahead (wall - expected))
    else (if nat_lt 3600 (expected - wall) then Some (Back (expected - wall)) else None)

-- how the clock that may be set jumped between two moments
abbrev pub jump_between : Moment → Moment → Option Jump
jump_between earlier now = jump_to now.wall (expected_after earlier now)
