-- What a dialer holds.
use Rattle.std.specs.Prelude.{ℕ, List, [], ◌∷◌, ◌++◌, Bool, true, false, Option, Some, None, Result, Ok, Err}
use Rattle.fm_base.specs.declared.fail.Fail.{Fail}
use Rattle.fm_base.specs.declared.fail.Fail.TheVariants as fails
use Rattle.dev_traits.specs.Shown.{Shown}

-- what a dialer in memory holds
pub record Exchange (L : Type 0) : Type 0 where
  -- the link that it gives, until it has
  pub link : Option L
  -- whether a link is out
  pub out : Bool
  -- the addresses that were dialled, in order
  pub dialled : List (List ℕ)
  -- the links that were given back, in order, as they were left
  pub given : List L

-- what a dialer shows
abbrev pub DialShown : Type 0 → Type 0
DialShown L = Shown (Exchange L)

-- a dialer with this link to give, before its first call
abbrev pub fresh_exchange : {L : Type 0} → Option L → Exchange L
fresh_exchange link = record { link = link; out = false; dialled = []; given = [] }

-- the dialer with one address more
abbrev pub with_address : {L : Type 0} → List ℕ → Exchange L → Exchange L
with_address address exchange = record exchange { dialled = exchange.dialled ++ address ∷ [] }

-- the dialer after a dial that ended so: a link went out, a call failed, or memory ran out
abbrev pub after_dial : {L E : Type 0} → List ℕ → Result L (Fail E) → Option (Exchange L) → Option (Exchange L)
after_dial address result None = None
after_dial address (Ok link) (Some exchange) = Some (record (with_address address exchange) { link = None; out = true })
after_dial address (Err fails.NoMemory) (Some exchange) = Some exchange
after_dial address (Err (fails.Fault fault)) (Some exchange) = Some (with_address address exchange)

-- the dialer after this link was given back
abbrev pub after_return : {L : Type 0} → L → Option (Exchange L) → Option (Exchange L)
after_return link None = None
after_return link (Some exchange) = Some (record exchange { out = false; given = exchange.given ++ link ∷ [] })
