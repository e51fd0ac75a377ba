-- A connection between two turns.
use Rattle.web_session.specs.State.{State}
use Rattle.srv_door.specs.declared.kept.Stored.{Stored}
use Rattle.srv_door.specs.declared.kept.Stored.TheVariants.{Whole, Packed}

-- the session that is stored
abbrev pub session_of : Stored → State
session_of (Whole session) = session
session_of (Packed session) = session
