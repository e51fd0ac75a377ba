-- The events so far fit.
use Rattle.std.specs.List.{All}
use Rattle.pub_core.specs.Outcome.{EventFits}
use Rattle.reply_rows.proofs.events.events_of.Given as goal

abbrev pub invariant-loop-field : goal.invariant-loop-field
invariant-loop-field l = All (EventFits l.proto) l.events
