-- The outcome of a run, and the events that it may be of.
use Rattle.std.specs.Prelude.{map}
use Rattle.fm_model.specs.declared.proto.Proto.{Proto}
use Rattle.fm_edition.specs.Held.{OpFits}
use Rattle.pub_core.specs.declared.event.Event.{Event}
use Rattle.pub_core.specs.declared.event.Event.TheVariants.{Publish, Look, Learn, Bytes, Sent, End, Fault}
use Rattle.pub_core.specs.declared.outcome.Outcome.{Outcome}
use Rattle.pub_core.specs.World.{output_of, SessionState, World}

-- the log of a world, and the bytes that each session was sent and the operations that it has seen
unfoldable pub outcome_of : Proto → World → Outcome
outcome_of proto world = record {
  log = world.log;
  outputs = map (output_of proto world.log) world.sessions;
  seen = map (λ (s : SessionState). s.seen) world.sessions;
}

-- the file of an event that puts one fits the prototype
abbrev pub EventFits : Proto → Event → Type 0
EventFits proto (Publish op) = OpFits proto op
EventFits proto (Look number) = Unit {0}
EventFits proto (Learn number count) = Unit {0}
EventFits proto (Bytes number piece) = Unit {0}
EventFits proto (Sent number count) = Unit {0}
EventFits proto (End number) = Unit {0}
EventFits proto (Fault number) = Unit {0}
