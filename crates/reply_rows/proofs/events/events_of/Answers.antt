-- No event is there at first.
use Rattle.std.proofs.Common.{sym, subst}
use Rattle.std.specs.List.{All}
use Rattle.std.proofs.lemmas.List.Elements.{All-nil}
use Rattle.pub_core.specs.declared.event.Event.{Event}
use Rattle.pub_core.specs.Outcome.{EventFits}
use Rattle.reply_rows.proofs.events.events_of.Goals as goal

pub loop-field-init : goal.loop-field-init
loop-field-init c =
    let fits : Event → Type 0 = EventFits c.args.proto.now in
    subst (All fits) (sym c.new-events.ensures) (All-nil fits)
