-- Which device the end of a run of `serve` or `many` blames.
use Rattle.std.proofs.Common.{◌⊎◌, List, length, slice_get, inl, inr, Option, Some, None, IsSomeAnd}
use Rattle.fm_model.specs.declared.proto.Proto.{Proto}
use Rattle.srv_words.specs.declared.job.Job.TheVariants.{Many, Serve}
use Rattle.srv_words.specs.declared.job.Serving.{Serving}
use Rattle.srv_words.specs.declared.job.ServingMany.{ServingMany}
use Rattle.srv_words.specs.declared.job.Spec.{Spec}
use Rattle.srv_alone.specs.declared.end.End.{End}
use Rattle.srv_serve.specs.Closing.{first_end, first_end_of, serve_line}
use Rattle.srv_serve.specs.Devices.{asked_by}
use Rattle.srv_serve.specs.Lines.{many_lines}
use Rattle.srv_serve.specs.Many as many
use Rattle.srv_serve.specs.Serve.{EndsUnopened, GoesOn, ServesDevices}
use Rattle.srv_serve.specs.Shows.{Shows}
use Rattle.srv_serve.specs.Stage.{Stage}
use Rattle.srv_serve.proofs.ManyLemmas as several
use Rattle.srv_serve.proofs.RunLemmas.{door-failed, end-is-device, ends-at-device, inbox-failed}
use Rattle.srv_run.proofs.OpenedBlameLemmas.{BlamedOn, ended_blamed, file_blamed, stopped_blamed}

-- a run of `serve` whose prototype isn't read
pub unopened_blamed : {D I C L : Type 0} (show : Shows D I C L) (serving : Serving) (end : End)
    (stage stage' : Stage D I C) → EndsUnopened serving stage stage' end
    → BlamedOn show (Serve serving) end stage stage'
unopened_blamed show serving end stage stage' ends =
    file_blamed show (Serve serving) serving.site serving.proto end stage stage' ends.ends

goes-on_blamed : {D I C L : Type 0} (show : Shows D I C L) (serving : Serving) (proto : Proto) (end : End)
    (stage stage' : Stage D I C) → ServesDevices show serving proto stage stage' end
    → BlamedOn show (Serve serving) end stage stage'
goes-on_blamed show serving proto end stage stage' (inl unserved) =
    stopped_blamed show (Serve serving) (asked_by serving) end stage stage'
    (record { door = λ number stops. stops; inbox = λ number stops. stops }) unserved.stopped.stops unserved.reports
goes-on_blamed show serving proto end stage stage' (inr served) =
    let outcome = served.outcome in
    ended_blamed show (Serve serving) (serve_line outcome) (first_end outcome) end stage stage' (record {
      calm = end-is-device outcome;
      door = door-failed show serving proto stage.opener stage'.opener stage'.devices outcome served.run;
      inbox = inbox-failed show serving proto stage.opener stage'.opener stage'.devices outcome served.run;
    }) served.ends

pub serve_blamed : {D I C L : Type 0} (show : Shows D I C L) (serving : Serving) (end : End)
    (stage stage' : Stage D I C) → EndsUnopened serving stage stage' end ⊎ GoesOn show serving stage stage' end
    → BlamedOn show (Serve serving) end stage stage'
serve_blamed show serving end stage stage' (inl ends) = unopened_blamed show serving end stage stage' ends
serve_blamed show serving end stage stage' (inr on) =
    goes-on_blamed show serving on.proto end stage stage' on.serves

-- a run of `many` that ends at the prototype of a collection
at-spec_blamed : {D I C L : Type 0} (show : Shows D I C L) (serving : ServingMany) (end : End)
    (stage stage' : Stage D I C) (found : Option Spec)
    → IsSomeAnd found (λ spec. many.EndsAtSpec spec stage stage' end) → BlamedOn show (Many serving) end stage stage'
at-spec_blamed show serving end stage stage' (Some spec) at =
    file_blamed show (Many serving) spec.site spec.proto end stage stage' at.ends
at-spec_blamed show serving end stage stage' None at = absurd at

many-goes-on_blamed : {D I C L : Type 0} (show : Shows D I C L) (serving : ServingMany) (protos : List Proto)
    (end : End) (stage stage' : Stage D I C) → many.ServesDevices show serving protos stage stage' end
    → BlamedOn show (Many serving) end stage stage'
many-goes-on_blamed show serving protos end stage stage' (inl unserved) =
    stopped_blamed show (Many serving) (many.asked_by serving) end stage stage'
    (record { door = λ number stops. stops; inbox = λ number stops. stops }) unserved.stopped.stops unserved.reports
many-goes-on_blamed show serving protos end stage stage' (inr served) =
    let them = served.outcomes in
    let found = first_end_of them.doors them.inboxes them.clocks in
    ended_blamed show (Many serving) (many_lines serving.specs them) found end stage stage' (record {
      calm = ends-at-device them.doors them.inboxes them.clocks;
      door = several.door-failed show serving protos stage.opener stage'.opener stage'.devices them served.run;
      inbox = several.inbox-failed show serving protos stage.opener stage'.opener stage'.devices them served.run;
    }) served.ends

pub many_blamed : {D I C L : Type 0} (show : Shows D I C L) (serving : ServingMany) (end : End)
    (stage stage' : Stage D I C)
    → many.EndsUnopened serving stage stage' end ⊎ many.GoesOn show serving stage stage' end
    → BlamedOn show (Many serving) end stage stage'
many_blamed show serving end stage stage' (inl ends) =
    at-spec_blamed show serving end stage stage' (slice_get serving.specs (length ends.protos)) ends.at
many_blamed show serving end stage stage' (inr on) =
    many-goes-on_blamed show serving on.protos end stage stage' on.serves
