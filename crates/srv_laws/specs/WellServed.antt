-- Well-formed use of `serve`, and the devices after a run that ends well.
use Rattle.std.specs.Prelude.{◌≡◌, ⊤, ℕ, List, [], All, Option, Some, Ok, IfSome, IsSome, IsSomeAnd}
use Rattle.fm_base.specs.Chain.{◌>>=◌}
use Rattle.fm_model.specs.declared.proto.Proto.{Proto}
use Rattle.dev_traits.specs.Opener.{OpenerShown, Stock}
use Rattle.srv_words.specs.declared.job.Serving.{Serving}
use Rattle.srv_alone.specs.declared.end.End.{End}
use Rattle.srv_alone.specs.declared.end.End.TheVariants.{Done, SinkFault}
use Rattle.srv_alone.specs.Reading.{file_or_end, proto_or_end}
use Rattle.srv_serve.specs.Shows.{Shows}
use Rattle.srv_serve.specs.Stage.{Stage}
use Rattle.srv_laws.specs.WellFormed.{HasNotFailed}

-- the prototype of a run of `serve` is there and is one, and no call of a device failed
pub record IsWellServed {D I C L : Type 0} (show : Shows D I C L) (serving : Serving) (stage stage' : Stage D I C)
    : Type 0 where
  pub held : List ℕ → Option (List ℕ)
  pub held_is : stage.outside.files.held ≡ Some held
  pub proto : Proto
  pub proto_is : (file_or_end (held serving.proto) >>= proto_or_end serving.site) ≡ Ok proto
  pub files : HasNotFailed stage.outside.files stage'.outside.files
  pub sink : HasNotFailed stage.outside.sink stage'.outside.sink
  pub opener : HasNotFailed stage.opener stage'.opener
  pub doors : All (λ door. (show.door door).faults ≡ 0) stage'.devices.doors
  pub inboxes : All (λ inbox. (show.inbox inbox).faults ≡ 0) stage'.devices.inboxes

-- A run of `serve` whose workers all ended well ends so, with status 0 or 7: the line of what was served was written,
-- or the sink failed.
abbrev pub EndsWell : End → Type 0
EndsWell Done = ⊤
EndsWell SinkFault = ⊤
EndsWell end = ⊥

-- no link and no name is left to come, where it is known what the devices hold
pub record IsUsedUp {D I C L : Type 0} (show : Shows D I C L) (stage : Stage D I C) : Type 0 where
  pub doors : All (λ door. IfSome (show.door door).held (λ doorway. doorway.left ≡ [])) stage.devices.doors
  pub inboxes : All (λ inbox. IfSome (show.inbox inbox).held (λ post. post.left ≡ [])) stage.devices.inboxes

-- an opener shows the clocks that it will give, and each of these its moments
pub record ShowsClocks {D I C L : Type 0} (show : Shows D I C L) (opener : OpenerShown D I C) : Type 0 where
  pub stock : Stock D I C
  pub held_is : opener.held ≡ Some stock
  pub each : All (λ clock. IsSome (show.clock clock)) stock.clocks

-- no moment is left to come
abbrev pub HasNoMomentLeft : {D I C L : Type 0} → Shows D I C L → Stage D I C → Type 0
HasNoMomentLeft show stage =
    All (λ clock. IsSomeAnd (show.clock clock) (λ moments. moments.left ≡ [])) stage.devices.clocks
