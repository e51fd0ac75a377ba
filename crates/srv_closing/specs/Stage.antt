-- All that a run of `serve` works with: the outside of the run, and the devices that it opens.
use Rattle.std.specs.Prelude.{◌≡◌, [], map, option_map}
use Rattle.dev_traits.specs.Shown.{FilesShown, LinkShown, SinkShown}
use Rattle.dev_traits.specs.declared.world.World.{World}
use Rattle.dev_traits.specs.Dial.{DialShown, Exchange}
use Rattle.dev_traits.specs.Opener.{OpenerShown}
use Rattle.dev_traits.specs.World.{WorldShown, world_shown}
use Rattle.dev_traits.specs.declared.world.Devices.{Devices}
use Rattle.srv_alone.specs.declared.end.End.{End}
use Rattle.srv_alone.specs.Report.{Reports}

-- what a dialer in memory holds, by what its links show
abbrev pub exchange_shown : {L : Type 0} → (L → LinkShown) → Exchange L → Exchange LinkShown
exchange_shown link exchange = record {
  link = option_map link exchange.link;
  out = exchange.out;
  dialled = exchange.dialled;
  given = map link exchange.given;
}

-- what a dialer shows, by what its links show
abbrev pub shown_by : {L : Type 0} → (L → LinkShown) → DialShown L → DialShown LinkShown
shown_by link shown = record { held = option_map (exchange_shown link) shown.held; faults = shown.faults }

-- the same, of a dialer
abbrev pub dial_shown : {N L : Type 0} → (N → DialShown L) → (L → LinkShown) → N → DialShown LinkShown
dial_shown dial link n = shown_by link (dial n)

-- what the outside, the opener and the dialer of a world show, and the devices that were opened
pub record Stage (D I C : Type 0) : Type 0 where
  pub outside : WorldShown
  pub opener : OpenerShown D I C
  pub devices : Devices D I C
  pub dial : DialShown LinkShown

-- the same, by what the opener, the files, the link, the sink and the dialer of a world show
abbrev pub stage_of : {M D I C F L S G N K P : Type 0} → (M → OpenerShown D I C) → (F → FilesShown) → (L → LinkShown)
    → (S → SinkShown) → (N → DialShown LinkShown) → World M D I C F L S G N K P → Stage D I C
stage_of opener files link sink dial world = record {
  outside = world_shown files link sink world;
  opener = opener world.opener;
  devices = world.devices;
  dial = dial world.dial;
}

-- The opener and the devices are as before.
pub record LeavesDevices {D I C : Type 0} (stage stage' : Stage D I C) : Type 0 where
  pub opener_is : stage'.opener ≡ stage.opener
  pub devices_are : stage'.devices ≡ stage.devices

-- The dialer is as before.
abbrev pub LeavesDialer : {D I C : Type 0} → Stage D I C → Stage D I C → Type 0
LeavesDialer stage stage' = stage'.dial ≡ stage.dial

-- Only the sink was used, for the line of an end at no file.
pub record Says {D I C : Type 0} (end : End) (stage stage' : Stage D I C) : Type 0 where
  pub unread : stage'.outside.files ≡ stage.outside.files
  pub unused : stage'.outside.link ≡ stage.outside.link
  pub leaves : LeavesDevices stage stage'
  pub undialled : LeavesDialer stage stage'
  pub reports : Reports end [] stage.outside.sink stage'.outside.sink
