-- What several desks are opened from, and the devices of their run.
use Rattle.std.specs.Prelude.{◌≡◌, ℕ, ◌+◌, ◌≤◌, List, [], ◌∷◌, All, length, map}
use Rattle.dev_traits.specs.declared.world.Devices.{Devices}
use Rattle.fm_model.specs.declared.proto.Proto.{Proto}
use Rattle.pub_snap.specs.Opening.{no_proto, Opening}
use Rattle.srv_many.specs.Several.{nth}
use Rattle.srv_workers.specs.Given.{each_of}

-- a blank with a pass for each door, for the inbox of its desk and for its clocks, and a share for each but the doors
pub record IsSized (doors clocks : ℕ) (blank : Opening) : Type 0 where
  pub passes_are : blank.passes ≡ doors + (1 + clocks)
  pub shares_are : blank.shares ≡ 1 + clocks

-- a blank over each of these prototypes
pub record AreBlanks (doors clocks : ℕ) (protos : List Proto) (blanks : List Opening) : Type 0 where
  pub protos_are : map (λ blank. blank.proto) blanks ≡ protos
  pub sized : All (IsSized doors clocks) blanks

-- what is read past the last blank
abbrev pub no_blank : Opening
no_blank = record {
  book = record { number = 0; log_name = 0; cells_name = 0 };
  ledger = 0;
  proto = no_proto;
  passes = 0;
  shares = 0;
}

-- the blank at an index
abbrev pub blank_at : ℕ → List Opening → Opening
blank_at index blanks = nth no_blank blanks index

-- what is said of the first blank, and of those behind it
pub record FirstAnd (First : Opening → Type 0) (Others : List Opening → Type 0) (blanks : List Opening) : Type 0 where
  pub first : Opening
  pub others : List Opening
  pub blanks_are : blanks ≡ first ∷ others
  pub first_is : First first
  pub others_are : Others others

-- at least one door, an inbox for each of `count` desks, and none or one clock for each
pub record HasOneEach {D I C : Type 0} (count clocks : ℕ) (devices : Devices D I C) : Type 0 where
  pub some : 1 ≤ length devices.doors
  pub few : length devices.doors ≤ 16
  pub inboxes_are : length devices.inboxes ≡ count
  pub clocks_are : length devices.clocks ≡ length (each_of clocks count (λ (number : ℕ). number))
  pub at_most : clocks ≤ 1
