-- Room for what the workers at one desk have.
use Rattle.std.specs.Prelude.{◌≡◌, ℕ, ◌+◌, replicate}
use Rattle.fm_model.specs.declared.proto.Proto.{Proto}
use Rattle.pub_snap.specs.Opening.{unused}
use Rattle.srv_workers.specs.declared.one.OwnHand.{OwnHand}
use Rattle.srv_workers.specs.declared.places.Places.{Places}
use Rattle.srv_workers.specs.Given.{IsVacant}

-- a hand that has seen nothing and published nothing
abbrev pub new_hand : {N : Type 0} → Proto → OwnHand N
new_hand proto = record { own = unused proto; share = 0 }

-- there is room for the workers of these numbers of devices, and a prototype for each
pub record HasPlaces {N : Type 0} (proto : Proto) (doors inboxes clocks : ℕ) (places : Places N) : Type 0 where
  pub vacant : IsVacant doors inboxes clocks places.vacant
  pub protos_are : places.protos ≡ replicate (doors + inboxes + clocks) proto
