-- Several collections in a row.
use Rattle.std.specs.Prelude.{◌≡◌, ℕ, zero, suc, ◌<◌, ◌≤◌, List, [], ◌∷◌, Bool, length, map, slice_get, Some}
use Rattle.fm_model.specs.declared.op.Op.{Op}
use Rattle.fm_model.specs.declared.proto.Proto.{Proto}
use Rattle.web_frame.specs.Items.{Item}
use Rattle.dap_reply.specs.Collections.{Collections, Views}
use Rattle.srv_many.specs.declared.several.Several.{Several}
use Rattle.srv_many.specs.Choice.{choice_of}

-- the one at an index, or this where there is none
abbrev pub nth : {A : Type 0} → A → List A → ℕ → A
nth none [] index = none
nth none (first ∷ more) zero = first
nth none (first ∷ more) (suc index) = nth none more index

-- of each collection in a row its prototype, whether a look at it leaves what is seen of it as it was, the operations
-- seen, and how many there were at each look
pub record Rowed : Type 0 where
  pub protos : List Proto
  pub stills : List Bool
  pub seen : List (List Op)
  pub looks : List (List ℕ)

-- what gives looks at one collection, and at others in a row
abbrev pub row_with : {K F : Type 0} → (K → Proto) → (K → Bool) → (K → List Op) → (K → List ℕ) → (F → Rowed)
    → Several K F → Rowed
row_with proto still log looks row several = record {
  protos = proto several.first ∷ (row several.others).protos;
  stills = still several.first ∷ (row several.others).stills;
  seen = log several.first ∷ (row several.others).seen;
  looks = looks several.first ∷ (row several.others).looks;
}

-- what gives looks, in a list
abbrev pub row_of : {K : Type 0} → (K → Proto) → (K → Bool) → (K → List Op) → (K → List ℕ) → List K → Rowed
row_of proto still log looks list =
    record { protos = map proto list; stills = map still list; seen = map log list; looks = map looks list }

-- the collections of a row; what is said of the first is said of numbers past the last
abbrev pub collections_of : Proto → Bool → Rowed → Collections
collections_of proto still row = record {
  count = length row.protos;
  proto = nth proto row.protos;
  still = nth still row.stills;
  choice = choice_of row.protos;
}

abbrev pub collections_with : {K F : Type 0} → (K → Proto) → (K → Bool) → (K → List Op) → (K → List ℕ) → (F → Rowed)
    → Several K F → Collections
collections_with proto still log looks row several =
    collections_of (proto several.first) (still several.first) (row_with proto still log looks row several)

-- what is seen of them
abbrev pub views_in : Rowed → Views
views_in row = record { seen = nth [] row.seen; looks = nth [] row.looks }

abbrev pub views_with : {K F : Type 0} → (K → Proto) → (K → Bool) → (K → List Op) → (K → List ℕ) → (F → Rowed)
    → Several K F → Views
views_with proto still log looks row several = views_in (row_with proto still log looks row several)

-- these are the prototypes of some collections, by which each request is for one of them; there are at most eight
pub record AreProtos (them : Collections) (protos : List Proto) : Type 0 where
  pub few : them.count ≤ 8
  pub some : 0 < them.count
  pub count_is : them.count ≡ length protos
  pub each : (number : ℕ) (proto : Proto) → slice_get protos number ≡ Some proto → them.proto number ≡ proto
  pub choice_is : (item : Item) → them.choice item ≡ choice_of protos item
