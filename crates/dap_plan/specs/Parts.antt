-- Bytes in their parts: some that stand ready, and the data of a dataset behind them.
use Rattle.std.specs.Prelude.{◌≡◌, ℕ, ◌<◌, ◌^◌, List, [], ◌++◌, length, Option, Some, None, All, IsSomeAnd}
use Rattle.dap_model.specs.declared.projection.Sent.{Sent}
use Rattle.fm_dataset.specs.Values.{Shown}
use Rattle.dap_xdr.specs.Content.{array_in, data_of, FitsArray}
use Rattle.dap_xdr.specs.Datasets.{content_of}

-- the bytes that stand ready, and what is sent of a dataset behind them
pub record Parts : Type 0 where
  pub front : List ℕ
  pub source : Option Shown
  pub sent : List Sent

-- the data of what is sent of a dataset, where there is one
unfoldable pub data_behind : Option Shown → List Sent → List ℕ
data_behind None sent = []
data_behind (Some shown) sent = data_of (content_of shown) sent

-- the bytes of all parts
unfoldable pub bytes_of : Parts → List ℕ
bytes_of parts = parts.front ++ data_behind parts.source parts.sent

-- bytes that all stand ready
abbrev pub ready : List ℕ → Parts
ready front = record { front = front; source = None; sent = [] }

-- what is sent is a part of the dataset, with slabs that lie within it
abbrev pub IsSentOf : Shown → Sent → Type 0
IsSentOf shown sent = IsSomeAnd (array_in (content_of shown).decls sent.decl sent.part) (FitsArray sent)

-- all that is sent is of the dataset; without one nothing is sent
abbrev pub AreSentOf : Option Shown → List Sent → Type 0
AreSentOf None sent = sent ≡ []
AreSentOf (Some shown) sent = All (IsSentOf shown) sent

-- what a plan keeps: what is sent is of its dataset, and it knows how many bytes it has, of which fewer than 2^63 are
-- data
pub record IsPlan (parts : Parts) (len : ℕ) : Type 0 where
  pub sent_fits : AreSentOf parts.source parts.sent
  pub len_is : len ≡ length (bytes_of parts)
  pub few : length (data_behind parts.source parts.sent) < 2 ^ 63
