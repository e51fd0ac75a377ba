-- The collections that one link asks of, and what is seen of them.
use Rattle.std.specs.Prelude.{ℕ, zero, suc, List, [], Bool}
use Rattle.fm_model.specs.declared.op.Op.{Op}
use Rattle.fm_model.specs.declared.proto.Proto.{Proto}
use Rattle.web_frame.specs.Items.{Item}
use Rattle.dap_reply.specs.Reply.{is_wanted}

-- Collections by their number from 0: how many there are, the prototype of each, whether a look at it leaves what is
-- seen of it as it was, and the collection that an item is for. None of it changes.
pub record Collections : Type 0 where
  pub count : ℕ
  pub proto : ℕ → Proto
  pub still : ℕ → Bool
  pub choice : Item → ℕ

-- of each collection the operations seen, and how many there were at each look
pub record Views : Type 0 where
  pub seen : ℕ → List Op
  pub looks : ℕ → List ℕ

-- a list of the first collection, and none of the others
abbrev pub only : {A : Type 0} → List A → ℕ → List A
only first zero = first
only first (suc number) = []

-- one collection alone
abbrev pub alone : Proto → Bool → Collections
alone proto still = record { count = 1; proto = λ _. proto; still = λ _. still; choice = λ _. 0 }

-- the prototype of the collection that an item is for
abbrev pub proto_for : Collections → Item → Proto
proto_for them item = them.proto (them.choice item)

-- whether that collection has to be looked at for it
abbrev pub is_wanted_of : Collections → Item → Bool
is_wanted_of them item = is_wanted (proto_for them item).site item
