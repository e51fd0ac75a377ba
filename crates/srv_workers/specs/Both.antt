-- A desk, and others behind it.
use Rattle.std.specs.Prelude.{ℕ, zero, suc, List, ◌∷◌, false}
use Rattle.fm_model.specs.declared.proto.Proto.{Proto}
use Rattle.pub_look.specs.History.{History}
use Rattle.dap_reply.specs.Collections.{Collections}
use Rattle.srv_many.specs.declared.several.Several.{Several}
use Rattle.srv_many.specs.Choice.{choice_of}
use Rattle.srv_many.specs.Several.{nth, row_with, Rowed, views_in}
use Rattle.srv_workers.specs.declared.both.OneOf.{OneOf}
use Rattle.srv_workers.specs.declared.both.OneOf.TheVariants.{This, Other}
use Rattle.srv_workers.specs.declared.one.OwnHand.{OwnHand}
use Rattle.srv_workers.specs.Desks.{first_of, Means, Publisher}

-- the first, and what there is of the others
abbrev pub first_then : {A : Type 0} → A → (ℕ → A) → ℕ → A
first_then first more zero = first
first_then first more (suc number) = more number

-- the prototypes of a desk and of others, in order
abbrev pub all_protos : Proto → Collections → List Proto
all_protos proto others = proto ∷ first_of others.count others.proto

-- their collections
abbrev pub all_collections : Proto → Collections → Collections
all_collections proto others = record {
  count = suc others.count;
  proto = nth proto (all_protos proto others);
  still = λ _. false;
  choice = choice_of (all_protos proto others);
}

-- one that publishes at the desk of a number among others publishes at the next one among all
abbrev pub among_all : Publisher → Publisher
among_all publisher = record { desk = suc publisher.desk; pass = publisher.pass; share = publisher.share }

-- who publishes at the first desk, or at one of the others
abbrev pub publisher_of : {N H : Type 0} → (H → Publisher) → OneOf (OwnHand N) H → Publisher
publisher_of others (This hand) = record { desk = 0; pass = hand.own; share = hand.share }
publisher_of others (Other hand) = among_all (others hand)

-- what workers have of a desk and of others
abbrev pub all_means : {N E H : Type 0} → Proto → Means E H → Means Rowed (OneOf (OwnHand N) H)
all_means proto others = record {
  them = all_collections proto others.them;
  views = views_in;
  publisher = publisher_of others.publisher;
}

-- a pass of a desk and those of others, in a row
abbrev pub rowed_with : {F : Type 0} → Proto → (F → Rowed) → Several History F → Rowed
rowed_with proto row passes =
    row_with (λ (own : History). proto) (λ (own : History). false) (λ own. own.seen) (λ own. own.looks) row passes
