-- The values that a desk, its passes and its shares are opened with.
use Rattle.std.specs.Prelude.{◌≡◌, ℕ}
use Rattle.logbook.specs.Pages.{Book}
use Rattle.fm_model.specs.declared.proto.Proto.{Proto}
pub use Rattle.pub_pass.specs.Opening.{no_proto, unused}

-- the book of the log, the name of the ledger, the prototype, and the numbers of passes and shares
pub record Opening : Type 0 where
  pub book : Book
  pub ledger : ℕ
  pub proto : Proto
  pub passes : ℕ
  pub shares : ℕ

-- a name with these members stands for an opening
pub record IsNamed (opening : Opening) (book : Book) (ledger : ℕ) (proto : Proto) (parts : ℕ) : Type 0 where
  pub book_is : opening.book ≡ book
  pub ledger_is : opening.ledger ≡ ledger
  pub proto_is : opening.proto ≡ proto
  pub parts_are : opening.shares ≡ parts
