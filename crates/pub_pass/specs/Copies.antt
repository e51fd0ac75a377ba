-- A copy that readers enter, and what is known of the log by those who entered it.
use Rattle.std.specs.Prelude.{◌≡◌, ℕ, List, length, nat_lt, if◌then◌else◌}
use mathlib.Core.Option.{some}
use lib.ListN.{get_elem?}
use Rattle.logbook.specs.Pages.{Book}
use Rattle.fm_model.specs.declared.op.Op.{Op}
use Rattle.fm_model.specs.declared.proto.Proto.{Proto}
use Rattle.fm_edition.specs.Held.{Held}
use Rattle.fm_edition.specs.Log.{IsLog}
use Rattle.pub_look.specs.History.{Continues}
use Rattle.pub_pass.specs.declared.rule.Known.{Known}

-- a copy: an edition, and the beginning of the log that it stands for
pub record Copy : Type 0 where
  pub held : Held
  pub book : Book
  pub log : List Op

-- all that the seats at the two copies have seen are beginnings of a log
abbrev pub AllBegin : List Op → List Known → Type 0
AllBegin log seats = (seat : ℕ) (known : Known) → get_elem? seats seat ≡ some known → Continues known.seen log

-- the copy that readers enter is of this desk and has its prototype, and whatever a seat has seen is a beginning of the
-- log that it stands for
pub record IsShown (book : Book) (proto : Proto) (shown : Copy) (seats : List Known) : Type 0 where
  pub same : shown.book ≡ book
  pub over : shown.held.proto ≡ proto
  pub begin : AllBegin shown.log seats

-- a pass or a receipt knows this desk's log, and each operation could be done to what those before it left
pub record IsOf (book : Book) (proto : Proto) (known : Book) (log : List Op) : Type 0 where
  pub same : known ≡ book
  pub sound : IsLog proto log

-- entering: the seat has seen all that the copy stands for, which goes on from what it had seen
pub record Enters (book : Book) (proto : Proto) (before : Known) (shown : Copy) (after : Known) : Type 0 where
  pub same : shown.book ≡ book
  pub over : shown.held.proto ≡ proto
  pub later : Continues before.seen shown.log
  pub seen : after.seen ≡ shown.log

-- the longer of two lists, and the first where they have one length
abbrev pub longer : List Op → List Op → List Op
longer own other = if nat_lt (length own) (length other) then other else own
