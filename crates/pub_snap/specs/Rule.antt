-- The rule of a publication (`IsKept`), which each step keeps: first its parts, then the rule, then what a step does.
use Rattle.std.specs.Prelude.{◌≡◌, ◌⊎◌, ℕ, List, [], ◌∷◌, ◌++◌, length}
use mathlib.Core.Option.{some}
use lib.ListN.{get_elem?}
use Rattle.logbook.specs.Pages.{Book}
use Rattle.fm_model.specs.declared.op.Op.{Op}
use Rattle.fm_model.specs.declared.proto.Proto.{Proto}
use Rattle.fm_edition.specs.Log.{IsLog}
use Rattle.pub_look.specs.History.{Continues, Keeps}
use Rattle.pub_pass.specs.declared.rule.Known.{Known}
use Rattle.pub_pass.specs.Copies.{Copy, IsShown}

-- the desk's log: each operation could be done to what those before it left, the copy that readers enter stands for all
-- of it, the writer has seen all of it, and the ledger has a unit for each operation
pub record IsAtDesk (proto : Proto) (log : List Op) (shown : Copy) (writer : Known) (booked : ℕ) : Type 0 where
  pub sound : IsLog proto log
  pub over : shown.held.proto ≡ proto
  pub whole : shown.log ≡ log
  pub seen : writer.seen ≡ log
  pub counted : booked ≡ length log

-- each of some lists is a beginning of a log
abbrev pub AllKnown : List Op → List (List Op) → Type 0
AllKnown log lists = (i : ℕ) (list : List Op) → get_elem? lists i ≡ some list → Continues list log

-- a log has one operation more than another list
abbrev pub HasOneMore : List Op → List Op → Type 0
HasOneMore earlier log = (op : Op) × (log ≡ earlier ++ op ∷ [])

-- a publication between two steps: the log, the copy that readers enter and the other, what the writer and
-- all seats have seen, what passes have learnt and receipts say, and the total of the ledger
pub record Publication : Type 0 where
  pub log : List Op
  pub shown : Copy
  pub other : Copy
  pub writer : Known
  pub seats : List Known
  pub learnt : List (List Op)
  pub booked : ℕ

-- The rule. There is one log, and each of its operations could be done to what those before it left. The copy that
-- readers enter stands for all of it, the writer has seen all of it, and the ledger has a unit for each operation
-- (`desk`). That copy is of this desk, and what each seat has seen is a beginning of the log (`readers`). It holds what
-- the log leaves (`stands`). The other copy holds what the log leaves too, or what it left before its last operation
-- (`other`, `behind`). What each pass has learnt and what each receipt says are beginnings of the log (`learnt`).
pub record IsKept (book : Book) (proto : Proto) (now : Publication) : Type 0 where
  pub desk : IsAtDesk proto now.log now.shown now.writer now.booked
  pub readers : IsShown book proto now.shown now.seats
  pub stands : Keeps now.shown.held now.shown.log
  pub other : Keeps now.other.held now.other.log
  pub behind : (now.other.log ≡ now.log) ⊎ HasOneMore now.other.log now.log
  pub learnt : AllKnown now.log now.learnt

-- a copy may be shown after another: it is of this desk, and its log goes on from the other's
pub record Follows (book : Book) (proto : Proto) (shown next : Copy) : Type 0 where
  pub same : next.book ≡ book
  pub over : next.held.proto ≡ proto
  pub later : Continues shown.log next.log

-- what a copy has to be so that it may be shown after another, of which it is known that readers enter it
abbrev pub MayFollow : Book → Proto → Copy → Copy → Type 0
MayFollow book proto shown next = shown.book ≡ book → shown.held.proto ≡ proto → Follows book proto shown next

-- the last of some copies
abbrev pub EndsWith : List Copy → Copy → Type 0
EndsWith copies last = (before : List Copy) × (copies ≡ before ++ last ∷ [])
