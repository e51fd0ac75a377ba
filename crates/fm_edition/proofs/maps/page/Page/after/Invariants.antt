-- The instants so far, with their files after the operation.
use Rattle.std.proofs.Common.{◌≡◌, map, take}
use Rattle.std.specs.Prelude.{All}
use Rattle.fm_edition.specs.Page.{shown, IsListed}
use Rattle.fm_edition.specs.Turning.{turned_entries, IsTurning}
use Rattle.fm_edition.proofs.maps.page.Page.after.Given as goal

abbrev pub invariant-loop-instant : goal.invariant-loop-instant
invariant-loop-instant l = record {
  before : l.turning.before.now ≡ l.initial.turning.before.now;
  known : IsTurning l.change.op.now l.turning;
  listed : All (IsListed l.turning.lists) l.entries;
  shown : map (shown l.turning.lists) l.entries
      ≡ turned_entries l.change.by l.touched l.change.op.now l.self (take l.instant-index l.instant-items);
}
