-- A piece that loses no file is shared.
use Rattle.std.proofs.Common.{◌≡◌, ◌++◌, ap, sym, subst, ◌∙◌}
use Rattle.std.specs.Prelude.{filter}
use Rattle.fm_list.specs.Change.{keeps, HasGone}
use Rattle.fm_edition.specs.Pieces.{joined}
use Rattle.fm_edition.proofs.PieceLemmas.{joined-push}
use Rattle.fm_edition.proofs.maps.roll.push_kept.Goals as goal

pub may_lose-requires : goal.may_lose-requires
may_lose-requires c = subst (HasGone c.args.went.now c.args.op.now) (sym (c.as_slice-files.ensures ∙ c.get.ensures))
    c.requires

pub kept-requires : goal.kept-requires
kept-requires c = subst (HasGone c.args.went.now c.args.op.now) (sym (c.as_slice-files.ensures ∙ c.get.ensures))
    c.requires

pub returns-then-may_lose : goal.returns-then-may_lose
returns-then-may_lose c =
    let is : c.in_ok-kept.field-0 ≡ filter (keeps c.args.op.now) c.args.piece.now = c.in_ok-kept.ensures
    ∙ ap (filter (keeps c.args.op.now)) (c.as_slice-files.ensures ∙ c.get.ensures) in
    rw (← is) c.push_piece.ensures

pub returns : goal.returns
returns c =
    let piece_is = c.as_slice-files.ensures ∙ c.get.ensures in
    let left : filter (keeps c.args.op.now) c.args.piece.now ≡ c.args.piece.now =
    subst (λ l. filter (keeps c.args.op.now) l ≡ l) piece_is (c.may_lose.ensures c.if-may_lose.false) in
    ap joined c.in_ok-push.ensures.ok ∙ joined-push c.args.pieces.now c.in_ok-clone.field-0
    ∙ ap (λ l. joined c.args.pieces.now ++ l) (c.in_ok-clone.ensures.cases ∙ sym left)
