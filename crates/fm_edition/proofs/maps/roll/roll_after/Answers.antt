-- What an operation leaves of the pieces, and of the last files.
use Rattle.std.proofs.Common.{◌≡◌, ◌++◌, List, ap, ap₂, append_assoc, subst, sym, ◌∙◌}
use Rattle.std.specs.Prelude.{filter, IfOk}
use Rattle.std.proofs.lemmas.List.Elements.{filter-append}
use Rattle.fm_model.specs.declared.loaded.Loaded.{Loaded}
use Rattle.fm_list.specs.Change.{keeps, HasGone}
use Rattle.fm_edition.specs.Pieces.{joined}
use Rattle.fm_edition.proofs.PieceLemmas.{HasGone-last, HasGone-pieces}
use Rattle.fm_edition.proofs.maps.roll.roll_after.Goals as goal

pub kept_pieces-requires : goal.kept_pieces-requires
kept_pieces-requires c = HasGone-pieces c.files.inside.pieces.now c.files.inside.last.now c.args.change.now.went.now
    c.args.change.now.op.now (subst (HasGone c.args.change.now.went.now c.args.change.now.op.now)
    (sym c.files.view_is) c.requires)

pub part_after-requires : goal.part_after-requires
part_after-requires c = HasGone-last c.files.inside.pieces.now c.files.inside.last.now
    c.args.change.now.went.now c.args.change.now.op.now
    (subst (HasGone c.args.change.now.went.now c.args.change.now.op.now) (sym c.files.view_is) c.requires)

pub returns : goal.returns
returns c =
    let op = c.args.change.now.op.now in
    let pieces = c.files.inside.pieces.now in
    let last = c.files.inside.last.now in
    let more = c.args.added.now in
    let all : joined c.in_ok-pieces.pieces ++ c.in_ok-last.last ≡ filter (keeps op) c.args.files.now ++ more =
    ap₂ (λ (x y : List Loaded). x ++ y) c.in_ok-pieces.ensures c.in_ok-last.ensures
    ∙ sym (append_assoc (filter (keeps op) (joined pieces)) (filter (keeps op) last) more)
    ∙ ap (λ (l : List Loaded). l ++ more) (sym (filter-append (keeps op) (joined pieces) last))
    ∙ ap (λ (l : List Loaded). filter (keeps op) l ++ more) c.files.view_is in
    subst (λ l. IfOk c.rolled.result (λ next. next ≡ l)) all c.rolled.ensures
