-- What an operation leaves of the pieces, and of the last files.
use Rattle.std.proofs.Common.{◌≡◌, ◌++◌, List, ap, ap₂, sym, subst, ◌∙◌}
use Rattle.std.specs.Prelude.{filter, All, IfOk}
use Rattle.fm_model.specs.declared.loaded.Loaded.{Loaded}
use Rattle.fm_model.specs.Collection.{after_op}
use Rattle.fm_list.specs.Change.{gone, keeps, HasGone}
use Rattle.fm_edition.specs.Pieces.{joined}
use Rattle.fm_edition.proofs.PieceLemmas.{after-append, HasGone-last, HasGone-pieces, HasGone-some}
use Rattle.fm_edition.proofs.maps.roll.Roll.after.Goals as goal

pub kept_pieces-requires : goal.kept_pieces-requires
kept_pieces-requires c =
    let op = c.args.op.now in
    let went_is : c.args.went.now ≡ gone (joined c.self.inside.pieces ++ c.self.inside.last) op =
    c.requires ∙ ap (λ l. gone l op) (sym c.self.view_is) in
    let all = joined c.self.inside.pieces ++ c.self.inside.last in
    subst (All (HasGone c.args.went.now op)) (sym c.as_slice.ensures)
    (HasGone-pieces c.self.inside.pieces c.self.inside.last c.args.went.now op
    (HasGone-some all all c.args.went.now op went_is (λ file held. held)))

pub files_after-requires : goal.files_after-requires
files_after-requires c =
    let op = c.args.op.now in
    let went_is : c.args.went.now ≡ gone (joined c.self.inside.pieces ++ c.self.inside.last) op =
    c.requires ∙ ap (λ l. gone l op) (sym c.self.view_is) in
    let all = joined c.self.inside.pieces ++ c.self.inside.last in
    subst (HasGone c.args.went.now op) (sym c.as_slice-2.ensures)
    (HasGone-last c.self.inside.pieces c.self.inside.last c.args.went.now op
    (HasGone-some all all c.args.went.now op went_is (λ file held. held)))

pub returns : goal.returns
returns c =
    let op = c.args.op.now in
    let pieces : joined c.in_ok-pieces.pieces ≡ filter (keeps op) (joined c.self.inside.pieces) =
    c.in_ok-pieces.ensures ∙ ap (λ l. filter (keeps op) (joined l)) c.as_slice.ensures in
    let last : c.in_ok-last.last ≡ after_op c.self.inside.last op = c.in_ok-last.ensures
    ∙ ap (λ l. after_op l op) c.as_slice-2.ensures in
    let all : joined c.in_ok-pieces.pieces ++ c.in_ok-last.last ≡ after_op c.args.self.now op =
    ap₂ (λ (a b : List Loaded). a ++ b) pieces last
    ∙ after-append (joined c.self.inside.pieces) c.self.inside.last op ∙ ap (λ l. after_op l op) c.self.view_is in
    subst (λ l. IfOk c.rolled.result (λ next. next ≡ l)) all c.rolled.ensures
