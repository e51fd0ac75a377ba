-- One more piece, and the last files.
use Rattle.std.proofs.Common.{◌≡◌, ◌+◌, List, length, take, ap, refl, sym, arith, ◌∙◌}
use Rattle.std.proofs.lemmas.List.{length-append, take_all}
use Rattle.fm_model.specs.declared.loaded.Loaded.{Loaded}
use Rattle.fm_edition.specs.Pieces.{joined}
use Rattle.fm_edition.proofs.PieceLemmas.{joined-more}
use Rattle.fm_edition.proofs.maps.files.Files.up_to_two.Goals as goal

pub loop-piece-init : goal.loop-piece-init
loop-piece-init c = refl

pub up_to_two-count-requires : goal.up_to_two-count-requires
up_to_two-count-requires c = omega (arith, c.loop-piece.invariant)

pub loop-piece-preserved : goal.loop-piece-preserved
loop-piece-preserved c =
    let pieces = c.self.inside.pieces.now in
    let i = c.loop-piece.piece-index in
    let piece = c.piece-item.result in
    let own : length c.as_slice.result.now ≡ length piece = ap (λ (l : List Loaded). length l)
    (c.as_slice.ensures ∙ c.get.ensures) in
    let more : length (joined (take (i + 1) pieces)) ≡ length (joined (take i pieces)) + length piece =
    ap (λ (l : List Loaded). length l) (joined-more pieces i piece c.loop-piece-test.true)
    ∙ length-append (joined (take i pieces)) _ ∙ ap (λ (l : List Loaded). length (joined (take i pieces)) + length l)
    (sym c.piece-item.is) in
    omega (arith, more, own, c.up_to_two-count.ensures, c.loop-piece.invariant)

pub up_to_two-requires : goal.up_to_two-requires
up_to_two-requires c = omega (arith, c.loop-piece.invariant)

pub returns : goal.returns
returns c =
    let pieces = c.self.inside.pieces.now in
    let last = c.self.inside.last.now in
    let all : length (joined (take c.loop-piece.piece-index pieces)) ≡ length (joined pieces) =
    ap (λ l. length (joined l)) (take_all c.loop-piece.piece-index pieces c.loop-piece-test.false) in
    let whole : length c.args.self.now ≡ length (joined pieces) + length last =
    ap (λ (l : List Loaded). length l) (sym c.self.view_is) ∙ length-append (joined pieces) last in
    omega (arith, all, whole, c.up_to_two.ensures, c.loop-piece.invariant)
